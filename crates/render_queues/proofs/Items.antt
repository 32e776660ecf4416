-- The items of the queues and those that are taken, each with its chain, after each step.
use Rattle.std.proofs.Common.{◌≡◌, ◌+◌, ◌≤◌, Bool, true, false, not, cond, List, [], ◌∷◌, ◌++◌, map, filter, Option, Some, None, refl, sym, ap, ap₂, ◌∙◌, arith}
use Rattle.std.specs.Option.{option_to_list}
use Rattle.std.proofs.lemmas.Bool.{false≢true}
use Rattle.farm_history.specs.declared.keys.Key.{Key}
use Rattle.farm_history.specs.declared.queues.Conn.{Conn}
use Rattle.farm_history.specs.declared.queues.Outcome.{Outcome}
use Rattle.farm_history.specs.declared.queues.Queue.{Queue}
use Rattle.farm_history.specs.declared.queues.Waiter.{Waiter}
use Rattle.farm_history.specs.Lists.{Each}
use Rattle.farm_history.specs.Plans.{Waits, same_key, is_in}
use Rattle.farm_history.proofs.Lists.{same_key-self, same_key-sym, any-filter_off, map-filter, none-each}
use Rattle.farm_history.proofs.Ends.{map-map}
use Rattle.render_queues.specs.OneQueue.{Line, Lines, without, line_without}
use Rattle.render_queues.specs.Tables.{Tables, AreSound, line_of, with_line, with_last, lifted_out, chain_of, after_place, after_join, after_lift, standing, is_liftable, takes_lifted, after_take, after_end, after_leave, how_often, stands_often}
use Rattle.render_queues.specs.Laws.{Item, item_of, items_of, taken_items, without_conn, LawItems}
use Rattle.render_queues.proofs.Counted.{there_once, often_more, stands_never, liftable_waits}
use Rattle.render_queues.proofs.Sound.{same_line}
use Rattle.render_queues.proofs.Chains.{chains, chain_joined, chain_ended, chain_left}

map-append : {X Y : Type 0} (f : X → Y) (xs ys : List X) → map f (xs ++ ys) ≡ map f xs ++ map f ys
map-append f [] ys = refl
map-append f (x ∷ xs) ys = ap (λ zs. f x ∷ zs) (map-append f xs ys)

append_none : {X : Type 0} (xs : List X) → xs ++ [] ≡ xs
append_none [] = refl
append_none (x ∷ xs) = ap (λ ys. x ∷ ys) (append_none xs)

-- functions that agree at each
map-same : {X Y : Type 0} (f g : X → Y) (xs : List X) → ((x : X) → f x ≡ g x) → map f xs ≡ map g xs
map-same f g [] same = refl
map-same f g (x ∷ xs) same = ap₂ (λ y ys. y ∷ ys) (same x) (map-same f g xs same)

-- a queue has the line that was put in its place
own_line : (ls : Lines) (queue : Queue) (l : Line) → line_of (with_line ls queue l) queue ≡ l
own_line ls Queue.Prio l = refl
own_line ls Queue.Request l = refl
own_line ls Queue.Low l = refl
own_line ls Queue.Dirty l = refl
own_line ls Queue.Bulk l = refl

-- what is never there is not there
not_there : (k : Key) (ks : List Key) → how_often k ks ≡ 0 → is_in k ks ≡ false
not_there k ks none = go (is_in k ks) refl
  where
    go : (b : Bool) → is_in k ks ≡ b → is_in k ks ≡ false
    go true is = let once = there_once k ks is in absurd (omega arith)
    go false is = is

-- items of keys whose chains are the same
agree : (s t : Tables) (key : Key) → ((k : Key) → same_key key k ≡ false → chain_of s k ≡ chain_of t k) → (ks : List Key) → Each (λ x. same_key x key ≡ false) ks → map (item_of s) ks ≡ map (item_of t) ks
agree s t key same [] others = refl
agree s t key same (x ∷ xs) others =
    ap₂ (λ (c : List Waiter) (is : List Item). let i : Item = record { key = x; chain = c } in i ∷ is) (same x (same_key-sym key x ∙ others.0)) (agree s t key same xs others.1)

-- one more item, last
one_last : (s t : Tables) (key : Key) (keys ks : List Key) (chain : List Waiter) → keys ≡ ks ++ key ∷ [] → ((k : Key) → same_key key k ≡ false → chain_of s k ≡ chain_of t k) → is_in key ks ≡ false → chain_of s key ≡ chain →
    map (item_of s) keys ≡ map (item_of t) ks ++ record { key = key; chain = chain } ∷ []
one_last s t key keys ks chain are same absent own =
    ap (map (item_of s)) are ∙ (map-append (item_of s) ks (key ∷ [])
    ∙ ap₂ (λ (xs : List Item) (c : List Waiter). let i : Item = record { key = key; chain = c } in xs ++ i ∷ []) (agree s t key same ks (none-each (λ x. same_key x key) ks absent)) own)

-- a waiter changes no other chain
join_other : (t : Tables) (key : Key) (w : Option Waiter) (k : Key) → same_key key k ≡ false → chain_of (after_join t key w) k ≡ chain_of t k
join_other t key None k other = refl
join_other t key (Some w) k other = chain_joined t key w k ∙ (ap (λ (b : Bool). chain_of t k ++ cond b (w ∷ []) []) other ∙ append_none (chain_of t k))

-- and goes last in its own
join_own : (t : Tables) (key : Key) (w : Waiter) → chain_of (after_join t key (Some w)) key ≡ chain_of t key ++ w ∷ []
join_own t key w = chain_joined t key w key ∙ ap (λ (b : Bool). chain_of t key ++ cond b (w ∷ []) []) (same_key-self key)

placed_last : (t : Tables) (queue : Queue) (key : Key) (w : Option Waiter) → AreSound t → standing t key ≡ None →
    items_of (after_join (after_place t queue key) key w) queue ≡ items_of t queue ++ record { key = key; chain = option_to_list w } ∷ []
placed_last t queue key w sound none =
    one_last (after_join (after_place t queue key) key w) t key (line_of (with_last t.lines queue key) queue).keys (line_of t.lines queue).keys (option_to_list w)
    (ap (λ (l : Line). l.keys) (own_line t.lines queue (record (line_of t.lines queue) { keys = (line_of t.lines queue).keys ++ key ∷ [] })))
    (λ k other. join_other (after_place t queue key) key w k other)
    (not_there key (line_of t.lines queue).keys (omega (arith, stands_never t key none, often_more key t.lines queue)))
    (own w)
  where
    own : (o : Option Waiter) → chain_of (after_join (after_place t queue key) key o) key ≡ option_to_list o
    own None = chains.new t key sound none
    own (Some v) = join_own (after_place t queue key) key v ∙ ap (λ (ws : List Waiter). ws ++ v ∷ []) (chains.new t key sound none)

lifted_last : (t : Tables) (queue : Queue) (key : Key) (w : Waiter) → AreSound t → is_liftable (standing t key) ≡ true → takes_lifted queue ≡ true →
    items_of (after_join (after_lift t queue key) key (Some w)) queue ≡ items_of t queue ++ record { key = key; chain = chain_of t key ++ w ∷ [] } ∷ []
lifted_last t queue key w sound liftable takes =
    one_last (after_join (after_lift t queue key) key (Some w)) t key (line_of (with_last (lifted_out t.lines key) queue key) queue).keys (line_of t.lines queue).keys (chain_of t key ++ w ∷ [])
    (ap (λ (l : Line). l.keys) (own_line (lifted_out t.lines key) queue (record (line_of (lifted_out t.lines key) queue) { keys = (line_of (lifted_out t.lines key) queue).keys ++ key ∷ [] }))
    ∙ ap (λ (l : Line). l.keys ++ key ∷ []) (same_line t.lines queue key takes))
    (λ k other. join_other (after_lift t queue key) key (Some w) k other)
    (not_there key (line_of t.lines queue).keys (omega (arith, liftable_waits t key liftable, sound.once key, elsewhere queue takes)))
    (join_own (after_lift t queue key) key w)
  where
    elsewhere : (q : Queue) → takes_lifted q ≡ true → how_often key (line_of t.lines q).keys + (how_often key t.lines.dirty.keys + how_often key t.lines.bulk.keys) ≤ stands_often key t
    elsewhere Queue.Prio h = omega arith
    elsewhere Queue.Request h = omega arith
    elsewhere Queue.Low h = omega arith
    elsewhere Queue.Dirty h = absurd (false≢true h)
    elsewhere Queue.Bulk h = absurd (false≢true h)

taken_out : (t : Tables) (w : Waits) → items_of (after_take t (Some w)) w.queue ≡ filter (λ i. not (same_key i.key w.key)) (items_of t w.queue)
taken_out t w =
    ap (λ (l : Line). map (item_of t) l.keys) (own_line t.lines w.queue (line_without (line_of t.lines w.queue) w.key))
    ∙ map-filter (item_of t) (λ k. not (same_key k w.key)) (λ i. not (same_key i.key w.key)) (line_of t.lines w.queue).keys (λ k. refl)

ended_out : (t : Tables) (key : Key) (outcome : Outcome) → taken_items (after_end t key outcome) ≡ filter (λ i. not (same_key i.key key)) (taken_items t)
ended_out t key outcome =
    agree (after_end t key outcome) t key (λ k other. chain_ended t key outcome k ∙ ap (λ (b : Bool). cond b [] (chain_of t k)) other) (without key t.taken) (none-each (λ k. same_key k key) (without key t.taken) (any-filter_off (λ k. same_key k key) (λ k. not (same_key k key)) t.taken (λ k e. ap not e)))
    ∙ map-filter (item_of t) (λ k. not (same_key k key)) (λ i. not (same_key i.key key)) t.taken (λ k. refl)

left_all : (t : Tables) (conn : Conn) (ks : List Key) → map (item_of (after_leave t conn)) ks ≡ map (without_conn conn) (map (item_of t) ks)
left_all t conn ks =
    map-same (item_of (after_leave t conn)) (λ k. without_conn conn (item_of t k)) ks (λ k. ap (λ (c : List Waiter). let i : Item = record { key = k; chain = c } in i) (chain_left t conn k))
    ∙ sym (map-map (item_of t) (without_conn conn) ks)

pub items : LawItems
items = record {
  placed_last = placed_last;
  lifted_last = lifted_last;
  taken_last = λ t w. map-append (item_of t) t.taken (w.key ∷ []);
  taken_out = taken_out;
  ended_out = ended_out;
  left_there = λ t conn queue. left_all t conn (line_of t.lines queue).keys;
  left_taken = λ t conn. left_all t conn t.taken;
}
