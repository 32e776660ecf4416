-- The chain of each key after each step.
use Rattle.std.proofs.Common.{◌≡◌, Bool, true, false, not, ◌&&◌, cond, List, [], ◌∷◌, ◌++◌, map, filter, Option, Some, None, refl, sym, ap, subst, ◌∙◌, arith}
use Rattle.std.proofs.lemmas.List.Sums.{length-filter}
use Rattle.std.proofs.lemmas.List.{nil_from_length}
use Rattle.farm_history.specs.declared.keys.Key.{Key}
use Rattle.farm_history.specs.declared.queues.Conn.{Conn}
use Rattle.farm_history.specs.declared.queues.Outcome.{Outcome}
use Rattle.farm_history.specs.declared.queues.Waiter.{Waiter}
use Rattle.farm_history.specs.Plans.{Waits, same_key, same_conn}
use Rattle.farm_history.proofs.Lists.{same_key-true, same_key-sym, each-all, map-filter, filter-append, filter-agree, filter-none, filter-filter}
use Rattle.farm_history.proofs.Ends.{filter_swap, map-map}
use Rattle.render_queues.specs.declared.asks.Asked.{Asked}
use Rattle.render_queues.specs.Tables.{Tables, AreSound, chain_of, after_join, standing, after_take, after_end, after_leave, waits_on, asked_by, reply_with}
use Rattle.render_queues.specs.Laws.{LawChains, reply_from}
use Rattle.render_queues.proofs.Counted.{stands_never}

-- a list of no length
map-append : {X Y : Type 0} (f : X → Y) (xs ys : List X) → map f (xs ++ ys) ≡ map f xs ++ map f ys
map-append f [] ys = refl
map-append f (x ∷ xs) ys = ap (λ zs. f x ∷ zs) (map-append f xs ys)

chain_new : (t : Tables) (k : Key) → AreSound t → standing t k ≡ None → chain_of t k ≡ []
chain_new t k sound none = ap (map (λ a. a.waiter)) (nil_from_length (filter (waits_on k) t.asks) (length-filter (waits_on k) t.asks ∙ sound.awaited k (stands_never t k none)))

pub chain_joined : (t : Tables) (key : Key) (w : Waiter) (k : Key) → chain_of (after_join t key (Some w)) k ≡ chain_of t k ++ cond (same_key key k) (w ∷ []) []
chain_joined t key w k =
    ap (map (λ a. a.waiter)) (filter-append (waits_on k) t.asks (a ∷ []))
    ∙ (map-append (λ x. x.waiter) (filter (waits_on k) t.asks) (cond (same_key key k) (a ∷ []) []) ∙ ap (λ ws. chain_of t k ++ ws) (last (same_key key k)))
  where
    a : Asked
    a = record { key = key; waiter = w }

    last : (b : Bool) → map (λ x. x.waiter) (cond b (a ∷ []) []) ≡ cond b (w ∷ []) []
    last true = refl
    last false = refl

-- an ask for another key than one does not wait for that one
waits_other : (key k : Key) (a : Asked) → same_key key k ≡ false → (not (waits_on key a) && waits_on k a) ≡ waits_on k a
waits_other key k a other = go (waits_on k a) refl
  where
    go : (b : Bool) → waits_on k a ≡ b → (not (waits_on key a) && waits_on k a) ≡ waits_on k a
    go true is =
        let apart : waits_on key a ≡ false = subst (λ j. same_key j key ≡ false) (sym (same_key-true a.key k is)) (same_key-sym k key ∙ other) in
        rw apart refl
    go false is = grind arith

waits_same : (key k : Key) (a : Asked) → same_key key k ≡ true → (not (waits_on key a) && waits_on k a) ≡ false
waits_same key k a same = subst (λ j. (not (waits_on key a) && waits_on j a) ≡ false) (same_key-true key k same) (grind arith)

pub chain_ended : (t : Tables) (key : Key) (outcome : Outcome) (k : Key) → chain_of (after_end t key outcome) k ≡ cond (same_key key k) [] (chain_of t k)
chain_ended t key outcome k = ap (map (λ a. a.waiter)) (filter-filter (waits_on k) (λ a. not (waits_on key a)) t.asks) ∙ go (same_key key k) refl
  where
    go : (b : Bool) → same_key key k ≡ b → map (λ a. a.waiter) (filter (λ a. not (waits_on key a) && waits_on k a) t.asks) ≡ cond b [] (chain_of t k)
    go true is = ap (map (λ a. a.waiter)) (filter-none (λ a. not (waits_on key a) && waits_on k a) t.asks (each-all _ t.asks (λ a. waits_same key k a is)))
    go false is = ap (map (λ a. a.waiter)) (filter-agree (λ a. not (waits_on key a) && waits_on k a) (waits_on k) t.asks (each-all _ t.asks (λ a. waits_other key k a is)))

pub replies_of_chain : (t : Tables) (key : Key) (outcome : Outcome) → map (reply_with outcome) (filter (waits_on key) t.asks) ≡ map (reply_from outcome) (chain_of t key)
replies_of_chain t key outcome = sym (map-map (λ a. a.waiter) (reply_from outcome) (filter (waits_on key) t.asks))

pub chain_left : (t : Tables) (conn : Conn) (k : Key) → chain_of (after_leave t conn) k ≡ filter (λ w. not (same_conn w.conn conn)) (chain_of t k)
chain_left t conn k =
    ap (map (λ a. a.waiter)) (filter_swap (waits_on k) (λ a. not (asked_by conn a)) t.asks)
    ∙ map-filter (λ a. a.waiter) (λ a. not (asked_by conn a)) (λ w. not (same_conn w.conn conn)) (filter (waits_on k) t.asks) (λ a. refl)

chain_taken : (t : Tables) (w : Option Waits) (k : Key) → chain_of (after_take t w) k ≡ chain_of t k
chain_taken t None k = refl
chain_taken t (Some w) k = refl

pub chains : LawChains
chains = record {
  new = chain_new;
  placed_is = λ t queue key k. refl;
  lifted_is = λ t queue key k. refl;
  taken_is = chain_taken;
  joined_is = chain_joined;
  ended_is = chain_ended;
  replies_are = λ t key outcome. ap (λ rs. t.ended ++ rs) (replies_of_chain t key outcome);
  left_is = chain_left;
}
