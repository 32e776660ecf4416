-- What the steps do to the chain of each key, and what is taken next, as laws.
use Rattle.std.specs.Prelude.{true, not, ◌≡◌, if◌then◌else◌, List, [], ◌∷◌, ◌++◌, map, filter, Option, Some, None}
use Rattle.std.specs.Option.{option_to_list}
use Rattle.farm_history.specs.declared.keys.Key.{Key}
use Rattle.farm_history.specs.declared.queues.Conn.{Conn}
use Rattle.farm_history.specs.declared.queues.Outcome.{Outcome}
use Rattle.farm_history.specs.declared.queues.Queue.{Queue}
use Rattle.farm_history.specs.declared.queues.Reply.{Reply}
use Rattle.farm_history.specs.declared.queues.Waiter.{Waiter}
use Rattle.farm_history.specs.Plans.{Waits, same_key, same_conn, next}
use Rattle.farm_history.specs.Seen.{in_queue}
use Rattle.render_queues.specs.OneQueue.{Lines}
use Rattle.render_queues.specs.Tables.{Tables, AreSound, line_of, chain_of, after_place, after_join, after_lift, standing, is_liftable, takes_lifted, next_of, after_take, after_end, after_leave}

-- the reply to a waiter
abbrev pub reply_from : Outcome → Waiter → Reply
reply_from outcome w = record { conn = w.conn; ask = w.ask; outcome = outcome }

-- The chain of each key:
pub record LawChains : Type 0 where
  -- a key that stands nowhere has none
  pub new : (t : Tables) (k : Key) → AreSound t → standing t k ≡ None → chain_of t k ≡ []
  -- a key keeps its chain where it is placed, lifted or taken
  pub placed_is : (t : Tables) (queue : Queue) (key k : Key)
      → chain_of (after_place t queue key) k ≡ chain_of t k
  pub lifted_is : (t : Tables) (queue : Queue) (key k : Key)
      → chain_of (after_lift t queue key) k ≡ chain_of t k
  pub taken_is : (t : Tables) (w : Option Waits) (k : Key)
      → chain_of (after_take t w) k ≡ chain_of t k
  -- a waiter goes last in the chain that it joins
  pub joined_is : (t : Tables) (key : Key) (w : Waiter) (k : Key) → chain_of
      (after_join t key (Some w)) k ≡ chain_of t k ++ (if same_key key k then w ∷ [] else [])
  -- a chain that has ended is gone, and its waiters have replies in its order
  pub ended_is : (t : Tables) (key : Key) (outcome : Outcome) (k : Key)
      → chain_of (after_end t key outcome) k ≡ (if same_key key k then [] else chain_of t k)
  pub replies_are : (t : Tables) (key : Key) (outcome : Outcome)
      → (after_end t key outcome).ended ≡ t.ended ++ map (reply_from outcome) (chain_of t key)
  -- a connection that leaves is in no chain
  pub left_is : (t : Tables) (conn : Conn) (k : Key)
      → chain_of (after_leave t conn) k ≡ filter (λ w. not (same_conn w.conn conn)) (chain_of t k)

-- where each queue has the keys that wait in it, in order, what is taken next is what is next among
-- all that wait
abbrev pub LawNext : Type 0
LawNext = (ls : Lines) (ws : List Waits) → ((queue : Queue)
    → (line_of ls queue).keys ≡ map (λ w. w.key) (in_queue queue ws)) → next_of ls ≡ next ws

-- a metatile that waits or is taken, with its chain
pub record Item : Type 0 where
  pub key : Key
  pub chain : List Waiter

-- the item of a key
abbrev pub item_of : Tables → Key → Item
item_of t key = record { key = key; chain = chain_of t key }

-- what waits in a queue, in order, each with its chain
abbrev pub items_of : Tables → Queue → List Item
items_of t queue = map (item_of t) (line_of t.lines queue).keys

-- what is taken, in order, each with its chain
abbrev pub taken_items : Tables → List Item
taken_items t = map (item_of t) t.taken

-- an item without the waiters of a connection
abbrev pub without_conn : Conn → Item → Item
without_conn conn i = record i { chain = filter (λ w. not (same_conn w.conn conn)) i.chain }

-- Each step as it is seen in the items:
pub record LawItems : Type 0 where
  -- a metatile that stood nowhere goes last in its queue, with the waiter, if there is one, as its
  -- chain
  pub placed_last : (t : Tables) (queue : Queue) (key : Key) (w : Option Waiter) → AreSound t
      → standing t key ≡ None →
      items_of (after_join (after_place t queue key) key w) queue
      ≡ items_of t queue ++ record { key = key; chain = option_to_list w } ∷ []
  -- one that is lifted goes last in the other queue, with its chain and then the waiter
  pub lifted_last : (t : Tables) (queue : Queue) (key : Key) (w : Waiter) → AreSound t
      → is_liftable (standing t key) ≡ true → takes_lifted queue ≡ true →
      items_of (after_join (after_lift t queue key) key (Some w)) queue
      ≡ items_of t queue ++ record { key = key; chain = chain_of t key ++ w ∷ [] } ∷ []
  -- one that is taken leaves its queue and goes last among those that are taken, with its chain
  pub taken_last : (t : Tables) (w : Waits)
      → taken_items (after_take t (Some w)) ≡ taken_items t ++ item_of t w.key ∷ []
  pub taken_out : (t : Tables) (w : Waits) → items_of (after_take t (Some w)) w.queue
      ≡ filter (λ i. not (same_key i.key w.key)) (items_of t w.queue)
  -- one that has ended is gone, and the others that are taken keep their chains
  pub ended_out : (t : Tables) (key : Key) (outcome : Outcome) → taken_items
      (after_end t key outcome) ≡ filter (λ i. not (same_key i.key key)) (taken_items t)
  -- where a connection leaves, each item stays, and its chain is without the connection
  pub left_there : (t : Tables) (conn : Conn) (queue : Queue)
      → items_of (after_leave t conn) queue ≡ map (without_conn conn) (items_of t queue)
  pub left_taken : (t : Tables) (conn : Conn)
      → taken_items (after_leave t conn) ≡ map (without_conn conn) (taken_items t)
