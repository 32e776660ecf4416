-- What an ask is answered can be done.
use Rattle.std.proofs.Common.{◌≡◌, ℕ, ◌<◌, Bool, true, false, ◌&&◌, ◌||◌, cond, Option, Some, None, refl, sym, ap, ◌∙◌, arith}
use Rattle.std.specs.Prelude.{IsSome, nat_le}
use Rattle.std.specs.List.{list_any}
use Rattle.std.proofs.lemmas.Bool.Decides.{nat_tests}
use Rattle.farm_history.specs.declared.keys.Key.{Key}
use Rattle.farm_history.specs.declared.queues.Conn.{Conn}
use Rattle.farm_history.specs.declared.queues.Queue.{Queue}
use Rattle.farm_history.specs.declared.asks.Cmd.{Cmd}
use Rattle.farm_history.specs.declared.asks.Why.TheVariants.{Backlog, Overtaken, InDirty, Deferred, Dropped}
use Rattle.farm_history.specs.declared.asks.AskAnswer.{AskAnswer}
use Rattle.farm_history.specs.declared.asks.AskAnswer.TheVariants.{Queued, Joined, Lifted, NotDone}
use Rattle.farm_history.specs.Plans.{is_in, is_lifting, own_queue, same_key}
use Rattle.farm_history.specs.inner.Asks.{answer_of_waiting}
use Rattle.farm_history.specs.Seen.{Taken as Flying, is_clean_mark}
use Rattle.render_queues.specs.declared.standing.Standing.{Standing}
use Rattle.render_queues.specs.declared.standing.Standing.TheVariants.{Waits as InLine, Taken}
use Rattle.render_queues.specs.OneQueue.{is_below}
use Rattle.render_queues.specs.Tables.{Tables, line_of, open_of, open_count, standing, is_liftable, takes_lifted, AreSound}
use Rattle.expiry_lists.specs.Marks.{mark_of}
use Rattle.farm_refinement.specs.Seen.{FarmSeen}
use Rattle.farm_refinement.specs.inner.Events.{waits_at}
use Rattle.farm_core.specs.inner.Asks.{answer_at, Needs, StandsBy}
use Rattle.farm_core.proofs.Standing.{stands_by}

by_bool : (t : Tables) (own : Queue) (k : Key) (b : Bool) (x y : AskAnswer) → (b ≡ true → Needs t own k x) → (b ≡ false → Needs t own k y) → Needs t own k (cond b x y)
by_bool t own k true x y f g = f refl
by_bool t own k false x y f g = g refl

flying_stands : (o : Option Standing) (f w d b : Bool) → StandsBy o f w d b → f ≡ true → IsSome o
flying_stands None f w d b s is = let never : false ≡ true = sym s.0 ∙ is in cc
flying_stands (Some Taken) f w d b s is = refl
flying_stands (Some (InLine q)) f w d b s is = refl

waiting_stands : (o : Option Standing) (f w d b : Bool) → StandsBy o f w d b → w ≡ true → IsSome o
waiting_stands None f w d b s is = let never : false ≡ true = sym s.1 ∙ is in cc
waiting_stands (Some Taken) f w d b s is = refl
waiting_stands (Some (InLine q)) f w d b s is = refl

nowhere : (o : Option Standing) (f w d b : Bool) → StandsBy o f w d b → f ≡ false → w ≡ false → o ≡ None
nowhere None f w d b s n m = refl
nowhere (Some Taken) f w d b s n m = let never : true ≡ false = sym s.0 ∙ n in cc
nowhere (Some (InLine q)) f w d b s n m = let never : true ≡ false = sym s.1 ∙ m in cc

liftable : (o : Option Standing) (f w d b : Bool) → StandsBy o f w d b → (d || b) ≡ true → is_liftable o ≡ true
liftable None f w d b s is = let never : false ≡ true = sym (ap (λ x. x || b) s.2 ∙ s.3) ∙ is in cc
liftable (Some Taken) f w d b s is = let never : false ≡ true = sym (ap (λ x. x || b) s.2 ∙ s.3) ∙ is in cc
liftable (Some (InLine Queue.Prio)) f w d b s is = let never : false ≡ true = sym (ap (λ x. x || b) s.2 ∙ s.3) ∙ is in cc
liftable (Some (InLine Queue.Request)) f w d b s is = let never : false ≡ true = sym (ap (λ x. x || b) s.2 ∙ s.3) ∙ is in cc
liftable (Some (InLine Queue.Low)) f w d b s is = let never : false ≡ true = sym (ap (λ x. x || b) s.2 ∙ s.3) ∙ is in cc
liftable (Some (InLine Queue.Dirty)) f w d b s is = refl
liftable (Some (InLine Queue.Bulk)) f w d b s is = refl

takes : (command : Cmd) → is_lifting command ≡ true → takes_lifted (own_queue command) ≡ true
takes Cmd.Prio h = refl
takes Cmd.Render h = refl
takes Cmd.Low h = refl
takes Cmd.Dirty h = let never : false ≡ true = h in cc
takes Cmd.Bulk h = let never : false ≡ true = h in cc

few : (own all : ℕ) → (nat_le 64 own || nat_le 4096 all) ≡ false → all < 4096
few own all h = grind (arith, nat_tests)

pub answer_needs : {D : Type 0} (farm : FarmSeen D) (conn : Conn) (command : Cmd) (k : Key) → AreSound farm.queues → Needs farm.queues (own_queue command) k (answer_at farm conn command k)
unfolding answer_of_waiting
answer_needs farm conn command k sound =
    let t = farm.queues in
    let own = own_queue command in
    let s = stands_by t k sound in
    by_bool t own k (is_clean_mark (mark_of farm.marks.shown k)) AskAnswer.Done _ (λ h. tt) (λ unclean.
    by_bool t own k (nat_le 64 (open_of t conn) || nat_le 4096 (open_count t)) (NotDone Backlog) _ (λ h. tt) (λ room.
    by_bool t own k (list_any (λ (x : Flying). same_key x.key k && x.touched) farm.taken) (NotDone Overtaken) _ (λ h. tt) (λ on_time.
    by_bool t own k (is_in k t.taken) (Joined farm.counts.numbers) _ (λ flies. (flying_stands (standing t k) _ _ _ _ s flies, few (open_of t conn) (open_count t) room)) (λ rests.
    by_bool t own k ((is_lifting command && (is_in k t.lines.dirty.keys || is_in k t.lines.bulk.keys)) && is_below (line_of t.lines own)) (Lifted farm.counts.numbers) _
    (λ lifts. (liftable (standing t k) _ _ _ _ s (grind arith), takes command (grind arith), few (open_of t conn) (open_count t) room, grind arith)) (λ stays.
    by_bool t own k (is_in k t.lines.dirty.keys) (NotDone InDirty) _ (λ h. tt) (λ h.
    by_bool t own k (waits_at t k) (Joined farm.counts.numbers) _ (λ waits. (waiting_stands (standing t k) _ _ _ _ s waits, few (open_of t conn) (open_count t) room)) (λ absent.
    by_bool t own k (is_below (line_of t.lines own)) (Queued farm.counts.numbers) _ (λ below. (nowhere (standing t k) _ _ _ _ s rests absent, few (open_of t conn) (open_count t) room, below)) (λ full.
    by_bool t own k (is_below t.lines.dirty) (NotDone Deferred) (NotDone Dropped) (λ below. (nowhere (standing t k) _ _ _ _ s rests absent, below)) (λ h. tt)))))))))
