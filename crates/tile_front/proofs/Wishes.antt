-- Wishes: what bytes ask stays so, and what one act of a connection means for its moves.
use Rattle.std.proofs.Common.{◌≡◌, ℕ, ◌<◌, List, [], ◌∷◌, ◌++◌, length, Bool, true, false, eqb, eq-eqb, cond, Option, Some, None, refl, sym, ap, subst, arith}
use Rattle.std.proofs.lemmas.List.{take_all, length-take}
use Rattle.farm_base.specs.Limits.{most_head_bytes}
use Rattle.tile_front.specs.Heads.{bytes_read, IsOpen, IsNothing, IsPart, IsFull}
use Rattle.tile_front.proofs.HeadTexts.{bad_stays, whole_stays}
use Rattle.tile_front.specs.declared.targets.Kind.TheVariants as kind
use Rattle.farm_history.specs.declared.asks.Spot.{Spot}
use Rattle.front_loop.specs.Rules.{Move, Does, Gets, wants_of}
use Rattle.tile_front.specs.declared.acts.HttpAsk.{HttpAsk}
use Rattle.tile_front.specs.declared.acts.HttpAsk.TheVariants as http_ask
use Rattle.tile_front.specs.declared.acts.Act.{Act}
use Rattle.tile_front.specs.declared.conn_states.Stage.{Stage}
use Rattle.tile_front.specs.declared.conn_states.Stage.TheVariants.{Reading, Waiting, Answered}
use Rattle.tile_front.specs.ConnStates.{is_reading, is_answered, waits_in, spot_at}
use Rattle.std.specs.Prelude.{◌==◌}
use Rattle.std.specs.Option.{is_some, option_eq}
use Rattle.tile_front.specs.Tiles.{BytesAsk, http_asks, tile_rules}
use Rattle.tile_front.specs.inner.Steps.{same_spot, want}

-- no test is passed and failed
pub no_both : (b : Bool) → b ≡ true → b ≡ false → ⊥
no_both b e f = cc

-- what was asked hangs on no map
pub asked_is : (front : ℕ) (maps : List ℕ → Option ℕ) (ms : List (Move Act)) → wants_of (tile_rules front maps) ms ≡ http_asks ms
asked_is front maps [] = refl
asked_is front maps (Does a ∷ ms) = ap (λ (ws : List HttpAsk). ws ++ want a ∷ []) (asked_is front maps ms)
asked_is front maps (Gets r behind ∷ ms) = asked_is front maps ms

-- what bytes ask they ask whatever follows
pub asks_stay : (maps : List ℕ → Option ℕ) (given more : List ℕ) (w : HttpAsk) → BytesAsk maps (bytes_read given) w → BytesAsk maps (bytes_read (given ++ more)) w
asks_stay maps given more http_ask.Bad is = bad_stays given more is
asks_stay maps given more http_ask.NotGet is = (is.0, whole_stays given more is.0 is.1, is.2)
asks_stay maps given more http_ask.NoTarget is = (is.0, whole_stays given more is.0 is.1, is.2, is.3)
asks_stay maps given more (http_ask.Tile s) is = (is.0, (is.1.0, whole_stays given more is.1.0 is.1.1, is.1.2, is.1.3), is.2)
asks_stay maps given more (http_ask.Status s) is = (is.0, (is.1.0, whole_stays given more is.1.0 is.1.1, is.1.2, is.1.3), is.2)
asks_stay maps given more (http_ask.Dirty s) is = (is.0, (is.1.0, whole_stays given more is.1.0 is.1.1, is.1.2, is.1.3), is.2)

-- while more is waited for, all bytes are read
open_short : (bytes : List ℕ) → IsOpen bytes → length bytes < most_head_bytes
open_short bytes (IsNothing e) = subst (λ (b : List ℕ). length b < most_head_bytes) (sym e) (omega arith)
open_short bytes (IsPart l none may) = l
open_short bytes (IsFull l over more e) = l

pub open_all : (given : List ℕ) → IsOpen (bytes_read given) → (length given < most_head_bytes) × (bytes_read given ≡ given)
open_all given is =
    let l = open_short (bytes_read given) is in
    let n : length given < most_head_bytes = let e = length-take most_head_bytes given in omega (arith, e, l) in
    (n, take_all most_head_bytes given (omega arith))

-- a spot is the same as itself
same_number : (n : ℕ) → eqb n n ≡ true
same_number n = eq-eqb n n refl

same_place : (m : Option ℕ) → option_eq (λ a b. a == b) m m ≡ true
same_place None = refl
same_place (Some n) = same_number n

pub same_self : (s : Spot) → same_spot s s ≡ true
same_self s = rw (same_place s.map, same_number s.z, same_number s.x, same_number s.y) refl

-- ---- small facts of tests

-- ---- stages

pub reading_unanswered : (s : Stage) → is_reading s ≡ true → is_answered s ≡ false
reading_unanswered Reading e = refl
reading_unanswered (Waiting n s) e = refl
reading_unanswered Answered e = cc

-- an ask that waits, and a reply to another one or to that one
pub unless_other : (n : ℕ) (o : Option (ℕ × Spot)) → spot_at n o ≡ None → cond (is_some (spot_at n o)) None o ≡ o
unless_other n o e = ap (λ (s : Option Spot). cond (is_some s) None o) e

pub unless_that : (n : ℕ) (s : Spot) (o : Option (ℕ × Spot)) → spot_at n o ≡ Some s → cond (is_some (spot_at n o)) None o ≡ None
unless_that n s o e = ap (λ (s : Option Spot). cond (is_some s) None o) e

-- a stage in which an ask waits reads no more
pub waiting_read : (n : ℕ) (s : Spot) (stage : Stage) → spot_at n (waits_in stage) ≡ Some s → is_reading stage ≡ false
waiting_read n s Reading e = cc
waiting_read n s (Waiting m t) e = refl
waiting_read n s Answered e = refl
