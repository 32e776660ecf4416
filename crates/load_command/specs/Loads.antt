-- What generated work does: the events of its steps on a farm, and the line that sums them up.
-- Histories are newest first.
use Rattle.std.specs.Prelude.{◌≡◌, ◌≢◌, ℕ, true, List, [], ◌∷◌, ◌++◌, length, map, codes, MatchBool}
use Rattle.std.specs.List.{sum_by}
use Rattle.std.specs.Fmt.{decimal}
use Rattle.farm_history.specs.declared.queues.Conn.{Conn}
use Rattle.farm_history.specs.declared.queues.Reply.{Reply}
use Rattle.farm_history.specs.declared.asks.Cmd.TheVariants.{Render}
use Rattle.farm_history.specs.declared.asks.AskAnswer.{AskAnswer}
use Rattle.farm_history.specs.declared.answers.ClaimAnswer.{ClaimAnswer}
use Rattle.farm_history.specs.declared.answers.ClaimAnswer.TheVariants.{Job}
use Rattle.farm_history.specs.declared.answers.Finished.{Finished}
use Rattle.farm_history.specs.declared.answers.Fetched.{Fetched}
use Rattle.farm_history.specs.declared.answers.Fetched.TheVariants.{Clean}
use Rattle.farm_history.specs.declared.answers.Collected.{Collected}
use Rattle.farm_history.specs.Entries.{Entry, Ask, Claim, Finish, Expire, Fetch, Collect}
use Rattle.farm_history.specs.Plans.{spot_tile}
use Rattle.work_gen.specs.declared.stepping.Step.{Step}

-- ---- the events

-- all asks are of one connection of front 0
abbrev pub loader : Conn
loader = record { front = 0; number = 0 }

-- what was claimed is drawn and ended, if it is a job; memory was not wanting
abbrev pub EndsClaim : ClaimAnswer → List Entry → List Entry → Type 0
EndsClaim (Job ticket key version) before after = (answer : Finished) × (answer ≢ Finished.NoMemory)
    × (after ≡ Finish ticket true answer ∷ before)
EndsClaim answer before after = after ≡ before

-- the answer of a Collect gives no reply
abbrev pub GivesNone : Collected → Type 0
GivesNone (Collected.Reply reply) = ⊥
GivesNone answer = Unit {0}

-- A step: its tile is expired, if so marked, and asked for; what waits first is claimed, drawn and
-- ended; the replies are collected until there is none; and the tile is fetched.
pub record IsStep (s : Step) (before after : List Entry) : Type 0 where
  pub expired : List Entry
  pub expires : MatchBool s.expire
      ((count : ℕ) × (expired ≡ Expire (spot_tile s.spot) count ∷ before)) (expired ≡ before)
  pub asked : AskAnswer
  pub claimed : ClaimAnswer
  pub ended : List Entry
  pub ends : EndsClaim claimed (Claim 0 claimed ∷ Ask loader Render s.spot asked ∷ expired) ended
  pub replies : List Reply
  pub last : Collected
  pub is_last : GivesNone last
  pub fetched : Fetched
  pub has_memory : fetched ≢ Fetched.NoMemory
  pub after_is : after ≡ Fetch s.spot fetched ∷ Collect 0 last
      ∷ (map (λ reply. Collect 0 (Collected.Reply reply)) replies ++ ended)

-- steps one after another
abbrev pub IsLoad : List Step → List Entry → List Entry → Type 0
IsLoad [] before after = after ≡ before
IsLoad (s ∷ ss) before after =
    (middle : List Entry) × IsStep s before middle × IsLoad ss middle after

-- ---- the line

-- the tiles that were fetched clean
unfoldable pub clean_tiles : List Entry → List (List ℕ)
clean_tiles [] = []
clean_tiles (Fetch spot (Clean version bytes) ∷ g) = bytes ∷ clean_tiles g
clean_tiles (_ ∷ g) = clean_tiles g

-- the line of work with so many features: how many tiles were fetched clean, how many bytes they
-- have, and the sum of these bytes
unfoldable pub load_text : ℕ → List Entry → List ℕ
load_text n h =
    codes "features " ++ decimal n ++ codes " asks 32 clean " ++ decimal (length (clean_tiles h))
    ++ codes " bytes " ++ decimal (sum_by length (clean_tiles h)) ++ codes " sum "
    ++ decimal (sum_by (λ bytes. sum_by (λ b. b) bytes) (clean_tiles h)) ++ codes "\n"

-- ---- work that broke off

-- the entry is one of the step's
abbrev pub IsEventOf : Step → Entry → Type 0
IsEventOf s (Expire tile count) = (s.expire ≡ true) × (tile ≡ spot_tile s.spot)
IsEventOf s (Ask conn command spot answer) = (conn ≡ loader) × (command ≡ Render) × (spot ≡ s.spot)
IsEventOf s (Claim worker answer) = worker ≡ 0
IsEventOf s (Finish ticket drawn answer) = drawn ≡ true
IsEventOf s (Collect front answer) = front ≡ 0
IsEventOf s (Fetch spot answer) = spot ≡ s.spot
IsEventOf s other = ⊥
