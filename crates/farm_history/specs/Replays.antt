-- What is saved of a farm, and the history that a farm which is resumed from it stands for.
use Rattle.std.specs.Prelude.{ℕ, ◌+◌, ◌<◌, Bool, true, false, ◌&&◌, ◌||◌, ◌==◌, nat_lt, if◌then◌else◌, ◌≡◌, List, [], ◌∷◌, ◌++◌, length, find, slice_get, Option, Some, None, option_map}
use Rattle.std.specs.List.{list_all}
use Rattle.farm_history.specs.declared.keys.Key.{Key}
use Rattle.farm_history.specs.declared.keys.Kept.{Kept}
use Rattle.farm_history.specs.declared.saved.Past.{Past}
use Rattle.farm_history.specs.declared.queues.Conn.{Conn}
use Rattle.farm_history.specs.declared.queues.Outcome.{Outcome}
use Rattle.farm_history.specs.declared.asks.Cmd.{Cmd}
use Rattle.farm_history.specs.declared.asks.Spot.{Spot}
use Rattle.farm_history.specs.declared.asks.AskAnswer.TheVariants.{Queued}
use Rattle.farm_history.specs.declared.answers.ClaimAnswer.TheVariants.{Job}
use Rattle.farm_history.specs.declared.answers.Finished.TheVariants.{Stored}
use Rattle.farm_history.specs.declared.answers.Updated.{Updated}
use Rattle.farm_history.specs.declared.answers.Renewed.{Renewed}
use Rattle.farm_history.specs.declared.answers.Restyled.TheVariants.{Styled}
use Rattle.farm_history.specs.declared.answers.Collected.{Collected}
use Rattle.farm_history.specs.Entries.{Entry, Ask, Claim, Finish, Update, Renew, Restyle, Collect}
use Rattle.farm_history.specs.Plans.{Plan, same_key}
use Rattle.farm_history.specs.Past.{data_after, version, style_after, jobs, shown, is_touched_after, is_clean, clean_count, numbers}
use Rattle.farm_history.specs.Rules.{Legal}

-- Saving.

-- the updates that succeeded, in order, with their kinds
unfoldable pub changes_after : List Entry → List Past
changes_after [] = []
changes_after (Update n (Updated.Version v) ∷ g) = changes_after g ++ Past.Update n ∷ []
changes_after (Renew n (Renewed.Version v count) ∷ g) = changes_after g ++ Past.Renew n ∷ []
changes_after (_ ∷ g) = changes_after g

-- the number of an update
abbrev pub past_number : Past → ℕ
past_number (Past.Update n) = n
past_number (Past.Renew n) = n

-- what is saved: for each map the number of its last style, or none; the updates that succeeded;
-- the clean keys with their versions
pub record Saving : Type 0 where
  pub styles : List (Option ℕ)
  pub updates : List Past
  pub clean : List Kept

-- whether a key comes before another: by map, zoom, column and row
abbrev pub key_before : Key → Key → Bool
key_before a b =
    nat_lt a.map b.map
    || ((a.map == b.map)
    && (nat_lt a.meta.z b.meta.z || ((a.meta.z == b.meta.z)
    && (nat_lt a.meta.x b.meta.x || ((a.meta.x == b.meta.x) && nat_lt a.meta.y b.meta.y)))))

-- the keys rise: each comes before all later ones
abbrev pub are_rising : List Kept → Bool
are_rising [] = true
are_rising (x ∷ xs) = list_all (λ y. key_before x.key y.key) xs && are_rising xs

-- the one that is kept of a key
abbrev pub kept_of : List Kept → Key → Option Kept
kept_of kept k = find (λ x. same_key x.key k) kept

-- the version with which a key is kept
abbrev pub kept_version : Kept → ℕ
kept_version x = x.version

-- the version before the Claim of what is shown, where it is clean
abbrev pub version_if_fresh : Plan → List Entry → Key → Option (List Entry) → Option ℕ
version_if_fresh p h k None = None
version_if_fresh p h k (Some before) = if is_touched_after p h (length before) k then None
    else Some (version before)

-- s is what is saved after h: the styles of the plan's maps, the updates in order, and exactly the
-- clean keys, by key, each with the version before the Claim of what is shown
pub record IsSaved (p : Plan) (h : List Entry) (s : Saving) : Type 0 where
  pub as_many_styles : length s.styles ≡ length p.max_zooms
  pub styles_are : (m : ℕ) → m < length p.max_zooms
      → slice_get s.styles m ≡ Some (style_after p h m)
  pub updates_are : s.updates ≡ changes_after h
  pub clean_are : (k : Key)
      → option_map kept_version (kept_of s.clean k) ≡ version_if_fresh p h k (shown h k)
  pub clean_rise : are_rising s.clean ≡ true

-- Replaying.

-- the front that asks in a replay; those of a running farm are 0, 1 and 2
abbrev pub replay_front : ℕ
replay_front = 3

-- the connection that asks in a replay
abbrev pub replayer : Conn
replayer = record { front = replay_front; number = 0 }

-- the lowest tile of a key
abbrev pub lowest : Key → Spot
lowest k = record { map = Some k.map; z = k.meta.z; x = k.meta.x; y = k.meta.y }

-- each map is given its style
unfoldable pub replay_styles : List (Option ℕ) → List Entry → List Entry
replay_styles [] g = g
replay_styles (None ∷ styles) g = replay_styles styles g
replay_styles (Some n ∷ styles) g = replay_styles styles (Restyle n (Styled 0) ∷ g)

-- a key is asked for by its lowest tile in the bulk queue, claimed by the first worker, stored as
-- clean, and its reply is collected
abbrev pub replay_key : Key → List Entry → List Entry
replay_key k g =
    Collect replay_front
    (Collected.Reply (record { conn = replayer; ask = numbers g; outcome = Outcome.Done }))
    ∷ Finish (jobs g) true (Stored true)
    ∷ Claim 0 (Job (jobs g) k (version g))
    ∷ Ask replayer Cmd.Bulk (lowest k) (Queued (numbers g))
    ∷ g

-- each kept key of that version, in order, is asked for, claimed, stored as clean and collected
unfoldable pub replay_keys : ℕ → List Kept → List Entry → List Entry
replay_keys v [] g = g
replay_keys v (x ∷ xs) g = replay_keys v xs (if x.version == v then replay_key x.key g else g)

-- an update is made again as it was made
abbrev pub replay_change : Plan → Past → List Entry → List Entry
replay_change p (Past.Update n) g = Update n (Updated.Version (version g + 1)) ∷ g
replay_change p (Past.Renew n) g =
    Renew n (Renewed.Version (version g + 1) (clean_count p g (p.reaches (data_after g) n))) ∷ g

-- for each version in turn: its kept keys, and then, where there is one, the update that ends it
unfoldable pub replay_from : Plan → List Kept → ℕ → List Past → List Entry → List Entry
replay_from p kept v [] g = replay_keys v kept g
replay_from p kept v (c ∷ cs) g =
    replay_from p kept (v + 1) cs (replay_change p c (replay_keys v kept g))

-- the history that a farm stands for which is resumed from s
abbrev pub replay : Plan → Saving → List Entry
replay p s = replay_from p s.clean 0 s.updates (replay_styles s.styles [])

-- The law.

-- a key that is clean after h is clean after r: what is shown of it was claimed at the same
-- version, over the same data and in the same style
pub record IsCleanAgain (p : Plan) (r : List Entry) (k : Key) (before : List Entry) : Type 0 where
  pub again : List Entry
  pub is_shown : shown r k ≡ Some again
  pub is_untouched : is_touched_after p r (length again) k ≡ false
  pub same_version : version again ≡ version before
  pub same_data : data_after again ≡ data_after before
  pub same_style : style_after p again k.map ≡ style_after p before k.map

-- r is legal, over any store; its data are those of h; what is clean after h is clean after r as it
-- was; and nothing else is shown
pub record IsResumed (p : Plan) (h r : List Entry) : Type 0 where
  pub legal : (store_tells : Bool) → Legal p store_tells r
  pub same_data : data_after r ≡ data_after h
  pub clean_again : (k : Key) (before : List Entry) → is_clean p h k ≡ true
      → shown h k ≡ Some before → IsCleanAgain p r k before
  pub nothing_else : (k : Key) → is_clean p h k ≡ false → shown r k ≡ None

-- For each plan with a worker and room in its bulk queue: where a legal history is saved, the
-- replay of what is saved resumes it
abbrev pub LawResumed : Type 0
LawResumed =
    (p : Plan) (store_tells : Bool) (h : List Entry) (s : Saving) → 0 < p.workers
    → 0 < p.limits.bulk → Legal p store_tells h → IsSaved p h s → IsResumed p h (replay p s)
