-- What the control front makes of a connection: the entries of each line and the text that it is answered.
use Rattle.std.specs.Prelude.{◌≡◌, ℕ, ◌+◌, ◌-◌, ◌^◌, ◌==◌, Bool, true, false, List, [], ◌∷◌, length, min, nat_le, codes, slice_get, Option, Some, None, map, zip, unwrap_or}
use Rattle.plain_world.specs.declared.world.Tile.{Tile}
use Rattle.std.specs.Option.{is_none}
use Rattle.std.specs.List.{list_any, slice_split}
use Rattle.farm_history.specs.declared.answers.Updated.{Updated}
use Rattle.farm_history.specs.declared.answers.Updated.TheVariants as updated
use Rattle.farm_history.specs.declared.answers.Restyled.{Restyled}
use Rattle.farm_history.specs.declared.answers.Restyled.TheVariants as restyled
use Rattle.farm_history.specs.declared.answers.Renewed.{Renewed}
use Rattle.farm_history.specs.declared.answers.Renewed.TheVariants as renewed
use Rattle.farm_history.specs.Entries.{Entry, Update, Restyle, Renew, Expire, Stop, Tally}
use Rattle.front_loop.specs.Rules.{Rules, is_empty}
use Rattle.front_loop.specs.Moves.{by_move}
use Rattle.script_answers.specs.Answers.{update_line, restyle_line, renew_line, expire_line, tally_line, stop_line}
use Rattle.control_front.specs.declared.acts.Line.{Line}
use Rattle.control_front.specs.declared.acts.Line.TheVariants as line
use Rattle.control_front.specs.declared.acts.Act.{Act}
use Rattle.control_front.specs.declared.acts.Act.TheVariants.{Updates, Restyles, Renews, Expires, Counts, Stops, Refuses}
use Rattle.control_front.specs.Lines.{is_long, requests_in}

-- ---- answers; want of memory has none

-- the answer to `update N`
abbrev pub update_text : Updated → Option (List ℕ)
update_text updated.NoUpdate = Some (codes "no update\n")
update_text answer = update_line answer

-- the answer to `restyle N`
abbrev pub restyle_text : Restyled → List ℕ
restyle_text restyled.NoRestyle = codes "no restyle\n"
restyle_text answer = restyle_line answer

-- the answer to `renew N`
abbrev pub renew_text : Renewed → Option (List ℕ)
renew_text renewed.NoUpdate = Some (codes "no update\n")
renew_text answer = renew_line answer

-- all counts together
abbrev pub total_of : List ℕ → ℕ
total_of [] = 0
total_of (k ∷ counts) = k + total_of counts

-- the answer to `expire N` of a list, by the counts of its tiles: their sum, which stands still at `2^64 - 1`
abbrev pub expire_text : Option (List Tile) → List ℕ → List ℕ
expire_text None counts = codes "no list\n"
expire_text (Some tiles) counts = expire_line (min (total_of counts) (2 ^ 64 - 1))

-- ---- entries

-- the tiles of the list of this number; none where it is not in the table
abbrev pub tiles_at : List (List Tile) → ℕ → List Tile
tiles_at lists n = unwrap_or (slice_get lists n) []

-- ---- what was done at a line

-- what is made of a line that was done
pub record LineDone : Type 0 where
  -- the line, its entries, and its answer, of which there is none where no memory was found for what was asked
  pub line : Line
  pub entries : List Entry
  pub answer : Option (List ℕ)
  -- its entries are some of those that it has; and all of them are there
  pub fits : Bool
  pub whole : Bool

-- what is made of it with all its entries
abbrev pub whole_line : Line → List Entry → Option (List ℕ) → LineDone
whole_line asked entries answer = record {
  line = asked;
  entries = entries;
  answer = answer;
  fits = true;
  whole = true;
}

-- **The lines, their entries and their answers.** `expire N` has an Expire for each tile of its list, in order, and a worn
-- turn leaves it without the last of them.
abbrev pub line_done : List (List Tile) → Act → LineDone
line_done lists (Updates n answer) =
    whole_line (line.Update n) (Update n answer ∷ []) (update_text answer)
line_done lists (Restyles n answer) =
    whole_line (line.Restyle n) (Restyle n answer ∷ []) (Some (restyle_text answer))
line_done lists (Renews n answer) =
    whole_line (line.Renew n) (Renew n answer ∷ []) (renew_text answer)
line_done lists (Expires n counts) =
    record (whole_line (line.Expire n)
    (map (λ (p : Tile × ℕ). Expire p.0 p.1) (zip (tiles_at lists n) counts))
    (Some (expire_text (slice_get lists n) counts))) {
      fits = nat_le (length counts) (length (tiles_at lists n));
      whole = length counts == length (tiles_at lists n);
    }
line_done lists (Counts totals) =
    whole_line line.Stats (Tally totals ∷ []) (Some (tally_line totals))
line_done lists Stops = whole_line line.Stop (Stop ∷ []) (Some stop_line)
line_done lists Refuses = whole_line line.Bad [] (Some (codes "bad line\n"))

-- **What the control front of this number makes of a connection**, with the tile lists of its `expire N`. Its lines are
-- the parts of the bytes between newlines, the last of which has not ended. No ask is
-- made, so no reply comes; one that came would stand alone.
abbrev pub control_rules : ℕ → List (List Tile) → Rules Act Line
control_rules number lists = record {
  number = number;
  wanted = λ given ws. requests_in (slice_split (λ b. b == 10) given) ≡ ws;
  refuses = λ given. list_any is_long (slice_split (λ b. b == 10) given);
  want = λ a. (line_done lists a).line;
  entries = λ c a. (line_done lists a).entries;
  fits = λ ms m. by_move (λ a. (line_done lists a).fits) (λ r behind. is_empty behind) m;
  whole = λ ms m. by_move (λ a. (line_done lists a).whole) (λ r behind. true) m;
  says = λ ms m. by_move (λ a. unwrap_or (line_done lists a).answer []) (λ r behind. []) m;
  starves = λ m. by_move (λ a. is_none (line_done lists a).answer) (λ r behind. false) m;
  ends = λ ms. false;
}
