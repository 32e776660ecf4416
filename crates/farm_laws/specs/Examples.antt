-- Example histories of small farms, each from its first entry to its last. They show what the rules
-- answer, and that the laws speak of something.
use Rattle.std.specs.Prelude.{ℕ, zero, suc, Bool, true, false, ◌&&◌, ◌==◌, nat_lt, if◌then◌else◌, List, [], ◌∷◌, filter, Option, Some, None}
use Rattle.std.specs.List.{list_any}
use Rattle.farm_base.specs.declared.faults.ApplyFault.TheVariants.{NoFeature}
use Rattle.plain_world.specs.declared.world.Tile.{Tile}
use Rattle.farm_history.specs.declared.keys.Key.{Key}
use Rattle.farm_history.specs.declared.saved.Past.{Past}
use Rattle.farm_history.specs.declared.queues.Conn.{Conn}
use Rattle.farm_history.specs.declared.queues.Limits.{Limits}
use Rattle.farm_history.specs.declared.queues.Outcome.{Outcome}
use Rattle.farm_history.specs.declared.asks.Cmd.{Cmd}
use Rattle.farm_history.specs.declared.asks.Spot.{Spot}
use Rattle.farm_history.specs.declared.asks.Why.TheVariants.{Stopping, Unservable, Backlog, Overtaken, InDirty, Deferred, Dropped}
use Rattle.farm_history.specs.declared.asks.AskAnswer.{AskAnswer}
use Rattle.farm_history.specs.declared.asks.AskAnswer.TheVariants.{Queued, Joined, Lifted, NotDone, Silent}
use Rattle.farm_history.specs.declared.answers.ClaimAnswer.{ClaimAnswer}
use Rattle.farm_history.specs.declared.answers.ClaimAnswer.TheVariants.{Job, Idle, Crowded}
use Rattle.farm_history.specs.declared.answers.Finished.{Finished}
use Rattle.farm_history.specs.declared.answers.Finished.TheVariants.{Stored, PutFailed}
use Rattle.farm_history.specs.declared.answers.Updated.{Updated}
use Rattle.farm_history.specs.declared.answers.Renewed.{Renewed}
use Rattle.farm_history.specs.declared.answers.Restyled.TheVariants.{Styled, NoRestyle}
use Rattle.farm_history.specs.declared.answers.Fetched.{Fetched}
use Rattle.farm_history.specs.declared.answers.Looked.{Looked}
use Rattle.farm_history.specs.declared.answers.Collected.{Collected}
use Rattle.farm_history.specs.Entries.{Entry, Ask, Claim, Finish, Update, Renew, Restyle, Expire, Fetch, Look, Collect, Leave, Stop, Tally}
use Rattle.farm_history.specs.Plans.{Plan, key_of, same_key}
use Rattle.farm_history.specs.Past.{is_done}
use Rattle.farm_history.specs.Replays.{Saving, replay_front, replayer}

-- the history that goes on with these entries, which stand in the order of time
abbrev pub goes_on : List Entry → List Entry → List Entry
goes_on h [] = h
goes_on h (e ∷ later) = goes_on (e ∷ h) later

-- a connection of the first front
abbrev pub conn : ℕ → Conn
conn n = record { front = 0; number = n }

-- a tile of the first map
abbrev pub spot : ℕ → ℕ → ℕ → Spot
spot z x y = record { map = Some 0; z = z; x = x; y = y }

-- a metatile of the first map
abbrev pub key : ℕ → ℕ → ℕ → Key
key z x y = record { map = 0; meta = record { z = z; x = x; y = y } }

-- a tile by its zoom, column and row
abbrev pub tile : ℕ → ℕ → ℕ → Tile
tile z x y = record { z = z; x = x; y = y }

-- an ask with the command Render
abbrev pub render : ℕ → Spot → AskAnswer → Entry
render n s answer = Ask (conn n) Cmd.Render s answer

-- a drawing that was made ends
abbrev pub drawn : ℕ → Finished → Entry
drawn ticket answer = Finish ticket true answer

-- the first front collects the reply to a connection's ask
abbrev pub reply : ℕ → ℕ → Outcome → Entry
reply n ask outcome =
    Collect 0 (Collected.Reply (record { conn = conn n; ask = ask; outcome = outcome }))

-- the style's number plus one, or 0 for none
abbrev pub style_place : Option ℕ → ℕ
style_place None = 0
style_place (Some n) = suc n

-- bytes that tell a style, a tile and data apart: the style's place, the tile's numbers, the data
abbrev pub bytes_of : ℕ → Option ℕ → Tile → List ℕ → List ℕ
bytes_of map style t known = style_place style ∷ t.z ∷ t.x ∷ t.y ∷ known

-- queues in each of which 32 may wait
abbrev pub wide : Limits
wide = record { prio = 32; request = 32; low = 32; dirty = 32; bulk = 32 }

-- a farm of one map with zooms to 18, without updates and styles
abbrev pub small_plan : Limits → ℕ → Plan
small_plan limits workers = record {
  max_zooms = 18 ∷ [];
  limits = limits;
  workers = workers;
  updates = 0;
  restyles = [];
  fault = λ known n. None;
  reaches = λ known n k. false;
  drawing = bytes_of;
}

-- a farm of two workers
unfoldable pub plain : Plan
plain = small_plan wide 2

-- Two ask for one metatile. The second joins, both are done, and a third finds it clean
unfoldable pub asked_twice : List Entry
asked_twice = goes_on [] (
    render 0 (spot 0 0 0) (Queued 0)
    ∷ render 1 (spot 0 0 0) (Joined 1)
    ∷ Claim 0 (Job 0 (key 0 0 0) 0)
    ∷ Claim 1 Idle
    ∷ Fetch (spot 0 0 0) Fetched.Missing
    ∷ drawn 0 (Stored true)
    ∷ reply 0 0 Outcome.Done
    ∷ reply 1 1 Outcome.Done
    ∷ Collect 0 Collected.Empty
    ∷ render 2 (spot 0 0 0) AskAnswer.Done
    ∷ []
    )

-- A metatile is expired while it is drawn. Newcomers are turned away, the drawing is stored as
-- dirty and done for those who had waited; a new ask lifts it out of the dirty queue, and the next
-- drawing is clean
unfoldable pub expired_while_drawn : List Entry
expired_while_drawn = goes_on [] (
    render 0 (spot 0 0 0) (Queued 0)
    ∷ render 1 (spot 0 0 0) (Joined 1)
    ∷ Claim 0 (Job 0 (key 0 0 0) 0)
    ∷ Expire (tile 5 3 3) 0
    ∷ render 2 (spot 0 0 0) (NotDone Overtaken)
    ∷ drawn 0 (Stored false)
    ∷ reply 0 0 Outcome.Done
    ∷ reply 1 1 Outcome.Done
    ∷ Collect 0 Collected.Empty
    ∷ render 2 (spot 0 0 0) (Lifted 2)
    ∷ Look (spot 0 0 0) (Looked.Dirty 0)
    ∷ Claim 0 (Job 1 (key 0 0 0) 0)
    ∷ drawn 1 (Stored true)
    ∷ render 2 (spot 0 0 0) AskAnswer.Done
    ∷ Fetch (spot 0 0 0) (Fetched.Clean 0 (0 ∷ 0 ∷ 0 ∷ 0 ∷ []))
    ∷ []
    )

-- a farm with two updates that fit, and a third that removes a feature which is not there
unfoldable pub updated : Plan
updated = record (small_plan wide 2)
    { updates = 3; fault = λ known n. if n == 2 then Some (NoFeature 0 7) else None }

-- An update leaves what is shown clean, with its older version; an expiry of a tile of another zoom
-- makes it dirty
unfoldable pub updated_then_expired : List Entry
updated_then_expired = goes_on [] (
    render 0 (spot 0 0 0) (Queued 0)
    ∷ Claim 0 (Job 0 (key 0 0 0) 0)
    ∷ drawn 0 (Stored true)
    ∷ Update 0 (Updated.Version 1)
    ∷ Look (spot 0 0 0) (Looked.Clean 0)
    ∷ Update 9 Updated.NoUpdate
    ∷ Update 2 (Updated.Refused (NoFeature 0 7))
    ∷ Expire (tile 18 262143 262143) 1
    ∷ Look (spot 0 0 0) (Looked.Dirty 0)
    ∷ []
    )

-- An expiry of a tile of zoom 1 reaches the metatile of zoom 4 that lies in it, and not the one
-- beside it
unfoldable pub expired_from_above : List Entry
expired_from_above = goes_on [] (
    render 0 (spot 4 8 8) (Queued 0)
    ∷ render 0 (spot 4 0 8) (Queued 1)
    ∷ Claim 0 (Job 0 (key 4 8 8) 0)
    ∷ drawn 0 (Stored true)
    ∷ Claim 0 (Job 1 (key 4 0 8) 0)
    ∷ drawn 1 (Stored true)
    ∷ Expire (tile 1 1 1) 1
    ∷ Look (spot 4 8 8) (Looked.Dirty 0)
    ∷ Look (spot 4 0 8) (Looked.Clean 0)
    ∷ []
    )

-- A drawing keeps the data of its Claim: the update comes after it
unfoldable pub updated_while_drawn : List Entry
updated_while_drawn = goes_on [] (
    render 0 (spot 0 0 0) (Queued 0)
    ∷ Claim 0 (Job 0 (key 0 0 0) 0)
    ∷ Update 0 (Updated.Version 1)
    ∷ drawn 0 (Stored true)
    ∷ Fetch (spot 0 0 0) (Fetched.Clean 0 (0 ∷ 0 ∷ 0 ∷ 0 ∷ []))
    ∷ Update 2 (Updated.Refused (NoFeature 0 7))
    ∷ Update 9 Updated.NoUpdate
    ∷ []
    )

-- a farm in whose queues few may wait
unfoldable pub narrow : Plan
narrow = small_plan (record { prio = 32; request = 2; low = 32; dirty = 2; bulk = 32 }) 2

-- Asks fill their queue, then the dirty queue, and then are dropped. Claims take prio, request, low
-- and dirty in this order, and no more than there are workers; after a Stop none
unfoldable pub queues_filled : List Entry
queues_filled = goes_on [] (
    render 0 (spot 10 0 0) (Queued 0)
    ∷ render 0 (spot 10 8 0) (Queued 1)
    ∷ render 0 (spot 10 16 0) (NotDone Deferred)
    ∷ render 0 (spot 10 24 0) (NotDone Deferred)
    ∷ render 0 (spot 10 32 0) (NotDone Dropped)
    ∷ Ask (conn 0) Cmd.Prio (spot 10 40 0) (Queued 2)
    ∷ Ask (conn 0) Cmd.Low (spot 10 48 0) (Queued 3)
    ∷ Ask (conn 0) Cmd.Render (record { map = None; z = 0; x = 0; y = 0 }) (NotDone Unservable)
    ∷ Claim 0 (Job 0 (key 10 40 0) 0)
    ∷ Claim 1 (Job 1 (key 10 0 0) 0)
    ∷ Claim 1 Crowded
    ∷ drawn 0 (Stored true)
    ∷ Claim 0 (Job 2 (key 10 8 0) 0)
    ∷ drawn 1 (Stored true)
    ∷ Claim 1 (Job 3 (key 10 48 0) 0)
    ∷ drawn 2 (Stored true)
    ∷ Claim 0 (Job 4 (key 10 16 0) 0)
    ∷ Stop
    ∷ Claim 1 ClaimAnswer.Stopped
    ∷ render 0 (spot 10 32 0) (NotDone Stopping)
    ∷ []
    )

-- asks of one connection for one metatile, so many, which are all open
unfoldable pub asked_often : ℕ → List Entry
asked_often zero = []
asked_often (suc zero) = render 0 (spot 0 0 0) (Queued 0) ∷ []
asked_often (suc (suc n)) = render 0 (spot 0 0 0) (Joined (suc n)) ∷ asked_often (suc n)

-- A put fails: the old drawing is no longer shown, and who waited is told so; the next drawing is
-- stored. A read fails
unfoldable pub put_failed : List Entry
put_failed = goes_on [] (
    render 0 (spot 0 0 0) (Queued 0)
    ∷ Claim 0 (Job 0 (key 0 0 0) 0)
    ∷ drawn 0 (Stored true)
    ∷ reply 0 0 Outcome.Done
    ∷ Expire (tile 0 0 0) 1
    ∷ render 0 (spot 0 0 0) (Queued 1)
    ∷ Claim 0 (Job 1 (key 0 0 0) 0)
    ∷ drawn 1 PutFailed
    ∷ reply 0 1 Outcome.NotDone
    ∷ Look (spot 0 0 0) Looked.Missing
    ∷ render 0 (spot 0 0 0) (Queued 2)
    ∷ Claim 0 (Job 2 (key 0 0 0) 0)
    ∷ drawn 2 (Stored true)
    ∷ Fetch (spot 0 0 0) Fetched.GetFailed
    ∷ []
    )

-- A drawing for which there was no memory is cut, and so is its reply
unfoldable pub drawing_cut : List Entry
drawing_cut = goes_on [] (
    render 0 (spot 0 0 0) (Queued 0)
    ∷ Claim 0 (Job 0 (key 0 0 0) 0)
    ∷ Finish 0 false Finished.NoMemory
    ∷ reply 0 0 Outcome.Cut
    ∷ Look (spot 0 0 0) Looked.Missing
    ∷ []
    )

-- A connection is left: its asks are gone, and what it asked for still waits
unfoldable pub left_alone : List Entry
left_alone = goes_on [] (
    render 0 (spot 10 0 0) (Queued 0)
    ∷ render 0 (spot 10 8 0) (Queued 1)
    ∷ render 0 (spot 10 16 0) (Queued 2)
    ∷ Leave (conn 0) 3
    ∷ Claim 0 (Job 0 (key 10 0 0) 0)
    ∷ drawn 0 (Stored true)
    ∷ Collect 0 Collected.Empty
    ∷ Tally (record { asks = 3; done = 0; stored = 1; version = 0 })
    ∷ []
    )

-- a farm in whose low queue one may wait
unfoldable pub low_narrow : Plan
low_narrow = small_plan (record { prio = 32; request = 32; low = 1; dirty = 32; bulk = 32 }) 2

-- What waits in the bulk queue is moved by an ask of a better command while that one's queue has
-- room, with those who wait for it
unfoldable pub lifted_from_bulk : List Entry
lifted_from_bulk = goes_on [] (
    Ask (conn 0) Cmd.Bulk (spot 10 0 0) (Queued 0)
    ∷ Ask (conn 1) Cmd.Low (spot 10 0 0) (Lifted 1)
    ∷ Ask (conn 0) Cmd.Bulk (spot 10 8 0) (Queued 2)
    ∷ Ask (conn 1) Cmd.Low (spot 10 8 0) (Joined 3)
    ∷ Ask (conn 2) Cmd.Prio (spot 10 8 0) (Lifted 4)
    ∷ Claim 0 (Job 0 (key 10 8 0) 0)
    ∷ drawn 0 (Stored true)
    ∷ reply 0 2 Outcome.Done
    ∷ reply 1 3 Outcome.Done
    ∷ reply 2 4 Outcome.Done
    ∷ []
    )

-- An ask with Dirty marks what is clean, and puts it in the dirty queue, where a bulk ask cannot
-- lift it
unfoldable pub marked_dirty : List Entry
marked_dirty = goes_on [] (
    render 0 (spot 0 0 0) (Queued 0)
    ∷ Claim 0 (Job 0 (key 0 0 0) 0)
    ∷ drawn 0 (Stored true)
    ∷ Ask (conn 1) Cmd.Dirty (spot 0 0 0) Silent
    ∷ Look (spot 0 0 0) (Looked.Dirty 0)
    ∷ Ask (conn 1) Cmd.Bulk (spot 0 0 0) (NotDone InDirty)
    ∷ Claim 0 (Job 1 (key 0 0 0) 0)
    ∷ []
    )

-- a farm with one style to change to
unfoldable pub restyled : Plan
restyled = record (small_plan wide 2) { restyles = 0 ∷ [] }

-- The style is changed while a metatile is drawn: it is stored as dirty, in the old style, and the
-- next drawing has the new one
unfoldable pub restyled_while_drawn : List Entry
restyled_while_drawn = goes_on [] (
    render 0 (spot 0 0 0) (Queued 0)
    ∷ Claim 0 (Job 0 (key 0 0 0) 0)
    ∷ Restyle 0 (Styled 0)
    ∷ drawn 0 (Stored false)
    ∷ Fetch (spot 0 0 0) (Fetched.Dirty 0 (0 ∷ 0 ∷ 0 ∷ 0 ∷ []))
    ∷ Claim 0 (Job 1 (key 0 0 0) 0)
    ∷ drawn 1 (Stored true)
    ∷ Fetch (spot 0 0 0) (Fetched.Clean 0 (1 ∷ 0 ∷ 0 ∷ 0 ∷ []))
    ∷ Restyle 0 (Styled 1)
    ∷ Look (spot 0 0 0) (Looked.Dirty 0)
    ∷ Restyle 9 NoRestyle
    ∷ []
    )

-- whether an update reaches a metatile: the first reaches (4, 0, 0) alone, the others every one
abbrev pub reached : ℕ → Key → Bool
reached n k = if n == 0 then same_key k (key 4 0 0) else true

-- a farm with two updates. Its drawings of tiles to zoom 18 tell the updates that reach the
-- metatile; those of tiles past it, which cannot be served, tell every update
unfoldable pub renewed : Plan
renewed = record (small_plan wide 2) {
  updates = 2;
  reaches = λ known n k. reached n k;
  drawing = λ map style t known. bytes_of map style t (if nat_lt 18 t.z then known else filter
      (λ n. reached n (key_of (record { map = Some map; z = t.z; x = t.x; y = t.y }))) known);
}

-- two metatiles are drawn
unfoldable pub two_drawn : List Entry
two_drawn = goes_on [] (
    render 0 (spot 4 0 0) (Queued 0)
    ∷ render 0 (spot 4 8 8) (Queued 1)
    ∷ Claim 0 (Job 0 (key 4 0 0) 0)
    ∷ drawn 0 (Stored true)
    ∷ Claim 0 (Job 1 (key 4 8 8) 0)
    ∷ drawn 1 (Stored true)
    ∷ []
    )

-- A renew makes the metatile dirty that its update reaches, and leaves the other clean: its tiles
-- are those of the newest data
unfoldable pub renewed_one : List Entry
renewed_one = goes_on two_drawn (
    Renew 0 (Renewed.Version 1 1)
    ∷ Look (spot 4 0 0) (Looked.Dirty 0)
    ∷ Look (spot 4 8 8) (Looked.Clean 0)
    ∷ Fetch (spot 4 8 8) (Fetched.Clean 0 (0 ∷ 4 ∷ 8 ∷ 8 ∷ []))
    ∷ Claim 0 Idle
    ∷ Renew 9 Renewed.NoUpdate
    ∷ []
    )

-- A renew whose update reaches both metatiles makes both dirty
unfoldable pub renewed_both : List Entry
renewed_both = goes_on two_drawn (Renew 1 (Renewed.Version 1 2) ∷ [])

-- a farm with updates and a style to change to
unfoldable pub changing : Plan
changing = record (small_plan wide 2) {
  updates = 3;
  restyles = 0 ∷ [];
  fault = λ known n. if n == 2 then Some (NoFeature 0 7) else None;
}

-- what is saved of a farm with one map in its new style, after two updates, with two clean
-- metatiles: one drawn before the updates, one between them
unfoldable pub saved_changes : Saving
saved_changes = record {
  styles = Some 0 ∷ [];
  updates = Past.Update 1 ∷ Past.Renew 0 ∷ [];
  clean = record { key = key 4 0 8; version = 1 } ∷ record { key = key 4 8 8; version = 0 } ∷ [];
}

-- A history of which that is saved. A third metatile is drawn and then expired: it is dirty, and is
-- not saved
unfoldable pub changed : List Entry
changed = goes_on [] (
    Restyle 0 (Styled 0)
    ∷ render 0 (spot 4 8 8) (Queued 0)
    ∷ Claim 0 (Job 0 (key 4 8 8) 0)
    ∷ drawn 0 (Stored true)
    ∷ Update 1 (Updated.Version 1)
    ∷ render 0 (spot 4 0 8) (Queued 1)
    ∷ render 0 (spot 4 8 0) (Queued 2)
    ∷ Claim 0 (Job 1 (key 4 0 8) 1)
    ∷ Claim 1 (Job 2 (key 4 8 0) 1)
    ∷ drawn 2 (Stored true)
    ∷ drawn 1 (Stored true)
    ∷ Expire (tile 1 1 0) 1
    ∷ Renew 0 (Renewed.Version 2 0)
    ∷ []
    )

-- The replay of it: the style; the metatile of version 0; the first update; the metatile of version
-- 1; the second update
unfoldable pub resumed_changes : List Entry
resumed_changes = goes_on [] (
    Restyle 0 (Styled 0)
    ∷ Ask replayer Cmd.Bulk (spot 4 8 8) (Queued 0)
    ∷ Claim 0 (Job 0 (key 4 8 8) 0)
    ∷ drawn 0 (Stored true)
    ∷ Collect replay_front
    (Collected.Reply (record { conn = replayer; ask = 0; outcome = Outcome.Done }))
    ∷ Update 1 (Updated.Version 1)
    ∷ Ask replayer Cmd.Bulk (spot 4 0 8) (Queued 1)
    ∷ Claim 0 (Job 1 (key 4 0 8) 1)
    ∷ drawn 1 (Stored true)
    ∷ Collect replay_front
    (Collected.Reply (record { conn = replayer; ask = 1; outcome = Outcome.Done }))
    ∷ Renew 0 (Renewed.Version 2 0)
    ∷ []
    )

-- What the laws speak of: a tile sent as clean, a drawing stored as dirty, an ask answered Done,
-- and a reply Done.

-- whether the entry sends a tile as clean
abbrev pub is_clean_fetch : Entry → Bool
is_clean_fetch (Fetch s (Fetched.Clean v bytes)) = true
is_clean_fetch _ = false

-- whether the entry stores a drawing as dirty
abbrev pub is_stale_finish : Entry → Bool
is_stale_finish (Finish ticket made (Stored false)) = true
is_stale_finish _ = false

-- whether the entry is an ask answered Done
abbrev pub is_done_ask : Entry → Bool
is_done_ask (Ask c command s AskAnswer.Done) = true
is_done_ask _ = false

-- whether the entry collects a reply Done
abbrev pub is_done_reply : Entry → Bool
is_done_reply (Collect front (Collected.Reply r)) = is_done r.outcome
is_done_reply _ = false

-- whether a history has one of each
abbrev pub has_each : List Entry → Bool
has_each h = list_any is_clean_fetch h
    && (list_any is_stale_finish h && (list_any is_done_ask h && list_any is_done_reply h))

-- A connection with 64 open asks has no more: the 65th is turned away
unfoldable pub asked_too_often : List Entry
asked_too_often = goes_on (asked_often 64) (render 0 (spot 0 0 0) (NotDone Backlog) ∷ [])

-- The 64th open ask of a connection is not turned away
unfoldable pub asked_just_often : List Entry
asked_just_often = goes_on (asked_often 63) (render 0 (spot 0 0 0) (Joined 63) ∷ [])
