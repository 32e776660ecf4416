-- Histories whose last answer is a mistake that a farm could make.
use Rattle.std.specs.Prelude.{true, false, List, [], ◌∷◌}
use Rattle.farm_history.specs.declared.queues.Outcome.{Outcome}
use Rattle.farm_history.specs.declared.asks.Cmd.{Cmd}
use Rattle.farm_history.specs.declared.asks.Why.TheVariants.{Deferred, Dropped}
use Rattle.farm_history.specs.declared.asks.AskAnswer.{AskAnswer}
use Rattle.farm_history.specs.declared.asks.AskAnswer.TheVariants.{Queued, Joined, Lifted, NotDone, Silent}
use Rattle.farm_history.specs.declared.answers.ClaimAnswer.TheVariants.{Job, Idle}
use Rattle.farm_history.specs.declared.answers.Finished.TheVariants.{Stored, PutFailed}
use Rattle.farm_history.specs.declared.answers.Updated.{Updated}
use Rattle.farm_history.specs.declared.answers.Renewed.{Renewed}
use Rattle.farm_history.specs.declared.answers.Restyled.TheVariants.{Styled}
use Rattle.farm_history.specs.declared.answers.Fetched.{Fetched}
use Rattle.farm_history.specs.declared.answers.Looked.{Looked}
use Rattle.farm_history.specs.Entries.{Entry, Ask, Claim, Finish, Update, Renew, Restyle, Expire, Fetch, Look, Leave, Stop, Tally}
use Rattle.farm_history.specs.Plans.{Plan}
use Rattle.farm_history.specs.Rules.{Fits, Legal}
use Rattle.farm_laws.specs.Examples.{goes_on, conn, spot, key, tile, render, drawn, reply}

-- the history is legal up to its last entry, and that one's answer is not right
abbrev pub IsMistake : Plan → List Entry → Type 0
IsMistake p [] = ⊥
IsMistake p (e ∷ g) = Legal p true g × (Fits p true g e → ⊥)

-- A drawing is stored as clean although its metatile was expired after its Claim
unfoldable pub stored_clean_though_expired : List Entry
stored_clean_though_expired = goes_on [] (render 0 (spot 0 0 0) (Queued 0)
    ∷ Claim 0 (Job 0 (key 0 0 0) 0) ∷ Expire (tile 5 3 3) 0 ∷ drawn 0 (Stored true) ∷ [])

-- What is clean is told from data versions, so that an expiry without an update leaves it clean
unfoldable pub clean_by_version : List Entry
clean_by_version =
    goes_on [] (render 0 (spot 0 0 0) (Queued 0) ∷ Claim 0 (Job 0 (key 0 0 0) 0) ∷ drawn 0
    (Stored true) ∷ Expire (tile 18 262143 262143) 1 ∷ Look (spot 0 0 0) (Looked.Clean 0) ∷ [])

-- An update alone makes dirty what is shown
unfoldable pub dirty_by_update : List Entry
dirty_by_update =
    goes_on [] (render 0 (spot 0 0 0) (Queued 0) ∷ Claim 0 (Job 0 (key 0 0 0) 0) ∷ drawn 0
    (Stored true) ∷ Update 0 (Updated.Version 1) ∷ Look (spot 0 0 0) (Looked.Dirty 0) ∷ [])

-- An update that the table does not have gives a version
unfoldable pub updated_past_the_table : List Entry
updated_past_the_table = goes_on [] (Update 9 (Updated.Version 1) ∷ [])

-- An update that does not fit the data gives a version
unfoldable pub update_fault_passed_over : List Entry
update_fault_passed_over = goes_on [] (Update 2 (Updated.Version 1) ∷ [])

-- A metatile that is being drawn is queued once more
unfoldable pub queued_while_drawn : List Entry
queued_while_drawn = goes_on [] (render 0 (spot 0 0 0) (Queued 0) ∷ Claim 0 (Job 0 (key 0 0 0) 0)
    ∷ render 1 (spot 0 0 0) (Queued 1) ∷ [])

-- A second worker is given the metatile that is being drawn
unfoldable pub claimed_twice : List Entry
claimed_twice = goes_on [] (render 0 (spot 0 0 0) (Queued 0) ∷ render 1 (spot 0 0 0) (Joined 1)
    ∷ Claim 0 (Job 0 (key 0 0 0) 0) ∷ Claim 1 (Job 1 (key 0 0 0) 0) ∷ [])

-- The reply to the later ask is given first
unfoldable pub replied_out_of_order : List Entry
replied_out_of_order =
    goes_on [] (render 0 (spot 0 0 0) (Queued 0) ∷ render 1 (spot 0 0 0) (Joined 1)
    ∷ Claim 0 (Job 0 (key 0 0 0) 0) ∷ drawn 0 (Stored true) ∷ reply 1 1 Outcome.Done ∷ [])

-- A drawing has the data of its end, under the version of its Claim
unfoldable pub drawn_over_newest_data : List Entry
drawn_over_newest_data = goes_on []
    (render 0 (spot 0 0 0) (Queued 0) ∷ Claim 0 (Job 0 (key 0 0 0) 0) ∷ Update 0 (Updated.Version 1)
    ∷ drawn 0 (Stored true) ∷ Fetch (spot 0 0 0) (Fetched.Clean 0 (0 ∷ 0 ∷ 0 ∷ 0 ∷ 0 ∷ [])) ∷ [])

-- An expiry touches the metatiles of its own zoom alone
unfoldable pub expired_on_its_zoom_alone : List Entry
expired_on_its_zoom_alone = goes_on [] (render 0 (spot 4 8 8) (Queued 0)
    ∷ Claim 0 (Job 0 (key 4 8 8) 0) ∷ drawn 0 (Stored true) ∷ Expire (tile 1 1 1) 0 ∷ [])

-- An expiry touches a metatile that lies beside its square
unfoldable pub expired_beside : List Entry
expired_beside = goes_on [] (render 0 (spot 4 0 8) (Queued 0) ∷ Claim 0 (Job 0 (key 4 0 8) 0)
    ∷ drawn 0 (Stored true) ∷ Expire (tile 1 1 1) 1 ∷ [])

-- A newcomer joins a drawing whose metatile was expired since its Claim
unfoldable pub joined_though_overtaken : List Entry
joined_though_overtaken = goes_on [] (render 0 (spot 0 0 0) (Queued 0)
    ∷ Claim 0 (Job 0 (key 0 0 0) 0) ∷ Expire (tile 5 3 3) 0 ∷ render 2 (spot 0 0 0) (Joined 1) ∷ [])

-- The dirty queue is taken before the low one
unfoldable pub dirty_before_low : List Entry
dirty_before_low = goes_on [] (render 0 (spot 10 0 0) (Queued 0) ∷ render 0 (spot 10 8 0) (Queued 1)
    ∷ render 0 (spot 10 16 0) (NotDone Deferred) ∷ Ask (conn 0) Cmd.Low (spot 10 48 0) (Queued 2)
    ∷ Claim 0 (Job 0 (key 10 0 0) 0) ∷ drawn 0 (Stored true) ∷ Claim 0 (Job 1 (key 10 8 0) 0)
    ∷ drawn 1 (Stored true) ∷ Claim 0 (Job 2 (key 10 16 0) 0) ∷ [])

-- An ask that finds its queue full is dropped while the dirty queue has room
unfoldable pub dropped_though_room : List Entry
dropped_though_room = goes_on [] (render 0 (spot 10 0 0) (Queued 0)
    ∷ render 0 (spot 10 8 0) (Queued 1) ∷ render 0 (spot 10 16 0) (NotDone Dropped) ∷ [])

-- The dirty queue takes more than its limit
unfoldable pub deferred_past_the_limit : List Entry
deferred_past_the_limit = goes_on [] (render 0 (spot 10 0 0) (Queued 0)
    ∷ render 0 (spot 10 8 0) (Queued 1) ∷ render 0 (spot 10 16 0) (NotDone Deferred)
    ∷ render 0 (spot 10 24 0) (NotDone Deferred) ∷ render 0 (spot 10 32 0) (NotDone Deferred) ∷ [])

-- More drawings are given out than there are workers
unfoldable pub more_drawn_than_workers : List Entry
more_drawn_than_workers = goes_on [] (render 0 (spot 10 0 0) (Queued 0) ∷ render 0 (spot 10 8 0)
    (Queued 1) ∷ Ask (conn 0) Cmd.Low (spot 10 48 0) (Queued 2) ∷ Claim 0 (Job 0 (key 10 0 0) 0)
    ∷ Claim 1 (Job 1 (key 10 8 0) 0) ∷ Claim 0 (Job 2 (key 10 48 0) 0) ∷ [])

-- A drawing is given out after a Stop
unfoldable pub claimed_after_stop : List Entry
claimed_after_stop =
    goes_on [] (render 0 (spot 0 0 0) (Queued 0) ∷ Stop ∷ Claim 0 (Job 0 (key 0 0 0) 0) ∷ [])

-- After a put that failed the old drawing stays shown
unfoldable pub shown_after_failed_put : List Entry
shown_after_failed_put = goes_on [] (render 0 (spot 0 0 0) (Queued 0) ∷ Claim 0 (Job 0 (key 0 0 0)
    0) ∷ drawn 0 (Stored true) ∷ Expire (tile 0 0 0) 1 ∷ render 0 (spot 0 0 0) (Queued 1)
    ∷ Claim 0 (Job 1 (key 0 0 0) 0) ∷ drawn 1 PutFailed ∷ Look (spot 0 0 0) (Looked.Dirty 0) ∷ [])

-- Who waited for a drawing that the store refused is told that it is done
unfoldable pub done_after_failed_put : List Entry
done_after_failed_put = goes_on [] (render 0 (spot 0 0 0) (Queued 0) ∷ Claim 0 (Job 0 (key 0 0 0) 0)
    ∷ drawn 0 PutFailed ∷ reply 0 0 Outcome.Done ∷ [])

-- A drawing that was not made is stored
unfoldable pub stored_though_cut : List Entry
stored_though_cut = goes_on [] (render 0 (spot 0 0 0) (Queued 0) ∷ Claim 0 (Job 0 (key 0 0 0) 0)
    ∷ Finish 0 false (Stored true) ∷ [])

-- A drawing ends twice
unfoldable pub ended_twice : List Entry
ended_twice = goes_on [] (render 0 (spot 0 0 0) (Queued 0) ∷ Claim 0 (Job 0 (key 0 0 0) 0)
    ∷ drawn 0 (Stored true) ∷ drawn 0 (Stored true) ∷ [])

-- An ask of a connection that was left has a reply
unfoldable pub replied_though_left : List Entry
replied_though_left = goes_on [] (render 0 (spot 10 0 0) (Queued 0) ∷ Claim 0 (Job 0 (key 10 0 0) 0)
    ∷ Leave (conn 0) 1 ∷ drawn 0 (Stored true) ∷ reply 0 0 Outcome.Done ∷ [])

-- What only a connection that was left had asked for waits no longer
unfoldable pub left_with_its_items : List Entry
left_with_its_items =
    goes_on [] (render 0 (spot 10 0 0) (Queued 0) ∷ Leave (conn 0) 1 ∷ Claim 0 Idle ∷ [])

-- A reply is counted as done before it is collected
unfoldable pub counted_before_collected : List Entry
counted_before_collected =
    goes_on [] (render 0 (spot 10 0 0) (Queued 0) ∷ Claim 0 (Job 0 (key 10 0 0) 0)
    ∷ drawn 0 (Stored true) ∷ Tally (record { asks = 1; done = 1; stored = 1; version = 0 }) ∷ [])

-- A metatile that waits in the bulk queue is queued a second time and not moved: it is given out
-- twice
unfoldable pub queued_a_second_time : List Entry
queued_a_second_time =
    goes_on [] (Ask (conn 0) Cmd.Bulk (spot 10 0 0) (Queued 0) ∷ Ask (conn 1) Cmd.Low (spot 10 0 0)
    (Lifted 1) ∷ Claim 0 (Job 0 (key 10 0 0) 0) ∷ Claim 1 (Job 1 (key 10 0 0) 0) ∷ [])

-- A better command leaves what waits in the bulk queue there
unfoldable pub joined_in_bulk : List Entry
joined_in_bulk = goes_on [] (Ask (conn 0) Cmd.Bulk (spot 10 0 0) (Queued 0)
    ∷ Ask (conn 1) Cmd.Low (spot 10 0 0) (Joined 1) ∷ [])

-- An ask with Dirty leaves the metatile clean
unfoldable pub marked_and_clean : List Entry
marked_and_clean = goes_on []
    (render 0 (spot 0 0 0) (Queued 0) ∷ Claim 0 (Job 0 (key 0 0 0) 0) ∷ drawn 0 (Stored true)
    ∷ Ask (conn 1) Cmd.Dirty (spot 0 0 0) Silent ∷ render 0 (spot 0 0 0) AskAnswer.Done ∷ [])

-- A drawing is stored as clean although its map was given another style after its Claim
unfoldable pub clean_in_the_old_style : List Entry
clean_in_the_old_style = goes_on [] (render 0 (spot 0 0 0) (Queued 0)
    ∷ Claim 0 (Job 0 (key 0 0 0) 0) ∷ Restyle 0 (Styled 0) ∷ drawn 0 (Stored true) ∷ [])

-- A drawing that was claimed after the change has the old style
unfoldable pub drawn_in_the_old_style : List Entry
drawn_in_the_old_style = goes_on []
    (render 0 (spot 0 0 0) (Queued 0) ∷ Restyle 0 (Styled 0) ∷ Claim 0 (Job 0 (key 0 0 0) 0)
    ∷ drawn 0 (Stored true) ∷ Fetch (spot 0 0 0) (Fetched.Clean 0 (0 ∷ 0 ∷ 0 ∷ 0 ∷ [])) ∷ [])

-- A style that the table does not have is set
unfoldable pub restyled_past_the_table : List Entry
restyled_past_the_table = goes_on [] (Restyle 9 (Styled 0) ∷ [])

-- A renew leaves clean what its update reaches
unfoldable pub clean_though_reached : List Entry
clean_though_reached =
    goes_on [] (render 0 (spot 4 0 0) (Queued 0) ∷ Claim 0 (Job 0 (key 4 0 0) 0) ∷ drawn 0
    (Stored true) ∷ Renew 0 (Renewed.Version 1 1) ∷ Look (spot 4 0 0) (Looked.Clean 0) ∷ [])

-- A renew makes dirty what its update does not reach
unfoldable pub renewed_out_of_reach : List Entry
renewed_out_of_reach = goes_on [] (render 0 (spot 4 8 8) (Queued 0) ∷ Claim 0 (Job 0 (key 4 8 8) 0)
    ∷ drawn 0 (Stored true) ∷ Renew 0 (Renewed.Version 1 1) ∷ [])

-- A store that tells its content has lost what is shown
unfoldable pub gone_though_told : List Entry
gone_though_told = goes_on [] (render 0 (spot 0 0 0) (Queued 0) ∷ Claim 0 (Job 0 (key 0 0 0) 0)
    ∷ drawn 0 (Stored true) ∷ Fetch (spot 0 0 0) Fetched.Gone ∷ [])
