-- Each history with a mistake is legal up to its last entry, whose answer is not one that the entries before it give.
use Rattle.std.proofs.Common.{refl, lit<, ◌≡◌, ℕ, ap, arith}
use Rattle.farm_history.specs.declared.queues.Outcome.{Outcome}
use Rattle.farm_history.specs.declared.answers.Collected.{Collected}
use Rattle.farm_history.specs.declared.answers.Tally.{Tally}
use Rattle.farm_history.specs.Plans.{is_servable, overlaps, is_style_of, next}
use Rattle.farm_history.specs.Past.{is_stopped, data_after, style_after, flights, jobs, claimed_keys, shown, is_touched_after, waiting, numbers, open_asks, is_ended_after, replies_to, asks_made, done_asks, stored_drawings}
use Rattle.farm_history.specs.Rules.{Fits}
use Rattle.farm_history.specs.inner.Asks.{answer_of_waiting, answer_by}
use Rattle.farm_laws.specs.Examples.{plain, updated, narrow, restyled, renewed}
use Rattle.farm_laws.specs.Mistakes.{IsMistake, stored_clean_though_expired, clean_by_version, dirty_by_update, updated_past_the_table, update_fault_passed_over, queued_while_drawn, claimed_twice, replied_out_of_order, drawn_over_newest_data, expired_on_its_zoom_alone, expired_beside, joined_though_overtaken, dirty_before_low, dropped_though_room, deferred_past_the_limit, more_drawn_than_workers, claimed_after_stop, shown_after_failed_put, done_after_failed_put, stored_though_cut, ended_twice, replied_though_left, left_with_its_items, counted_before_collected, queued_a_second_time, joined_in_bulk, marked_and_clean, clean_in_the_old_style, drawn_in_the_old_style, restyled_past_the_table, clean_though_reached, renewed_out_of_reach, gone_though_told}

-- the number and the outcome of a reply
abbrev ask_in : Collected → ℕ
ask_in (Collected.Reply r) = r.ask
ask_in _ = 0

abbrev outcome_in : Collected → Outcome
outcome_in (Collected.Reply r) = r.outcome
outcome_in _ = Outcome.Cut

pub stored_clean_though_expired_refused : IsMistake plain stored_clean_though_expired
unfolding stored_clean_though_expired plain Fits is_servable overlaps is_style_of next is_stopped data_after style_after flights jobs claimed_keys shown is_touched_after waiting numbers open_asks is_ended_after replies_to asks_made done_asks stored_drawings answer_by answer_of_waiting
stored_clean_though_expired_refused = ((refl, (refl, (refl, tt))), λ fits. cc fits)

pub clean_by_version_refused : IsMistake plain clean_by_version
unfolding clean_by_version plain Fits is_servable overlaps is_style_of next is_stopped data_after style_after flights jobs claimed_keys shown is_touched_after waiting numbers open_asks is_ended_after replies_to asks_made done_asks stored_drawings answer_by answer_of_waiting
clean_by_version_refused = ((refl, (refl, (refl, (refl, tt)))), λ fits. cc fits)

pub dirty_by_update_refused : IsMistake updated dirty_by_update
unfolding dirty_by_update updated Fits is_servable overlaps is_style_of next is_stopped data_after style_after flights jobs claimed_keys shown is_touched_after waiting numbers open_asks is_ended_after replies_to asks_made done_asks stored_drawings answer_by answer_of_waiting
dirty_by_update_refused = (((lit< tt, refl, refl), (refl, (refl, (refl, tt)))), λ fits. cc fits)

pub updated_past_the_table_refused : IsMistake updated updated_past_the_table
unfolding updated_past_the_table updated Fits is_servable overlaps is_style_of next is_stopped data_after style_after flights jobs claimed_keys shown is_touched_after waiting numbers open_asks is_ended_after replies_to asks_made done_asks stored_drawings answer_by answer_of_waiting
updated_past_the_table_refused = (tt, λ fits. omega (arith, fits.0))

pub update_fault_passed_over_refused : IsMistake updated update_fault_passed_over
unfolding update_fault_passed_over updated Fits is_servable overlaps is_style_of next is_stopped data_after style_after flights jobs claimed_keys shown is_touched_after waiting numbers open_asks is_ended_after replies_to asks_made done_asks stored_drawings answer_by answer_of_waiting
update_fault_passed_over_refused = (tt, λ fits. cc fits.1)

pub queued_while_drawn_refused : IsMistake plain queued_while_drawn
unfolding queued_while_drawn plain Fits is_servable overlaps is_style_of next is_stopped data_after style_after flights jobs claimed_keys shown is_touched_after waiting numbers open_asks is_ended_after replies_to asks_made done_asks stored_drawings answer_by answer_of_waiting
queued_while_drawn_refused = ((refl, (refl, tt)), λ fits. cc fits)

pub claimed_twice_refused : IsMistake plain claimed_twice
unfolding claimed_twice plain Fits is_servable overlaps is_style_of next is_stopped data_after style_after flights jobs claimed_keys shown is_touched_after waiting numbers open_asks is_ended_after replies_to asks_made done_asks stored_drawings answer_by answer_of_waiting
claimed_twice_refused = ((refl, (refl, (refl, tt))), λ fits. cc fits)

pub replied_out_of_order_refused : IsMistake plain replied_out_of_order
unfolding replied_out_of_order plain Fits is_servable overlaps is_style_of next is_stopped data_after style_after flights jobs claimed_keys shown is_touched_after waiting numbers open_asks is_ended_after replies_to asks_made done_asks stored_drawings answer_by answer_of_waiting
replied_out_of_order_refused = ((refl, (refl, (refl, (refl, tt)))), λ fits. omega (arith, ap ask_in fits))

pub drawn_over_newest_data_refused : IsMistake updated drawn_over_newest_data
unfolding drawn_over_newest_data updated Fits is_servable overlaps is_style_of next is_stopped data_after style_after flights jobs claimed_keys shown is_touched_after waiting numbers open_asks is_ended_after replies_to asks_made done_asks stored_drawings answer_by answer_of_waiting
drawn_over_newest_data_refused = ((refl, ((lit< tt, refl, refl), (refl, (refl, tt)))), λ fits. cc fits.2)

pub expired_on_its_zoom_alone_refused : IsMistake plain expired_on_its_zoom_alone
unfolding expired_on_its_zoom_alone plain Fits is_servable overlaps is_style_of next is_stopped data_after style_after flights jobs claimed_keys shown is_touched_after waiting numbers open_asks is_ended_after replies_to asks_made done_asks stored_drawings answer_by answer_of_waiting
expired_on_its_zoom_alone_refused = ((refl, (refl, (refl, tt))), λ fits. cc fits)

pub expired_beside_refused : IsMistake plain expired_beside
unfolding expired_beside plain Fits is_servable overlaps is_style_of next is_stopped data_after style_after flights jobs claimed_keys shown is_touched_after waiting numbers open_asks is_ended_after replies_to asks_made done_asks stored_drawings answer_by answer_of_waiting
expired_beside_refused = ((refl, (refl, (refl, tt))), λ fits. cc fits)

pub joined_though_overtaken_refused : IsMistake plain joined_though_overtaken
unfolding joined_though_overtaken plain Fits is_servable overlaps is_style_of next is_stopped data_after style_after flights jobs claimed_keys shown is_touched_after waiting numbers open_asks is_ended_after replies_to asks_made done_asks stored_drawings answer_by answer_of_waiting
joined_though_overtaken_refused = ((refl, (refl, (refl, tt))), λ fits. cc fits)

pub dirty_before_low_refused : IsMistake narrow dirty_before_low
unfolding dirty_before_low narrow Fits is_servable overlaps is_style_of next is_stopped data_after style_after flights jobs claimed_keys shown is_touched_after waiting numbers open_asks is_ended_after replies_to asks_made done_asks stored_drawings answer_by answer_of_waiting
dirty_before_low_refused = ((refl, (refl, (refl, (refl, (refl, (refl, (refl, (refl, tt)))))))), λ fits. cc fits)

pub dropped_though_room_refused : IsMistake narrow dropped_though_room
unfolding dropped_though_room narrow Fits is_servable overlaps is_style_of next is_stopped data_after style_after flights jobs claimed_keys shown is_touched_after waiting numbers open_asks is_ended_after replies_to asks_made done_asks stored_drawings answer_by answer_of_waiting
dropped_though_room_refused = ((refl, (refl, tt)), λ fits. cc fits)

pub deferred_past_the_limit_refused : IsMistake narrow deferred_past_the_limit
unfolding deferred_past_the_limit narrow Fits is_servable overlaps is_style_of next is_stopped data_after style_after flights jobs claimed_keys shown is_touched_after waiting numbers open_asks is_ended_after replies_to asks_made done_asks stored_drawings answer_by answer_of_waiting
deferred_past_the_limit_refused = ((refl, (refl, (refl, (refl, tt)))), λ fits. cc fits)

pub more_drawn_than_workers_refused : IsMistake narrow more_drawn_than_workers
unfolding more_drawn_than_workers narrow Fits is_servable overlaps is_style_of next is_stopped data_after style_after flights jobs claimed_keys shown is_touched_after waiting numbers open_asks is_ended_after replies_to asks_made done_asks stored_drawings answer_by answer_of_waiting
more_drawn_than_workers_refused = ((refl, (refl, (refl, (refl, (refl, tt))))), λ fits. cc fits)

pub claimed_after_stop_refused : IsMistake plain claimed_after_stop
unfolding claimed_after_stop plain Fits is_servable overlaps is_style_of next is_stopped data_after style_after flights jobs claimed_keys shown is_touched_after waiting numbers open_asks is_ended_after replies_to asks_made done_asks stored_drawings answer_by answer_of_waiting
claimed_after_stop_refused = ((tt, (refl, tt)), λ fits. cc fits)

pub shown_after_failed_put_refused : IsMistake plain shown_after_failed_put
unfolding shown_after_failed_put plain Fits is_servable overlaps is_style_of next is_stopped data_after style_after flights jobs claimed_keys shown is_touched_after waiting numbers open_asks is_ended_after replies_to asks_made done_asks stored_drawings answer_by answer_of_waiting
shown_after_failed_put_refused = ((tt, (refl, (refl, (refl, (refl, (refl, (refl, tt))))))), λ fits. cc fits)

pub done_after_failed_put_refused : IsMistake plain done_after_failed_put
unfolding done_after_failed_put plain Fits is_servable overlaps is_style_of next is_stopped data_after style_after flights jobs claimed_keys shown is_touched_after waiting numbers open_asks is_ended_after replies_to asks_made done_asks stored_drawings answer_by answer_of_waiting
done_after_failed_put_refused = ((tt, (refl, (refl, tt))), λ fits. let same : Outcome.Done ≡ Outcome.NotDone = ap outcome_in fits in cc)

pub stored_though_cut_refused : IsMistake plain stored_though_cut
unfolding stored_though_cut plain Fits is_servable overlaps is_style_of next is_stopped data_after style_after flights jobs claimed_keys shown is_touched_after waiting numbers open_asks is_ended_after replies_to asks_made done_asks stored_drawings answer_by answer_of_waiting
stored_though_cut_refused = ((refl, (refl, tt)), λ fits. fits)

pub ended_twice_refused : IsMistake plain ended_twice
unfolding ended_twice plain Fits is_servable overlaps is_style_of next is_stopped data_after style_after flights jobs claimed_keys shown is_touched_after waiting numbers open_asks is_ended_after replies_to asks_made done_asks stored_drawings answer_by answer_of_waiting
ended_twice_refused = ((refl, (refl, (refl, tt))), λ fits. fits)

pub replied_though_left_refused : IsMistake plain replied_though_left
unfolding replied_though_left plain Fits is_servable overlaps is_style_of next is_stopped data_after style_after flights jobs claimed_keys shown is_touched_after waiting numbers open_asks is_ended_after replies_to asks_made done_asks stored_drawings answer_by answer_of_waiting
replied_though_left_refused = ((refl, (refl, (refl, (refl, tt)))), λ fits. cc fits)

pub left_with_its_items_refused : IsMistake plain left_with_its_items
unfolding left_with_its_items plain Fits is_servable overlaps is_style_of next is_stopped data_after style_after flights jobs claimed_keys shown is_touched_after waiting numbers open_asks is_ended_after replies_to asks_made done_asks stored_drawings answer_by answer_of_waiting
left_with_its_items_refused = ((refl, (refl, tt)), λ fits. cc fits)

pub counted_before_collected_refused : IsMistake plain counted_before_collected
unfolding counted_before_collected plain Fits is_servable overlaps is_style_of next is_stopped data_after style_after flights jobs claimed_keys shown is_touched_after waiting numbers open_asks is_ended_after replies_to asks_made done_asks stored_drawings answer_by answer_of_waiting
counted_before_collected_refused = ((refl, (refl, (refl, tt))), λ fits. omega (arith, ap (λ (t : Tally). t.done) fits))

pub queued_a_second_time_refused : IsMistake plain queued_a_second_time
unfolding queued_a_second_time plain Fits is_servable overlaps is_style_of next is_stopped data_after style_after flights jobs claimed_keys shown is_touched_after waiting numbers open_asks is_ended_after replies_to asks_made done_asks stored_drawings answer_by answer_of_waiting
queued_a_second_time_refused = ((refl, (refl, (refl, tt))), λ fits. cc fits)

pub joined_in_bulk_refused : IsMistake plain joined_in_bulk
unfolding joined_in_bulk plain Fits is_servable overlaps is_style_of next is_stopped data_after style_after flights jobs claimed_keys shown is_touched_after waiting numbers open_asks is_ended_after replies_to asks_made done_asks stored_drawings answer_by answer_of_waiting
joined_in_bulk_refused = ((refl, tt), λ fits. cc fits)

pub marked_and_clean_refused : IsMistake plain marked_and_clean
unfolding marked_and_clean plain Fits is_servable overlaps is_style_of next is_stopped data_after style_after flights jobs claimed_keys shown is_touched_after waiting numbers open_asks is_ended_after replies_to asks_made done_asks stored_drawings answer_by answer_of_waiting
marked_and_clean_refused = ((refl, (refl, (refl, (refl, tt)))), λ fits. cc fits)

pub clean_in_the_old_style_refused : IsMistake restyled clean_in_the_old_style
unfolding clean_in_the_old_style restyled Fits is_servable overlaps is_style_of next is_stopped data_after style_after flights jobs claimed_keys shown is_touched_after waiting numbers open_asks is_ended_after replies_to asks_made done_asks stored_drawings answer_by answer_of_waiting
clean_in_the_old_style_refused = (((lit< tt, refl), (refl, (refl, tt))), λ fits. cc fits)

pub drawn_in_the_old_style_refused : IsMistake restyled drawn_in_the_old_style
unfolding drawn_in_the_old_style restyled Fits is_servable overlaps is_style_of next is_stopped data_after style_after flights jobs claimed_keys shown is_touched_after waiting numbers open_asks is_ended_after replies_to asks_made done_asks stored_drawings answer_by answer_of_waiting
drawn_in_the_old_style_refused = ((refl, (refl, ((lit< tt, refl), (refl, tt)))), λ fits. cc fits.2)

pub restyled_past_the_table_refused : IsMistake restyled restyled_past_the_table
unfolding restyled_past_the_table restyled Fits is_servable overlaps is_style_of next is_stopped data_after style_after flights jobs claimed_keys shown is_touched_after waiting numbers open_asks is_ended_after replies_to asks_made done_asks stored_drawings answer_by answer_of_waiting
restyled_past_the_table_refused = (tt, λ fits. omega (arith, fits.0))

pub clean_though_reached_refused : IsMistake renewed clean_though_reached
unfolding clean_though_reached renewed Fits is_servable overlaps is_style_of next is_stopped data_after style_after flights jobs claimed_keys shown is_touched_after waiting numbers open_asks is_ended_after replies_to asks_made done_asks stored_drawings answer_by answer_of_waiting
clean_though_reached_refused = (((lit< tt, refl, refl, refl), (refl, (refl, (refl, tt)))), λ fits. cc fits)

pub renewed_out_of_reach_refused : IsMistake renewed renewed_out_of_reach
unfolding renewed_out_of_reach renewed Fits is_servable overlaps is_style_of next is_stopped data_after style_after flights jobs claimed_keys shown is_touched_after waiting numbers open_asks is_ended_after replies_to asks_made done_asks stored_drawings answer_by answer_of_waiting
renewed_out_of_reach_refused = ((refl, (refl, (refl, tt))), λ fits. cc fits.3)

pub gone_though_told_refused : IsMistake plain gone_though_told
unfolding gone_though_told plain Fits is_servable overlaps is_style_of next is_stopped data_after style_after flights jobs claimed_keys shown is_touched_after waiting numbers open_asks is_ended_after replies_to asks_made done_asks stored_drawings answer_by answer_of_waiting
gone_though_told_refused = ((refl, (refl, (refl, tt))), λ fits. cc fits)
