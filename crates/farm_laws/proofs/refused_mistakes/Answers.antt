-- Each by its last answer.
use Rattle.farm_laws.proofs.Refusals as refusals
use Rattle.farm_laws.proofs.refused_mistakes.Goals as goal

pub returns : goal.returns
returns c = record {
  no_stored_clean_though_expired = refusals.stored_clean_though_expired_refused;
  no_clean_by_version = refusals.clean_by_version_refused;
  no_dirty_by_update = refusals.dirty_by_update_refused;
  no_updated_past_the_table = refusals.updated_past_the_table_refused;
  no_update_fault_passed_over = refusals.update_fault_passed_over_refused;
  no_queued_while_drawn = refusals.queued_while_drawn_refused;
  no_claimed_twice = refusals.claimed_twice_refused;
  no_replied_out_of_order = refusals.replied_out_of_order_refused;
  no_drawn_over_newest_data = refusals.drawn_over_newest_data_refused;
  no_expired_on_its_zoom_alone = refusals.expired_on_its_zoom_alone_refused;
  no_expired_beside = refusals.expired_beside_refused;
  no_joined_though_overtaken = refusals.joined_though_overtaken_refused;
  no_dirty_before_low = refusals.dirty_before_low_refused;
  no_dropped_though_room = refusals.dropped_though_room_refused;
  no_deferred_past_the_limit = refusals.deferred_past_the_limit_refused;
  no_more_drawn_than_workers = refusals.more_drawn_than_workers_refused;
  no_claimed_after_stop = refusals.claimed_after_stop_refused;
  no_shown_after_failed_put = refusals.shown_after_failed_put_refused;
  no_done_after_failed_put = refusals.done_after_failed_put_refused;
  no_stored_though_cut = refusals.stored_though_cut_refused;
  no_ended_twice = refusals.ended_twice_refused;
  no_replied_though_left = refusals.replied_though_left_refused;
  no_left_with_its_items = refusals.left_with_its_items_refused;
  no_counted_before_collected = refusals.counted_before_collected_refused;
  no_queued_a_second_time = refusals.queued_a_second_time_refused;
  no_joined_in_bulk = refusals.joined_in_bulk_refused;
  no_marked_and_clean = refusals.marked_and_clean_refused;
  no_clean_in_the_old_style = refusals.clean_in_the_old_style_refused;
  no_drawn_in_the_old_style = refusals.drawn_in_the_old_style_refused;
  no_restyled_past_the_table = refusals.restyled_past_the_table_refused;
  no_clean_though_reached = refusals.clean_though_reached_refused;
  no_renewed_out_of_reach = refusals.renewed_out_of_reach_refused;
  no_gone_though_told = refusals.gone_though_told_refused;
}
