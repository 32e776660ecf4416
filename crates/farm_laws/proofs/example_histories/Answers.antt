-- Each by computation.
use Rattle.farm_laws.proofs.Legality as legality
use Rattle.farm_laws.proofs.example_histories.Goals as goal

pub returns : goal.returns
returns c = record {
  speaks = legality.speaks;
  draws_locally = legality.renewed_local;
  updates_by_renews = legality.renewed_only;
  asked_twice_legal = legality.asked_twice_legal;
  expired_while_drawn_legal = legality.expired_while_drawn_legal;
  updated_then_expired_legal = legality.updated_then_expired_legal;
  expired_from_above_legal = legality.expired_from_above_legal;
  updated_while_drawn_legal = legality.updated_while_drawn_legal;
  queues_filled_legal = legality.queues_filled_legal;
  asked_just_often_legal = legality.asked_just_often_legal;
  asked_too_often_legal = legality.asked_too_often_legal;
  put_failed_legal = legality.put_failed_legal;
  drawing_cut_legal = legality.drawing_cut_legal;
  left_alone_legal = legality.left_alone_legal;
  lifted_from_bulk_legal = legality.lifted_from_bulk_legal;
  marked_dirty_legal = legality.marked_dirty_legal;
  restyled_while_drawn_legal = legality.restyled_while_drawn_legal;
  renewed_one_legal = legality.renewed_one_legal;
  changed_legal = legality.changed_legal;
  saved_changes_is = legality.saved_changes_is;
  resumed_changes_is = legality.resumed_changes_is;
  resumed_changes_legal = legality.resumed_changes_legal;
  renewed_both_legal = legality.renewed_both_legal;
  gone_untold_legal = legality.gone_untold_legal;
}
