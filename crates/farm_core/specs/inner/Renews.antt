-- What a renew does to a farm, without a history.
use Rattle.std.specs.Prelude.{ℕ, ◌+◌, ◌≡◌, List, [], ◌∷◌, ◌++◌, slice_get, Ok}
use Rattle.plain_shapes.specs.Data.{update_result}
use Rattle.geo_model.specs.declared.bounds.Bounds.{Bounds}
use Rattle.farm_history.specs.declared.saved.Past.{Past}
use Rattle.farm_history.specs.Plans.{AreApart}
use Rattle.farm_plan.specs.Drawings.{named, update_of}
use Rattle.expiry_lists.specs.Marks.{shown_key}
use Rattle.reach_box.specs.NamedBoxes.{AreBoxesOf, boxes_reach_map}
use Rattle.reach_box.specs.Marks.{is_reached, Expires}
use Rattle.farm_refinement.specs.Seen.{FarmSeen}
use Rattle.farm_refinement.specs.inner.Events.{dirtied_taken}

-- what the boxes reach is touched, among what is shown and among the drawings under way; of what is shown so many were clean. No key is shown twice
pub record Reaches {D : Type 0} (boxes : List Bounds) (old new : FarmSeen D) (count : ℕ)
    : Type 0 where
  pub marks : Expires (is_reached old.plan.maps boxes) old.marks.shown new.marks.shown count
  pub apart : AreApart shown_key old.marks.shown
  pub rest : new ≡ record old {
    taken =
        dirtied_taken (λ k. boxes_reach_map boxes (slice_get old.plan.maps k.map) k.meta) old.taken;
    marks = new.marks;
  }

-- the update's data are the newest now, as one more version, the update is noted, and what it reaches is touched: what boxes of the features reach that it names over the old data
pub record Renews {D : Type 0} (old new : FarmSeen D) (number count : ℕ) : Type 0 where
  pub boxes : List Bounds
  pub names : AreBoxesOf (named old.data_now (update_of old.plan number)) boxes
  pub applied : update_result (update_of old.plan number) old.data_now ≡ Ok new.data_now
  pub marks : Expires (is_reached old.plan.maps boxes) old.marks.shown new.marks.shown count
  pub apart : AreApart shown_key old.marks.shown
  pub rest : new ≡ record old {
    data_now = new.data_now;
    changes = old.changes ++ Past.Renew number ∷ [];
    counts = record old.counts { version = old.counts.version + 1 };
    taken =
        dirtied_taken (λ k. boxes_reach_map boxes (slice_get old.plan.maps k.map) k.meta) old.taken;
    marks = new.marks;
  }
