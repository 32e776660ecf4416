-- The example histories are legal, by computation.
use Rattle.std.proofs.Common.{◌≡◌, ℕ, zero, suc, Bool, true, false, ◌&&◌, nat_lt, Option, Some, None, List, refl, ap, ◌∙◌, [], ◌∷◌, ◌++◌, cond, filter, append-nil, lit<, lit≤, arith, ◌<◌, subst, slice_get, option_map}
use Rattle.std.proofs.lemmas.Bool.Decides.{nat_tests}
use Rattle.farm_history.specs.declared.keys.Key.{Key}
use Rattle.farm_history.specs.Plans.{same_key, key_of, map_of, spot_tile, is_at_most, greatest_zoom, is_servable, overlaps, is_style_of, next}
use Rattle.farm_history.specs.Past.{is_stopped, data_after, style_after, flights, jobs, claimed_keys, shown, is_touched_after, waiting, numbers, open_asks, is_ended_after, replies_to, asks_made, done_asks, stored_drawings}
use Rattle.farm_history.specs.Rules.{Fits, Legal}
use Rattle.farm_history.specs.inner.Asks.{answer_of_waiting, answer_by}
use Rattle.farm_history.specs.Laws.{has_plain_update, IsLocal}
use Rattle.farm_history.proofs.Lists.{filter-append, same_key-true}
use Rattle.farm_history.specs.Replays.{changes_after, kept_of, kept_version, version_if_fresh, IsSaved, replay_styles, replay_keys, replay_from, replay}
use Rattle.farm_laws.specs.Mistakes.{gone_though_told}
use Rattle.farm_laws.specs.Examples.{changing, changed, key, saved_changes, resumed_changes, reached, bytes_of, low_narrow, narrow, plain, renewed, restyled, updated, asked_twice, expired_while_drawn, asked_often, asked_too_often, asked_just_often, has_each, updated_then_expired, expired_from_above, updated_while_drawn, queues_filled, put_failed, drawing_cut, left_alone, lifted_from_bulk, marked_dirty, restyled_while_drawn, two_drawn, renewed_one, renewed_both}

pub asked_twice_legal : Legal plain true asked_twice
unfolding asked_twice plain Fits is_servable overlaps is_style_of next is_stopped data_after style_after flights jobs claimed_keys shown is_touched_after waiting numbers open_asks is_ended_after replies_to asks_made done_asks stored_drawings answer_by answer_of_waiting
asked_twice_legal = (refl, (refl, (refl, (refl, (refl, (refl, (refl, (refl, (refl, (refl, tt))))))))))

pub expired_while_drawn_legal : Legal plain true expired_while_drawn
unfolding expired_while_drawn plain Fits is_servable overlaps is_style_of next is_stopped data_after style_after flights jobs claimed_keys shown is_touched_after waiting numbers open_asks is_ended_after replies_to asks_made done_asks stored_drawings answer_by answer_of_waiting
expired_while_drawn_legal = ((refl, refl, refl), (refl, (refl, (refl, (refl, (refl, (refl, (refl, (refl, (refl, (refl, (refl, (refl, (refl, (refl, tt)))))))))))))))

pub updated_then_expired_legal : Legal updated true updated_then_expired
unfolding updated_then_expired updated Fits is_servable overlaps is_style_of next is_stopped data_after style_after flights jobs claimed_keys shown is_touched_after waiting numbers open_asks is_ended_after replies_to asks_made done_asks stored_drawings answer_by answer_of_waiting
updated_then_expired_legal = (refl, (refl, ((lit< tt, refl), (lit≤ tt, (refl, ((lit< tt, refl, refl), (refl, (refl, (refl, tt)))))))))

pub expired_from_above_legal : Legal plain true expired_from_above
unfolding expired_from_above plain Fits is_servable overlaps is_style_of next is_stopped data_after style_after flights jobs claimed_keys shown is_touched_after waiting numbers open_asks is_ended_after replies_to asks_made done_asks stored_drawings answer_by answer_of_waiting
expired_from_above_legal = (refl, (refl, (refl, (refl, (refl, (refl, (refl, (refl, (refl, tt)))))))))

pub updated_while_drawn_legal : Legal updated true updated_while_drawn
unfolding updated_while_drawn updated Fits is_servable overlaps is_style_of next is_stopped data_after style_after flights jobs claimed_keys shown is_touched_after waiting numbers open_asks is_ended_after replies_to asks_made done_asks stored_drawings answer_by answer_of_waiting
updated_while_drawn_legal = (lit≤ tt, ((lit< tt, refl), ((refl, refl, refl), (refl, ((lit< tt, refl, refl), (refl, (refl, tt)))))))

pub queues_filled_legal : Legal narrow true queues_filled
unfolding queues_filled narrow Fits is_servable overlaps is_style_of next is_stopped data_after style_after flights jobs claimed_keys shown is_touched_after waiting numbers open_asks is_ended_after replies_to asks_made done_asks stored_drawings answer_by answer_of_waiting
queues_filled_legal = (refl, (refl, (tt, (refl, (refl, (refl, (refl, (refl, (refl, (refl, (refl, (refl, (refl, (refl, (refl, (refl, (refl, (refl, (refl, (refl, tt))))))))))))))))))))

pub put_failed_legal : Legal plain true put_failed
unfolding put_failed plain Fits is_servable overlaps is_style_of next is_stopped data_after style_after flights jobs claimed_keys shown is_touched_after waiting numbers open_asks is_ended_after replies_to asks_made done_asks stored_drawings answer_by answer_of_waiting
put_failed_legal = (tt, (refl, (refl, (refl, (refl, (refl, (tt, (refl, (refl, (refl, (refl, (refl, (refl, (refl, tt))))))))))))))

pub drawing_cut_legal : Legal plain true drawing_cut
unfolding drawing_cut plain Fits is_servable overlaps is_style_of next is_stopped data_after style_after flights jobs claimed_keys shown is_touched_after waiting numbers open_asks is_ended_after replies_to asks_made done_asks stored_drawings answer_by answer_of_waiting
drawing_cut_legal = (refl, (refl, (tt, (refl, (refl, tt)))))

pub left_alone_legal : Legal plain true left_alone
unfolding left_alone plain Fits is_servable overlaps is_style_of next is_stopped data_after style_after flights jobs claimed_keys shown is_touched_after waiting numbers open_asks is_ended_after replies_to asks_made done_asks stored_drawings answer_by answer_of_waiting
left_alone_legal = (refl, (refl, (refl, (refl, (refl, (refl, (refl, (refl, tt))))))))

pub lifted_from_bulk_legal : Legal low_narrow true lifted_from_bulk
unfolding lifted_from_bulk low_narrow Fits is_servable overlaps is_style_of next is_stopped data_after style_after flights jobs claimed_keys shown is_touched_after waiting numbers open_asks is_ended_after replies_to asks_made done_asks stored_drawings answer_by answer_of_waiting
lifted_from_bulk_legal = (refl, (refl, (refl, (refl, (refl, (refl, (refl, (refl, (refl, (refl, tt))))))))))

pub marked_dirty_legal : Legal plain true marked_dirty
unfolding marked_dirty plain Fits is_servable overlaps is_style_of next is_stopped data_after style_after flights jobs claimed_keys shown is_touched_after waiting numbers open_asks is_ended_after replies_to asks_made done_asks stored_drawings answer_by answer_of_waiting
marked_dirty_legal = (refl, (refl, (refl, (refl, (refl, (refl, (refl, tt)))))))

pub restyled_while_drawn_legal : Legal restyled true restyled_while_drawn
unfolding restyled_while_drawn restyled Fits is_servable overlaps is_style_of next is_stopped data_after style_after flights jobs claimed_keys shown is_touched_after waiting numbers open_asks is_ended_after replies_to asks_made done_asks stored_drawings answer_by answer_of_waiting
restyled_while_drawn_legal = (lit≤ tt, (refl, ((lit< tt, refl), ((refl, refl, refl), (refl, (refl, ((refl, refl, refl), (refl, ((lit< tt, refl), (refl, (refl, tt)))))))))))

pub two_drawn_legal : Legal renewed true two_drawn
unfolding two_drawn renewed Fits is_servable overlaps is_style_of next is_stopped data_after style_after flights jobs claimed_keys shown is_touched_after waiting numbers open_asks is_ended_after replies_to asks_made done_asks stored_drawings answer_by answer_of_waiting
two_drawn_legal = (refl, (refl, (refl, (refl, (refl, (refl, tt))))))

pub renewed_one_legal : Legal renewed true renewed_one
unfolding renewed_one two_drawn renewed Fits is_servable overlaps is_style_of next is_stopped data_after style_after flights jobs claimed_keys shown is_touched_after waiting numbers open_asks is_ended_after replies_to asks_made done_asks stored_drawings answer_by answer_of_waiting
renewed_one_legal = (lit≤ tt, (refl, ((refl, refl, refl), (refl, (refl, ((lit< tt, refl, refl, refl), two_drawn_legal))))))

pub renewed_both_legal : Legal renewed true renewed_both
unfolding renewed_both two_drawn renewed Fits is_servable overlaps is_style_of next is_stopped data_after style_after flights jobs claimed_keys shown is_touched_after waiting numbers open_asks is_ended_after replies_to asks_made done_asks stored_drawings answer_by answer_of_waiting
renewed_both_legal = ((lit< tt, refl, refl, refl), two_drawn_legal)

pub asked_too_often_legal : Legal plain true asked_too_often
unfolding asked_too_often asked_often plain Fits is_servable overlaps is_style_of next is_stopped data_after style_after flights jobs claimed_keys shown is_touched_after waiting numbers open_asks is_ended_after replies_to asks_made done_asks stored_drawings answer_by answer_of_waiting
asked_too_often_legal = (refl, (refl, (refl, (refl, (refl, (refl, (refl, (refl, (refl, (refl, (refl, (refl, (refl, (refl, (refl, (refl, (refl, (refl, (refl, (refl, (refl, (refl, (refl, (refl, (refl, (refl, (refl, (refl, (refl, (refl, (refl, (refl, (refl, (refl, (refl, (refl, (refl, (refl, (refl, (refl, (refl, (refl, (refl, (refl, (refl, (refl, (refl, (refl, (refl, (refl, (refl, (refl, (refl, (refl, (refl, (refl, (refl, (refl, (refl, (refl, (refl, (refl, (refl, (refl, (refl, tt)))))))))))))))))))))))))))))))))))))))))))))))))))))))))))))))))

pub asked_just_often_legal : Legal plain true asked_just_often
unfolding asked_just_often asked_often plain Fits is_servable overlaps is_style_of next is_stopped data_after style_after flights jobs claimed_keys shown is_touched_after waiting numbers open_asks is_ended_after replies_to asks_made done_asks stored_drawings answer_by answer_of_waiting
asked_just_often_legal = (refl, (refl, (refl, (refl, (refl, (refl, (refl, (refl, (refl, (refl, (refl, (refl, (refl, (refl, (refl, (refl, (refl, (refl, (refl, (refl, (refl, (refl, (refl, (refl, (refl, (refl, (refl, (refl, (refl, (refl, (refl, (refl, (refl, (refl, (refl, (refl, (refl, (refl, (refl, (refl, (refl, (refl, (refl, (refl, (refl, (refl, (refl, (refl, (refl, (refl, (refl, (refl, (refl, (refl, (refl, (refl, (refl, (refl, (refl, (refl, (refl, (refl, (refl, (refl, tt))))))))))))))))))))))))))))))))))))))))))))))))))))))))))))))))

-- over a store that does not tell its content, what is shown may be gone
pub gone_untold_legal : Legal plain false gone_though_told
unfolding gone_though_told plain Fits is_servable overlaps is_style_of next is_stopped data_after style_after flights jobs claimed_keys shown is_touched_after waiting numbers open_asks is_ended_after replies_to asks_made done_asks stored_drawings answer_by answer_of_waiting
gone_untold_legal = (refl, (refl, (refl, (refl, tt))))

-- the laws speak of something
pub speaks : has_each expired_while_drawn ≡ true
unfolding expired_while_drawn
speaks = refl

-- what can be served of one map with zooms to 18 is not past zoom 18
not_past : (map : Option ℕ) (z : ℕ) (rest : Bool) → is_at_most z (greatest_zoom (18 ∷ []) map) && rest ≡ true → nat_lt 18 z ≡ false
not_past None z rest h = cc
not_past (Some zero) z rest h = grind (arith, nat_tests)
not_past (Some (suc m)) z rest h = cc

-- an update that does not reach the key is not told where b is false
not_told : (known : List ℕ) (n : ℕ) (k : Key) (b : Bool) → b ≡ false → reached n k ≡ false →
    cond b (known ++ n ∷ []) (filter (λ m. reached m k) (known ++ n ∷ [])) ≡ cond b known (filter (λ m. reached m k) known)
not_told known n k true past unreached = cc
not_told known n k false past unreached =
    filter-append (λ m. reached m k) known (n ∷ []) ∙ (ap (λ b. filter (λ m. reached m k) known ++ cond b (n ∷ []) []) unreached ∙ append-nil _)

-- the farm with renews draws locally
pub renewed_local : IsLocal renewed
unfolding renewed is_servable
renewed_local spot style known n servable unreached =
    ap (bytes_of (map_of spot) style (spot_tile spot)) (not_told known n (key_of spot) (nat_lt 18 spot.z) (not_past spot.map spot.z _ servable) unreached)

pub renewed_only : has_plain_update renewed_one ≡ false
unfolding renewed_one two_drawn has_plain_update
renewed_only = refl

-- the replay is what was meant, and legal
pub resumed_changes_is : replay changing saved_changes ≡ resumed_changes
unfolding changing saved_changes resumed_changes replay_styles replay_keys replay_from Fits is_servable overlaps is_style_of next is_stopped data_after style_after flights jobs claimed_keys shown is_touched_after waiting numbers open_asks is_ended_after replies_to asks_made done_asks stored_drawings answer_by answer_of_waiting
resumed_changes_is = refl

pub resumed_changes_legal : Legal changing true resumed_changes
unfolding changing resumed_changes Fits is_servable overlaps is_style_of next is_stopped data_after style_after flights jobs claimed_keys shown is_touched_after waiting numbers open_asks is_ended_after replies_to asks_made done_asks stored_drawings answer_by answer_of_waiting
resumed_changes_legal = ((lit< tt, refl, refl, refl), (refl, (refl, (refl, (refl, ((lit< tt, refl, refl), (refl, (refl, (refl, (refl, ((lit< tt, refl), tt)))))))))))

pub changed_legal : Legal changing true changed
unfolding changing changed Fits is_servable overlaps is_style_of next is_stopped data_after style_after flights jobs claimed_keys shown is_touched_after waiting numbers open_asks is_ended_after replies_to asks_made done_asks stored_drawings answer_by answer_of_waiting
changed_legal = ((lit< tt, refl, refl, refl), (refl, (refl, (refl, (refl, (refl, (refl, (refl, ((lit< tt, refl, refl), (refl, (refl, (refl, ((lit< tt, refl), tt)))))))))))))

-- Of that history exactly this is saved.

CleanAt : Key → Type 0
CleanAt k = option_map kept_version (kept_of saved_changes.clean k) ≡ version_if_fresh changing changed k (shown changed k)

clean_high : CleanAt (key 4 8 0)
unfolding CleanAt changing changed saved_changes is_servable overlaps is_style_of next is_stopped data_after style_after flights jobs claimed_keys shown is_touched_after waiting numbers open_asks is_ended_after replies_to asks_made done_asks stored_drawings answer_by answer_of_waiting
clean_high = refl

clean_low : CleanAt (key 4 0 8)
unfolding CleanAt changing changed saved_changes is_servable overlaps is_style_of next is_stopped data_after style_after flights jobs claimed_keys shown is_touched_after waiting numbers open_asks is_ended_after replies_to asks_made done_asks stored_drawings answer_by answer_of_waiting
clean_low = refl

clean_other : CleanAt (key 4 8 8)
unfolding CleanAt changing changed saved_changes is_servable overlaps is_style_of next is_stopped data_after style_after flights jobs claimed_keys shown is_touched_after waiting numbers open_asks is_ended_after replies_to asks_made done_asks stored_drawings answer_by answer_of_waiting
clean_other = refl

clean_none : (k : Key) → same_key (key 4 8 0) k ≡ false → same_key (key 4 0 8) k ≡ false → same_key (key 4 8 8) k ≡ false → CleanAt k
unfolding CleanAt changing changed saved_changes is_servable overlaps is_style_of next is_stopped data_after style_after flights jobs claimed_keys shown is_touched_after waiting numbers open_asks is_ended_after replies_to asks_made done_asks stored_drawings answer_by answer_of_waiting
clean_none k high low other = rw (high, low, other) refl

clean_each : (k : Key) → CleanAt k
clean_each k = at_high (same_key (key 4 8 0) k) refl
  where
    at_other : (b : Bool) → same_key (key 4 8 8) k ≡ b → same_key (key 4 8 0) k ≡ false → same_key (key 4 0 8) k ≡ false → CleanAt k
    at_other true is high low = subst CleanAt (same_key-true (key 4 8 8) k is) clean_other
    at_other false is high low = clean_none k high low is

    at_low : (b : Bool) → same_key (key 4 0 8) k ≡ b → same_key (key 4 8 0) k ≡ false → CleanAt k
    at_low true is high = subst CleanAt (same_key-true (key 4 0 8) k is) clean_low
    at_low false is high = at_other (same_key (key 4 8 8) k) refl high is

    at_high : (b : Bool) → same_key (key 4 8 0) k ≡ b → CleanAt k
    at_high true is = subst CleanAt (same_key-true (key 4 8 0) k is) clean_high
    at_high false is = at_low (same_key (key 4 0 8) k) refl is

pub saved_changes_is : IsSaved changing changed saved_changes
unfolding changing changed saved_changes style_after changes_after CleanAt is_style_of
saved_changes_is = record { as_many_styles = refl; styles_are = styles; updates_are = refl; clean_are = clean_each; clean_rise = refl }
  where
    styles : (m : ℕ) → m < 1 → slice_get (Some 0 ∷ []) m ≡ Some (style_after changing changed m)
    styles zero lt = refl
    styles (suc m) lt = absurd (omega (arith, lt))
