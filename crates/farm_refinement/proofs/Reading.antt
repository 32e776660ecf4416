-- Reads: fetches and looks.
use Rattle.std.proofs.Common.{◌≡◌, ℕ, Bool, true, false, not, cond, List, ◌∷◌, length, take, drop, slice_get, Option, Some, None, is_some, Result, Ok, Err, refl, sym, ap, ap₂, ◌∙◌, subst, arith}
use Rattle.std.specs.Prelude.{IfSome, MatchBool}
use Rattle.std.specs.Bool.{OnTrue}
use Rattle.std.proofs.lemmas.Bool.{false_from_ne_true}
use Rattle.std.proofs.lemmas.Option.{same_Some}
use Rattle.farm_base.specs.declared.faults.MetaFault.{MetaFault}
use Rattle.farm_base.specs.Outside.{Outside}
use Rattle.tile_store.specs.Stores.{StoreTold}
use Rattle.plain_world.specs.declared.world.Tile.{Tile}
use Rattle.plain_world.specs.declared.world.Meta.{Meta}
use Rattle.plain_world.specs.World.{meta_of, index_place}
use Rattle.plain_shapes.specs.Features.{Layer}
use Rattle.plain_drawing.specs.Styles.{MapStyle}
use Rattle.plain_drawing.specs.Metatiles.{tiles_of}
use Rattle.meta_container.specs.declared.container.Entry.{Entry as Span}
use Rattle.meta_container.specs.Container.{head_len, container_of}
use Rattle.meta_container.specs.Reading.{entry_found}
use Rattle.meta_container.specs.Laws.{meta_tile as tile_at}
use Rattle.meta_container.proofs.Written.{entries_come_back}
use Rattle.meta_container.proofs.Drawn.{drawn_are_tiles, drawn_in_place}
use Rattle.farm_history.specs.declared.keys.Key.{Key}
use Rattle.farm_history.specs.declared.keys.Mark.{Mark}
use Rattle.farm_history.specs.declared.asks.Spot.{Spot}
use Rattle.farm_history.specs.declared.answers.Fetched.{Fetched}
use Rattle.farm_history.specs.declared.answers.Looked.{Looked}
use Rattle.farm_history.specs.Entries.{Entry, Fetch}
use Rattle.farm_history.specs.Plans.{Plan, key_of, map_of, spot_tile, is_servable}
use Rattle.farm_history.specs.Past.{is_stopped, data_after, version, style_after, drawn_after, flights, jobs, numbers, asks_made, done_asks, stored_drawings, shown, waiting, open_asks, is_ended_after, replies_to, is_touched_after}
use Rattle.farm_history.specs.Rules.{ReadFits, ShownFits, look_at as look_of, look_rule, Fits}
use Rattle.farm_history.specs.Seen.{mark_at, mark_after, waiting_asks, outbox}
use Rattle.farm_history.specs.Replays.{changes_after}
use Rattle.farm_plan.specs.Plans.{FarmPlan, IsPlan}
use Rattle.farm_plan.specs.Drawings.{styled_as, tile_in, meta_in, data_of, container_bytes, key_path, plan_of}
use Rattle.farm_plan.specs.Spots.{IsSpotOf}
use Rattle.farm_plan.proofs.Spots.{spot_of, meta_is}
use Rattle.expiry_lists.specs.Marks.{mark_of}
use Rattle.farm_refinement.specs.Seen.{FarmSeen}
use Rattle.farm_refinement.specs.Stands.{failures, text_before, HoldsShown, StoreStands, StandsFor}
use Rattle.farm_refinement.specs.Reads.{IsTilePart, SpoiltBy, IsSpoilt, ReadsTile, fetched_by}
use Rattle.farm_refinement.specs.inner.Events.{one_turn_more, looked_by, look_at}
use Rattle.farm_refinement.proofs.Storing.{store_quiet, store_ungot}
use Rattle.farm_refinement.proofs.Counting.{IsUncounted, counts_turn}
use Rattle.farm_refinement.proofs.Queueing.{queues_quiet}
use Rattle.farm_refinement.proofs.Stepping.{LeavesAll, quiet, is_idle, idle, idle_step}

-- ---- what the container of a key gives

-- in the container of a spot's metatile the tile's entry is found, and its part is the tile's drawing
record Comes (plan : FarmPlan) (spot : Spot) (styled : Option ℕ) (layers : List Layer) (text : List ℕ) : Type 0 where
  entry : Span
  is_entry : entry_found (take head_len text) (key_of spot).meta (index_place (spot_tile spot)) ≡ Ok entry
  part_is : take entry.size (drop entry.offset text) ≡ tile_in plan (slice_get plan.maps (map_of spot)) styled (spot_tile spot) layers
  size_is : entry.size ≡ length (take entry.size (drop entry.offset text))

comes : (plan : FarmPlan) (spot : Spot) (styled : Option ℕ) (layers : List Layer) → IsSpotOf plan spot → Comes plan spot styled layers (container_bytes plan (key_of spot) styled layers)
comes plan spot styled layers at = subst (λ text. Comes plan spot styled layers text) (sym text_is) (record {
  entry = back.0;
  is_entry = back.1;
  part_is = back.2 ∙ (drawn_in_place style at.map.tile m layers t at.tile refl ∙ sym (ap (λ o. tile_in plan o styled t layers) at.is_map));
  size_is = back.3 ∙ ap length (sym back.2);
})
  where
    m : Meta
    m = meta_of (spot_tile spot)

    t : Tile
    t = spot_tile spot

    style : MapStyle
    style = styled_as plan at.map styled

    text_is : container_bytes plan (key_of spot) styled layers ≡ container_of m (tiles_of style at.map.tile m layers)
    text_is = ap (λ o. meta_in plan o styled m layers) at.is_map

    back : (entry : Span) × (entry_found (take head_len (container_of m (tiles_of style at.map.tile m layers))) m (index_place t) ≡ Ok entry)
        × (take entry.size (drop entry.offset (container_of m (tiles_of style at.map.tile m layers))) ≡ tile_at m (tiles_of style at.map.tile m layers) t)
        × (entry.size ≡ length (tile_at m (tiles_of style at.map.tile m layers) t))
    back = entries_come_back m (tiles_of style at.map.tile m layers) t (drawn_are_tiles style at.map.tile m layers (meta_is plan spot at) at.valid.sized) at.tile refl

one_entry : (x y : Span) → ◌≡◌ {A = Result Span MetaFault} (Ok x) (Ok y) → x ≡ y
one_entry x y e = cc

-- so a part that is read of it is the drawing
part_drawn : (plan : FarmPlan) (spot : Spot) (styled : Option ℕ) (layers : List Layer) (text bytes : List ℕ) (content : Option (List ℕ)) → Comes plan spot styled layers text → content ≡ Some text → IsTilePart content (key_of spot).meta (index_place (spot_tile spot)) bytes →
    bytes ≡ tile_in plan (slice_get plan.maps (map_of spot)) styled (spot_tile spot) layers
part_drawn plan spot styled layers text bytes content c held part =
    let same : text ≡ part.held = same_Some text part.held (sym held ∙ part.is_held) in
    let found : ◌≡◌ {A = Result Span MetaFault} (Ok c.entry) (Ok part.entry) = sym c.is_entry ∙ (ap (λ (x : List ℕ). entry_found (take head_len x) (key_of spot).meta (index_place (spot_tile spot))) same ∙ part.is_entry) in
    let entry : c.entry ≡ part.entry = one_entry c.entry part.entry found in
    part.bytes_are ∙ (ap₂ (λ (x : Span) (y : List ℕ). take x.size (drop x.offset y)) (sym entry) (sym same) ∙ c.part_is)

-- and it is not spoilt
not_spoilt : (plan : FarmPlan) (spot : Spot) (styled : Option ℕ) (layers : List Layer) (text : List ℕ) (content : Option (List ℕ)) (fault : MetaFault) → Comes plan spot styled layers text → content ≡ Some text → IsSpoilt content (key_of spot).meta (index_place (spot_tile spot)) fault → ⊥
not_spoilt plan spot styled layers text content fault c held spoilt =
    let same : text ≡ spoilt.held = same_Some text spoilt.held (sym held ∙ spoilt.is_held) in
    let found : entry_found (take head_len spoilt.held) (key_of spot).meta (index_place (spot_tile spot)) ≡ Ok c.entry = ap (λ (x : List ℕ). entry_found (take head_len x) (key_of spot).meta (index_place (spot_tile spot))) (sym same) ∙ c.is_entry in
    let by = subst (SpoiltBy spoilt.held (index_place (spot_tile spot)) fault) found spoilt.spoilt in
    let short = by.1 in
    let whole : c.entry.size ≡ length (take c.entry.size (drop c.entry.offset spoilt.held)) = c.size_is ∙ ap (λ (x : List ℕ). length (take c.entry.size (drop c.entry.offset x))) same in
    absurd (omega (arith, short, whole))

-- ---- what a fetch of a shown key is answered

-- where it is told what the store holds, it holds the key's container
told_text : (plan : FarmPlan) (since : ℕ) (told : Bool) (g : List Entry) (spot : Spot) (before : List Entry) (now : Outside StoreTold) (Q : StoreTold → Type 0) → StoreStands plan since told g now → shown g (key_of spot) ≡ Some before → told ≡ true → IfSome now.told Q →
    (t : StoreTold) × Q t × (t.content (key_path plan (key_of spot)) ≡ Some (text_before plan before (key_of spot)))
told_text plan since told g spot before now Q s is tells q = go now.told q (s.is_told tells) (s.holds tells)
  where
    go : (o : Option StoreTold) → IfSome o Q → is_some o ≡ true → IfSome o (λ t. HoldsShown plan g t.content) → (t : StoreTold) × Q t × (t.content (key_path plan (key_of spot)) ≡ Some (text_before plan before (key_of spot)))
    go None q some h = let never : false ≡ true = some in cc
    go (Some t) q some h = (t, q, h (key_of spot) before is)

on_true : {X : Type 0} (b : Bool) → (b ≡ true → X) → OnTrue b X
on_true true h = h refl
on_true false h = tt

read_fits : (plan : FarmPlan) (since : ℕ) (told : Bool) (g : List Entry) (spot : Spot) (before : List Entry) (old new : Outside StoreTold) (read : Result (List ℕ) Fetched) → IsSpotOf plan spot → StoreStands plan since told g old → shown g (key_of spot) ≡ Some before →
    ReadsTile old new (key_path plan (key_of spot)) (key_of spot).meta (index_place (spot_tile spot)) read →
    ReadFits (plan_of plan) told g spot before (fetched_by (record { version = version before; clean = not (is_touched_after (plan_of plan) g (length before) (key_of spot)) }) read)
unfolding plan_of
read_fits plan since told g spot before old new (Ok bytes) at s is reads = go (is_touched_after (plan_of plan) g (length before) (key_of spot)) refl
  where
    drawn : told ≡ true → bytes ≡ drawn_after (plan_of plan) before spot
    drawn tells =
        let t = told_text plan since told g spot before old _ s is tells reads.1 in
        part_drawn plan spot (style_after (plan_of plan) before (map_of spot)) (data_of plan (data_after before)) _ bytes _ (comes plan spot (style_after (plan_of plan) before (map_of spot)) (data_of plan (data_after before)) at) t.2 t.1

    go : (b : Bool) → is_touched_after (plan_of plan) g (length before) (key_of spot) ≡ b → ReadFits (plan_of plan) told g spot before (cond (not b) (Fetched.Clean (version before) bytes) (Fetched.Dirty (version before) bytes))
    go true touched = (touched, refl, on_true told drawn)
    go false untouched = (untouched, refl, on_true told drawn)
read_fits plan since told g spot before old new (Err Fetched.Gone) at s is reads = false_from_ne_true told (λ tells. let t = told_text plan since told g spot before old _ s is tells reads.1 in let never : None ≡ Some (text_before plan before (key_of spot)) = sym t.1 ∙ t.2 in cc)
read_fits plan since told g spot before old new (Err (Fetched.Spoilt fault)) at s is reads =
    false_from_ne_true told (λ tells. let t = told_text plan since told g spot before old _ s is tells reads.1 in
    not_spoilt plan spot (style_after (plan_of plan) before (map_of spot)) (data_of plan (data_after before)) _ _ fault (comes plan spot (style_after (plan_of plan) before (map_of spot)) (data_of plan (data_after before)) at) t.2 t.1)
read_fits plan since told g spot before old new (Err Fetched.GetFailed) at s is reads = tt
read_fits plan since told g spot before old new (Err Fetched.NoMemory) at s is reads = tt
read_fits plan since told g spot before old new (Err Fetched.Missing) at s is reads = absurd reads
read_fits plan since told g spot before old new (Err Fetched.Unservable) at s is reads = absurd reads
read_fits plan since told g spot before old new (Err (Fetched.Clean v bytes)) at s is reads = absurd reads
read_fits plan since told g spot before old new (Err (Fetched.Dirty v bytes)) at s is reads = absurd reads

-- ---- fetches

pub fetch_unservable_step : {D : Type 0} (state : D → Outside StoreTold) (told : Bool) (farm : FarmSeen D) (g : List Entry) (spot : Spot) → is_servable (plan_of farm.plan) spot ≡ false → StandsFor state told farm g → StandsFor state told (record farm { counts = one_turn_more farm.counts }) (Fetch spot Fetched.Unservable ∷ g)
unfolding Fits
fetch_unservable_step state told farm g spot off s =
    idle_step state told farm g (Fetch spot Fetched.Unservable) refl (subst (λ b. MatchBool b (ShownFits (plan_of farm.plan) told g spot (shown g (key_of spot)) Fetched.Unservable) (Fetched.Unservable ≡ Fetched.Unservable)) (sym off) refl) s

-- what is shown of a key with a mark, and of one without
no_mark : (p : Plan) (g : List Entry) (k : Key) → mark_after p g k ≡ None → shown g k ≡ None
no_mark p g k h = go (shown g k) refl h
  where
    go : (o : Option (List Entry)) → shown g k ≡ o → mark_at p g k o ≡ None → shown g k ≡ None
    go None is h = is
    go (Some before) is h = cc

record HasMark (p : Plan) (g : List Entry) (k : Key) (m : Mark) : Type 0 where
  before : List Entry
  is_shown : shown g k ≡ Some before
  mark_is : m ≡ record { version = version before; clean = not (is_touched_after p g (length before) k) }

one_mark : (p : Plan) (g : List Entry) (k : Key) (m : Mark) → mark_after p g k ≡ Some m → HasMark p g k m
one_mark p g k m h = go (shown g k) refl h
  where
    go : (o : Option (List Entry)) → shown g k ≡ o → mark_at p g k o ≡ Some m → HasMark p g k m
    go None is h = cc
    go (Some before) is h = record { before = before; is_shown = is; mark_is = cc }

pub fetch_missing_step : {D : Type 0} (state : D → Outside StoreTold) (told : Bool) (farm : FarmSeen D) (g : List Entry) (spot : Spot) → is_servable (plan_of farm.plan) spot ≡ true → mark_of farm.marks.shown (key_of spot) ≡ None → StandsFor state told farm g →
    StandsFor state told (record farm { counts = one_turn_more farm.counts }) (Fetch spot Fetched.Missing ∷ g)
unfolding Fits
fetch_missing_step state told farm g spot on none s =
    idle_step state told farm g (Fetch spot Fetched.Missing) refl
    (subst (λ b. MatchBool b (ShownFits p told g spot (shown g (key_of spot)) Fetched.Missing) (Fetched.Missing ≡ Fetched.Unservable)) (sym on)
    (subst (λ o. ShownFits p told g spot o Fetched.Missing) (sym (no_mark p g (key_of spot) (sym (s.marks_are (key_of spot)) ∙ none))) refl)) s
  where
    p : Plan
    p = plan_of farm.plan

-- the store after a read: as it was, or with one more failed call
store_read : (plan : FarmPlan) (since : ℕ) (told : Bool) (g : List Entry) (spot : Spot) (m : Mark) (old new : Outside StoreTold) (read : Result (List ℕ) Fetched) → IsPlan plan → is_servable (plan_of plan) spot ≡ true → ReadsTile old new (key_path plan (key_of spot)) (key_of spot).meta (index_place (spot_tile spot)) read →
    StoreStands plan since told g old → StoreStands plan since told (Fetch spot (fetched_by m read) ∷ g) new
unfolding failures shown
store_read plan since told g spot m old new (Ok bytes) valid on reads s = go m.clean
  where
    go : (b : Bool) → StoreStands plan since told (Fetch spot (cond b (Fetched.Clean m.version bytes) (Fetched.Dirty m.version bytes)) ∷ g) new
    go true = store_quiet plan since told g _ new refl (λ k. refl) (subst (StoreStands plan since told g) (sym reads.0) s)
    go false = store_quiet plan since told g _ new refl (λ k. refl) (subst (StoreStands plan since told g) (sym reads.0) s)
store_read plan since told g spot m old new (Err answer) valid on reads s = go answer reads
  where
    still : (a : Fetched) → is_idle (Fetch spot a) ≡ true → new ≡ old → StoreStands plan since told (Fetch spot a ∷ g) new
    still a is same = let i = idle plan g (Fetch spot a) is in store_quiet plan since told g (Fetch spot a) new i.same_failures i.same_shown (subst (StoreStands plan since told g) (sym same) s)

    go : (a : Fetched) → ReadsTile old new (key_path plan (key_of spot)) (key_of spot).meta (index_place (spot_tile spot)) (Err a) → StoreStands plan since told (Fetch spot a ∷ g) new
    go Fetched.Gone r = still Fetched.Gone refl r.0
    go (Fetched.Spoilt fault) r = still (Fetched.Spoilt fault) refl r.0
    go Fetched.GetFailed r = store_ungot plan since told g spot old new valid on r.0 r.1 s
    go Fetched.NoMemory r = still Fetched.NoMemory refl r
    go Fetched.Missing r = absurd r
    go Fetched.Unservable r = absurd r
    go (Fetched.Clean v bytes) r = absurd r
    go (Fetched.Dirty v bytes) r = absurd r

-- what every fetch leaves but for the store
record FetchRest (plan : FarmPlan) (g : List Entry) (e : Entry) : Type 0 where
  uncounted : IsUncounted e g
  quiet_one : LeavesAll plan g e
  same_waiting : waiting (plan_of plan) (e ∷ g) ≡ waiting (plan_of plan) g
  same_asks : waiting_asks (e ∷ g) ≡ waiting_asks g
  same_replies : outbox (e ∷ g) ≡ outbox g

fetch_rest : (plan : FarmPlan) (g : List Entry) (spot : Spot) (answer : Fetched) → FetchRest plan g (Fetch spot answer)
unfolding is_stopped data_after numbers jobs asks_made done_asks stored_drawings flights changes_after style_after waiting open_asks is_ended_after replies_to
fetch_rest plan g spot answer = record {
  uncounted = record { stopped_same = refl; version_same = refl; numbers_same = refl; jobs_same = refl; asks_same = refl; done_same = refl; stored_same = refl };
  quiet_one = record { no_finish = refl; untouched = λ k. refl; same_flights = refl; same_data = refl; same_changes = refl; same_styles = λ m. refl };
  same_waiting = refl;
  same_asks = refl;
  same_replies = refl;
}

-- a fetch of what is shown, as the read of its container gave it
pub fetch_read_step : {D : Type 0} (state : D → Outside StoreTold) (told : Bool) (farm : FarmSeen D) (g : List Entry) (spot : Spot) (m : Mark) (read : Result (List ℕ) Fetched) (d : D) → is_servable (plan_of farm.plan) spot ≡ true → mark_of farm.marks.shown (key_of spot) ≡ Some m →
    ReadsTile (state farm.store) (state d) (key_path farm.plan (key_of spot)) (key_of spot).meta (index_place (spot_tile spot)) read → StandsFor state told farm g →
    StandsFor state told (record farm { counts = one_turn_more farm.counts; store = d }) (Fetch spot (fetched_by m read) ∷ g)
unfolding Fits
fetch_read_step state told farm g spot m read d on marked reads s =
    quiet state told farm g e (one_turn_more farm.counts) farm.queues d s rest.quiet_one fits (counts_turn farm.counts g e rest.uncounted s.counts_are)
    (queues_quiet farm.plan farm.queues g e rest.same_waiting rest.quiet_one.same_flights rest.same_asks rest.same_replies s.queues_are)
    (store_read farm.plan (state farm.first).faults told g spot m (state farm.store) (state d) read s.valid on reads s.store_is)
  where
    p : Plan
    p = plan_of farm.plan

    e : Entry
    e = Fetch spot (fetched_by m read)

    rest : FetchRest farm.plan g e
    rest = fetch_rest farm.plan g spot (fetched_by m read)

    has : HasMark p g (key_of spot) m
    has = one_mark p g (key_of spot) m (sym (s.marks_are (key_of spot)) ∙ marked)

    fits : MatchBool (is_servable p spot) (ShownFits p told g spot (shown g (key_of spot)) (fetched_by m read)) (fetched_by m read ≡ Fetched.Unservable)
    fits =
        subst (λ b. MatchBool b (ShownFits p told g spot (shown g (key_of spot)) (fetched_by m read)) (fetched_by m read ≡ Fetched.Unservable)) (sym on)
        (subst (λ o. ShownFits p told g spot o (fetched_by m read)) (sym has.is_shown)
        (subst (λ (x : Mark). ReadFits p told g spot has.before (fetched_by x read)) (sym has.mark_is)
        (read_fits farm.plan (state farm.first).faults told g spot has.before (state farm.store) (state d) read (spot_of farm.plan spot s.valid on) s.store_is has.is_shown reads)))

-- ---- looks

looked_is : (p : Plan) (g : List Entry) (k : Key) (o : Option (List Entry)) → looked_by (mark_at p g k o) ≡ look_of p g k o
looked_is p g k None = refl
looked_is p g k (Some before) = go (is_touched_after p g (length before) k)
  where
    go : (b : Bool) → cond (not b) (Looked.Clean (version before)) (Looked.Dirty (version before)) ≡ cond b (Looked.Dirty (version before)) (Looked.Clean (version before))
    go true = refl
    go false = refl

-- a look is answered by the mark
pub look_is : {D : Type 0} (state : D → Outside StoreTold) (told : Bool) (farm : FarmSeen D) (g : List Entry) (spot : Spot) → StandsFor state told farm g → look_at farm spot ≡ look_rule (plan_of farm.plan) g spot
look_is state told farm g spot s =
    ap (λ x. cond (is_servable (plan_of farm.plan) spot) x Looked.Unservable) (ap looked_by (s.marks_are (key_of spot)) ∙ looked_is (plan_of farm.plan) g (key_of spot) (shown g (key_of spot)))
