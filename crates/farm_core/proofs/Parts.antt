-- A tile's part, from what the two reads of its container gave.
use Rattle.std.proofs.Common.{◌≡◌, ℕ, ◌<◌, ◌≤◌, ◌+◌, ◌-◌, List, length, take, drop, min, Option, Some, None, refl, sym, ap, ◌∙◌, subst, arith}
use Rattle.std.proofs.lemmas.List.{drop_min, drop-take, drop-drop}
use Rattle.std.specs.Prelude.{Ok, Err, IfSome, Vec, option_map}
use Rattle.std.specs.declared.alloc.Global.{Global}
use Rattle.farm_base.specs.declared.faults.MetaFault.TheVariants.{Index}
use Rattle.farm_base.specs.Outside.{Outside}
use Rattle.plain_world.specs.declared.world.Meta.{Meta}
use Rattle.meta_container.specs.declared.container.Entry.{Entry}
use Rattle.meta_container.specs.Container.{head_len}
use Rattle.meta_container.specs.Reading.{entry_found}
use Rattle.tile_store.specs.declared.stores.StoreFault.{StoreFault}
use Rattle.tile_store.specs.declared.stores.StoreFault.TheVariants.{Failed, NoMemory}
use Rattle.tile_store.specs.Stores.{StoreTold, Gets, part}
use Rattle.farm_refinement.specs.Reads.{IsTilePart, IsSpoilt, SpoiltBy, ReadsTile}
use Rattle.farm_core.specs.inner.Effects.{refused_by}

-- what a read gave of what is held
record Held (content : Option (List ℕ)) (f : List ℕ → List ℕ) (x : List ℕ) : Type 0 where
  pub held : List ℕ
  pub is_held : content ≡ Some held
  pub is : x ≡ f held

held_by : (content : Option (List ℕ)) (f : List ℕ → List ℕ) (x : List ℕ) → Some x ≡ option_map f content → Held content f x
held_by None f x e = let none : Option (List ℕ) = None in let n : Some x ≡ none = e in cc
held_by (Some h) f x e = record { held = h; is_held = refl; is = cc }

-- the two reads are of one content
record Both (content : Option (List ℕ)) (head piece : List ℕ) (entry : Entry) : Type 0 where
  pub held : List ℕ
  pub is_held : content ≡ Some held
  pub head_is : head ≡ take head_len held
  pub piece_is : piece ≡ take entry.size (drop entry.offset held)

both : (content : Option (List ℕ)) (head piece : List ℕ) (entry : Entry) → Some head ≡ option_map (part 0 532) content → Some piece ≡ option_map (part entry.offset entry.size) content → Both content head piece entry
both content head piece entry a b =
    let x = held_by content (part 0 532) head a in
    let y = held_by content (part entry.offset entry.size) piece b in
    let same : y.held ≡ x.held = let e : Some y.held ≡ Some x.held = sym y.is_held ∙ x.is_held in cc in
    record { held = x.held; is_held = x.is_held; head_is = x.is; piece_is = y.is ∙ ap (part entry.offset entry.size) same }

pub read_short : (o : Option StoreTold) (path : List ℕ) (m : Meta) (place : ℕ) (head piece : List ℕ) (entry : Entry) → IfSome o (λ t. Some head ≡ option_map (part 0 532) (t.content path)) → IfSome o (λ t. Some piece ≡ option_map (part entry.offset entry.size) (t.content path)) →
    entry_found head m place ≡ Ok entry → length piece < entry.size → IfSome o (λ t. IsSpoilt (t.content path) m place (Index place))
read_short None path m place head piece entry a b is short = tt
read_short (Some t) path m place head piece entry a b is short =
    let r = both (t.content path) head piece entry a b in
    record {
      held = r.held;
      is_held = r.is_held;
      spoilt = subst (SpoiltBy r.held place (Index place)) (sym (ap (λ h. entry_found h m place) (sym r.head_is) ∙ is)) (refl, subst (λ (p : List ℕ). length p < entry.size) r.piece_is short);
    }

pub read_whole : (o : Option StoreTold) (path : List ℕ) (m : Meta) (place : ℕ) (head piece : List ℕ) (entry : Entry) → IfSome o (λ t. Some head ≡ option_map (part 0 532) (t.content path)) → IfSome o (λ t. Some piece ≡ option_map (part entry.offset entry.size) (t.content path)) →
    entry_found head m place ≡ Ok entry → length piece ≡ entry.size → IfSome o (λ t. IsTilePart (t.content path) m place piece)
read_whole None path m place head piece entry a b is whole = tt
read_whole (Some t) path m place head piece entry a b is whole =
    let r = both (t.content path) head piece entry a b in
    record {
      held = r.held;
      is_held = r.is_held;
      entry = entry;
      is_entry = ap (λ h. entry_found h m place) (sym r.head_is) ∙ is;
      bytes_are = r.piece_is;
      whole = whole;
    }

-- a read that found something
pub read_as : (o : Option StoreTold) (view : List ℕ → List ℕ) (path : List ℕ) (found : Option (Vec ℕ Global)) (v : Vec ℕ Global) → found ≡ Some v →
    IfSome o (λ t. option_map (λ (x : Vec ℕ Global). x.items) found ≡ option_map view (t.content path)) → IfSome o (λ t. Some v.items ≡ option_map view (t.content path))
read_as o view path found v is h = subst (λ (f : Option (Vec ℕ Global)). IfSome o (λ t. option_map (λ (x : Vec ℕ Global). x.items) f ≡ option_map view (t.content path))) is h

pub short_as : (len : ℕ) (found : Option (Vec ℕ Global)) (v : Vec ℕ Global) → found ≡ Some v → IfSome found (λ (x : Vec ℕ Global). length x.items ≤ len) → length v.items ≤ len
short_as len found v is h = subst (λ (f : Option (Vec ℕ Global)). IfSome f (λ (x : Vec ℕ Global). length x.items ≤ len)) is h

-- the bytes behind the room of a part that was read with room before it
behind_room : (held piece : List ℕ) (offset size room : ℕ) → room ≤ offset → piece ≡ part (offset - room) (room + size) held
    → drop (min room (length piece)) piece ≡ part offset size held
behind_room held piece offset size room fits is =
    drop_min room piece ∙ ap (drop room) is ∙ drop-take room size (drop (offset - room) held)
    ∙ ap (take size) (drop-drop room (offset - room) held ∙ ap (λ n. drop n held) (omega (arith, fits)))

pub read_behind : (o : Option StoreTold) (path piece : List ℕ) (offset size room from : ℕ) → room ≤ offset → from ≡ offset - room → IfSome o (λ t. Some piece ≡ option_map (part from (room + size)) (t.content path))
    → IfSome o (λ t. Some (drop (min room (length piece)) piece) ≡ option_map (part offset size) (t.content path))
read_behind None path piece offset size room from fits begins is = tt
read_behind (Some t) path piece offset size room from fits begins is =
    let r = held_by (t.content path) (part from (room + size)) piece is in
    ap Some (behind_room r.held piece offset size room fits (r.is ∙ ap (λ n. part n (room + size) r.held) begins)) ∙ ap (option_map (part offset size)) (sym r.is_held)

-- a read that the store refused
pub reads_refused : (view : List ℕ → List ℕ) (old new : Outside StoreTold) (path : List ℕ) (m : Meta) (place : ℕ) (fault : StoreFault) → Gets view old new path (Err fault) → ReadsTile old new path m place (Err (refused_by fault))
reads_refused view old new path m place Failed h = h
reads_refused view old new path m place NoMemory h = h
