-- What the store has to hold and to have counted, entry by entry.
use Rattle.std.proofs.Common.{◌≡◌, ◌≢◌, ℕ, ◌+◌, ◌-◌, ◌^◌, ◌≤◌, min, Bool, true, false, cond, ◌==◌, List, [], ◌∷◌, ◌++◌, length, filter, drop, Option, Some, None, is_some, Result, Ok, Err, option_map, refl, sym, ap, ◌∙◌, subst, arith, append-nil, length-append}
use Rattle.std.specs.Prelude.{codes, IfSome, MatchOption}
use Rattle.std.specs.List.{ends_with}
use Rattle.std.proofs.lemmas.List.{drop-append-le}
use Rattle.std.proofs.Math.Seq.{drop-append_seam}
use Rattle.farm_base.specs.declared.files.FailedCall.{FailedCall}
use Rattle.farm_base.specs.Outside.{Outside, Counted}
use Rattle.tile_store.specs.declared.stores.StoreFault.{StoreFault}
use Rattle.tile_store.specs.declared.stores.StoreFault.TheVariants.{Failed, NoMemory}
use Rattle.tile_store.specs.Stores as store
use Rattle.tile_store.specs.Stores.{StoreTold, failed_put, failed_get, with_failed_get, StorePuts}
use Rattle.farm_history.specs.declared.keys.Key.{Key}
use Rattle.farm_history.specs.declared.asks.Spot.{Spot}
use Rattle.farm_history.specs.declared.answers.Finished.{Finished}
use Rattle.farm_history.specs.declared.answers.Finished.TheVariants.{Stored, PutFailed}
use Rattle.farm_history.specs.declared.answers.Fetched.{Fetched}
use Rattle.farm_history.specs.Entries.{Entry, Finish, Fetch}
use Rattle.farm_history.specs.Plans.{same_key, key_of, is_servable}
use Rattle.farm_history.specs.Past.{Flight, flights, flight_in, stored_on, lost_on, shown}
use Rattle.farm_history.specs.Rules.{Legal}
use Rattle.farm_history.proofs.Lists.{same_key-true, same_key-self, filter-append, each-find}
use Rattle.farm_history.proofs.Keyed.{FlightServed, are_served, shown_served}
use Rattle.farm_plan.specs.Plans.{FarmPlan, IsPlan}
use Rattle.farm_plan.specs.Drawings.{plan_of, key_path}
use Rattle.farm_plan.specs.Spots.{IsKeyOf}
use Rattle.farm_plan.proofs.Spots.{served_key, spot_of, key_is}
use Rattle.farm_plan.proofs.Keys.{one_key, path_ends}
use Rattle.farm_refinement.specs.Stands.{flight_path, failures, is_on_meta, Accounts, text_before, HoldsShown, StoreStands}

-- Of an entry that is no failed call and changes nothing of what is shown, all stays.

abbrev pub SameShown : List Entry → Entry → Type 0
SameShown g e = (k : Key) → shown (e ∷ g) k ≡ shown g k

still_accounts : (plan : FarmPlan) (since : ℕ) (g : List Entry) (e : Entry) → failures plan (e ∷ g) ≡ failures plan g → (o : Option StoreTold) → IfSome o (Accounts plan since g) → IfSome o (Accounts plan since (e ∷ g))
still_accounts plan since g e same None a = tt
still_accounts plan since g e same (Some t) a = record { began = a.began; failed = a.failed ∙ sym same }

still_holds : (plan : FarmPlan) (g : List Entry) (e : Entry) → SameShown g e → (o : Option StoreTold) → IfSome o (λ t. HoldsShown plan g t.content) → IfSome o (λ t. HoldsShown plan (e ∷ g) t.content)
still_holds plan g e same None h = tt
still_holds plan g e same (Some t) h = λ k before is. h k before (sym (same k) ∙ is)

pub store_quiet : (plan : FarmPlan) (since : ℕ) (told : Bool) (g : List Entry) (e : Entry) (now : Outside StoreTold) → failures plan (e ∷ g) ≡ failures plan g → SameShown g e → StoreStands plan since told g now → StoreStands plan since told (e ∷ g) now
store_quiet plan since told g e now unfailed same s = record {
  counted = subst (λ xs. min (since + length xs) (2 ^ 64 - 1) ≤ now.faults) (sym unfailed) s.counted;
  accounts = still_accounts plan since g e unfailed now.told s.accounts;
  is_told = s.is_told;
  holds = λ t. still_holds plan g e same now.told (s.holds t);
}

-- A call that failed.

-- one more failed call on a path that ends in `.meta`
pub on_meta : (path front : List ℕ) (put : Bool) → path ≡ front ++ codes ".meta" → is_on_meta (record { name = path; put = put }) ≡ true
on_meta path front put is = ap (λ p. ends_with (λ a b. a == b) p (codes ".meta")) is ∙ go
  where
    go : ends_with (λ a b. a == b) (front ++ codes ".meta") (codes ".meta") ≡ true
    go =
        let long : length (front ++ codes ".meta") - 5 ≡ length front = omega (arith, length-append front (codes ".meta")) in
        rw (long, drop-append_seam front (codes ".meta")) refl

one_failed : (plan : FarmPlan) (since : ℕ) (g : List Entry) (e : Entry) (call : FailedCall) (t : StoreTold) (new : StoreTold) → is_on_meta call ≡ true → failures plan (e ∷ g) ≡ failures plan g ++ call ∷ [] → new.failed ≡ t.failed ++ call ∷ [] → Accounts plan since g t → Accounts plan since (e ∷ g) new
one_failed plan since g e call t new meta more failed a = record {
  began = let long = ap length failed ∙ length-append t.failed (call ∷ []) in let old = a.began in omega (arith, long, old);
  failed =
      ap (λ xs. filter is_on_meta (drop since xs)) failed
      ∙ (ap (filter is_on_meta) (drop-append-le since t.failed (call ∷ []) a.began)
      ∙ (filter-append is_on_meta (drop since t.failed) (call ∷ [])
      ∙ (ap (λ b. filter is_on_meta (drop since t.failed) ++ cond b (call ∷ []) []) meta
      ∙ (ap (λ xs. xs ++ call ∷ []) a.failed ∙ sym more))));
}

-- the count after it
one_counted : (plan : FarmPlan) (since : ℕ) (g : List Entry) (e : Entry) (call : FailedCall) (before now : ℕ) → failures plan (e ∷ g) ≡ failures plan g ++ call ∷ [] → Counted before now → min (since + length (failures plan g)) (2 ^ 64 - 1) ≤ before → min (since + length (failures plan (e ∷ g))) (2 ^ 64 - 1) ≤ now
one_counted plan since g e call before now more rose old =
    let long = ap length more ∙ length-append (failures plan g) (call ∷ []) in
    let up = rose.0 in
    let one = rose.1 in
    omega (arith, long, up, one, old)

-- Whose paths they are.

-- the key of a flight is one of the plan
pub flight_of_plan : (plan : FarmPlan) (told : Bool) (g : List Entry) (t : ℕ) (f : Flight) → IsPlan plan → Legal (plan_of plan) told g → flight_in (flights g) t ≡ Some f → IsKeyOf plan f.key
flight_of_plan plan told g t f valid legal is = served_key plan f.key valid (each-find (FlightServed (plan_of plan)) _ (flights g) f (are_served (plan_of plan) told g legal).flying is)

-- and so is that of what is shown
pub shown_of_plan : (plan : FarmPlan) (told : Bool) (g : List Entry) (k : Key) (before : List Entry) → IsPlan plan → Legal (plan_of plan) told g → shown g k ≡ Some before → IsKeyOf plan k
shown_of_plan plan told g k before valid legal is = served_key plan k valid (shown_served (plan_of plan) told g k before legal is)

-- two keys have two paths
other_path : (plan : FarmPlan) (j k : Key) → IsPlan plan → IsKeyOf plan j → IsKeyOf plan k → same_key j k ≡ false → key_path plan k ≢ key_path plan j
other_path plan j k valid at also other = λ e. let same : j ≡ k = sym (one_key plan k j valid also at e) in let never : true ≡ false = sym (same_key-self j) ∙ (ap (same_key j) same ∙ other) in cc

-- whether the store tells stays
tells_same : (o n : Option StoreTold) (P : StoreTold → StoreTold → Type 0) → MatchOption o (n ≡ None) (λ before. (now : StoreTold) × (n ≡ Some now) × P before now) → is_some n ≡ is_some o
tells_same None n P m = ap is_some m
tells_same (Some b) n P m = ap is_some m.1

-- a fact of what is told before goes on to what is told now
goes_on : (o n : Option StoreTold) (P : StoreTold → StoreTold → Type 0) (Q R : StoreTold → Type 0) → MatchOption o (n ≡ None) (λ before. (now : StoreTold) × (n ≡ Some now) × P before now) → ((before now : StoreTold) → P before now → Q before → R now) → IfSome o Q → IfSome n R
goes_on None n P Q R m step q = subst (λ x. IfSome x R) (sym m) tt
goes_on (Some b) n P Q R m step q = subst (λ x. IfSome x R) (sym m.1) (step b m.0 m.2 q)

-- A drawing that is stored.
pub store_put : (plan : FarmPlan) (since : ℕ) (told : Bool) (g : List Entry) (t : ℕ) (clean : Bool) (f : Flight) (old new : Outside StoreTold) → IsPlan plan → Legal (plan_of plan) told g → flight_in (flights g) t ≡ Some f →
    StorePuts old new (key_path plan f.key) (text_before plan f.before f.key) (Ok tt) → StoreStands plan since told g old → StoreStands plan since told (Finish t true (Stored clean) ∷ g) new
unfolding failures shown
store_put plan since told g t clean f old new valid legal is puts s = record {
  counted = subst (λ n. min (since + length (failures plan g)) (2 ^ 64 - 1) ≤ n) (sym puts.1) s.counted;
  accounts = goes_on old.told new.told (λ b n. store.Stored b n path bytes) (Accounts plan since g) (Accounts plan since (e ∷ g)) puts.0 (λ b n st a. record {
    began = subst (λ xs. since ≤ length xs) (sym st.failed) a.began;
    failed = ap (λ xs. filter is_on_meta (drop since xs)) st.failed ∙ a.failed;
  }) s.accounts;
  is_told = λ tells. tells_same old.told new.told (λ b n. store.Stored b n path bytes) puts.0 ∙ s.is_told tells;
  holds = λ tells. goes_on old.told new.told (λ b n. store.Stored b n path bytes) (λ x. HoldsShown plan g x.content) (λ x. HoldsShown plan (e ∷ g) x.content) puts.0 holds_now (s.holds tells);
}
  where
    e : Entry
    e = Finish t true (Stored clean)

    path : List ℕ
    path = key_path plan f.key

    bytes : List ℕ
    bytes = text_before plan f.before f.key

    holds_now : (b n : StoreTold) → store.Stored b n path bytes → HoldsShown plan g b.content → HoldsShown plan (e ∷ g) n.content
    holds_now b n st h k before s = at (same_key f.key k) refl (sym (ap (λ o. stored_on o k (shown g k)) is) ∙ s)
      where
        at : (c : Bool) → same_key f.key k ≡ c → cond c (Some f.before) (shown g k) ≡ Some before → n.content (key_path plan k) ≡ Some (text_before plan before k)
        at true same found =
            let then : f.before ≡ before = cc in
            subst (λ (x : Key). n.content (key_path plan x) ≡ Some (text_before plan before x)) (same_key-true f.key k same) (st.held ∙ ap (λ x. Some (text_before plan x f.key)) then)
        at false other found =
            st.others (key_path plan k) (other_path plan f.key k valid (flight_of_plan plan told g t f valid legal is) (shown_of_plan plan told g k before valid legal found) other) ∙ h k before found

-- One that the store refused.
pub store_lost : (plan : FarmPlan) (since : ℕ) (told : Bool) (g : List Entry) (t : ℕ) (drawn : Bool) (f : Flight) (bytes : List ℕ) (old new : Outside StoreTold) → IsPlan plan → Legal (plan_of plan) told g → flight_in (flights g) t ≡ Some f →
    StorePuts old new (key_path plan f.key) bytes (Err Failed) → StoreStands plan since told g old → StoreStands plan since told (Finish t drawn PutFailed ∷ g) new
unfolding failures shown
store_lost plan since told g t drawn f bytes old new valid legal is puts s = record {
  counted = one_counted plan since g e call old.faults new.faults more puts.1 s.counted;
  accounts = goes_on old.told new.told (λ b n. store.PutFailed b n path) (Accounts plan since g) (Accounts plan since (e ∷ g)) puts.0 (λ b n st a. one_failed plan since g e call b n meta more st.failed a) s.accounts;
  is_told = λ tells. tells_same old.told new.told (λ b n. store.PutFailed b n path) puts.0 ∙ s.is_told tells;
  holds = λ tells. goes_on old.told new.told (λ b n. store.PutFailed b n path) (λ x. HoldsShown plan g x.content) (λ x. HoldsShown plan (e ∷ g) x.content) puts.0 holds_now (s.holds tells);
}
  where
    e : Entry
    e = Finish t drawn PutFailed

    path : List ℕ
    path = key_path plan f.key

    call : FailedCall
    call = failed_put path

    more : failures plan (e ∷ g) ≡ failures plan g ++ call ∷ []
    more = ap (λ o. failures plan g ++ failed_put (flight_path plan o) ∷ []) is

    meta : is_on_meta call ≡ true
    meta = let ends = path_ends plan f.key (flight_of_plan plan told g t f valid legal is) in on_meta path ends.0 true ends.1

    holds_now : (b n : StoreTold) → store.PutFailed b n path → HoldsShown plan g b.content → HoldsShown plan (e ∷ g) n.content
    holds_now b n st h k before s = at (same_key f.key k) refl (sym (ap (λ o. lost_on o k (shown g k)) is) ∙ s)
      where
        at : (c : Bool) → same_key f.key k ≡ c → cond c None (shown g k) ≡ Some before → n.content (key_path plan k) ≡ Some (text_before plan before k)
        at true same found = cc
        at false other found =
            st.others (key_path plan k) (other_path plan f.key k valid (flight_of_plan plan told g t f valid legal is) (shown_of_plan plan told g k before valid legal found) other) ∙ h k before found

-- One that was not drawn, or had no memory: the store is as it was.
pub store_cut : (plan : FarmPlan) (since : ℕ) (told : Bool) (g : List Entry) (t : ℕ) (drawn : Bool) (now : Outside StoreTold) → StoreStands plan since told g now → StoreStands plan since told (Finish t drawn Finished.NoMemory ∷ g) now
unfolding failures shown
store_cut plan since told g t drawn now s = store_quiet plan since told g (Finish t drawn Finished.NoMemory) now refl (λ k. refl) s

-- A read that the store refused.
pub store_ungot : (plan : FarmPlan) (since : ℕ) (told : Bool) (g : List Entry) (spot : Spot) (old new : Outside StoreTold) → IsPlan plan → is_servable (plan_of plan) spot ≡ true →
    new.told ≡ option_map (with_failed_get (key_path plan (key_of spot))) old.told → Counted old.faults new.faults → StoreStands plan since told g old → StoreStands plan since told (Fetch spot Fetched.GetFailed ∷ g) new
unfolding failures shown
store_ungot plan since told g spot old new valid servable told_is rose s = record {
  counted = one_counted plan since g e call old.faults new.faults refl rose s.counted;
  accounts = subst (λ x. IfSome x (Accounts plan since (e ∷ g))) (sym told_is) (counted_now old.told s.accounts);
  is_told = λ tells. ap is_some told_is ∙ (still old.told ∙ s.is_told tells);
  holds = λ tells. subst (λ x. IfSome x (λ t. HoldsShown plan (e ∷ g) t.content)) (sym told_is) (held_now old.told (s.holds tells));
}
  where
    e : Entry
    e = Fetch spot Fetched.GetFailed

    path : List ℕ
    path = key_path plan (key_of spot)

    call : FailedCall
    call = failed_get path

    meta : is_on_meta call ≡ true
    meta = let ends = path_ends plan (key_of spot) (key_is plan spot (spot_of plan spot valid servable)) in on_meta path ends.0 false ends.1

    still : (o : Option StoreTold) → is_some (option_map (with_failed_get path) o) ≡ is_some o
    still None = refl
    still (Some t) = refl

    counted_now : (o : Option StoreTold) → IfSome o (Accounts plan since g) → IfSome (option_map (with_failed_get path) o) (Accounts plan since (e ∷ g))
    counted_now None a = tt
    counted_now (Some t) a = one_failed plan since g e call t (with_failed_get path t) meta refl refl a

    held_now : (o : Option StoreTold) → IfSome o (λ t. HoldsShown plan g t.content) → IfSome (option_map (with_failed_get path) o) (λ t. HoldsShown plan (e ∷ g) t.content)
    held_now None h = tt
    held_now (Some t) h = h

-- A put beside the metatiles: its path does not end in `.meta`.

beside_path : (plan : FarmPlan) (path : List ℕ) (k : Key) → IsKeyOf plan k → ends_with (λ a b. a == b) path (codes ".meta") ≡ false → key_path plan k ≢ path
beside_path plan path k at beside = λ e. let ends = path_ends plan k at in let meta = on_meta path ends.0 true (sym e ∙ ends.1) in let never : true ≡ false = sym meta ∙ beside in cc

pub store_beside : (plan : FarmPlan) (since : ℕ) (told : Bool) (g : List Entry) (path bytes : List ℕ) (old new : Outside StoreTold) (r : Result (Unit {0}) StoreFault) → IsPlan plan → Legal (plan_of plan) told g → ends_with (λ a b. a == b) path (codes ".meta") ≡ false →
    StorePuts old new path bytes r → StoreStands plan since told g old → StoreStands plan since told g new
store_beside plan since told g path bytes old new (Ok done) valid legal beside puts s = record {
  counted = subst (λ n. min (since + length (failures plan g)) (2 ^ 64 - 1) ≤ n) (sym puts.1) s.counted;
  accounts = goes_on old.told new.told (λ b n. store.Stored b n path bytes) (Accounts plan since g) (Accounts plan since g) puts.0 (λ b n st a. record {
    began = subst (λ xs. since ≤ length xs) (sym st.failed) a.began;
    failed = ap (λ xs. filter is_on_meta (drop since xs)) st.failed ∙ a.failed;
  }) s.accounts;
  is_told = λ tells. tells_same old.told new.told (λ b n. store.Stored b n path bytes) puts.0 ∙ s.is_told tells;
  holds = λ tells. goes_on old.told new.told (λ b n. store.Stored b n path bytes) (λ x. HoldsShown plan g x.content) (λ x. HoldsShown plan g x.content) puts.0
      (λ b n st h k before is. st.others (key_path plan k) (beside_path plan path k (shown_of_plan plan told g k before valid legal is) beside) ∙ h k before is) (s.holds tells);
}
store_beside plan since told g path bytes old new (Err Failed) valid legal beside puts s = record {
  counted = let up = puts.1.0 in let had = s.counted in omega (arith, up, had);
  accounts = goes_on old.told new.told (λ b n. store.PutFailed b n path) (Accounts plan since g) (Accounts plan since g) puts.0 (λ b n st a. record {
    began = let long = ap length st.failed ∙ length-append b.failed (failed_put path ∷ []) in let had = a.began in omega (arith, long, had);
    failed =
        ap (λ xs. filter is_on_meta (drop since xs)) st.failed
        ∙ (ap (filter is_on_meta) (drop-append-le since b.failed (failed_put path ∷ []) a.began)
        ∙ (filter-append is_on_meta (drop since b.failed) (failed_put path ∷ [])
        ∙ (ap (λ c. filter is_on_meta (drop since b.failed) ++ cond c (failed_put path ∷ []) []) beside
        ∙ (append-nil _ ∙ a.failed))));
  }) s.accounts;
  is_told = λ tells. tells_same old.told new.told (λ b n. store.PutFailed b n path) puts.0 ∙ s.is_told tells;
  holds = λ tells. goes_on old.told new.told (λ b n. store.PutFailed b n path) (λ x. HoldsShown plan g x.content) (λ x. HoldsShown plan g x.content) puts.0
      (λ b n st h k before is. st.others (key_path plan k) (beside_path plan path k (shown_of_plan plan told g k before valid legal is) beside) ∙ h k before is) (s.holds tells);
}
store_beside plan since told g path bytes old new (Err NoMemory) valid legal beside puts s = subst (StoreStands plan since told g) (sym puts) s

-- Where a farm begins: a history without failed calls.

drop_all : {X : Type 0} (xs : List X) → drop (length xs) xs ≡ []
drop_all xs = ap (drop (length xs)) (sym (append-nil xs)) ∙ drop-append_seam xs []

began_at : (plan : FarmPlan) (r : List Entry) (n : ℕ) → failures plan r ≡ [] → (o : Option StoreTold) → IfSome o (λ t. n ≡ length t.failed) → IfSome o (Accounts plan n r)
began_at plan r n unfailed None is = tt
began_at plan r n unfailed (Some t) is = record { began = omega (arith, is); failed = ap (λ m. filter is_on_meta (drop m t.failed)) is ∙ (ap (filter is_on_meta) (drop_all t.failed) ∙ sym unfailed) }

pub store_began : (plan : FarmPlan) (told : Bool) (r : List Entry) (now : Outside StoreTold) → failures plan r ≡ [] → IfSome now.told (λ t. now.faults ≡ length t.failed) → (told ≡ true → is_some now.told ≡ true) → (told ≡ true → IfSome now.told (λ t. HoldsShown plan r t.content)) →
    StoreStands plan now.faults told r now
store_began plan told r now unfailed counted tells holds = record {
  counted = let none = ap length unfailed in omega (arith, none);
  accounts = began_at plan r now.faults unfailed now.told counted;
  is_told = tells;
  holds = holds;
}

pub shown_none : (plan : FarmPlan) (o : Option StoreTold) → IfSome o (λ t. HoldsShown plan [] t.content)
unfolding shown
shown_none plan None = tt
shown_none plan (Some t) = λ k before is. cc
