-- A file that is read and judged.
use Rattle.std.proofs.Common.{◌≡◌, ℕ, ◌⊎◌, inl, inr, List, [], refl, sym, ap, subst, ◌∙◌}
use Rattle.std.specs.Prelude.{Option, Some, None, unwrap_or, Result, Ok, Err, Vec}
use Rattle.std.specs.declared.alloc.Global.{Global}
use Rattle.farm_base.specs.declared.files.FileFault.{FileFault}
use Rattle.farm_base.specs.declared.files.FileFault.TheVariants as file_fault
use Rattle.reading.specs.Steps.{Gives}
use Rattle.farm_base.specs.Outside.{Reads}
use Rattle.exit_status.specs.Stops.{refused_line, unreadable_line}
use Rattle.exit_status.specs.Ends.{FilesAt}
use Rattle.exit_status.specs.declared.stops.Stop.{Stop}
use Rattle.exit_status.specs.declared.stops.Stop.TheVariants as stop
use Rattle.farm_files.specs.Course.{made, reads, judged, file}
use Rattle.farm_files.specs.inner.Follows.{After, Follows, Says, Tells}
use Rattle.farm_files.proofs.Courses.{ended, follows_wanting, follows_stop}

-- ---- the bytes are judged

pub judged_value : {A E : Type 0} (text : E → Option (List ℕ)) (name : List ℕ) (x : A) (means : Result A E) → Tells text means (Ok x) → Says (judged text name means) (Ok x)
judged_value {A} {E} text name x means told at = subst (λ (m : Result A E). Follows (judged text name m) at at (Ok x)) (sym told) (inl refl, refl)

pub judged_fault : (A : Type 0) {E : Type 0} (text : E → Option (List ℕ)) (name said : List ℕ) (fault : E) (s : Stop) (means : Result A E)
    → text fault ≡ Some said → (s ≡ stop.NoMemory) ⊎ (s ≡ stop.Refused (refused_line name said)) → Tells text means (Err fault)
    → Says (judged text name means) (ended {A = A} s)
judged_fault A {E} text name said fault s means has (inl none) told at =
    subst (λ (x : Stop). Follows (judged text name means) at at (ended {A = A} x)) (sym none) (follows_wanting (judged text name means) at)
judged_fault A {E} text name said fault s means has (inr line) told at =
    subst (λ (m : Result A E). Follows (judged text name m) at at (ended {A = A} s)) (sym (told said has))
    (inl (ap (λ (x : Stop). ended {A = A} x) (line ∙ ap (λ (o : Option (List ℕ)). stop.Refused (refused_line name (unwrap_or o []))) (sym has))), refl)

pub judged_wanting : (A : Type 0) {E : Type 0} (text : E → Option (List ℕ)) (name : List ℕ) (fault : E) (means : Result A E) → Tells text means (Err fault)
    → Says (judged text name means) (ended {A = A} stop.NoMemory)
judged_wanting A text name fault means told at = follows_wanting (judged text name means) at

-- a reader that may be in want of memory, whose fault for it has no text
pub told_by : {A F : Type 0} (text : F → Option (List ℕ)) (memory : F) (means read : Result A F) → text memory ≡ None
    → Gives memory (λ (x : A). x) means read → Tells text means read
told_by text memory means (Ok x) none gives = gives
told_by text memory means (Err fault) none gives = λ said has. gives (λ same. (let wrong : Some said ≡ None = sym has ∙ ap text same ∙ none in cc))

-- a reader that takes no memory
pub tells_same : {A F : Type 0} (text : F → Option (List ℕ)) (means read : Result A F) → read ≡ means → Tells text means read
tells_same text means (Ok x) same = sym same
tells_same text means (Err fault) same = λ said has. sym same

-- ---- a file is read and its bytes are judged

unread : {A E : Type 0} (text : E → Option (List ℕ)) (name : List ℕ) (bytes slice : List ℕ) (meaning : List ℕ → Result A E) (middle end : FilesAt) (result : Result A Stop)
    (read : Result (Vec ℕ Global) FileFault) → After (λ b. Follows (made b) middle end (Ok bytes)) name middle end (Ok bytes) read → slice ≡ bytes
    → Says (judged text name (meaning slice)) result → After (λ b. Follows (judged text name (meaning b)) middle end result) name middle end result read
unread text name bytes slice meaning middle end result (Ok v) (inl e, same) is says =
    let one : bytes ≡ v.items = cc in
    subst (λ (at : FilesAt). Follows (judged text name (meaning v.items)) middle at result) (sym same)
    (subst (λ (b : List ℕ). Follows (judged text name (meaning b)) middle middle result) (is ∙ one) (says middle))
unread text name bytes slice meaning middle end result (Ok v) (inr e, same) is says = absurd (cc)
unread text name bytes slice meaning middle end result (Err file_fault.Failed) (inl e, same) is says = absurd (cc)
unread text name bytes slice meaning middle end result (Err file_fault.Failed) (inr e, same) is says = absurd (cc)
unread text name bytes slice meaning middle end result (Err file_fault.NoMemory) (inl e, same) is says = absurd (cc)
unread text name bytes slice meaning middle end result (Err file_fault.NoMemory) (inr e, same) is says = absurd (cc)

-- the bytes that were read say so, and so the file does
pub file_checked : {A E : Type 0} (meaning : List ℕ → Result A E) (text : E → Option (List ℕ)) (name bytes slice : List ℕ) (old new : FilesAt) (read : Result A E) (result : Result A Stop)
    → Follows (reads name made) old new (Ok bytes) → slice ≡ bytes → Tells text (meaning slice) read
    → ((means : Result A E) → Tells text means read → Says (judged text name means) result) → Follows (file meaning text name) old new result
unfolding file
file_checked meaning text name bytes slice old new read result (inl (inl e, same)) is tells says = absurd (cc)
file_checked meaning text name bytes slice old new read result (inl (inr e, same)) is tells says = absurd (cc)
file_checked meaning text name bytes slice old new read result (inr r) is tells says =
    inr (record {
      read = r.read;
      middle = r.middle;
      has = r.has;
      after = unread text name bytes slice meaning r.middle new result r.read r.after is (says (meaning slice) tells);
    })

-- the read came to an early end
pub file_stops : (A : Type 0) {E : Type 0} (meaning : List ℕ → Result A E) (text : E → Option (List ℕ)) (name : List ℕ) (old new : FilesAt) (s : Stop)
    → Follows (reads name made) old new (ended {A = List ℕ} s) → Follows (file meaning text name) old new (ended {A = A} s)
unfolding file
file_stops A meaning text name old new s h = follows_stop (List ℕ) A (reads name made) (λ bytes. judged text name (meaning bytes)) old new s h

-- a read that failed ends so, or in want of memory
pub read_missed : (name : List ℕ) (old new : FilesAt) (fault : FileFault) (s : Stop) → fault ≡ file_fault.Failed → Reads old new name (Err fault)
    → (s ≡ stop.NoMemory) ⊎ (s ≡ stop.Unreadable (unreadable_line name)) → Follows (reads name made) old new (ended {A = List ℕ} s)
read_missed name old new fault s is has end =
    inr (record { read = Err file_fault.Failed; middle = new; has = subst (λ (f : FileFault). Reads old new name (Err f)) is has; after = (ends end, refl) })
  where
    ends : (s ≡ stop.NoMemory) ⊎ (s ≡ stop.Unreadable (unreadable_line name))
        → (ended {A = List ℕ} s ≡ Err (stop.Unreadable (unreadable_line name))) ⊎ (ended {A = List ℕ} s ≡ Err stop.NoMemory)
    ends (inl none) = inr (ap (λ (x : Stop). ended {A = List ℕ} x) none)
    ends (inr line) = inl (ap (λ (x : Stop). ended {A = List ℕ} x) line)
