-- What the words ask for, by what was read of them.
use Rattle.std.proofs.Common.{◌≡◌, ℕ, ◌⊎◌, inl, inr, Bool, true, false, List, [], ◌∷◌, refl, sym, ap, ap₂, subst, ◌∙◌}
use Rattle.std.specs.Prelude.{◌==◌, Option, Some, None, Result, Ok, Err, IfOk, Vec}
use Rattle.std.specs.declared.alloc.Global.{Global}
use Rattle.farm_base.specs.Outside.{Outside}
use Rattle.tile_store.specs.Stores.{StoreTold}
use Rattle.reading.specs.Steps.{seen}
use Rattle.farm_words.specs.Forms.{Spells, Answers, IsRefused}
use Rattle.farm_words.specs.Values.{values_of, IsPlain, ArePlain}
use Rattle.farm_words.specs.declared.command.Command.{Command}
use Rattle.farm_words.specs.declared.command.Command.TheVariants.{Render, Script, Serve, Load, Meta}
use Rattle.farm_words.specs.declared.command.WordsFault.{WordsFault}
use Rattle.farm_words.specs.declared.command.WordsFault.TheVariants as words_fault
use Rattle.farm_words.proofs.OneCommand.{spell_one}
use Rattle.farm_words.proofs.PlainWords.{plain_values}
use Rattle.exit_status.specs.Ends.{FilesAt, SinkAt, PutsMade}
use Rattle.exit_status.specs.declared.stops.Stop.{Stop}
use Rattle.exit_status.specs.declared.stops.Stop.TheVariants as stop
use Rattle.farm_files.specs.Course.{Course, made, ◌>>=◌}
use Rattle.farm_files.specs.inner.Follows.{Follows}
use Rattle.farm_files.specs.inner.Runs as calls
use Rattle.farm_files.proofs.Courses.{follows_then, follows_stop}
use Rattle.farm_files.specs.Inputs.{ScriptInputs, ServeInputs}
use Rattle.style_objects.specs.TextReadings.{TextReading, text_reading}
use Rattle.style_objects.proofs.ByGrammar.{one_reading, reads_grammar}
use Rattle.farm_files.specs.Courses.{script_course, script_course_by, serve_course, serve_course_by}
use Rattle.script_command.specs.inner.Runs as script
use Rattle.render_command.specs.Courses.{render_course, render_course_by}
use Rattle.render_command.specs.MetaCourses.{meta_course}
use Rattle.farm_call.specs.Words.{AsksFor, IsCourse, Asks}
use Rattle.reactor_ports.specs.declared.ends.FrontDone.{FrontDone}
use Rattle.farm_call.specs.Call.{Work, puts, scripts, loads, serves}
use Rattle.farm_call.specs.inner.Works.{Does}
use Rattle.reactor_ports.specs.Told.{PortsTold}
use Rattle.farm_runs.specs.declared.each_front.EachFront.{EachFront}
use Rattle.farm_call.specs.inner.Serving.{World, over}
use Rattle.farm_call.specs.inner.Steps as serve
use Rattle.farm_call.specs.declared.left.Left.{Left}
use Rattle.farm_call.specs.declared.left.Left.TheVariants.{Store}
use Rattle.farm_call.specs.declared.left.Done.{Done}
use Rattle.farm_call.specs.inner.Runs.{LeavesStore, IsSound, Runs, RunsRead}

-- the values of words that ask for a command are those that clap reads
clap_reads : (words : List (List ℕ)) (c : Command) (a : AsksFor words c) → values_of words ≡ Some a.values
clap_reads words c a = elim a.read [ inl plain ↦ plain_values words plain.0 ∙ ap (λ (vs : List (List ℕ)). Some vs) (sym plain.1) | inr other ↦ other.1 ]

-- a word is plain, or it is not, and so are words
is_plain_or : (word : List ℕ) → IsPlain word ⊎ ¬ (IsPlain word)
is_plain_or [] = inr (λ plain. plain)
is_plain_or (b ∷ bytes) = by_first (b == 45) refl
  where
    by_first : (first : Bool) → (b == 45) ≡ first → IsPlain (b ∷ bytes) ⊎ ¬ (IsPlain (b ∷ bytes))
    by_first true e = inr (λ plain. let both = sym e ∙ plain in cc)
    by_first false e = inl e

are_plain_or : (words : List (List ℕ)) → ArePlain words ⊎ ¬ (ArePlain words)
are_plain_or [] = inl tt
are_plain_or (word ∷ words) =
    elim (is_plain_or word) [
      | inl plain ↦ elim (are_plain_or words) [ inl all ↦ inl (plain, all) | inr none ↦ inr (λ both. none both.1) ]
      | inr not ↦ inr (λ both. not both.0)
    ]

-- the words ask for one command at most
asked_one : (words : List (List ℕ)) (c d : Command) → AsksFor words c → AsksFor words d → c ≡ d
asked_one words c d a b =
    let both : Some a.values ≡ Some b.values = sym (clap_reads words c a) ∙ clap_reads words d b in
    let same : a.values ≡ b.values = cc in
    spell_one c d b.values (subst (λ (vs : List (List ℕ)). Spells c vs) same a.spelled) b.spelled

course_one : (command : Command) (c d : Course Work) → IsCourse command c → IsCourse command d → c ≡ d
course_one (Render style data_name size tile) c d a b =
    a.2 ∙ ap (λ (says : TextReading). render_course_by says style data_name size tile >>= (λ text. made (puts text))) (one_reading a.0 b.0 a.1 b.1) ∙ sym b.2
course_one (Script config lines) c d a b =
    a.2 ∙ ap (λ (says : TextReading). script_course_by says config lines >>= (λ s. made (scripts s))) (one_reading a.0 b.0 a.1 b.1) ∙ sym b.2
course_one (Serve config) c d a b =
    a.2 ∙ ap (λ (says : TextReading). serve_course_by says config >>= (λ s. made (serves s))) (one_reading a.0 b.0 a.1 b.1) ∙ sym b.2
course_one (Load seed n) c d a b = a ∙ sym b
course_one (Meta file) c d a b = a ∙ sym b

-- and so for one course
pub asks_one : (words : List (List ℕ)) (c d : Course Work) → Asks words c → Asks words d → c ≡ d
asks_one words c d a b =
    course_one b.0 c d (subst (λ (x : Command). IsCourse x c) (asked_one words a.0 b.0 a.1 b.1) a.2) b.2

-- what was read of the words, exactly
pub record ReadsWords (words : List (List ℕ)) (read : Result Command WordsFault) : Type 0 where
  pub given : (values : List (List ℕ)) → values_of words ≡ Some values → Answers values read
  pub none : values_of words ≡ None → IsRefused read

asks_values : (words : List (List ℕ)) (c : Command) (o : Option (List (List ℕ))) → values_of words ≡ o → ReadsWords words (Ok c) → AsksFor words c
asks_values words c None h reads = absurd (reads.none h)
asks_values words c (Some values) h reads =
    elim (are_plain_or words) [
      | inl plain ↦
          record { values = words; read = inl (plain, refl); spelled = reads.given words (plain_values words plain) }
      | inr not ↦ record { values = values; read = inr (not, h); spelled = reads.given values h }
    ]

asks_read : (words : List (List ℕ)) (c : Command) → ReadsWords words (Ok c) → AsksFor words c
asks_read words c reads = asks_values words c (values_of words) refl reads

-- and it is sound
spelled_sound : (c : Command) (values : List (List ℕ)) → Spells c values → IsSound c
spelled_sound (Render style data_name size tile) values s = (s.1, s.2)
spelled_sound (Load seed n) values s = s.3
spelled_sound (Script config lines) values s = tt
spelled_sound (Serve config) values s = tt
spelled_sound (Meta file) values s = tt

pub sound_read : (words : List (List ℕ)) (read : Result Command WordsFault) → ReadsWords words read → IfOk read IsSound
sound_read words (Ok c) reads = let a = asks_read words c reads in spelled_sound c a.values a.spelled
sound_read words (Err fault) reads = tt

-- a world is that of its parts
same_world : {D : Type 0} (new : World D) (store : D) (out : SinkAt) (ports : EachFront (Outside PortsTold)) → new.out ≡ out → new.left ≡ Store store → new.fronts ≡ [] → new.ports ≡ ports → new ≡ over out store ports
same_world {D} new store out ports out_is left_is none ports_are =
    ap₂ (λ (o : SinkAt) (l : Left D). record new { out = o; left = l }) out_is left_is
    ∙ ap₂ (λ (fs : List FrontDone) (p : EachFront (Outside PortsTold)). record { out = out; left = Store store; fronts = fs; ports = p }) none ports_are

module _ {D : Type 0} (state : D → Outside StoreTold) (words : List (List ℕ)) (files files' : FilesAt) (store : D) (out : SinkAt) (ports : EachFront (Outside PortsTold)) (new : World D) (end : Result (Unit {0}) Stop) where
  -- a call over these words
  abbrev pub Call : Type 0
  Call = calls.Runs (Asks words) (Does state) files files' (over out store ports) new end

  -- a text was made and put
  text_put : (made_text : Result (Vec ℕ Global) Stop) (course : Course (List ℕ)) → Follows course files files' (seen (λ v. v.items) made_text) → (store' : D) → store' ≡ store → PutsMade out new.out made_text end → new.left ≡ Store store'
      → new.fronts ≡ [] → new.ports ≡ ports → calls.Works (Does state) (course >>= λ text. made (puts text)) files files' (over out store ports) new end
  text_put (Ok v) course h store' same put left_is none ports_are = record {
    made = Ok (puts v.items);
    followed = follows_then course (λ text. made (puts text)) files files' files' v.items (Ok (puts v.items)) h (inl refl, refl);
    goes = (put, left_is ∙ ap (λ (d : D). Store d) same, (none, ports_are));
  }
  text_put (Err s) course h store' same put left_is none ports_are = record {
    made = Err s;
    followed = follows_stop (List ℕ) Work course (λ text. made (puts text)) files files' s h;
    goes = (put.0, same_world new store out ports put.1 (left_is ∙ ap (λ (d : D). Store d) same) none ports_are);
  }

  -- a script's files were read, and it ran
  script_ran : (read : Result ScriptInputs Stop) (course : Course ScriptInputs) → Follows course files files' read → (store' : D) → script.RunsMade state store store' out new.out end read → new.left ≡ Store store' → new.fronts ≡ [] → new.ports ≡ ports
      → calls.Works (Does state) (course >>= λ s. made (scripts s)) files files' (over out store ports) new end
  script_ran (Ok s) course h store' ran left_is none ports_are = record {
    made = Ok (scripts s);
    followed = follows_then course (λ x. made (scripts x)) files files' files' s (Ok (scripts s)) h (inl refl, refl);
    goes = (store, store', refl, left_is, (none, ports_are), ran);
  }
  script_ran (Err q) course h store' ran left_is none ports_are = record {
    made = Err q;
    followed = follows_stop ScriptInputs Work course (λ x. made (scripts x)) files files' q h;
    goes = (ran.0, same_world new store out ports ran.2 (left_is ∙ ap (λ (d : D). Store d) ran.1) none ports_are);
  }

  -- a farm's files were read, and it was served
  served_ran : (read : Result ServeInputs Stop) (course : Course ServeInputs) → Follows course files files' read → serve.ServesMade state store (over out store ports) new end read
      → calls.Works (Does state) (course >>= λ s. made (serves s)) files files' (over out store ports) new end
  served_ran (Ok s) course h ran = record {
    made = Ok (serves s);
    followed = follows_then course (λ x. made (serves x)) files files' files' s (Ok (serves s)) h (inl refl, refl);
    goes = (store, refl, ran);
  }
  served_ran (Err q) course h ran = record { made = Err q; followed = follows_stop ServeInputs Work course (λ x. made (serves x)) files files' q h; goes = ran }

  runs_asked : (c : Command) → AsksFor words c → Runs state c files files' store (over out store ports) new end → Call
  runs_asked (Render style data_name size tile) asks ran =
      let course = render_course style data_name size tile in
      inl (
        course >>= (λ text. made (puts text)),
        (Render style data_name size tile, asks, (text_reading, reads_grammar, refl)),
        text_put ran.ran.0.text course ran.ran.0.followed ran.store' ran.ran.1 ran.ran.0.put ran.left_is ran.no_fronts ran.ports_same,
      )
  runs_asked (Script config lines) asks ran =
      let course = script_course config lines in
      inl (
        course >>= (λ s. made (scripts s)),
        (Script config lines, asks, (text_reading, reads_grammar, refl)),
        script_ran ran.ran.made course ran.ran.followed ran.store' ran.ran.ran ran.left_is ran.no_fronts ran.ports_same,
      )
  runs_asked (Serve config) asks ran =
      let course = serve_course config in
      inl (course >>= (λ s. made (serves s)), (Serve config, asks, (text_reading, reads_grammar, refl)), served_ran ran.made course ran.followed ran.serves)
  runs_asked (Load seed n) asks ran =
      inl (
        made (loads seed n),
        (Load seed n, asks, refl),
        record { made = Ok (loads seed n); followed = (inl refl, ran.ran.1); goes = (store, ran.store', refl, ran.left_is, (ran.no_fronts, ran.ports_same), ran.ran.0) },
      )
  runs_asked (Meta file) asks ran =
      let course = meta_course file in
      inl (
        course >>= (λ text. made (puts text)),
        (Meta file, asks, refl),
        text_put ran.ran.0.text course ran.ran.0.followed ran.store' ran.ran.1 ran.ran.0.put ran.left_is ran.no_fronts ran.ports_same,
      )

  -- the command that was read is done
  pub runs_read : (c : Command) → ReadsWords words (Ok c) → Runs state c files files' store (over out store ports) new end → Call
  runs_read c reads ran = runs_asked c (asks_read words c reads) ran

  -- words that are refused ask for nothing
  none_asked : ReadsWords words (Err words_fault.Refused) → (course : Course Work) → ¬ (Asks words course)
  none_asked reads course asks = reads.given asks.1.values (clap_reads words asks.0 asks.1) asks.0 asks.1.spelled

  -- what was read is done
  pub runs_words : (read : Result Command WordsFault) → ReadsWords words read → RunsRead state read files files' store (over out store ports) new end → Call
  runs_words (Ok c) reads ran = runs_read c reads ran
  runs_words (Err words_fault.Refused) reads ran = inr (inl (none_asked reads, record { ends = ran.0; files_same = ran.1; world_same = ran.2 }))
  runs_words (Err words_fault.NoMemory) reads ran = inr (inr (record { ends = ran.0; files_same = ran.1; world_same = ran.2 }))

-- a command that leaves the store, as it ended
pub leaves : {D : Type 0} (old : World D) (out : SinkAt) (runs : Result (Unit {0}) Stop → D → Type 0) (store' : D) (end : Result (Unit {0}) Stop) (done : Done D) → done.end ≡ end → done.left ≡ Store store' → done.fronts.items ≡ [] → runs end store'
    → LeavesStore old (record { out = out; left = done.left; fronts = done.fronts.items; ports = old.ports }) (runs done.end)
leaves old out runs store' end done end_is left_is none ran = record {
  store' = store';
  left_is = left_is;
  no_fronts = none;
  ports_same = refl;
  ran = subst (λ (e : Result (Unit {0}) Stop). runs e store') (sym end_is) ran;
}
