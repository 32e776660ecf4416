use Rattle.std.proofs.Common.{◌≡◌, map, codes, rules, ◌∙◌}
use Rattle.std.specs.Prelude.{option_map}
use Rattle.clap.specs.Words.{rows_of, found_of, all_of}
use Rattle.clap.proofs.WalkLemmas.{raw_values-rows}
use Rattle.farm_words.proofs.reading.gathered.Goals as goal
use Rattle.farm_words.proofs.reading.gathered.Goals.{in-Some+in_ok-extend_from_slice, in_default}

pub returns-clause-ok : goal.returns-clause-ok
returns-clause-ok c =
    let found : option_map (λ s. map (λ v. v.now) s.now) c.get_strs.result ≡ all_of (codes "words") (rows_of (found_of c.args.matches.now)) =
    c.get_strs.ensures ∙ raw_values-rows (found_of c.args.matches.now) (codes "words") in
    elim c.match-get_strs.branch [
      | in-Some+in_ok-extend_from_slice w ↦ rw (← found, w.in-Some.is) (search rules)
      | in_default w ↦ rw (← found, w.in_default.is) (search rules)
    ]
