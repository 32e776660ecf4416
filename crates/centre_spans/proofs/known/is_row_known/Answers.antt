use Rattle.std.proofs.Common.{◌≡◌, ◌+◌, ◌*◌, ◌/◌, false, get_or, refl, ap, sym, ◌∙◌, inl, inr, arith}
use Rattle.std.proofs.lemmas.Bool.{cases_lt}
use Rattle.centre_spans.specs.Stretches.{gap}
use Rattle.centre_spans.proofs.Rounds.{out_west, out_east}
use Rattle.centre_spans.proofs.known.is_row_known.Goals as goal

pub returns-then-is_out : goal.returns-then-is_out
returns-then-is_out g c out start bits shown i col inside =
    let w = c.args.w in
    let down : c.apart-down.result ≡ gap (w.north + c.args.j * w.pixel + w.pixel / 2) c.args.round.p.y = omega (arith, c.apart-down.ensures, c.from.ensures, c.from-2.ensures) in
    elim (cases_lt i c.known-from.result.0) [
      | inl lt ↦ absurd (out_west c.args.round w i c.args.j c.min.result _ c.from-3.result c.apart-down.result
          (omega (arith, c.min.ensures)) refl (c.from-3.ensures ∙ c.saturating_sub-west.ensures) down (c.is_out.ensures c.if-is_out.true) inside)
      | inr from ↦ (elim (cases_lt i c.known-from.result.1) [
        | inl before ↦ ap (λ n. get_or bits.bits (c.args.j * n + i) false) (sym c.requires.cols)
            ∙ c.known-from.ensures.covered start bits shown i (omega (arith, c.requires.cols)) from before
        | inr past ↦ absurd (out_east c.args.round w i c.args.j c.min-2.result _ c.from-then-is_out.result c.apart-down.result
            (omega (arith, c.min-2.ensures)) refl (c.from-then-is_out.ensures ∙ c.saturating_sub-east.ensures) down (c.is_out-then-is_out.ensures out) inside)
      ])
    ]
