use Rattle.std.proofs.Common.{◌+◌, ◌<◌, ◌∙◌, List, length, get_or, ap, sym, subst, arith}
use Rattle.std.proofs.lemmas.List.{get_or_default}
use Rattle.tile_render.specs.declared.pieces.Piece.{Piece}
use Rattle.tile_render.specs.inner.Pieces.{IsPiece, Apart}
use Rattle.std.specs.Prelude.{All}
use Rattle.tile_render.proofs.Joining.{JoinedTo, joined_touching, joined_past, apart_push, joined_all, joined_inside}
use Rattle.tile_render.proofs.pieces.joined.Goals.{then-touches, else-touches+in_ok-push}
use Rattle.tile_render.proofs.pieces.joined.Goals as goal

-- what a place past a list's end is read as
abbrev none : Piece
none = record { place = 0; end = 0 }

pub loop-k-preserved : goal.loop-k-preserved
loop-k-preserved c =
    let pieces = c.args.pieces.now in
    let within : c.loop-k.k < length pieces = omega (arith, c.loop-k-test.true, c.loop-k.auto.k-end) in
    let piece : Piece = get_or pieces c.loop-k.k none in
    let is = get_or_default pieces c.loop-k.k none piece within in
    elim c.if-touches.branch [
      | then-touches w ↦
          rw (w.kept-is) (joined_touching pieces c.loop-k.kept.items c.loop-k.last _ piece c.loop-k.k within c.requires is (sym c.touches.ensures ∙ w.if-touches.true)
          (w.last-is ∙ ap (λ n. record c.loop-k.last { end = n }) w.max.ensures) c.loop-k.invariant)
      | else-touches+in_ok-push w ↦
          rw (w.kept-is, w.last-is) (subst (λ (ps : List Piece). JoinedTo pieces ps piece (c.loop-k.k + 1)) (sym w.in_ok-push.ensures.items)
          (joined_past pieces c.loop-k.kept.items c.loop-k.last piece c.loop-k.k within c.requires is (sym c.touches.ensures ∙ w.if-touches.false) c.loop-k.invariant))
    ]

pub returns-clause-apart : goal.returns-clause-apart
returns-clause-apart c = subst Apart (sym c.in_ok-push-2.ensures.items) (apart_push _ _ c.loop-k.invariant.apart c.loop-k.invariant.before)

pub returns-clause-same : goal.returns-clause-same
returns-clause-same c j i =
    rw c.in_ok-push-2.ensures.items (joined_all c.args.pieces.now c.loop-k.kept.items c.loop-k.last c.loop-k.k (omega (arith, c.loop-k-test.false, c.loop-k.auto.k-end)) c.loop-k.invariant j i)

pub returns-clause-inside : goal.returns-clause-inside
returns-clause-inside c cols rows all =
    subst (λ (ps : List Piece). All (IsPiece cols rows) ps) (sym c.in_ok-push-2.ensures.items)
    (joined_inside c.args.pieces.now c.loop-k.kept.items c.loop-k.last c.loop-k.k cols rows c.loop-k.invariant all)
