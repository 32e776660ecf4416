use Rattle.centre_spans.proofs.marking.mark.Goals as goal

pub mark_within-requires-clause-heights : goal.mark_within-requires-clause-heights
mark_within-requires-clause-heights g c p inside west east held = c.heights.ensures p inside held
