-- No drawing so far has the ticket.
use Rattle.std.proofs.Common.{◌≡◌, ◌==◌, find, drop}
use Rattle.render_jobs.proofs.taken.taken_of.Given as goal

abbrev pub invariant-loop-one : goal.invariant-loop-one
invariant-loop-one l = find (λ t. t.ticket == l.ticket) l.taken ≡ find (λ t. t.ticket == l.ticket) (drop l.one-index l.taken)
