-- The job that it seeks in begins within the text.
use Rattle.std.proofs.Common.{ℕ, List, length, sym, subst, ◌≡◌, ◌≤◌, arith, Some}
use Rattle.jobwhere.specs.computed.Asked.{ticks_asked}
use Rattle.jobwhere.specs.laws.Asked.{NumberWithin, begins}
use Rattle.jobwhere.proofs.answer.Goals as goal

-- where the job begins
start : (s : List ℕ) (ticks at : ℕ) → Some (ticks, at) ≡ ticks_asked s → at ≤ length s
start s ticks at e = subst (NumberWithin (length s)) (sym e) (begins s)

pub slice_bounds-find-count : goal.slice_bounds-find-count
slice_bounds-find-count c = omega (arith, start c.args.text.now c.in-Some.ticks c.in-Some.at c.in-Some.ensures)

pub slice_bounds-find-start : goal.slice_bounds-find-start
slice_bounds-find-start c = omega (arith, start c.args.text.now c.in-Some.ticks c.in-Some.at c.in-Some.ensures)
