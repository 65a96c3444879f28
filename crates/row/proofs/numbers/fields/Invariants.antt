-- Each number but the last is written with its blank.
use Rattle.row.specs.laws.Numbers.{Written}
use Rattle.row.proofs.numbers.fields.Given as goal

abbrev pub invariant-loop-n : goal.invariant-loop-n
invariant-loop-n l = Written l.numbers l.fn.out l.at l.n-index l.out l.next
