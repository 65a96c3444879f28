-- `way_on` is right because its test is that of the definition.
use mathlib.Core.Path.{sym}
use native.Mathlib.Omega.{arith}
use Rattle.circle.proofs.laws.Rank.{onward_lt, onward_ge}
use borrow.Author.Rules.{rules}
use Rattle.circle.proofs.count.way_on.Statement.{statement}
use Rattle.circle.proofs.count.way_on.Tie as tie

overflow_sub-result : tie.Need-overflow_sub-result
overflow_sub-result c = search rules

returns-then-from-to : tie.Need-returns-then-from-to
returns-then-from-to c = let s = c.args in sym (onward_lt s.round s.from s.to (omega arith))

overflow_add-result : tie.Need-overflow_add-result
overflow_add-result c = search rules

overflow_sub-result-2 : tie.Need-overflow_sub-result-2
overflow_sub-result-2 c = search rules

returns : tie.Need-returns
returns c = let s = c.args in sym (onward_ge s.round s.from s.to (omega arith))

pub way_on_spec : {M : Type 1} → statement M
way_on_spec = tie.close (tie.spec overflow_sub-result returns-then-from-to overflow_add-result overflow_sub-result-2 returns)
