-- `stage_of` is right because it asks for 1 and 2.
use borrow.Author.Tests.{eq-eqb, ne_eqb}
use Rattle.progress.proofs.progress.stage_of.Statement.{statement}
use Rattle.progress.proofs.progress.stage_of.Tie as tie

returns-then-n-eq1 : tie.Need-returns-then-n-eq1
returns-then-n-eq1 c = rw (eq-eqb _ _ c.if-n-eq1.true)

returns-then-n-eq2 : tie.Need-returns-then-n-eq2
returns-then-n-eq2 c = rw (ne_eqb _ _ c.if-n-eq1.false, eq-eqb _ _ c.if-n-eq2.true)

returns : tie.Need-returns
returns c = rw (ne_eqb _ _ c.if-n-eq1.false, ne_eqb _ _ c.if-n-eq2.false)

pub stage_of_spec : {M : Type 1} → statement M
stage_of_spec = tie.close (tie.spec returns-then-n-eq1 returns-then-n-eq2 returns)
