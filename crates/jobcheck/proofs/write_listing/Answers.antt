use Rattle.std.proofs.Common.{rules, sym, ◌∙◌, arith}
use Rattle.job.specs.laws.Fill.{fill_less}
use Rattle.jobcheck.proofs.write_listing.Goals as goal

pub loop-out-smaller : goal.loop-out-smaller
loop-out-smaller c =
    fill_less c.fill-filled.ensures (omega (arith, c.loop-out.invariant)) (search rules)
    (sym c.is_over.ensures ∙ c.loop-out-test.true)
