-- The quotient's bounds show that nothing overflows; a due that is there already takes no tick.
use Rattle.std.proofs.Common.{◌+◌, ◌-◌, arith}
use Rattle.run.specs.laws.Gap.{gap_due, due_unique}
use Rattle.run.proofs.gap.first_gap.Goals as goal

pub returns-then-due-remainder : goal.returns-then-due-remainder
returns-then-due-remainder c =
    due_unique {g = record { ticks = 0; remainder = c.args.remainder + c.args.added - c.args.due }}
    (record { before = λ h. absurd (omega arith); leaves = omega arith }) (gap_due _ _ _ c.requires.0.some)
