-- Only one gap is due.
use Rattle.std.proofs.Common.{ap, arith}
use Rattle.run.specs.declared.gap.Gap.{Gap}
use Rattle.run.specs.laws.Gap.{next_over, gap_most}
use Rattle.run.proofs.gap.next_by_division.Goals as goal

pub overflow_add-result-2 : goal.overflow_add-result-2
overflow_add-result-2 c =
    omega (
      arith,
      ap (λ (x : Gap). x.ticks) c.first_gap-more.ensures,
      gap_most c.args.due c.args.added c.args.gap.remainder c.requires.0.some,
    )

pub returns : goal.returns
returns c = next_over c.args.due c.args.added c.args.gap c.first_gap-more.ensures
