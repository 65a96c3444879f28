-- Each gap is due where it is answered, and only one gap is.
use Rattle.std.proofs.Common.{arith}
use Rattle.run.specs.laws.Gap.{parts, whole_most, next_either, over_fits, if_less_most}
use Rattle.run.proofs.gap.next_gap.Goals as goal

pub overflow_add-result : goal.overflow_add-result
overflow_add-result c = omega (arith, whole_most c.requires.0 (parts c.requires.0 c.requires.1))

pub overflow_add-result-2 : goal.overflow_add-result-2
overflow_add-result-2 c =
    omega (
      arith,
      whole_most c.requires.0 (parts c.requires.0 c.requires.1),
      c.if_less-late.ensures,
      if_less_most c.args.gap.remainder c.args.parts.over 1,
    )

pub overflow_sub-result : goal.overflow_sub-result
overflow_sub-result c =
    omega (
      arith,
      c.if_less-more.ensures,
      over_fits c.requires.0 (parts c.requires.0 c.requires.1) c.args.gap (λ two. omega (arith, c.requires.2 two, c.if-limit-gap.false)),
    )

pub returns : goal.returns
returns c =
    rw (c.if_less-late.ensures, c.if_less-more.ensures)
    (next_either c.requires.0 (parts c.requires.0 c.requires.1) c.args.gap (λ two. omega (arith, c.requires.2 two, c.if-limit-gap.false)))
