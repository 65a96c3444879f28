-- `counts_right` is right because it asks every count.
use borrow.Author.Rules.{rules}
use mathlib.Core.Path.{◌≡◌, sym, ◌∙◌}
use mir.Syntax.{w64}
use mir.Val.{SFits}
use mir.Facts.{to_z-of_z}
use Rattle.encoding.specs.computed.Right.{is_count}
use Rattle.progress.specs.declared.progress.Progress.{Progress}
use Rattle.progress.specs.computed.Right.{long_right, count_words_right}
use Rattle.progress.proofs.progress.counts_right.Statement.{statement}
use Rattle.progress.proofs.progress.counts_right.Tie as tie

-- the progress that was lent, seen from after each call
abbrev progress1 : tie.After-is_count → Progress
progress1 c = c.args.p

abbrev progress2 : tie.After-is_count-2 → Progress
progress2 c = progress1 c.before.before.before

abbrev progress3 : tie.After-is_count-3 → Progress
progress3 c = progress2 c.before.before.before

abbrev progress4 : tie.After-is_count-4 → Progress
progress4 c = progress3 c.before.before.before

abbrev progress5 : tie.After-long_right → Progress
progress5 c = progress4 c.before.before.before

-- what each call says, over the word itself
at_is : (c : tie.After-is_count) → c.is_count.result ≡ is_count (progress1 c).at
at_is c = let f : SFits w64 (progress1 c).at = search rules in simp to_z-of_z at c.is_count.ensures

lines_is : (c : tie.After-is_count-2) → c.is_count-2.result ≡ is_count (progress2 c).lines
lines_is c = let f : SFits w64 (progress2 c).lines = search rules in simp to_z-of_z at c.is_count-2.ensures

blocks_is : (c : tie.After-is_count-3) → c.is_count-3.result ≡ is_count (progress3 c).blocks
blocks_is c = let f : SFits w64 (progress3 c).blocks = search rules in simp to_z-of_z at c.is_count-3.ensures

cycles_is : (c : tie.After-is_count-4) → c.is_count-4.result ≡ is_count (progress4 c).cycles
cycles_is c = let f : SFits w64 (progress4 c).cycles = search rules in simp to_z-of_z at c.is_count-4.ensures

ticks_is : (c : tie.After-long_right) → c.long_right.result ≡ long_right (progress5 c).ticks
ticks_is c = c.long_right.ensures

is_count-requires : tie.Need-is_count-requires
is_count-requires c κs = search rules

returns-then-not-is_count : tie.Need-returns-then-not-is_count
unfolding count_words_right
returns-then-not-is_count c = rw (sym (at_is c.before) ∙ c.if-not-is_count.true)

is_count-requires-2 : tie.Need-is_count-requires-2
is_count-requires-2 c κs = search rules

returns-then-not-is_count-2 : tie.Need-returns-then-not-is_count-2
unfolding count_words_right
returns-then-not-is_count-2 c =
    let e1 = c.before.before.before in
    rw (sym (at_is e1.before) ∙ e1.if-not-is_count.false, sym (lines_is c.before) ∙ c.if-not-is_count-2.true)

is_count-requires-3 : tie.Need-is_count-requires-3
is_count-requires-3 c κs = search rules

returns-then-not-is_count-3 : tie.Need-returns-then-not-is_count-3
unfolding count_words_right
returns-then-not-is_count-3 c =
    let e2 = c.before.before.before in
    let e1 = e2.before.before.before in
    rw (
      sym (lines_is e2.before) ∙ e2.if-not-is_count-2.false,
      sym (at_is e1.before)
          ∙ e1.if-not-is_count.false,
      sym (blocks_is c.before) ∙ c.if-not-is_count-3.true,
    )

is_count-requires-4 : tie.Need-is_count-requires-4
is_count-requires-4 c κs = search rules

returns-then-not-is_count-4 : tie.Need-returns-then-not-is_count-4
unfolding count_words_right
returns-then-not-is_count-4 c =
    let e3 = c.before.before.before in
    let e2 = e3.before.before.before in
    let e1 = e2.before.before.before in
    rw (
      sym (blocks_is e3.before) ∙ e3.if-not-is_count-3.false,
      sym (lines_is e2.before)
          ∙ e2.if-not-is_count-2.false,
      sym (at_is e1.before) ∙ e1.if-not-is_count.false,
      sym (cycles_is c.before)
          ∙ c.if-not-is_count-4.true,
    )

long_right-requires : tie.Need-long_right-requires
long_right-requires c κs = search rules

returns : tie.Need-returns
unfolding count_words_right
returns c =
    let e4 = c.before.before in
    let e3 = e4.before.before.before in
    let e2 = e3.before.before.before in
    let e1 = e2.before.before.before in
    ticks_is c ∙ rw (
      sym (cycles_is e4.before) ∙ e4.if-not-is_count-4.false,
      sym (blocks_is e3.before)
          ∙ e3.if-not-is_count-3.false,
      sym (lines_is e2.before) ∙ e2.if-not-is_count-2.false,
      sym (at_is e1.before)
          ∙ e1.if-not-is_count.false,
    )

pub counts_right_spec : {M : Type 1} → statement M
counts_right_spec = tie.close (tie.spec is_count-requires returns-then-not-is_count is_count-requires-2 returns-then-not-is_count-2
    is_count-requires-3 returns-then-not-is_count-3 is_count-requires-4 returns-then-not-is_count-4 long_right-requires returns)
