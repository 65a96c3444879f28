-- `vz_ahead` is right because its tests are the definition's, the copy goes on as by so many ticks, and these lead from point to point.
use borrow.Author.Rules.{rules}
use mathlib.Core.Path.{sym, ap, ◌∙◌}
use Rattle.record.specs.computed.Words.{bench_in}
use Rattle.cmachine.specs.laws.Looks.{ahead_refused, ahead_far, ahead_near, ahead_told_lem}
use Rattle.cmachine.proofs.lookahead.vz_ahead.Statement.{statement}
use Rattle.cmachine.proofs.lookahead.vz_ahead.Tie as tie

is_sound-requires : tie.Need-is_sound-requires
is_sound-requires c κs = search rules

returns-then-not-is_sound : tie.Need-returns-then-not-is_sound
returns-then-not-is_sound c = ahead_refused _ _ (sym c.is_sound.ensures ∙ c.if-not-is_sound.true)

returns-then-ticks-gt-MOST_TICKS : tie.Need-returns-then-ticks-gt-MOST_TICKS
returns-then-ticks-gt-MOST_TICKS c = ahead_far _ _ (sym c.is_sound.ensures ∙ c.if-not-is_sound.false) c.if-ticks-gt-MOST_TICKS.true

bench_in-k-requires : tie.Need-bench_in-k-requires
bench_in-k-requires c κs = search rules

after_ticks-requires : tie.Need-after_ticks-requires
after_ticks-requires c κs = (sym c.is_sound.ensures ∙ c.if-not-is_sound.false)

bench_in-far-requires : tie.Need-bench_in-far-requires
bench_in-far-requires c κs = search rules

way-requires : tie.Need-way-requires
way-requires c κs =
    ahead_near _ _ (sym c.is_sound.ensures ∙ c.if-not-is_sound.false) c.if-ticks-gt-MOST_TICKS.false c.bench_in-k.ensures
    (c.bench_in-far.ensures ∙ ap bench_in c.after_ticks.ensures)

sum_words-pulses-requires : tie.Need-sum_words-pulses-requires
sum_words-pulses-requires c κs = search rules

returns : tie.Need-returns
returns c =
    simp (c.sum_words-pulses.ensures, c.way.ensures, c.after_ticks.ensures)
    (ahead_told_lem _ _ (sym c.is_sound.ensures ∙ c.if-not-is_sound.false) c.if-ticks-gt-MOST_TICKS.false c.bench_in-k.ensures
    (c.bench_in-far.ensures ∙ ap bench_in c.after_ticks.ensures))

pub vz_ahead_spec : {M : Type 1} → statement M
vz_ahead_spec = tie.close (tie.spec is_sound-requires returns-then-not-is_sound returns-then-ticks-gt-MOST_TICKS bench_in-k-requires
    after_ticks-requires bench_in-far-requires way-requires sum_words-pulses-requires returns)
