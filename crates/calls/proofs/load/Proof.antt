-- `load` is right because on words of a sound record it asks and takes as the machine's load, from the place of the definition.
use borrow.Author.Rules.{rules}
use mathlib.Core.Path.{sym, ◌∙◌}
use mir.Syntax.{w64}
use mir.Val.{SFits}
use mir.Facts.{to_z-of_z}
use Rattle.calls.specs.laws.Told.{told_refused, load_told}
use Rattle.calls.specs.laws.Load.{sixteen_most}
use Rattle.calls.proofs.load.Statement.{statement}
use Rattle.calls.proofs.load.Tie as tie

is_sound-requires : tie.Need-is_sound-requires
is_sound-requires c κs = search rules

returns-then-not-is_sound : tie.Need-returns-then-not-is_sound
returns-then-not-is_sound c = told_refused _ (sym c.is_sound.ensures ∙ c.if-not-is_sound.true) _

bench_in-k-requires : tie.Need-bench_in-k-requires
bench_in-k-requires c κs = search rules

start_in-start-requires : tie.Need-start_in-start-requires
start_in-start-requires c κs = sixteen_most _ (sym c.is_sound.ensures ∙ c.if-not-is_sound.false)

load_sound-answer-requires : tie.Need-load_sound-answer-requires
load_sound-answer-requires c κs =
    record {
      sound = (sym c.is_sound.ensures ∙ c.if-not-is_sound.false);
      bench_is = c.bench_in-k.ensures;
      start_is = c.start_in-start.ensures;
    }

answer_number-requires : tie.Need-answer_number-requires
answer_number-requires c κs = search rules

returns : tie.Need-returns
returns c =
    let n : SFits w64 c.answer_number.result = search rules in
    simp to_z-of_z
    (simp c.answer_number.ensures
    (load_told _ (sym c.is_sound.ensures ∙ c.if-not-is_sound.false) c.args.b c.load_sound-answer.ensures.0 c.load_sound-answer.ensures.1))

pub load_spec : {M : Type 1} → statement M
load_spec = tie.close (tie.spec is_sound-requires returns-then-not-is_sound bench_in-k-requires start_in-start-requires
    load_sound-answer-requires answer_number-requires returns)
