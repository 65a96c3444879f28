-- `sound` is right because it asks the definition's tests, each where the one before it has made its numbers small.
use Rattle.std.proofs.Common.{sym, ap, ◌∙◌, arith}
use Rattle.std.proofs.lemmas.Bool.{false≢true}
use Rattle.whole.specs.laws.Test.{refuted, same_test}
use Rattle.question.specs.Question.{number_told}
use Rattle.question.specs.laws.Ask.{none_told, some_told}
use Rattle.settings.specs.laws.Right.{settings_right}
use Rattle.bench.specs.laws.Sound.{sound, sound_test}
use Rattle.bench.proofs.sound.Goals as goal

pub returns-then-is_err : goal.returns-then-is_err
returns-then-is_err c =
    sym (refuted _ (λ e. some_told _ (sym c.is_err.ensures.value ∙ c.if-is_err.true) (ap number_told c.ask_settings.ensures
    ∙ (sound e).settings)))

pub returns-then-not-inside : goal.returns-then-not-inside
returns-then-not-inside c = sym (refuted _ (λ e. false≢true (sym c.if-not-inside.true ∙ c.inside.ensures ∙ (sound e).in_travel)))

pub capacity-q0-requires : goal.capacity-q0-requires
capacity-q0-requires c = sym (ap number_told c.ask_settings.ensures) ∙ none_told _ (sym c.is_err.ensures.value ∙ c.if-is_err.false)

pub overflow_mul-q0 : goal.overflow_mul-q0
overflow_mul-q0 c =
    let r = settings_right _ (sym (ap number_told c.ask_settings.ensures) ∙ none_told _ (sym c.is_err.ensures.value ∙ c.if-is_err.false)) in
    omega (arith, r.clock_most, c.capacity-q0.ensures)

pub returns-then-q0-remainder : goal.returns-then-q0-remainder
returns-then-q0-remainder c = sym (refuted _ (λ e. omega (arith, (sound e).below, c.capacity-q0.ensures)))

pub work_sound-requires : goal.work_sound-requires
work_sound-requires c = (
  (settings_right _ (sym (ap number_told c.ask_settings.ensures) ∙ none_told _ (sym c.is_err.ensures.value ∙ c.if-is_err.false))).wide,
  sym c.inside.ensures ∙ c.if-not-inside.false,
)

pub returns : goal.returns
returns c =
    let q = c.capacity-q0.ensures in
    (rw q at c.work_sound.ensures)
    ∙ same_test (λ t. sound_test (record {
      settings = sym (ap number_told c.ask_settings.ensures) ∙ none_told _ (sym c.is_err.ensures.value ∙ c.if-is_err.false);
      in_travel = sym c.inside.ensures ∙ c.if-not-inside.false;
      below = omega (arith, c.if-q0-remainder.false, q);
      work = t;
    })) (λ t. (sound t).work)
