-- `take_off` is right because it asks what the definition asks, in its order.
use Rattle.std.proofs.Common.{sym, ap, ◌∙◌, eqb-true}
use Rattle.question.specs.Question.{number_told}
use Rattle.question.specs.laws.Ask.{none_told, some_told}
use Rattle.queue.specs.laws.Test.{off_refused, off_unrooted, off_counts}
use Rattle.queue.proofs.take_off.Goals as goal

pub returns-then-is_err : goal.returns-then-is_err
returns-then-is_err c =
    off_refused _ _ _ _ _ (ap number_told c.ask_load.ensures) (some_told _ (sym c.is_err.ensures.value ∙ c.if-is_err.true))

pub is_root-requires : goal.is_root-requires
is_root-requires c =
    record {
      capacity = _;
      travel = _;
      wide = c.requires.0;
      start_in = c.requires.1;
      none = sym (ap number_told c.ask_load.ensures) ∙ none_told _ (sym c.is_err.ensures.value ∙ c.if-is_err.false);
    }

pub returns-then-not-is_root : goal.returns-then-not-is_root
returns-then-not-is_root c =
    off_unrooted _ _ _ _ _ (ap number_told c.ask_load.ensures) (none_told _ (sym c.is_err.ensures.value ∙ c.if-is_err.false))
    c.is_root.ensures c.if-not-is_root.true

pub cycles_by-requires : goal.cycles_by-requires
cycles_by-requires c = (
  record {
    capacity = _;
    travel = _;
    wide = c.requires.0;
    start_in = c.requires.1;
    none = sym (ap number_told c.ask_load.ensures) ∙ none_told _ (sym c.is_err.ensures.value ∙ c.if-is_err.false);
  },
  eqb-true _ _ (sym c.is_root.ensures ∙ c.if-not-is_root.false),
)

pub returns : goal.returns
returns c =
    off_counts _ _ _ _ _ (ap number_told c.ask_load.ensures) (none_told _ (sym c.is_err.ensures.value ∙ c.if-is_err.false))
    c.is_root.ensures c.if-not-is_root.false c.cycles_by.ensures c.checked_sub.ensures
