-- `load_sound` is right because it asks the questions of the definition, and what they do not refuse is taken.
use Rattle.std.proofs.Common.{refl, sym, ◌∙◌}
use Rattle.std.proofs.lemmas.Result.{err_from_is_err_and}
use Rattle.calls.specs.laws.Load.{settings_pass, asks, load_refuses, load_takes, load_taken}
use Rattle.calls.proofs.load_sound.Goals as goal

pub capacity-requires : goal.capacity-requires
capacity-requires c = settings_pass c.requires

pub ask_load-requires : goal.ask_load-requires
ask_load-requires c = asks c.requires

pub returns-in_err-ask_load-clause-value : goal.returns-in_err-ask_load-clause-value
returns-in_err-ask_load-clause-value c =
    let e = err_from_is_err_and c.from_residual.result c.from_residual.ensures.1 in
    rw (e.1, e.2)
    (load_refuses c.requires c.args.b c.capacity.ensures c.len_in-len.ensures (sym c.in_err-ask_load.was ∙ c.ask_load.ensures) refl).0

pub returns-in_err-ask_load-clause-words_after : goal.returns-in_err-ask_load-clause-words_after
returns-in_err-ask_load-clause-words_after c =
    (load_refuses c.requires c.args.b c.capacity.ensures c.len_in-len.ensures (sym c.in_err-ask_load.was ∙ c.ask_load.ensures) refl).1

pub take-requires : goal.take-requires
take-requires c =
    load_takes c.requires c.args.b c.capacity.ensures c.len_in-len.ensures (sym c.in_ok-ask_load.was ∙ c.ask_load.ensures) refl refl

pub returns-clause-value : goal.returns-clause-value
returns-clause-value c =
    (load_taken c.requires c.args.b c.capacity.ensures c.len_in-len.ensures (sym c.in_ok-ask_load.was ∙ c.ask_load.ensures) refl
    c.take.ensures.value c.take.ensures.words_after).0

pub returns-clause-words_after : goal.returns-clause-words_after
returns-clause-words_after c =
    (load_taken c.requires c.args.b c.capacity.ensures c.len_in-len.ensures (sym c.in_ok-ask_load.was ∙ c.ask_load.ensures) refl
    c.take.ensures.value c.take.ensures.words_after).1
