-- `load` is right because it asks the questions of the definition, from the place of the definition.
use Rattle.std.proofs.Common.{◌≡◌, refl, sym, ap, ◌∙◌, true, ltb}
use Rattle.question.specs.Question.{number_told}
use Rattle.bench.specs.laws.Sound.{sound as bench_parts}
use Rattle.machine.specs.computed.Calls.{load_of}
use Rattle.machine.specs.laws.Right.{Sound, sound}
use Rattle.machine.specs.laws.Onward.{wide}
use Rattle.machine.specs.laws.Load.{start_inside}
use Rattle.machine.proofs.Machine.load.Goals as goal

pub returns-then-not-is_sound : goal.returns-then-not-is_sound
unfolding load_of
returns-then-not-is_sound c = c.refused.ensures ∙ simp (sym c.is_sound.ensures ∙ c.if-not-is_sound.true)

pub start_of-start-requires : goal.start_of-start-requires
start_of-start-requires c = (sound c.args.self (sym c.is_sound.ensures ∙ c.if-not-is_sound.false)).right.queue.most

pub capacity-requires : goal.capacity-requires
capacity-requires c = (bench_parts (sound c.args.self (sym c.is_sound.ensures ∙ c.if-not-is_sound.false)).bench).settings

pub ask_load-requires : goal.ask_load-requires
ask_load-requires c =
    let m = c.args.self in
    let i = sound m (sym c.is_sound.ensures ∙ c.if-not-is_sound.false) in
    (wide m.bench i.bench, rw c.start_of-start.ensures (start_inside m i))

pub returns-in-Err : goal.returns-in-Err
unfolding load_of
returns-in-Err c =
    c.refused-in-Err.ensures
    ∙ simp (
      sym c.is_sound.ensures ∙ c.if-not-is_sound.false,
      ← c.start_of-start.ensures,
      sym (rw c.capacity.ensures at c.ask_load.ensures) ∙ c.in-Err.is,
    )

pub take-requires : goal.take-requires
take-requires c =
    record {
      sound = sym c.is_sound.ensures ∙ c.if-not-is_sound.false;
      start_is = c.start_of-start.ensures;
      asked = ap number_told (sym (rw c.capacity.ensures at c.ask_load.ensures) ∙ c.in_default.is);
    }

pub returns : goal.returns
unfolding load_of
returns c =
    c.take.ensures
    ∙ simp (
      sym c.is_sound.ensures ∙ c.if-not-is_sound.false,
      ← c.start_of-start.ensures,
      sym (rw c.capacity.ensures at c.ask_load.ensures) ∙ c.in_default.is,
    )
