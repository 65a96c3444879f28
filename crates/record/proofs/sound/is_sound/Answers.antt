-- `is_sound` is right because it tests the words in front, the bench that they tell, and then what waits behind it.
use Rattle.std.proofs.Common.{rules, sym, ap, ◌∙◌}
use Rattle.bench.specs.computed.Bench.{sound_of}
use Rattle.record.specs.laws.Sound.{front_wrong, bench_wrong, waiting_is}
use Rattle.record.proofs.sound.is_sound.Goals as goal

pub returns-then-not-is_front : goal.returns-then-not-is_front
returns-then-not-is_front c = sym (front_wrong _ (search rules) (sym c.is_front.ensures ∙ c.if-not-is_front.true))

pub returns-then-sound : goal.returns-then-sound
returns-then-sound c =
    rw c.bench_in-k.ensures at c.waiting_right.ensures
    ∙ waiting_is c.args.words.now (search rules) (sym c.is_front.ensures ∙ c.if-not-is_front.false)
    (sym (c.sound.ensures ∙ ap sound_of c.bench_in-k.ensures) ∙ c.if-sound.true)

pub returns-else-sound : goal.returns-else-sound
returns-else-sound c =
    c.if-sound.false
    ∙ sym (bench_wrong _ (search rules) (sym (c.sound.ensures ∙ ap sound_of c.bench_in-k.ensures) ∙ c.if-sound.false))
