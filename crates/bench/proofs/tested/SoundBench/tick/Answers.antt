-- A sound record that is neither held nor idle has something in work that can advance.
use Rattle.std.proofs.Common.{sym, ◌∙◌}
use Rattle.bench.specs.computed.Calls.{tick_of}
use Rattle.bench.specs.laws.Sound.{sound, ready}
use Rattle.bench.specs.laws.Calls.{tick_works}
use Rattle.bench.proofs.tested.SoundBench.tick.Goals as goal

pub returns-then-m : goal.returns-then-m
unfolding tick_of
returns-then-m c = simp (c.args.self.sound, c.if-m.true)

pub returns-then-is_nothing : goal.returns-then-is_nothing
unfolding tick_of
returns-then-is_nothing c = simp (c.args.self.sound, c.if-m.false, sym c.is_nothing.ensures ∙ c.if-is_nothing.true)

pub capacity-requires : goal.capacity-requires
capacity-requires c = (sound c.args.self.sound).settings

pub work_tick-a-requires : goal.work_tick-a-requires
work_tick-a-requires c =
    rw c.capacity.ensures (ready (sound c.args.self.sound) (sym c.is_nothing.ensures ∙ c.if-is_nothing.false))

pub returns : goal.returns
returns c =
    let advance = rw c.capacity.ensures at c.work_tick-a.ensures in
    rw c.moved.ensures (tick_works _ c.args.self.sound c.if-m.false (sym c.is_nothing.ensures ∙ c.if-is_nothing.false) advance)
