-- It is the bench's tick, which takes the cycle that its byte marks off the figure, and then what comes into work.
use Rattle.std.proofs.Common.{refl, sym, ◌∙◌}
use Rattle.machine.specs.computed.Calls.{tick_of}
use Rattle.machine.specs.laws.Right.{sound}
use Rattle.machine.specs.laws.Onward.{tick_onward, tick_left}
use Rattle.machine.specs.laws.Next.{coming, left_less}
use Rattle.machine.proofs.Machine.tick.Goals as goal

pub returns-then-not-is_sound : goal.returns-then-not-is_sound
unfolding tick_of
returns-then-not-is_sound c = simp (sym c.is_sound.ensures ∙ c.if-not-is_sound.true)

pub left_after-left-requires : goal.left_after-left-requires
left_after-left-requires c =
    let m = c.args.self in
    let i = sound m (sym c.is_sound.ensures ∙ c.if-not-is_sound.false) in
    (left_less i.right (tick_onward m.bench i.bench c.tick-t.ensures) (tick_left m.bench i.bench c.tick-t.ensures)).0

pub next-requires : goal.next-requires
next-requires c =
    let m = c.args.self in
    let i = sound m (sym c.is_sound.ensures ∙ c.if-not-is_sound.false) in
    let o = tick_onward m.bench i.bench c.tick-t.ensures in
    coming i.right o refl (c.left_after-left.ensures ∙ (left_less i.right o (tick_left m.bench i.bench c.tick-t.ensures)).1)

pub returns : goal.returns
unfolding tick_of
returns c =
    simp (
      c.next.ensures,
      c.tick-t.ensures,
      sym c.is_sound.ensures ∙ c.if-not-is_sound.false,
    )
