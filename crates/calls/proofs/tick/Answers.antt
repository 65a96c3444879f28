-- On words of a sound record it is the bench's tick, and it stores what that changes.
use Rattle.std.proofs.Common.{rules, sym, ap, ◌∙◌}
use mir.Syntax.{w64}
use mir.Val.{SFits}
use mir.Facts.{to_z-of_z}
use Rattle.bench.specs.computed.Calls.{tick_of}
use Rattle.calls.specs.laws.Told.{told_refused, bench_sound, tick_enough, tick_stores, tick_told}
use Rattle.calls.specs.laws.Rest.{held_told, idle_told}
use Rattle.calls.proofs.tick.Goals as goal

pub returns-then-not-is_sound : goal.returns-then-not-is_sound
returns-then-not-is_sound c = told_refused _ (sym c.is_sound.ensures ∙ c.if-not-is_sound.true) _

-- held, and with nothing in work
pub returns-then-k : goal.returns-then-k
returns-then-k c = held_told _ (sym c.is_sound.ensures ∙ c.if-not-is_sound.false) c.bench_in-k.ensures c.if-k.true

pub returns-then-is_nothing : goal.returns-then-is_nothing
returns-then-is_nothing c =
    idle_told _ (sym c.is_sound.ensures ∙ c.if-not-is_sound.false) c.bench_in-k.ensures (sym c.is_nothing.ensures ∙ c.if-is_nothing.true)

pub invariant_of-tick : goal.invariant_of-tick
invariant_of-tick c = record { sound = bench_sound _ (sym c.is_sound.ensures ∙ c.if-not-is_sound.false) c.bench_in-k.ensures }

pub left_after-left-requires : goal.left_after-left-requires
left_after-left-requires c =
    tick_enough _ (sym c.is_sound.ensures ∙ c.if-not-is_sound.false) (c.tick-t.ensures ∙ ap tick_of c.bench_in-k.ensures)
    c.left_in.ensures

pub store_ticks-requires : goal.store_ticks-requires
store_ticks-requires c =
    tick_stores _ (sym c.is_sound.ensures ∙ c.if-not-is_sound.false) (c.tick-t.ensures ∙ ap tick_of c.bench_in-k.ensures)
    c.left_in.ensures c.left_after-left.ensures

pub returns : goal.returns
returns c =
    let n : SFits w64 c.tick_number.result = search rules in
    simp to_z-of_z
    (simp (c.tick_number.ensures, c.store_ticks.ensures)
    (tick_told _ (sym c.is_sound.ensures ∙ c.if-not-is_sound.false) (c.tick-t.ensures ∙ ap tick_of c.bench_in-k.ensures)))
