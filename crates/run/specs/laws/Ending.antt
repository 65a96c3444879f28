-- A run that falls short of the dues left ends before the block does.
use Rattle.std.specs.Prelude.{◌≡◌, true, ℕ, ◌+◌, ◌-◌, ◌*◌, ◌≤◌, ◌<◌, min, ltb}
use Rattle.std.proofs.Common.{arith, lt_of_mul-lt-mul_right, ltb-true}
use Rattle.whole.specs.laws.Test.{both}
use Rattle.plane.specs.declared.point.Point.{Point}
use Rattle.arc.specs.declared.arc.Arc.{Arc}
use Rattle.arc.specs.computed.Charge.{arc_charges}
use Rattle.arc.specs.laws.Step.{circles}
use Rattle.arc.specs.laws.Way.{way_left}
use Rattle.arc.specs.laws.Charge.{charges_least}
use Rattle.divider.specs.computed.Divider.{last_tick}
use Rattle.divider.specs.laws.Last.{last_tick_lem}
use Rattle.work.specs.declared.Work.{Work}
use Rattle.work.specs.Work.{added_of, cycles_left, charges_left}
use Rattle.run.specs.computed.Run.{SoundIn}
use Rattle.run.specs.computed.Ending.{Same, falls_short, longer_of}
use Rattle.run.specs.laws.Cycles.{in_work_lem, added_some, rest_most}
use Rattle.run.specs.laws.Sound.{run_ready}

-- `due` is no more than what is left
pub short_same : {q0 : ℕ} {at : Point} {r : ℕ} {w : Work} → SoundIn q0 at r w → (most due : ℕ) → due ≤ charges_left at w * q0
    → falls_short due (added_of w) r most ≡ true
    → Same most (most + 1) (last_tick (charges_left at w * q0) (added_of w) r (cycles_left at w))
unfolding falls_short
short_same {q0} {at} {r} {w} i most due few t =
    let short = ltb-true (r + most * added_of w) due (both {a = ltb most 10000000} t).1 in
    let D = charges_left at w * q0 in
    let e = last_tick_lem D (added_of w) r (cycles_left at w) (added_some i) in
    let beyond : most < last_tick D (added_of w) r (cycles_left at w) =
    lt_of_mul-lt-mul_right (added_of w) (omega (arith, e.reached, short)) in
    record { same = omega arith }

-- what its code asks
pub short_asks : {q0 : ℕ} {at : Point} {r : ℕ} {w : Work} → SoundIn q0 at r w → (added_of w ≤ 1200000000000) × (r ≤ 1696800000000)
short_asks i = (omega (arith, (in_work_lem i).feed.most, i.capacity), rest_most i)

-- and so its ticks are few
pub short_few : (due a r most : ℕ) → falls_short due a r most ≡ true → most < 10000000
unfolding falls_short
short_few due a r most t = ltb-true most 10000000 (both t).0

-- the longer way of an arc is charged no more than what is left of it
pub way_few : (a : Arc) (at : Point) {q0 r : ℕ} → SoundIn q0 at r (Work.Arc a) → 1000 * longer_of at a.end ≤ arc_charges a at
way_few a at i =
    let on = circles (run_ready i).0 in
    let h = way_left a at on in
    omega (arith, h.0, h.1, charges_least a at on)

-- what a run takes of the end tick
module _ {most s t : ℕ} (same : Same most s t) where
  pub same_least : min most s ≡ min most t
  same_least = omega (arith, same.same)

  pub same_some : 1 ≤ t → 1 ≤ s
  same_some h = omega (arith, same.same)

  pub same_before : 1 ≤ t → min most (s - 1) ≡ min most (t - 1)
  same_before h = omega (arith, same.same)
