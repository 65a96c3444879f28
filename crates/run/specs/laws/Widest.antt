-- What is sound in some travel is so in the widest.
use Rattle.std.specs.Prelude.{◌≡◌, refl, true, ℕ, ◌≤◌, ℤ, pos, negsuc, nat_abs}
use Rattle.std.proofs.Common.{arith}
use Rattle.plane.specs.declared.point.Point.{Point}
use Rattle.plane.specs.declared.travel.Travel.{Travel}
use Rattle.plane.specs.computed.Travel.{Wide}
use Rattle.plane.specs.laws.Travel.{InRange, Bounded, inside, inside_test_lem, travel_near, visits_test}
use Rattle.arc.specs.computed.Arc.{arc_after, arc_cycles}
use Rattle.arc.specs.laws.Work.{visited}
use Rattle.work.specs.declared.Work.{Work}
use Rattle.work.specs.computed.Work.{work_sound}
use Rattle.work.specs.laws.Sound.{line_work, line_sound_lem, arc_work, arc_sound_lem}
use Rattle.run.specs.computed.Run.{SoundIn}
use Rattle.run.specs.computed.Sound.{widest, Runs}

pub widest_wide : Wide widest
widest_wide = record { x_lower = omega arith; x_upper = omega arith; y_lower = omega arith; y_upper = omega arith }

in_range : (z : ℤ) → nat_abs z ≤ 1000000 → InRange (widest.x) z
in_range (pos a) h = record { above = omega arith; below = omega arith }
in_range (negsuc a) h = record { above = omega arith; below = omega arith }

module _ {t : Travel} (wide : Wide t) where
  widened : {p : Point} → Bounded t p → Bounded widest p
  widened {p} i = let near = travel_near wide i in record { x = in_range p.x near.x; y = in_range p.y near.y }

  pub work_widened : (q0 : ℕ) (at : Point) (w : Work) → work_sound q0 t at w ≡ true → work_sound q0 widest at w ≡ true
  unfolding work_sound
  work_widened q0 at Work.Nothing e = refl
  work_widened q0 at (Work.Line l) e =
      let s = line_work e in
      line_sound_lem (record { start = widened s.start; end = widened s.end; feed = s.feed; line = s.line })
  work_widened q0 at (Work.Arc a) e =
      let s = arc_work e in
      let stays = visits_test widest (arc_after a at) (arc_cycles a at) (λ c some most. widened (visited s.arc c some most)) in
      arc_sound_lem
      (record { feed = s.feed; arc = record { centre = s.arc.centre; on = s.arc.on; end_on = s.arc.end_on; stays = stays } })

pub runs_lem : {q0 : ℕ} {at : Point} {r : ℕ} {w : Work} → SoundIn q0 at r w → Runs q0 at r w
runs_lem {q0} {at} {w = w} i = record {
  capacity = i.capacity;
  inside = inside_test_lem (widened i.wide (inside i.inside));
  below = i.below;
  sound = work_widened i.wide q0 at w i.sound;
  busy = i.busy;
}

pub sound_in : {q0 : ℕ} {at : Point} {r : ℕ} {w : Work} → Runs q0 at r w → SoundIn q0 at r w
sound_in i = record {
  travel = widest;
  wide = widest_wide;
  capacity = i.capacity;
  inside = i.inside;
  below = i.below;
  sound = i.sound;
  busy = i.busy;
}
