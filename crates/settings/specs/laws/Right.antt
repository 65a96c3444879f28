-- What settings that pass their questions say of their numbers.
use Rattle.std.specs.Prelude.{◌≡◌, refl, true, ◌≤◌, leb, pos, negsuc, nat_abs}
use Rattle.std.proofs.Common.{arith, leb-true}
use Rattle.whole.specs.laws.Test.{both}
use Rattle.plane.specs.declared.travel.Range.{Range}
use Rattle.plane.specs.Travel.{within_of}
use Rattle.plane.specs.computed.Travel.{Wide}
use Rattle.plane.specs.laws.Travel.{InRange, Bounded, within, axis_near}
use Rattle.question.specs.declared.Question.{Question}
use Rattle.question.specs.laws.Ask.{answered}
use Rattle.settings.specs.declared.Settings.{Settings}
use Rattle.settings.specs.computed.Settings.{in_range, axis_right, travel_right, settings_no, ask_settings}
use Rattle.settings.specs.Settings.{standard_settings}

pub record Right (s : Settings) : Type 0 where
  pub scale_most : s.scale ≤ 1000
  pub clock_some : 1000 ≤ s.clock
  pub clock_most : s.clock ≤ 20000
  pub wide : Wide s.travel
  pub origin : Bounded s.travel (record { x = pos 0; y = pos 0 })

record AxisRight (r : Range) : Type 0 where
  lower : nat_abs r.lower ≤ 1000000
  upper : nat_abs r.upper ≤ 1000000
  zero : InRange r (pos 0)

axis_right_lem : {r : Range} → axis_right r ≡ true → AxisRight r
unfolding axis_right
axis_right_lem {r} e =
    let b = both e in
    let low = within b.0 in
    let high = within b.1 in
    record {
      lower = axis_near (negsuc 999999) (pos 0) r.lower (omega arith) (omega arith) low.above low.below;
      upper = axis_near (pos 0) (pos 1000000) r.upper (omega arith) (omega arith) high.above high.below;
      zero = record { above = low.below; below = high.above };
    }

pub settings_right : (s : Settings) → settings_no s ≡ 0 → Right s
unfolding ask_settings travel_right
settings_right s e =
    let scale = answered {yes = in_range 1 1000 s.scale} Question.Scale _ e in
    let clock = answered Question.Clock _ scale.1 in
    let range = both clock.0 in
    let travel = both (answered Question.Travel _ clock.1).0 in
    let x = axis_right_lem travel.0 in
    let y = axis_right_lem travel.1 in
    record {
      scale_most = leb-true s.scale 1000 (both {a = leb 1 s.scale} scale.0).1;
      clock_some = leb-true 1000 s.clock range.0;
      clock_most = leb-true s.clock 20000 range.1;
      wide = record { x_lower = x.lower; x_upper = x.upper; y_lower = y.lower; y_upper = y.upper };
      origin = record { x = x.zero; y = y.zero };
    }

-- the settings of a refused make pass
pub standard_passes : settings_no standard_settings ≡ 0
unfolding ask_settings travel_right axis_right standard_settings within_of
standard_passes = refl
