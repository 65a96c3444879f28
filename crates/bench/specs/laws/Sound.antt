-- What a sound record says of its numbers, and what the code of a call needs of them.
use Rattle.std.specs.Prelude.{◌≡◌, Bool, true, false, ℕ, ◌*◌, ◌≤◌, ◌<◌, nat_abs}
use Rattle.std.proofs.Common.{arith, ltb-true, lt-ltb, eqb-true, eq-eqb, le-leb}
use Rattle.whole.specs.laws.Order.{abs_sub}
use Rattle.whole.specs.laws.Test.{both, joined}
use Rattle.plane.specs.declared.point.Point.{Point}
use Rattle.circle.specs.Charge.{diagonal}
use Rattle.plane.specs.declared.travel.Travel.{Travel}
use Rattle.plane.specs.Travel.{inside_of}
use Rattle.plane.specs.Point.{Near}
use Rattle.plane.specs.computed.Travel.{Wide}
use Rattle.plane.specs.laws.Travel.{inside, travel_near}
use Rattle.block.specs.declared.Block.{Block}
use Rattle.block.specs.declared.Path.{Path}
use Rattle.block.specs.Questions.{feed_right, load_no, ask_load}
use Rattle.block.specs.computed.Questions.{path_no}
use Rattle.question.specs.declared.Question.{Question}
use Rattle.question.specs.laws.Ask.{answered}
use Rattle.line.specs.Line.{increment_x, increment_y}
use Rattle.line.specs.computed.Line.{short_of}
use Rattle.work.specs.declared.Work.{Work}
use Rattle.work.specs.Work.{is_nothing}
use Rattle.work.specs.computed.Work.{work_sound}
use Rattle.work.specs.computed.Asked.{Ready, Loadable}
use Rattle.work.specs.laws.Keep.{ready as work_ready}
use Rattle.run.specs.computed.Run.{SoundIn}
use Rattle.settings.specs.declared.Settings.{Settings}
use Rattle.settings.specs.Settings.{capacity_of}
use Rattle.settings.specs.computed.Settings.{settings_no}
use Rattle.settings.specs.laws.Right.{settings_right}
use Rattle.bench.specs.computed.Bench.{sound_parts}

-- ---- a sound record

pub record Sound (s : Settings) (at : Point) (r : ℕ) (w : Work) : Type 0 where
  pub settings : settings_no s ≡ 0
  pub in_travel : inside_of s.travel at ≡ true
  pub below : r < diagonal * capacity_of s
  pub work : work_sound (capacity_of s) s.travel at w ≡ true

pub sound : {s : Settings} {at : Point} {r : ℕ} {w : Work} → sound_parts s at r w ≡ true → Sound s at r w
unfolding sound_parts
sound e =
    let settings = both e in
    let travel = both settings.1 in
    let rest = both travel.1 in
    record { settings = eqb-true _ 0 settings.0; in_travel = travel.0; below = ltb-true _ _ rest.0; work = rest.1 }

pub sound_test : {s : Settings} {at : Point} {r : ℕ} {w : Work} → Sound s at r w → sound_parts s at r w ≡ true
unfolding sound_parts
sound_test i = joined (eq-eqb _ 0 i.settings) (joined i.in_travel (joined (lt-ltb _ _ i.below) i.work))

-- ---- what the code of a tick asks

pub ready : {s : Settings} {at : Point} {r : ℕ} {w : Work} → Sound s at r w → is_nothing w ≡ false
    → Ready at r w × (capacity_of s ≤ 1200000000)
ready {s} {w = w} i busy =
    let c = settings_right s i.settings in (
      work_ready (capacity_of s) s.travel w busy c.wide (omega (arith, c.clock_most))
          (record { inside = inside i.in_travel; below = i.below; sound = i.work }),
      omega (arith, c.clock_most),
    )

-- and the code of a run
pub running : {s : Settings} {at : Point} {r : ℕ} {w : Work} → Sound s at r w → is_nothing w ≡ false → SoundIn (capacity_of s) at r w
running {s} i busy =
    let c = settings_right s i.settings in
    record {
      travel = s.travel;
      wide = c.wide;
      capacity = omega (arith, c.clock_most);
      inside = i.in_travel;
      below = i.below;
      sound =
          i.work;
      busy = busy;
    }

-- ---- what the code of a load asks of a block that no question refuses

module _ {t : Travel} (start : Point) (w : Wide t) (here : inside_of t start ≡ true) (b : Block) where
  short : Near 1000000 start → Near 1000000 b.end → short_of start b.end ≡ true
  short s e =
      let x : nat_abs (increment_x start b.end) ≤ 2000000 = omega (arith, abs_sub b.end.x start.x, s.x, e.x) in
      let y : nat_abs (increment_y start b.end) ≤ 2000000 = omega (arith, abs_sub b.end.y start.y, s.y, e.y) in
      joined (le-leb _ _ x) (le-leb _ _ y)

  along : (p : Path) → inside_of t b.end ≡ true → path_no t start b p ≡ 0 → Loadable start b p
  along Path.Line e asked = short (travel_near w (inside here)) (travel_near w (inside e))
  along (Path.Arc turn centre) e asked = (travel_near w (inside here), (answered Question.Centre _ asked).0)

  pub loadable : (q0 : ℕ) (idle : Bool) → load_no q0 t idle start b ≡ 0 → Loadable start b b.path
  unfolding ask_load
  loadable q0 idle asked =
      let feed = answered {yes = feed_right q0 b.feed} Question.Feed _ (answered {yes = idle} Question.Room _ asked).1 in
      let end = answered Question.EndInTravel _ feed.1 in
      along b.path end.0 end.1
