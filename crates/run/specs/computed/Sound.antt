-- What the code of a run asks of what is in work, for the types of `in_work`.
use Rattle.std.specs.Prelude.{◌≡◌, true, false, ℕ, pos, negsuc, ◌*◌, ◌≤◌, ◌<◌}
use Rattle.plane.specs.declared.point.Point.{Point}
use Rattle.plane.specs.declared.travel.Travel.{Travel}
use Rattle.plane.specs.Travel.{inside_of}
use Rattle.circle.specs.Charge.{diagonal}
use Rattle.work.specs.declared.Work.{Work}
use Rattle.work.specs.Work.{is_nothing}
use Rattle.work.specs.computed.Work.{work_sound}

-- no travel is wider
abbrev pub widest : Travel
widest = record { x = record { lower = negsuc 999999; upper = pos 1000000 }; y = record { lower = negsuc 999999; upper = pos 1000000 } }

-- `SoundIn` with the widest travel in place of some travel, which says the same (`runs_lem`, `sound_in`), and of which there is one proof
pub record Runs (q0 : ℕ) (at : Point) (r : ℕ) (w : Work) : Type 0 where
  pub capacity : q0 ≤ 1200000000
  pub inside : inside_of widest at ≡ true
  pub below : r < diagonal * q0
  pub sound : work_sound q0 widest at w ≡ true
  pub busy : is_nothing w ≡ false
