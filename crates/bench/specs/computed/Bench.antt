-- The test of a bench's record, part by part. `BenchSound` in crate demands says in the paper's words which records pass it.
use Rattle.std.specs.Prelude.{Bool, ◌&&◌, ℕ, ◌*◌, eqb, ltb}
use Rattle.plane.specs.declared.point.Point.{Point}
use Rattle.circle.specs.Charge.{diagonal}
use Rattle.plane.specs.Travel.{inside_of}
use Rattle.work.specs.declared.Work.{Work}
use Rattle.work.specs.computed.Work.{work_sound}
use Rattle.settings.specs.declared.Settings.{Settings}
use Rattle.bench.specs.declared.Bench.{Bench}
use Rattle.settings.specs.Settings.{capacity_of}
use Rattle.settings.specs.computed.Settings.{settings_no}

-- "A record is sound if settings pass questions 1 to 3; the point is in travel; the remainder is below q0;" and what is in work is sound.
-- 02 §2: "A sound remainder is below 1,414 × q0.", whatever is in work
unfoldable pub sound_parts : Settings → (at : Point) (remainder : ℕ) → Work → Bool
sound_parts s at r w =
    eqb (settings_no s) 0 && (inside_of s.travel at && (ltb r (diagonal * capacity_of s) && work_sound (capacity_of s) s.travel at w))

abbrev pub sound_of : Bench → Bool
sound_of m = sound_parts m.settings m.at m.remainder m.work
