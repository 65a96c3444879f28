-- A fresh machine is sound, so a make answers a sound record even where it refuses.
use Rattle.std.specs.Prelude.{◌≡◌, refl, true}
use Rattle.std.proofs.Common.{arith}
use Rattle.plane.specs.laws.Travel.{inside_test_lem}
use Rattle.work.specs.computed.Work.{work_sound}
use Rattle.settings.specs.declared.Settings.{Settings}
use Rattle.settings.specs.computed.Settings.{settings_no}
use Rattle.bench.specs.computed.Bench.{sound_of}
use Rattle.bench.specs.Bench.{fresh_of}
use Rattle.settings.specs.laws.Right.{settings_right}
use Rattle.bench.specs.laws.Sound.{sound_test}

pub fresh_sound : (s : Settings) → settings_no s ≡ 0 → sound_of (fresh_of s) ≡ true
unfolding fresh_of work_sound
fresh_sound s e =
    let r = settings_right s e in
    sound_test (record { settings = e; in_travel = inside_test_lem r.origin; below = omega (arith, r.clock_some); work = refl })
