-- 01, Job and machine: "Settings: p, pulses per millimetre; w, clock ticks per second; a lower and an upper travel bound per axis."
use Rattle.std.specs.Prelude.{ℕ, ◌*◌, pos, negsuc}
use Rattle.plane.specs.declared.travel.Range.{Range}
use Rattle.settings.specs.declared.Settings.{Settings}

-- A feed number counts u-ths of a pulse per minute, and the capacity is in the same unit. 01, Feed divider: "Capacity q0 = 60 × w. The
-- block's feed number f is pulses per minute": that is u 1.
abbrev pub capacity_at : (u : ℕ) → Settings → ℕ
capacity_at u s = 60 * u * s.clock

-- 02 §4: "The feed number becomes thousandths of a pulse per minute and q0 becomes 60,000 × w."
abbrev pub feed_unit : ℕ
feed_unit = 1000

abbrev pub capacity_of : Settings → ℕ
capacity_of s = capacity_at feed_unit s

-- "p 50, w 5,000 and the widest travel"
abbrev pub widest : Range
widest = record { lower = negsuc 999999; upper = pos 1000000 }

unfoldable pub standard_settings : Settings
standard_settings = record { scale = 50; clock = 5000; travel = record { x = widest; y = widest } }
