-- 01, Job and machine: the bench, which is 01's record; a fresh one, one moved, one marked.
use Rattle.std.specs.Prelude.{Bool, false, ℕ, pos}
use Rattle.plane.specs.declared.point.Point.{Point}
use Rattle.work.specs.declared.Work.{Work}
use Rattle.settings.specs.declared.Settings.{Settings}
use Rattle.bench.specs.declared.Bench.{Bench}

-- "A fresh machine stands at (0, 0), idle, not held, remainder 0."
unfoldable pub fresh_of : Settings → Bench
fresh_of s = record { settings = s; at = record { x = pos 0; y = pos 0 }; held = false; remainder = 0; work = Work.Nothing }

-- the record with another point, remainder and work; settings and mark stay
unfoldable pub moved_of : Bench → (at : Point) (remainder : ℕ) → Work → Bench
moved_of m at r w = record { settings = m.settings; at = at; held = m.held; remainder = r; work = w }

-- "Hold and release only set a mark."
abbrev pub marked_of : Bench → Bool → Bench
marked_of m mark = record { settings = m.settings; at = m.at; held = mark; remainder = m.remainder; work = m.work }
