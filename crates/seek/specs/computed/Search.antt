-- How far the search through a job has come, as the code's functions compute it.
use Rattle.std.specs.Prelude.{◌≡◌, true, false, cond, ℕ, ◌+◌, ◌-◌, ◌≤◌, ltb}
use Rattle.settings.specs.declared.Settings.{Settings}
use Rattle.bench.specs.declared.Bench.{Bench}
use Rattle.bench.specs.computed.Bench.{sound_of}
use Rattle.bench.specs.computed.Calls.{make_of}
use Rattle.bench.specs.computed.Run.{run_of}
use Rattle.ahead.specs.computed.Ahead.{ticking_of}
use Rattle.reader.specs.declared.Reader.{Reader}
use Rattle.reader.specs.declared.text_line.Read.{Read}
use Rattle.reader.specs.declared.text_line.ReadLine.{ReadLine}
use Rattle.reader.specs.computed.Reader.{longest_text}
use Rattle.reader.specs.Reader.{unknown}
use Rattle.job.specs.computed.Check.{enough}
use Rattle.seek.specs.declared.Found.{Found}
use Rattle.seek.specs.declared.Search.{Search}
use Rattle.seek.specs.computed.Seek.{answer}

-- the counts before a line have room for it
abbrev pub Counted : Search → Type 0
Counted s = (s.sought.block ≤ s.sought.line) × (s.sought.line ≤ longest_text)

-- a line that made a block left a sound record
abbrev pub Tested : ReadLine → Type 0
Tested r = (bits : ℕ) → r.answer ≡ Read.Loaded bits → sound_of r.bench ≡ true

unfoldable pub search_from : Settings → (n : ℕ) → Search
search_from s n = record { decided = false; reader = unknown; sought = answer Found.Over 0 0 n (make_of s).bench }

abbrev pub passed_of : Search → Reader → Bench → Search
passed_of s k m =
    record { decided = false; reader = k; sought = answer Found.Over s.sought.block (s.sought.line + 1) s.sought.ticks m }

-- a block, whose run to the end does so many ticks
abbrev pub block_with : Search → Reader → (loaded : Bench) (ticks : ℕ) (ended : Bench) → Search
block_with s k m t ended =
    let block = s.sought.block + 1 in
    let line = s.sought.line + 1 in
    let n = s.sought.ticks in
    let decided = ltb n t in
    record {
      decided = decided;
      reader = k;
      sought = cond decided (answer Found.InWork block line n (ticking_of n m).bench) (answer Found.Over block line (n - t) ended);
    }

unfoldable pub block_of : Search → Reader → (loaded : Bench) → Search
block_of s k m = let x = (run_of m enough enough).ran in block_with s k m x.ticks x.bench

abbrev pub refused_of : Search → Bench → (number : ℕ) → Search
refused_of s m number =
    let t = s.sought in
    record { decided = true; reader = s.reader; sought = answer (Found.Refused number) t.block (t.line + 1) t.ticks m }

abbrev pub line_with : Search → Reader → Bench → Read → Search
line_with s k m Read.Nothing = passed_of s k m
line_with s k m (Read.Loaded bits) = block_of s k m
line_with s k m (Read.Refused number) = refused_of s m number

abbrev pub search_after : Search → ReadLine → Search
search_after s r = line_with s r.reader r.bench r.answer
