-- A whole job after so many ticks. 02 §1, Where will it be?: "Operators ask for the point and block state after a given number of ticks, to
-- place a clamp." It is said by runs and ticks, not by the closed forms that the code uses.
use Rattle.std.specs.Prelude.{cond, List, [], ◌∷◌, ℕ, ◌+◌, ◌-◌, leb, ltb, length}
use Rattle.work.specs.Work.{cycles_left}
use Rattle.settings.specs.declared.Settings.{Settings}
use Rattle.bench.specs.declared.Bench.{Bench}
use Rattle.bench.specs.computed.Calls.{make_of}
use Rattle.bench.specs.computed.Run.{run_of}
use Rattle.ahead.specs.computed.Ahead.{ticking_of}
use Rattle.reader.specs.declared.Reader.{Reader}
use Rattle.reader.specs.declared.text_line.Read.{Read}
use Rattle.reader.specs.computed.Reader.{longest_text}
use Rattle.reader.specs.Reader.{unknown}
use Rattle.reader.specs.computed.TextLine.{read_line_of}
use Rattle.job.specs.Text.{lines_of}
use Rattle.job.specs.computed.Check.{enough}
use Rattle.seek.specs.declared.Found.{Found}
use Rattle.seek.specs.declared.Sought.{Sought}

-- the cycles that a block in work has left to its end
abbrev pub left_then : Found → Bench → ℕ
left_then Found.InWork m = cycles_left m.at m.work
left_then Found.Over m = 0
left_then (Found.Refused number) m = 0

-- The block in work and its text line, counted from 1, and the ticks done of it. Else how many blocks have ended, how many lines there are
-- or which is refused, and the ticks left over.
abbrev pub answer : Found → (block line n : ℕ) → Bench → Sought
answer found block line n m = record { found = found; block = block; line = line; ticks = n; left = left_then found m; bench = m }

-- A block newly in work, with n ticks to go. Where its run to the end does more, it is still in work after n tick calls: 02 §1, "the record
-- .. that the same ticks would give on a copy". Else the job goes on where that run leaves the machine, also where it does just n.
abbrev pub after_block : (block line n : ℕ) → Bench → (rest : (n : ℕ) → Bench → Sought) → Sought
after_block block line n m rest =
    let x = (run_of m enough enough).ran in
    cond (ltb n x.ticks) (answer Found.InWork block line n (ticking_of n m).bench) (rest (n - x.ticks) x.bench)

-- what a line's reading answers, with so many blocks before it
abbrev pub after_line : (blocks line n : ℕ) → Bench → Read → (rest : (blocks n : ℕ) → Bench → Sought) → Sought
after_line blocks line n m Read.Nothing rest = rest blocks n m
after_line blocks line n m (Read.Loaded bits) rest = after_block (blocks + 1) line n m (rest (blocks + 1))
after_line blocks line n m (Read.Refused number) rest = answer (Found.Refused number) blocks line n m

-- 01, The check program: "Each block is loaded once the one before has ended, remainder kept." After the last line the job is over, with
-- n ticks left. So many blocks and lines stand before these.
unfoldable pub seek_from : (blocks lines n : ℕ) → Bench → Reader → (rest : List (List ℕ)) → Sought
seek_from blocks lines n m k [] = answer Found.Over blocks lines n m
seek_from blocks lines n m k (l ∷ ls) =
    let r = read_line_of k m l in
    after_line blocks (lines + 1) n r.bench r.answer (λ blocks' n' m'. seek_from blocks' (lines + 1) n' m' r.reader ls)

-- The job begins at the machine that a make with these settings answers: a fresh one, also where it refuses them.
-- "is the text at most 65,536 bytes (asked once, line 1)? 30."
unfoldable pub seek_of : Settings → (text : List ℕ) (n : ℕ) → Sought
seek_of s text n =
    let m = (make_of s).bench in
    cond (leb (length text) longest_text) (seek_from 0 0 n m unknown (lines_of text)) (answer (Found.Refused 30) 0 1 n m)
