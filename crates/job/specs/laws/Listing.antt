-- What a check that has just begun has still to hand out is the listing of the text.
use Rattle.std.specs.Prelude.{◌≡◌, refl, Bool, true, false, cond, List, [], ◌∷◌, ◌++◌, ℕ, zero, suc, ◌≤◌, eqb}
use Rattle.std.specs.Prelude.{leb, length, pos, Result, Ok, Err, ⊤}
use Rattle.std.proofs.Common.{ap, ◌∙◌, arith, leb-true}
use Rattle.question.specs.Question.{number_told}
use Rattle.question.specs.declared.Question.{Question}
use Rattle.row.specs.Lines.{header_line, refused_line}
use Rattle.settings.specs.declared.Settings.{Settings}
use Rattle.settings.specs.Settings.{standard_settings, capacity_of}
use Rattle.settings.specs.computed.Settings.{settings_no, ask_settings}
use Rattle.settings.specs.laws.Right.{settings_right, standard_passes}
use Rattle.finish.specs.laws.Record.{AtRest}
use Rattle.bench.specs.declared.Bench.{Bench}
use Rattle.bench.specs.Bench.{fresh_of}
use Rattle.bench.specs.computed.Calls.{make_with, make_of}
use Rattle.invariant.specs.laws.Make.{fresh_sound}
use Rattle.reader.specs.computed.Reader.{longest_text}
use Rattle.reader.specs.Reader.{unknown}
use Rattle.tally.specs.computed.Tally.{tally_from as tally_start}
use Rattle.tally.specs.laws.Counts.{Counts}
use Rattle.job.specs.Text.{line_or, lines_of}
use Rattle.job.specs.Job.{Made, End}
use Rattle.job.specs.computed.Job.{job_at, job_from}
use Rattle.job.specs.Listing.{rows, last_line}
use Rattle.job.specs.computed.Listing.{listing_at, listing_of}
use Rattle.job.specs.computed.Check.{totals, rows_from, check_from, rest_of}
use Rattle.job.specs.laws.Ended.{Low}
use Rattle.job.specs.laws.Rows.{last_after, last_same, lists}

pub lines_few : (s : List ℕ) → length (lines_of s) ≤ length s
unfolding lines_of
lines_few [] = omega arith
lines_few (b ∷ s) = by (eqb b 10) (lines_of s) (lines_few s)
  where
    by : (lf : Bool) (ls : List (List ℕ)) → length ls ≤ length s → length (line_or lf b ls) ≤ suc (length s)
    by true ls h = omega arith
    by false [] h = omega arith
    by false (l ∷ ls) h = omega arith

pub fresh_rests : (s : Settings) → settings_no s ≡ 0 → AtRest (fresh_of s)
unfolding fresh_of
fresh_rests s passed = record { sound = fresh_sound s passed; idle = refl; free = refl }

-- of whatever settings
pub made_rests : (s : Settings) → AtRest (make_of s).bench
unfolding make_of
made_rests s = by (ask_settings s) refl
  where
    by : (asked : Result ⊤ Question) → ask_settings s ≡ asked → AtRest (make_with s asked).bench
    by (Ok passed) e = fresh_rests s (ap number_told e)
    by (Err q) e = fresh_rests standard_settings standard_passes

pub fresh_low : (s : Settings) → settings_no s ≡ 0 → Low (fresh_of s)
unfolding fresh_of
fresh_low s passed = omega (arith, (settings_right s passed).clock_some)

pub fresh_counts : (m : Bench) → Counts (tally_start m)
unfolding tally_start
fresh_counts m = record { lines = omega arith; blocks = omega arith; cycles = omega arith; high = omega arith; low = omega arith }

last_is : (lines q0 : ℕ) (ms : List Made) (end : End) → last_after totals lines 0 0 0 q0 0 ms end ≡ last_line q0 ms end
last_is lines q0 ms End.complete = last_same totals {n = lines} refl (omega arith) (omega arith) (omega arith)
last_is lines q0 ms (End.refused n number) = refl

-- from a machine made fresh
pub listing_is : (s : Settings) → settings_no s ≡ 0 → (text : List ℕ) → rest_of (check_from (fresh_of s)) text ≡ listing_of s text
unfolding rest_of check_from tally_start listing_at job_at fresh_of rows
listing_is s passed text = ap (λ (rest : List ℕ). header_line ++ rest) (by (leb (length text) longest_text) refl)
  where
    by : (short : Bool) → leb (length text) longest_text ≡ short
        → cond short (rows_from (tally_start (fresh_of s)) (lines_of text)) (refused_line 1 30)
        ≡ (let j = cond short (job_from s 1 (record { x = pos 0; y = pos 0 }) unknown (lines_of text))
        (record { blocks = []; end = End.refused 1 30 }) in
        rows 1 j.blocks ++ last_line (capacity_of s) j.blocks j.end)
    by true e =
        let j = job_from s 1 (record { x = pos 0; y = pos 0 }) unknown (lines_of text) in
        let n = length (lines_of text) in
        lists totals n (lines_of text) (tally_start (fresh_of s)) (fresh_rests s passed) (fresh_low s passed) (fresh_counts (fresh_of s))
        (omega arith)
        (omega (arith, lines_few text, leb-true (length text) longest_text e))
        ∙ ap (λ (last : List ℕ). rows 1 j.blocks ++ last) (last_is n (capacity_of s) j.blocks j.end)
    by false e = refl
