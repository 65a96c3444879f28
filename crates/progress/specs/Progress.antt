-- A check's progress as 9 words beside its bench's, signed numbers of 64 bits: the stage, where the next line begins in the text,
-- the G and the F known, and the lines, blocks, cycles and ticks so far, the ticks in two words.
use Rattle.std.specs.Prelude.{cond, List, [], ◌∷◌, ℕ, eqb, ℤ, pos}
use Rattle.bench.specs.declared.Bench.{Bench}
use Rattle.tally.specs.declared.Tally.{Tally}
use Rattle.job.specs.declared.Stage.{Stage}
use Rattle.job.specs.declared.Check.{Check}
use Rattle.encoding.specs.Words.{word_of, count_of, at}
use Rattle.progress.specs.declared.progress.Progress.{Progress}
use Rattle.progress.specs.Known.{known_of, reader_of}
use Rattle.progress.specs.Long.{long_words, long_read}

-- ---- progress as words

abbrev pub stage_word : Stage → ℤ
stage_word Stage.Header = pos 0
stage_word Stage.Lines = pos 1
stage_word Stage.Over = pos 2

abbrev pub progress_of : Check → Progress
progress_of c =
    record {
      stage = stage_word c.stage;
      at = word_of c.at;
      known = known_of c.tally.reader;
      lines = word_of c.tally.lines;
      blocks = word_of c.tally.blocks;
      cycles = word_of c.tally.cycles;
      ticks = long_words c.tally.ticks;
    }

-- the order of the words
abbrev pub progress_words : Progress → List ℤ
progress_words p =
    p.stage ∷ p.at ∷ p.known.motion ∷ p.known.feed ∷ p.lines ∷ p.blocks ∷ p.cycles
    ∷ p.ticks.low ∷ p.ticks.high ∷ []

unfoldable pub encode_progress : Check → List ℤ
encode_progress c = progress_words (progress_of c)

-- ---- and back: what the words tell, whatever they are

abbrev pub stage_of : ℕ → Stage
stage_of n = cond (eqb n 1) Stage.Lines (cond (eqb n 2) Stage.Over Stage.Header)

abbrev pub tally_of : Bench → Progress → Tally
tally_of m p =
    record {
      reader = reader_of p.known;
      bench = m;
      lines = count_of p.lines;
      blocks = count_of p.blocks;
      cycles = count_of p.cycles;
      ticks = long_read p.ticks;
    }

abbrev pub check_of : Bench → Progress → Check
check_of m p = record { stage = stage_of (count_of p.stage); at = count_of p.at; tally = tally_of m p }

abbrev pub progress_in : List ℤ → Progress
progress_in ws =
    record {
      stage = at ws 0;
      at = at ws 1;
      known = record { motion = at ws 2; feed = at ws 3 };
      lines = at ws 4;
      blocks = at ws 5;
      cycles = at ws 6;
      ticks = record { low = at ws 7; high = at ws 8 };
    }

-- the check at this bench that the words tell, if they are one's progress at all
unfoldable pub check_in : Bench → List ℤ → Check
check_in m ws = check_of m (progress_in ws)
