-- A bench read from its words, whatever they are, and the test of these words.
use Rattle.std.specs.Prelude.{Bool, true, false, cond, ◌&&◌, List, [], ◌∷◌, eqb, ℤ}
use Rattle.whole.specs.Equal.{equal_z}
use Rattle.circle.specs.declared.plane.Turn.{Turn}
use Rattle.line.specs.declared.line.Line.{Line}
use Rattle.arc.specs.declared.arc.Arc.{Arc}
use Rattle.work.specs.declared.Work.{Work}
use Rattle.settings.specs.declared.Settings.{Settings}
use Rattle.bench.specs.declared.Bench.{Bench}
use Rattle.bench.specs.computed.Bench.{sound_of}
use Rattle.encoding.specs.declared.encode.Head.{Head}
use Rattle.encoding.specs.declared.encode.WorkWords.{WorkWords}
use Rattle.encoding.specs.Words.{work_words, encode_of, count_of}
use Rattle.encoding.specs.Words.{settings_of, at}

-- ---- what the words tell, whatever they are

abbrev pub line_read : WorkWords → Line
line_read w =
    record {
      start = record { x = w.a; y = w.b };
      end = record { x = w.c; y = w.d };
      feed = count_of w.e;
      cycles = count_of w.f;
      done = count_of w.g;
    }

abbrev pub arc_read : Turn → WorkWords → Arc
arc_read t w =
    record {
      centre = record { x = w.a; y = w.b };
      square = count_of w.c;
      turn = t;
      end = record { x = w.d; y = w.e };
      feed = count_of w.f;
    }

unfoldable pub work_read : WorkWords → Work
work_read w =
    cond (eqb (count_of w.kind) 1) (Work.Line (line_read w))
    (cond (eqb (count_of w.kind) 2) (Work.Arc (arc_read Turn.Clockwise w))
    (cond (eqb (count_of w.kind) 3) (Work.Arc (arc_read Turn.Counterclockwise w)) Work.Nothing))

abbrev pub settings_in : Head → Settings
settings_in h = settings_of h.p h.w h.xlo h.xhi h.ylo h.yhi

abbrev pub bench_of : Head → Work → Bench
bench_of h work =
    record {
      settings = settings_in h;
      at = record { x = h.x; y = h.y };
      held = eqb (count_of h.mark) 1;
      remainder = count_of h.remainder;
      work = work;
    }

abbrev pub head_in : List ℤ → Head
head_in ws =
    record {
      p = at ws 1;
      w = at ws 2;
      xlo = at ws 3;
      xhi = at ws 4;
      ylo = at ws 5;
      yhi = at ws 6;
      x = at ws 7;
      y = at ws 8;
      mark = at ws 9;
      remainder = at ws 10;
    }

abbrev pub work_words_in : List ℤ → WorkWords
work_words_in ws = work_words (at ws 11) (at ws 12) (at ws 13) (at ws 14) (at ws 15) (at ws 16) (at ws 17) (at ws 18)

-- the bench that the words tell
unfoldable pub bench_read : List ℤ → Bench
bench_read ws = bench_of (head_in ws) (work_read (work_words_in ws))

unfoldable pub same_words : List ℤ → List ℤ → Bool
same_words [] [] = true
same_words [] (w ∷ ws) = false
same_words (v ∷ vs) [] = false
same_words (v ∷ vs) (w ∷ ws) = equal_z v w && same_words vs ws

-- Words are a bench's record if they are those of the bench that they tell. So another layout's number, a mark that is neither 0 nor 1,
-- a kind above 3, an unused word that is not 0 and a negative count make no record.
unfoldable pub is_record : List ℤ → Bool
is_record ws = same_words ws (encode_of (bench_read ws))

-- "Any call on a record: is it sound? 9.": they are a record, and it is sound
unfoldable pub sound_words : List ℤ → Bool
sound_words ws = is_record ws && sound_of (bench_read ws)
