-- A bench as 19 words, signed numbers of 64 bits: the number of this layout, p, w, the lower and the upper bound of X, those of Y, x, y,
-- the mark, the remainder, and eight words for what is in work. They are words 0 to 18 of a machine's record, and all that a check keeps.
use Rattle.std.specs.Prelude.{Bool, true, false, cond, List, [], ◌∷◌, ℕ, ◌^◌, ltb, get_or, ℤ, pos, negsuc, neg_ℤ}
use Rattle.circle.specs.declared.plane.Turn.{Turn}
use Rattle.work.specs.declared.Work.{Work}
use Rattle.settings.specs.declared.Settings.{Settings}
use Rattle.bench.specs.declared.Bench.{Bench}
use Rattle.encoding.specs.declared.encode.Head.{Head}
use Rattle.encoding.specs.declared.encode.WorkWords.{WorkWords}

-- the number of this layout; it grows whenever the words of a record change or one comes to mean something else, so that a record saved
-- under another one is refused. 2: 02 §2 counts the remainder by charges, a thousandfold of what it was. 3: 02 §3 lets blocks wait, whose
-- words crate `record` puts behind these. 4: 02 §4 counts feed numbers and the remainder in thousandths of what they were
abbrev pub abi : ℤ
abi = pos 4

-- a count as a word; -1 where no word holds it, as in no sound record
unfoldable pub word_of : ℕ → ℤ
word_of n = cond (ltb n (2 ^ 63)) (pos n) (negsuc 0)

-- a refusal is minus the number of the question
unfoldable pub refusal_of : (question : ℕ) → ℤ
refusal_of n = neg_ℤ (word_of n)

-- ---- a bench as words

abbrev pub mark_word : (held : Bool) → ℤ
mark_word true = pos 1
mark_word false = pos 0

abbrev pub turn_word : Turn → ℤ
turn_word Turn.Clockwise = pos 2
turn_word Turn.Counterclockwise = pos 3

abbrev pub work_words : (kind a b c d e f g : ℤ) → WorkWords
work_words k a b c d e f g = record { kind = k; a = a; b = b; c = c; d = d; e = e; f = f; g = g }

-- what is in work: 0 nothing, 1 a line, 2 an arc clockwise, 3 an arc counterclockwise; then its numbers
abbrev pub work_words_of : Work → WorkWords
work_words_of Work.Nothing = work_words (pos 0) (pos 0) (pos 0) (pos 0) (pos 0) (pos 0) (pos 0) (pos 0)
work_words_of (Work.Line l) =
    work_words (pos 1) l.start.x l.start.y l.end.x l.end.y (word_of l.feed) (word_of l.cycles) (word_of l.done)
work_words_of (Work.Arc a) =
    work_words (turn_word a.turn) a.centre.x a.centre.y (word_of a.square) a.end.x a.end.y (word_of a.feed) (pos 0)

abbrev pub head_of : Bench → Head
head_of m =
    record {
      p = word_of m.settings.scale;
      w = word_of m.settings.clock;
      xlo = m.settings.travel.x.lower;
      xhi = m.settings.travel.x.upper;
      ylo = m.settings.travel.y.lower;
      yhi = m.settings.travel.y.upper;
      x = m.at.x;
      y = m.at.y;
      mark = mark_word m.held;
      remainder = word_of m.remainder;
    }

-- the order of the words
abbrev pub words_of : Head → WorkWords → List ℤ
words_of h w =
    abi ∷ h.p ∷ h.w ∷ h.xlo ∷ h.xhi ∷ h.ylo ∷ h.yhi ∷ h.x ∷ h.y ∷ h.mark ∷ h.remainder
    ∷ w.kind ∷ w.a ∷ w.b ∷ w.c ∷ w.d ∷ w.e ∷ w.f ∷ w.g ∷ []

unfoldable pub encode_of : Bench → List ℤ
encode_of m = words_of (head_of m) (work_words_of m.work)

-- ---- and back: what the words tell, whatever they are

-- a negative word tells no count
abbrev pub count_of : ℤ → ℕ
count_of (pos n) = n
count_of (negsuc n) = 0

abbrev pub settings_of : (p w xlo xhi ylo yhi : ℤ) → Settings
settings_of p w xlo xhi ylo yhi =
    record {
      scale = count_of p;
      clock = count_of w;
      travel =
          record { x = record { lower = xlo; upper = xhi }; y = record { lower = ylo; upper = yhi } };
    }

-- word i; 0 where there is none
abbrev pub at : List ℤ → ℕ → ℤ
at ws i = get_or ws i (pos 0)
