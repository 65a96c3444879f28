-- Words and benches, exactly: words that are a record are those of their bench, and a sound bench's words are a record of it.
use Rattle.std.specs.Prelude.{◌≡◌, refl, Bool, true, false, List, ℕ, ◌^◌, ◌≤◌, ◌<◌, eqb, ℤ, pos}
use Rattle.std.proofs.Math.Path.{sym}
use Rattle.std.proofs.Common.{arith}
use Rattle.whole.specs.laws.Test.{both}
use Rattle.plane.specs.declared.point.Point.{Point}
use Rattle.plane.specs.declared.travel.Travel.{Travel}
use Rattle.circle.specs.declared.plane.Turn.{Turn}
use Rattle.circle.proofs.laws.Circle.{on_circle_to}
use Rattle.line.specs.declared.line.Line.{Line}
use Rattle.line.specs.laws.Cycles.{cycles_bound}
use Rattle.arc.specs.declared.arc.Arc.{Arc}
use Rattle.work.specs.declared.Work.{Work}
use Rattle.work.specs.computed.Work.{work_sound}
use Rattle.work.specs.laws.Sound.{line_work, arc_work}
use Rattle.bench.specs.declared.Bench.{Bench}
use Rattle.bench.specs.computed.Bench.{sound_of}
use Rattle.settings.specs.laws.Right.{settings_right}
use Rattle.bench.specs.laws.Sound.{sound}
use Rattle.encoding.specs.Words.{word_of, count_of, mark_word, turn_word, work_words, work_words_of, encode_of}
use Rattle.encoding.specs.computed.Words.{work_read, bench_read, is_record}
use Rattle.encoding.specs.computed.Words.{sound_words}
use Rattle.encoding.specs.laws.Number.{word_small}
use Rattle.encoding.specs.laws.Same.{same_true, same_self}

-- ---- from words to a bench and back

pub record_words : (ws : List ℤ) → is_record ws ≡ true → encode_of (bench_read ws) ≡ ws
unfolding is_record
record_words ws t = sym (same_true ws (encode_of (bench_read ws)) t)

-- ---- from a bench to words and back

-- the counts of what is in work are words
pub record LineSmall (l : Line) : Type 0 where
  pub feed : l.feed < 2 ^ 63
  pub cycles : l.cycles < 2 ^ 63
  pub done : l.done < 2 ^ 63

pub record ArcSmall (a : Arc) : Type 0 where
  pub square : a.square < 2 ^ 63
  pub feed : a.feed < 2 ^ 63

abbrev pub Small : Work → Type 0
Small Work.Nothing = Unit {0}
Small (Work.Line l) = LineSmall l
Small (Work.Arc a) = ArcSmall a

pub count_word : {n : ℕ} → n < 2 ^ 63 → count_of (word_of n) ≡ n
count_word h = rw (word_small h)

pub mark_back : (held : Bool) → eqb (count_of (mark_word held)) 1 ≡ held
mark_back true = refl
mark_back false = refl

arc_back :
    (a : Arc)
    → ArcSmall a
    → (t : Turn)
    → work_read (work_words (turn_word t) a.centre.x a.centre.y (word_of a.square) a.end.x a.end.y (word_of a.feed)
    (pos 0))
    ≡ Work.Arc (record { centre = a.centre; square = a.square; turn = t; end = a.end; feed = a.feed })
unfolding work_read
arc_back a s Turn.Clockwise = rw (count_word s.square, count_word s.feed)
arc_back a s Turn.Counterclockwise = rw (count_word s.square, count_word s.feed)

pub work_back : (w : Work) → Small w → work_read (work_words_of w) ≡ w
unfolding work_read
work_back Work.Nothing s = refl
work_back (Work.Line l) s = rw (count_word s.feed, count_word s.cycles, count_word s.done)
work_back (Work.Arc a) s = arc_back a s a.turn

pub small : {q0 : ℕ} (t : Travel) (at : Point) (w : Work) → q0 ≤ 1200000000 → work_sound q0 t at w ≡ true → Small w
unfolding work_sound
small t at Work.Nothing most e = tt
small t at (Work.Line l) most e =
    let i = line_work {t = t} {at = at} e in
    let d = i.line.drawing in
    let k : l.cycles ≤ 2828428 = omega (arith, d.own, cycles_bound l.start l.end d.short_x d.short_y) in
    record { feed = omega (arith, i.feed.most); cycles = omega arith; done = omega (arith, d.due) }
small t at (Work.Arc a) most e =
    let i = arc_work {t = t} {at = at} e in
    record { square = omega (arith, (on_circle_to _ _ i.arc.on).bound); feed = omega (arith, i.feed.most) }

pub machine_back : (m : Bench) → sound_of m ≡ true → bench_read (encode_of m) ≡ m
unfolding bench_read encode_of
machine_back m e =
    let s = sound e in
    let r = settings_right m.settings s.settings in
    let w = small m.settings.travel m.at m.work (omega (arith, r.clock_most)) s.work in
    let scale : m.settings.scale < 2 ^ 63 = omega (arith, r.scale_most) in
    let clock : m.settings.clock < 2 ^ 63 = omega (arith, r.clock_most) in
    let remainder : m.remainder < 2 ^ 63 = omega (arith, s.below, r.clock_most) in
    rw (count_word scale, count_word clock, mark_back m.held, count_word remainder, work_back m.work w)

pub record_of_lem : (m : Bench) → sound_of m ≡ true → is_record (encode_of m) ≡ true
unfolding is_record
record_of_lem m e = rw (machine_back m e, same_self (encode_of m))

-- ---- words of a sound record

module _ (ws : List ℤ) (t : sound_words ws ≡ true) where
  -- they are those of the bench that they tell, which is sound
  pub words_are : ws ≡ encode_of (bench_read ws)
  unfolding sound_words
  words_are = sym (record_words ws (both {a = is_record ws} t).0)

  pub told_sound : sound_of (bench_read ws) ≡ true
  unfolding sound_words
  told_sound = (both {a = is_record ws} t).1

-- the words of a sound bench
pub sound_words_lem : (m : Bench) → sound_of m ≡ true → sound_words (encode_of m) ≡ true
unfolding sound_words
sound_words_lem m e = rw (record_of_lem m e, machine_back m e, e)
