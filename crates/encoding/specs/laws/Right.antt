-- The code's tests pass exactly where the words are those of the bench that they tell.
use Rattle.std.specs.Prelude.{◌≡◌, Bool, ℕ, zero, suc, ◌+◌, eqb, ℤ, pos, negsuc, length, drop}
use Rattle.std.proofs.Math.Path.{refl, sym, ap}
use Rattle.std.proofs.Common.{◌∙◌, arith, drop_of_length-le, drop-cons, SFits}
use Rattle.std.proofs.Math.Bool.{true, false, cond}
use mathlib.Core.List.{List, [], ◌∷◌}
use Rattle.std.specs.Int.{w64}
use Rattle.whole.specs.Equal.{equal_z}
use Rattle.whole.specs.laws.Test.{both, joined, same_test, equal_true}
use Rattle.circle.specs.declared.plane.Turn.{Turn}
use Rattle.work.specs.declared.Work.{Work}
use Rattle.encoding.specs.declared.encode.Head.{Head}
use Rattle.encoding.specs.declared.encode.WorkWords.{WorkWords}
use Rattle.encoding.specs.Words.{abi, at, word_of, count_of, mark_word, turn_word, work_words}
use Rattle.encoding.specs.computed.Words.{line_read, arc_read}
use Rattle.encoding.specs.Words.{work_words_of, head_of, words_of}
use Rattle.encoding.specs.computed.Words.{work_read, head_in, work_words_in, bench_of, bench_read}
use Rattle.encoding.specs.Words.{encode_of}
use Rattle.encoding.specs.computed.Words.{is_record}
use Rattle.encoding.specs.computed.Right.{is_count, is_mark, head_right, nothing_right, line_right, arc_right, work_right, parts_right}
use Rattle.encoding.specs.computed.Right.{words_right}
use Rattle.encoding.specs.laws.Number.{word_small}
use Rattle.encoding.specs.laws.Same.{same_true, same_words_lem}

-- ---- one word: `-again`, that a right one is written again from what it tells; `-right`, that one written again is right

pub count_again : (z : ℤ) → SFits w64 z → is_count z ≡ true → word_of (count_of z) ≡ z
count_again (pos n) f t = word_small (omega arith)
count_again (negsuc n) f t = cc

pub count_right : (z : ℤ) → word_of (count_of z) ≡ z → is_count z ≡ true
unfolding word_of
count_right (pos n) e = refl
count_right (negsuc n) e = cc

mark_again : (z : ℤ) → is_mark z ≡ true → mark_word (eqb (count_of z) 1) ≡ z
mark_again z = by (equal_z z (pos 0)) refl
  where
    by : (none : Bool) → equal_z z (pos 0) ≡ none → cond none true (equal_z z (pos 1)) ≡ true → mark_word (eqb (count_of z) 1) ≡ z
    by true e t = rw (equal_true z (pos 0) e)
    by false e t = rw (equal_true z (pos 1) t)

mark_right : (z : ℤ) → mark_word (eqb (count_of z) 1) ≡ z → is_mark z ≡ true
mark_right z = by (eqb (count_of z) 1)
  where
    by : (held : Bool) → mark_word held ≡ z → is_mark z ≡ true
    by true e = rw (← e)
    by false e = rw (← e)

pub zero_right : {z : ℤ} → pos 0 ≡ z → equal_z z (pos 0) ≡ true
zero_right e = rw (← e)

-- ---- the words before what is in work

module _ (h : Head) (work : Work) where
  pub head_again : SFits w64 h.p → SFits w64 h.w → SFits w64 h.remainder → head_right h ≡ true → head_of (bench_of h work) ≡ h
  unfolding head_right
  head_again fp fw fr t =
      let a = both t in
      let b = both a.1 in
      let c = both b.1 in
      rw (count_again h.p fp a.0, count_again h.w fw b.0, mark_again h.mark c.0, count_again h.remainder fr c.1)

  pub head_right_lem : head_of (bench_of h work) ≡ h → head_right h ≡ true
  unfolding head_right
  head_right_lem e =
      joined (count_right h.p (ap (λ (g : Head). g.p) e))
      (joined (count_right h.w (ap (λ (g : Head). g.w) e))
      (joined (mark_right h.mark (ap (λ (g : Head). g.mark) e)) (count_right h.remainder (ap (λ (g : Head). g.remainder) e))))

-- ---- the words of what is in work

pub record WorkFits (w : WorkWords) : Type 0 where
  pub c : SFits w64 w.c
  pub e : SFits w64 w.e
  pub f : SFits w64 w.f
  pub g : SFits w64 w.g

module _ (w : WorkWords) where
  -- with this kind
  abbrev of_kind : ℤ → WorkWords
  of_kind k = work_words k w.a w.b w.c w.d w.e w.f w.g

  nothing_again : nothing_right w ≡ true → work_words_of Work.Nothing ≡ of_kind (pos 0)
  nothing_again t =
      let a = both t in
      let b = both a.1 in
      let c = both b.1 in
      let d = both c.1 in
      let e = both d.1 in
      let f = both e.1 in
      rw (
        equal_true w.a (pos 0) a.0,
        equal_true w.b (pos 0) b.0,
        equal_true w.c (pos 0) c.0,
        equal_true w.d (pos 0) d.0,
        equal_true w.e (pos 0) e.0,
        equal_true w.f (pos 0) f.0,
        equal_true w.g (pos 0) f.1,
      )

  line_again : WorkFits w → line_right w ≡ true → work_words_of (Work.Line (line_read w)) ≡ of_kind (pos 1)
  line_again s t =
      let a = both t in
      let b = both a.1 in
      rw (count_again w.e s.e a.0, count_again w.f s.f b.0, count_again w.g s.g b.1)

  arc_again : (turn : Turn) → WorkFits w → arc_right w ≡ true → work_words_of (Work.Arc (arc_read turn w)) ≡ of_kind (turn_word turn)
  arc_again turn s t =
      let a = both t in
      let b = both a.1 in
      rw (count_again w.c s.c a.0, count_again w.f s.f b.0, equal_true w.g (pos 0) b.1)

  pub work_again : WorkFits w → work_right w ≡ true → work_words_of (work_read w) ≡ of_kind w.kind
  unfolding work_right work_read
  work_again s = by (equal_z w.kind (pos 0)) refl (equal_z w.kind (pos 1)) refl (equal_z w.kind (pos 2)) refl
      (equal_z w.kind (pos 3)) refl
    where
      by : (k0 : Bool) → equal_z w.kind (pos 0) ≡ k0 → (k1 : Bool) → equal_z w.kind (pos 1) ≡ k1 → (k2 : Bool)
          → equal_z w.kind (pos 2) ≡ k2
          → (k3 : Bool) → equal_z w.kind (pos 3) ≡ k3
          → cond k0 (nothing_right w) (cond k1 (line_right w) (cond k2 (arc_right w) (cond k3 (arc_right w) false))) ≡ true
          → work_words_of (work_read w) ≡ of_kind w.kind
      by true e k1 e1 k2 e2 k3 e3 t = rw (equal_true w.kind (pos 0) e) (nothing_again t)
      by false e true e1 k2 e2 k3 e3 t = rw (equal_true w.kind (pos 1) e1) (line_again s t)
      by false e false e1 true e2 k3 e3 t = rw (equal_true w.kind (pos 2) e2) (arc_again Turn.Clockwise s t)
      by false e false e1 false e2 true e3 t = rw (equal_true w.kind (pos 3) e3) (arc_again Turn.Counterclockwise s t)
      by false e false e1 false e2 false e3 t = cc

  -- and the other way: by what the kind tells
  nothing_right_lem : work_words_of Work.Nothing ≡ w → nothing_right w ≡ true
  nothing_right_lem e =
      joined (zero_right (ap (λ (v : WorkWords). v.a) e))
      (joined (zero_right (ap (λ (v : WorkWords). v.b) e))
      (joined (zero_right (ap (λ (v : WorkWords). v.c) e))
      (joined (zero_right (ap (λ (v : WorkWords). v.d) e))
      (joined (zero_right (ap (λ (v : WorkWords). v.e) e))
      (joined (zero_right (ap (λ (v : WorkWords). v.f) e)) (zero_right (ap (λ (v : WorkWords). v.g) e)))))))

  line_right_lem : work_words_of (Work.Line (line_read w)) ≡ w → line_right w ≡ true
  line_right_lem e =
      joined (count_right w.e (ap (λ (v : WorkWords). v.e) e))
      (joined (count_right w.f (ap (λ (v : WorkWords). v.f) e)) (count_right w.g (ap (λ (v : WorkWords). v.g) e)))

  arc_right_lem : (turn : Turn) → work_words_of (Work.Arc (arc_read turn w)) ≡ w → arc_right w ≡ true
  arc_right_lem turn e =
      joined (count_right w.c (ap (λ (v : WorkWords). v.c) e))
      (joined (count_right w.f (ap (λ (v : WorkWords). v.f) e)) (zero_right (ap (λ (v : WorkWords). v.g) e)))

  -- the kind that a work's words have
  kind_is : (work : Work) → work_words_of work ≡ w → w.kind ≡ (work_words_of work).kind
  kind_is work e = sym (ap (λ (v : WorkWords). v.kind) e)

  pub work_right_lem : work_words_of (work_read w) ≡ w → work_right w ≡ true
  unfolding work_right work_read
  work_right_lem = by (eqb (count_of w.kind) 1) (eqb (count_of w.kind) 2) (eqb (count_of w.kind) 3)
    where
      by : (k1 k2 k3 : Bool)
          → work_words_of (cond k1 (Work.Line (line_read w))
          (cond k2 (Work.Arc (arc_read Turn.Clockwise w)) (cond k3 (Work.Arc (arc_read Turn.Counterclockwise w)) Work.Nothing))) ≡ w
          → work_right w ≡ true
      by true k2 k3 e = rw (kind_is (Work.Line (line_read w)) e) (line_right_lem e)
      by false true k3 e = rw (kind_is (Work.Arc (arc_read Turn.Clockwise w)) e) (arc_right_lem Turn.Clockwise e)
      by false false true e = rw (kind_is (Work.Arc (arc_read Turn.Counterclockwise w)) e) (arc_right_lem Turn.Counterclockwise e)
      by false false false e = rw (kind_is Work.Nothing e) (nothing_right_lem e)

-- ---- all nineteen

-- n words from the i-th on
abbrev pub words_at : (i n : ℕ) → List ℤ → List ℤ
words_at i zero ws = []
words_at i (suc n) ws = at ws i ∷ words_at (suc i) n ws

spread : (n i : ℕ) (ws : List ℤ) → length ws ≡ i + n → drop i ws ≡ words_at i n ws
spread zero i ws e = drop_of_length-le ws {i = i} (omega arith)
spread (suc n) i ws e = drop-cons ws i (pos 0) (omega arith) ∙ ap (λ (rest : List ℤ). at ws i ∷ rest) (spread n (suc i) ws (omega arith))

-- words that are so many, one by one
pub each : (n : ℕ) (ws : List ℤ) → length ws ≡ n → ws ≡ words_at 0 n ws
each n ws e = spread n 0 ws (omega arith)

-- the words that a count may stand in are numbers of 64 bits
pub record Fits (ws : List ℤ) : Type 0 where
  pub p : SFits w64 (at ws 1)
  pub w : SFits w64 (at ws 2)
  pub remainder : SFits w64 (at ws 10)
  pub work : WorkFits (work_words_in ws)

module _ (ws : List ℤ) (all : length ws ≡ 19) (f : Fits ws) where
  told_again : words_right ws ≡ true → ws ≡ encode_of (bench_read ws)
  unfolding words_right parts_right encode_of bench_read
  told_again t =
      let a = both t in
      let b = both a.1 in
      let h = head_again (head_in ws) (work_read (work_words_in ws)) f.p f.w f.remainder b.0 in
      let w = work_again (work_words_in ws) f.work b.1 in
      each 19 ws all
      ∙ ap (λ (first : ℤ). first ∷ words_at 1 18 ws) (equal_true (at ws 0) abi a.0)
      ∙ ap (λ (g : Head). words_of g (work_words_in ws)) (sym h)
      ∙ ap (λ (v : WorkWords). words_of (head_of (bench_read ws)) v) (sym w)

  told_right : ws ≡ encode_of (bench_read ws) → words_right ws ≡ true
  unfolding words_right parts_right encode_of bench_read
  told_right e =
      let first : equal_z (at ws 0) abi ≡ true = rw (ap (λ (l : List ℤ). at l 0) e) in
      joined first
      (joined (head_right_lem (head_in ws) (work_read (work_words_in ws)) (sym (ap head_in e)))
      (work_right_lem (work_words_in ws) (sym (ap work_words_in e))))

  pub right_same : words_right ws ≡ is_record ws
  unfolding is_record
  right_same =
      same_test (λ t. sym (same_words_lem (told_again t))) (λ t. told_right (same_true ws (encode_of (bench_read ws)) t))
