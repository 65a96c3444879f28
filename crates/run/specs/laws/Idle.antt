-- Ticks without a cycle, and the tick that does one.
use Rattle.std.specs.Prelude.{◌≡◌, refl, false, List, [], ◌∷◌, ◌++◌, ℕ, zero, suc, ◌+◌, ◌-◌, ◌*◌, ◌≤◌, ◌<◌, length, drop, take, replicate}
use Rattle.std.proofs.Common.{sym, ap, ap₂, ◌∙◌, append_assoc, arith, le-leb, length-append, length-drop, take-add, drop-drop, drop_at}
use Rattle.std.proofs.lemmas.Bool.{lt-leb}
use Rattle.std.proofs.lemmas.List.{length-replicate}
use Rattle.plane.specs.declared.point.Point.{Point}
use Rattle.work.specs.declared.Work.{Work}
use Rattle.work.specs.declared.Cycle.{Cycle}
use Rattle.work.specs.Work.{is_nothing, added_of}
use Rattle.work.specs.computed.Work.{cycle_of, due_of, advance_of}
use Rattle.run.specs.declared.Ran.{Ran}
use Rattle.run.specs.computed.Run.{Strip, strip_of, written}
use Rattle.run.specs.computed.Gap.{cleared_of}
use Rattle.run.specs.laws.Going.{after, Going, Answer}

after_after : (xs ys : List ℕ) (s : Strip) → after xs (after ys s) ≡ after (xs ++ ys) s
unfolding after
after_after xs ys s =
    ap (λ (bs : List ℕ). record { bytes = bs; at = s.at; remainder = s.remainder; work = s.work; ended = s.ended })
    (sym (append_assoc xs ys s.bytes))

pub idle_tick : (q0 : ℕ) (at : Point) (r : ℕ) (w : Work) → r + added_of w < due_of q0 at w
    → advance_of q0 at r w ≡ record { at = at; remainder = r + added_of w; byte = 0; work = w }
unfolding advance_of
idle_tick q0 at r w h = rw (lt-leb (due_of q0 at w) (r + added_of w) h)

pub cycle_tick_lem : (q0 : ℕ) (at : Point) (r : ℕ) (w : Work) {rest : ℕ} {c : Cycle} → due_of q0 at w + rest ≡ r + added_of w
    → c ≡ cycle_of at w
    → record { at = c.at; remainder = rest; byte = c.byte; work = c.work } ≡ advance_of q0 at r w
unfolding advance_of
cycle_tick_lem q0 at r w {rest} {c} e k =
    let left : rest ≡ r + added_of w - due_of q0 at w = omega arith in
    rw (le-leb (due_of q0 at w) (r + added_of w) (omega arith), left, k)

one_idle : (q0 : ℕ) (at : Point) (w : Work) → is_nothing w ≡ false → (n r : ℕ) → r + added_of w < due_of q0 at w
    → strip_of q0 (suc n) at r w ≡ after (0 ∷ []) (strip_of q0 n at (r + added_of w) w)
unfolding strip_of after
one_idle q0 at w busy n r h = rw (idle_tick q0 at r w h, busy)

strip_idle : (q0 : ℕ) (at : Point) (w : Work) → is_nothing w ≡ false → (g m r : ℕ) → (1 ≤ g → r + g * added_of w < due_of q0 at w)
    → strip_of q0 (g + m) at r w ≡ after (replicate g 0) (strip_of q0 m at (r + g * added_of w) w)
unfolding after
strip_idle q0 at w busy zero m r h = ap₂ (λ (j s : ℕ). strip_of q0 j at s w) (omega arith) (omega arith)
strip_idle q0 at w busy (suc g) m r h =
    ap (λ (j : ℕ). strip_of q0 j at r w) one
    ∙ one_idle q0 at w busy (g + m) r (omega (arith, h (omega arith)))
    ∙ ap (after (0 ∷ [])) (strip_idle q0 at w busy g m (r + added_of w) (λ j. omega (arith, h (omega arith))))
    ∙ ap (λ (s : ℕ). after (replicate (suc g) 0) (strip_of q0 m at s w)) (omega arith)
  where
    one : suc g + m ≡ suc (g + m)
    one = omega arith

-- ---- in a buffer that was cleared before

zeros : (d g n : ℕ) (ys : List ℕ) → d + g ≤ n → take g (drop d (replicate n 0 ++ ys)) ≡ replicate g 0
zeros zero zero n ys h = refl
zeros zero (suc g) zero ys h = absurd (omega arith)
zeros zero (suc g) (suc n) ys h = ap (λ (l : List ℕ). 0 ∷ l) (zeros zero g n ys (omega arith))
zeros (suc d) g zero ys h = absurd (omega arith)
zeros (suc d) g (suc n) ys h = zeros d g n ys (omega arith)

pub cleared_length : (n : ℕ) (out : List ℕ) → n ≤ length out → length (cleared_of n out) ≡ length out
unfolding cleared_of
cleared_length n out h = simp (length-append, length-replicate, length-drop) (omega arith)

pub cleared_twice : (n : ℕ) (out : List ℕ) → cleared_of n (cleared_of n out) ≡ cleared_of n out
unfolding cleared_of
cleared_twice n out = ap (λ (l : List ℕ). replicate n 0 ++ l) (drop_at (replicate n 0) (drop n out) n (length-replicate n 0))

-- the ticks without a cycle need no byte written
pub going_idle : {q0 k : ℕ} {all : Strip} {out₀ out : List ℕ} {n done : ℕ} {at : Point} {r : ℕ} {w : Work} → out₀ ≡ cleared_of n out₀
    → Going q0 k all out₀ out done at r w → is_nothing w ≡ false → n ≤ k
    → (g : ℕ) → done + g ≤ n → (1 ≤ g → r + g * added_of w < due_of q0 at w)
    → Going q0 k all out₀ out (done + g) at (r + g * added_of w) w
unfolding after cleared_of
going_idle {q0} {k} {all} {out₀} {out} {n} {done} {at} {r} {w} clear i busy short g here h =
    record {
      here = omega arith;
      room = i.room;
      long = i.long;
      rest = sym (drop-drop g done out) ∙ ap (drop g) i.rest ∙ drop-drop g done out₀;
      so_far =
          i.so_far
          ∙ ap (after (take done out)) (ap (λ (j : ℕ). strip_of q0 j at r w) split ∙ strip_idle q0 at w busy g (k - (done + g)) r h)
          ∙ after_after (take done out) (replicate g 0) _
          ∙ ap (λ (bs : List ℕ). after bs (strip_of q0 (k - (done + g)) at (r + g * added_of w) w)) (sym taken);
    }
  where
    split : k - done ≡ g + (k - (done + g))
    split = omega arith

    taken : take (done + g) out ≡ take done out ++ replicate g 0
    taken =
        take-add done g out
        ∙ ap (λ (l : List ℕ). take done out ++ take g l) (i.rest ∙ ap (drop done) clear)
        ∙ ap (λ (l : List ℕ). take done out ++ l) (zeros done g n (drop n out₀) here)

-- a run that wrote as many bytes as were cleared wrote over the old buffer
pub answer_old : {all : Strip} {old out₀ out : List ℕ} {n : ℕ} {ran : Ran} → out₀ ≡ cleared_of n old → Answer all out₀ out ran
    → ran.ticks ≡ n → Answer all old out ran
unfolding cleared_of written
answer_old {all} {old} {out₀} {out} {n} clear a e =
    record {
      report = a.report;
      buffer = a.buffer ∙ ap (λ (l : List ℕ). all.bytes ++ l) (cleared_rest ∙ ap (λ (j : ℕ). drop j old) (sym count));
    }
  where
    count : length all.bytes ≡ n
    count = sym (ap (λ (x : Ran). x.ticks) a.report) ∙ e

    cleared_rest : drop (length all.bytes) out₀ ≡ drop n old
    cleared_rest = ap₂ (λ (j : ℕ) (l : List ℕ). drop j l) count clear ∙ drop_at (replicate n 0) (drop n old) n (length-replicate n 0)
