-- A run in its midst: the bytes so far, and then the strip of the ticks that are left.
use Rattle.std.specs.Prelude.{◌≡◌, refl, Bool, length, drop, take, set}
use Rattle.std.proofs.Common.{sym, ◌∙◌, add-one, take-append-drop, take-suc-set, drop-set-lt, length-take-le, drop-drop}
use Rattle.std.proofs.Math.Path.{ap}
use Rattle.std.proofs.Math.Bool.{true, false}
use mathlib.Core.List.{List, [], ◌∷◌, ◌++◌, append_assoc, append-nil}
use Prim.Native.Nat.{ℕ, suc, ◌+◌, ◌-◌, ◌≤◌, ◌<◌}
use native.Mathlib.Omega.{arith}
use Rattle.std.proofs.Math.ListN.{length-set}
use Rattle.plane.specs.declared.point.Point.{Point}
use Rattle.plane.specs.Byte.{cycles_marked}
use Rattle.work.specs.declared.Work.{Work}
use Rattle.work.specs.declared.Advance.{Advance}
use Rattle.work.specs.Work.{is_nothing, cycles_left}
use Rattle.work.specs.computed.Work.{advance_of}
use Rattle.run.specs.declared.Ran.{Ran}
use Rattle.run.specs.computed.Run.{Strip, in_front, strip_of, ran_of, written}
use Rattle.run.specs.laws.Keep.{cycles_over}

-- some bytes in front of a strip
unfoldable pub after : List ℕ → Strip → Strip
after bs s = record { bytes = bs ++ s.bytes; at = s.at; remainder = s.remainder; work = s.work; ended = s.ended }

-- of a run of at most k ticks, n are done
pub record Going (q0 k : ℕ) (all : Strip) (out₀ out : List ℕ) (n : ℕ) (at : Point) (r : ℕ) (w : Work) : Type 0 where
  pub here : n ≤ k
  pub room : k ≤ length out₀
  pub long : length out ≡ length out₀
  pub rest : drop n out ≡ drop n out₀
  pub so_far : all ≡ after (take n out) (strip_of q0 (k - n) at r w)

pub going_start : (q0 k : ℕ) (out : List ℕ) (at : Point) (r : ℕ) (w : Work) → k ≤ length out
    → Going q0 k (strip_of q0 k at r w) out out 0 at r w
unfolding after
going_start q0 k out at r w h =
    record { here = omega arith; room = h; long = refl; rest = refl; so_far = ap (λ (j : ℕ). strip_of q0 j at r w) (omega arith) }

-- what a run answers, and its buffer
pub record Answer (all : Strip) (out₀ out : List ℕ) (ran : Ran) : Type 0 where
  pub report : ran ≡ ran_of all
  pub buffer : out ≡ written all.bytes out₀

-- the answer of a run from a point, over its contract
pub answers : (all : Point → Strip) {at p : Point} {old out : List ℕ} {ran : Ran} → at ≡ p → Answer (all p) old out ran
    → (ran ≡ ran_of (all at)) × (out ≡ written (all at).bytes old)
answers all same a = rw same (a.report, a.buffer)

-- one byte more
taken_on : (out : List ℕ) (n b : ℕ) (ys : List ℕ) → n < length out → take n out ++ b ∷ ys ≡ take (n + 1) (set out n b) ++ ys
taken_on out n b ys h = rw (add-one, take-suc-set out n b h) (sym (append_assoc (take n out) (b ∷ []) ys))

dropped_on : (out out₀ : List ℕ) (n b : ℕ) → drop n out ≡ drop n out₀ → drop (n + 1) (set out n b) ≡ drop (n + 1) out₀
dropped_on out out₀ n b e =
    drop-set-lt (n + 1) out n b (omega arith) ∙ sym (drop-drop 1 n out) ∙ ap (drop 1) e ∙ drop-drop 1 n out₀

-- all of a buffer that is written up to n
split : (out out₀ : List ℕ) (n : ℕ) → n ≤ length out → drop n out ≡ drop n out₀ → out ≡ written (take n out) out₀
unfolding written
split out out₀ n h e =
    sym (take-append-drop n out) ∙ ap (λ (l : List ℕ). take n out ++ l) (e ∙ ap (λ (j : ℕ). drop j out₀) (sym (length-take-le n out h)))

answered : {all : Strip} (out₀ out : List ℕ) (n : ℕ) (at : Point) (r : ℕ) (w : Work) (ended : Bool)
    → all ≡ record { bytes = take n out; at = at; remainder = r; work = w; ended = ended }
    → {c : ℕ} → cycles_over all ≡ c + cycles_left at w → n ≤ length out → drop n out ≡ drop n out₀
    → Answer all out₀ out (record { ticks = n; cycles = c; ended = ended; at = at; remainder = r; work = w })
answered out₀ out n at r w ended e {c} counted h rest =
    let cycles : cycles_marked (take n out) ≡ c = omega (arith, ap cycles_over e, counted) in
    record {
      report =
          sym
          (ap ran_of e
          ∙ ap (λ (j : ℕ). record { ticks = j; cycles = cycles_marked (take n out); ended = ended; at = at; remainder = r; work = w })
          (length-take-le n out h)
          ∙ ap (λ (j : ℕ). record { ticks = n; cycles = j; ended = ended; at = at; remainder = r; work = w }) cycles);
      buffer = split out out₀ n h rest ∙ sym (ap (λ (s : Strip). written s.bytes out₀) e);
    }

module _ {q0 k : ℕ} {all : Strip} {out₀ out : List ℕ} {n : ℕ} {at : Point} {r : ℕ} {w : Work} (g : Going q0 k all out₀ out n at r w) where
  one_tick : n < k → strip_of q0 (k - n) at r w
      ≡ let a = advance_of q0 at r w in in_front (is_nothing a.work) a (strip_of q0 (k - (n + 1)) a.at a.remainder a.work)
  unfolding strip_of
  one_tick h = ap (λ (j : ℕ). strip_of q0 j at r w) less
    where
      less : k - n ≡ suc (k - (n + 1))
      less = omega arith

  next : n < k → {a : Advance} → a ≡ advance_of q0 at r w → {ended : Bool} → is_nothing a.work ≡ ended
      → all ≡ after (take n out) (in_front ended a (strip_of q0 (k - (n + 1)) a.at a.remainder a.work))
  next h {a} e end = rw (← end, e) (g.so_far ∙ ap (after (take n out)) (one_tick h))

  -- a tick that does not end the block
  pub going_on_lem : n < k → {a : Advance} → a ≡ advance_of q0 at r w → is_nothing a.work ≡ false
      → Going q0 k all out₀ (set out n a.byte) (n + 1) a.at a.remainder a.work
  unfolding after
  going_on_lem h {a} e more =
      let s = strip_of q0 (k - (n + 1)) a.at a.remainder a.work in
      record {
        here = omega arith;
        room = g.room;
        long = length-set out n a.byte ∙ g.long;
        rest = dropped_on out out₀ n a.byte g.rest;
        so_far =
            next h e more
            ∙ ap (λ (bs : List ℕ). record { bytes = bs; at = s.at; remainder = s.remainder; work = s.work; ended = s.ended })
            (taken_on out n a.byte s.bytes (omega (arith, g.long, g.room)));
      }

  -- the tick that ends it
  pub going_end : n < k → {a : Advance} → a ≡ advance_of q0 at r w → is_nothing a.work ≡ true
      → {c : ℕ} → cycles_over all ≡ c + cycles_left a.at a.work
      → Answer all out₀ (set out n a.byte)
      (record { ticks = n + 1; cycles = c; ended = true; at = a.at; remainder = a.remainder; work = a.work })
  unfolding after
  going_end h {a} e end counted =
      answered out₀ (set out n a.byte) (n + 1) a.at a.remainder a.work true
      (next h e end
      ∙ ap (λ (bs : List ℕ). record { bytes = bs; at = a.at; remainder = a.remainder; work = a.work; ended = true })
      (taken_on out n a.byte [] (omega (arith, g.long, g.room)) ∙ append-nil (take (n + 1) (set out n a.byte))))
      counted
      (omega (arith, length-set out n a.byte, g.long, g.room))
      (dropped_on out out₀ n a.byte g.rest)

  -- and where the ticks are used up
  pub going_out : k ≤ n → {c : ℕ} → cycles_over all ≡ c + cycles_left at w
      → Answer all out₀ out (record { ticks = n; cycles = c; ended = false; at = at; remainder = r; work = w })
  unfolding after strip_of
  going_out h counted =
      answered out₀ out n at r w false
      (g.so_far ∙ ap (λ (j : ℕ). after (take n out) (strip_of q0 j at r w)) none
      ∙ ap (λ (bs : List ℕ). record { bytes = bs; at = at; remainder = r; work = w; ended = false }) (append-nil (take n out)))
      counted
      (omega (arith, g.long, g.room, g.here))
      g.rest
    where
      none : k - n ≡ 0
      none = omega arith
