-- A strip of ticks in two pieces.
use Rattle.std.specs.Prelude.{◌≡◌, refl, Bool, true, false, cond, ℕ, zero, suc, ◌+◌, ◌≤◌, T, length}
use Rattle.std.proofs.Common.{ap, subst, ◌∙◌, arith}
use Rattle.plane.specs.declared.point.Point.{Point}
use Rattle.work.specs.declared.Work.{Work}
use Rattle.work.specs.declared.Advance.{Advance}
use Rattle.work.specs.Work.{is_nothing}
use Rattle.work.specs.computed.Work.{advance_of}
use Rattle.run.specs.computed.Run.{Strip, in_front, strip_of}
use Rattle.run.specs.laws.Going.{after}

-- a strip, and then another where the first has left the block unfinished
abbrev pub and_then : Strip → (next : Point → ℕ → Work → Strip) → Strip
and_then s next = cond s.ended s (after s.bytes (next s.at s.remainder s.work))

pub then_ended : (s : Strip) (next : Point → ℕ → Work → Strip) → s.ended ≡ true → and_then s next ≡ s
then_ended s next e = ap (λ (b : Bool). cond b s (after s.bytes (next s.at s.remainder s.work))) e

pub then_going : (s : Strip) (next : Point → ℕ → Work → Strip) → s.ended ≡ false
    → and_then s next ≡ after s.bytes (next s.at s.remainder s.work)
then_going s next e = ap (λ (b : Bool). cond b s (after s.bytes (next s.at s.remainder s.work))) e

in_front_then : (ended : Bool) (a : Advance) (s : Strip) (next : Point → ℕ → Work → Strip)
    → in_front ended a (and_then s next) ≡ and_then (in_front ended a s) next
unfolding after
in_front_then true a s next = refl
in_front_then false a s next = by s.ended refl
  where
    by : (over : Bool) → s.ended ≡ over → in_front false a (and_then s next) ≡ and_then (in_front false a s) next
    by true e = rw e
    by false e = rw e

pub strip_split : (q0 n m : ℕ) (at : Point) (r : ℕ) (w : Work)
    → strip_of q0 (n + m) at r w ≡ and_then (strip_of q0 n at r w) (strip_of q0 m)
unfolding strip_of after
strip_split q0 zero m at r w = let none : 0 + m ≡ m = omega arith in ap (λ (k : ℕ). strip_of q0 k at r w) none
strip_split q0 (suc n) m at r w =
    let a = advance_of q0 at r w in
    let one : suc n + m ≡ suc (n + m) = omega arith in
    ap (λ (k : ℕ). strip_of q0 k at r w) one
    ∙ ap (in_front (is_nothing a.work) a) (strip_split q0 n m a.at a.remainder a.work)
    ∙ in_front_then (is_nothing a.work) a (strip_of q0 n a.at a.remainder a.work) (strip_of q0 m)

-- a block that has not ended is still in work
pub strip_busy : (q0 n : ℕ) (at : Point) (r : ℕ) (w : Work) → is_nothing w ≡ false
    → (let s = strip_of q0 n at r w in s.ended ≡ false → is_nothing s.work ≡ false)
unfolding strip_of
strip_busy q0 zero at r w busy = λ e. busy
strip_busy q0 (suc n) at r w busy =
    let a = advance_of q0 at r w in
    by (is_nothing a.work) refl (strip_of q0 n a.at a.remainder a.work) (strip_busy q0 n a.at a.remainder a.work)
  where
    by : (ended : Bool) → is_nothing (advance_of q0 at r w).work ≡ ended → (s : Strip)
        → (is_nothing (advance_of q0 at r w).work ≡ false → s.ended ≡ false → is_nothing s.work ≡ false)
        → (let f = in_front ended (advance_of q0 at r w) s in f.ended ≡ false → is_nothing f.work ≡ false)
    by true is s rest e = absurd (subst T e tt)
    by false is s rest e = rest is e

-- where a tick is allowed there is one
pub strip_some : (q0 n : ℕ) (at : Point) (r : ℕ) (w : Work) → 1 ≤ n → 1 ≤ length (strip_of q0 n at r w).bytes
unfolding strip_of
strip_some q0 zero at r w h = absurd (omega arith)
strip_some q0 (suc n) at r w h = let a = advance_of q0 at r w in by (is_nothing a.work) (strip_of q0 n a.at a.remainder a.work)
  where
    by : (ended : Bool) (s : Strip) → 1 ≤ length (in_front ended (advance_of q0 at r w) s).bytes
    by true s = omega arith
    by false s = omega arith

-- and there are no more than are allowed
pub strip_few : (q0 n : ℕ) (at : Point) (r : ℕ) (w : Work) → length (strip_of q0 n at r w).bytes ≤ n
unfolding strip_of
strip_few q0 zero at r w = omega arith
strip_few q0 (suc n) at r w =
    let a = advance_of q0 at r w in
    by (is_nothing a.work) (strip_of q0 n a.at a.remainder a.work) (strip_few q0 n a.at a.remainder a.work)
  where
    by : (ended : Bool) (s : Strip) → length s.bytes ≤ n → length (in_front ended (advance_of q0 at r w) s).bytes ≤ suc n
    by true s h = omega arith
    by false s h = omega arith
