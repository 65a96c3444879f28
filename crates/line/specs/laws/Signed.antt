-- One axis with its sign: every claim is that of the magnitudes, put on once.
use Rattle.std.specs.Prelude.{◌≡◌, Bool, eqb, ℤ, negsuc, nat_abs, ◌+ℤ◌, ◌-ℤ◌, ◌*ℤ◌}
use Rattle.std.proofs.Math.Path.{refl, ap}
use Rattle.std.proofs.Common.{◌∙◌, le_antisymm, eqb-true}
use Rattle.std.proofs.Math.Bool.{true, false}
use Rattle.std.specs.Bool.{beq}
use Prim.Native.Nat.{ℕ, zero, suc, ◌+◌, ◌*◌, ◌≤◌, ◌<◌, zero-le}
use native.Mathlib.Omega.{arith}
use Rattle.std.proofs.Math.IntN.{pos, neg_ℤ}
use Rattle.whole.specs.declared.sign.SignMagnitude.{SignMagnitude}
use Rattle.whole.specs.Sign.{signed, is_negative}
use Rattle.whole.specs.computed.Sign.{join_of}
use Rattle.whole.specs.laws.Difference.{Difference, parts, natural, negated, added, ring, split, var, num, neg, ◌⊕◌, ◌⊖◌, ◌⊗◌}
use Rattle.whole.specs.laws.Order.{◌≼◌}
use Rattle.whole.specs.Equal.{equal_z}
use Rattle.whole.specs.laws.Sign.{signed_size, signed_differ, signed_none, signed_same}
use Rattle.whole.specs.laws.Test.{equal_moved}
use Rattle.plane.specs.laws.Pulse.{bit}
use Rattle.line.specs.Line.{axis_steps, axis_moved}
use Rattle.line.specs.computed.Register.{AxisFits}
use Rattle.line.specs.Register.{pulses_of}
use Rattle.line.specs.Bounds.{HalfPulse, NearLine}
use Rattle.line.specs.laws.Axis.{begins, ends, moved_within, not_ahead, not_behind, side, square_half}
use Rattle.line.specs.laws.Register.{pulse_is}

module _ (q : ℕ) (some : 0 < q) where
  pub moved_begins : (a : ℤ) → axis_moved q a 0 ≡ pos 0
  unfolding axis_moved
  moved_begins (pos n) = ap pos (begins q n some).0
  moved_begins (negsuc n) = ap (λ (t : ℕ). neg_ℤ (pos t)) (begins q (suc n) some).0

  pub moved_ends : (a : ℤ) → axis_moved q a q ≡ a
  unfolding axis_moved
  moved_ends (pos n) = ap pos (ends q n some)
  moved_ends (negsuc n) = ap (λ (t : ℕ). neg_ℤ (pos t)) (ends q (suc n) some)

  pub moved_size : (a : ℤ) (c : ℕ) → nat_abs (axis_moved q a c) ≡ axis_steps q (nat_abs a) c
  unfolding axis_moved
  moved_size a c = signed_size (is_negative a) (axis_steps q (nat_abs a) c)

  -- with sign and magnitude parted: also where a magnitude of 0 is flagged negative
  pub moved_signed : (negative : Bool) (a c : ℕ) → c ≤ q → axis_moved q (signed negative a) c ≡ signed negative (axis_steps q a c)
  unfolding axis_moved
  moved_signed false a c due = refl
  moved_signed true zero c due = rw (le_antisymm (moved_within q 0 some c due) zero-le)
  moved_signed true (suc a) c due = refl

  -- a cycle: one pulse at most, in the sign of the increment
  pub moved_next : (a : ℤ) (c : ℕ) → nat_abs a ≤ q
      → axis_moved q a (c + 1) ≡ axis_moved q a c +ℤ signed (is_negative a) (bit (pulses_of q (nat_abs a) c))
  unfolding axis_moved
  moved_next (pos n) c short = ap pos (pulse_is q n some short c)
  moved_next (negsuc n) c short =
      ap (λ (t : ℕ). neg_ℤ (pos t)) (pulse_is q (suc n) some short c)
      ∙ ring (neg (num (axis_steps q (suc n) c + bit (pulses_of q (suc n) c))))
      (neg (num (axis_steps q (suc n) c)) ⊕ neg (num (bit (pulses_of q (suc n) c)))) (omega arith)

  -- between 0 and the increment
  module _ (c : ℕ) (due : c ≤ q) (start : ℤ) where
    pub moved_above : (lower a : ℤ) → lower ≼ start → lower ≼ start +ℤ a → lower ≼ start +ℤ axis_moved q a c
    unfolding axis_moved
    moved_above lower (pos n) h k = omega (arith, added (parts start) (natural (axis_steps q n c)))
    moved_above lower (negsuc n) h k =
        omega (
          arith,
          added (parts start) (negated (natural (axis_steps q (suc n) c))),
          added (parts start) (parts (negsuc n)),
          moved_within q (suc n) some c due,
        )

    pub moved_below : (upper a : ℤ) → start ≼ upper → start +ℤ a ≼ upper → start +ℤ axis_moved q a c ≼ upper
    unfolding axis_moved
    moved_below upper (pos n) h k =
        omega (arith, added (parts start) (natural (axis_steps q n c)), added (parts start) (natural n), moved_within q n some c due)
    moved_below upper (negsuc n) h k = omega (arith, added (parts start) (negated (natural (axis_steps q (suc n) c))))

-- a whole number whose two naturals are at most t / 2 apart
half : {z : ℤ} {p n : ℕ} (t : ℕ) → Difference z p n → 2 * p ≤ 2 * n + t → 2 * n ≤ 2 * p + t → 2 * nat_abs z ≤ t
half {z = pos a} t d h k = omega arith
half {z = negsuc a} t d h k = omega arith

module _ (q c : ℕ) (some : 0 < q) where
  pub half_pulse : (a : ℤ) → HalfPulse q a c (axis_moved q a c)
  unfolding axis_moved
  half_pulse (pos n) =
      half q (split (num q ⊗ num (axis_steps q n c) ⊖ num n ⊗ num c)) (omega (arith, not_ahead q n c some))
      (omega (arith, not_behind q n c some))
  half_pulse (negsuc n) =
      half q (split (num q ⊗ neg (num (axis_steps q (suc n) c)) ⊖ var (negsuc n) ⊗ num c))
      (omega (arith, not_behind q (suc n) c some)) (omega (arith, not_ahead q (suc n) c some))

  cross : (a b : ℤ) → 2 * nat_abs (axis_moved q a c *ℤ b -ℤ axis_moved q b c *ℤ a) ≤ nat_abs a + nat_abs b
  unfolding axis_moved
  cross (pos a) (pos b) =
      half (a + b) (split (num (axis_steps q a c) ⊗ num b ⊖ num (axis_steps q b c) ⊗ num a)) (omega (arith, side q a b c some))
      (omega (arith, side q b a c some))
  cross (pos a) (negsuc b) =
      half (a + suc b) (split (num (axis_steps q a c) ⊗ var (negsuc b) ⊖ neg (num (axis_steps q (suc b) c)) ⊗ num a))
      (omega (arith, side q (suc b) a c some)) (omega (arith, side q a (suc b) c some))
  cross (negsuc a) (pos b) =
      half (suc a + b) (split (neg (num (axis_steps q (suc a) c)) ⊗ num b ⊖ num (axis_steps q b c) ⊗ var (negsuc a)))
      (omega (arith, side q b (suc a) c some)) (omega (arith, side q (suc a) b c some))
  cross (negsuc a) (negsuc b) =
      half (suc a + suc b)
      (split (neg (num (axis_steps q (suc a) c)) ⊗ var (negsuc b) ⊖ neg (num (axis_steps q (suc b) c)) ⊗ var (negsuc a)))
      (omega (arith, side q (suc a) (suc b) c some)) (omega (arith, side q (suc b) (suc a) c some))

  pub near_line : (a b : ℤ) → NearLine a b (axis_moved q a c) (axis_moved q b c)
  near_line a b = square_half _ (nat_abs a) (nat_abs b) (cross a b)

-- ---- the test of an axis that was to go `way` and has gone `gone`

module _ (q c : ℕ) (way gone : SignMagnitude) (x : AxisFits q way.magnitude c) where
  pub axis_wrong : eqb gone.magnitude (axis_steps q way.magnitude c) ≡ false
      → equal_z (join_of gone) (axis_moved q (join_of way) c) ≡ false
  axis_wrong e = rw (moved_signed q x.some way.negative way.magnitude c x.due)
      (signed_differ gone.negative way.negative _ _ e)

  pub axis_none : eqb gone.magnitude (axis_steps q way.magnitude c) ≡ true → gone.magnitude ≡ 0
      → equal_z (join_of gone) (axis_moved q (join_of way) c) ≡ true
  axis_none e z =
      rw (
        moved_signed q x.some way.negative way.magnitude c x.due,
        ← eqb-true gone.magnitude (axis_steps q way.magnitude c) e,
        z,
      )
      (signed_none gone.negative way.negative)

  pub axis_sign : eqb gone.magnitude (axis_steps q way.magnitude c) ≡ true → 0 < gone.magnitude
      → equal_z (join_of gone) (axis_moved q (join_of way) c) ≡ beq gone.negative way.negative
  axis_sign e h =
      rw (
        moved_signed q x.some way.negative way.magnitude c x.due,
        ← eqb-true gone.magnitude (axis_steps q way.magnitude c) e,
      )
      (signed_same gone.negative way.negative gone.magnitude h)

-- the same of the axis of a point at v whose line started at s
pub axis_reached : (s v a : ℤ) (c : ℕ) {q k : ℕ} {way gone : ℤ} → q ≡ k → way ≡ a → gone ≡ v -ℤ s
    → equal_z gone (axis_moved q way c) ≡ equal_z v (s +ℤ axis_moved k a c)
axis_reached s v a c {k = k} own way gone = rw (own, way, gone) (equal_moved v s (axis_moved k a c))
