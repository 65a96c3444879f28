-- Tests joined by `&&`, taken apart and put together; the test of equality.
use Rattle.std.specs.Prelude.{◌≡◌, refl, Bool, true, false, ◌&&◌, T, eqb, ℤ, pos, negsuc, ◌+ℤ◌, ◌-ℤ◌}
use Rattle.std.proofs.Common.{sym, ap, subst, arith, eqb-true, eq-eqb, SFits, of_z}
use Rattle.whole.specs.Equal.{equal_z}
use Rattle.whole.specs.laws.Difference.{ring, var, ◌⊕◌, ◌⊖◌}
use Rattle.std.specs.Int.{w64}
use Rattle.std.specs.Ordering.{int_eq}
use Rattle.std.proofs.lemmas.Bool.Decides.{Decides-int_eq}
use Rattle.whole.specs.laws.Order.{bits_equal}

pub both : {a b : Bool} → (a && b) ≡ true → (a ≡ true) × (b ≡ true)
both {a = true} {b = true} e = (refl, refl)
both {a = true} {b = false} e = absurd (subst T (sym e) tt)
both {a = false} {b = true} e = absurd (subst T (sym e) tt)
both {a = false} {b = false} e = absurd (subst T (sym e) tt)

pub joined : {a b : Bool} → a ≡ true → b ≡ true → (a && b) ≡ true
joined p q = rw (p, q)

pub refuted : (t : Bool) → (t ≡ true → ⊥) → t ≡ false
refuted true f = absurd (f refl)
refuted false f = refl

pub equal_true : (x y : ℤ) → equal_z x y ≡ true → x ≡ y
equal_true (pos a) (pos b) e = ap pos (eqb-true a b e)
equal_true (pos a) (negsuc b) e = absurd (subst T (sym e) tt)
equal_true (negsuc a) (pos b) e = absurd (subst T (sym e) tt)
equal_true (negsuc a) (negsuc b) e = ap negsuc (eqb-true a b e)

pub equal_same : (x : ℤ) → equal_z x x ≡ true
equal_same (pos a) = eq-eqb a a refl
equal_same (negsuc a) = eq-eqb a a refl

-- two tests that imply one another are the same
pub same_test : {a b : Bool} → (a ≡ true → b ≡ true) → (b ≡ true → a ≡ true) → a ≡ b
same_test {a = true} {b = true} f g = refl
same_test {a = true} {b = false} f g = sym (f refl)
same_test {a = false} {b = true} f g = g refl
same_test {a = false} {b = false} f g = refl

-- from a place further on
pub equal_moved : (v s m : ℤ) → equal_z (v -ℤ s) m ≡ equal_z v (s +ℤ m)
equal_moved v s m = same_test to from
  where
    to : equal_z (v -ℤ s) m ≡ true → equal_z v (s +ℤ m) ≡ true
    to e = rw (← equal_true (v -ℤ s) m e, ring (var s ⊕ (var v ⊖ var s)) (var v) (omega arith)) (equal_same v)

    from : equal_z v (s +ℤ m) ≡ true → equal_z (v -ℤ s) m ≡ true
    from e = rw (equal_true v (s +ℤ m) e, ring (var s ⊕ var m ⊖ var s) (var m) (omega arith)) (equal_same m)

-- `==` on signed numbers compares their bits
pub equal_bits : {x y : ℤ} → SFits w64 x → SFits w64 y → eqb (of_z w64 x) (of_z w64 y) ≡ equal_z x y
equal_bits {x} {y} fx fy = same_test to from
  where
    to : eqb (of_z w64 x) (of_z w64 y) ≡ true → equal_z x y ≡ true
    to e = rw (bits_equal fx fy (eqb-true _ _ e)) (equal_same y)

    from : equal_z x y ≡ true → eqb (of_z w64 x) (of_z w64 y) ≡ true
    from e = eq-eqb _ _ (ap (of_z w64) (equal_true x y e))

-- the library's test of equality
pub equal_library : (x y : ℤ) → int_eq x y ≡ equal_z x y
equal_library x y = let d = Decides-int_eq x y in same_test
    (λ e. rw (d.0 e) (equal_same y))
    (λ e. d.1 (equal_true x y e))
