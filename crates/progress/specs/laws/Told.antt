-- What words tell, by whether they do.
use Rattle.std.specs.Prelude.{◌≡◌, Bool, true, false, Some, None, cond}
use Rattle.std.proofs.Common.{refl}

module _ {A : Type 0} where
  pub told_none : (ok : Bool) (value : A) → None ≡ cond ok (Some value) None → ok ≡ false
  told_none true value e = cc
  told_none false value e = refl

  pub told_some : (ok : Bool) (value : A) {x : A} → Some x ≡ cond ok (Some value) None → (ok ≡ true) × (x ≡ value)
  told_some true value e = (refl, cc)
  told_some false value e = absurd cc
