-- The pulses and charges that bytes tell add up.
use Rattle.std.specs.Prelude.{◌≡◌, refl, List, [], ◌∷◌, ℕ, ℤ, pos, ◌+ℤ◌}
use Rattle.std.proofs.Common.{ap, ◌∙◌, arith}
use Rattle.std.proofs.Math.IntN.{+ℤ_idr, +ℤ_assoc}
use Rattle.plane.specs.Pulse.{pulse_of}
use Rattle.plane.specs.Byte.{code_x, code_y}
use Rattle.block.specs.declared.Path.{Path}
use Rattle.book.specs.Sums.{pulses_in, charges_marked}

-- one byte's pulse
pub sent_one : (code : ℕ → ℕ) (byte : ℕ) (u : ℤ) {c : ℕ} {v : ℤ} → code byte ≡ c → v ≡ u +ℤ pulse_of c → v ≡ u +ℤ pulses_in code (byte ∷ [])
sent_one code byte u {c} e h = rw (e, +ℤ_idr (pulse_of c)) h

-- one way and then another
pub onward : (u p q : ℤ) {v w : ℤ} → v ≡ u +ℤ p → w ≡ v +ℤ q → w ≡ u +ℤ (p +ℤ q)
onward u p q e f = f ∙ ap (λ (z : ℤ). z +ℤ q) e ∙ +ℤ_assoc u p q

-- bytes that tell nothing
pub record Silent (bytes : List ℕ) : Type 0 where
  pub x : pulses_in code_x bytes ≡ pos 0
  pub y : pulses_in code_y bytes ≡ pos 0
  pub charges : (p : Path) → charges_marked p bytes ≡ 0

pub zero_silent : Silent (0 ∷ [])
zero_silent = record { x = refl; y = refl; charges = λ p. omega arith }

pub none_silent : Silent []
none_silent = record { x = refl; y = refl; charges = λ p. refl }
