-- Document 01's order of the circle points, "put without angles", and its walk. `laws/Next.antt` and `laws/Walk.antt` prove what
-- computes them.
use Rattle.std.specs.Prelude.{◌≡◌, ℕ, zero, suc, ◌≤◌, ◌<◌, ℤ, pos, ◌-ℤ◌, ◌*ℤ◌, ◌<ℤ◌}
use Rattle.circle.specs.declared.plane.Offset.{Offset}
use Rattle.circle.specs.declared.plane.Turn.{Turn}
use Rattle.circle.specs.declared.plane.Turn.TheVariants.{Clockwise, Counterclockwise}
use Rattle.circle.specs.Circle.{Circle}

-- 01, Arcs: "(u, v) follows (x, y) if x × v - y × u is positive, for kind 2 negative"
abbrev pub cross : Offset → Offset → ℤ
cross p q = p.x *ℤ q.y -ℤ p.y *ℤ q.x

abbrev pub OnSide : Turn → ℤ → Type 0
OnSide Clockwise z = z <ℤ pos 0
OnSide Counterclockwise z = pos 0 <ℤ z

abbrev pub Follows : Turn → Offset → Offset → Type 0
Follows turn p q = OnSide turn (cross p q)

-- "the next point is the circle point that follows this one while no circle point both follows this one and is followed by it"
pub record Next (N : ℕ) (turn : Turn) (p q : Offset) : Type 0 where
  pub on : Circle N q
  pub after : Follows turn p q
  pub none : (r : Offset) → Circle N r → ¬ (Follows turn p r × Follows turn r q)

-- "The arc visits the circle points after the start in order of angle, one a cycle, to the end."
abbrev pub Walk : ℕ → Turn → Offset → ℕ → Offset → Type 0
Walk N turn p zero q = q ≡ p
Walk N turn p (suc c) q = (r : Offset) × Walk N turn p c r × Next N turn r q

-- the end is reached at cycle n and at none before; "Start equal to end is a full turn", so n is at least 1
pub record Ends (N : ℕ) (turn : Turn) (p e : Offset) (n : ℕ) : Type 0 where
  pub some : 1 ≤ n
  pub there : Walk N turn p n e
  pub first : (c : ℕ) → 1 ≤ c → c < n → ¬ Walk N turn p c e

-- the points still to visit from p on, e among them
pub record ToVisit (N : ℕ) (turn : Turn) (p e q : Offset) : Type 0 where
  pub cycles : ℕ
  pub ends : Ends N turn p e cycles
  pub cycle : ℕ
  pub begun : 1 ≤ cycle
  pub within : cycle ≤ cycles
  pub walk : Walk N turn p cycle q
