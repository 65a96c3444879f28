-- The rank of a circle point on its way round, in quadrant form: each step adds 1, and no two points share one.
use Rattle.std.specs.Prelude.{◌≡◌, ◌≢◌, Bool, cond, ℕ, suc, ◌+◌, ◌-◌, ◌*◌, ◌≤◌, ◌<◌}
use Rattle.std.proofs.Math.Path.{refl, ap}
use Rattle.std.proofs.Common.{sym, subst, inl, inr, lt_of_not-le, mul-le-mul_left}
use Rattle.std.proofs.Math.Bool.{true, false}
use Rattle.std.proofs.Math.Nat.{le_antisymm, mul-le-mul_right}
use Rattle.std.proofs.Math.Decide.{dec_le, dec_lt, ℕ_discrete}
use native.Mathlib.Omega.{arith}
use Rattle.std.proofs.Math.Dec.{eqb}
use borrow.Author.Tests.{le-leb, lt-leb, lt-ltb, le-ltb, eqb-true, eqb-false}
use Rattle.circle.specs.declared.quadrant.Place.{Place}
use Rattle.circle.specs.computed.Step.{place, first_step, next_quadrant, in_quadrant, next_place}
use Rattle.circle.specs.computed.Count.{rank_in, rank_of, onward, places_to}
use Rattle.circle.proofs.laws.Octant.{Octant, Axis, Quadrant, unless, unique, minor, falls, below, above, some}
use Rattle.circle.proofs.laws.Step.{Step, rise, cut, cross, fall, climb, step_is, stays}
use Rattle.circle.proofs.laws.Next.{On}

-- ---- in one quadrant; Q is the nearest root of 2 N

pub rank_low : (Q a b : ℕ) → b ≤ a → rank_in Q a b ≡ b
unfolding rank_in
rank_low Q a b l = rw (le-leb b a l)

pub rank_high : (Q a b : ℕ) → a < b → rank_in Q a b ≡ Q - a
unfolding rank_in
rank_high Q a b l = rw (lt-leb b a l)

module _ {n Q : ℕ} (k : Axis (2 * n) Q) where
  -- from the diagonal on, rank and a make up Q
  pub rank_above : (a b : ℕ) → Quadrant n a b → a ≤ b → rank_in Q a b + a ≡ Q
  rank_above a b c l = by (dec_le b a)
    where
      on_diagonal : b ≤ a → Axis (2 * n) (2 * a)
      on_diagonal g =
          let o = below c g in
          let p = above c l in
          omega (arith, mul-le-mul_left a l, mul-le-mul_right b l, mul-le-mul_left a g, mul-le-mul_right b g)

      by : Dec (b ≤ a) → rank_in Q a b + a ≡ Q
      by (yes g) = omega (arith, rank_low Q a b g, unique k (on_diagonal g))
      by (no f) = omega (arith, rank_high Q a b (lt_of_not-le f), minor (above c l) k)

  pub rank_step : {x y : ℕ} {s : ℕ × ℕ} → Quadrant n x y → Step n x y s → rank_in Q s.0 s.1 ≡ rank_in Q x y + 1
  rank_step c (rise {x} {y} l h) = omega (arith, rank_low Q x y (omega arith), rank_low Q x (y + 1) (omega arith))
  rank_step c (cut {x} {y} l h) = omega (arith, rank_low Q (suc x) y (omega arith), rank_low Q x (y + 1) (omega arith))
  rank_step c (cross {y} h) =
      let o = below c (omega arith) in
      omega (arith, rank_low Q (suc y) y (omega arith), rank_high Q y (y + 1) (omega arith), unique k (across o h))
    where
      -- where the step crosses between two octants, the quarter has an odd number of points
      across : {y : ℕ} → Octant n (suc y) y → n + suc y ≤ suc y * suc y + (y + 1) * (y + 1) → Axis (2 * n) (2 * y + 1)
      across o h = omega arith
  rank_step c (fall {x} {y} l h) = omega (arith, rank_above (suc x) y c l, rank_above x y (stays c (fall l h)) (omega arith))
  rank_step c (climb {x} {y} l h) = omega (arith, rank_above (suc x) y c l, rank_above x (y + 1) (stays c (climb l h)) (omega arith))

  pub rank_lt : (a b : ℕ) → Quadrant n a b → 1 ≤ a → rank_in Q a b < Q
  rank_lt a b c l = by (dec_le b a)
    where
      by : Dec (b ≤ a) → rank_in Q a b < Q
      by (yes g) = omega (arith, rank_low Q a b g, minor (below c g) k, some k)
      by (no f) = omega (arith, rank_above a b c (omega arith))

  alike : {x y u v : ℕ} → Octant n x y → Octant n u v → y ≡ v → x ≡ u
  alike h g e = le_antisymm (falls g h (omega arith)) (falls h g (omega arith))

  middle : (b u : ℕ) → b + u ≡ Q → 2 * b ≤ Q → 2 * u ≤ Q → Octant n b b
  middle b u e f g = at b (omega arith) k
    where
      at : (b : ℕ) → 2 * b ≡ Q → Axis (2 * n) Q → Octant n b b
      at b e k = let z : Axis (2 * n) (2 * b) = subst (λ (t : ℕ). Axis (2 * n) t) (sym e) k in omega arith

  across_middle : (a b u v : ℕ) → Octant n a b → Octant n v u → b + u ≡ Q → (a ≡ u) × (b ≡ v)
  across_middle a b u v o p z =
      let w = middle b u z (minor o k) (minor p k) in
      let y : b ≡ u = omega (arith, minor o k, minor p k) in
      (omega (arith, alike o w refl), omega (arith, alike p w (sym y)))

  pub rank_injective : (a b u v : ℕ) → Quadrant n a b → Quadrant n u v → rank_in Q a b ≡ rank_in Q u v → (a ≡ u) × (b ≡ v)
  rank_injective a b u v c d e = by (dec_le b a) (dec_le v u)
    where
      by : Dec (b ≤ a) → Dec (v ≤ u) → (a ≡ u) × (b ≡ v)
      by (yes g) (yes h) =
          let z : b ≡ v = omega (arith, rank_low Q a b g, rank_low Q u v h) in
          (alike (below c g) (below d h) z, z)
      by (no g) (no h) =
          let z : a ≡ u = omega (arith, rank_above a b c (omega arith), rank_above u v d (omega arith)) in
          (z, alike (above c (omega arith)) (above d (omega arith)) z)
      by (yes g) (no h) =
          across_middle a b u v (below c g) (above d (omega arith)) (omega (arith, rank_low Q a b g, rank_above u v d (omega arith)))
      by (no g) (yes h) =
          let m =
          across_middle u v a b (below d h) (above c (omega arith)) (omega (arith, rank_low Q u v h, rank_above a b c (omega arith))) in
          (sym m.0, sym m.1)

-- ---- around the circle

pub data NextQuadrant (k j : ℕ) : Type 0 where
  next : k < 3 → j ≡ k + 1 → NextQuadrant k j
  home : k ≡ 3 → j ≡ 0 → NextQuadrant k j

pub next_quadrant_lem : (k : ℕ) → k < 4 → NextQuadrant k (next_quadrant k)
next_quadrant_lem k h = by (eqb k 3) refl
  where
    by : (t : Bool) → eqb k 3 ≡ t → NextQuadrant k (cond t 0 (k + 1))
    by true e = home (eqb-true k 3 e) refl
    by false e = next (omega (arith, eqb-false k 3 e)) refl

pub next_quadrant_lt : {k j : ℕ} → NextQuadrant k j → j < 4
next_quadrant_lt (next h e) = omega arith
next_quadrant_lt (home h e) = omega arith

-- a step stays in the quadrant, or comes onto the axis that begins the next
pub data Move (n : ℕ) (p s : Place) : Type 0 where
  within : s.quadrant ≡ p.quadrant → 1 ≤ s.along → Step n p.along p.across (s.along, s.across) → Move n p s
  onto : NextQuadrant p.quadrant s.quadrant → s.across ≡ 0 → Step n p.along p.across (0, s.along) → Move n p s

module _ (n : ℕ) (p : Place) (o : On n p) where
  pub move : Move n p (next_place n p)
  unfolding next_place
  move = by (first_step n p.along p.across) (step_is p.along p.across o.some)
    where
      at : (a b : ℕ) (t : Bool) → eqb a 0 ≡ t → Step n p.along p.across (a, b)
          → Move n p (cond t (place (next_quadrant p.quadrant) b 0) (place p.quadrant a b))
      at a b true e st = onto (next_quadrant_lem p.quadrant o.four) refl (rw (eqb-true a 0 e) at st)
      at a b false e st = within refl (omega (arith, eqb-false a 0 e)) st

      by : (s : ℕ × ℕ) → Step n p.along p.across s → Move n p (in_quadrant p.quadrant s)
      by s st = at s.0 s.1 (eqb s.0 0) refl st

-- the point that a step puts on an axis
pub axis_point : {n a b t : ℕ} → Quadrant n a b → Step n a b (0, t) → Axis n t
axis_point c st = by (stays c st)
  where
    by : {n t : ℕ} → Quadrant n 0 t → Axis n t
    by (inl o) = absurd (omega (arith, some o))
    by (inr o) = o

pub on_move : {n : ℕ} {p s : Place} → On n p → Move n p s → On n s
on_move o (within e l w) = record { four = omega (arith, o.four); some = l; on = stays o.on w }
on_move o (onto t e w) = let a = axis_point o.on w in record { four = next_quadrant_lt t; some = some a; on = inl (rw e a) }

pub on_next : (n : ℕ) (p : Place) → On n p → On n (next_place n p)
on_next n p o = on_move o (move n p o)

-- one more, round and round
pub data After (T r s : ℕ) : Type 0 where
  more : s ≡ r + 1 → After T r s
  wrap : r + 1 ≡ T → s ≡ 0 → After T r s

module _ {n Q : ℕ} (k : Axis (2 * n) Q) where
  pub place_lt : {p : Place} → On n p → rank_of Q p < 4 * Q
  unfolding rank_of
  place_lt {p} o =
      let h : p.quadrant + 1 ≤ 4 = omega arith in omega (arith, mul-le-mul_right Q h, rank_lt k p.along p.across o.on o.some)

  pub rank_move : {p s : Place} → On n p → Move n p s → After (4 * Q) (rank_of Q p) (rank_of Q s)
  unfolding rank_of
  rank_move o (within e l w) = more (omega (arith, ap (λ (t : ℕ). t * Q) e, rank_step k o.on w))
  rank_move {p} {s} o (onto (next h j) e w) =
      more
      (omega (
        arith,
        ap (λ (t : ℕ). t * Q) j,
        rank_step k o.on w,
        rank_above k 0 s.along (stays o.on w) (omega arith),
        rank_low Q s.along s.across (omega arith),
      ))
  rank_move {p} {s} o (onto (home h j) e w) =
      wrap (omega (arith, ap (λ (t : ℕ). t * Q) h, rank_step k o.on w, rank_above k 0 s.along (stays o.on w) (omega arith)))
      (omega (arith, ap (λ (t : ℕ). t * Q) j, rank_low Q s.along s.across (omega arith)))

  behind : {p e : Place} → On n p → On n e → p.quadrant < e.quadrant → rank_of Q p < rank_of Q e
  unfolding rank_of
  behind {p} {e} o c h =
      let g : p.quadrant + 1 ≤ e.quadrant = omega arith in
      omega (arith, mul-le-mul_right Q g, rank_lt k p.along p.across o.on o.some)

  pub place_injective : {p e : Place} → On n p → On n e → rank_of Q p ≡ rank_of Q e → p ≡ e
  unfolding rank_of
  place_injective {p} {e} o c h =
      let f : p.quadrant ≡ e.quadrant =
      le_antisymm (unless (λ g. omega (arith, behind c o g))) (unless (λ g. omega (arith, behind o c g))) in
      let m = rank_injective k p.along p.across e.along e.across o.on c.on (omega (arith, ap (λ (t : ℕ). t * Q) f)) in
      same f m.0 m.1
    where
      same : {i a b j u v : ℕ} → i ≡ j → a ≡ u → b ≡ v → place i a b ≡ place j u v
      same e f g = cc

-- ---- the way from one rank on to another

pub onward_lt : (T r s : ℕ) → r < s → onward T r s ≡ s - r
unfolding onward
onward_lt T r s h = rw (lt-ltb r s h)

pub onward_ge : (T r s : ℕ) → s ≤ r → onward T r s ≡ s + T - r
unfolding onward
onward_ge T r s h = rw (le-ltb r s h)

module _ (T r s : ℕ) (hr : r < T) (hs : s < T) where
  pub onward_range : (1 ≤ onward T r s) × (onward T r s ≤ T)
  onward_range = by (dec_lt r s)
    where
      by : Dec (r < s) → (1 ≤ onward T r s) × (onward T r s ≤ T)
      by (yes h) = omega (arith, onward_lt T r s h)
      by (no h) = let g : s ≤ r = omega arith in omega (arith, onward_ge T r s g)

  -- a full round only to the same rank
  pub onward_full : T ≤ onward T r s → s ≡ r
  onward_full l = by (dec_lt r s)
    where
      by : Dec (r < s) → s ≡ r
      by (yes m) = absurd (omega (arith, onward_lt T r s m))
      by (no m) = let k : s ≤ r = omega arith in omega (arith, onward_ge T r s k)

  module _ (r' : ℕ) where
    pub onward_one : After T r r' → s ≡ r' → onward T r s ≡ 1
    onward_one (more e) f = omega (arith, onward_lt T r s (omega arith))
    onward_one (wrap e g) f = omega (arith, onward_ge T r s (omega arith))

    pub onward_more : After T r r' → s ≢ r' → onward T r s ≡ onward T r' s + 1
    onward_more (more e) f = by (dec_lt r s)
      where
        by : Dec (r < s) → onward T r s ≡ onward T r' s + 1
        by (yes h) = omega (arith, onward_lt T r s h, onward_lt T r' s (omega arith))
        by (no h) = let g : s ≤ r = omega arith in omega (arith, onward_ge T r s g, onward_ge T r' s (omega arith))
    onward_more (wrap e g) f = omega (arith, onward_ge T r s (omega arith), onward_lt T r' s (omega arith))

module _ {n Q : ℕ} (k : Axis (2 * n) Q) (e : Place) (ce : On n e) where
  pub places_range : (p : Place) → On n p → (1 ≤ places_to Q p e) × (places_to Q p e ≤ 4 * Q)
  unfolding places_to
  places_range p o = onward_range (4 * Q) (rank_of Q p) (rank_of Q e) (place_lt k o) (place_lt k ce)

  -- the end is the next place, or one fewer is left
  pub data Left (p : Place) : Type 0 where
    last : next_place n p ≡ e → places_to Q p e ≡ 1 → Left p
    rest : next_place n p ≢ e → places_to Q p e ≡ places_to Q (next_place n p) e + 1 → Left p

  pub left : (p : Place) → On n p → Left p
  unfolding places_to
  left p o = by (ℕ_discrete (rank_of Q e) (rank_of Q (next_place n p)))
    where
      up : After (4 * Q) (rank_of Q p) (rank_of Q (next_place n p))
      up = rank_move k o (move n p o)

      by : Dec (rank_of Q e ≡ rank_of Q (next_place n p)) → Left p
      by (yes h) =
          last (place_injective k (on_next n p o) ce (sym h))
          (onward_one (4 * Q) (rank_of Q p) (rank_of Q e) (place_lt k o) (place_lt k ce) (rank_of Q (next_place n p)) up h)
      by (no h) =
          rest (λ f. h (ap (rank_of Q) (sym f)))
          (onward_more (4 * Q) (rank_of Q p) (rank_of Q e) (place_lt k o) (place_lt k ce) (rank_of Q (next_place n p)) up h)
