-- Travel in quadrant form: p, e and the axis points between are inside exactly where every point on the way is.
--
-- Why: on the way through a quadrant `along` only falls and `across` only grows. So a point between two places of one quadrant lies no
-- farther out, to any side, than one of the two (`later`); and no point lies farther out than an axis point (`under_axis`). A step from p
-- therefore stays inside: the end holds it where it lies ahead in the same quadrant, else the next axis points do, which the way passes
-- (`Where`, `move_in`). A step takes 1 off the way to the end and off the way to each axis; so what is asked of the axes holds from the
-- next place on exactly where it holds from p (`next_safe`, `safe_back`). Which axes are passed is told without ranks (`passes`).
use Rattle.std.specs.Prelude.{◌≡◌, ◌⊎◌, ◌≢◌, Bool, true, false, cond, ltb, eqb, ℤ}
use Rattle.std.proofs.Math.Path.{refl, ap}
use Rattle.std.proofs.Common.{sym, ◌∙◌, inl, inr, le_refl, le_trans, add-one, ltb-true, ltb-false, eqb-true}
use Prim.Native.Nat.{ℕ, zero, suc, ◌+◌, ◌-◌, ◌*◌, ◌≤◌, ◌<◌}
use Rattle.std.proofs.Math.Nat.{mul-le-mul_right as times}
use Rattle.std.proofs.Math.Decide.{dec_lt, ℕ_discrete}
use native.Mathlib.Omega.{arith}
use Rattle.std.proofs.lemmas.Bool.{eqb-false}
use Rattle.whole.specs.laws.Difference.{up, down}
use Rattle.circle.specs.declared.quadrant.Place.{Place}
use Rattle.circle.specs.computed.Step.{place, next_quadrant, next_place}
use Rattle.circle.specs.computed.Count.{rank_in, rank_of, onward, places_to}
use Rattle.circle.proofs.laws.Octant.{Octant, Axis, Quadrant, unless, unique, falls, minor, some, under_axis}
use Rattle.circle.proofs.laws.Step.{stays, ahead}
use Rattle.circle.proofs.laws.Next.{On}
use Rattle.circle.proofs.laws.Rank.{rank_low, rank_above, rank_lt, rank_step, rank_injective, NextQuadrant, next, home, next_quadrant_lem}
use Rattle.circle.proofs.laws.Rank.{next_quadrant_lt, Move, within, onto, move, axis_point, on_next, place_lt, place_injective, rank_move}
use Rattle.circle.proofs.laws.Rank.{onward_lt, onward_ge, onward_range, onward_more, onward_full, Left, last, rest, left}
use Rattle.clearance.specs.declared.Room.{Room}
use Rattle.clearance.specs.computed.Travel.{axes_passed}

-- ---- in one quadrant: as the rank grows, a falls and b grows

-- across the diagonal
chain : {N a b u v : ℕ} → Octant N a b → Octant N v u → (u ≤ a) × (b ≤ v)
chain o p = (
  unless (λ g. omega (arith, falls o p (le_trans o.wide (omega arith)))),
  unless (λ g. omega (arith, falls p o (le_trans p.wide (omega arith)))),
)

module _ {N Q : ℕ} (q : Axis (2 * N) Q) where
  pub later : {a b u v : ℕ} → Quadrant N a b → Quadrant N u v → rank_in Q a b ≤ rank_in Q u v → (u ≤ a) × (b ≤ v)
  later {a} {b} {u} {v} (inl o) (inl p) h =
      let g : b ≤ v = omega (arith, rank_low Q a b o.wide, rank_low Q u v p.wide) in
      (falls o p g, g)
  later (inl o) (inr p) h = chain o p
  later {a} {b} {u} {v} (inr o) (inl p) h =
      let m =
      rank_injective q a b u v (inr o) (inl p)
      (omega (arith, rank_above q a b (inr o) o.wide, rank_low Q u v p.wide, minor o q, minor p q)) in
      omega arith
  later {a} {b} {u} {v} (inr o) (inr p) h =
      let g : u ≤ a = omega (arith, rank_above q a b (inr o) o.wide, rank_above q u v (inr p) p.wide) in
      (g, falls p o g)

  later_lt : {a b u v : ℕ} → Quadrant N a b → Quadrant N u v → rank_in Q a b < rank_in Q u v → b + u < v + a
  later_lt {a} {b} {u} {v} c d h = by (dec_lt (b + u) (v + a))
    where
      m : (u ≤ a) × (b ≤ v)
      m = later c d (omega arith)

      by : Dec (b + u < v + a) → b + u < v + a
      by (yes g) = g
      by (no g) =
          let m' = m in
          let e : a ≡ u = omega arith in
          let f : b ≡ v = omega arith in
          let k : rank_in Q a b ≡ rank_in Q u v = cc in
          omega arith

  later_key : {a b u v : ℕ} → Quadrant N a b → Quadrant N u v → b + u < v + a → rank_in Q a b < rank_in Q u v
  later_key {a} {b} {u} {v} c d h = by (dec_lt (rank_in Q a b) (rank_in Q u v))
    where
      by : Dec (rank_in Q a b < rank_in Q u v) → rank_in Q a b < rank_in Q u v
      by (yes g) = g
      by (no g) = omega (arith, later d c (omega arith))

-- ---- rooms, as a quadrant sees them

-- a is at most z, and -a is
abbrev pub Fits : ℕ → ℤ → Type 0
Fits a z = a + down z ≤ up z

abbrev pub Meets : ℕ → ℤ → Type 0
Meets a z = down z ≤ up z + a

abbrev pub rotated : Room → Room
rotated E = record { right = E.up; up = E.left; left = E.down; down = E.right }

-- the room as it lies around quadrant k
unfoldable pub facing : ℕ → Room → Room
facing zero E = E
facing (suc k) E = rotated (facing k E)

pub facing_next : (E : Room) (k j : ℕ) → NextQuadrant k j → facing j E ≡ rotated (facing k E)
unfolding facing
facing_next E k j (next h e) = rw e (rw (add-one k))
facing_next E k j (home h e) = rw (h, e)

pub record Held (F : Room) (a b : ℕ) : Type 0 where
  pub right : Fits a F.right
  pub up : Fits b F.up
  pub left : Meets a F.left
  pub down : Meets b F.down

abbrev pub In : Room → Place → Type 0
In E p = Held (facing p.quadrant E) p.along p.across

-- ---- how far to the next axis, and to the one after it

onward_next : (Q k j t : ℕ) → t < Q → NextQuadrant k j → onward (4 * Q) (k * Q + t) (j * Q) ≡ Q - t
onward_next Q k j t h (next g e) =
    let m = ap (λ (x : ℕ). x * Q) e in
    omega (arith, onward_lt (4 * Q) (k * Q + t) (j * Q) (omega arith))
onward_next Q k j t h (home g e) =
    let m = ap (λ (x : ℕ). x * Q) e in
    let l = ap (λ (x : ℕ). x * Q) g in
    omega (arith, onward_ge (4 * Q) (k * Q + t) (j * Q) (omega arith))

onward_second : (Q k j i t : ℕ) → t < Q → NextQuadrant k j → NextQuadrant j i → onward (4 * Q) (k * Q + t) (i * Q) ≡ 2 * Q - t
onward_second Q k j i t h (next g e) (next g' e') =
    let m : i ≡ k + 2 = omega arith in
    let l = ap (λ (x : ℕ). x * Q) m in
    omega (arith, onward_lt (4 * Q) (k * Q + t) (i * Q) (omega arith))
onward_second Q k j i t h (next g e) (home g' e') =
    let m : k ≡ 2 = omega arith in
    let l = ap (λ (x : ℕ). x * Q) m in
    let n = ap (λ (x : ℕ). x * Q) e' in
    omega (arith, onward_ge (4 * Q) (k * Q + t) (i * Q) (omega arith))
onward_second Q k j i t h (home g e) (next g' e') =
    let m : i ≡ 1 = omega arith in
    let l = ap (λ (x : ℕ). x * Q) m in
    let n = ap (λ (x : ℕ). x * Q) g in
    omega (arith, onward_ge (4 * Q) (k * Q + t) (i * Q) (omega arith))
onward_second Q k j i t h (home g e) (home g' e') = absurd (omega arith)

-- where the end is: later in the quadrant, in the next one, or past the next two axes
data Where (Q : ℕ) (p e : Place) : Type 0 where
  same : e.quadrant ≡ p.quadrant → rank_in Q p.along p.across < rank_in Q e.along e.across → Where Q p e
  beside : NextQuadrant p.quadrant e.quadrant → Q ≤ places_to Q p e + rank_in Q p.along p.across → Where Q p e
  beyond : 2 * Q ≤ places_to Q p e + rank_in Q p.along p.across → Where Q p e

module _ {N Q : ℕ} (q : Axis (2 * N) Q) {p e : Place} (o : On N p) (c : On N e) where
  find : Where Q p e
  unfolding places_to rank_of
  find = by (ℕ_discrete e.quadrant p.quadrant) (ℕ_discrete e.quadrant (next_quadrant p.quadrant))
    where
      P : ℕ
      P = rank_in Q p.along p.across

      S : ℕ
      S = rank_in Q e.along e.across

      ps : P < Q
      ps = rank_lt q p.along p.across o.on o.some

      ss : S < Q
      ss = rank_lt q e.along e.across c.on c.some

      eq : e.quadrant ≡ p.quadrant → Dec (P < S) → Where Q p e
      eq f (yes h) = same f h
      eq f (no h) =
          let m = ap (λ (x : ℕ). x * Q) f in
          let z = ps in
          let g : S ≤ P = omega arith in
          beyond (omega (arith, onward_ge (4 * Q) (p.quadrant * Q + P) (e.quadrant * Q + S) (omega arith)))

      near : (k j : ℕ) → NextQuadrant k j → e.quadrant ≡ j → p.quadrant ≡ k → Where Q p e
      near k j t f g = beside (rw (g, f) t) (by_gap t)
        where
          by_gap : NextQuadrant k j → Q ≤ onward (4 * Q) (p.quadrant * Q + P) (e.quadrant * Q + S) + P
          by_gap (next h m) =
              let w : e.quadrant ≡ p.quadrant + 1 = omega arith in
              let l = ap (λ (x : ℕ). x * Q) w in
              let z = ps in
              omega (arith, onward_lt (4 * Q) (p.quadrant * Q + P) (e.quadrant * Q + S) (omega arith))
          by_gap (home h m) =
              let w : e.quadrant ≡ 0 = omega arith in
              let w' : p.quadrant ≡ 3 = omega arith in
              let l = ap (λ (x : ℕ). x * Q) w in
              let l' = ap (λ (x : ℕ). x * Q) w' in
              let z = ss in
              omega (arith, onward_ge (4 * Q) (p.quadrant * Q + P) (e.quadrant * Q + S) (omega arith))

      far : e.quadrant ≢ p.quadrant → e.quadrant ≢ next_quadrant p.quadrant → NextQuadrant p.quadrant (next_quadrant p.quadrant)
          → Dec (p.quadrant < e.quadrant) → Where Q p e
      far f g (next h m) (yes l) =
          let w : p.quadrant + 2 ≤ e.quadrant = omega arith in
          let z = ps in
          beyond (omega (arith, times Q w, onward_lt (4 * Q) (p.quadrant * Q + P) (e.quadrant * Q + S) (omega (arith, times Q w))))
      far f g (home h m) (yes l) = absurd (omega (arith, c.four))
      far f g t (no l) =
          let w : e.quadrant + 1 ≤ p.quadrant = omega arith in
          let w' : p.quadrant ≤ e.quadrant + 2 = two t in
          let z = ss in
          beyond
          (omega (arith, times Q w, times Q w', onward_ge (4 * Q) (p.quadrant * Q + P) (e.quadrant * Q + S) (omega (arith, times Q w))))
        where
          two : NextQuadrant p.quadrant (next_quadrant p.quadrant) → p.quadrant ≤ e.quadrant + 2
          two (next h m) = omega arith
          two (home h m) = omega arith

      by : Dec (e.quadrant ≡ p.quadrant) → Dec (e.quadrant ≡ next_quadrant p.quadrant) → Where Q p e
      by (yes f) d = eq f (dec_lt P S)
      by (no f) (yes g) = near p.quadrant (next_quadrant p.quadrant) (next_quadrant_lem p.quadrant o.four) g refl
      by (no f) (no g) = far f g (next_quadrant_lem p.quadrant o.four) (dec_lt p.quadrant e.quadrant)

-- ---- safe: p and the end are inside, and each axis point that is passed, or met at the end, is

pub record Safe (E : Room) (R Q : ℕ) (p e : Place) : Type 0 where
  pub here : In E p
  pub there : In E e
  pub axes : (i : ℕ) → i < 4 → onward (4 * Q) (rank_of Q p) (i * Q) ≤ places_to Q p e → Fits R (facing i E).right

module _ {N Q R : ℕ} (q : Axis (2 * N) Q) (r : Axis N R) (E : Room) (e : Place) (ce : On N e)
    (p : Place) (o : On N p) (h : Safe E R Q p e) where
  first_axis : Q ≤ places_to Q p e + rank_in Q p.along p.across → Fits R (facing p.quadrant E).up
  unfolding rank_of
  first_axis g =
      let t = next_quadrant_lem p.quadrant o.four in
      let m =
      onward_next Q p.quadrant (next_quadrant p.quadrant) (rank_in Q p.along p.across)
      (rank_lt q p.along p.across o.on o.some) t in
      rw (facing_next E p.quadrant (next_quadrant p.quadrant) t) at
      (h.axes (next_quadrant p.quadrant) (next_quadrant_lt t) (omega arith))

  second_axis : 2 * Q ≤ places_to Q p e + rank_in Q p.along p.across → Fits R (facing p.quadrant E).left
  unfolding rank_of
  second_axis g =
      let t = next_quadrant_lem p.quadrant o.four in
      let j = next_quadrant p.quadrant in
      let t' = next_quadrant_lem j (next_quadrant_lt t) in
      let m =
      onward_second Q p.quadrant j (next_quadrant j) (rank_in Q p.along p.across)
      (rank_lt q p.along p.across o.on o.some) t t' in
      rw (facing_next E j (next_quadrant j) t', facing_next E p.quadrant j t) at
      (h.axes (next_quadrant j) (next_quadrant_lt t') (omega arith))

  -- the next place is inside: between p and the end, or short of an axis point that is inside
  move_in : (s : Place) → Move N p s → In E s
  move_in s (within f l w) = rw f (by (find q o ce))
    where
      g : (s.along ≤ p.along) × (p.across ≤ s.across)
      g = omega (arith, ahead w)

      m : (s.along ≤ R) × (s.across ≤ R)
      m = under_axis (stays o.on w) r

      by : Where Q p e → Held (facing p.quadrant E) s.along s.across
      by (same k t) =
          let g' = g in
          let i = later q (stays o.on w) ce.on (omega (arith, rank_step q o.on w)) in
          let y : Held (facing p.quadrant E) e.along e.across = rw k at h.there in
          let x = h.here in
          omega arith
      by (beside t k) =
          let g' = g in
          let m' = m in
          let y : Held (rotated (facing p.quadrant E)) e.along e.across =
          rw (facing_next E p.quadrant e.quadrant t) at h.there in
          let x = h.here in
          let z = first_axis k in
          omega arith
      by (beyond k) =
          let g' = g in
          let m' = m in
          let x = h.here in
          let z = first_axis (omega arith) in
          let z' = second_axis k in
          omega arith
  move_in s (onto t f w) = rw (facing_next E p.quadrant s.quadrant t) (by (find q o ce))
    where
      c : Axis N s.along
      c = axis_point o.on w

      g : p.across ≤ s.along
      g = omega (arith, ahead w)

      m : s.along ≡ R
      m = unique c r

      by : Where Q p e → Held (rotated (facing p.quadrant E)) s.along s.across
      by (same k l) =
          absurd (omega (
            arith,
            rank_step q o.on w,
            rank_above q 0 s.along (stays o.on w) (omega arith),
            rank_lt q e.along e.across ce.on ce.some,
          ))
      by (beside t' k) =
          let g' = g in
          let m' = m in
          let y : Held (rotated (facing p.quadrant E)) e.along e.across =
          rw (facing_next E p.quadrant e.quadrant t') at h.there in
          let x = h.here in
          let z = first_axis k in
          omega arith
      by (beyond k) =
          let g' = g in
          let m' = m in
          let x = h.here in
          let z = first_axis (omega arith) in
          let z' = second_axis k in
          omega arith

module _ {N Q R : ℕ} (q : Axis (2 * N) Q) (r : Axis N R) where
  axis_lt : (i : ℕ) → i < 4 → i * Q < 4 * Q
  axis_lt i h = let g : i + 1 ≤ 4 = omega arith in omega (arith, times Q g, some q)

  -- the point of rank i * Q is the axis point
  axis_in : (E : Room) (s : Place) (i : ℕ) → On N s → i < 4 → i * Q ≡ rank_of Q s → In E s → Fits R (facing i E).right
  axis_in E s i o h f g = let y : In E (place i R 0) = rw at_axis at g in y.right
    where
      a : On N (place i R 0)
      a = record { four = h; some = some r; on = inl r }

      rank : rank_of Q (place i R 0) ≡ i * Q
      rank = unfold rank_of in omega (arith, rank_low Q R 0 (omega arith))

      at_axis : s ≡ place i R 0
      at_axis = place_injective q o a (sym f ∙ sym rank)

  module _ (E : Room) (e : Place) (ce : On N e) (p : Place) (o : On N p) where
    axis_nearer : (i : ℕ) → i < 4 → i * Q ≢ rank_of Q (next_place N p)
        → onward (4 * Q) (rank_of Q p) (i * Q) ≡ onward (4 * Q) (rank_of Q (next_place N p)) (i * Q) + 1
    axis_nearer i h f =
        onward_more (4 * Q) (rank_of Q p) (i * Q) (place_lt q o) (axis_lt i h) (rank_of Q (next_place N p)) (rank_move q o (move N p o)) f

    pub next_in : Safe E R Q p e → In E (next_place N p)
    next_in h = move_in q r E e ce p o h (next_place N p) (move N p o)

    -- one step takes 1 off both sides of each axis condition, unless it lands on that axis
    pub next_safe : Safe E R Q p e → next_place N p ≢ e → Safe E R Q (next_place N p) e
    next_safe h f =
        record {
          here = next_in h;
          there = h.there;
          axes = λ i l g. by i l g (ℕ_discrete (i * Q) (rank_of Q (next_place N p))) (left q e ce p o);
        }
      where
        by : (i : ℕ) → i < 4 → onward (4 * Q) (rank_of Q (next_place N p)) (i * Q) ≤ places_to Q (next_place N p) e
            → Dec (i * Q ≡ rank_of Q (next_place N p)) → Left q e ce p → Fits R (facing i E).right
        by i l g d (last k m) = absurd (f k)
        by i l g (no d) (rest k m) = h.axes i l (omega (arith, axis_nearer i l d))
        by i l g (yes d) (rest k m) =
            let r' = rank_of Q (next_place N p) in
            let w : 4 * Q ≤ onward (4 * Q) r' (rank_of Q e) =
            unfold places_to in omega (arith, rw d at g, onward_ge (4 * Q) r' r' (le_refl r')) in
            let same = onward_full (4 * Q) r' (rank_of Q e) (place_lt q (on_next N p o)) (place_lt q ce) w in
            absurd (f (sym (place_injective q ce (on_next N p o) same)))

    pub safe_back : In E p → In E (next_place N p) → (next_place N p ≡ e) ⊎ Safe E R Q (next_place N p) e → Safe E R Q p e
    safe_back x y d =
        record { here = x; there = end d; axes = λ i l g. by i l g (ℕ_discrete (i * Q) (rank_of Q (next_place N p))) d (left q e ce p o) }
      where
        end : (next_place N p ≡ e) ⊎ Safe E R Q (next_place N p) e → In E e
        end (inl f) = rw f at y
        end (inr s) = s.there

        by : (i : ℕ) → i < 4 → onward (4 * Q) (rank_of Q p) (i * Q) ≤ places_to Q p e → Dec (i * Q ≡ rank_of Q (next_place N p))
            → (next_place N p ≡ e) ⊎ Safe E R Q (next_place N p) e → Left q e ce p → Fits R (facing i E).right
        by i l g (yes f) s v = axis_in E (next_place N p) i (on_next N p o) l f y
        by i l g (no f) s (last k m) =
            absurd (omega (
              arith,
              axis_nearer i l f,
              (onward_range (4 * Q) (rank_of Q (next_place N p)) (i * Q) (place_lt q (on_next N p o)) (axis_lt i l)).0,
            ))
        by i l g (no f) (inl s) (rest k m) = absurd (k s)
        by i l g (no f) (inr s) (rest k m) = s.axes i l (omega (arith, axis_nearer i l f))

-- ---- which axes are passed, without ranks

module _ {N Q : ℕ} (q : Axis (2 * N) Q) (p e : Place) (o : On N p) (c : On N e) where
  abbrev P : ℕ
  P = rank_in Q p.along p.across

  abbrev S : ℕ
  S = rank_in Q e.along e.across

  ps : P < Q
  ps = rank_lt q p.along p.across o.on o.some

  ss : S < Q
  ss = rank_lt q e.along e.across c.on c.some

  passed_count : places_to Q p e + P ≡ axes_passed p e * Q + S
  unfolding axes_passed places_to rank_of
  passed_count = by (eqb e.quadrant p.quadrant) (ltb (p.across + e.along) (e.across + p.along)) refl refl
    where
      not_later : e.across + p.along ≤ p.across + e.along → Dec (P < S) → S ≤ P
      not_later h (yes g) = absurd (omega (arith, later_lt q o.on c.on g))
      not_later h (no g) = omega arith

      other : e.quadrant ≢ p.quadrant → Dec (p.quadrant < e.quadrant)
          → onward (4 * Q) (p.quadrant * Q + P) (e.quadrant * Q + S) + P ≡ onward 4 p.quadrant e.quadrant * Q + S
      other f (yes h) =
          let d : onward 4 p.quadrant e.quadrant + p.quadrant ≡ e.quadrant =
          omega (arith, onward_lt 4 p.quadrant e.quadrant h) in
          let m = ap (λ (x : ℕ). x * Q) d in
          let w : p.quadrant + 1 ≤ e.quadrant = omega arith in
          let z = ps in
          omega (arith, times Q w, onward_lt (4 * Q) (p.quadrant * Q + P) (e.quadrant * Q + S) (omega (arith, times Q w)))
      other f (no h) =
          let w : e.quadrant + 1 ≤ p.quadrant = omega arith in
          let d : onward 4 p.quadrant e.quadrant + p.quadrant ≡ e.quadrant + 4 =
          omega (arith, o.four, onward_ge 4 p.quadrant e.quadrant (omega arith)) in
          let m = ap (λ (x : ℕ). x * Q) d in
          let z = ss in
          omega (arith, times Q w, place_lt q o, onward_ge (4 * Q) (p.quadrant * Q + P) (e.quadrant * Q + S) (omega (arith, times Q w)))

      by : (t u : Bool) → eqb e.quadrant p.quadrant ≡ t → ltb (p.across + e.along) (e.across + p.along) ≡ u
          → onward (4 * Q) (p.quadrant * Q + P) (e.quadrant * Q + S) + P
          ≡ cond t (cond u 0 4) (onward 4 p.quadrant e.quadrant) * Q + S
      by true true f g =
          let m = ap (λ (x : ℕ). x * Q) (eqb-true e.quadrant p.quadrant f) in
          let h : P < S = later_key q o.on c.on (ltb-true (p.across + e.along) (e.across + p.along) g) in
          omega (arith, onward_lt (4 * Q) (p.quadrant * Q + P) (e.quadrant * Q + S) (omega arith))
      by true false f g =
          let m = ap (λ (x : ℕ). x * Q) (eqb-true e.quadrant p.quadrant f) in
          let h : S ≤ P = not_later (ltb-false (p.across + e.along) (e.across + p.along) g) (dec_lt P S) in
          let z = ps in
          omega (arith, onward_ge (4 * Q) (p.quadrant * Q + P) (e.quadrant * Q + S) (omega arith))
      by false u f g = other (eqb-false e.quadrant p.quadrant f) (dec_lt p.quadrant e.quadrant)

  to_axis : (i : ℕ) → i < 4 → onward (4 * Q) (rank_of Q p) (i * Q) + P ≡ onward 4 p.quadrant i * Q
  unfolding rank_of
  to_axis i l = by (dec_lt p.quadrant i)
    where
      by : Dec (p.quadrant < i) → onward (4 * Q) (p.quadrant * Q + P) (i * Q) + P ≡ onward 4 p.quadrant i * Q
      by (yes h) =
          let d : onward 4 p.quadrant i + p.quadrant ≡ i = omega (arith, onward_lt 4 p.quadrant i h) in
          let m = ap (λ (x : ℕ). x * Q) d in
          let w : p.quadrant + 1 ≤ i = omega arith in
          let z = ps in
          omega (arith, times Q w, onward_lt (4 * Q) (p.quadrant * Q + P) (i * Q) (omega (arith, times Q w)))
      by (no h) =
          let w : i ≤ p.quadrant = omega arith in
          let d : onward 4 p.quadrant i + p.quadrant ≡ i + 4 = omega (arith, o.four, onward_ge 4 p.quadrant i w) in
          let m = ap (λ (x : ℕ). x * Q) d in
          let z = ps in
          omega (arith, times Q w, place_lt q o, onward_ge (4 * Q) (p.quadrant * Q + P) (i * Q) (omega (arith, times Q w)))

  pub passes : (i : ℕ) → i < 4 → onward (4 * Q) (rank_of Q p) (i * Q) ≤ places_to Q p e → onward 4 p.quadrant i ≤ axes_passed p e
  passes i l h = unless (λ g. omega (arith, times Q g, to_axis i l, passed_count, ss))

  pub passes_back : (i : ℕ) → i < 4 → onward 4 p.quadrant i ≤ axes_passed p e → onward (4 * Q) (rank_of Q p) (i * Q) ≤ places_to Q p e
  passes_back i l g = omega (arith, times Q g, to_axis i l, passed_count)
