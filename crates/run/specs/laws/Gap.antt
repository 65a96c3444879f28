-- The gap to the next cycle: by what ticks add, and without a division where the remainder is below what a tick adds or the due has one
-- whole tick.
use Rattle.std.specs.Prelude.{◌≡◌, refl, Bool, true, false, cond, ℕ, zero, suc, ◌+◌, ◌-◌, ◌*◌, ◌/◌, ◌≤◌, ◌<◌, eqb, ltb}
use Rattle.std.proofs.Math.Path.{ap}
use Rattle.std.proofs.Common.{ap₂, ◌∙◌, lt_of_mul-lt-mul_right, le_antisymm, le_of_suc-le-suc, div-mul-le_self, mul-le-mul, mul-le-mul_left}
use Rattle.std.proofs.Common.{arith, eqb-true, ltb-true, ltb-false}
use Rattle.std.proofs.Math.Nat.{lt-div-mul-add}
use Rattle.circle.specs.declared.step.Move.{Move}
use Rattle.circle.specs.declared.step.Move.TheVariants.{Rise, Slant, Fall}
use Rattle.circle.specs.computed.Charge.{move_charge}
use Rattle.divider.specs.laws.Last.{Due}
use Rattle.work.specs.computed.Sound.{Feed}
use Rattle.run.specs.declared.gap.Gap.{Gap}
use Rattle.run.specs.declared.gap.Divided.{Divided}
use Rattle.run.specs.computed.Gap.{gap_of, divided_of, limit_of, later, next_gap, if_less, by_move}

-- the gap is the divider's
abbrev pub DueGap : (due a r : ℕ) → Gap → Type 0
DueGap due a r g = Due due a r g.ticks g.remainder

pub gap_due : (due a r : ℕ) → 1 ≤ a → DueGap due a r (gap_of due a r)
unfolding gap_of
gap_due due a r some =
    let least = div-mul-le_self (due - 1 - r) a in
    let most = lt-div-mul-add {a = due - 1 - r} some in
    record { before = λ h. omega (arith, mul-le-mul h some); leaves = omega arith }

-- it is no longer than the due
pub gap_most : (due a r : ℕ) → 1 ≤ a → (gap_of due a r).ticks ≤ due
unfolding gap_of
gap_most due a r some = omega (arith, div-mul-le_self (due - 1 - r) a, mul-le-mul_left ((due - 1 - r) / a) some)

pub due_unique : {due a r : ℕ} {g h : Gap} → DueGap due a r g → DueGap due a r h → g ≡ h
due_unique {due} {a} {r} {g} {h} p q = same ticks
  where
    not_after : (x y : ℕ) → (1 ≤ x → r + x * a < due) → due ≤ r + y * a + a → x ≤ y
    not_after zero y early late = omega arith
    not_after (suc x) y early late =
        le_of_suc-le-suc (lt_of_mul-lt-mul_right a {m = suc x} {n = suc y} (omega (arith, early (omega arith))))

    ticks : g.ticks ≡ h.ticks
    ticks =
        le_antisymm (not_after g.ticks h.ticks p.before (omega (arith, q.leaves)))
        (not_after h.ticks g.ticks q.before (omega (arith, p.leaves)))

    same : g.ticks ≡ h.ticks → g ≡ h
    same e =
        let rest : g.remainder ≡ h.remainder = omega (arith, p.leaves, q.leaves, ap (λ (x : ℕ). x * a) e) in
        λ i. record { ticks = e i; remainder = rest i }

-- a cycle leaves a sound remainder: M is 1,414 × q0
pub gap_sound : {due a r : ℕ} {g : Gap} (M : ℕ) → a ≤ due → due ≤ M → r < M → DueGap due a r g → (r + g.ticks * a < M) × (g.remainder < M)
gap_sound {due} {a} {r} {g} M l m h d = by g.ticks d.before d.leaves
  where
    by : (t : ℕ) → (1 ≤ t → r + t * a < due) → due + g.remainder ≡ r + t * a + a → (r + t * a < M) × (g.remainder < M)
    by zero b e = omega arith
    by (suc t) b e = omega (arith, b (omega arith))

-- ---- without a division: so many whole sums of a tick go into the due

-- a divided due has a whole tick at least
pub record Parts (due a : ℕ) (d : Divided) : Type 0 where
  pub some : 1 ≤ d.whole
  pub all : due ≡ d.whole * a + d.over
  pub below : d.over < a

pub parts : {due a : ℕ} {d : Divided} → Feed due a → d ≡ divided_of due a → Parts due a d
unfolding divided_of
parts {due} {a} k e =
    let least = div-mul-le_self due a in
    let most = lt-div-mul-add {a = due} k.some in
    rw e
    (record {
      some = lt_of_mul-lt-mul_right a {m = 0} {n = due / a} (omega (arith, k.most));
      all = omega arith;
      below = omega arith;
    })

-- where the remainder is a tick's sum or more, by a division
pub next_over : (due a : ℕ) (g : Gap) {x : Gap} → x ≡ gap_of due a g.remainder
    → record { ticks = g.ticks + 1 + x.ticks; remainder = x.remainder } ≡ next_gap due a g
unfolding next_gap
next_over due a g e = ap (later (g.ticks + 1)) e

module _ {due a : ℕ} {d : Divided} (k : Feed due a) (w : Parts due a d) where
  pub whole_most : d.whole ≤ due
  whole_most = omega (arith, w.all, mul-le-mul_left d.whole k.some)

  module _ (g : Gap) (below : 2 ≤ d.whole → g.remainder < a) where
    gap_is : {next : Gap} → DueGap due a g.remainder next → later (g.ticks + 1) next ≡ next_gap due a g
    unfolding next_gap
    gap_is x = ap (later (g.ticks + 1)) (due_unique x (gap_due due a g.remainder k.some))

    pub next_less : d.over ≤ g.remainder
        → record { ticks = g.ticks + d.whole; remainder = g.remainder - d.over } ≡ next_gap due a g
    next_less h =
        let one : d.whole ≡ d.whole - 1 + 1 = omega (arith, w.some) in
        let feeds = ap (λ (x : ℕ). x * a) one in
        ap (λ (t : ℕ). record { ticks = t; remainder = g.remainder - d.over }) (omega arith)
        ∙ gap_is {next = record { ticks = d.whole - 1; remainder = g.remainder - d.over }}
        (record { before = λ m. omega (arith, w.all, below (omega arith)); leaves = omega (arith, w.all) })

    pub next_whole : g.remainder < d.over
        → record { ticks = g.ticks + 1 + d.whole; remainder = g.remainder + a - d.over } ≡ next_gap due a g
    next_whole h = gap_is (record { before = λ m. omega (arith, w.all); leaves = omega (arith, w.below, w.all) })

    -- both at once
    pub next_either : record {
      ticks = g.ticks + d.whole + if_less g.remainder d.over 1;
      remainder = g.remainder + if_less g.remainder d.over a - d.over;
    } ≡ next_gap due a g
    next_either = by (ltb g.remainder d.over) refl
      where
        by : (t : Bool) → ltb g.remainder d.over ≡ t
            → record { ticks = g.ticks + d.whole + cond t 1 0; remainder = g.remainder + cond t a 0 - d.over } ≡ next_gap due a g
        by true e =
            let ticks : g.ticks + d.whole + 1 ≡ g.ticks + 1 + d.whole = omega arith in
            ap (λ (n : ℕ). record { ticks = n; remainder = g.remainder + a - d.over }) ticks
            ∙ next_whole (ltb-true g.remainder d.over e)
        by false e =
            let ticks : g.ticks + d.whole + 0 ≡ g.ticks + d.whole = omega arith in
            let rest : g.remainder + 0 - d.over ≡ g.remainder - d.over = omega arith in
            ap₂ (λ (n r : ℕ). record { ticks = n; remainder = r }) ticks rest ∙ next_less (ltb-false g.remainder d.over e)

    -- and no more is taken off than there is
    pub over_fits : d.over ≤ g.remainder + if_less g.remainder d.over a
    over_fits = by (ltb g.remainder d.over) refl
      where
        by : (t : Bool) → ltb g.remainder d.over ≡ t → d.over ≤ g.remainder + cond t a 0
        by true e = omega (arith, w.below)
        by false e = omega (arith, ltb-false g.remainder d.over e)

-- with more whole ticks than one the limit is what a tick adds
pub limit_most : {a limit : ℕ} (d : Divided) → limit ≡ limit_of a d → 2 ≤ d.whole → limit ≤ a
unfolding limit_of
limit_most {a} d e h = rw e (by (eqb d.whole 1) refl)
  where
    by : (t : Bool) → eqb d.whole 1 ≡ t → cond t 18446744073709551615 a ≤ a
    by true e = absurd (omega (arith, eqb-true d.whole 1 e))
    by false e = omega arith

pub if_less_most : (a b n : ℕ) → if_less a b n ≤ n
if_less_most a b n = by (ltb a b)
  where
    by : (t : Bool) → cond t n 0 ≤ n
    by true = omega arith
    by false = omega arith

-- the divided due of a move
pub by_move_is : (q0 a : ℕ) {straight diagonal : Divided} (m : Move) → straight ≡ divided_of (1000 * q0) a
    → diagonal ≡ divided_of (1414 * q0) a
    → record { whole = by_move m straight.whole diagonal.whole; over = by_move m straight.over diagonal.over }
    ≡ divided_of (move_charge m * q0) a
by_move_is q0 a Rise e f = e
by_move_is q0 a Slant e f = f
by_move_is q0 a Fall e f = e

pub move_due : (q0 : ℕ) (m : Move) → (1000 * q0 ≤ move_charge m * q0) × (move_charge m * q0 ≤ 1414 * q0)
move_due q0 Rise = omega arith
move_due q0 Slant = omega arith
move_due q0 Fall = omega arith
