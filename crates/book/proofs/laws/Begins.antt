-- A block that begins at a remainder that pays for no cycle ends on the tick of 02 §2's formula, and leaves such a remainder to the next.
-- In a history every block begins so.
use Rattle.std.specs.Prelude.{◌≡◌, true, List}
use Prim.Native.Nat.{ℕ, zero, suc, ◌+◌, ◌-◌, ◌*◌, ◌≤◌, ◌<◌}
use Rattle.std.proofs.Common.{mul-le-mul_right, lt_of_not-le, not-le_of_lt, lt-suc_self}
use native.Mathlib.Omega.{arith}
use Rattle.plane.specs.declared.point.Point.{Point}
use Rattle.plane.specs.declared.travel.Travel.{Travel}
use Rattle.plane.specs.computed.Travel.{Wide}
use Rattle.plane.specs.laws.Travel.{Bounded}
use Rattle.circle.specs.Charge.{straight}
use Rattle.divider.specs.computed.Divider.{last_tick}
use Rattle.divider.specs.laws.Ticks.{total}
use Rattle.divider.specs.laws.Last.{Reaches, end_tick_lem, end_enough, last_is_end}
use Rattle.block.specs.declared.Block.{Block}
use Rattle.block.specs.Block.{block_cycles}
use Rattle.block.specs.Charge.{block_charge, charges_to, block_charges}
use Rattle.block.specs.Questions.{load_no}
use Rattle.block.proofs.laws.Charge.{block_charge_range}
use Rattle.book.specs.Bench.{added_by}
use Rattle.book.specs.Book.{Call}
use Rattle.book.specs.Ledger.{accounts, block_ticks, block_leaves, Every, Given, AcceptedThere, BeginsBelow}
use Rattle.book.proofs.laws.Settings.{SettingsRight}
use Rattle.book.proofs.laws.Way.{block_way}
use Rattle.book.proofs.laws.Load.{load_right}
use Rattle.book.proofs.laws.Accounts.{accounts_hold}

-- ---- any block, of a feed in 1..q0 and with cycles to do

module _ (q0 : ℕ) (start : Point) (b : Block) (some : 1 ≤ b.feed) (short : b.feed ≤ q0) where
  abbrev dues : (c : ℕ) → ℕ
  dues c = block_charge start b c * q0

  total_dues : (c : ℕ) → total dues c ≡ charges_to start b c * q0
  unfolding total charges_to
  total_dues zero = omega arith
  total_dues (suc c) = omega (arith, total_dues c)

  -- a tick adds no more than a cycle costs
  each : (c : ℕ) → added_by b ≤ dues c
  each c = omega (arith, mul-le-mul_right q0 (block_charge_range start b c).0)

  module _ (cycles : 1 ≤ block_cycles start b) (r : ℕ) (below : r < straight * q0) where
    abbrev due : ℕ
    due = block_charges start b * q0

    first : r < dues 0
    first = omega (arith, mul-le-mul_right q0 (block_charge_range start b 0).0)

    -- "A block ends on the tick that stepping by this rule gives; in a history that is its working tick ⌈(C × q0 - r) / (1,000 × f)⌉"
    pub begun_ends : last_tick due (added_by b) r (block_cycles start b) ≡ block_ticks q0 r start b
    begun_ends =
        let k = block_cycles start b in
        rw (total_dues k) at (last_is_end dues (added_by b) (omega arith) each r k cycles first)

    -- a tick for each cycle at least
    pub begun_enough : block_cycles start b ≤ block_ticks q0 r start b
    begun_enough =
        let k = block_cycles start b in
        rw (total_dues k) at (end_enough dues (added_by b) (omega arith) each r k cycles first)

    -- 01: "The remainder goes over to the next block.": less than a tick adds
    begun_leaves : r + block_ticks q0 r start b * added_by b - due < added_by b
    begun_leaves = by (block_ticks q0 r start b) begun_enough (end_tick_lem due (added_by b) r (omega arith))
      where
        by : (t : ℕ) → block_cycles start b ≤ t → Reaches due (added_by b) r t → r + t * added_by b - due < added_by b
        by zero l e = absurd (omega arith)
        by (suc t) l e =
            let before : r + t * added_by b < due = lt_of_not-le (λ g. not-le_of_lt (lt-suc_self t) (e.first t g)) in
            omega arith

    pub begun_below : r + block_ticks q0 r start b * added_by b - due < straight * q0
    begun_below = omega (arith, begun_leaves)

-- ---- a block that load accepts there

pub record Begun (q0 r : ℕ) (start : Point) (b : Block) : Type 0 where
  pub ends : last_tick (block_charges start b * q0) (added_by b) r (block_cycles start b) ≡ block_ticks q0 r start b
  pub below : block_leaves q0 r start b < straight * q0

pub accepted_begins : (q0 : ℕ) (t : Travel) → Wide t → (start : Point) (b : Block) → Bounded t start → load_no q0 t true start b ≡ 0
    → (r : ℕ) → r < straight * q0 → Begun q0 r start b
accepted_begins q0 t wide start b here accepted r below =
    let right = load_right q0 t wide start b here accepted in
    let cycles = (block_way b here right.path).some in
    record {
      ends = begun_ends q0 start b right.some right.short cycles r below;
      below = begun_below q0 start b right.some right.short cycles r below;
    }

-- ---- in a history

pub accounts_below : (q0 : ℕ) (t : Travel) → SettingsRight q0 t → (cs : List Call) → Every (BeginsBelow q0) (accounts q0 t cs)
accounts_below q0 t settings cs =
    accounts_hold (λ k start r. r < straight * q0) q0 t settings (λ start r k here below asked right. below) cs

pub accounts_accepted : (q0 : ℕ) (t : Travel) → SettingsRight q0 t → (cs : List Call)
    → Every (AcceptedThere q0 t) (accounts q0 t cs)
accounts_accepted q0 t settings cs =
    accounts_hold (λ k start r. load_no q0 t true start k ≡ 0) q0 t settings (λ start r k here below asked right. asked) cs

pub accounts_given : (q0 : ℕ) (t : Travel) → SettingsRight q0 t → (cs : List Call) → Every (Given q0) (accounts q0 t cs)
accounts_given q0 t settings cs =
    accounts_hold (λ k start r. 1 ≤ block_ticks q0 r start k) q0 t settings
    (λ start r k here below asked right.
    let cycles = (block_way k here right.path).some in
    omega (arith, cycles, begun_enough q0 start k right.some right.short cycles r below)) cs
