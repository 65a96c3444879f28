-- Each turn of the program's loop leaves fewer: a read brings bytes or the end of the text, and with either a call leaves fewer calls.
use Rattle.std.specs.Prelude.{◌≡◌, refl, Bool, true, false, cond, List, ℕ, zero, suc, ◌+◌, ◌-◌, ◌≤◌, ◌<◌, eqb, length, take, drop}
use Rattle.std.proofs.Common.{arith, length-take, length-drop, ne_eqb}
use Rattle.std.proofs.lemmas.Bool.{eqb-false}
use Rattle.row.specs.computed.Buffer.{line_room}
use Rattle.panel.specs.declared.PanelCheck.{PanelCheck}
use Rattle.panel.specs.declared.PieceRead.{PieceRead}
use Rattle.panel.specs.computed.Over.{is_over}
use Rattle.panelcheck.specs.computed.Rows.{used_up, turns_left, ReadsBehind}

-- what was read is not used up
read_new : (got : ℕ) → used_up 0 got (eqb got 0) ≡ false
read_new zero = refl
read_new (suc n) = rw (ne_eqb (suc n) 0 (λ e. absurd (omega (arith, e))), ne_eqb 0 (suc n) (λ e. absurd (omega (arith, e))))

pub turn_input : (c : PanelCheck) (from len got : ℕ) (last : Bool) → used_up from len last ≡ true
    → turns_left c 0 got (eqb got 0) < turns_left c from len last
turn_input c from len got last used = rw (used, read_new got) (omega arith)

-- a byte, or the end of the text
brings : (from len : ℕ) (last : Bool) → from ≤ len → used_up from len last ≡ false → (piece : List ℕ) → len ≤ length piece
    → length (take (len - from) (drop from piece)) ≡ 0 → last ≡ true
brings from len true inside left piece within none = refl
brings from len false inside left piece within none =
    absurd (eqb-false from len left
    (omega (arith, none, length-take (len - from) (drop from piece), length-drop from piece)))

one_more_lem : (used : Bool) → cond used 1 0 ≤ 1
one_more_lem true = omega arith
one_more_lem false = omega arith

pub turn_piece : (c : PanelCheck) (scratch piece : List ℕ) (rows : List ℕ) (from len : ℕ) (last : Bool) (waiting : ℕ) {f : PieceRead}
    → is_over c ≡ false → 81 ≡ length scratch → from ≤ len → len ≤ length piece → waiting + line_room ≤ length rows
    → used_up from len last ≡ false
    → ReadsBehind c scratch (take (len - from) (drop from piece)) last rows waiting f
    → (next : ℕ) → turns_left f.check next len last < turns_left c from len last
turn_piece c scratch piece rows from len last waiting {f} going wide inside within room left reads next =
    let less = reads.fewer (omega (arith, wide)) room going (brings from len last inside left piece within) in
    rw left (omega (arith, less, one_more_lem (used_up next len last)))
