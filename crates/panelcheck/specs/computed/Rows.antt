-- What the program's loop needs of a call and of a write: they stay within the buffers, and calls come to an end.
use Rattle.std.specs.Prelude.{◌≡◌, Bool, true, false, cond, List, ℕ, ◌+◌, ◌*◌, ◌≤◌, ◌<◌, eqb, length, IfOk}
use Rattle.std.specs.declared.result.Result.{Result}
use Rattle.row.specs.computed.Buffer.{line_room}
use Rattle.panel.specs.declared.PanelCheck.{PanelCheck}
use Rattle.panel.specs.declared.PieceRead.{PieceRead}
use Rattle.panel.specs.computed.Over.{is_over}
use Rattle.panel.specs.computed.Piece.{scratch_bytes}
use Rattle.panel.specs.computed.Rest.{calls_left}

-- of a piece bytes from .. len are left, and more of the text may come
abbrev pub used_up : (from len : ℕ) (last : Bool) → Bool
used_up from len last = cond last false (eqb from len)

-- turns that are left: calls, each after a read at most
abbrev pub turns_left : PanelCheck → (from len : ℕ) (last : Bool) → ℕ
turns_left c from len last = 2 * calls_left c + cond (used_up from len last) 1 0

-- a row behind those that wait
pub record ReadsBehind (c : PanelCheck) (scratch piece : List ℕ) (last : Bool) (rows : List ℕ) (waiting : ℕ) (f : PieceRead) : Type 0 where
  pub took : f.took ≤ length piece
  pub wrote : waiting + f.wrote ≤ length rows
  pub fewer : scratch_bytes ≤ length scratch → waiting + line_room ≤ length rows → is_over c ≡ false → (length piece ≡ 0 → last ≡ true)
      → calls_left f.check < calls_left c

-- where the buffer holds a row, it has room for one
abbrev pub RoomLeft : {E : Type 0} → Result ℕ E → (size : ℕ) → Type 0
RoomLeft r size = IfOk r (λ waiting. line_room ≤ size → waiting + line_room ≤ size)
