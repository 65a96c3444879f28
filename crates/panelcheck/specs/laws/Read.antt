-- A call whose row goes behind those that wait.
use Rattle.std.specs.Prelude.{◌≡◌, Bool, List, ℕ, ◌+◌, ◌-◌, ◌≤◌, length}
use Rattle.std.proofs.Common.{arith, le-leb}
use Rattle.row.specs.computed.Buffer.{line_room}
use Rattle.panel.specs.declared.PanelCheck.{PanelCheck}
use Rattle.panel.specs.declared.PieceRead.{PieceRead}
use Rattle.panel.specs.computed.Piece.{ReadsPiece}
use Rattle.panel.specs.laws.Pieces.{reads_on, reads_less}
use Rattle.panelcheck.specs.computed.Rows.{ReadsBehind}

pub reads_behind : (c : PanelCheck) (scratch piece : List ℕ) (last : Bool) (rows : List ℕ) (waiting : ℕ) → waiting ≤ length rows
    → (old : List ℕ) → length old ≡ length rows - waiting → {f : PieceRead} {free new : List ℕ}
    → ReadsPiece c scratch piece last old f free new
    → ReadsBehind c scratch piece last rows waiting f
reads_behind c scratch piece last rows waiting inside old size reads =
    let on = reads_on c scratch piece last old reads in
    record {
      took = on.took;
      wrote = omega (arith, on.wrote);
      fewer = λ wide room. reads_less c scratch piece last old reads wide (le-leb (0 + line_room) (length old) (omega arith));
    }
