-- The kinds of path that are ways round, as crates above number them: 2 is clockwise, 3 counterclockwise.
use Rattle.std.specs.Prelude.{◌≡◌, cond, ℕ, eqb, Result, Ok, Err}
use Rattle.circle.specs.declared.plane.Turn.{Turn}
use Rattle.circle.specs.declared.plane.Turn.TheVariants.{Clockwise, Counterclockwise}
use Rattle.circle.specs.declared.plane.UnknownTurn.{UnknownTurn}

abbrev pub kind_of : Turn → ℕ
kind_of Clockwise = 2
kind_of Counterclockwise = 3

-- the way round of a kind, and the kind itself where it is none
abbrev pub turn_of_kind : ℕ → Result Turn UnknownTurn
turn_of_kind kind = cond (eqb kind 2) (Ok Clockwise) (cond (eqb kind 3) (Ok Counterclockwise) (Err (record { 0 = kind })))

abbrev pub TurnOfKind : ℕ → Result Turn UnknownTurn → Type 0
TurnOfKind kind r = r ≡ turn_of_kind kind
