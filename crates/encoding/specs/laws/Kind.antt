-- What is in work by its kind: an arc where a way round has it, else nothing.
use Rattle.std.specs.Prelude.{◌≡◌, Bool, true, false, cond, Result, Ok, Err}
use Rattle.std.proofs.Common.{refl}
use Rattle.circle.specs.declared.plane.Turn.{Turn}
use Rattle.circle.specs.declared.plane.UnknownTurn.{UnknownTurn}
use Rattle.work.specs.declared.Work.{Work}
use Rattle.encoding.specs.declared.encode.WorkWords.{WorkWords}
use Rattle.encoding.specs.computed.Words.{arc_read}

module _ (w : WorkWords) where
  abbrev read : (cw ccw : Bool) → Work
  read cw ccw = cond cw (Work.Arc (arc_read Turn.Clockwise w)) (cond ccw (Work.Arc (arc_read Turn.Counterclockwise w)) Work.Nothing)

  abbrev turned : (cw ccw : Bool) → UnknownTurn → Result Turn UnknownTurn
  turned cw ccw other = cond cw (Ok Turn.Clockwise) (cond ccw (Ok Turn.Counterclockwise) (Err other))

  pub arc_told : (cw ccw : Bool) (other : UnknownTurn) {turn : Turn} → Ok turn ≡ turned cw ccw other
      → Work.Arc (arc_read turn w) ≡ read cw ccw
  arc_told true ccw other e = cc
  arc_told false true other e = cc
  arc_told false false other e = absurd cc

  pub nothing_told : (cw ccw : Bool) (other : UnknownTurn) {error : UnknownTurn} → Err error ≡ turned cw ccw other
      → Work.Nothing ≡ read cw ccw
  nothing_told true ccw other e = absurd cc
  nothing_told false true other e = absurd cc
  nothing_told false false other e = refl
