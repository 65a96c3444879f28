-- Every call leaves a sound record sound, and of a sound one the figure is right.
use Rattle.std.specs.Prelude.{◌≡◌, true}
use Rattle.std.proofs.Common.{sym}
use Rattle.machine.specs.declared.Machine.{Machine}
use Rattle.machine.specs.computed.Machine.{sound_of}
use Rattle.machine.specs.laws.Right.{sound}
use Rattle.machine.specs.laws.Keeps.{load_keeps}
use Rattle.textline.specs.laws.TextLine.{read_either}
use Rattle.look.specs.laws.Ahead.{unchanged, then_sound}
use Rattle.history.specs.Figure.{FigureRight, EveryFigure}
use Rattle.history.proofs.laws.Claim.{stays_sound}

of_sound : (m : Machine) → sound_of m ≡ true → FigureRight m
of_sound m e = record { afresh = (sound m e).right.left_is; sound = sym e }

pub every_figure : EveryFigure
every_figure =
    record {
      calls = λ m p cs rs m' h. of_sound m' (stays_sound h (sym p));
      line = λ κs k m bytes r h p.
          let e = sym p in
          of_sound r.machine (rw h (read_either (λ n. sound_of n ≡ true) k m bytes.now e (λ b. load_keeps m e b)));
      look = λ m n r h p.
          let e = sym p in
          (of_sound r.then (rw h (then_sound m n e)), of_sound r.machine (rw (h, unchanged m n) e));
    }
