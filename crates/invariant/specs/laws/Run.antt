-- The ticks of a run leave what is in work sound.
use Rattle.std.specs.Prelude.{Bool}
use Rattle.std.proofs.Math.Bool.{true, false}
use Prim.Native.Nat.{ℕ, zero, suc}
use Rattle.plane.specs.declared.point.Point.{Point}
use Rattle.plane.specs.declared.travel.Travel.{Travel}
use Rattle.work.specs.declared.Work.{Work}
use Rattle.work.specs.Work.{is_nothing}
use Rattle.work.specs.computed.Work.{advance_of}
use Rattle.work.specs.laws.Keep.{SoundAt, keeps_sound}
use Rattle.run.specs.computed.Run.{Strip, in_front, strip_of}

module _ (q0 : ℕ) (t : Travel) where
  abbrev Left : Strip → Type 0
  Left s = SoundAt q0 t s.at s.remainder s.work

  pub strip_keeps : (n : ℕ) (at : Point) (r : ℕ) (w : Work) → SoundAt q0 t at r w → Left (strip_of q0 n at r w)
  unfolding strip_of
  strip_keeps zero at r w i = i
  strip_keeps (suc n) at r w i =
      let a = advance_of q0 at r w in
      by (is_nothing a.work) (strip_of q0 n a.at a.remainder a.work)
      (strip_keeps n a.at a.remainder a.work (keeps_sound q0 t w i))
    where
      by : (ended : Bool) (s : Strip) → Left s → Left (in_front ended (advance_of q0 at r w) s)
      by true s k = keeps_sound q0 t w i
      by false s k = k
