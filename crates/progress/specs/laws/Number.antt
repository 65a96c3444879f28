-- Words in ranges; a stage, a motion and a feed as words: each is one of 64 bits, and what the code's tests give.
use Rattle.std.specs.Prelude.{◌≡◌, refl, true, false, cond, ℕ, ◌/◌, ◌%◌, ◌^◌, ltb, ℤ, pos, negsuc, Option, Some, None}
use Rattle.std.proofs.Common.{sym, ap, ◌∙◌, true≢false, SFits}
use Rattle.std.specs.Int.{w64}
use Rattle.std.proofs.Math.Facts.{sfits_lit}
use Rattle.whole.specs.declared.sign.SignMagnitude.{SignMagnitude}
use Rattle.whole.specs.computed.Sign.{part_of}
use Rattle.whole.specs.laws.Order.{◌≼◌, le_z_true, ≼_le_z}
use Rattle.whole.specs.laws.Test.{both, joined}
use Rattle.plane.specs.declared.travel.Range.{Range}
use Rattle.plane.specs.Travel.{within_of}
use Rattle.reader.specs.declared.Motion.{Motion}
use Rattle.reader.specs.declared.Feed.{Feed}
use Rattle.reader.specs.Reader.{feed_of}
use Rattle.job.specs.declared.Stage.{Stage}
use Rattle.encoding.specs.laws.Number.{turn_fits}
use Rattle.progress.specs.Known.{motion_word, feed_read}
use Rattle.progress.specs.Progress.{stage_word}

-- ---- ranges

pub range_to : (r : Range) (z : ℤ) → within_of r z ≡ true → (r.lower ≼ z) × (z ≼ r.upper)
unfolding within_of
range_to r z t = let b = both t in (le_z_true r.lower z b.0, le_z_true z r.upper b.1)

pub range_of : (r : Range) (z : ℤ) → r.lower ≼ z → z ≼ r.upper → within_of r z ≡ true
unfolding within_of
range_of r z low high = joined (≼_le_z r.lower z low) (≼_le_z z r.upper high)

-- ---- words

pub stage_fits : (s : Stage) → SFits w64 (stage_word s)
stage_fits Stage.Header = sfits_lit tt
stage_fits Stage.Lines = sfits_lit tt
stage_fits Stage.Over = sfits_lit tt

pub motion_fits : (m : Option Motion) → SFits w64 (motion_word m)
motion_fits None = sfits_lit tt
motion_fits (Some Motion.Line) = sfits_lit tt
motion_fits (Some (Motion.Arc turn)) = turn_fits turn

pub feed_none : (z : ℤ) {p : SignMagnitude} → p ≡ part_of z → p.negative ≡ true → None ≡ feed_read z
feed_none (pos n) e t = absurd (true≢false (sym t ∙ ap (λ (p : SignMagnitude). p.negative) e))
feed_none (negsuc n) e t = refl

-- a feed of so many thousandths
abbrev pub feed_in : (f : ℕ) → Option Feed
feed_in f = feed_of (f / 1000) (f % 1000)

pub feed_some : (z : ℤ) {p : SignMagnitude} → p ≡ part_of z → p.negative ≡ false
    → cond (ltb p.magnitude (10 ^ 10)) (feed_in p.magnitude) None ≡ feed_read z
feed_some (pos n) e t = ap (λ (p : SignMagnitude). cond (ltb p.magnitude (10 ^ 10)) (feed_in p.magnitude) None) e
feed_some (negsuc n) e t = absurd (true≢false (sym (ap (λ (p : SignMagnitude). p.negative) e) ∙ t))
