-- Its test is the definition's, and the pulses of ticks lead from the point to the point ahead.
use Rattle.std.proofs.Common.{sym, ◌∙◌}
use Rattle.look.specs.computed.Look.{ticking_of}
use Rattle.look.specs.laws.Sums.{ticking_leads, leads_way}
use Rattle.look.specs.laws.Ticks.{ticking_sound}
use Rattle.look.specs.laws.Ahead.{looks, too_far, sound_near}
use Rattle.look.proofs.look_sound.Goals as goal

pub returns-then-ticks-gt-MOST_TICKS : goal.returns-then-ticks-gt-MOST_TICKS
returns-then-ticks-gt-MOST_TICKS c =
    c.refused.ensures ∙ sym (too_far c.args.m c.args.ticks c.requires c.if-ticks-gt-MOST_TICKS.true)

pub way-requires : goal.way-requires
way-requires c =
    let there = sound_near (ticking_of c.args.ticks c.args.m).machine (ticking_sound c.args.ticks c.args.m c.requires) in
    (sound_near c.args.m c.requires, rw c.after_ticks-then.ensures there)

pub returns : goal.returns
returns c =
    let is = looks c.args.m c.args.ticks c.requires c.if-ticks-gt-MOST_TICKS.false in
    rw (c.way.ensures, c.after_ticks-then.ensures, is, leads_way (ticking_leads c.args.ticks c.args.m c.requires))
