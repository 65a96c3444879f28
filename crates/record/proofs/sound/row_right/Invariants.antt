use Rattle.std.proofs.Common.{◌≡◌, true, ◌-◌}
use Rattle.plane.specs.Travel.{inside_of}
use Rattle.plane.specs.computed.Travel.{Wide}
use Rattle.record.specs.computed.Right.{row_right}
use Rattle.record.proofs.sound.row_right.Given as goal

-- what is left to test after some blocks is the same test, from the end of the last one and with their cycles taken off
abbrev pub invariant-loop-place : goal.invariant-loop-place
invariant-loop-place l = record {
  wide : Wide l.travel;
  inside : inside_of l.travel l.start ≡ true;
  same : row_right l.capacity l.travel l.words l.fn.from l.fn.cycles 0 (l.fn.len - 0)
      ≡ row_right l.capacity l.travel l.words l.start l.left l.place (l.fn.len - l.place);
}
