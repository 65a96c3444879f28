use Rattle.std.proofs.Common.{◌≡◌, true, take, drop}
use Rattle.plane.specs.Travel.{inside_of}
use Rattle.plane.specs.computed.Travel.{Wide}
use Rattle.queue.specs.computed.Test.{chain_holds}
use Rattle.queue.proofs.Queue.is_sound.Given as goal

-- what is left to test after some blocks is the same test, from the end of the last one and with their cycles taken off
abbrev pub invariant-loop-w : goal.invariant-loop-w
invariant-loop-w l = record {
  wide : Wide l.travel;
  inside : inside_of l.travel l.start ≡ true;
  same : chain_holds l.capacity l.travel l.fn.from l.cycles (take l.fn.self.len l.fn.self.blocks)
      ≡ chain_holds l.capacity l.travel l.start l.left (drop l.w-index (take l.fn.self.len l.fn.self.blocks));
}
