-- `pop` is right because the places move up by one, and the last one becomes blank.
use Rattle.std.proofs.Common.{rules, ◌≡◌, length}
use Rattle.queue.specs.laws.Places.{unmap, moved_up}
use Rattle.queue.proofs.Queue.pop.Goals as goal

pub returns : goal.returns
returns c =
    let places : length c.args.self.blocks ≡ 16 = search (unmap, rules) in
    moved_up c.args.self _ _ places c.copy_within.ensures.after c.blank.ensures
