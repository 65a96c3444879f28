-- A line's cycles have one due, and its point so many cycles on has a closed form.
use Rattle.std.proofs.Common.{arith}
use Rattle.line.specs.laws.Cycles.{cycles_bound}
use Rattle.line.specs.laws.Work.{drawn}
use Rattle.work.specs.laws.Rest.{line_on}
use Rattle.run.specs.laws.Cycles.{in_work_lem}
use Rattle.run.specs.laws.Skip.{line_on_asks, line_on_drawn, line_on_ran}
use Rattle.run.specs.laws.Widest.{sound_in}
use Rattle.run.proofs.in_work.LineInWork.on.Goals as goal

pub overflow_mul-line : goal.overflow_mul-line
overflow_mul-line c = let i = sound_in c.args.self.sound in omega (arith, i.capacity, (in_work_lem i).feed.most)

pub add_feeds-gone-requires : goal.add_feeds-gone-requires
add_feeds-gone-requires c = line_on_asks c.args.self.line (sound_in c.args.self.sound) c.args.ticks c.requires

pub overflow_add-on : goal.overflow_add-on
overflow_add-on c =
    let l = c.args.self.line in
    let on = line_on l c.add_feeds-gone.result.cycles in
    let w = drawn {l = on} (line_on_drawn l (sound_in c.args.self.sound) c.args.ticks c.requires c.add_feeds-gone.ensures) in
    omega (arith, w.due, w.own, cycles_bound l.start l.end w.short_x w.short_y)

pub point-requires : goal.point-requires
point-requires c = line_on_drawn c.args.self.line (sound_in c.args.self.sound) c.args.ticks c.requires c.add_feeds-gone.ensures

pub returns : goal.returns
returns c =
    rw c.point.ensures
    (line_on_ran c.args.self.line (sound_in c.args.self.sound) c.args.ticks c.requires c.add_feeds-gone.ensures)
