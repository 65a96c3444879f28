-- `step` is right because each stage hands out its own next row.
use Rattle.job.specs.laws.Step.{step_header}
use Rattle.job.proofs.Check.step.Goals as goal

pub returns-in-Header : goal.returns-in-Header
returns-in-Header c =
    let s = c.args in
    let w = c.header-header.ensures in
    rw c.unwrap_or.ensures
    (step_header s.self s.text.now s.out.now s.place c.in-Header.is
    (record { room = c.requires.1; buffer = w.buffer; place = w.place }))
