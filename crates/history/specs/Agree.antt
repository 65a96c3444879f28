-- The work that a book tells: what a machine has in work where the book has this. The whole record is `record_of` in `laws/Record.antt`.
use Rattle.line.specs.Line.{line_cycles}
use Rattle.block.specs.declared.Path.{Path}
use Rattle.block.specs.Block.{arc_of}
use Rattle.work.specs.declared.Work.{Work}
use Rattle.book.specs.Bench.{BlockInWork, InWork}

-- a line keeps its cycles done; an arc keeps none, and goes on from the point
abbrev pub work_along : BlockInWork → Path → Work
work_along j Path.Line =
    Work.Line (record {
      start = j.start;
      end = j.block.end;
      feed = j.block.feed;
      cycles = line_cycles j.start j.block.end;
      done = j.done;
    })
work_along j (Path.Arc turn centre) = Work.Arc (arc_of j.start j.block turn centre)

abbrev pub work_of : InWork → Work
work_of InWork.nothing = Work.Nothing
work_of (InWork.working j) = work_along j j.block.path
