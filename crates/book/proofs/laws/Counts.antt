-- The cycles of every account of an arc, and the points that they visit, are those of the paper's walk to its end.
use Rattle.std.proofs.Common.{sym, subst}
use Rattle.std.specs.Prelude.{List, ℕ}
use Rattle.plane.specs.declared.point.Point.{Point}
use Rattle.plane.specs.declared.travel.Travel.{Travel}
use Rattle.circle.specs.declared.plane.Offset.{Offset}
use Rattle.circle.specs.declared.plane.Turn.{Turn}
use Rattle.circle.specs.Circle.{Circle}
use Rattle.circle.specs.Next.{Walk}
use Rattle.circle.proofs.laws.Circle.{on_circle_to}
use Rattle.circle.proofs.laws.Walk.{walk_of, ends}
use Rattle.arc.specs.Centre.{seen_from, back_from}
use Rattle.arc.specs.computed.Arc.{arc_cycles}
use Rattle.arc.specs.laws.Step.{seen_after}
use Rattle.block.specs.declared.Block.{Block}
use Rattle.block.specs.declared.Path.{Path}
use Rattle.block.specs.Block.{square_of, arc_of}
use Rattle.book.specs.Book.{Call}
use Rattle.book.specs.Ledger.{accounts, Every, CountedAlong, Counted}
use Rattle.book.proofs.laws.Settings.{SettingsRight}
use Rattle.book.proofs.laws.Way.{PathRight}
use Rattle.book.proofs.laws.Accounts.{accounts_hold}

-- an arc between circle points
pub counted_arc : (start : Point) (b : Block) (turn : Turn) (centre : Offset)
    → (let o = back_from start centre in
    Circle (square_of centre) (seen_from o start) → Circle (square_of centre) (seen_from o b.end)
    → CountedAlong start b (Path.Arc turn centre))
unfolding arc_of arc_cycles
counted_arc start b turn centre here there =
    let a = arc_of start b turn centre in
    let p = seen_from a.centre start in
    record {
      ends = ends turn (seen_from a.centre b.end) there p here;
      walk = λ c. subst (Walk a.square turn p c) (sym (seen_after a start c)) (walk_of turn p c here);
    }

-- an accepted block
pub counted_along : (t : Travel) (start : Point) (b : Block) (p : Path) → PathRight t start b p → CountedAlong start b p
unfolding arc_of
counted_along t start b Path.Line r = tt
counted_along t start b (Path.Arc turn centre) r =
    counted_arc start b turn centre (on_circle_to _ _ r.at.on).circle (on_circle_to _ _ r.at.end_on).circle

pub accounts_counted : (q0 : ℕ) (t : Travel) → SettingsRight q0 t → (cs : List Call) → Every Counted (accounts q0 t cs)
accounts_counted q0 t settings cs =
    accounts_hold (λ k start r. CountedAlong start k k.path) q0 t settings
    (λ start r k here below asked right. counted_along t start k k.path right.path) cs
