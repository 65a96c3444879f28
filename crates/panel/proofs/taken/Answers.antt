-- `taken` is right because what the text may have of a piece is its front.
use Rattle.std.proofs.Common.{ℕ, List, ap, arith, ◌≡◌, ◌∙◌, length, take}
use Rattle.words.specs.computed.Scan.{first_line}
use Rattle.panel.specs.laws.First.{take_min}
use Rattle.panel.proofs.taken.Goals as goal

pub returns : goal.returns
returns c =
    let s = c.args in
    let front = ap (λ (n : ℕ). take n s.piece.now) c.min-most.ensures ∙ take_min s.left s.piece.now in
    let end : c.end_of_line.result ≡ length (first_line (take c.min-most.result s.piece.now)) =
    omega (arith, c.end_of_line.ensures) in
    end ∙ ap (λ (l : List ℕ). length (first_line l)) front
