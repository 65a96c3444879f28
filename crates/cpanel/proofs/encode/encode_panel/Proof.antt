-- `encode_panel` is right because it lays the words of a progress and that of the bytes held.
use borrow.Author.Rules.{rules}
use Rattle.encoding.specs.laws.Number.{word_fits, through}
use Rattle.cpanel.specs.Words.{encode_panel}
use Rattle.cpanel.proofs.encode.encode_panel.Statement.{statement}
use Rattle.cpanel.proofs.encode.encode_panel.Tie as tie

encode_progress-requires : tie.Need-encode_progress-requires
encode_progress-requires c κs = search rules

word-requires : tie.Need-word-requires
word-requires c κs = search rules

with_held-requires : tie.Need-with_held-requires
with_held-requires c κs = search rules

returns : tie.Need-returns
unfolding encode_panel
returns c =
    simp (c.with_held.ensures, c.encode_progress.ensures, through (word_fits _) c.word.ensures)
    (search rules)

pub encode_panel_spec : {M : Type 1} → statement M
encode_panel_spec = tie.close (tie.spec encode_progress-requires word-requires with_held-requires returns)
