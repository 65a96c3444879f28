-- `take` is right because it does what the line asks: nothing, the load of its block, or the refusal.
use borrow.Author.Rules.{rules}
use mathlib.Core.Path.{refl, ◌∙◌}
use Rattle.cmachine.specs.laws.Texts.{line_nothing, line_refused}
use Rattle.cmachine.proofs.text.take.Statement.{statement}
use Rattle.cmachine.proofs.text.take.Tie as tie

enum_told-1 : tie.Need-enum_told-1
enum_told-1 c = search rules

enum_known-asks : tie.Need-enum_known-asks
enum_known-asks c = search rules

load-requires : tie.Need-load-requires
load-requires c κs = search rules

enum_known-asks-in-Refused-1 : tie.Need-enum_known-asks-in-Refused-1
enum_known-asks-in-Refused-1 c = search rules

returns-in-Nothing : tie.Need-returns-in-Nothing
returns-in-Nothing c =
    line_nothing c.args.words.now c.args.before c.requires.sound c.args.a c.in-Nothing.is

returns-in-Block : tie.Need-returns-in-Block
returns-in-Block c =
    let is = c.in-Block.is in
    (c.load.ensures.0 ∙ rw is refl, c.load.ensures.1 ∙ rw is refl)

returns-in-Refused : tie.Need-returns-in-Refused
returns-in-Refused c =
    line_refused c.args.words.now c.args.before c.requires.sound c.args.a c.in-Refused.is

pub take_spec : {M : Type 1} → statement M
take_spec = tie.close (tie.spec enum_told-1 enum_known-asks load-requires enum_known-asks-in-Refused-1 returns-in-Nothing returns-in-Block
    returns-in-Refused)
