use Rattle.row.specs.laws.Puts.{puts_byte}
use Rattle.row.proofs.push.byte.Goals as goal

pub returns : goal.returns
returns c = puts_byte c.args.out.now c.args.at c.args.b c.requires
