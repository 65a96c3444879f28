-- A number from 10 ^ k on and below 10 ^ (k + 1) has k + 1 digits.
use Rattle.std.proofs.Common.{sym, arith}
use Rattle.row.specs.laws.Decimal.{length_small, length_large, digits_between, digits_after, digits_most}
use Rattle.row.proofs.push.width.Goals as goal

pub returns-then-n-lt10 : goal.returns-then-n-lt10
returns-then-n-lt10 c = sym (length_small c.args.n (omega arith))

pub returns-then-n-lt100 : goal.returns-then-n-lt100
returns-then-n-lt100 c = sym (digits_between 1 c.args.n (omega arith) (omega arith))

pub returns-then-n-lt1000 : goal.returns-then-n-lt1000
returns-then-n-lt1000 c = sym (digits_between 2 c.args.n (omega arith) (omega arith))

pub returns-then-n-lt10000 : goal.returns-then-n-lt10000
returns-then-n-lt10000 c = sym (digits_between 3 c.args.n (omega arith) (omega arith))

pub loop-m-init : goal.loop-m-init
loop-m-init c = omega (arith, digits_after 4 c.args.n (omega arith))

pub overflow_add-w : goal.overflow_add-w
overflow_add-w c = omega (arith, digits_most c.args.n c.ranges.n)

pub loop-m-preserved : goal.loop-m-preserved
loop-m-preserved c = omega (arith, length_large c.loop-m.m (omega arith))

pub returns : goal.returns
returns c = omega (arith, length_small c.loop-m.m (omega arith))
