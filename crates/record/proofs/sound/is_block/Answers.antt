-- `is_block` is right because it asks both counts and what its kind gives.
use Rattle.std.proofs.Common.{rules, ◌≡◌, ◌∙◌}
use Rattle.record.specs.computed.Right.{block_right}
use Rattle.record.specs.laws.Right.{block_same}
use Rattle.record.proofs.sound.is_block.Goals as goal

pub returns-then-is_count-2 : goal.returns-then-is_count-2
unfolding block_right
returns-then-is_count-2 c =
    let e : c.is_kind.result ≡ block_right c.args.b = search rules in
    e ∙ block_same c.args.b (record { feed = search rules; root = search rules })

pub returns-else-is_count-2 : goal.returns-else-is_count-2
unfolding block_right
returns-else-is_count-2 c =
    let e : c.if-is_count.value ≡ block_right c.args.b = search rules in
    e ∙ block_same c.args.b (record { feed = search rules; root = search rules })
