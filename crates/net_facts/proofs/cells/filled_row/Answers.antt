use Rattle.std.proofs.Common.{◌∙◌}
use Rattle.net_facts.proofs.Lists.{resized_each}
use Rattle.net_facts.proofs.cells.filled_row.Goals as goal

pub returns : goal.returns
returns g c =
    c.in_ok-resize.ensures.items
    ∙ resized_each c.args.item c.args.row.now c.new-items.result.items _ c.new-items.ensures.items
    c.new-items.ensures.len
