use Rattle.std.proofs.Common.{List, ap, ◌∙◌}
use Rattle.board_defs.specs.declared.device.Cell.{Cell}
use Rattle.port_entries.specs.Entries.{entries_at}
use Rattle.port_entries.specs.inner.Rows.{entry_rows}
use Rattle.port_entries.proofs.EntryLemmas.{are_entries}
use Rattle.port_entries.proofs.table.port_entries.Goals as goal

pub returns : goal.returns
returns c at =
    ap (λ (rows : List (List (List Cell))). entries_at rows at)
    (c.in_ok-rows.ensures ∙ ap entry_rows c.as_slice.ensures)
    ∙ are_entries c.args.board.now c.requires at
