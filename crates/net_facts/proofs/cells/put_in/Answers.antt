use Rattle.std.proofs.Common.{arith, refl, sym}
use Rattle.net_facts.specs.Cells.{put}
use Rattle.net_facts.proofs.RowLemmas.{set_value, update_past}
use Rattle.net_facts.proofs.cells.put_in.Goals as goal

pub returns-then-cell-len : goal.returns-then-cell-len
returns-then-cell-len g c = set_value c.args.cell (put c.args.item) c.args.row.now.items c.args.item c.args.item (omega arith) refl

pub returns-else-cell-len : goal.returns-else-cell-len
returns-else-cell-len g c = sym (update_past c.args.cell (put c.args.item) c.args.row.now.items (omega arith))
