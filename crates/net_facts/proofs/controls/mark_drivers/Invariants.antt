use Rattle.std.proofs.Common.{◌≡◌, take, fold}
use Rattle.net_facts.specs.Cells.{table}
use Rattle.net_facts.specs.inner.Rows.{mark_drive}
use Rattle.net_facts.proofs.controls.mark_drivers.Given as goal

abbrev pub invariant-loop-drive : goal.invariant-loop-drive
invariant-loop-drive l = table l.rows ≡ fold mark_drive (table l.initial.rows) (take l.drive-index l.drivers)
