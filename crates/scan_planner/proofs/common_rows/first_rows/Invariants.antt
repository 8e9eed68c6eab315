use Rattle.std.proofs.Common.{◌≡◌, length}
use Rattle.scan_planner.specs.PassRows.{AreFirstRows}
use Rattle.scan_planner.proofs.common_rows.first_rows.Given as goal

abbrev pub invariant-loop-number : goal.invariant-loop-number
invariant-loop-number l = record {
  count : length l.rows.items ≡ l.number;
  rows : AreFirstRows l.stack l.rows.items;
}
