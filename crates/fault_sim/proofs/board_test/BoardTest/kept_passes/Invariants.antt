use Rattle.std.proofs.Common.{◌≡◌, length}
use Rattle.fault_sim.specs.Kept.{KeepDrivers, KeepRows}
use Rattle.fault_sim.proofs.board_test.BoardTest.kept_passes.Given as goal

abbrev pub invariant-loop-x : goal.invariant-loop-x
invariant-loop-x l = record {
  count : length l.kept.items ≡ l.x;
  rows : KeepRows l.self.board l.self.plan l.kept.items;
  drivers : KeepDrivers l.self.plan l.kept.items;
}
