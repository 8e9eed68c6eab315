use Rattle.std.proofs.Common.{◌≡◌, length}
use Rattle.bt_bits.specs.Hex.{digit_count}
use Rattle.board_defs.specs.Pins.{data_bits}
use Rattle.fault_sim.specs.inner.Marks.{AreMarks, HasScanRoom}
use Rattle.fault_sim.proofs.board_test.LoggedTest.marks.Given as goal

abbrev pub invariant-loop-x : goal.invariant-loop-x
invariant-loop-x l = record {
  long : length l.marks.items ≡ digit_count (data_bits l.self.test.board);
  room : HasScanRoom l.self.test.board l.spare;
  marks : AreMarks l.self.test.board l.self.test.plan l.self.log l.x l.marks.items;
}
