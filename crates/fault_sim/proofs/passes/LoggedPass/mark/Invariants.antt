use Rattle.std.proofs.Common.{◌≡◌, length}
use Rattle.fault_sim.specs.inner.Marks.{HasScanRoom, MarkRows}
use Rattle.fault_sim.proofs.passes.LoggedPass.mark.Given as goal

abbrev pub invariant-loop-j : goal.invariant-loop-j
invariant-loop-j l = record {
  long : length l.marks ≡ length l.fn.marks;
  room : HasScanRoom l.self.logged.test.board l.spare;
  marks : MarkRows l.self.logged.test.board l.self.logged.test.plan l.self.logged.log l.self.number l.j l.fn.marks l.marks;
}
