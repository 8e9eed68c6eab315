use Rattle.std.proofs.Common.{take, Some}
use Rattle.fault_sim.specs.inner.NetRows.{rows_of_net}
use Rattle.fault_sim.specs.inner.Words.{AreShown}
use Rattle.fault_sim.proofs.net_rows.NetRows.shown_beside.Given as goal

abbrev pub invariant-loop-reader : goal.invariant-loop-reader
invariant-loop-reader l =
    AreShown (rows_of_net l.self.log l.self.first l.self.width (take l.reader-index l.self.readers))
    (Some l.driver) l.shown
