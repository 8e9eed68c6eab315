use Rattle.std.proofs.Common.{◌≡◌, take}
use Rattle.fault_sim.specs.inner.Tested.{marked_readers}
use Rattle.fault_sim.proofs.tested.mark_readers.Given as goal

abbrev pub invariant-loop-reader : goal.invariant-loop-reader
invariant-loop-reader l = l.flags ≡ marked_readers l.fn.flags (take l.reader-index l.readers)
