use Rattle.std.proofs.Common.{rules}
use Rattle.diagnoser.specs.DiagText.{fault_line}
use Rattle.line_printer.proofs.PutLemmas.{next_ok, next_err, all_put}
use Rattle.diagnoser.proofs.listing.put_faults.Goals as goal

pub returns-in_err-put_fault : goal.returns-in_err-put_fault
returns-in_err-put_fault g c =
    next_err (fault_line c.args.board.now) c.args.faults.now c.loop-fault.fault-index _
    (search rules) c.loop-fault-test.true c.loop-fault.invariant c.put_fault.ensures
    c.in_err-put_fault.was c.from_residual.ensures.0

pub loop-fault-preserved : goal.loop-fault-preserved
loop-fault-preserved g c =
    next_ok (fault_line c.args.board.now) c.args.faults.now c.loop-fault.fault-index _
    (search rules) c.loop-fault-test.true c.loop-fault.invariant c.put_fault.ensures
    c.in_ok-put_fault.was

pub returns : goal.returns
returns g c =
    all_put (fault_line c.args.board.now) c.args.faults.now c.loop-fault.fault-index
    c.loop-fault-test.false c.loop-fault.invariant
