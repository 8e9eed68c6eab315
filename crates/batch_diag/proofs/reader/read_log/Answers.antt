use Rattle.batch_diag.proofs.FaultLemmas.{log_at_place, fault_at_place, fault_up_to}
use Rattle.batch_diag.proofs.reader.read_log.Goals as goal

pub inner-requires-clause-last : goal.inner-requires-clause-last
inner-requires-clause-last c = fault_up_to c.args.unread.own.now c.args.rows c.args.len c.in-Err.fault c.in-Err.ensures.read

pub returns-in-Ok-clause-log : goal.returns-in-Ok-clause-log
returns-in-Ok-clause-log c =
    log_at_place c.args.unread.own.now c.args.unread.line c.args.rows c.args.len c.args.board
    c.in-Ok.log c.in-Ok.ensures.read

pub returns-in-Err-clause-log : goal.returns-in-Err-clause-log
returns-in-Err-clause-log c =
    rw c.inner.ensures.fault
    (fault_at_place c.args.unread.own.now c.args.unread.line c.args.rows c.args.len c.args.board c.in-Err.fault
    c.in-Err.ensures.read)
