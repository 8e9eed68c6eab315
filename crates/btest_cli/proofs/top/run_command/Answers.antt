use Rattle.std.proofs.Common.{subst}
use Rattle.bt_base.specs.Puts.{Puts}
use Rattle.refusal_lines.specs.Refusals.{Names}
use Rattle.btest_cli.specs.Refusals.{roles_of}
use Rattle.btest_cli.specs.inner.Failures.{unput_line}
use Rattle.btest_cli.proofs.RunLemmas.{run_put, run_unput, run_unread, took_or_cut, was_read}
use Rattle.btest_cli.proofs.top.run_command.Goals as goal

pub returns-in-Err : goal.returns-in-Err
returns-in-Err g c =
    rw c.unread_status.ensures
    (run_unread c.args.command.now (g.S.Store.held c.args.store.now)
    (g.S.Store.faults c.args.store.now) (g.S.Store.faults c.read_request.new.store)
    (g.S.Store.asked c.args.store.now) (g.S.Store.asked c.read_request.new.store)
    c.in-Err.failure (g.K.Sink.shown c.args.out.now) (g.N.Sink.shown c.args.notes.now)
    (g.N.Sink.shown c.put_unread.new.notes) c.in-Err.ensures.told
    (took_or_cut c.put_unread.result c.put_unread.ensures))

pub returns-in-Ok-answer : goal.returns-in-Ok-answer
returns-in-Ok-answer g c =
    let command = c.args.command.now in
    run_put command (g.S.Store.held c.args.store.now) (g.S.Store.faults c.args.store.now)
    (g.S.Store.faults c.read_request.new.store) (g.S.Store.asked c.args.store.now)
    (g.S.Store.asked c.read_request.new.store) c.in-Ok.request (g.K.Sink.shown c.args.out.now)
    (g.K.Sink.shown c.answer.new.out) (g.N.Sink.shown c.args.notes.now)
    (was_read command c.in-Ok.ensures) (c.in-Ok-answer.ensures (roles_of command))

pub returns-in-Err-answer : goal.returns-in-Err-answer
returns-in-Err-answer g c =
    let command = c.args.command.now in
    let put = subst
    (λ (names : Names). Puts (g.N.Sink.shown c.args.notes.now)
    (g.N.Sink.shown c.put_unput.new.notes) (unput_line names c.in-Err-answer.failure)
    c.put_unput.result) c.roles_of.ensures c.put_unput.ensures in
    rw c.unput_status.ensures
    (run_unput command (g.S.Store.held c.args.store.now) (g.S.Store.faults c.args.store.now)
    (g.S.Store.faults c.read_request.new.store) (g.S.Store.asked c.args.store.now)
    (g.S.Store.asked c.read_request.new.store) c.in-Ok.request c.in-Err-answer.failure
    (g.K.Sink.shown c.args.out.now) (g.K.Sink.shown c.answer.new.out)
    (g.N.Sink.shown c.args.notes.now) (g.N.Sink.shown c.put_unput.new.notes)
    (was_read command c.in-Ok.ensures) (c.in-Err-answer.ensures (roles_of command))
    (took_or_cut c.put_unput.result put))
