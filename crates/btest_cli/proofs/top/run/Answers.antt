use Rattle.std.proofs.Common.{◌∙◌, sym, subst, map, string_bytes, Option}
use Rattle.std.specs.Prelude.{IfSome}
use Rattle.bt_base.specs.Counts.{Rose}
use Rattle.command_line.specs.Words.{Command, command_of, names_in_command}
use Rattle.btest_cli.specs.Outcome.{IsComplete, SomeRose}
use Rattle.btest_cli.proofs.RunLemmas.{logs_say_one, logs_say_some, none_asked_for, one_outcome, some_outcome, run_complete, memory_for}
use Rattle.btest_cli.proofs.top.run.Goals as goal

pub returns-in-Ok-Some-clause-complete : goal.returns-in-Ok-Some-clause-complete
returns-in-Ok-Some-clause-complete g c =
    subst (λ (o : Option Command). IfSome o (λ command. IsComplete (g.S.Store.held c.args.store.now) command
    (SomeRose (g.S.Store.faults c.args.store.now) (g.S.Store.faults c.run_command.new.store)
    (names_in_command command))
    (Rose (g.K.Sink.shown c.args.out.now).faults (g.K.Sink.shown c.run_command.new.out).faults)
    c.run_command.result))
    (sym c.in-Ok-Some.field-0-is ∙ c.in-Ok-Some.ensures)
    (run_complete
    (one_outcome c.inputs_have_one_answer.ensures.device c.inputs_have_one_answer.ensures.chain
    c.inputs_have_one_answer.ensures.idents c.inputs_have_one_answer.ensures.board
    (logs_say_one c.inputs_have_one_answer.ensures.board c.inputs_keep_rules.ensures.board
    c.logs_have_one_diagnosis.ensures.one c.logs_have_one_set.ensures.one))
    (some_outcome c.inputs_have_one_answer.ensures.some_device
    c.inputs_have_one_answer.ensures.some_chain c.inputs_have_one_answer.ensures.some_idents
    c.inputs_have_one_answer.ensures.some_board
    (logs_say_some c.inputs_have_one_answer.ensures.some_board c.inputs_keep_rules.ensures.board
    c.logs_have_one_diagnosis.ensures.some c.logs_have_one_set.ensures.some))
    c.in-Ok-Some.command (g.S.Store.held c.args.store.now) _ _ _ _ _ _ _ _ c.run_command.result
    c.run_command.ensures)

pub returns-in-Err-clause-complete : goal.returns-in-Err-clause-complete
returns-in-Err-clause-complete g c =
    memory_for
    (some_outcome c.inputs_have_one_answer.ensures.some_device
    c.inputs_have_one_answer.ensures.some_chain c.inputs_have_one_answer.ensures.some_idents
    c.inputs_have_one_answer.ensures.some_board
    (logs_say_some c.inputs_have_one_answer.ensures.some_board c.inputs_keep_rules.ensures.board
    c.logs_have_one_diagnosis.ensures.some c.logs_have_one_set.ensures.some))
    (command_of (map string_bytes c.args.words.now)) (g.S.Store.held c.args.store.now)
    (g.S.Store.faults c.args.store.now) (g.S.Store.faults c.args.store.now)
    (Rose (g.K.Sink.shown c.args.out.now).faults (g.K.Sink.shown c.args.out.now).faults)

pub returns-in-Err-clause-memory_asks : goal.returns-in-Err-clause-memory_asks
returns-in-Err-clause-memory_asks g c =
    λ e. none_asked_for (command_of (map string_bytes c.args.words.now))
    (g.S.Store.asked c.args.store.now)
