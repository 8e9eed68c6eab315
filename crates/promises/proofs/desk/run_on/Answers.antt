use Rattle.btest_cli.proofs.RunLemmas.{logs_say_one, logs_say_some, one_outcome, some_outcome}
use Rattle.promises.proofs.desk.run_on.Goals as goal

pub returns-clause-one : goal.returns-clause-one
returns-clause-one g c =
    let one = c.inputs_have_one_answer.ensures in
    let rules = c.inputs_keep_rules.ensures.board in
    record {
      device = one.device;
      chain = one.chain;
      idents = one.idents;
      board = one.board;
      outcome =
          one_outcome one.device one.chain one.idents one.board
          (logs_say_one one.board rules c.logs_have_one_diagnosis.ensures.one
          c.logs_have_one_set.ensures.one);
      some_outcome =
          some_outcome one.some_device one.some_chain one.some_idents one.some_board
          (logs_say_some one.some_board rules c.logs_have_one_diagnosis.ensures.some
          c.logs_have_one_set.ensures.some);
    }
