use Rattle.tap_defs.specs.board.BoardScans.{svf_row_scans}
use Rattle.tap_defs.specs.board.Explaining.{set_of}
use Rattle.commands.proofs.board_test.singles_respond.Goals as goal

pub returns : goal.returns
returns c =
    let board = c.args.board.now in
    let in_turn = c.scans_in_turn.ensures.own board c.raw-rules.ensures.rules in
    record {
      some = λ single is. c.one_log.ensures.single board single (svf_row_scans board) c.raw-rules.ensures.rules is in_turn;
      one =
          λ single log other first second. c.one_log.ensures.one board (set_of single)
          (svf_row_scans board) log other c.raw-rules.ensures.rules in_turn first second;
    }
