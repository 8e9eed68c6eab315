use Rattle.std.proofs.Common.{ap, sym}
use Rattle.board_build.specs.BoardRules.{board_of}
use Rattle.series_parts.specs.Joining.{joined_files}
use Rattle.btest_core.specs.Answers.{Is}
use Rattle.btest_core.specs.InputFaults.{in_board, in_link}
use Rattle.btest_core.proofs.AnswerLemmas.{goes_on}
use Rattle.btest_core.proofs.board.unlinked_board.Goals as goal

pub returns : goal.returns
returns c =
    let chain = c.args.chain.now in
    let nets = c.args.nets.now in
    goes_on (λ board. board) (Is (in_link (joined_files chain nets)))
    (λ joined. Is (in_board (board_of joined.chain joined.nets c.args.devices.items)))
    (record { chain = chain; nets = nets })
    c.board_of.result
    (sym (ap in_link (c.unlinked_files.ensures chain nets c.requires.unlinked)))
    c.board_of.ensures
