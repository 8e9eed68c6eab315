use Rattle.tap_defs.specs.board.BoardScans.{board_scans}
use Rattle.tap_defs.proofs.board.BoardTestLemmas.{scans_sized}
use Rattle.commands.proofs.board_test.test_means.Goals as goal

pub returns : goal.returns
returns c =
    λ scans. c.texts_mean.ensures (board_scans c.args.board.now scans)
    (scans_sized c.args.board.now c.raw-rules.ensures.rules scans)
