use Rattle.std.proofs.Common.{◌∙◌}
use Rattle.board_build.proofs.SeenLemmas.{guarded_seen}
use Rattle.board_build.proofs.rules.marked_guarded.Goals as goal

pub returns : goal.returns
returns c = c.guarded_driver.ensures ∙ guarded_seen c.args.board.now _ c.args.drivers.now (c.deref.ensures.value ∙ c.in_ok-kept.ensures)
