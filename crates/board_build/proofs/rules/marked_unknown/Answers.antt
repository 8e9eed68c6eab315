use Rattle.std.proofs.Common.{◌∙◌}
use Rattle.board_build.proofs.SeenLemmas.{unknown_seen}
use Rattle.board_build.proofs.rules.marked_unknown.Goals as goal

pub returns : goal.returns
returns c = c.unknown_pin.ensures ∙ unknown_seen c.args.words.now
