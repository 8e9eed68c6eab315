use Rattle.std.proofs.Common.{◌∙◌}
use Rattle.std.proofs.lemmas.Bool.{both_ways}
use Rattle.board_defs.specs.Settings.{holds}
use Rattle.board_defs.specs.Passes.{useful_controls}
use Rattle.driver_passes.proofs.drivers.Progress.holds.Goals as goal

pub returns-in-Some : goal.returns-in-Some
returns-in-Some c = c.has.ensures ∙ c.requires.progress.held.held_are c.in-Some.place c.args.c c.in-Some.ensures

pub returns-in-None : goal.returns-in-None
returns-in-None c = absurd (both_ways (holds (useful_controls c.args.board.now) c.args.c) c.in-None.ensures c.requires.useful)
