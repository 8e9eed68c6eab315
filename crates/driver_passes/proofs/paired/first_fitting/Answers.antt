use Rattle.driver_passes.proofs.ProgressLemmas.{useful_by_cell}
use Rattle.driver_passes.proofs.paired.first_fitting.Goals as goal

pub fit-requires-clause-first : goal.fit-requires-clause-first
fit-requires-clause-first c = useful_by_cell c.args.board.now c.args.d c.requires.driver

pub fit-requires-clause-second : goal.fit-requires-clause-second
fit-requires-clause-second c = useful_by_cell c.args.board.now _ (c.requires.drivers c.loop-e.e-index _ c.loop-e-test.true)
