use Rattle.fault_sim.proofs.MatchLemmas.{decides_as}
use Rattle.fault_sim.proofs.board_test.LoggedTest.is_pass.Goals as goal

pub returns : goal.returns
returns c = decides_as c.shows_all.result c.shows_all.ensures c.laws.ensures.expected.1 c.laws.ensures.expected.0
