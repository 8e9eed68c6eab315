use Rattle.fault_sim.proofs.WordLemmas.{or_word}
use Rattle.fault_sim.proofs.shown.joined.Goals as goal

pub returns-clause-ones : goal.returns-clause-ones
returns-clause-ones c = or_word c.args.one.ones c.args.other.ones

pub returns-clause-zeros : goal.returns-clause-zeros
returns-clause-zeros c = or_word c.args.one.zeros c.args.other.zeros
