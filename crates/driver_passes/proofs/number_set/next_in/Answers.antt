use Rattle.driver_passes.proofs.NumberSetLemmas.{none_next, first_next}
use Rattle.driver_passes.proofs.number_set.next_in.Goals as goal

pub returns-in-None : goal.returns-in-None
returns-in-None c = λ passes are. none_next passes c.args.from c.args.word are c.in-None.ensures

pub returns-in-Some : goal.returns-in-Some
returns-in-Some c = λ passes are. first_next passes c.args.from c.args.word c.in-Some.place are c.in-Some.ensures.0 c.in-Some.ensures.1
