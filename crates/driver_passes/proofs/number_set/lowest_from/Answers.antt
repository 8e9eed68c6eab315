use Rattle.std.proofs.Common.{arith}
use Rattle.driver_passes.proofs.NumberSetLemmas.{lowest_is, none_high}
use Rattle.driver_passes.proofs.number_set.lowest_from.Goals as goal

pub returns-then-rest-eq0 : goal.returns-then-rest-eq0
returns-then-rest-eq0 c = none_high c.args.word c.args.place c.requires c.if-rest-eq0.true

pub returns-else-rest-eq0 : goal.returns-else-rest-eq0
returns-else-rest-eq0 c = lowest_is c.args.word c.args.place c.requires (omega arith) c.if-rest-eq0.false
