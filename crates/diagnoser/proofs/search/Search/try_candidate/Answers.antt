use Rattle.std.proofs.Common.{true, false}
use Rattle.diagnoser.proofs.FoundLemmas.{found_candidate, found_no_fault}
use Rattle.diagnoser.proofs.search.Search.try_candidate.Goals as goal

pub place-place-requires : goal.place-place-requires
place-place-requires g c = rw c.suspects.ensures.value c.requires

pub returns-in_err-fault : goal.returns-in_err-fault
returns-in_err-fault g c =
    rw c.from_residual.ensures
    (found_no_fault c.args.self.now c.place-place.result c.args.i
    (rw c.suspects.ensures.value at c.place-place.ensures) c.in_err-fault.ensures.place)

pub explains-requires : goal.explains-requires
explains-requires g c = c.in_ok-fault.ensures.single

pub returns-then-explains : goal.returns-then-explains
returns-then-explains g c =
    found_candidate c.args.self.now c.place-place.result c.in_ok-fault.fault c.in_ok-fault.ensures.place c.args.i true
    (rw c.suspects.ensures.value at c.place-place.ensures) c.if-explains.ensures

pub returns-else-explains : goal.returns-else-explains
returns-else-explains g c =
    found_candidate c.args.self.now c.place-place.result c.in_ok-fault.fault c.in_ok-fault.ensures.place c.args.i false
    (rw c.suspects.ensures.value at c.place-place.ensures) c.if-explains.ensures
