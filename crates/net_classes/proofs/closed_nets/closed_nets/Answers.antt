use Rattle.net_classes.proofs.ClosedLemmas.{closed_are}
use Rattle.net_classes.proofs.closed_nets.closed_nets.Goals as goal

pub returns-clause-closed : goal.returns-clause-closed
returns-clause-closed c passes is =
    closed_are c.args.known.now c.gather.new.set c.args.nets.now _ c.laws.ensures
    (c.in_ok-gather.ensures passes is) c.in_ok-closed.ensures
