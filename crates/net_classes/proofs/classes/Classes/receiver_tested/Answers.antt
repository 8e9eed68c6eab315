use Rattle.std.proofs.Common.{ap}
use Rattle.lists.proofs.ListLemmas.{item_there}
use Rattle.net_classes.proofs.classes.Classes.receiver_tested.Goals as goal

pub returns-clause-meant : goal.returns-clause-meant
returns-clause-meant c =
    let board = c.args.board.now in
    let net = item_there board.nets c.args.pin.net c.requires.pin.0 in
    rw (ap (λ w. w.receiver_tested) ((rw c.of.ensures at c.pin.ensures) net.0 net.1))
    ((c.terms_decided.ensures board c.raw-rules.ensures.rules).tested_receiver c.args.pin.net
    net.0 c.args.pin.place net.1)
