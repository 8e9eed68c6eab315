use Rattle.net_classes.proofs.SharedLemmas.{share_decided}
use Rattle.net_classes.proofs.ContendedLemmas.{contended_decided}
use Rattle.net_classes.proofs.law.nets_are_shared.Goals as goal

pub returns : goal.returns
returns c board a b = record { by_driven = share_decided board a b; by_shared = contended_decided board a b }
