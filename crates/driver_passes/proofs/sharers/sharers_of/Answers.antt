use Rattle.std.proofs.Common.{◌∙◌, [], ap, get_or}
use Rattle.driver_passes.specs.inner.Drafts.{has_number}
use Rattle.driver_passes.proofs.SharerLemmas.{sharers_all}
use Rattle.driver_passes.proofs.sharers.sharers_of.Goals as goal

pub returns : goal.returns
returns c =
    sharers_all c.args.board.now c.in_ok-lists.lists.items c.in_ok-sharers.sharers.items
    c.in_ok-lists.ensures
    (λ n q. c.in_ok-sharers.ensures n q
    ∙ ap (λ v. has_number (get_or v n []) q) c.deref.ensures.value)
