use Rattle.std.proofs.Common.{List, ℕ, [], ◌∷◌, subst, sym}
use Rattle.net_classes.specs.inner.Closed.{AreClosed, drives_some}
use Rattle.net_classes.specs.inner.ControlSets.{IsSet}
use Rattle.net_classes.proofs.OtherControls.{both_close}
use Rattle.net_classes.proofs.closed_nets.ClosedNets.closed_by.Goals as goal

pub returns-clause-nets : goal.returns-clause-nets
returns-clause-nets c =
    let board = c.args.known.now.board in
    let core = c.core_of-core.result in
    let base = c.turn_to.new.self in
    let was = c.in_ok-turn_to.ensures.closed in
    let by = c.in_ok-turn_to.ensures.by in
    let others = was.others_are in
    let P : List ℕ → Type 0 = λ v. IsSet board (drives_some board v) base.set in
    let Q : List ℕ → Type 0 = λ v. AreClosed board v base.nets in
    let R : List ℕ → Type 0 = λ v. AreClosed board (core ∷ []) v in
    both_close c.args.known.now base.set c.gather_others.new.others core c.args.nets.now
    c.as_slice-closed.result.now c.in_ok-both.both c.laws.ensures (subst P by was.set_is)
    (subst R (sym c.as_slice-closed.ensures) (subst Q by was.nets_are))
    (c.in_ok-gather_others.ensures others.passes others.is_set) c.core_of-core.ensures
    c.in_ok-both.ensures
