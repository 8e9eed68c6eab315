use Rattle.std.proofs.Common.{Bool, take}
use Rattle.board_defs.specs.declared.board.Ctl.{Ctl}
use Rattle.net_classes.specs.inner.Closed.{AreOthers}
use Rattle.net_classes.specs.inner.ControlSets.{IsSet}
use Rattle.net_classes.proofs.closed_nets.gather_others.Given as goal

abbrev pub invariant-loop-net : goal.invariant-loop-net
invariant-loop-net l =
    (passes : Ctl → Bool) → IsSet l.known.board passes l.fn.others
    → AreOthers l.known.board l.set (take l.net-index l.nets) l.others
