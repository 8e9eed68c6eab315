use Rattle.std.proofs.Common.{Bool, ◌||◌, take}
use Rattle.std.specs.List.{list_any}
use Rattle.board_defs.specs.declared.board.Ctl.{Ctl}
use Rattle.board_defs.specs.declared.board.RawBoard.{RawBoard}
use Rattle.board_defs.specs.Decided.{is_by}
use Rattle.net_classes.specs.inner.ControlSets.{IsSet}
use Rattle.net_classes.proofs.closed_nets.add_pins.Given as goal

abbrev pub invariant-loop-pin : goal.invariant-loop-pin
invariant-loop-pin l =
    (board : RawBoard) (passes : Ctl → Bool) → IsSet board passes l.initial.set
    → IsSet board (λ c. passes c || list_any (λ pin. is_by c pin.drive) (take l.pin-index l.pins))
    l.set
