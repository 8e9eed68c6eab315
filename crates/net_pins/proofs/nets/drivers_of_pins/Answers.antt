use Rattle.std.proofs.Common.{◌++◌, List, ap, sym, ◌∙◌}
use Rattle.std.specs.Option.{option_to_list}
use Rattle.board_defs.specs.declared.board.NetPin.{NetPin}
use Rattle.net_pins.specs.declared.nets.NetDriver.{NetDriver}
use Rattle.net_pins.specs.NetCells.{driver_of}
use Rattle.net_pins.proofs.PositionLemmas.{gathered-more}
use Rattle.net_pins.proofs.nets.drivers_of_pins.Goals as goal

pub loop-place-preserved : goal.loop-place-preserved
loop-place-preserved c =
    let board = c.args.board.now in
    let place = c.loop-place.place in
    let pin : NetPin = c.index-pins-place.result in
    let done : List NetDriver = c.loop-place.drivers.items in
    c.in_ok-push_some.ensures
    ∙ ap (λ d. done ++ option_to_list d) c.driver_of.ensures
    ∙ ap
    (λ (l : List NetDriver). l
    ++ option_to_list
    (driver_of board place (Rattle.std.proofs.Common.get_or c.args.pins.now place pin).at))
    c.loop-place.invariant
    ∙ sym (gathered-more (λ k (p : NetPin). option_to_list (driver_of board k p.at)) c.args.pins.now place pin c.loop-place-test.true)
