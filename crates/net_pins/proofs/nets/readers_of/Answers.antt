use Rattle.std.proofs.Common.{◌++◌, List, ap, sym, ◌∙◌}
use Rattle.board_defs.specs.declared.board.NetPin.{NetPin}
use Rattle.net_pins.specs.declared.nets.ReaderCell.{ReaderCell}
use Rattle.net_pins.specs.NetCells.{readers_at}
use Rattle.net_pins.proofs.PositionLemmas.{gathered-more}
use Rattle.net_pins.proofs.nets.readers_of.Goals as goal

pub loop-place-preserved : goal.loop-place-preserved
loop-place-preserved c =
    let board = c.args.board.now in
    let place = c.loop-place.place in
    let pin : NetPin = c.index-pins-place.result in
    let done : List ReaderCell = c.loop-place.readers.items in
    c.in_ok-push_pin.ensures
    ∙ ap (λ (p : NetPin). done ++ readers_at board place p.at) c.index-pins-place.is
    ∙ ap
    (λ (l : List ReaderCell). l
    ++ readers_at board place (Rattle.std.proofs.Common.get_or c.args.pins.now place pin).at)
    c.loop-place.invariant
    ∙ sym (gathered-more (λ k (p : NetPin). readers_at board k p.at) c.args.pins.now place pin c.loop-place-test.true)
