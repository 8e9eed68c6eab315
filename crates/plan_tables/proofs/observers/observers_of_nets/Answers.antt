use Rattle.std.proofs.Common.{◌<◌, ◌++◌, List, length, take, ap, sym, ◌∙◌, subst}
use Rattle.std.proofs.lemmas.Option.{get_or_from_slice_get}
use Rattle.board_defs.specs.declared.board.Net.{Net}
use Rattle.board_defs.specs.declared.board.RawBoard.{RawBoard}
use Rattle.net_pins.specs.declared.nets.NetDriver.{NetDriver}
use Rattle.net_pins.specs.declared.nets.ReaderCell.{ReaderCell}
use Rattle.net_pins.specs.NetCells.{drivers_of}
use Rattle.net_pins.proofs.PositionLemmas.{gathered-more}
use Rattle.net_pins.proofs.NetTableLemmas.{drivers_on_is, readers_on_is}
use Rattle.plan_tables.specs.declared.observers.Observer.{Observer}
use Rattle.plan_tables.specs.inner.Building.{observers, observers_of, observers_at}
use Rattle.lists.proofs.ListLemmas.{item_there}
use Rattle.plan_tables.proofs.ObserverLemmas.{controls_there}
use Rattle.plan_tables.proofs.observers.observers_of_nets.Goals as goal

pub push_observers-requires : goal.push_observers-requires
push_observers-requires c =
    let board = c.args.placed.now.board.now in
    let count = c.len-count.ensures ∙ ap (λ (b : RawBoard). length b.nets) c.raw.ensures.value in
    let net = item_there board.nets c.loop-n.n (subst (λ m. c.loop-n.n < m) count c.loop-n-test.true) in
    controls_there board c.raw.ensures.rules net.0 c.drivers.result.now
    (c.drivers.ensures ∙ drivers_on_is board c.args.nets.now c.requires c.loop-n.n net.0 net.1)

pub loop-n-preserved : goal.loop-n-preserved
loop-n-preserved c =
    let board = c.args.placed.now.board.now in
    let tables = c.args.nets.now in
    let n = c.loop-n.n in
    let count = c.len-count.ensures ∙ ap (λ (b : RawBoard). length b.nets) c.raw.ensures.value in
    let less : n < length board.nets = subst (λ m. n < m) count c.loop-n-test.true in
    let there = item_there board.nets n less in
    let net : Net = there.0 in
    let done : List Observer = c.loop-n.observers.items in
    let read : List ReaderCell = c.readers.result.now in
    c.in_ok-push_observers.ensures
    ∙ ap (λ (l : List NetDriver). done ++ observers_of board n l read)
    (c.drivers.ensures ∙ drivers_on_is board tables c.requires n net there.1)
    ∙ ap (λ (l : List ReaderCell). done ++ observers_of board n (drivers_of board net) l)
    (c.readers.ensures ∙ readers_on_is board tables c.requires n net there.1)
    ∙ ap (λ (l : List Observer). l ++ observers_at board n net) c.loop-n.invariant
    ∙ ap (λ (x : Net). observers board (take n board.nets) ++ observers_at board n x)
    (sym (get_or_from_slice_get board.nets n net net there.1))
    ∙ sym (gathered-more (observers_at board) board.nets n net less)
