use Rattle.std.proofs.Common.{◌≡◌, ◌<◌, Bool, true, cond, List, [], ◌++◌, map, Some, sym, ap, ◌∙◌, subst}
use Rattle.std.specs.Prelude.{filter, All, OnOk}
use Rattle.board_defs.specs.declared.device.Cell.{Cell}
use Rattle.board_defs.specs.declared.board.RawBoard.{RawBoard}
use Rattle.board_defs.specs.DeviceRules.{is_receiving}
use Rattle.board_defs.specs.Pins.{device_at, bit_at, cell_count}
use Rattle.port_entries.specs.Entries.{entries_of}
use Rattle.net_pins.specs.declared.nets.ReaderCell.{ReaderCell}
use Rattle.net_pins.specs.NetCells.{reader_cell, readers_at}
use Rattle.net_pins.specs.inner.Receiving.{receives_by}
use Rattle.net_pins.proofs.EntryLemmas.{entries_below, readers_is}
use Rattle.net_pins.proofs.nets.push_at.Goals as goal

pub push_readers-requires : goal.push_readers-requires
push_readers-requires c =
    let at = c.args.at in
    subst
    (λ (l : List Cell). All (λ cell. cell.num < cell_count (device_at c.args.board.now at.part))
    l) (sym c.entries.ensures) (entries_below c.args.board.now at c.raw.ensures.rules)

pub returns-then-may_receive : goal.returns-then-may_receive
returns-then-may_receive c =
    let board = c.args.board.now in
    let at = c.args.at in
    let place = c.args.place in
    let entries = entries_of (device_at board at.part) at.bit in
    let receives : receives_by (bit_at board at)
    ≡ true = ap (λ (b : RawBoard). receives_by (bit_at b at)) (sym c.raw.ensures.value)
    ∙ sym c.may_receive.ensures ∙ c.if-may_receive.true in
    let added : map (reader_cell board at.part place)
    (filter (λ cell. is_receiving cell.role) c.entries.result.now)
    ≡ readers_at board place (Some at) =
    ap (λ (l : List Cell). map (reader_cell board at.part place) (filter (λ cell. is_receiving cell.role) l)) c.entries.ensures
    ∙ ap (λ (b : Bool). cond b (map (reader_cell board at.part place) (filter (λ cell. is_receiving cell.role) entries)) []) (sym receives)
    ∙ readers_is board at place in
    subst
    (λ (l : List ReaderCell). OnOk c.push_readers.result
    (c.push_readers.new.readers.items ≡ c.args.readers.now.items ++ l)) added
    c.push_readers.ensures
