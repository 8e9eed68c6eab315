use Rattle.std.proofs.Common.{◌++◌, ◌∷◌, [], List, map, take, get_or, ap, sym, ◌∙◌}
use Rattle.std.specs.Prelude.{slice_get}
use Rattle.std.proofs.lemmas.List.{take_more, map-append}
use Rattle.std.proofs.lemmas.Option.{slice_get-get_or}
use Rattle.board_defs.specs.declared.board.Net.{Net}
use Rattle.board_defs.specs.Pins.{guarded, guarded_of}
use Rattle.net_pins.specs.declared.nets.NetDriver.{NetDriver}
use Rattle.net_pins.specs.NetCells.{drivers_of}
use Rattle.net_pins.proofs.drivers.drivers_of_nets.Goals as goal

pub drivers_of-requires-clause-guards : goal.drivers_of-requires-clause-guards
drivers_of-requires-clause-guards c =
    let board = c.args.board.now in
    let nets = c.args.nets.now in
    let n = c.loop-n.n in
    let net : Net = c.index-nets-n.result in
    c.is_guarded-is_guarded.ensures
    ∙ ap (λ (l : List Net). guarded_of board (slice_get l n)) (sym c.requires.nets)
    ∙ ap (guarded_of board) (slice_get-get_or nets n net c.loop-n-test.true)
    ∙ ap (guarded board) (sym c.index-nets-n.is)

pub loop-n-preserved : goal.loop-n-preserved
loop-n-preserved c =
    let board = c.args.board.now in
    let nets = c.args.nets.now in
    let n = c.loop-n.n in
    let net : Net = c.index-nets-n.result in
    let drivers : List (List NetDriver) = c.loop-n.drivers.items in
    c.in_ok-push.ensures.items
    ∙ ap (λ (l : List NetDriver). drivers ++ l ∷ []) c.in_ok-drivers_of.ensures
    ∙ ap (λ (x : Net). drivers ++ drivers_of board x ∷ []) c.index-nets-n.is
    ∙ ap (λ (l : List (List NetDriver)). l ++ drivers_of board (get_or nets n net) ∷ []) c.loop-n.invariant
    ∙ sym
    (ap (λ (l : List Net). map (drivers_of board) l) (take_more nets n net c.loop-n-test.true)
    ∙ map-append (drivers_of board) (take n nets) (get_or nets n net ∷ []))
