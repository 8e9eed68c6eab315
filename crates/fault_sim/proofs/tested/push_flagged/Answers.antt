use Rattle.std.proofs.Common.{◌++◌, Bool, List, ap, sym, ◌∙◌, append_assoc, get_or, false}
use Rattle.board_defs.specs.declared.board.PinRef.{PinRef}
use Rattle.fault_sim.specs.inner.Tested.{flagged_before, pin_where}
use Rattle.fault_sim.proofs.RangeLemmas.{map_filter_more}
use Rattle.fault_sim.proofs.tested.push_flagged.Goals as goal

pub loop-place-preserved : goal.loop-place-preserved
loop-place-preserved c =
    let net = c.args.net in
    let flags = c.args.flags.now in
    let place = c.loop-place.place in
    let old : List PinRef = c.args.pins.now.items in
    let done : List PinRef = flagged_before net flags place in
    c.in_ok-push_pin.ensures
    ∙ ap (λ (b : Bool). c.loop-place.pins.items ++ pin_where b net place) c.is_set.ensures
    ∙ ap (λ (l : List PinRef). l ++ pin_where (get_or flags place false) net place) c.loop-place.invariant
    ∙ append_assoc old done (pin_where (get_or flags place false) net place)
    ∙ ap (λ (l : List PinRef). old ++ l)
    (sym
    (map_filter_more (λ k. let pin : PinRef = record { net = net; place = k } in pin)
    (λ k. get_or flags k false) place))
