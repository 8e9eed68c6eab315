use Rattle.std.proofs.Common.{◌<◌, ◌≤◌, ◌++◌, ◌∷◌, [], length, map, ap, ◌∙◌, arith}
use Rattle.std.specs.Prelude.{find, option_and_then, slice_get}
use Rattle.std.proofs.lemmas.List.{take_all}
use Rattle.device_rules.specs.Ports.{width, bits_in_port}
use Rattle.device_rules.specs.PinMap.{maps_port}
use Rattle.device_rules.specs.Taps.{is_named_among, tap_names}
use Rattle.device_rules.specs.inner.Index.{bit_of_port}
use Rattle.device_rules.specs.Raw.{port_bit}
use Rattle.device_rules.proofs.BitLemmas.{length_bits}
use Rattle.device_rules.proofs.RawLemmas.{bit_is, bits_step}
use Rattle.device_rules.proofs.raw.push_bits.Goals as goal

pub loop-place-preserved : goal.loop-place-preserved
loop-place-preserved c =
    let place = c.loop-place.place in
    let port = c.args.port.now in
    let F = port_bit c.args.pins.now c.args.taps.now c.args.named.now in
    let less : place < width port.range = omega (arith, c.loop-place-test.true, c.bit_count-place-end.ensures.count) in
    let entry = c.item_of-entry.ensures ∙ ap (λ name. find (maps_port name) c.args.pins.now) c.bytes-name.ensures in
    let bit = bit_is c.args.pins.now c.args.taps.now c.args.named.now c.args.number port place
    c.bytes-name.result.now c.index_at-index.result c.in_ok-pin.pin c.is_tap-tap.result
    c.has.result
    c.bytes-name.ensures c.index_at-index.ensures (c.in_ok-pin.ensures ∙ ap (option_and_then (λ entry. slice_get entry.pins place)) entry)
    (c.is_tap-tap.ensures ∙ ap (is_named_among (tap_names c.args.taps.now)) c.bytes-name.ensures) c.has.ensures in
    c.in_ok-push.ensures.items ∙ ap (λ b. c.loop-place.bits.items ++ b ∷ []) bit
    ∙ ap (λ bs. bs ++ F (bit_of_port c.args.number port place) ∷ []) c.loop-place.invariant
    ∙ bits_step F c.args.number port place c.args.bits.now.items c.requires.ordered less

pub returns : goal.returns
returns c =
    let bits = bits_in_port c.args.number c.args.port.now in
    let all = length_bits c.args.number c.args.port.now c.requires.ordered in
    let none : length bits ≤ c.loop-place.place = omega (arith, all, c.loop-place-test.false, c.bit_count-place-end.ensures.count) in
    c.loop-place.invariant
    ∙ ap
    (λ bs. c.args.bits.now.items
    ++ map (port_bit c.args.pins.now c.args.taps.now c.args.named.now) bs)
    (take_all c.loop-place.place bits none)
