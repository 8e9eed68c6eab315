use Rattle.std.proofs.Common.{◌≡◌, true, false, sym, ap, ◌∙◌, ◌++◌, take, arith}
use Rattle.std.proofs.lemmas.Grind.{common_steps}
use Rattle.device_rules.specs.Taps.{is_named_among}
use Rattle.device_rules.proofs.PinLemmas.{repeats_hit, repeats_step, among_more, was_there, was_not_there}
use Rattle.device_rules.proofs.pin_map.some_repeats.Goals as goal

pub returns-then-not-fresh-clause-answer : goal.returns-then-not-fresh-clause-answer
returns-then-not-fresh-clause-answer c = λ before knows.
    let pins = c.args.pins.now in
    let i = c.loop-pin.pin-index in
    let pin = c.pin-item.result in
    let among : is_named_among (before ++ take i pins) pin ≡ true =
    ap (is_named_among (before ++ take i pins)) (sym c.bytes.ensures)
    ∙ sym (c.loop-pin.invariant.seen before knows c.bytes.result)
    ∙ was_there c.in_ok-fresh.fresh _ c.in_ok-fresh.ensures.added c.if-not-fresh.true in
    sym (c.loop-pin.invariant.rest before knows ∙ repeats_hit before pins i pin c.loop-pin-test.true (sym c.pin-item.is) among)

pub loop-pin-preserved : goal.loop-pin-preserved
loop-pin-preserved c =
    let pins = c.args.pins.now in
    let i = c.loop-pin.pin-index in
    let pin = c.pin-item.result in
    record {
      seen = λ before knows q.
          let known = c.loop-pin.invariant.seen before knows q in
          let more = among_more before pins i pin q.now c.loop-pin-test.true (sym c.pin-item.is) in
          grind (arith, common_steps, known, more);
      rest = λ before knows.
          let among : is_named_among (before ++ take i pins) pin ≡ false =
          ap (is_named_among (before ++ take i pins)) (sym c.bytes.ensures)
          ∙ sym (c.loop-pin.invariant.seen before knows c.bytes.result)
          ∙ was_not_there c.in_ok-fresh.fresh _ c.in_ok-fresh.ensures.added c.if-not-fresh.false
          in
          c.loop-pin.invariant.rest before knows ∙ repeats_step before pins i pin c.loop-pin-test.true (sym c.pin-item.is) among;
    }
