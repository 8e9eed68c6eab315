use Rattle.std.proofs.Common.{◌≡◌, ◌+◌, not, sym, ap, subst, ◌∙◌, ◌++◌, take}
use Rattle.std.proofs.lemmas.Bool.{or_parts}
use Rattle.device_rules.specs.PinMap.{mapped_pins, breaks_map, v4}
use Rattle.device_rules.specs.inner.Seen.{HasNames}
use Rattle.device_rules.proofs.ItemLemmas.{first_hit, first_step}
use Rattle.device_rules.proofs.PinLemmas.{pins_more, breaks_is, known_more}
use Rattle.device_rules.proofs.pin_map.wrong_map_entry.Goals as goal

pub returns-then-is_broken : goal.returns-then-is_broken
returns-then-is_broken c =
    let ports = c.args.ports.now in
    let entries = c.args.entries.now in
    let i = c.loop-i.i in
    let entry = c.index-entries-i.result in
    let breaks = breaks_is ports (take i entries) entry c.bytes-name.result.now
    c.as_slice.result.now _ _ _ _ c.bytes-name.ensures c.as_slice.ensures
    (c.contains-known.ensures ∙ c.loop-i.invariant.named c.bytes-name.result)
    c.fits_port-fits.ensures
    (c.in_ok-repeats.ensures.answer (mapped_pins (take i entries)) c.loop-i.invariant.pins)
    c.is_broken.ensures in
    first_hit (breaks_map ports) entries i entry (v4 ports entries) c.loop-i-test.true
    (sym c.index-entries-i.is) (breaks ∙ c.if-is_broken.true) c.loop-i.invariant.found

pub loop-i-preserved : goal.loop-i-preserved
loop-i-preserved c =
    let ports = c.args.ports.now in
    let entries = c.args.entries.now in
    let i = c.loop-i.i in
    let entry = c.index-entries-i.result in
    let breaks = breaks_is ports (take i entries) entry c.bytes-name.result.now
    c.as_slice.result.now _ _ _ _ c.bytes-name.ensures c.as_slice.ensures
    (c.contains-known.ensures ∙ c.loop-i.invariant.named c.bytes-name.result)
    c.fits_port-fits.ensures
    (c.in_ok-repeats.ensures.answer (mapped_pins (take i entries)) c.loop-i.invariant.pins)
    c.is_broken.ensures in
    let fine = or_parts c.contains-known.result _ (sym c.is_broken.ensures ∙ c.if-is_broken.false) in
    let pins : mapped_pins (take i entries) ++ c.as_slice.result.now ≡ mapped_pins (take (i + 1) entries) =
    ap (λ xs. mapped_pins (take i entries) ++ xs) c.as_slice.ensures
    ∙ pins_more entries i entry c.loop-i-test.true (sym c.index-entries-i.is) in
    record {
      named =
          λ q. known_more entries i entry c.bytes-name.result.now q.now _ _ c.loop-i-test.true
          (sym c.index-entries-i.is) c.bytes-name.ensures (c.in_ok-insert.ensures.updates.0 q)
          (c.loop-i.invariant.named q);
      pins =
          subst (λ xs. HasNames c.some_repeats.new.seen xs) pins
          (c.in_ok-repeats.ensures.seen (mapped_pins (take i entries)) c.loop-i.invariant.pins
          (or_parts (not c.fits_port-fits.result) _ fine.1).1);
      found =
          first_step (breaks_map ports) entries i entry (v4 ports entries) c.loop-i-test.true
          (sym c.index-entries-i.is) (breaks ∙ c.if-is_broken.false) c.loop-i.invariant.found;
    }
