-- If the flag of the entry's bit is set, an earlier entry drives the bit.
use Rattle.std.proofs.Common.{◌≡◌, true, false, take, get_or, sym, ap, ◌∙◌, arith}
use Rattle.std.proofs.lemmas.Grind.{common_steps}
use Rattle.device_rules.specs.Places.{is_driven, breaks_driver, v13}
use Rattle.device_rules.proofs.ItemLemmas.{first_hit}
use Rattle.device_rules.proofs.places.second_driver.Goals as goal

pub returns-then-index : goal.returns-then-index
returns-then-index c =
    let ports = c.args.ports.now in
    let entries = c.args.entries.now in
    let less = c.in-Some.ensures.few in
    let size = c.loop-i.invariant.driven.size in
    let flag : get_or c.loop-i.driven.items c.in-Some.bit false
    ≡ true = grind (arith, common_steps, c.index.ensures, c.if-index.true, less, size) in
    let breaks = ap (is_driven ports (take c.loop-i.i entries))
    (sym c.driven_bit.ensures.number ∙ c.in-Some.is)
    ∙ sym (c.loop-i.invariant.driven.each c.in-Some.bit less) ∙ flag in
    first_hit (breaks_driver ports) entries c.loop-i.i c.index-entries-i.result (v13 ports entries)
    c.loop-i-test.true (sym c.index-entries-i.is) breaks c.loop-i.invariant.found
