use Rattle.std.proofs.Common.{◌≡◌, map, take}
use Rattle.net_facts.specs.inner.Facts.{pin_facts_in}
use Rattle.net_facts.proofs.facts.all_pin_facts.Given as goal

abbrev pub invariant-loop-pin : goal.invariant-loop-pin
invariant-loop-pin l = l.facts ≡ map (pin_facts_in l.board l.guarded l.net.pull) (take l.pin-index l.net.pins)
