use Rattle.std.proofs.Common.{◌≡◌, List, ℕ, take, drop}
use Rattle.std.specs.Borrow.{Bor}
use Rattle.std.specs.List.{list_any}
use Rattle.std.specs.Str.{bytes_eq}
use Rattle.std.specs.HashSet.{contains}
use Rattle.first_places.specs.Items.{first_from}
use Rattle.device_rules.specs.PinMap.{maps_port, mapped_pins, breaks_map, v4}
use Rattle.device_rules.specs.inner.Seen.{HasNames}
use Rattle.device_rules.proofs.pin_map.wrong_map_entry.Given as goal

abbrev pub invariant-loop-i : goal.invariant-loop-i
invariant-loop-i l = record {
  named : (q : Bor (List ℕ)) → contains (λ x y. bytes_eq x.now y.now) l.named q ≡ list_any (maps_port q.now) (take l.i l.entries);
  pins : HasNames l.pins (mapped_pins (take l.i l.entries));
  found : first_from (breaks_map l.ports) (take l.i l.entries) (drop l.i l.entries) ≡ v4 l.ports l.entries;
}
