use Rattle.std.proofs.Common.{◌≡◌, ◌≤◌, List, ℕ, take, drop}
use Rattle.std.specs.Borrow.{Bor}
use Rattle.std.specs.List.{list_any}
use Rattle.std.specs.Str.{bytes_eq}
use Rattle.std.specs.HashSet.{contains}
use Rattle.board_defs.specs.Limits.{most_bits}
use Rattle.first_places.specs.Items.{first_from}
use Rattle.device_rules.specs.Ports.{port_named, bit_total, breaks_port, v2}
use Rattle.device_rules.proofs.ports.wrong_port.Given as goal

abbrev pub invariant-loop-i : goal.invariant-loop-i
invariant-loop-i l = record {
  seen : (q : Bor (List ℕ)) → contains (λ x y. bytes_eq x.now y.now) l.seen q ≡ list_any (port_named q.now) (take l.i l.ports);
  bits : l.bits ≡ bit_total (take l.i l.ports);
  few : l.bits ≤ most_bits;
  found : first_from breaks_port (take l.i l.ports) (drop l.i l.ports) ≡ v2 l.ports;
}
