use Rattle.std.proofs.Common.{◌≡◌, ℕ, ◌<◌, ◌≤◌, take, vec_len}
use Rattle.std.specs.Prelude.{slice_index}
use Rattle.board_defs.specs.Limits.{most_bits}
use Rattle.device_rules.specs.Ports.{bit_total}
use Rattle.device_rules.proofs.port_index.starts_of.Given as goal

abbrev pub invariant-loop-port : goal.invariant-loop-port
invariant-loop-port l = record {
  size : vec_len l.starts ≡ l.port-index;
  each : (n : ℕ) → n < l.port-index → slice_index l.starts.items n ≡ bit_total (take n l.ports);
  bits : l.bits ≡ bit_total (take l.port-index l.ports);
  few : l.bits ≤ most_bits;
}
