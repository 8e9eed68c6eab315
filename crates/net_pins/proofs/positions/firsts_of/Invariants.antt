use Rattle.std.proofs.Common.{◌≡◌, ◌<◌, ◌+◌, ℕ, length, drop, get_or}
use Rattle.std.specs.Prelude.{sum_by}
use Rattle.board_defs.specs.Pins.{data_length}
use Rattle.net_pins.proofs.positions.firsts_of.Given as goal

abbrev pub invariant-loop-part : goal.invariant-loop-part
invariant-loop-part l = record {
  first : l.first ≡ sum_by (λ p. data_length p.kind) (drop l.part-index l.chain);
  count : length l.firsts.items ≡ l.part-index;
  each : (k : ℕ) → k < l.part-index → get_or l.firsts.items k 0 ≡ sum_by (λ p. data_length p.kind) (drop (k + 1) l.chain);
}
