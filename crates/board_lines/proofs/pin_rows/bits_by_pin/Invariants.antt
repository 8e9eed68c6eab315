use Rattle.std.proofs.Common.{◌≡◌, ◌≤◌, length, drop, ℕ, List, Bor}
use Rattle.std.specs.List.{position_from}
use Rattle.indexmap.specs.IndexMap.{get_by}
use Rattle.board_files.specs.Names.{same_word}
use Rattle.board_lines.specs.PinRows.{has_pin_named}
use Rattle.board_lines.proofs.pin_rows.bits_by_pin.Given as goal

-- for each pin, the map gives the first of the port bits from `i` on with this pin
abbrev pub invariant-loop-i : goal.invariant-loop-i
invariant-loop-i l = record {
  within : l.i ≤ length l.bits.items.now;
  places : (q : Bor (List ℕ))
      → get_by (λ n. same_word q.now n.now) l.by_pin
      ≡ position_from (λ bit. has_pin_named q.now bit.pin) l.i (drop l.i l.bits.items.now);
}

abbrev pub decreases-loop-i : goal.decreases-loop-i
decreases-loop-i l = l.i
