use Rattle.std.proofs.Common.{◌≡◌, ◌≤◌, ◌&&◌, length, drop, ℕ, List, Bor}
use Rattle.std.specs.List.{position_from}
use Rattle.indexmap.specs.IndexMap.{get_by}
use Rattle.board_files.specs.Names.{same_word}
use Rattle.series_parts.specs.Nets.{has_pin}
use Rattle.series_parts.proofs.pins.pin_places.Given as goal

-- for each pin, the map has the first of the lines from `i` on with this pin
abbrev pub invariant-loop-i : goal.invariant-loop-i
invariant-loop-i l = record {
  within : l.i ≤ length l.lines;
  places : (q : Bor (List ℕ) × Bor (List ℕ))
      → get_by (λ p. same_word q.0.now p.0.now && same_word q.1.now p.1.now) l.places
      ≡ position_from (has_pin q.0.now q.1.now) l.i (drop l.i l.lines);
}

abbrev pub decreases-loop-i : goal.decreases-loop-i
decreases-loop-i l = l.i
