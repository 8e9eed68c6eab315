use Rattle.std.proofs.Common.{◌≡◌, ◌&&◌, cond, drop, ℕ, List, Bor, Some}
use Rattle.indexmap.specs.IndexMap.{get_by}
use Rattle.board_files.specs.Names.{same_word}
use Rattle.series_parts.specs.Nets.{has_word}
use Rattle.series_parts.proofs.pins.put_pins.Given as goal

-- writing the remaining pins into the current map has the same result as writing all pins of the
-- line into the map before the call
abbrev pub invariant-loop-word : goal.invariant-loop-word
invariant-loop-word l = (q : Bor (List ℕ) × Bor (List ℕ)) →
    cond (has_word q.0.now q.1.now (drop l.word-index l.words)) (Some l.place)
    (get_by (λ p. same_word q.0.now p.0.now && same_word q.1.now p.1.now) l.places)
    ≡ cond (has_word q.0.now q.1.now l.words) (Some l.place)
    (get_by (λ p. same_word q.0.now p.0.now && same_word q.1.now p.1.now) l.fn.places)
