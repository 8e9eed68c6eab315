-- The test whether two words name the same pin. It compares the places of the pins, and their names
-- only if neither pin has a place. A place is the number of a part and the number of a port bit.
use Rattle.std.specs.Prelude.{ℕ, ◌==◌, Bool, false, ◌&&◌, List, [], Option, Some, None, slice_index_or}
use Rattle.std.proofs.Common.{Bor}
use Rattle.indexmap.specs.IndexSet.{IndexSet, contains}
use Rattle.board_defs.specs.declared.board.PinAt.{PinAt}
use Rattle.board_lines.specs.NetWords.{lent_pin, same_pin}
use Rattle.board_build.specs.declared.marked.MarkedWord.{MarkedWord}
use Rattle.board_build.specs.inner.Marked.{Marked, same_pins}

-- Two pins are the same if they have the same place, or if neither has a place and their names are
-- equal. `same` says whether their names are equal.
abbrev pub at_one_place : Option PinAt → Option PinAt → Bool → Bool
at_one_place None None same = same
at_one_place None (Some q) same = false
at_one_place (Some p) None same = false
at_one_place (Some p) (Some q) same = (p.part == q.part) && (p.bit == q.bit)

abbrev pub are_one : Marked → Marked → Bool
are_one a b = at_one_place a.at b.at (same_pins a b)

-- there is a flag for this place, and it is set
abbrev pub is_flagged : List (List Bool) → PinAt → Bool
is_flagged rows at = slice_index_or (slice_index_or rows at.part []) at.bit false

-- an earlier word named the pin: the flag of the pin's place is set, or the pin has no place and the
-- set has the name of the pin's part with the pin's own name
abbrev pub is_known_at : {S : Type 0} → List (List Bool) → IndexSet (Bor (List ℕ) × Bor (List ℕ)) S
    → Option PinAt → Bor (List ℕ) × Bor (List ℕ) → Bool
is_known_at rows unplaced None pin = contains (λ a b. same_pin (lent_pin a) (lent_pin b)) unplaced pin
is_known_at rows unplaced (Some at) pin = is_flagged rows at

abbrev pub is_known_pin : {S : Type 0} → List (List Bool) → IndexSet (Bor (List ℕ) × Bor (List ℕ)) S → MarkedWord → Bool
is_known_pin rows unplaced m = is_known_at rows unplaced m.at (m.part, m.pin)
