-- The bytes of a name. `Short` has an array of 24 bytes in the value itself, and the first `count` bytes of the
-- array are the name's bytes. `Long` has the name's bytes in a vector.
use Rattle.std.specs.Prelude.{List, ℕ, take, ◌≤◌, ⊤}
use Rattle.board_defs.specs.declared.name.Kept.{Kept}
use Rattle.board_defs.specs.declared.name.Kept.TheVariants.{Short, Long}

abbrev pub kept_bytes : Kept → List ℕ
kept_bytes (Short bytes count) = take count bytes
kept_bytes (Long bytes) = bytes.items

-- in a `Short`, `count` is at most 24, the length of the array; a `Long` can have any number of bytes
abbrev pub FitsInPlace : Kept → Type 0
FitsInPlace (Short bytes count) = count ≤ 24
FitsInPlace (Long bytes) = ⊤
