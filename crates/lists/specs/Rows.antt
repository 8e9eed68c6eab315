-- Adding an item to a table of lists.
use Rattle.std.specs.Prelude.{ℕ, List, [], ◌∷◌, ◌++◌, Option, Some, None, slice_set, slice_index_or}

-- the table with the item appended to the list at `place`, or unchanged if there is no place or it is past the end
abbrev pub noted : {A : Type 0} → List (List A) → Option ℕ → A → List (List A)
noted rows None item = rows
noted rows (Some place) item = slice_set rows place (slice_index_or rows place [] ++ item ∷ [])
