-- Tables with one item for each boundary cell of each part.
use Rattle.std.specs.Prelude.{ℕ, zero, suc, Bool, false, List, [], ◌∷◌, map, Vec, Option, Some, None, slice_get, option_and_then}
use Rattle.std.specs.declared.alloc.Global.{Global}
use Rattle.board_defs.specs.declared.board.Ctl.{Ctl}

-- the table as a list of rows, with one row for each part of the chain
abbrev pub table : {X : Type 0} → List (Vec X Global) → List (List X)
table rows = map (λ row. row.items) rows

-- the item of a cell, if the table has one
abbrev pub item_of_cell : {X : Type 0} → List (List X) → Ctl → Option X
item_of_cell rows c = option_and_then (λ row. slice_get row c.cell) (slice_get rows c.part)

-- there is a flag, and it is set
abbrev pub holds_there : Option Bool → Bool
holds_there None = false
holds_there (Some b) = b

-- the list with the item at place `i` changed by `f`, or the list itself if `i` is past its end
abbrev pub update_at : {X : Type 0} → ℕ → (X → X) → List X → List X
update_at i f [] = []
update_at zero f (x ∷ xs) = f x ∷ xs
update_at (suc i) f (x ∷ xs) = x ∷ update_at i f xs

-- the table with the item of the cell changed by `f`, or the table itself if it has no such cell
abbrev pub at_control : {X : Type 0} → Ctl → (X → X) → List (List X) → List (List X)
at_control c f rows = update_at c.part (update_at c.cell f) rows

-- the new item `item`, whatever the old item is
abbrev pub put : {X : Type 0} → X → X → X
put item before = item

-- the table `rows` with every item replaced by `item`
abbrev pub filled_with : {X Y : Type 0} → Y → List (List X) → List (List Y)
filled_with item rows = map (λ row. map (λ before. item) row) rows
