-- The items of a list that is stored as `Kept`, in order.
use Rattle.std.specs.Prelude.{List, [], ◌∷◌}
use Rattle.few_items.specs.declared.few.Kept.{Kept}
use Rattle.few_items.specs.declared.few.Kept.TheVariants.{Nothing, One, Two, More}

abbrev pub kept_items : {T : Type 0} → Kept T → List T
kept_items Nothing = []
kept_items (One item) = item ∷ []
kept_items (Two items) = items
kept_items (More items) = items.items
