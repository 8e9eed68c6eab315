-- The contract of a call that prints a text to a sink through a `Line`, which is a buffer.
use Rattle.std.specs.Prelude.{◌≡◌, ◌⊎◌, ℕ, ◌≤◌, List, [], ◌∷◌, ◌++◌, take, Result, OnOk, OnErr, Bool, true, false, codes}
use Rattle.std.specs.List.{flat_map}
use Rattle.bt_base.specs.Counts.{Rose}
use Rattle.bt_base.specs.Puts.{Shown, Takes}

-- the digit of a bit
abbrev pub bit_word : Bool → List ℕ
bit_word false = codes "0"
bit_word true = codes "1"

-- the bytes of all pieces, in order
abbrev pub whole : List (List ℕ) → List ℕ
whole pieces = flat_map (λ piece. piece) pieces

-- the line of text that consists of these pieces and a line feed
abbrev pub line_of : List (List ℕ) → List ℕ
line_of pieces = whole pieces ++ 10 ∷ []

-- The effect of printing `text` through a `Line`, a buffer that had the bytes `before` and then has the bytes `after`.
-- Either the sink took nothing, and `after` is `before` followed by the text. Or the sink took the bytes `put`, and
-- `put` followed by `after` is `before` followed by the text.
abbrev pub Moves : Shown → Shown → List ℕ → List ℕ → List ℕ → Type 0
Moves old new before after text =
    ((new ≡ old) × (after ≡ before ++ text)) ⊎ ((put : List ℕ) × Takes old new put × (put ++ after ≡ before ++ text))

-- The contract of a call that prints `text` through a buffer that had the bytes `before` and then has the bytes
-- `after`. The bytes to print are `before ++ text`. On Ok, the sink took a prefix of these bytes, and `after` has the
-- rest. On Err, the sink took some prefix of these bytes, and its fault count rose or has its largest value. The fault
-- count never falls.
pub record Prints {T E : Type 0} (old new : Shown) (before after text : List ℕ) (result : Result T E) : Type 0 where
  pub whole : OnOk result (Moves old new before after text)
  pub cut : OnErr result ((k : ℕ) × Takes old new (take k (before ++ text)))
  pub later : old.faults ≤ new.faults
  pub cause : OnErr result (Rose old.faults new.faults)
