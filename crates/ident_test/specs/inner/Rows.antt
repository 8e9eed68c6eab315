-- Writing values into the bits of a row.
use Rattle.std.specs.Prelude.{ℕ, ◌+◌, Bool, List, ◌++◌, length, take, drop}

-- the bits with these values written from position `at` on
abbrev pub with_values : ℕ → List Bool → List Bool → List Bool
with_values at values bits = take at bits ++ (values ++ drop (at + length values) bits)
