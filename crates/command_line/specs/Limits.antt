-- The limits on the words of a command.
use Rattle.std.specs.Prelude.{ℕ}

-- the largest number of BSDL files that a command takes
abbrev pub most_names : ℕ
most_names = 255

-- the largest number of parts that `make` accepts
abbrev pub most_made : ℕ
most_made = 255
