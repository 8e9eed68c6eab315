-- The limits of devices and boards.
use Rattle.std.specs.Prelude.{ℕ, ◌≤◌}

-- the largest number of bits of an instruction register
abbrev pub most_instruction_bits : ℕ
most_instruction_bits = 255

-- the largest number of parts of a chain
abbrev pub most_parts : ℕ
most_parts = 255

-- The largest number of bits of a data scan, which has one bit for each boundary cell and one for each part without a description. A
-- device also has at most this number of boundary cells and of port bits.
abbrev pub most_bits : ℕ
most_bits = 65535

-- the largest number of nets of a board
abbrev pub most_nets : ℕ
most_nets = 16382

-- the largest number of pins of all nets of a board together
abbrev pub most_pins : ℕ
most_pins = 65535

-- `n` is an allowed length of an instruction register, in bits
abbrev pub IsInstructionLength : ℕ → Type 0
IsInstructionLength n = (2 ≤ n) × (n ≤ most_instruction_bits)
