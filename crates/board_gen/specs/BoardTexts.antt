-- The chain file and the net file of a generated board with k parts, U1 to Uk. Each part has 32 outputs, 32 inputs and 8 bus pins.
-- Each output drives an input of the next part, and all parts share the bus.
use Rattle.std.specs.Prelude.{ℕ, ◌+◌, ◌==◌, List, ◌++◌, codes, decimal, if◌then◌else◌}
use Rattle.std.specs.List.{flat_map, range_with_len}

-- `text first`, `text (first + 1)` and so on, for `count` numbers, joined into one text
abbrev pub each : (ℕ → List ℕ) → ℕ → ℕ → List ℕ
each text first count = flat_map text (range_with_len first count)

-- the line of a part in the chain file
abbrev pub part_line : ℕ → List ℕ
part_line part = codes "DEVICE U" ++ decimal part ++ codes " GEN -\n"

-- the chain file of a board with `k` parts
unfoldable pub chain_file_text : ℕ → List ℕ
chain_file_text k = each part_line 1 k

-- a blank and the word for a pin of a part in the net file, such as ` U1.33`
abbrev pub pin_word : ℕ → ℕ → List ℕ
pin_word part pin = codes " U" ++ decimal part ++ codes "." ++ decimal pin

-- the number of the next part; part 1 comes after part k
abbrev pub next_part : ℕ → ℕ → ℕ
next_part k part = if part == k then 1 else part + 1

-- the line of the net from output `bit` of a part to input `bit` of the next part
abbrev pub ring_line : ℕ → ℕ → ℕ → List ℕ
ring_line k part bit =
    codes "NET R" ++ decimal part ++ codes "_" ++ decimal bit ++ pin_word part (bit + 1)
    ++ pin_word (next_part k part) (bit + 33) ++ codes "\n"

-- the line of the net of a bit of the bus, with a pin of each part
abbrev pub bus_line : ℕ → ℕ → List ℕ
bus_line k bit = codes "NET B" ++ decimal bit ++ each (λ part. pin_word part (bit + 65)) 1 k ++ codes "\n"

-- the net file of a board with `k` parts
unfoldable pub net_text : ℕ → List ℕ
net_text k = each (λ part. each (ring_line k part) 0 32) 1 k ++ each (bus_line k) 0 8
