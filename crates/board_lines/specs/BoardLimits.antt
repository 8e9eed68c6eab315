-- The limits of a board: their numbers, and what they count.
use Rattle.std.specs.Prelude.{ℕ, ◌==◌, List, codes, if◌then◌else◌}
use Rattle.board_lines.specs.declared.limit.Limit.{Limit}
use Rattle.board_lines.specs.declared.limit.Limit.TheVariants.{ChainParts, BoundaryBits, Nets, Pins}

-- the number by which a fault names the limit
abbrev pub limit_number : Limit → ℕ
limit_number ChainParts = 1
limit_number BoundaryBits = 2
limit_number Nets = 3
limit_number Pins = 4

-- the name of the limit with this number, which says what it counts; `pins` for any number other
-- than 1 to 4
abbrev pub limit_name : ℕ → List ℕ
limit_name number =
    if number == limit_number ChainParts then codes "chain parts" else (if number == limit_number BoundaryBits then codes "boundary bits"
    else (if number == limit_number Nets then codes "nets" else codes "pins"))
