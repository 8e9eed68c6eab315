-- The first LINK pin that is in no net.
use Rattle.std.specs.Prelude.{ℕ, Bool, List, [], ◌∷◌, Option, Some, None, is_none, if◌then◌else◌}
use Rattle.board_defs.specs.declared.spot.Spot.{Spot}
use Rattle.board_files.specs.declared.chain_file.ChainLine.{ChainLine}
use Rattle.board_files.specs.declared.chain_file.ChainStatement.{ChainStatement}
use Rattle.board_files.specs.declared.chain_file.ChainStatement.TheVariants.{Device, Bypass, Inert, Supply, Pull, Link}
use Rattle.board_files.specs.declared.net_file.NetLine.{NetLine}
use Rattle.series_parts.specs.Nets.{Word, net_of_pin}

-- the first item if there is one, or otherwise the second
infixr 20 ◌then◌
abbrev pub ◌then◌ : {A : Type 0} → Option A → Option A → Option A
None then after = after
(Some found) then after = Some found

abbrev pub is_missing_pin : List NetLine → Word → Word → Bool
is_missing_pin nets part pin = is_none (net_of_pin nets part pin)

-- the line and word of the first of the two pins on line `n` that is in no net; these pins are
-- words 3 and 4 of the line
abbrev pub missing_of : List NetLine → ℕ → Word → Word → Word → Option Spot
missing_of nets n part first second =
    if is_missing_pin nets part first then Some (record { line = n; word = 3 })
    else if is_missing_pin nets part second then Some (record { line = n; word = 4 })
    else None

abbrev pub missing_on : List NetLine → ℕ → ChainStatement → Option Spot
missing_on nets n (Link part first second) = missing_of nets n part first second
missing_on nets n (Device part entity pack) = None
missing_on nets n (Bypass part bits) = None
missing_on nets n (Inert part) = None
missing_on nets n (Supply net) = None
missing_on nets n (Pull net value) = None

-- the line and word of the first LINK pin on these lines that is in no net
abbrev pub missing_link_pin : List NetLine → List ChainLine → Option Spot
missing_link_pin nets [] = None
missing_link_pin nets (line ∷ lines) = missing_on nets line.line line.statement then missing_link_pin nets lines
