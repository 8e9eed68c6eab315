-- The rules on the INERT, SUPPLY and PULL lines of a chain file. A rule gives a fault, or None if
-- no line breaks the rule.
use Rattle.std.specs.Prelude.{ℕ, Bool, List, [], ◌∷◌, map, Option, Some, None, option_map, option_and_then, is_none, is_some, position}
use Rattle.std.specs.List.{cons_option}
use Rattle.first_places.specs.Places.{first_place, first_repeat, first_value}
use Rattle.board_files.specs.declared.chain_file.ChainLine.{ChainLine}
use Rattle.board_files.specs.declared.chain_file.ChainStatement.{ChainStatement}
use Rattle.board_files.specs.declared.chain_file.ChainStatement.TheVariants.{Device, Bypass, Inert, Supply, Pull, Link}
use Rattle.board_lines.specs.declared.fault.BoardFault.{BoardFault}
use Rattle.board_lines.specs.declared.fault.BoardFault.TheVariants.{InertInChain, NoSupplyNet, NoPullNet, PullTwice}
use Rattle.board_files.specs.Names.{same_word}
use Rattle.board_lines.specs.declared.names.Naming.TheVariants.{Part as PartName, Inert as InertName, Supply as SupplyName, Pull as PullName}
use Rattle.board_lines.specs.Faults.{◌then◌}
use Rattle.board_lines.specs.Names.{Named, named, names_of}
use Rattle.board_lines.specs.Selection.{spot_at}

-- for each name of the list, the index of its first occurrence among the other names, or None if it
-- does not occur there
abbrev pub first_places_among : List Named → List (List ℕ) → List (Option ℕ)
first_places_among list others = map (first_place same_word others) (names_of list)

-- the fault of the first INERT line whose part is in the chain
unfoldable pub inert_in_chain : List Named → List (List ℕ) → Option BoardFault
inert_in_chain inerts parts =
    option_map InertInChain
    (option_and_then (spot_at inerts) (position is_some (first_places_among inerts parts)))

-- the fault of the first SUPPLY line whose net does not exist
unfoldable pub no_supply_net : List Named → List (List ℕ) → Option BoardFault
no_supply_net supplies nets =
    option_map NoSupplyNet
    (option_and_then (spot_at supplies) (position is_none (first_places_among supplies nets)))

-- the fault of the first PULL line whose net does not exist
unfoldable pub no_pull_net : List Named → List (List ℕ) → Option BoardFault
no_pull_net pulls nets = option_map NoPullNet (option_and_then (spot_at pulls) (position is_none (first_places_among pulls nets)))

-- the fault of the first PULL line whose net an earlier PULL line names
unfoldable pub pull_twice : List Named → Option BoardFault
pull_twice pulls = option_map PullTwice (option_and_then (spot_at pulls) (first_repeat same_word (names_of pulls)))

-- the name of a net, and the value that a resistor pulls the net to
abbrev pub Pulled : Type 0
Pulled = List ℕ × Bool

abbrev pub pull_of_line : ChainStatement → Option Pulled
pull_of_line (Pull net value) = Some (net, value)
pull_of_line (Device part entity pack) = None
pull_of_line (Bypass part bits) = None
pull_of_line (Inert part) = None
pull_of_line (Supply net) = None
pull_of_line (Link part first second) = None

-- the net and the value on each PULL line, in the order of the lines
abbrev pub pulls_of : List ChainLine → List Pulled
pulls_of [] = []
pulls_of (line ∷ lines) = cons_option (pull_of_line line.statement) (pulls_of lines)

-- the value of the first PULL line that names the net, if there is such a line
abbrev pub pull_of_net : List Pulled → List ℕ → Option Bool
pull_of_net pulls name = first_value same_word pulls name

-- the first fault of the INERT, SUPPLY and PULL lines; the rules are checked in the order written
-- here
unfoldable pub line_fault : List ChainLine → List (List ℕ) → Option BoardFault
line_fault chain names =
    inert_in_chain (named InertName chain) (names_of (named PartName chain))
    then no_supply_net (named SupplyName chain) names
    then no_pull_net (named PullName chain) names then pull_twice (named PullName chain)
