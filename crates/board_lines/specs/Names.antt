-- The names on the lines of a chain file.
use Rattle.std.specs.Prelude.{ℕ, List, [], ◌∷◌, map, Option, Some, None}
use Rattle.board_files.specs.declared.chain_file.ChainLine.{ChainLine}
use Rattle.board_files.specs.declared.chain_file.ChainStatement.{ChainStatement}
use Rattle.board_files.specs.declared.chain_file.ChainStatement.TheVariants.{Device, Bypass, Inert as InertLine, Supply as SupplyLine, Pull as PullLine, Link}
use Rattle.board_lines.specs.declared.names.Naming.{Naming}
use Rattle.board_lines.specs.declared.names.Naming.TheVariants.{Part, Entity, Inert, Supply, Pull}

-- the number of a line, and a name on this line
abbrev pub Named : Type 0
Named = ℕ × List ℕ

-- the name of the part on a DEVICE or BYPASS line
abbrev pub part_of : ChainStatement → Option (List ℕ)
part_of (Device part entity pack) = Some part
part_of (Bypass part bits) = Some part
part_of (InertLine part) = None
part_of (SupplyLine net) = None
part_of (PullLine net value) = None
part_of (Link part first second) = None

-- the name of the entity on a DEVICE line
abbrev pub entity_of : ChainStatement → Option (List ℕ)
entity_of (Device part entity pack) = Some entity
entity_of (Bypass part bits) = None
entity_of (InertLine part) = None
entity_of (SupplyLine net) = None
entity_of (PullLine net value) = None
entity_of (Link part first second) = None

abbrev pub inert_of : ChainStatement → Option (List ℕ)
inert_of (InertLine part) = Some part
inert_of (Device part entity pack) = None
inert_of (Bypass part bits) = None
inert_of (SupplyLine net) = None
inert_of (PullLine net value) = None
inert_of (Link part first second) = None

abbrev pub supply_of : ChainStatement → Option (List ℕ)
supply_of (SupplyLine net) = Some net
supply_of (Device part entity pack) = None
supply_of (Bypass part bits) = None
supply_of (InertLine part) = None
supply_of (PullLine net value) = None
supply_of (Link part first second) = None

abbrev pub pull_of : ChainStatement → Option (List ℕ)
pull_of (PullLine net value) = Some net
pull_of (Device part entity pack) = None
pull_of (Bypass part bits) = None
pull_of (InertLine part) = None
pull_of (SupplyLine net) = None
pull_of (Link part first second) = None

-- the name with this role in the statement, if there is one
abbrev pub name_in_role : Naming → ChainStatement → Option (List ℕ)
name_in_role Part statement = part_of statement
name_in_role Entity statement = entity_of statement
name_in_role Inert statement = inert_of statement
name_in_role Supply statement = supply_of statement
name_in_role Pull statement = pull_of statement

abbrev pub with_name : ℕ → Option (List ℕ) → List Named → List Named
with_name line None named = named
with_name line (Some name) named = (line, name) ∷ named

-- the names with this role on the lines, each with the number of its line
abbrev pub named : Naming → List ChainLine → List Named
named naming [] = []
named naming (line ∷ lines) = with_name line.line (name_in_role naming line.statement) (named naming lines)

abbrev pub names_of : List Named → List (List ℕ)
names_of list = map (λ n. n.1) list
