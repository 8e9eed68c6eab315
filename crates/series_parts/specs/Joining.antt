-- The joined files as a function of the chain file and the net file. In joined files, all nets that
-- LINK lines connect have the same name, and an INERT line replaces each LINK line.
use Rattle.std.specs.Prelude.{◌&&◌, ◌||◌, Bool, List, [], ◌∷◌, map, find, filter_map, Option, Some, None, Result, Ok, Err, option_map, option_and_then, unwrap_or}
use Rattle.board_files.specs.declared.chain_file.ChainLine.{ChainLine}
use Rattle.board_files.specs.declared.chain_file.ChainStatement.{ChainStatement}
use Rattle.board_files.specs.declared.chain_file.ChainStatement.TheVariants.{Device, Bypass, Inert, Supply, Pull, Link}
use Rattle.board_files.specs.declared.net_file.NetLine.{NetLine}
use Rattle.board_defs.specs.declared.spot.Spot.{Spot}
use Rattle.series_parts.specs.declared.fault.LinkFault.{LinkFault}
use Rattle.series_parts.specs.declared.fault.LinkFault.TheVariants.{NoLinkPin, Memory}
use Rattle.series_parts.specs.declared.joining.Joined.{Joined}
use Rattle.board_files.specs.Names.{same_word, line_names}
use Rattle.series_parts.specs.Nets.{Word, net_of_pin}
use Rattle.series_parts.specs.LinkPins.{missing_link_pin}

-- the names of two nets that a LINK line joins
abbrev pub Pair : Type 0
Pair = Word × Word

abbrev pub pair_of : Option Word → Option Word → Option Pair
pair_of a b = option_and_then (λ a. option_map (λ b. (a, b)) b) a

-- the nets of the two pins of a LINK line, if each pin is in a net; None for any other line
abbrev pub link_on : List NetLine → ChainStatement → Option Pair
link_on nets (Link part first second) = pair_of (net_of_pin nets part first) (net_of_pin nets part second)
link_on nets (Device part entity pack) = None
link_on nets (Bypass part bits) = None
link_on nets (Inert part) = None
link_on nets (Supply net) = None
link_on nets (Pull net value) = None

abbrev pub links : List NetLine → List ChainLine → List Pair
links nets chain = filter_map (λ line. link_on nets line.statement) chain

-- A path of these links, each of which may be taken in either direction, leads from net `a` to net
-- `b`. The path either does not use the first link or uses it once. The empty path leads from a net
-- to itself.
abbrev pub leads : List Pair → Word → Word → Bool
leads [] a b = same_word a b
leads (link ∷ links) a b =
    leads links a b
    || ((leads links a link.0 && leads links link.1 b)
    || (leads links a link.1 && leads links link.0 b))

-- the first of `names` to which a path of links leads from this net, or the net's own name if there is none
unfoldable pub joined_name : List Pair → List Word → Word → Word
joined_name links names name = unwrap_or (find (leads links name) names) name

abbrev pub joined_statement : (Word → Word) → ChainStatement → ChainStatement
joined_statement rename (Link part first second) = Inert part
joined_statement rename (Supply net) = Supply (rename net)
joined_statement rename (Pull net value) = Pull (rename net) value
joined_statement rename (Device part entity pack) = Device part entity pack
joined_statement rename (Bypass part bits) = Bypass part bits
joined_statement rename (Inert part) = Inert part

abbrev pub joined_line : (Word → Word) → ChainLine → ChainLine
joined_line rename line = record { line = line.line; statement = joined_statement rename line.statement }

abbrev pub joined_net : (Word → Word) → NetLine → NetLine
joined_net rename line = record { line = line.line; name = rename line.name; pins = line.pins }

-- the function that returns the new name of a net
abbrev pub renaming : List ChainLine → List NetLine → Word → Word
renaming chain nets = joined_name (links nets chain) (line_names nets)

abbrev pub joined_chain : List ChainLine → List NetLine → List ChainLine
joined_chain chain nets = map (joined_line (renaming chain nets)) chain

abbrev pub joined_nets : List ChainLine → List NetLine → List NetLine
joined_nets chain nets = map (joined_net (renaming chain nets)) nets

-- the value if no pin is missing, or otherwise the fault with the line and word of the missing pin
abbrev pub unless_missing : {V : Type 0} → Option Spot → V → Result V LinkFault
unless_missing None value = Ok value
unless_missing (Some spot) value = Err (NoLinkPin spot)

-- the joined files, or the fault of the first LINK pin that is in no net
abbrev pub joined_files : List ChainLine → List NetLine → Result Joined LinkFault
joined_files chain nets =
    unless_missing (missing_link_pin nets chain)
    (record { chain = joined_chain chain nets; nets = joined_nets chain nets })

-- the fault, or None if memory ran out
abbrev pub link_told : LinkFault → Option LinkFault
link_told (Memory e) = None
link_told fault = Some fault
