-- LINK lines, and the lines that add a part to the chain.
use Rattle.std.specs.Prelude.{Bool, true, false, List, filter}
use Rattle.std.specs.List.{list_any}
use Rattle.board_files.specs.declared.chain_file.ChainLine.{ChainLine}
use Rattle.board_files.specs.declared.chain_file.ChainStatement.{ChainStatement}
use Rattle.board_files.specs.declared.chain_file.ChainStatement.TheVariants.{Device, Bypass, Inert, Supply, Pull, Link}

abbrev pub is_link : ChainStatement → Bool
is_link (Link part first second) = true
is_link (Device part entity pack) = false
is_link (Bypass part bits) = false
is_link (Inert part) = false
is_link (Supply net) = false
is_link (Pull net value) = false

abbrev pub has_link : List ChainLine → Bool
has_link chain = list_any (λ line. is_link line.statement) chain

abbrev pub is_chain_part : ChainStatement → Bool
is_chain_part (Device part entity pack) = true
is_chain_part (Bypass part bits) = true
is_chain_part (Inert part) = false
is_chain_part (Supply net) = false
is_chain_part (Pull net value) = false
is_chain_part (Link part first second) = false

-- the DEVICE and BYPASS lines of a chain file
abbrev pub chain_part_lines : List ChainLine → List ChainLine
chain_part_lines chain = filter (λ line. is_chain_part line.statement) chain
