-- Joined files keep the properties of chain files and net files.
use Rattle.std.proofs.Common.{List, [], ◌∷◌, map}
use Rattle.std.specs.List.{AllByRecursion}
use Rattle.std.proofs.lemmas.List.{length-map}
use Rattle.board_files.specs.declared.chain_file.ChainLine.{ChainLine}
use Rattle.board_files.specs.declared.chain_file.ChainStatement.{ChainStatement}
use Rattle.board_files.specs.declared.chain_file.ChainStatement.TheVariants.{Device, Bypass, Inert, Supply, Pull, Link}
use Rattle.board_files.specs.declared.net_file.NetLine.{NetLine}
use Rattle.board_files.specs.ChainLines.{HasBypassLength}
use Rattle.board_files.specs.Files.{HasFewPins, IsChainFile, IsNetFile}
use Rattle.series_parts.specs.Nets.{Word}
use Rattle.series_parts.specs.Joining.{joined_statement, joined_line, joined_net}

same_length : (rename : Word → Word) (statement : ChainStatement) → HasBypassLength statement
    → HasBypassLength (joined_statement rename statement)
same_length rename (Device part entity pack) has = has
same_length rename (Bypass part bits) has = has
same_length rename (Inert part) has = has
same_length rename (Supply net) has = has
same_length rename (Pull net value) has = has
same_length rename (Link part first second) has = tt

pub same_lengths : (rename : Word → Word) (lines : List ChainLine)
    → AllByRecursion (λ line. HasBypassLength line.statement) lines
    → AllByRecursion (λ line. HasBypassLength line.statement) (map (joined_line rename) lines)
same_lengths rename [] all = tt
same_lengths rename (line ∷ lines) all = (same_length rename line.statement all.0, same_lengths rename lines all.1)

same_pins : (rename : Word → Word) (lines : List NetLine) → AllByRecursion HasFewPins lines
    → AllByRecursion HasFewPins (map (joined_net rename) lines)
same_pins rename [] all = tt
same_pins rename (line ∷ lines) all = (all.0, same_pins rename lines all.1)

pub chain_file_joined : (rename : Word → Word) (lines : List ChainLine) → IsChainFile lines → IsChainFile (map (joined_line rename) lines)
chain_file_joined rename lines file = record {
  few = rw (length-map lines (joined_line rename)) file.few;
  lengths = same_lengths rename lines file.lengths;
}

pub net_file_joined : (rename : Word → Word) (lines : List NetLine) → IsNetFile lines → IsNetFile (map (joined_net rename) lines)
net_file_joined rename lines file = record {
  few = rw (length-map lines (joined_net rename)) file.few;
  pins = same_pins rename lines file.pins;
}
