-- A chain in which `select` found the entity of each DEVICE line, with its parts.
use Rattle.std.specs.Prelude.{◌≡◌, ◌^◌, ◌<◌, List, length, map, All}
use Rattle.board_defs.specs.declared.board.Part.{Part}
use Rattle.board_defs.specs.BoardRules.{IsPart}
use Rattle.board_files.specs.declared.chain_file.ChainLine.{ChainLine}
use Rattle.board_lines.specs.declared.names.Naming.TheVariants.{Part as PartName}
use Rattle.board_lines.specs.Names.{named, names_of}
use Rattle.board_lines.specs.ChainParts.{IsChain}

pub record ChainWithParts : Type 0 where
  pub lines : List ChainLine
  pub parts : List Part

-- the chain has fewer than 2^32 lines, and 1 to 255 parts with different names; the parts have the
-- names on the DEVICE and BYPASS lines, in the order of the lines, and keep the rules of a part
pub record IsSelected (chain : ChainWithParts) : Type 0 where
  pub few : length chain.lines < 2 ^ 32
  pub selected : IsChain chain.lines
  pub names : map (λ part. part.name) chain.parts ≡ names_of (named PartName chain.lines)
  pub kinds : All (λ part. IsPart part.kind) chain.parts
