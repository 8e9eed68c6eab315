-- Properties of a board's chain file and net file: limits on the numbers of lines and words, and on
-- the lengths of instruction registers.
use Rattle.std.specs.Prelude.{◌<◌, ◌≤◌, ◌-◌, ◌^◌, List, length}
use Rattle.std.specs.List.{AllByRecursion}
use Rattle.board_files.specs.declared.chain_file.ChainLine.{ChainLine}
use Rattle.board_files.specs.declared.net_file.NetLine.{NetLine}
use Rattle.board_files.specs.ChainLines.{HasBypassLength}

-- The line has fewer than 2^32 words: `NET`, the name of the net, and the pins.
abbrev pub HasFewPins : NetLine → Type 0
HasFewPins line = length line.pins ≤ 2 ^ 32 - 3

-- a chain file has fewer than 2^32 lines, and the length on each BYPASS line is from 2 to 255 bits
pub record IsChainFile (lines : List ChainLine) : Type 0 where
  pub few : length lines < 2 ^ 32
  pub lengths : AllByRecursion (λ line. HasBypassLength line.statement) lines

-- a net file has fewer than 2^32 lines, and each line has fewer than 2^32 words
pub record IsNetFile (lines : List NetLine) : Type 0 where
  pub few : length lines < 2 ^ 32
  pub pins : AllByRecursion HasFewPins lines
