-- Converts the faults of a chain file, a net file, a board and joined files to faults of the
-- inputs.
use Rattle.std.specs.Prelude.{Result, Ok, Err}
use Rattle.board_files.specs.declared.fault.LineFault.{LineFault}
use Rattle.board_files.specs.declared.fault.LineFault.TheVariants as line
use Rattle.board_lines.specs.declared.fault.BoardFault.{BoardFault}
use Rattle.board_lines.specs.declared.fault.BoardFault.TheVariants as board
use Rattle.series_parts.specs.declared.fault.LinkFault.{LinkFault}
use Rattle.series_parts.specs.declared.fault.LinkFault.TheVariants as link
use Rattle.btest_core.specs.declared.fault.InputFault.{InputFault}
use Rattle.btest_core.specs.declared.fault.InputFault.TheVariants.{Board, Link, Memory}

-- a fault of a chain file or a net file as a fault of the inputs
abbrev pub of_line_fault : (LineFault → InputFault) → LineFault → InputFault
of_line_fault of_file (line.Memory e) = Memory e
of_line_fault of_file (line.Statement n) = of_file (line.Statement n)
of_line_fault of_file (line.Word n) = of_file (line.Word n)
of_line_fault of_file (line.Number n) = of_file (line.Number n)

-- the result of reading a chain file or a net file, with its fault as a fault of the inputs
abbrev pub in_file : {A : Type 0} → (LineFault → InputFault) → Result A LineFault → Result A InputFault
in_file of_file (Ok lines) = Ok lines
in_file of_file (Err fault) = Err (of_line_fault of_file fault)

-- a fault of the board's files as a fault of the inputs
abbrev pub of_board_fault : BoardFault → InputFault
of_board_fault (board.Memory e) = Memory e
of_board_fault board.NoChain = Board board.NoChain
of_board_fault (board.PartTwice spot) = Board (board.PartTwice spot)
of_board_fault (board.NoEntity spot) = Board (board.NoEntity spot)
of_board_fault (board.EntityTwice text) = Board (board.EntityTwice text)
of_board_fault (board.NoPin spot) = Board (board.NoPin spot)
of_board_fault (board.PinTwice spot) = Board (board.PinTwice spot)
of_board_fault (board.InertInChain spot) = Board (board.InertInChain spot)
of_board_fault (board.NoSupplyNet spot) = Board (board.NoSupplyNet spot)
of_board_fault (board.GuardedDriver spot) = Board (board.GuardedDriver spot)
of_board_fault (board.TwoAlwaysOn spot) = Board (board.TwoAlwaysOn spot)
of_board_fault (board.Limit which) = Board (board.Limit which)
of_board_fault (board.NoPullNet spot) = Board (board.NoPullNet spot)
of_board_fault (board.PullTwice spot) = Board (board.PullTwice spot)

-- the result of the board rules, with their fault as a fault of the inputs
abbrev pub in_board : {A : Type 0} → Result A BoardFault → Result A InputFault
in_board (Ok value) = Ok value
in_board (Err fault) = Err (of_board_fault fault)

-- a fault of joining the files as a fault of the inputs
abbrev pub link_fault : LinkFault → InputFault
link_fault (link.Memory e) = Memory e
link_fault (link.NoLinkPin spot) = Link (link.NoLinkPin spot)

-- the result of joining files, with its fault as a fault of the inputs
abbrev pub in_link : {A : Type 0} → Result A LinkFault → Result A InputFault
in_link (Ok value) = Ok value
in_link (Err fault) = Err (link_fault fault)
