-- The commands with the texts of their files.
use Rattle.std.specs.Prelude.{List, [], ◌∷◌, Option, Some, None}
use Rattle.command_line.specs.declared.command.BoardFiles.{BoardFiles}
use Rattle.command_line.specs.declared.command.ChainFiles.{ChainFiles}
use Rattle.command_line.specs.declared.command.LogFiles.{LogFiles}
use Rattle.command_line.specs.declared.command.Command.{Command as CommandOf}
use Rattle.command_line.specs.declared.command.Command.TheVariants.{Chain, Ident, Device, Cover, Svf, Walk, Make, Diagnose, Groups, Batch}
use Rattle.command_line.specs.Words.{Text, Command}

-- the texts of a chain: a chain file and BSDL files
abbrev pub ChainTexts : Type 0
ChainTexts = ChainFiles Text (List Text)

-- the texts of a board: a chain file, a net file and BSDL files
abbrev pub BoardTexts : Type 0
BoardTexts = BoardFiles Text (List Text)

-- a text of response logs, and the texts of the board to which the logs belong
abbrev pub LogTexts : Type 0
LogTexts = LogFiles Text (List Text)

-- a command that holds the text of each of its files instead of the file's name
abbrev pub Request : Type 0
Request = CommandOf Text (List Text)

abbrev pub chain_texts : Text → List Text → ChainTexts
chain_texts chain bsdl = record { chain = chain; bsdl = bsdl }

abbrev pub board_texts : Text → Text → List Text → BoardTexts
board_texts chain nets bsdl = record { chain = chain; nets = nets; bsdl = bsdl }

abbrev pub log_texts : Text → Text → Text → List Text → LogTexts
log_texts log chain nets bsdl = record { log = log; board = board_texts chain nets bsdl }

-- The command with these texts, which are in the order in which the command names their files. The
-- number of BSDL texts is not compared with the number of BSDL names. The result is `None` if the
-- log, the chain file or the net file of the command is missing, or if there is not exactly one
-- text for `Device`. `Make` names no file and ignores the texts.
abbrev pub request_of : Command → List Text → Option Request
request_of (Chain names) (chain ∷ bsdl) = Some (Chain (chain_texts chain bsdl))
request_of (Ident names) (chain ∷ bsdl) = Some (Ident (chain_texts chain bsdl))
request_of (Device name) (bsdl ∷ []) = Some (Device bsdl)
request_of (Cover names) (chain ∷ nets ∷ bsdl) = Some (Cover (board_texts chain nets bsdl))
request_of (Svf names) (chain ∷ nets ∷ bsdl) = Some (Svf (board_texts chain nets bsdl))
request_of (Walk names) (chain ∷ nets ∷ bsdl) = Some (Walk (board_texts chain nets bsdl))
request_of (Make parts) texts = Some (Make parts)
request_of (Diagnose workers names) (log ∷ chain ∷ nets ∷ bsdl) = Some (Diagnose workers (log_texts log chain nets bsdl))
request_of (Groups names) (log ∷ chain ∷ nets ∷ bsdl) = Some (Groups (log_texts log chain nets bsdl))
request_of (Batch workers names) (log ∷ chain ∷ nets ∷ bsdl) = Some (Batch workers (log_texts log chain nets bsdl))
request_of command texts = None
