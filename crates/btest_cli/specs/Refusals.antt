-- The line for the first fault of a command's texts, and the names of the texts in this line.
use Rattle.std.specs.Prelude.{[], ◌∷◌, codes}
use Rattle.command_line.specs.declared.command.Command.TheVariants.{Chain, Device, Cover, Svf, Walk, Ident, Make, Diagnose, Groups, Batch}
use Rattle.command_line.specs.Words.{Text, BoardNames, Command}
use Rattle.refusal_lines.specs.Refusals.{Names, input_fault_line, log_fault_line, batch_fault_line}
use Rattle.commands.specs.LogRead.{TextFault, Input, Log, Batch as OfBatch}

-- the line for the first fault of the texts or of the logs
abbrev pub text_fault_line : Names → TextFault → Text
text_fault_line names (Input fault) = input_fault_line names fault
text_fault_line names (Log rows fault) = log_fault_line names.log rows fault
text_fault_line names (OfBatch rows fault) = batch_fault_line names.log rows fault

-- the names of the texts of a command that works on a board; without a log, the name of the log is empty
abbrev pub board_roles : Text → BoardNames → Names
board_roles log names = record { log = log; chain = names.chain; nets = names.nets; bsdl = names.bsdl }

-- the names of the texts of a command, each name in the field for its kind of text; a kind without a text
-- has an empty name or none, and `Make`, which reads no text, has fixed names
abbrev pub roles_of : Command → Names
roles_of (Chain names) = record { log = []; chain = names.chain; nets = []; bsdl = names.bsdl }
roles_of (Device bsdl) = record { log = []; chain = []; nets = []; bsdl = bsdl ∷ [] }
roles_of (Cover names) = board_roles [] names
roles_of (Svf names) = board_roles [] names
roles_of (Walk names) = board_roles [] names
roles_of (Ident names) = record { log = []; chain = names.chain; nets = []; bsdl = names.bsdl }
roles_of (Make number) = record { log = []; chain = codes "chain"; nets = codes "nets"; bsdl = codes "bsdl" ∷ [] }
roles_of (Diagnose workers names) = board_roles names.log names.board
roles_of (Groups names) = board_roles names.log names.board
roles_of (Batch workers names) = board_roles names.log names.board
