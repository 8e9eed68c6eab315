-- The words of the command line.
use Rattle.std.specs.Prelude.{ℕ, ◌==◌, List, [], ◌∷◌, length, nat_le, Bool, false, not, ◌&&◌, codes, Option, Some, None, option_and_then, option_map, if◌then◌else◌}
use Rattle.std.specs.Char.{is_ascii_digit}
use Rattle.std.specs.List.{list_all}
use Rattle.std.specs.Str.{bytes_eq}
use Rattle.std.specs.Str.Parse.{digits_value}
use Rattle.side_by_side.specs.Workers.{most_workers}
use Rattle.command_line.specs.declared.command.Command.{Command as CommandOf}
use Rattle.command_line.specs.declared.command.BoardFiles.{BoardFiles}
use Rattle.command_line.specs.declared.command.ChainFiles.{ChainFiles}
use Rattle.command_line.specs.declared.command.LogFiles.{LogFiles}
use Rattle.command_line.specs.declared.command.Command.TheVariants.{Chain, Ident, Device, Cover, Svf, Walk, Make, Diagnose, Groups, Batch}
use Rattle.command_line.specs.Limits.{most_names, most_made}

abbrev pub Text : Type 0
Text = List ℕ

-- A command with the names of its files. `chain` and `ident` have the file names of a chain.
-- `device` has the name of a BSDL file. `cover`, `svf` and `walk` have the file names of a board.
-- `make` has a number of parts. `groups` has the names of a file of response logs and of the files
-- of its board. `diagnose` and `batch` have these names and a number of workers (threads).
abbrev pub Command : Type 0
Command = CommandOf Text (List Text)

-- the file names of a chain: a chain file and BSDL files
abbrev pub ChainNames : Type 0
ChainNames = ChainFiles Text (List Text)

-- the file names of a board: a chain file, a net file and BSDL files
abbrev pub BoardNames : Type 0
BoardNames = BoardFiles Text (List Text)

-- the names of a file of response logs and of the files of its board
abbrev pub LogNames : Type 0
LogNames = LogFiles Text (List Text)

-- the word is not empty and does not begin with `-`
abbrev pub is_plain : Text → Bool
is_plain [] = false
is_plain (b ∷ bs) = not (b == 45)

-- the value, or `None` if there are more than `most_names` BSDL names
abbrev pub with_names : {A : Type 0} → List Text → A → Option A
with_names names value = if nat_le (length names) most_names then Some value else None

-- `n` is from `least` to `most`, both included
abbrev pub is_within : ℕ → ℕ → ℕ → Bool
is_within least most n = nat_le least n && nat_le n most

-- The value of a word of 1 to 20 decimal digits. It is `None` if the value is not from 1 to `most`, or if the word has another form.
abbrev pub number_of : ℕ → Text → Option ℕ
number_of most word =
    if list_all is_ascii_digit word && is_within 1 20 (length word)
    && is_within 1 most (digits_value 10 word) then Some (digits_value 10 word) else None

-- the file names of a chain that these words give: a chain file, then BSDL names; `None` if there
-- are no words or more than 255 BSDL names
abbrev pub chain_of : List Text → Option ChainNames
chain_of [] = None
chain_of (chain ∷ names) = with_names names (record { chain = chain; bsdl = names })

-- the command `device` that these words give: one BSDL name; `None` for any other number of words
abbrev pub device_of : List Text → Option Command
device_of [] = None
device_of (name ∷ []) = Some (Device name)
device_of (name ∷ other ∷ others) = None

-- the file names of a board that these words give: a chain file and a net file, then BSDL names;
-- `None` if there are fewer than two words or more than 255 BSDL names
abbrev pub board_names_of : List Text → Option BoardNames
board_names_of [] = None
board_names_of (chain ∷ []) = None
board_names_of (chain ∷ nets ∷ names) = with_names names (record { chain = chain; nets = nets; bsdl = names })

-- the names that these words give: the name of a file of response logs, then the file names of its board;
-- `None` if there are fewer than three words or more than 255 BSDL names
abbrev pub log_names_of : List Text → Option LogNames
log_names_of [] = None
log_names_of (log ∷ names) = option_map (λ board. record { log = log; board = board }) (board_names_of names)

-- the command `make` that these words give: one number of parts, from 1 to 255; `None` for other words
abbrev pub make_of : List Text → Option Command
make_of [] = None
make_of (number ∷ []) = option_map Make (number_of most_made number)
make_of (number ∷ other ∷ others) = None

-- The command that these words give: a number of workers, then the names of a file of response logs
-- and of the files of its board. It is `None` if the first word is not a number from 1 to 64, or if
-- the other words do not give these names.
abbrev pub worked_of : (ℕ → LogNames → Command) → List Text → Option Command
worked_of command [] = None
worked_of command (workers ∷ names) =
    option_and_then
    (λ files. option_map (λ number. command number files) (number_of most_workers workers))
    (log_names_of names)

abbrev pub diagnose_of : List Text → Option Command
diagnose_of words = worked_of Diagnose words

abbrev pub batch_of : List Text → Option Command
batch_of words = worked_of Batch words

-- The command with this name and these words, if the name is `diagnose`, `groups` or `batch`; these
-- commands read response logs. `None` for any other name, or if the words do not fit.
unfoldable pub log_called : Text → List Text → Option Command
log_called word rest =
    if bytes_eq (codes "diagnose") word then diagnose_of rest else
    if bytes_eq (codes "groups") word then option_map Groups (log_names_of rest) else
    if bytes_eq (codes "batch") word then batch_of rest else None

-- The command with this name and these words, for all names except `chain`, `ident` and `device`. `None` for
-- these and for unknown names, or if the words do not fit.
unfoldable pub board_called : Text → List Text → Option Command
board_called word rest =
    if bytes_eq (codes "cover") word then option_map Cover (board_names_of rest) else
    if bytes_eq (codes "svf") word then option_map Svf (board_names_of rest) else
    if bytes_eq (codes "walk") word then option_map Walk (board_names_of rest) else
    if bytes_eq (codes "make") word then make_of rest else log_called word rest

abbrev pub parsed : List Text → Option Command
parsed [] = None
parsed (word ∷ rest) =
    if bytes_eq (codes "chain") word then option_map Chain (chain_of rest) else
    if bytes_eq (codes "ident") word then option_map Ident (chain_of rest) else
    if bytes_eq (codes "device") word then device_of rest else board_called word rest

-- the command that the words form, or `None` if they form no command
abbrev pub command_of : List Text → Option Command
command_of words = if list_all is_plain words then parsed words else None

-- the file names of a chain: the chain file, then the BSDL files
abbrev pub chain_names : ChainNames → List Text
chain_names names = names.chain ∷ names.bsdl

-- the file names of a board: the chain file, the net file, then the BSDL files
abbrev pub board_names : BoardNames → List Text
board_names names = names.chain ∷ names.nets ∷ names.bsdl

-- the names of a file of response logs and of the files of its board, in order
abbrev pub log_names : LogNames → List Text
log_names names = names.log ∷ board_names names.board

-- the names of the files that a command reads, in the order of the command line
abbrev pub names_in_command : Command → List Text
names_in_command (Chain names) = chain_names names
names_in_command (Ident names) = chain_names names
names_in_command (Device name) = name ∷ []
names_in_command (Cover names) = board_names names
names_in_command (Svf names) = board_names names
names_in_command (Walk names) = board_names names
names_in_command (Make parts) = []
names_in_command (Diagnose workers names) = log_names names
names_in_command (Groups names) = log_names names
names_in_command (Batch workers names) = log_names names
