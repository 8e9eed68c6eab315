-- The program's command, from the values that `clap` found for the arguments. The rows have these
-- values, one row for each argument.
use Rattle.std.specs.Prelude.{ℕ, List, [], codes, Option, None, option_and_then, option_map, unwrap_or, if◌then◌else◌}
use Rattle.std.specs.Str.{bytes_eq}
use Rattle.clap.specs.Simple.{subcommand_rows_of}
use Rattle.clap.specs.Walk.{Row, Text, all_of, first_of}
use Rattle.clap.specs.declared.parser.matches.ArgMatches.{ArgMatches}
use Rattle.side_by_side.specs.Workers.{most_workers}
use Rattle.command_line.specs.declared.command.Command.TheVariants.{Chain, Ident, Device, Cover, Svf, Walk, Make, Diagnose, Groups, Batch}
use Rattle.command_line.specs.Limits.{most_made}
use Rattle.command_line.specs.Words.{ChainNames, BoardNames, LogNames, Command, number_of, with_names}

-- the names of the BSDL files in the rows
abbrev pub bsdl_in : List Row → List Text
bsdl_in rows = unwrap_or (all_of (codes "BSDL") rows) []

-- the names of the BSDL files in the rows, or `None` if there are more than `most_names`
abbrev pub few_in : List Row → Option (List Text)
few_in rows = with_names (bsdl_in rows) (bsdl_in rows)

-- the names of a chain's files in the rows; `None` if the name of the chain file is missing or
-- there are more than `most_names` BSDL names
abbrev pub chain_in : List Row → Option ChainNames
chain_in rows =
    option_and_then
    (λ chain. option_map (λ bsdl. record { chain = chain; bsdl = bsdl }) (few_in rows))
    (first_of (codes "CHAIN") rows)

-- the names of a board's files in the rows; `None` if the name of the chain file or of the net file
-- is missing or there are more than `most_names` BSDL names
abbrev pub board_in : List Row → Option BoardNames
board_in rows =
    option_and_then
    (λ chain. option_and_then
    (λ nets. option_map (λ bsdl. record { chain = chain; nets = nets; bsdl = bsdl })
    (few_in rows)) (first_of (codes "NETS") rows)) (first_of (codes "CHAIN") rows)

-- The names of a file of response logs and of its board's files in the rows. It is `None` if the
-- name of the log file, the chain file or the net file is missing, or if there are more than
-- `most_names` BSDL names.
abbrev pub log_in : List Row → Option LogNames
log_in rows =
    option_and_then
    (λ log. option_map (λ board. record { log = log; board = board }) (board_in rows))
    (first_of (codes "LOG") rows)

-- the command `device` with the file name in the rows; `None` if there is no file name
abbrev pub device_in : List Row → Option Command
device_in rows = option_map Device (first_of (codes "BSDL") rows)

abbrev pub make_in : List Row → Option Command
make_in rows = option_and_then (λ number. option_map Make (number_of most_made number)) (first_of (codes "NUMBER") rows)

abbrev pub workers_in : List Row → Option ℕ
workers_in rows = option_and_then (number_of most_workers) (first_of (codes "WORKERS") rows)

abbrev pub worked_in : (ℕ → LogNames → Command) → List Row → Option Command
worked_in command rows =
    option_and_then
    (λ files. option_map (λ workers. command workers files) (workers_in rows))
    (log_in rows)

-- The command of the subcommand with this name, if the name is `diagnose`, `groups` or `batch`;
-- these commands read response logs. `None` for any other name, or if the rows form no command.
unfoldable pub log_found : Text → List Row → Option Command
log_found name rows =
    if bytes_eq (codes "diagnose") name then worked_in Diagnose rows else
    if bytes_eq (codes "groups") name then option_map Groups (log_in rows) else
    if bytes_eq (codes "batch") name then worked_in Batch rows else None

-- The command of the subcommand with this name, for all names except `chain`, `ident` and `device`. `None`
-- for these and for unknown names, or if the rows form no command.
unfoldable pub board_found : Text → List Row → Option Command
board_found name rows =
    if bytes_eq (codes "cover") name then option_map Cover (board_in rows) else
    if bytes_eq (codes "svf") name then option_map Svf (board_in rows) else
    if bytes_eq (codes "walk") name then option_map Walk (board_in rows) else
    if bytes_eq (codes "make") name then make_in rows else log_found name rows

-- the command of the subcommand with this name; `None` for an unknown name, or if the rows form no command
abbrev pub called_found : Text → List Row → Option Command
called_found name rows =
    if bytes_eq (codes "chain") name then option_map Chain (chain_in rows) else
    if bytes_eq (codes "ident") name then option_map Ident (chain_in rows) else
    if bytes_eq (codes "device") name then device_in rows else board_found name rows

-- the command of the subcommand that `clap` found, given by its name and its rows; `None` if there is no
-- subcommand, or if its rows form no command
abbrev pub command_in : Option (Text × List Row) → Option Command
command_in = option_and_then (λ found. called_found found.0 found.1)

abbrev pub found_in : Option ArgMatches → Option Command
found_in = option_and_then (λ matches. command_in (subcommand_rows_of matches))
