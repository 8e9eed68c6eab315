-- The program's command with its subcommands and their arguments, in terms of the definitions of `clap`.
use Rattle.std.specs.Prelude.{true, List, codes, fold, Some, if◌then◌else◌}
use Rattle.clap.specs.Walk.{Rule, Text}
use Rattle.clap.specs.Simple.{App, new_app, new_rule, on_top, with_rule, with_subcommand}
use Rattle.clap.specs.declared.builder.action.ArgAction.TheVariants.{Set, Append}
use Rattle.command_line.specs.Grammar.{Entry, grammar}

-- an argument that takes exactly one word
abbrev pub name_rule : Text → Rule
name_rule id = record (new_rule id) { required = true; action = Some Set }

-- the argument that takes any number of BSDL file names
abbrev pub names_rule : Rule
names_rule = record (new_rule (codes "BSDL")) { action = Some Append }

-- the command with an argument for one more word
abbrev pub with_word : App → Text → App
with_word app id = with_rule app (name_rule id)

-- a command with an argument for each of these words
abbrev pub worded_app : Text → List Text → App
worded_app name words = fold with_word (new_app name) words

abbrev pub top_app : App
top_app =
    on_top
    (λ s. record s {
      no_binary_name = true;
      subcommand_required = true;
      disable_help_flag = true;
      disable_help_subcommand = true;
    }) (new_app (codes "btest"))

-- the `clap` command of a command of the grammar: an argument for each word, and then, if the command takes BSDL file names, the
-- argument for them
abbrev pub entry_app : Entry → App
entry_app entry = if entry.has_names then with_rule (worded_app entry.name entry.words) names_rule else worded_app entry.name entry.words

-- the top command with these subcommands
abbrev pub app_with : List Entry → App
app_with entries = fold (λ app entry. with_subcommand app (entry_app entry).top) top_app entries

-- the program's whole command
abbrev pub btest_app : App
btest_app = app_with grammar
