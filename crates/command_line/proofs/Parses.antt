-- Lemmas about the command that `clap` finds in words that are not flags. A walk is the state of
-- `clap` after it has read some words. The shape of a command is the record of its arguments and
-- settings. A row has the values that `clap` found for one argument.
use Rattle.std.proofs.Common.{◌≡◌, refl, sym, ap, subst, ◌∙◌, true, false, Bool, List, [], ◌∷◌, ◌++◌, codes, ℕ, cond, Option, Some, None, inl, inr, ◌⊎◌, append_assoc, append-nil}
use Rattle.std.specs.Prelude.{fold, is_some, not, ◌||◌, find, unwrap_or, option_map, option_and_then, length, nat_le, if◌then◌else◌, slice_get}
use Rattle.std.specs.List.{list_all}
use Rattle.std.specs.Str.{bytes_eq}
use Rattle.std.proofs.lemmas.Slice.Eq.{bytes_eq-Decides}
use Rattle.clap.specs.declared.error.kind.ErrorKind.{ErrorKind}
use Rattle.clap.specs.declared.error.kind.ErrorKind.TheVariants as kind
use Rattle.clap.specs.Walk.{subcommand_met, subcommand_or_other, word_met, answers_to, rows_after, Names, Row, Text, Walk as Turns, walk, walked, walk_from, nothing_held, idle}
use Rattle.clap.specs.Simple.{App, Shape, built, names_of, entered, is_simple, subcommand_of, with_rule, with_subcommand}
use Rattle.clap.specs.Kinds.{Kinds, IsAmong, or_else}
use Rattle.clap.specs.Faults.{other_fault, step_fault, fault_of, level_fault, entered_fault, walk_fault, turn_fault, is_simple_and_free}
use Rattle.clap.proofs.OnLiterals.{clap_on_literals}
use Rattle.side_by_side.specs.Workers.{most_workers}
use Rattle.command_line.specs.declared.command.Command.TheVariants.{Chain, Ident, Cover, Svf, Walk, Diagnose, Groups, Batch}
use Rattle.command_line.specs.Limits.{most_names}
use Rattle.command_line.specs.Words.{number_of, with_names, ChainNames, BoardNames, LogNames, Command, is_plain, parsed, board_called, log_called, chain_of, device_of, board_names_of, log_names_of, make_of, worked_of}
use Rattle.command_line.specs.Grammar.{board_words}
use Rattle.command_line.specs.inner.App.{btest_app, names_rule, top_app, worded_app}
use Rattle.command_line.specs.inner.Found.{command_in, called_found, board_found, log_found, chain_in, device_in, board_in, log_in, make_in, worked_in}
use Rattle.command_line.proofs.PlainLemmas.{Plain, AllPlain, all_plain, met, plain_fault}
use Rattle.command_line.proofs.PlaceLemmas.{end_fault, if_none, placed_from, answer_placed, row_of, TakesNames, names_placed}

is_free : is_simple_and_free btest_app ≡ true
unfolding clap_on_literals
is_free = refl

simple : is_simple btest_app ≡ true
unfolding clap_on_literals
simple = refl

-- the program's command, as `clap` builds it
abbrev built_app : App
built_app = built btest_app

abbrev top : Shape
top = built_app.top

abbrev names : Names
names = names_of built_app

abbrev start : Turns
start = walk_from nothing_held

-- the shape of a subcommand, as `clap` builds it
abbrev shape_in : App → Shape
shape_in app = unwrap_or (slice_get (built (with_subcommand top_app app.top)).subs 0) top

-- a command with these words and any number of BSDL file names
abbrev many_app : Text → List Text → App
many_app name words = with_rule (worded_app name words) names_rule

-- the faults that `clap` finds in the program's command after reading the last word, if `w` is the walk
-- after all words
abbrev whole_fault : Turns → Kinds
whole_fault w = end_fault top w (is_some (entered built_app w.stopped)) (entered_fault built_app w.stopped)

fault_parts : (words : List Text)
    → fault_of btest_app words
    ≡ or_else (walk_fault top names start words)
    (whole_fault (walk top.rules names nothing_held words))
fault_parts words = refl

-- the command that the words give, or `None` if `clap` finds a fault
abbrev answer : List Text → Option Command
answer words = if_none (fault_of btest_app words) (command_in (subcommand_of btest_app words))

-- the walk after the name of a subcommand, `name`, and the words `words`, all of which the
-- subcommand takes
abbrev stopped_at : Text → List Text → Turns
stopped_at name words = record start { stopped = Some (name, words) }

stopped_walk : (name : Text) (words rest : List Text)
    → fold (walked top.rules names) (stopped_at name words) rest ≡ stopped_at name (words ++ rest)
unfolding clap_on_literals
stopped_walk name words [] = ap (stopped_at name) (sym (append-nil words))
stopped_walk name words (word ∷ rest) =
    stopped_walk name (words ++ word ∷ []) rest
    ∙ ap (stopped_at name) (append_assoc words (word ∷ []) rest)

stopped_fault : (name : Text) (words rest : List Text) → walk_fault top names (stopped_at name words) rest ≡ []
unfolding clap_on_literals
stopped_fault name words [] = refl
stopped_fault name words (word ∷ rest) = stopped_fault name (words ++ word ∷ []) rest

-- `clap` reads the word `name` as the name of the subcommand with this shape
record Enters (name : Text) (shape : Shape) : Type 0 where
  met : walked top.rules names start name ≡ stopped_at name []
  passes : turn_fault top names start name ≡ []
  below : (rest : List Text) → whole_fault (stopped_at name rest) ≡ or_else (level_fault shape [] nothing_held rest false []) []
  finds : (rest : List Text) → entered built_app (Some (name, rest)) ≡ Some (name, rows_after shape.rules [] rest)
  no_trail : list_all (λ a. not a.trailing_var_arg) shape.rules ≡ true

-- If each word goes to the positional argument at its position, `clap` puts the words into rows. `read` then
-- finds in these rows the command that `command` returns for the words, or None if `clap` finds a fault.
abbrev Reads : Shape → (List Row → Option Command) → (List Text → Option Command) → Type 0
Reads shape read command = (words : List Text) → placed_from shape read start words ≡ command words

alone : (k : Kinds) (command : Option Command) → if_none (or_else k []) command ≡ if_none k command
alone [] command = refl
alone (k ∷ ks) command = refl

named_word : (name : Text) (shape : Shape) → Enters name shape
    → (command : List Text → Option Command) → Reads shape (called_found name) command
    → (rest : List Text) → AllPlain rest → answer (name ∷ rest) ≡ command rest
unfolding clap_on_literals
named_word name shape enters command reads rest all =
    let ends : walk top.rules names nothing_held (name ∷ rest)
    ≡ stopped_at name rest = ap (λ (v : Turns). fold (walked top.rules names) v rest) enters.met
    ∙ stopped_walk name [] rest in
    let passes : walk_fault top names start (name ∷ rest) ≡ [] =
    ap (λ (v : Turns). or_else (turn_fault top names start name) (walk_fault top names v rest)) enters.met
    ∙ ap (λ k. or_else k (walk_fault top names (stopped_at name []) rest)) enters.passes ∙ stopped_fault name [] rest in
    let fault : fault_of btest_app (name ∷ rest) ≡ or_else (level_fault shape [] nothing_held rest false []) [] =
    fault_parts (name ∷ rest)
    ∙ ap (λ k. or_else k (whole_fault (walk top.rules names nothing_held (name ∷ rest)))) passes
    ∙ ap whole_fault ends ∙ enters.below rest in
    let found : subcommand_of btest_app (name ∷ rest)
    ≡ Some (name, rows_after shape.rules [] rest) = ap
    (λ (v : Turns). entered built_app v.stopped) ends ∙ enters.finds rest in
    ap (λ k. if_none k (command_in (subcommand_of btest_app (name ∷ rest)))) fault
    ∙ ap (λ f. if_none (or_else (level_fault shape [] nothing_held rest false []) []) (command_in f)) found
    ∙ alone (level_fault shape [] nothing_held rest false []) (called_found name (rows_after shape.rules [] rest))
    ∙ answer_placed shape (called_found name) enters.no_trail rest all nothing_held 1 ∙ reads rest

few_by : {A : Type 0} (of : List Text → A) (bsdl : List Text) (few : Bool)
    → option_map of (if few then Some bsdl else None) ≡ (if few then Some (of bsdl) else None)
few_by of bsdl true = refl
few_by of bsdl false = refl

few_names : {A : Type 0} (of : List Text → A) (bsdl : List Text) → option_map of (with_names bsdl bsdl) ≡ with_names bsdl (of bsdl)
few_names of bsdl = few_by of bsdl (nat_le (length bsdl) most_names)

-- the shape of a command that works on a chain, for any name of the command
abbrev chain_shape : Text → Shape
chain_shape name = shape_in (many_app name (codes "CHAIN" ∷ []))

abbrev chain_rows : Text → List Row
chain_rows file = row_of (codes "CHAIN") file ∷ []

chain_takes : (name file : Text) → TakesNames (chain_shape name) (chain_rows file) 2
unfolding clap_on_literals
chain_takes name file [] x = record { step = λ next. refl; passes = refl; ends = refl; rows = refl }
chain_takes name file (n ∷ ns) x = record { step = λ next. refl; passes = refl; ends = refl; rows = refl }

chain_read : (name : Text) (command : ChainNames → Command)
    → Reads (chain_shape name) (λ rows. option_map command (chain_in rows))
    (λ words. option_map command (chain_of words))
unfolding clap_on_literals
chain_read name command [] = refl
chain_read name command (file ∷ []) = refl
chain_read name command (file ∷ x ∷ rest) =
    names_placed (chain_shape name) (λ rows. option_map command (chain_in rows)) (chain_rows file) 2
    (chain_takes name file) [] x rest
    ∙ ap (option_map command) (few_names (λ bsdl. record { chain = file; bsdl = bsdl }) (x ∷ rest))

-- the shape of the command `name`, if it takes one argument, which has the name `id`
abbrev single_shape : Text → Text → Shape
single_shape name id = shape_in (worded_app name (id ∷ []))

device_read : Reads (single_shape (codes "device") (codes "BSDL")) device_in device_of
unfolding clap_on_literals
device_read [] = refl
device_read (name ∷ []) = refl
device_read (name ∷ other ∷ others) = refl

make_read : Reads (single_shape (codes "make") (codes "NUMBER")) make_in make_of
unfolding clap_on_literals
make_read [] = refl
make_read (number ∷ []) = refl
make_read (number ∷ other ∷ others) = refl

-- the shape of the command `name`, if it works on a board
abbrev board_shape : Text → Shape
board_shape name = shape_in (many_app name board_words)

abbrev board_rows : Text → Text → List Row
board_rows chain nets = row_of (codes "CHAIN") chain ∷ row_of (codes "NETS") nets ∷ []

abbrev board_of_names : Text → Text → List Text → BoardNames
board_of_names chain nets bsdl = record { chain = chain; nets = nets; bsdl = bsdl }

abbrev log_of_names : Text → BoardNames → LogNames
log_of_names log board = record { log = log; board = board }

few_board : (chain nets : Text) (bsdl : List Text)
    → option_map (board_of_names chain nets) (with_names bsdl bsdl)
    ≡ with_names bsdl (board_of_names chain nets bsdl)
few_board chain nets bsdl = few_names (board_of_names chain nets) bsdl

few_log : (log chain nets : Text) (bsdl : List Text)
    → option_map (log_of_names log) (option_map (board_of_names chain nets) (with_names bsdl bsdl))
    ≡ option_map (log_of_names log) (with_names bsdl (board_of_names chain nets bsdl))
few_log log chain nets bsdl = ap (option_map (log_of_names log)) (few_board chain nets bsdl)

board_takes : (name chain nets : Text) → TakesNames (board_shape name) (board_rows chain nets) 3
unfolding clap_on_literals
board_takes name chain nets [] x = record { step = λ next. refl; passes = refl; ends = refl; rows = refl }
board_takes name chain nets (n ∷ ns) x = record { step = λ next. refl; passes = refl; ends = refl; rows = refl }

board_read : (name : Text) (command : BoardNames → Command)
    → Reads (board_shape name) (λ rows. option_map command (board_in rows))
    (λ words. option_map command (board_names_of words))
unfolding clap_on_literals
board_read name command [] = refl
board_read name command (chain ∷ []) = refl
board_read name command (chain ∷ nets ∷ []) = refl
board_read name command (chain ∷ nets ∷ x ∷ rest) =
    names_placed (board_shape name) (λ rows. option_map command (board_in rows))
    (board_rows chain nets) 3 (board_takes name chain nets) [] x rest
    ∙ ap (option_map command) (few_board chain nets (x ∷ rest))

-- the shape of a command that works on response logs with a given number of workers, for any name of the command
abbrev log_shape : Text → Shape
log_shape name = shape_in (many_app name (codes "WORKERS" ∷ codes "LOG" ∷ board_words))

abbrev log_rows : Text → Text → Text → Text → List Row
log_rows workers log chain nets = row_of (codes "WORKERS") workers ∷ row_of (codes "LOG") log ∷ board_rows chain nets

log_takes : (name workers log chain nets : Text) → TakesNames (log_shape name) (log_rows workers log chain nets) 5
unfolding clap_on_literals
log_takes name workers log chain nets [] x = record { step = λ next. refl; passes = refl; ends = refl; rows = refl }
log_takes name workers log chain nets (n ∷ ns) x = record { step = λ next. refl; passes = refl; ends = refl; rows = refl }

log_read : (name : Text) (command : ℕ → LogNames → Command) → Reads (log_shape name) (worked_in command) (worked_of command)
unfolding clap_on_literals
log_read name command [] = refl
log_read name command (workers ∷ []) = refl
log_read name command (workers ∷ log ∷ []) = refl
log_read name command (workers ∷ log ∷ chain ∷ []) = refl
log_read name command (workers ∷ log ∷ chain ∷ nets ∷ []) = refl
log_read name command (workers ∷ log ∷ chain ∷ nets ∷ x ∷ rest) =
    names_placed (log_shape name) (worked_in command) (log_rows workers log chain nets) 5
    (log_takes name workers log chain nets) [] x rest
    ∙ ap
    (option_and_then
    (λ files. option_map (λ number. command number files)
    (number_of most_workers workers))) (few_log log chain nets (x ∷ rest))

-- the shape of the command `groups`, which works on a response log and takes no number of workers
abbrev groups_shape : Shape
groups_shape = shape_in (many_app (codes "groups") (codes "LOG" ∷ board_words))

abbrev groups_rows : Text → Text → Text → List Row
groups_rows log chain nets = row_of (codes "LOG") log ∷ board_rows chain nets

groups_takes : (log chain nets : Text) → TakesNames groups_shape (groups_rows log chain nets) 4
unfolding clap_on_literals
groups_takes log chain nets [] x = record { step = λ next. refl; passes = refl; ends = refl; rows = refl }
groups_takes log chain nets (n ∷ ns) x = record { step = λ next. refl; passes = refl; ends = refl; rows = refl }

groups_read : Reads groups_shape (λ rows. option_map Groups (log_in rows)) (λ words. option_map Groups (log_names_of words))
unfolding clap_on_literals
groups_read [] = refl
groups_read (log ∷ []) = refl
groups_read (log ∷ chain ∷ []) = refl
groups_read (log ∷ chain ∷ nets ∷ []) = refl
groups_read (log ∷ chain ∷ nets ∷ x ∷ rest) =
    names_placed groups_shape (λ rows. option_map Groups (log_in rows)) (groups_rows log chain nets) 4
    (groups_takes log chain nets) [] x rest
    ∙ ap (option_map Groups) (few_log log chain nets (x ∷ rest))

chain_word : (rest : List Text) → AllPlain rest → answer (codes "chain" ∷ rest) ≡ option_map Chain (chain_of rest)
unfolding clap_on_literals
chain_word rest all =
    named_word (codes "chain") (chain_shape (codes "chain"))
    (record
    { met = refl; passes = refl; below = λ rest. refl; finds = λ rest. refl; no_trail = refl })
    (λ rest. option_map Chain (chain_of rest)) (chain_read (codes "chain") Chain) rest all

ident_word : (rest : List Text) → AllPlain rest → answer (codes "ident" ∷ rest) ≡ option_map Ident (chain_of rest)
unfolding clap_on_literals
ident_word rest all =
    named_word (codes "ident") (chain_shape (codes "ident"))
    (record
    { met = refl; passes = refl; below = λ rest. refl; finds = λ rest. refl; no_trail = refl })
    (λ rest. option_map Ident (chain_of rest)) (chain_read (codes "ident") Ident) rest all

device_word : (rest : List Text) → AllPlain rest → answer (codes "device" ∷ rest) ≡ device_of rest
unfolding clap_on_literals
device_word rest all =
    named_word (codes "device") (single_shape (codes "device") (codes "BSDL"))
    (record
    { met = refl; passes = refl; below = λ rest. refl; finds = λ rest. refl; no_trail = refl })
    (λ rest. device_of rest) (device_read) rest all

cover_word : (rest : List Text) → AllPlain rest → answer (codes "cover" ∷ rest) ≡ option_map Cover (board_names_of rest)
unfolding clap_on_literals board_found
cover_word rest all =
    named_word (codes "cover") (board_shape (codes "cover"))
    (record
    { met = refl; passes = refl; below = λ rest. refl; finds = λ rest. refl; no_trail = refl })
    (λ rest. option_map Cover (board_names_of rest)) (board_read (codes "cover") Cover) rest all

svf_word : (rest : List Text) → AllPlain rest → answer (codes "svf" ∷ rest) ≡ option_map Svf (board_names_of rest)
unfolding clap_on_literals board_found
svf_word rest all =
    named_word (codes "svf") (board_shape (codes "svf"))
    (record
    { met = refl; passes = refl; below = λ rest. refl; finds = λ rest. refl; no_trail = refl })
    (λ rest. option_map Svf (board_names_of rest)) (board_read (codes "svf") Svf) rest all

walk_word : (rest : List Text) → AllPlain rest → answer (codes "walk" ∷ rest) ≡ option_map Walk (board_names_of rest)
unfolding clap_on_literals board_found
walk_word rest all =
    named_word (codes "walk") (board_shape (codes "walk"))
    (record
    { met = refl; passes = refl; below = λ rest. refl; finds = λ rest. refl; no_trail = refl })
    (λ rest. option_map Walk (board_names_of rest)) (board_read (codes "walk") Walk) rest all

make_word : (rest : List Text) → AllPlain rest → answer (codes "make" ∷ rest) ≡ make_of rest
unfolding clap_on_literals board_found
make_word rest all =
    named_word (codes "make") (single_shape (codes "make") (codes "NUMBER"))
    (record
    { met = refl; passes = refl; below = λ rest. refl; finds = λ rest. refl; no_trail = refl })
    (λ rest. make_of rest) (make_read) rest all

diagnose_word : (rest : List Text) → AllPlain rest → answer (codes "diagnose" ∷ rest) ≡ worked_of Diagnose rest
unfolding clap_on_literals board_found log_found
diagnose_word rest all =
    named_word (codes "diagnose") (log_shape (codes "diagnose"))
    (record
    { met = refl; passes = refl; below = λ rest. refl; finds = λ rest. refl; no_trail = refl })
    (λ rest. worked_of Diagnose rest) (log_read (codes "diagnose") Diagnose) rest all

groups_word : (rest : List Text) → AllPlain rest → answer (codes "groups" ∷ rest) ≡ option_map Groups (log_names_of rest)
unfolding clap_on_literals board_found log_found
groups_word rest all =
    named_word (codes "groups") groups_shape
    (record
    { met = refl; passes = refl; below = λ rest. refl; finds = λ rest. refl; no_trail = refl })
    (λ rest. option_map Groups (log_names_of rest)) groups_read rest all

batch_word : (rest : List Text) → AllPlain rest → answer (codes "batch" ∷ rest) ≡ worked_of Batch rest
unfolding clap_on_literals board_found log_found
batch_word rest all =
    named_word (codes "batch") (log_shape (codes "batch"))
    (record
    { met = refl; passes = refl; below = λ rest. refl; finds = λ rest. refl; no_trail = refl })
    (λ rest. worked_of Batch rest) (log_read (codes "batch") Batch) rest all

-- the word differs from all these names
abbrev IsOther : Text → Names → Type 0
IsOther w [] = Unit {0}
IsOther w (name ∷ others) = (answers_to w name ≡ false) × IsOther w others

none_named : (w : Text) (all : Names) → IsOther w all → find (answers_to w) all ≡ None
none_named w [] other = refl
none_named w (name ∷ others) other = ap (λ t. cond t (Some name) (find (answers_to w) others)) other.0 ∙ none_named w others other.1

no_subcommand : (w : Text) → IsOther w names → subcommand_met names idle w ≡ None
no_subcommand w other = ap (λ s. option_map (λ (s : Text × List Text). s.0) s) (none_named w names other)

other_turn : (w : Text) → Plain w → IsOther w names → turn_fault top names start w ≡ kind.UnknownArgument ∷ kind.InvalidSubcommand ∷ []
unfolding clap_on_literals
other_turn w p other =
    ap
    (λ o. or_else (other_fault top o w nothing_held)
    (step_fault top 1 (subcommand_or_other top.rules o idle 1 w nothing_held).0
    (subcommand_or_other top.rules o idle 1 w nothing_held).1)) (no_subcommand w other)
    ∙ ap
    (λ k. or_else k
    (step_fault top 1 (word_met top.rules [] false idle 1 w nothing_held).0
    (word_met top.rules [] false idle 1 w nothing_held).1)) (plain_fault top w nothing_held p)
    ∙ ap (λ m. step_fault top 1 m.0 m.1) (met top.rules false 1 w nothing_held p)

other_word : (w : Text) (rest : List Text) → Plain w → IsOther w names → answer (w ∷ rest) ≡ None
unfolding clap_on_literals
other_word w rest p other =
    ap
    (λ k. if_none
    (or_else (or_else k (walk_fault top names (walked top.rules names start w) rest))
    (whole_fault (walk top.rules names nothing_held (w ∷ rest))))
    (command_in (subcommand_of btest_app (w ∷ rest)))) (other_turn w p other)

-- if the first word is `name`, the answer for the words is `command`, and otherwise it is `others`
named_by : (name w : Text) (rest : List Text) (command others : Option Command) (b : Bool)
    → bytes_eq name w ≡ b → answer (name ∷ rest) ≡ command
    → (bytes_eq name w ≡ false → answer (w ∷ rest) ≡ others)
    → answer (w ∷ rest) ≡ (if b then command else others)
named_by name w rest command others true test is else_is =
    subst (λ (v : Text). answer (v ∷ rest) ≡ command) ((bytes_eq-Decides name w).0 test) is
named_by name w rest command others false test is else_is = else_is test

named : (name w : Text) (rest : List Text) (command others : Option Command)
    → answer (name ∷ rest) ≡ command → (bytes_eq name w ≡ false → answer (w ∷ rest) ≡ others)
    → answer (w ∷ rest) ≡ (if bytes_eq name w then command else others)
named name w rest command others is else_is = named_by name w rest command others (bytes_eq name w) refl is else_is

no_name : (name w : Text) → bytes_eq name w ≡ false → answers_to w (name, []) ≡ false
no_name name w e = ap (λ b. b || false) e

first_word : (w : Text) (rest : List Text) → Plain w → AllPlain rest → answer (w ∷ rest) ≡ parsed (w ∷ rest)
unfolding clap_on_literals board_called log_called
first_word w rest p all =
    let if_batch : Option Command = if bytes_eq (codes "batch") w then worked_of Batch rest else None in
    let if_groups : Option Command = if bytes_eq (codes "groups") w then option_map Groups (log_names_of rest) else if_batch in
    let if_diagnose : Option Command = if bytes_eq (codes "diagnose") w then worked_of Diagnose rest else if_groups in
    let if_make : Option Command = if bytes_eq (codes "make") w then make_of rest else if_diagnose in
    let if_walk : Option Command = if bytes_eq (codes "walk") w then option_map Walk (board_names_of rest) else if_make in
    let if_svf : Option Command = if bytes_eq (codes "svf") w then option_map Svf (board_names_of rest) else if_walk in
    let if_cover : Option Command = if bytes_eq (codes "cover") w then option_map Cover (board_names_of rest) else if_svf in
    let if_device : Option Command = if bytes_eq (codes "device") w then device_of rest else if_cover in
    let if_ident : Option Command = if bytes_eq (codes "ident") w then option_map Ident (chain_of rest) else if_device in
    named (codes "chain") w rest (option_map Chain (chain_of rest)) if_ident (chain_word rest all) (λ chain.
    named (codes "ident") w rest (option_map Ident (chain_of rest)) if_device (ident_word rest all) (λ ident.
    named (codes "device") w rest (device_of rest) if_cover (device_word rest all) (λ device.
    named (codes "cover") w rest (option_map Cover (board_names_of rest)) if_svf (cover_word rest all) (λ cover.
    named (codes "svf") w rest (option_map Svf (board_names_of rest)) if_walk (svf_word rest all) (λ svf.
    named (codes "walk") w rest (option_map Walk (board_names_of rest)) if_make (walk_word rest all) (λ walk.
    named (codes "make") w rest (make_of rest) if_diagnose (make_word rest all) (λ make.
    named (codes "diagnose") w rest (worked_of Diagnose rest) if_groups (diagnose_word rest all) (λ diagnose.
    named (codes "groups") w rest (option_map Groups (log_names_of rest)) if_batch (groups_word rest all) (λ groups.
    named (codes "batch") w rest (worked_of Batch rest) None (batch_word rest all) (λ batch.
    other_word w rest p (
      no_name (codes "chain") w chain,
      (
        no_name (codes "device") w device,
        (
          no_name (codes "cover") w cover,
          (
            no_name (codes "svf") w svf,
            (
              no_name (codes "diagnose") w diagnose,
              (
                no_name (codes "make") w make,
                (
                  no_name (codes "ident") w ident,
                  (
                    no_name (codes "walk") w walk,
                    (no_name (codes "groups") w groups, (no_name (codes "batch") w batch, tt)),
                  ),
                ),
              ),
            ),
          ),
        ),
      ),
    )))))))))))

none_word : answer [] ≡ None
unfolding clap_on_literals
none_word = refl

exact : (words : List Text) → AllPlain words → answer words ≡ parsed words
exact [] all = none_word
exact (w ∷ rest) all = first_word w rest all.0 all.1

-- if `clap` finds no fault in the words, the command in `found` is the command that the words form
pub found_by : (a : App) (words : List Text) (found : Option (Text × List Row)) → a ≡ btest_app
    → list_all is_plain words ≡ true → (is_simple_and_free a ≡ true → fault_of a words ≡ [])
    → (is_simple a ≡ true → found ≡ subcommand_of a words) → command_in found ≡ parsed words
found_by a words found is plain passes finds =
    let none : fault_of btest_app words ≡ [] = subst (λ (x : App). is_simple_and_free x ≡ true → fault_of x words ≡ []) is passes is_free in
    let same : found
    ≡ subcommand_of btest_app words = subst
    (λ (x : App). is_simple x ≡ true → found ≡ subcommand_of x words) is finds simple in
    ap command_in same ∙ ap (λ k. if_none k (command_in (subcommand_of btest_app words))) (sym none) ∙ exact words (all_plain words plain)

among : (k : ErrorKind) (ks : Kinds) (command : Option Command) → IsAmong k ks → if_none ks command ≡ None
among k [] command is = absurd is
among k (x ∷ xs) command is = refl

-- if `clap` finds a fault in the words, and the fault is not lack of memory, the words form no command
pub refused_by : (a : App) (words : List Text) (k : ErrorKind) → a ≡ btest_app
    → list_all is_plain words ≡ true
    → (is_simple_and_free a ≡ true → (k ≡ kind.OutOfMemory) ⊎ IsAmong k (fault_of a words))
    → (k ≡ kind.OutOfMemory → ⊥) → None ≡ parsed words
refused_by a words k is plain err other =
    elim (subst (λ (x : App). is_simple_and_free x ≡ true → (k ≡ kind.OutOfMemory) ⊎ IsAmong k (fault_of x words)) is err is_free) [
      | inl memory ↦ absurd (other memory)
      | inr one ↦ sym
          (among k (fault_of btest_app words) (command_in (subcommand_of btest_app words)) one)
          ∙ exact words (all_plain words plain)
    ]
