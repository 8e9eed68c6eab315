-- Lemmas which say that `clap` gives the plain words of a command, which are not flags, to its positional
-- arguments in turn. A walk is the state of `clap` after it has read some words. A row has the values that
-- `clap` found for one argument.
use Rattle.std.proofs.Common.{◌≡◌, refl, sym, ap, subst, ◌∙◌, true, false, Bool, List, [], ◌∷◌, ◌++◌, codes, cond, ℕ, Option, Some, None, append_assoc}
use Rattle.std.specs.Prelude.{find, fold, not}
use Rattle.std.specs.List.{list_all}
use Rattle.std.specs.Option.{option_map_or}
use Rattle.std.proofs.lemmas.Bool.{and_parts, not-true}
use Rattle.clap.specs.declared.parser.matches.ValueSource.TheVariants.{CommandLine}
use Rattle.clap.specs.Values.{reading_of}
use Rattle.clap.specs.Facts.{parser_of_value}
use Rattle.clap.specs.Walk.{Held, Row, Rule, Text, Walk, arg_by_index, finished, is_multiple, next_position, positional_held, settled, to_positional, value, walked}
use Rattle.clap.specs.Simple.{Shape}
use Rattle.clap.specs.Kinds.{Kinds, or_else}
use Rattle.clap.specs.Faults.{check_fault, defaults_fault, settle_fault, step_fault, turn_fault, walk_fault}
use Rattle.clap.proofs.OnLiterals.{clap_on_literals}
use Rattle.command_line.specs.Words.{Command}
use Rattle.command_line.proofs.PlainLemmas.{AllPlain, before, placed, plain_turn, plain_walked}

-- the faults that `clap` finds in a command after reading its last word, if `w` is the walk after all words
abbrev pub end_fault : Shape → Walk → Bool → Kinds → Kinds
end_fault s w has_subcommand below =
    or_else below (or_else (settle_fault s.rules s.args_override_self w.held)
    (or_else (defaults_fault (settled s.rules w.held).rows s.rules)
    (check_fault s (finished s.rules w.held) has_subcommand)))

-- the command if there is no fault, and otherwise `None`
abbrev pub if_none : Kinds → Option Command → Option Command
if_none [] command = command
if_none (k ∷ ks) command = None

-- the faults of words that go to the positional arguments in turn
abbrev pub placed_fault : Shape → Walk → List Text → Kinds
placed_fault s w [] = []
placed_fault s w (word ∷ rest) = or_else (step_fault s w.position w.held value) (placed_fault s (placed s.rules w word) rest)

module _ (s : Shape) (read : List Row → Option Command) where
  -- the command that `read` finds at the end of a walk, or `None` if there is a fault during the
  -- walk or at its end
  abbrev pub answer_at : Kinds → Walk → Option Command
  answer_at fault end = if_none (or_else fault (end_fault s end false [])) (read (finished s.rules end.held))

  -- the command that `read` finds after the walk over these words
  abbrev pub answer_from : Walk → List Text → Option Command
  answer_from w words = answer_at (walk_fault s [] w words) (fold (walked s.rules []) w words)

  -- like `answer_from`, but each word goes to the positional argument at its position
  abbrev pub placed_from : Walk → List Text → Option Command
  placed_from w words = answer_at (placed_fault s w words) (fold (placed s.rules) w words)

-- if there is an argument, it does not take all remaining words unchanged
abbrev pub NoTrail : Option Rule → Type 0
NoTrail rule = option_map_or (λ a. a.trailing_var_arg) rule false ≡ false

by_test : (b : Bool) (a : Rule) (other : Option Rule) → a.trailing_var_arg ≡ false → NoTrail other → NoTrail (cond b (Some a) other)
by_test true a other is others = is
by_test false a other is others = others

no_trail : (c : List Rule) (p : Rule → Bool) → list_all (λ a. not a.trailing_var_arg) c ≡ true → NoTrail (find p c)
no_trail [] p all = refl
no_trail (a ∷ rest) p all =
    let parts = and_parts (not a.trailing_var_arg) (list_all (λ a. not a.trailing_var_arg) rest) all in
    by_test (p a) a (find p rest) (not-true a.trailing_var_arg parts.0) (no_trail rest p parts.1)

-- The walk gives each word to the positional argument at the word's position, and its faults are
-- the faults of these steps.
abbrev ArePlaced : Shape → Walk → List Text → Type 0
ArePlaced s w words =
    (fold (walked s.rules []) w words ≡ fold (placed s.rules) w words)
    × (walk_fault s [] w words ≡ placed_fault s w words)

rest_placed : (s : Shape) (rest : List Text)
    → ((many : Bool) (h : Held) (position : ℕ) → ArePlaced s (before many h position) rest)
    → (rule : Option Rule) → NoTrail rule → (word : Text) (many : Bool) (h : Held) (position : ℕ)
    → ArePlaced s (to_positional s.rules rule word (before many h position) h) rest
rest_placed s rest are None never word many h position = are many h position
rest_placed s rest are (Some a) never word many h position =
    let next : Walk = before (is_multiple a) (positional_held s.rules a word h) (next_position a position) in
    subst (λ (b : Bool). ArePlaced s (record next { is_trailing = b }) rest) (sym never)
    (are (is_multiple a) (positional_held s.rules a word h) (next_position a position))

all_placed : (s : Shape) → list_all (λ a. not a.trailing_var_arg) s.rules ≡ true
    → (words : List Text) → AllPlain words → (many : Bool) (h : Held) (position : ℕ)
    → ArePlaced s (before many h position) words
unfolding clap_on_literals
all_placed s never [] all many h position = (refl, refl)
all_placed s never (word ∷ rest) all many h position =
    let w : Walk = before many h position in
    let rule : Option Rule = arg_by_index s.rules position in
    let after : ArePlaced s (placed s.rules w word) rest = rest_placed s rest
    (all_placed s never rest all.1) rule (no_trail s.rules _ never) word many h position in
    let step : walked s.rules [] w word ≡ placed s.rules w word = plain_walked s many h position word all.0 in (
      ap (λ (v : Walk). fold (walked s.rules []) v rest) step ∙ after.0,
      ap (λ (v : Walk). or_else (turn_fault s [] w word) (walk_fault s [] v rest)) step
          ∙ ap (λ k. or_else k (walk_fault s [] (placed s.rules w word) rest))
          (plain_turn s many h position word all.0)
          ∙ ap (or_else (step_fault s position h value)) after.1,
    )

pub answer_placed : (s : Shape) (read : List Row → Option Command)
    → list_all (λ a. not a.trailing_var_arg) s.rules ≡ true → (words : List Text) → AllPlain words
    → (h : Held) (position : ℕ)
    → answer_from s read (before false h position) words
    ≡ placed_from s read (before false h position) words
answer_placed s read never words all h position =
    let are = all_placed s never words all false h position in
    ap (λ k. answer_at s read k (fold (walked s.rules []) (before false h position) words)) are.1
    ∙ ap (answer_at s read (placed_fault s (before false h position) words)) are.0

-- the row of an argument with one value
abbrev pub row_of : Text → Text → Row
row_of id word =
    record {
      id = id;
      values = word
          ∷ [];
      count = None;
      source = Some CommandLine;
      reading = reading_of (parser_of_value None);
    }

-- the row of the BSDL names, or no row if there are no names
abbrev pub names_row : List Text → List Row
names_row [] = []
names_row (name ∷ names) = record (row_of (codes "BSDL") name) { values = name ∷ names } ∷ []

-- the walk after words that give the rows `front`, the BSDL names `names` and one more BSDL name,
-- `name`
abbrev pub at_names : List Row → ℕ → List Text → Text → Walk
at_names front position names name =
    before true
    (record { rows = front ++ names_row names; pending = Some (codes "BSDL", name ∷ []); skip = 0 })
    position

-- After these names are read, the walk can take one more name, and it can end without a fault. If it ends,
-- its rows are `front` and the row of all these names.
pub record TakesName (s : Shape) (front : List Row) (position : ℕ) (names : List Text) (name : Text) : Type 0 where
  pub step : (next : Text) → placed s.rules (at_names front position names name) next ≡ at_names front position (names ++ name ∷ []) next
  pub passes : step_fault s position (at_names front position names name).held value ≡ []
  pub ends : end_fault s (at_names front position names name) false [] ≡ []
  pub rows : finished s.rules (at_names front position names name).held ≡ front ++ names_row (names ++ name ∷ [])

abbrev pub TakesNames : Shape → List Row → ℕ → Type 0
TakesNames s front position = (names : List Text) (name : Text) → TakesName s front position names name

pub names_placed : (s : Shape) (read : List Row → Option Command) (front : List Row) (position : ℕ)
    → TakesNames s front position → (names : List Text) (name : Text) (rest : List Text)
    → placed_from s read (at_names front position names name) rest
    ≡ read (front ++ names_row (names ++ name ∷ rest))
names_placed s read front position takes names name [] =
    ap (λ k. if_none k (read (finished s.rules (at_names front position names name).held)))
    (takes names name).ends ∙ ap read (takes names name).rows
names_placed s read front position takes names name (next ∷ rest) =
    let w : Walk = at_names front position names name in
    ap
    (λ k. answer_at s read (or_else k (placed_fault s (placed s.rules w next) rest))
    (fold (placed s.rules) (placed s.rules w next) rest)) (takes names name).passes
    ∙ ap (λ v. placed_from s read v rest) ((takes names name).step next)
    ∙ names_placed s read front position takes (names ++ name ∷ []) next rest
    ∙ ap (λ all. read (front ++ names_row all)) (append_assoc names (name ∷ []) (next ∷ rest))
