-- Lemmas about plain words, which are not flags. `clap` gives each of them to the positional
-- argument at its position. A walk is the state of `clap` after it has read some words.
use Rattle.std.proofs.Common.{◌≡◌, ap, ◌∙◌, true, false, Bool, List, [], ◌∷◌, ℕ, nat_eq, Some, None}
use Rattle.std.specs.Prelude.{option_and_then, if◌then◌else◌}
use Rattle.std.specs.List.{list_all}
use Rattle.std.specs.Option.{option_map_or}
use Rattle.std.specs.Str.{bytes_eq}
use Rattle.std.proofs.lemmas.Bool.{and_left, and_parts, not-true}
use Rattle.clap.specs.Lexer.{strip_byte, long_of, long_of_rest, short_of, short_of_rest}
use Rattle.clap.specs.Walk.{after_step, word_met, value, trailing, long_or_other, short_or_plain, Held, Rule, Text, Waiting, Walk, arg_by_index, to_positional, walked, idle, positional}
use Rattle.clap.specs.Simple.{Shape}
use Rattle.clap.specs.Kinds.{or_else}
use Rattle.clap.specs.Faults.{other_fault, flag_word_fault, bundle_fault, step_fault, turn_fault}
use Rattle.clap.proofs.OnLiterals.{clap_on_literals}
use Rattle.command_line.specs.Words.{is_plain}

-- the word is not a flag
pub record Plain (word : Text) : Type 0 where
  pub dashes : bytes_eq word (45 ∷ 45 ∷ []) ≡ false
  pub long : long_of word ≡ None
  pub short : short_of word ≡ None

strip-plain : (b : ℕ) (bs : Text) → nat_eq b 45 ≡ false → strip_byte 45 (b ∷ bs) ≡ None
strip-plain b bs e = ap (λ (t : Bool). (if t then Some bs else None)) e

plain : (b : ℕ) (bs : Text) → nat_eq b 45 ≡ false → Plain (b ∷ bs)
plain b bs e = record {
  dashes = and_left (nat_eq b 45) (bytes_eq bs (45 ∷ [])) e;
  long = ap (λ o. option_and_then long_of_rest (option_and_then (strip_byte 45) o)) (strip-plain b bs e);
  short = ap (λ o. option_and_then short_of_rest o) (strip-plain b bs e);
}

-- all words of the list are plain
abbrev pub AllPlain : List Text → Type 0
AllPlain [] = Unit {0}
AllPlain (w ∷ ws) = Plain w × AllPlain ws

is_plain_gives : (w : Text) → is_plain w ≡ true → Plain w
is_plain_gives [] e = absurd cc
is_plain_gives (b ∷ bs) e = plain b bs (not-true (nat_eq b 45) e)

pub all_plain : (ws : List Text) → list_all is_plain ws ≡ true → AllPlain ws
all_plain [] e = tt
all_plain (w ∷ ws) e = (
  is_plain_gives w ((and_parts (is_plain w) (list_all is_plain ws) e).0),
  all_plain ws ((and_parts (is_plain w) (list_all is_plain ws) e).1),
)

-- The state of the walk before a positional argument. `many` is true if the argument takes many values and already has one.
abbrev pub waiting_for : Bool → Waiting
waiting_for many = if many then positional else idle

pub met : (c : List Rule) (many : Bool) (position : ℕ) (word : Text) (h : Held) → Plain word
    → word_met c [] false (waiting_for many) position word h ≡ (h, value)
met c true position word h p =
    ap (λ (t : Bool). (if t then (h, trailing position) else long_or_other c positional word (long_of word) h)) p.dashes
    ∙ ap (λ l. long_or_other c positional word l h) p.long ∙ ap (λ s. short_or_plain c positional word s h) p.short
met c false position word h p =
    ap (λ (t : Bool). (if t then (h, trailing position) else long_or_other c idle word (long_of word) h)) p.dashes
    ∙ ap (λ l. long_or_other c idle word l h) p.long ∙ ap (λ s. short_or_plain c idle word s h) p.short

pub plain_fault : (s : Shape) (word : Text) (h : Held) → Plain word → other_fault s None word h ≡ []
plain_fault s word h p =
    ap (λ (t : Bool). (if t then [] else flag_word_fault s.rules s.args_override_self (long_of word) word h)) p.dashes
    ∙ ap (λ l. flag_word_fault s.rules s.args_override_self l word h) p.long
    ∙ ap (λ f. option_map_or (λ flags. bundle_fault s.rules s.args_override_self flags h) f []) p.short

-- the walk before the positional argument at this position
abbrev pub before : Bool → Held → ℕ → Walk
before many h position = record { held = h; waiting = waiting_for many; position = position; is_trailing = false; stopped = None }

-- the walk after it has given a word to the positional argument at the walk's position
abbrev pub placed : List Rule → Walk → Text → Walk
placed c w word = to_positional c (arg_by_index c w.position) word w w.held

-- if a word is plain, the walk gives the word to the positional argument at the walk's position
pub plain_walked : (s : Shape) (many : Bool) (h : Held) (position : ℕ) (word : Text) → Plain word
    → walked s.rules [] (before many h position) word ≡ placed s.rules (before many h position) word
unfolding clap_on_literals
plain_walked s many h position word p =
    ap (λ m. after_step s.rules word (before many h position) m.0 m.1)
    (met s.rules many position word h p)

turn_by : (s : Shape) (many : Bool) (h : Held) (position : ℕ) (word : Text) → Plain word
    → or_else (other_fault s None word h)
    (step_fault s position (word_met s.rules [] false (waiting_for many) position word h).0
    (word_met s.rules [] false (waiting_for many) position word h).1)
    ≡ step_fault s position h value
turn_by s many h position word p =
    ap
    (λ k. or_else k
    (step_fault s position (word_met s.rules [] false (waiting_for many) position word h).0
    (word_met s.rules [] false (waiting_for many) position word h).1)) (plain_fault s word h p)
    ∙ ap (λ m. step_fault s position m.0 m.1) (met s.rules many position word h p)

pub plain_turn : (s : Shape) (many : Bool) (h : Held) (position : ℕ) (word : Text) → Plain word
    → turn_fault s [] (before many h position) word ≡ step_fault s position h value
plain_turn s true h position word p = turn_by s true h position word p
plain_turn s false h position word p = turn_by s false h position word p
