-- Grammars over tokens of type `T`. A grammar derives lists of tokens, and gives each of these
-- lists a value.
use Rattle.std.specs.Prelude.{Option}
use Rattle.grammars.specs.Turn.{Turn}
use Rattle.grammars.specs.Production.{Production}
use Rattle.grammars.specs.Production as production
use Rattle.grammars.specs.inner.Reader.{Reader}
use Rattle.grammars.specs.inner.Reader as reader

pub data Grammar (T : Type 0) : Type 0 → Type 1 where
  -- one token; it fits if the function gives a value for it
  place : {A : Type 0} → (T → Option A) → Grammar T A
  -- no token, with this value
  done : {A : Type 0} → A → Grammar T A
  -- a part, followed by a part that depends on the value of the first
  in_turn : {A B : Type 0} → Grammar T A → (A → Grammar T B) → Grammar T B
  -- a repetition of one or more turns; the first turn begins with the given state, and each other
  -- turn with the state that the turn before it left
  turns : {S A : Type 0} → (S → Grammar T (Turn S A)) → S → Grammar T A

-- the production of the grammar, which says which lists of tokens the grammar derives, with which values
abbrev pub production_of : {T A : Type 0} → Grammar T A → Production T A
production_of (place value) = production.place value
production_of (done a) = production.done a
production_of (in_turn p q) = production.in_turn (production_of p) (λ a. production_of (q a))
production_of (turns turn before) = production.turns (λ s. production_of (turn s)) before

-- the reader of the grammar, which finds a value of the grammar at the front of a list of tokens, or refuses the list
abbrev pub reader_of_grammar : {T A : Type 0} → Grammar T A → Reader T A
reader_of_grammar (place value) = reader.place value
reader_of_grammar (done a) = reader.done a
reader_of_grammar (in_turn p q) = reader.in_turn (reader_of_grammar p) (λ a. reader_of_grammar (q a))
reader_of_grammar (turns turn before) = reader.turns (λ s. reader_of_grammar (turn s)) before

infixl 10 ◌>>=◌
abbrev pub ◌>>=◌ : {T A B : Type 0} → Grammar T A → (A → Grammar T B) → Grammar T B
p >>= q = in_turn p q
