-- Readers, which go through tokens from left to right and find a value at the front, or refuse the tokens.
use Rattle.std.specs.Prelude.{ℕ, zero, suc, List, [], ◌∷◌, length, Option, Some, None}
use Rattle.grammars.specs.Turn.{Turn, again, last}

-- The outcome of reading: a value and the tokens after it, or a refusal and the tokens from the first one that does not fit.
pub data Outcome (T A : Type 0) : Type 0 where
  found : A → List T → Outcome T A
  refused : List T → Outcome T A

abbrev pub Reader : Type 0 → Type 0 → Type 0
Reader T A = List T → Outcome T A

-- If a value was found, runs the reader `next` on the rest. Otherwise the outcome is the refusal.
abbrev pub read_on : {T A B : Type 0} → Outcome T A → (A → Reader T B) → Outcome T B
read_on (found a rest) next = next a rest
read_on (refused rest) next = refused rest

abbrev pub in_turn : {T A B : Type 0} → Reader T A → (A → Reader T B) → Reader T B
in_turn p q tokens = read_on (p tokens) q

abbrev pub value_then : {T A : Type 0} → Option A → T → List T → Outcome T A
value_then (Some a) token tokens = found a tokens
value_then None token tokens = refused (token ∷ tokens)

abbrev pub place : {T A : Type 0} → (T → Option A) → Reader T A
place value [] = refused []
place value (token ∷ tokens) = value_then (value token) token tokens

abbrev pub done : {T A : Type 0} → A → Reader T A
done a tokens = found a tokens

abbrev pub none : {T A : Type 0} → Reader T A
none tokens = refused tokens

abbrev pub follow : {T S A : Type 0} → (S → Reader T A) → Turn S A → Reader T A
follow next (again s) = next s
follow next (last a) = done a

abbrev pub turns_up_to : {T S A : Type 0} → ℕ → (S → Reader T (Turn S A)) → S → Reader T A
turns_up_to zero turn before = none
turns_up_to (suc n) turn before = in_turn (turn before) (follow (turns_up_to n turn))

-- Reads turns up to the last one, but at most one turn more than there are tokens. This limit makes no difference if each turn takes at
-- least one token.
unfoldable pub turns : {T S A : Type 0} → (S → Reader T (Turn S A)) → S → Reader T A
turns turn before tokens = turns_up_to (suc (length tokens)) turn before tokens
