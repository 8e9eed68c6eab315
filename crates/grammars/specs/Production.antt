-- The productions of grammars. `Whole` says which lists of tokens are derived, with which values.
-- `Cut` says which lists have no wrong token, although tokens may be missing at their end. These are the
-- prefixes of derived lists, and lists that only a part that derives nothing could continue (see `none`).
use Rattle.std.specs.Prelude.{◌≡◌, ℕ, zero, suc, List, [], ◌∷◌, ◌++◌, Option, Some, IsSome, ◌⊎◌}
use Rattle.grammars.specs.Turn.{Turn, again, last}

pub record Production (T A : Type 0) : Type 1 where
  pub Whole : List T → A → Type 0
  pub Cut : List T → Type 0

-- the tokens are a prefix of a single token that fits: there is no token, or one token that fits
abbrev pub CutsPlace : {T A : Type 0} → (T → Option A) → List T → Type 0
CutsPlace value [] = Unit {0}
CutsPlace value (token ∷ []) = IsSome (value token)
CutsPlace value (token ∷ next ∷ tokens) = ⊥

-- one token; it fits if `value` gives a value for it
abbrev pub place : {T A : Type 0} → (T → Option A) → Production T A
place {T} value = record {
  Whole = λ tokens a. (token : T) × (tokens ≡ token ∷ []) × (value token ≡ Some a);
  Cut = CutsPlace value;
}

-- no token, with this value
abbrev pub done : {T A : Type 0} → A → Production T A
done a = record { Whole = λ tokens b. (tokens ≡ []) × (b ≡ a); Cut = λ tokens. tokens ≡ [] }

-- a production that derives no list; its only cut is the empty list
abbrev pub none : {T A : Type 0} → Production T A
none = record { Whole = λ tokens a. ⊥; Cut = λ tokens. tokens ≡ [] }

-- the tokens begin with a list that `p` derives, and `Next` is true of the value of this list and of the tokens after it
pub record Follows {T A : Type 0} (p : Production T A) (Next : A → List T → Type 0) (tokens : List T) : Type 0 where
  pub front : List T
  pub back : List T
  pub value : A
  pub split : tokens ≡ front ++ back
  pub first : p.Whole front value
  pub next : Next value back

-- A part, followed by a part that depends on the value of the first. A cut is either a cut of the
-- first part, or a whole first part followed by a cut of the second.
abbrev pub in_turn : {T A B : Type 0} → Production T A → (A → Production T B) → Production T B
in_turn p q = record {
  Whole = λ tokens b. Follows p (λ a back. (q a).Whole back b) tokens;
  Cut = λ tokens. p.Cut tokens ⊎ Follows p (λ a back. (q a).Cut back) tokens;
}

-- The production of the tokens after a turn. If another turn follows, this is `next` of the turn's state.
-- After the last turn, it derives only the empty list, with the turn's value.
abbrev pub follow : {T S A : Type 0} → (S → Production T A) → Turn S A → Production T A
follow next (again s) = next s
follow next (last a) = done a

abbrev pub turns_up_to : {T S A : Type 0} → ℕ → (S → Production T (Turn S A)) → S → Production T A
turns_up_to zero turn before = none
turns_up_to (suc n) turn before = in_turn (turn before) (follow (turns_up_to n turn))

-- A repetition of one or more turns. The first turn begins with the state `before`, and each other turn with the state that the turn before
-- it left.
abbrev pub turns : {T S A : Type 0} → (S → Production T (Turn S A)) → S → Production T A
turns turn before = record {
  Whole = λ tokens a. (n : ℕ) × (turns_up_to n turn before).Whole tokens a;
  Cut = λ tokens. (n : ℕ) × (turns_up_to n turn before).Cut tokens;
}
