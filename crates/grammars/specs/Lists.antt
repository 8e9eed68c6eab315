-- Lists: each entry is followed by a mark that says whether another entry follows. If tokens are not such a list,
-- `GoesWrongAt` says which entry is the first wrong one.
use Rattle.std.specs.Prelude.{◌≡◌, ℕ, zero, suc, ◌+◌, Bool, true, List, [], ◌∷◌, ◌++◌}
use Rattle.grammars.specs.Turn.{Turn, turn_of}
use Rattle.grammars.specs.Production.{Follows}
use Rattle.grammars.specs.Grammar.{Grammar, done, turns, production_of, ◌>>=◌}

-- One turn of reading a list: an entry, and a mark that says whether another entry follows. The turn appends
-- the entry to `before`, the entries read so far.
unfoldable pub list_turn : {T A : Type 0} → Grammar T A → Grammar T Bool → List A → Grammar T (Turn (List A) (List A))
list_turn entry goes_on before = do
  one ← entry
  more ← goes_on
  done (turn_of more (before ++ one ∷ []))

abbrev pub list_of : {T A : Type 0} → Grammar T A → Grammar T Bool → Grammar T (List A)
list_of entry goes_on = turns (list_turn entry goes_on) []

-- the tokens begin with `n` whole entries, and the mark after each of them says that another entry
-- follows
abbrev pub Fronts : {T A : Type 0} → Grammar T A → Grammar T Bool → ℕ → List T → Type 0
Fronts entry goes_on zero tokens = Unit {0}
Fronts entry goes_on (suc n) tokens =
    Follows (production_of entry)
    (λ one mid. Follows (production_of goes_on)
    (λ more rest. (more ≡ true) × Fronts entry goes_on n rest) mid) tokens

-- The tokens are not a list. Each entry before entry `number`, counted from 1, is whole, and the mark after it says that another entry
-- follows. This is not so for entry `number`.
pub record GoesWrongAt {T A : Type 0} (entry : Grammar T A) (goes_on : Grammar T Bool) (number : ℕ) (tokens : List T) : Type 0 where
  pub no_value : (values : List A) → (production_of (list_of entry goes_on)).Whole tokens values → ⊥
  pub whole : ℕ
  pub next : number ≡ whole + 1
  pub stand : Fronts entry goes_on whole tokens
  pub no_more : Fronts entry goes_on (suc whole) tokens → ⊥
