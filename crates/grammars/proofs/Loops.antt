-- Lemmas about loops that read turns. The flag `more` says whether another turn follows.
use Rattle.std.proofs.Common.{◌≡◌, Bool, true, false, List, ◌∙◌, ap}
use Rattle.grammars.specs.Turn.{Turn, turn_of}
use Rattle.grammars.specs.inner.Reader.{Outcome, found}
use Rattle.grammars.specs.Grammar.{Grammar, turns, reader_of_grammar}
use Rattle.grammars.proofs.Grammars.{TakesToken, EachTurnTakes, goes_on, ends}

-- another turn follows, and reading on from the state `a'` has the outcome of reading all tokens
pub another : {T A : Type 0} (turn : A → Grammar T (Turn A A))
    → ((a : A) → TakesToken (turn a) × EachTurnTakes (turn a))
    → (a a' : A) (more : Bool) (tokens rest : List T) (outcome : Outcome T A)
    → reader_of_grammar (turns turn a) tokens ≡ outcome → more ≡ true
    → reader_of_grammar (turn a) tokens ≡ found (turn_of more a') rest
    → reader_of_grammar (turns turn a') rest ≡ outcome
another turn h a a' more tokens rest outcome so_far e read =
    goes_on turn h a a' tokens rest outcome so_far (read ∙ ap (λ b. found (turn_of b a') rest) e)

-- no other turn follows, so the outcome is the value of this turn and the tokens after it
pub no_other : {T A : Type 0} (turn : A → Grammar T (Turn A A))
    → ((a : A) → TakesToken (turn a) × EachTurnTakes (turn a))
    → (a a' : A) (more : Bool) (tokens rest : List T) (outcome : Outcome T A)
    → reader_of_grammar (turns turn a) tokens ≡ outcome → more ≡ false
    → reader_of_grammar (turn a) tokens ≡ found (turn_of more a') rest → outcome ≡ found a' rest
no_other turn h a a' more tokens rest outcome so_far e read =
    ends turn h a a' tokens rest outcome so_far (read ∙ ap (λ b. found (turn_of b a') rest) e)
