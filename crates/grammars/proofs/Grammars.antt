-- The reader of a grammar decides the grammar if each turn of each repetition takes at least one token.
use Rattle.std.proofs.Common.{◌≡◌, ◌<◌, List, length, ◌⊎◌, inl, inr, sym, ◌∙◌, ap}
use Rattle.grammars.specs.Turn.{Turn, again, last}
use Rattle.grammars.specs.Grammar.{Grammar, place, done, in_turn, turns, production_of, reader_of_grammar}
use Rattle.grammars.proofs.Exact.{Decides, decides_place, decides_done, decides_bind}
use Rattle.grammars.proofs.Turns.{Shrinks, keeps, decides_turns, shrinks_place, shrinks_first, shrinks_second, turns_once}
use Rattle.grammars.specs.inner.Reader.{Outcome, read_on, found, refused}
use Rattle.grammars.specs.inner.Reader as reader

-- The form of the grammar shows that each list that it derives has at least one token: `place`
-- derives one token, and one of the two parts of `in_turn` derives at least one. A repetition does not count.
abbrev pub TakesToken : {T A : Type 0} → Grammar T A → Type 0
TakesToken (place value) = Unit {0}
TakesToken (done a) = ⊥
TakesToken (in_turn {A} p q) = TakesToken p ⊎ ((a : A) → TakesToken (q a))
TakesToken (turns turn before) = ⊥

-- each turn of each repetition in the grammar takes at least one token
abbrev pub EachTurnTakes : {T A : Type 0} → Grammar T A → Type 0
EachTurnTakes (place value) = Unit {0}
EachTurnTakes (done a) = Unit {0}
EachTurnTakes (in_turn {A} p q) = EachTurnTakes p × ((a : A) → EachTurnTakes (q a))
EachTurnTakes (turns {S} turn before) = (s : S) → TakesToken (turn s) × EachTurnTakes (turn s)

pub record Read {T A : Type 0} (g : Grammar T A) : Type 0 where
  pub decides : Decides (production_of g) (reader_of_grammar g)
  pub shrinks : TakesToken g → Shrinks (reader_of_grammar g)

pub read_grammar : {T A : Type 0} (g : Grammar T A) → EachTurnTakes g → Read g
read_grammar (place value) h = record { decides = decides_place value; shrinks = λ k. shrinks_place value }
read_grammar (done a) h = record { decides = decides_done a; shrinks = λ k. absurd k }
read_grammar (in_turn p q) h = record {
  decides = decides_bind (read_grammar p h.0).decides (λ a. (read_grammar (q a) (h.1 a)).decides);
  shrinks = λ k. elim k [
    | inl t ↦ shrinks_first ((read_grammar p h.0).shrinks t) (λ a. keeps (read_grammar (q a) (h.1 a)).decides)
    | inr t ↦ shrinks_second (keeps (read_grammar p h.0).decides) (λ a. (read_grammar (q a) (h.1 a)).shrinks (t a))
  ];
}
read_grammar (turns turn before) h = record {
  decides = decides_turns (λ s. (read_grammar (turn s) (h s).1).decides) (λ s. (read_grammar (turn s) (h s).1).shrinks (h s).0) before;
  shrinks = λ k. absurd k;
}

pub decides_grammar : {T A : Type 0} (g : Grammar T A) → EachTurnTakes g → Decides (production_of g) (reader_of_grammar g)
decides_grammar g h = (read_grammar g h).decides

pub turn_at : {T S A : Type 0} (turn : S → Grammar T (Turn S A))
    → ((s : S) → TakesToken (turn s) × EachTurnTakes (turn s)) → (s : S) (tokens : List T)
    → reader_of_grammar (turns turn s) tokens
    ≡ read_on (reader_of_grammar (turn s) tokens)
    (reader.follow (λ s. reader_of_grammar (turns turn s)))
turn_at turn h s tokens = turns_once (λ s. reader_of_grammar (turn s)) (λ s. (read_grammar (turn s) (h s).1).shrinks (h s).0) s tokens

pub goes_on : {T S A : Type 0} (turn : S → Grammar T (Turn S A))
    → ((s : S) → TakesToken (turn s) × EachTurnTakes (turn s))
    → (s s' : S) (tokens rest : List T) (outcome : Outcome T A)
    → reader_of_grammar (turns turn s) tokens ≡ outcome
    → reader_of_grammar (turn s) tokens ≡ found (again s') rest
    → reader_of_grammar (turns turn s') rest ≡ outcome
goes_on turn h s s' tokens rest outcome so_far e =
    sym (ap (λ o. read_on o (reader.follow (λ s. reader_of_grammar (turns turn s)))) e) ∙ sym (turn_at turn h s tokens) ∙ so_far

pub ends : {T S A : Type 0} (turn : S → Grammar T (Turn S A))
    → ((s : S) → TakesToken (turn s) × EachTurnTakes (turn s))
    → (s : S) (a : A) (tokens rest : List T) (outcome : Outcome T A)
    → reader_of_grammar (turns turn s) tokens ≡ outcome → reader_of_grammar (turn s) tokens ≡ found (last a) rest → outcome ≡ found a rest
ends turn h s a tokens rest outcome so_far e =
    sym so_far ∙ turn_at turn h s tokens ∙ ap (λ o. read_on o (reader.follow (λ s. reader_of_grammar (turns turn s)))) e

pub stops : {T S A : Type 0} (turn : S → Grammar T (Turn S A))
    → ((s : S) → TakesToken (turn s) × EachTurnTakes (turn s))
    → (s : S) (tokens rest : List T) (outcome : Outcome T A)
    → reader_of_grammar (turns turn s) tokens ≡ outcome → reader_of_grammar (turn s) tokens ≡ refused rest → outcome ≡ refused rest
stops turn h s tokens rest outcome so_far e =
    sym so_far ∙ turn_at turn h s tokens ∙ ap (λ o. read_on o (reader.follow (λ s. reader_of_grammar (turns turn s)))) e

pub turn_shrinks : {T S A : Type 0} (turn : S → Grammar T (Turn S A))
    → ((s : S) → TakesToken (turn s) × EachTurnTakes (turn s))
    → (s : S) (t : Turn S A) (tokens rest : List T)
    → reader_of_grammar (turn s) tokens ≡ found t rest → length rest < length tokens
turn_shrinks turn h s t tokens rest e = (read_grammar (turn s) (h s).1).shrinks (h s).0 tokens t rest e
