-- If the reading of one turn stops at a token that does not fit, the reading of the whole repetition stops at this
-- token.
use Rattle.std.proofs.Common.{◌≡◌, List}
use Rattle.grammars.specs.Turn.{Turn}
use Rattle.grammars.specs.inner.Reader.{Outcome}
use Rattle.grammars.specs.Grammar.{Grammar, turns, reader_of_grammar}
use Rattle.grammars.proofs.Grammars.{TakesToken, EachTurnTakes, stops}
use Rattle.bsdl_parser.specs.declared.stop.Stop.{Stop}
use Rattle.bsdl_parser.specs.declared.stop.Stop.TheVariants.{Memory, Stray}
use Rattle.bsdl_parser.specs.inner.Reading.{StopsBy}

pub stopped : {T A : Type 0} (turn : A → Grammar T (Turn A A))
    → ((a : A) → TakesToken (turn a) × EachTurnTakes (turn a))
    → (a : A) (tokens rest : List T) (stop : Stop) (outcome : Outcome T A)
    → reader_of_grammar (turns turn a) tokens ≡ outcome → StopsBy (reader_of_grammar (turn a) tokens) rest stop → StopsBy outcome rest stop
stopped turn h a tokens rest (Memory error) outcome so_far e = tt
stopped turn h a tokens rest Stray outcome so_far e = stops turn h a tokens rest outcome so_far e
