-- The contract of a reading function: it returns what the reader of the grammar finds in the pieces (tokens) of the
-- text.
use Rattle.std.specs.Prelude.{◌≡◌, ℕ, List, [], Bool, true, false, Option, Some, None, Result, Ok, Err}
use Rattle.std.specs.Borrow.{Bor}
use Rattle.grammars.specs.inner.Reader.{Outcome, found, refused}
use Rattle.bsdl_strings.specs.declared.stop.Stop.{Stop}
use Rattle.bsdl_strings.specs.declared.stop.Stop.TheVariants.{Memory, At}
use Rattle.bsdl_strings.specs.Pieces.{pieces}

-- the function stopped because the reader refuses the pieces of the text in `At`, or because memory
-- ran out
abbrev pub StopsOn : {A : Type 0} → Stop → Outcome (List ℕ) A → Type 0
StopsOn (Memory error) outcome = Unit {0}
StopsOn (At rest) outcome = outcome ≡ refused (pieces rest.now)

-- If the function returns a value, the outcome of the reader is `view` of this value. If the
-- function stops, the reader refuses the same piece, or memory ran out.
abbrev pub ReadsPieces : {X A : Type 0} → (X → Outcome (List ℕ) A) → Result X Stop → Outcome (List ℕ) A → Type 0
ReadsPieces view (Ok x) outcome = outcome ≡ view x
ReadsPieces view (Err stop) outcome = StopsOn stop outcome

-- the reader's outcome for a comma or the end: true and the pieces after a comma, or false and no
-- pieces at the end
abbrev pub more_of : Option (Bor (List ℕ)) → Outcome (List ℕ) Bool
more_of (Some rest) = found true (pieces rest.now)
more_of None = found false []
