-- The contract of a reading function: it returns what the reader of the grammar finds.
use Rattle.std.specs.Prelude.{◌≡◌, List, Result, Ok, Err}
use Rattle.grammars.specs.inner.Reader.{Outcome, Reader, found, refused}
use Rattle.bsdl_parser.specs.declared.stop.Stop.{Stop}
use Rattle.bsdl_parser.specs.declared.stop.Stop.TheVariants.{Memory, Stray}

-- the function stopped because the reader refuses its tokens and leaves `left`, or because memory
-- ran out
abbrev pub StopsBy : {T A : Type 0} → Outcome T A → List T → Stop → Type 0
StopsBy outcome left (Memory error) = Unit {0}
StopsBy outcome left Stray = outcome ≡ refused left

-- A function reads tokens from the front of `old` and leaves the tokens `new`. It returns what the reader `read` finds
-- in `old`. `view` maps the function's value to the grammar's value.
abbrev pub ReadsTokens : {T X A : Type 0} → Reader T A → List T → List T → Result X Stop → (X → A) → Type 0
ReadsTokens read old new (Ok x) view = read old ≡ found (view x) new
ReadsTokens read old new (Err stop) view = StopsBy (read old) new stop
