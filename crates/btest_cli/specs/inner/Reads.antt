-- Reads of several texts in turn.
use Rattle.std.specs.Prelude.{◌≡◌, ℕ, ◌≤◌, List, [], ◌∷◌, ◌++◌, Some, Result, Ok, Err}
use Rattle.bt_base.specs.Counts.{Rose}
use Rattle.command_line.specs.Words.{Text, Command}
use Rattle.commands.specs.Requests.{BoardTexts, ChainTexts, LogTexts, Request, request_of}
use Rattle.btest_cli.specs.declared.failure.Unread.{Unread}
use Rattle.btest_cli.specs.declared.failure.Unread.TheVariants as unread
use Rattle.btest_cli.specs.Texts.{Held, Wanted, Reading, Read, TooLong, Asks, IsRead, IsReadUpTo, names_in}
use Rattle.btest_cli.specs.inner.Failures.{wanted_view}

-- the reading with the texts `front` in front of its texts; a reading with a text that is too long stays the same
abbrev pub behind : List Text → Reading → Reading
behind front (Read texts) = Read (front ++ texts)
behind front (TooLong wanted) = TooLong wanted

-- `front` has the texts that were read for `wanted`. If `reading` is a reading of the texts `rest`, then `reading` with `front` in front is
-- a reading of `wanted` and `rest`.
abbrev pub Continues : Held → List Wanted → List Text → Type 0
Continues held wanted front =
    (rest : List Wanted) (reading : Reading) → IsRead held rest reading
    → IsRead held (wanted ++ rest) (behind front reading)

-- the run asked the store for a prefix of the texts `wanted`, and for no others
pub record AsksFirst (wanted : List Wanted) (asked asked' : List Text) : Type 0 where
  pub first : List Text
  pub others : List Text
  pub are : names_in wanted ≡ first ++ others
  pub asks : Asks asked asked' first

-- The read gave `value`, which has the texts of `wanted`. The run asked the store for each of these texts once and in order.
pub record IsReadOf {A : Type 0} (Of : A → List Text → Type 0) (wanted : List Wanted) (held : Held)
    (asked asked' : List Text) (value : A) : Type 0 where
  pub texts : List Text
  pub stands : Of value texts
  pub continues : Continues held wanted texts
  pub asks : Asks asked asked' (names_in wanted)

-- The reason says why not all texts were read. The run asked the store for the names up to the text
-- that is too long or was not read, or for a prefix of the names if memory ran out. If a text was
-- not read, the count of faults of its name rose. If a text is too long, it is the reason whatever
-- texts come after `wanted`.
abbrev pub IsUnread : List Wanted → Held → (Text → ℕ) → (Text → ℕ) → List Text → List Text → Unread → Type 0
IsUnread wanted held before now asked asked' (unread.TooLong last) =
    ((rest : List Wanted) → IsRead held (wanted ++ rest) (TooLong (wanted_view last)))
    × IsReadUpTo held wanted (wanted_view last) asked asked'
IsUnread wanted held before now asked asked' (unread.Failed last) =
    IsReadUpTo held wanted (wanted_view last) asked asked'
    × Rose (before last.name.now) (now last.name.now)
IsUnread wanted held before now asked asked' unread.Memory = AsksFirst wanted asked asked'

abbrev pub TellsRead : {A : Type 0} → (A → List Text → Type 0) → List Wanted → Held → (Text → ℕ)
    → (Text → ℕ) → List Text → List Text → Result A Unread → Type 0
TellsRead Of wanted held before now asked asked' (Ok value) = IsReadOf Of wanted held asked asked' value
TellsRead Of wanted held before now asked asked' (Err lost) = IsUnread wanted held before now asked asked' lost

-- The effect of reading texts in turn. The store holds the same texts as before, no count of faults fell, and the result agrees with the
-- names for which the store was asked.
pub record Reads {A : Type 0} (Of : A → List Text → Type 0) (wanted : List Wanted)
    (held held' : Held) (before now : Text → ℕ) (asked asked' : List Text)
    (result : Result A Unread) : Type 0 where
  pub same : held' ≡ held
  pub later : (name : Text) → before name ≤ now name
  pub told : TellsRead Of wanted held before now asked asked' result

-- `text` is the only item of `texts`
abbrev pub IsOne : Text → List Text → Type 0
IsOne text texts = texts ≡ text ∷ []

abbrev pub AreAll : List Text → List Text → Type 0
AreAll all texts = texts ≡ all

abbrev pub OfChain : ChainTexts → List Text → Type 0
OfChain chain texts = texts ≡ chain.chain ∷ chain.bsdl

abbrev pub OfBoard : BoardTexts → List Text → Type 0
OfBoard board texts = texts ≡ board.chain ∷ board.nets ∷ board.bsdl

abbrev pub OfLog : LogTexts → List Text → Type 0
OfLog log texts = texts ≡ log.log ∷ log.board.chain ∷ log.board.nets ∷ log.board.bsdl

abbrev pub OfRequest : Command → Request → List Text → Type 0
OfRequest command request texts = request_of command texts ≡ Some request
