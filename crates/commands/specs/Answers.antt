-- The answers of the commands. An answer relates what a command finds in its texts to what it writes and returns.
use Rattle.std.specs.Prelude.{◌≡◌, ℕ, List, take, Result, Ok, Err}
use Rattle.bt_base.specs.Counts.{Rose}
use Rattle.bt_base.specs.Puts.{Shown, Takes}
use Rattle.board_defs.specs.declared.board.RawBoard.{RawBoard}
use Rattle.btest_core.specs.declared.fault.InputFault.{InputFault}
use Rattle.btest_core.specs.BoardRead.{IsBoardRead}
use Rattle.command_line.specs.Words.{Text}
use Rattle.commands.specs.LogRead.{Judging, OnBoard, OnDenoted, TextFault, Input, Log, Batch}
use Rattle.commands.specs.Requests.{BoardTexts, ChainTexts, LogTexts}
use Rattle.commands.specs.Worth.{OfDenoted}
use Rattle.commands.specs.declared.unput.Unput.{Unput}
use Rattle.commands.specs.declared.unput.Unput.TheVariants as unput

-- A property that holds for every text. A command whose text has no stated property uses it.
abbrev pub Nothing : Text → Type 0
Nothing text = Unit {0}

-- the command found a value, and the sink failed after it had taken a prefix of the value's text
pub record IsCutBy {A F : Type 0} (IsFound : Result A F → Type 0) (text_of : A → Text) (old new : Shown) : Type 0 where
  pub rose : Rose old.faults new.faults
  pub value : A
  pub found : IsFound (Ok value)
  pub bytes : ℕ
  pub takes : Takes old new (take bytes (text_of value))

-- the command found a value, the sink took the value's text, and `IsWorth`, the property that the
-- command promises, holds for this text
pub record IsPutBy {A F : Type 0} (IsFound : Result A F → Type 0) (text_of : A → Text)
    (IsWorth : Text → Type 0) (old new : Shown) : Type 0 where
  pub value : A
  pub found : IsFound (Ok value)
  pub takes : Takes old new (text_of value)
  pub worth : IsWorth (text_of value)

-- The answer of a command that finds a value or a fault in its texts. If it finds a value, it writes the
-- value's text, for which `IsWorth` holds, or a prefix of this text if the sink fails. If it finds a fault,
-- it writes nothing and returns the fault. If memory runs out, it writes nothing. It never returns a fault of
-- a log or of a batch.
abbrev pub Answers : {A : Type 0} → (Result A InputFault → Type 0) → (A → Text) → (Text → Type 0)
    → Shown → Shown → Result (Unit {0}) Unput → Type 0
Answers IsFound text_of IsWorth old new (Ok done) = IsPutBy IsFound text_of IsWorth old new
Answers IsFound text_of IsWorth old new (Err (unput.Input fault)) = IsFound (Err fault) × (new ≡ old)
Answers IsFound text_of IsWorth old new (Err (unput.Log rows fault)) = ⊥
Answers IsFound text_of IsWorth old new (Err (unput.Batch rows fault)) = ⊥
Answers IsFound text_of IsWorth old new (Err unput.Write) = IsCutBy IsFound text_of old new
Answers IsFound text_of IsWorth old new (Err unput.Memory) = new ≡ old

-- like `Answers`, but for a command that reads logs
abbrev pub LogAnswers : {A : Type 0} → (Result A TextFault → Type 0) → (A → Text) → (Text → Type 0)
    → Shown → Shown → Result (Unit {0}) Unput → Type 0
LogAnswers IsFound text_of IsWorth old new (Ok done) = IsPutBy IsFound text_of IsWorth old new
LogAnswers IsFound text_of IsWorth old new (Err (unput.Input fault)) = IsFound (Err (Input fault)) × (new ≡ old)
LogAnswers IsFound text_of IsWorth old new (Err (unput.Log rows fault)) = IsFound (Err (Log rows fault)) × (new ≡ old)
LogAnswers IsFound text_of IsWorth old new (Err (unput.Batch rows fault)) = IsFound (Err (Batch rows fault)) × (new ≡ old)
LogAnswers IsFound text_of IsWorth old new (Err unput.Write) = IsCutBy IsFound text_of old new
LogAnswers IsFound text_of IsWorth old new (Err unput.Memory) = new ≡ old

-- like `Answers`, but for a command whose input texts are a chain file and BSDL files
abbrev pub ChainAnswers : {A : Type 0} → (Text → List Text → Result A InputFault → Type 0)
    → (A → Text) → (ChainTexts → Text → Type 0) → ChainTexts → Shown → Shown
    → Result (Unit {0}) Unput → Type 0
ChainAnswers IsFound text_of IsWorth texts old new result = Answers (IsFound texts.chain texts.bsdl) text_of (IsWorth texts) old new result

-- `found` is the board that the texts denote, or the first fault of the texts
abbrev pub IsBoardOf : BoardTexts → Result RawBoard InputFault → Type 0
IsBoardOf texts found = IsBoardRead texts.chain texts.nets texts.bsdl found

-- the answer of a command whose output is a text about the board that the texts denote
abbrev pub BoardAnswers : (RawBoard → Text) → (BoardTexts → Text → Type 0) → BoardTexts → Shown → Shown → Result (Unit {0}) Unput → Type 0
BoardAnswers text_of IsWorth texts old new result = Answers (IsBoardOf texts) text_of (IsWorth texts) old new result

-- the answer of a command that judges a text of logs against `board`
abbrev pub AnswersOn : {L E A : Type 0} → Judging L E A → (RawBoard × A → Text)
    → (Text → RawBoard → Text → Type 0) → Text → RawBoard → Shown → Shown → Result (Unit {0}) Unput
    → Type 0
AnswersOn judging text_of IsWorth text board old new result =
    LogAnswers (OnBoard judging text board) (λ found. text_of (board, found)) (IsWorth text board)
    old new result

-- `found` is the board that the other texts denote, together with what the text of logs shows for this board, or the first fault of the
-- texts
abbrev pub IsJudgedOf : {L E A : Type 0} → Judging L E A → LogTexts → Result (RawBoard × A) TextFault → Type 0
IsJudgedOf judging texts found = OnDenoted judging texts.log texts.board.chain texts.board.nets texts.board.bsdl found

-- the answer of a command that judges a text of logs against the board that the other texts denote
abbrev pub JudgedAnswers : {L E A : Type 0} → Judging L E A → (RawBoard × A → Text)
    → (Text → RawBoard → Text → Type 0) → LogTexts → Shown → Shown → Result (Unit {0}) Unput
    → Type 0
JudgedAnswers judging text_of IsWorth texts old new result =
    LogAnswers (IsJudgedOf judging texts) text_of (OfDenoted (IsWorth texts.log) texts.board) old
    new result
