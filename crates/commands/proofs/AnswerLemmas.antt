-- Lemmas which say that the result of a command is an answer (`Answers`, `LogAnswers`): it agrees with what the command
-- finds in its texts and with what the sink takes.
use Rattle.std.proofs.Common.{◌≡◌, ℕ, Result, Ok, Err, refl, subst, inl, inr}
use Rattle.std.specs.Prelude.{IfSome}
use Rattle.bt_base.specs.Puts.{Puts, Shown, Takes}
use Rattle.btest_core.specs.Answers.{input_told}
use Rattle.btest_core.specs.declared.fault.InputFault.{InputFault}
use Rattle.btest_core.specs.declared.fault.InputFault.TheVariants as input
use Rattle.command_line.specs.Words.{Text}
use Rattle.commands.specs.declared.unput.Unput.{Unput}
use Rattle.commands.specs.declared.unput.Unput.TheVariants as unput
use Rattle.response_log.specs.declared.fault.LogFault.{LogFault}
use Rattle.response_log.specs.declared.fault.LogFault.TheVariants as log
use Rattle.response_log.specs.LogRows.{LogAnswer, log_told}
use Rattle.batch_diag.specs.declared.fault.BatchFault.{BatchFault}
use Rattle.batch_diag.specs.declared.fault.BatchFault.TheVariants as batch
use Rattle.batch_diag.specs.Batch.{BatchAnswer, batch_told}
use Rattle.board_defs.specs.declared.board.RawBoard.{RawBoard}
use Rattle.commands.specs.LogRead.{Judging, TextFault, Log, Batch as OfBatch}
use Rattle.commands.specs.Answers.{Answers, AnswersOn, IsBoardOf, IsJudgedOf, JudgedAnswers, LogAnswers}
use Rattle.commands.specs.Requests.{BoardTexts, LogTexts}
use Rattle.commands.specs.inner.Unput.{IsPutInPart, NoBoard, PutsText, unput_batch, unput_log, unput_of}

-- if the command finds a fault in its texts, writes nothing and returns the fault, `Answers` holds for the command
pub answers_fault : {A : Type 0} (IsFound : Result A InputFault → Type 0) (text_of : A → Text)
    (IsWorth : Text → Type 0) (shown : Shown) (fault : InputFault)
    → IfSome (input_told fault) (λ f. IsFound (Err f))
    → Answers IsFound text_of IsWorth shown shown (Err (unput_of fault))
answers_fault IsFound text_of IsWorth shown (input.Memory e) is = refl
answers_fault IsFound text_of IsWorth shown (input.Chain fault) is = (is, refl)
answers_fault IsFound text_of IsWorth shown (input.Nets fault) is = (is, refl)
answers_fault IsFound text_of IsWorth shown (input.Lex text fault) is = (is, refl)
answers_fault IsFound text_of IsWorth shown (input.Parse text fault) is = (is, refl)
answers_fault IsFound text_of IsWorth shown (input.Board fault) is = (is, refl)
answers_fault IsFound text_of IsWorth shown (input.Device text fault) is = (is, refl)
answers_fault IsFound text_of IsWorth shown (input.Link fault) is = (is, refl)
answers_fault IsFound text_of IsWorth shown (input.NoIdent line) is = (is, refl)

-- if the write succeeds, the sink takes the whole text
pub takes_by : {T E : Type 0} {x : T} {r : Result T E} (old new : Shown) (text : Text) → Puts old new text r → r ≡ Ok x → Takes old new text
takes_by {T} {E} {x} {r} old new text puts ok = (subst (λ (q : Result T E). Puts old new text q) ok puts).whole

-- if the write fails, the sink takes a prefix of the text, and the sink's count of faults rises
pub cut_short : {T E : Type 0} {e : E} {r : Result T E} (old new : Shown) (text : Text)
    → Puts old new text r → r ≡ Err e → IsPutInPart text old new
cut_short {T} {E} {e} {r} old new text puts err =
    let short = subst (λ (q : Result T E). Puts old new text q) err puts in
    record { rose = short.cause; bytes = short.cut.0; takes = short.cut.1 }

-- P holds for the result of writing a text if it holds in each of three cases: the sink takes the whole text, the sink fails and takes
-- a prefix of the text, or memory runs out.
by_put : (P : Result (Unit {0}) Unput → Type 0) (text : Text) (old new : Shown)
    (result : Result (Unit {0}) Unput) → PutsText text old new result
    → (Takes old new text → P (Ok tt)) → (IsPutInPart text old new → P (Err unput.Write))
    → (new ≡ old → P (Err unput.Memory)) → P result
by_put P text old new (Ok done) takes whole cut none = whole takes
by_put P text old new (Err (unput.Input fault)) bad whole cut none = absurd bad
by_put P text old new (Err (unput.Log rows fault)) bad whole cut none = absurd bad
by_put P text old new (Err (unput.Batch rows fault)) bad whole cut none = absurd bad
by_put P text old new (Err unput.Write) short whole cut none = cut short
by_put P text old new (Err unput.Memory) same whole cut none = none same

-- if the command finds a value, and `IsWorth` holds for the value's text, `Answers` holds for the result of
-- writing the text
pub text_answers : {A : Type 0} (IsFound : Result A InputFault → Type 0) (text_of : A → Text)
    (IsWorth : Text → Type 0) (value : A) → IsFound (Ok value)
    → (old new : Shown) (result : Result (Unit {0}) Unput) → PutsText (text_of value) old new result
    → IsWorth (text_of value) → Answers IsFound text_of IsWorth old new result
text_answers IsFound text_of IsWorth value found old new result put worth =
    by_put (Answers IsFound text_of IsWorth old new) (text_of value) old new result put
    (λ takes. record { value = value; found = found; takes = takes; worth = worth })
    (λ cut. record
    { rose = cut.rose; value = value; found = found; bytes = cut.bytes; takes = cut.takes })
    (λ same. same)

-- like `text_answers`, but for a command that reads logs
pub text_judged : {A : Type 0} (IsFound : Result A TextFault → Type 0) (text_of : A → Text)
    (IsWorth : Text → Type 0) (value : A) → IsFound (Ok value)
    → (old new : Shown) (result : Result (Unit {0}) Unput) → PutsText (text_of value) old new result
    → IsWorth (text_of value) → LogAnswers IsFound text_of IsWorth old new result
text_judged IsFound text_of IsWorth value found old new result put worth =
    by_put (LogAnswers IsFound text_of IsWorth old new) (text_of value) old new result put
    (λ takes. record { value = value; found = found; takes = takes; worth = worth })
    (λ cut. record
    { rose = cut.rose; value = value; found = found; bytes = cut.bytes; takes = cut.takes })
    (λ same. same)

pub no_board : (texts : BoardTexts) (fault : InputFault)
    → IfSome (input_told fault) (λ f. IsBoardOf texts (Err f)) → NoBoard texts (unput_of fault)
no_board texts (input.Memory e) is = tt
no_board texts (input.Chain fault) is = is
no_board texts (input.Nets fault) is = is
no_board texts (input.Lex number fault) is = is
no_board texts (input.Parse number fault) is = is
no_board texts (input.Board fault) is = is
no_board texts (input.Device number fault) is = is
no_board texts (input.Link fault) is = is
no_board texts (input.NoIdent line) is = is

-- if there is no board for this reason, and nothing is written, `Answers` holds for this reason
pub no_board_answers : (texts : BoardTexts) (text_of : RawBoard → Text) (IsWorth : Text → Type 0)
    (shown : Shown) (failure : Unput) → NoBoard texts failure
    → Answers (IsBoardOf texts) text_of IsWorth shown shown (Err failure)
no_board_answers texts text_of IsWorth shown (unput.Input fault) is = (is, refl)
no_board_answers texts text_of IsWorth shown (unput.Log rows fault) is = absurd is
no_board_answers texts text_of IsWorth shown (unput.Batch rows fault) is = absurd is
no_board_answers texts text_of IsWorth shown unput.Write is = absurd is
no_board_answers texts text_of IsWorth shown unput.Memory is = refl

-- like `no_board_answers`, but for a command that reads logs
pub no_board_judged : {L E A : Type 0} (judging : Judging L E A) (text_of : RawBoard × A → Text)
    (texts : LogTexts) (IsWorth : Text → Type 0) (shown : Shown) (failure : Unput)
    → NoBoard texts.board failure
    → LogAnswers (IsJudgedOf judging texts) text_of IsWorth shown shown (Err failure)
no_board_judged judging text_of texts IsWorth shown (unput.Input fault) is = (inl is, refl)
no_board_judged judging text_of texts IsWorth shown (unput.Log rows fault) is = absurd is
no_board_judged judging text_of texts IsWorth shown (unput.Batch rows fault) is = absurd is
no_board_judged judging text_of texts IsWorth shown unput.Write is = absurd is
no_board_judged judging text_of texts IsWorth shown unput.Memory is = refl

-- if the texts denote this board, an answer for the log and this board (`AnswersOn`) is an answer for the texts
pub judged_denoted : {L E A : Type 0} (judging : Judging L E A) (text_of : RawBoard × A → Text)
    (P : Text → RawBoard → Text → Type 0) (texts : LogTexts) (board : RawBoard)
    → IsBoardOf texts.board (Ok board)
    → (old new : Shown) (result : Result (Unit {0}) Unput)
    → AnswersOn judging text_of P texts.log board old new result
    → JudgedAnswers judging text_of P texts old new result
judged_denoted judging text_of P texts board denoted old new (Ok done) put =
    record { value = (board, put.value); found = (denoted, put.found); takes = put.takes; worth = (board, denoted, put.worth) }
judged_denoted judging text_of P texts board denoted old new (Err (unput.Input fault)) is = (inr (board, denoted, is.0), is.1)
judged_denoted judging text_of P texts board denoted old new (Err (unput.Log rows fault)) is = (inr (board, denoted, is.0), is.1)
judged_denoted judging text_of P texts board denoted old new (Err (unput.Batch rows fault)) is = (inr (board, denoted, is.0), is.1)
judged_denoted judging text_of P texts board denoted old new (Err unput.Write) cut =
    record { rose = cut.rose; value = (board, cut.value); found = (denoted, cut.found); bytes = cut.bytes; takes = cut.takes }
judged_denoted judging text_of P texts board denoted old new (Err unput.Memory) same = same

pub of_two : {A B : Type 0} (P : A → B → Type 0) {a b : A} {c d : B} → a ≡ b → c ≡ d → P a c → P b d
of_two {A} {B} P {a} {b} {c} {d} first second is = subst (λ (x : A). P x d) first (subst (P a) second is)

pub of_three : {A B C : Type 0} (P : A → B → C → Type 0) {a b : A} {c d : B} {e f : C} → a ≡ b → c ≡ d → e ≡ f → P a c e → P b d f
of_three {A} {B} {C} P {a} {b} {c} {d} {e} {f} first second third is = subst (λ (x : A). P x d f) first (of_two (P a) second third is)

-- if a command finds a fault in a log, writes nothing and returns the reason `unput_log rows fault`, `LogAnswers` holds
-- for the command
pub log_wrong : {A : Type 0} (IsFound : Result A TextFault → Type 0) (text_of : A → Text)
    (IsWorth : Text → Type 0) (shown : Shown) (rows : ℕ) (said : LogAnswer) (fault : LogFault)
    → IfSome (log_told fault) (λ f. said ≡ Err f)
    → ((f : LogFault) → said ≡ Err f → IsFound (Err (Log rows f)))
    → LogAnswers IsFound text_of IsWorth shown shown (Err (unput_log rows fault))
log_wrong IsFound text_of IsWorth shown rows said (log.Memory e) fails is = refl
log_wrong IsFound text_of IsWorth shown rows said (log.Digit line) fails is = (is (log.Digit line) fails, refl)
log_wrong IsFound text_of IsWorth shown rows said (log.Length line) fails is = (is (log.Length line) fails, refl)
log_wrong IsFound text_of IsWorth shown rows said (log.Extra line) fails is = (is (log.Extra line) fails, refl)
log_wrong IsFound text_of IsWorth shown rows said (log.Missing found) fails is = (is (log.Missing found) fails, refl)

-- if a command finds a fault in a batch, writes nothing and returns the reason `unput_batch rows fault`, `LogAnswers`
-- holds for the command
pub batch_wrong : {A : Type 0} (IsFound : Result A TextFault → Type 0) (text_of : A → Text)
    (IsWorth : Text → Type 0) (shown : Shown) (rows : ℕ) (said : BatchAnswer) (fault : BatchFault)
    → IfSome (batch_told fault) (λ f. said ≡ Err f)
    → ((f : BatchFault) → said ≡ Err f → IsFound (Err (OfBatch rows f)))
    → LogAnswers IsFound text_of IsWorth shown shown (Err (unput_batch rows fault))
batch_wrong IsFound text_of IsWorth shown rows said (batch.Memory e) fails is = refl
batch_wrong IsFound text_of IsWorth shown rows said (batch.Start line) fails is = (is (batch.Start line) fails, refl)
batch_wrong IsFound text_of IsWorth shown rows said (batch.Title line) fails is = (is (batch.Title line) fails, refl)
batch_wrong IsFound text_of IsWorth shown rows said (batch.Inner board fault) fails is = (is (batch.Inner board fault) fails, refl)
