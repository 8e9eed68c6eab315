-- Lemmas which say that what a command writes and returns for a request agrees with an outcome of the request
-- (`IsAnswered`).
use Rattle.std.proofs.Common.{Result, Ok, Err, refl, inl, inr}
use Rattle.bt_base.specs.Puts.{Shown}
use Rattle.btest_core.specs.declared.fault.InputFault.{InputFault}
use Rattle.command_line.specs.Words.{Text}
use Rattle.commands.specs.Requests.{Request}
use Rattle.commands.specs.declared.unput.Unput.{Unput}
use Rattle.commands.specs.declared.unput.Unput.TheVariants as unput
use Rattle.commands.specs.LogRead.{TextFault, Input, Log, Batch}
use Rattle.commands.specs.Worth.{IsWorthFor}
use Rattle.commands.specs.Answers.{Answers, LogAnswers}
use Rattle.refusal_lines.specs.Refusals.{Names, input_fault_line}
use Rattle.btest_cli.specs.Refusals.{text_fault_line}
use Rattle.btest_cli.specs.Outcome.{IsGiven, IsSaid}
use Rattle.btest_cli.specs.inner.Failures.{IsAnswered}

-- if a command that reads no log writes and returns what `Answers` allows, this agrees with an outcome of the request
pub answered : {A : Type 0} (names : Names) (request : Request)
    (IsFound : Result A InputFault → Type 0) (text_of : A → Text) (IsWorth : Text → Type 0)
    (old new : Shown) (result : Result (Unit {0}) Unput)
    → ((outcome : Result Text Text) → IsSaid text_of (input_fault_line names) IsFound outcome
    → IsGiven names request outcome) → ((text : Text) → IsWorth text → IsWorthFor request text)
    → Answers IsFound text_of IsWorth old new result → IsAnswered names request old new result
answered names request IsFound text_of IsWorth old new (Ok done) gives worth put =
    record {
      text = text_of put.value;
      gives = gives (Ok (text_of put.value))
          (inl (put.value, put.found, refl));
      takes = put.takes;
      worth = worth (text_of put.value)
          put.worth;
    }
answered names request IsFound text_of IsWorth old new (Err (unput.Input fault)) gives worth
    (found, same) =
    (gives (Err (input_fault_line names fault)) (inr (fault, found, refl)), same)
answered names request IsFound text_of IsWorth old new (Err (unput.Log rows fault)) gives worth none = absurd none
answered names request IsFound text_of IsWorth old new (Err (unput.Batch rows fault)) gives worth none = absurd none
answered names request IsFound text_of IsWorth old new (Err unput.Write) gives worth cut =
    record {
      rose = cut.rose;
      text = text_of cut.value;
      gives = gives (Ok (text_of cut.value))
          (inl (cut.value, cut.found, refl));
      bytes = cut.bytes;
      takes = cut.takes;
    }
answered names request IsFound text_of IsWorth old new (Err unput.Memory) gives worth same = same

-- if a command that reads a log or a batch of logs writes and returns what `LogAnswers` allows, this agrees with an
-- outcome of the request
pub log_answered : {A : Type 0} (names : Names) (request : Request)
    (IsFound : Result A TextFault → Type 0) (text_of : A → Text) (IsWorth : Text → Type 0)
    (old new : Shown) (result : Result (Unit {0}) Unput)
    → ((outcome : Result Text Text) → IsSaid text_of (text_fault_line names) IsFound outcome
    → IsGiven names request outcome) → ((text : Text) → IsWorth text → IsWorthFor request text)
    → LogAnswers IsFound text_of IsWorth old new result → IsAnswered names request old new result
log_answered names request IsFound text_of IsWorth old new (Ok done) gives worth put =
    record {
      text = text_of put.value;
      gives = gives (Ok (text_of put.value))
          (inl (put.value, put.found, refl));
      takes = put.takes;
      worth = worth (text_of put.value)
          put.worth;
    }
log_answered names request IsFound text_of IsWorth old new (Err (unput.Input fault)) gives worth
    (found, same) =
    (gives (Err (text_fault_line names (Input fault))) (inr (Input fault, found, refl)), same)
log_answered names request IsFound text_of IsWorth old new (Err (unput.Log rows fault)) gives worth
    (found, same) =
    (gives (Err (text_fault_line names (Log rows fault))) (inr (Log rows fault, found, refl)), same)
log_answered names request IsFound text_of IsWorth old new (Err (unput.Batch rows fault)) gives
    worth (found, same) = (
      gives (Err (text_fault_line names (Batch rows fault))) (inr (Batch rows fault, found, refl)),
      same,
    )
log_answered names request IsFound text_of IsWorth old new (Err unput.Write) gives worth cut =
    record {
      rose = cut.rose;
      text = text_of cut.value;
      gives = gives (Ok (text_of cut.value))
          (inl (cut.value, cut.found, refl));
      bytes = cut.bytes;
      takes = cut.takes;
    }
log_answered names request IsFound text_of IsWorth old new (Err unput.Memory) gives worth same = same
