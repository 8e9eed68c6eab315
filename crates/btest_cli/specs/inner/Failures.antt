-- The status of a run that did not read all its texts or did not write its whole text, and the line that says why.
use Rattle.std.specs.Prelude.{◌≡◌, ℕ, take, Result, Ok, Err}
use Rattle.bt_base.specs.Counts.{Rose}
use Rattle.bt_base.specs.Puts.{Shown, Takes}
use Rattle.command_line.specs.Words.{Text}
use Rattle.btest_cli.specs.declared.failure.Unread.{Unread}
use Rattle.btest_cli.specs.declared.failure.Unread.TheVariants as unread
use Rattle.commands.specs.Requests.{Request}
use Rattle.commands.specs.declared.unput.Unput.{Unput}
use Rattle.commands.specs.declared.unput.Unput.TheVariants as unput
use Rattle.btest_cli.specs.declared.status.Status.{Status}
use Rattle.btest_cli.specs.declared.status.Status.TheVariants.{Refused, ReadFault, WriteFault, NoMemory}
use Rattle.btest_cli.specs.declared.texts.Wanted.{Wanted as Lent}
use Rattle.btest_cli.specs.Texts.{Wanted}
use Rattle.refusal_lines.specs.Refusals.{Names, input_fault_line, log_fault_line, batch_fault_line, long_line, read_line, write_line, memory_line}
use Rattle.btest_cli.specs.Outcome.{IsGiven}
use Rattle.commands.specs.Worth.{IsWorthFor}

-- the text to read as a `Wanted`, which has the name itself instead of a borrowed name
abbrev pub wanted_view : Lent → Wanted
wanted_view wanted = record { name = wanted.name.now; limit = wanted.limit }

abbrev pub unread_status : Unread → Status
unread_status (unread.TooLong wanted) = Refused
unread_status (unread.Failed wanted) = ReadFault
unread_status unread.Memory = NoMemory

abbrev pub unread_line : Unread → Text
unread_line (unread.TooLong wanted) = long_line wanted.name.now wanted.limit
unread_line (unread.Failed wanted) = read_line wanted.name.now
unread_line unread.Memory = memory_line

abbrev pub unput_status : Unput → Status
unput_status (unput.Input fault) = Refused
unput_status (unput.Log rows fault) = Refused
unput_status (unput.Batch rows fault) = Refused
unput_status unput.Write = WriteFault
unput_status unput.Memory = NoMemory

abbrev pub unput_line : Names → Unput → Text
unput_line names (unput.Input fault) = input_fault_line names fault
unput_line names (unput.Log rows fault) = log_fault_line names.log rows fault
unput_line names (unput.Batch rows fault) = batch_fault_line names.log rows fault
unput_line names unput.Write = write_line
unput_line names unput.Memory = memory_line

-- the sink took a prefix of the text that a request gives, and the sink's count of faults rose
pub record IsSinkCut (names : Names) (request : Request) (old new : Shown) : Type 0 where
  pub rose : Rose old.faults new.faults
  pub text : Text
  pub gives : IsGiven names request (Ok text)
  pub bytes : ℕ
  pub takes : Takes old new (take bytes text)

-- the sink took the text that a request gives, and this text has the property that the command
-- promises (`IsWorthFor`)
pub record IsPut (names : Names) (request : Request) (old new : Shown) : Type 0 where
  pub text : Text
  pub gives : IsGiven names request (Ok text)
  pub takes : Takes old new text
  pub worth : IsWorthFor request text

-- `failure` is the reason why the text of a request was not written whole, and the sink took what this reason allows
abbrev pub IsUnput : Names → Request → Shown → Shown → Unput → Type 0
IsUnput names request old new (unput.Input fault) = IsGiven names request (Err (input_fault_line names fault)) × (new ≡ old)
IsUnput names request old new (unput.Log rows fault) = IsGiven names request (Err (log_fault_line names.log rows fault)) × (new ≡ old)
IsUnput names request old new (unput.Batch rows fault) = IsGiven names request (Err (batch_fault_line names.log rows fault)) × (new ≡ old)
IsUnput names request old new unput.Write = IsSinkCut names request old new
IsUnput names request old new unput.Memory = new ≡ old

-- The command handled the request correctly: if it returned no failure, the sink took the whole
-- text, and otherwise `IsUnput` holds for the failure.
abbrev pub IsAnswered : Names → Request → Shown → Shown → Result (Unit {0}) Unput → Type 0
IsAnswered names request old new (Ok done) = IsPut names request old new
IsAnswered names request old new (Err failure) = IsUnput names request old new failure
