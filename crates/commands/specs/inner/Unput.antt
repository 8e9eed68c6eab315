-- The reasons why a command writes nothing, and how much of an output the sink takes.
use Rattle.std.specs.Prelude.{◌≡◌, ℕ, take, Result, Ok, Err}
use Rattle.bt_base.specs.Counts.{Rose}
use Rattle.bt_base.specs.Puts.{Shown, Takes}
use Rattle.btest_core.specs.declared.fault.InputFault.{InputFault}
use Rattle.btest_core.specs.declared.fault.InputFault.TheVariants as input
use Rattle.response_log.specs.declared.fault.LogFault.{LogFault}
use Rattle.response_log.specs.declared.fault.LogFault.TheVariants as log
use Rattle.command_line.specs.Words.{Text}
use Rattle.batch_diag.specs.declared.fault.BatchFault.{BatchFault}
use Rattle.batch_diag.specs.declared.fault.BatchFault.TheVariants as batch
use Rattle.commands.specs.Answers.{IsBoardOf}
use Rattle.commands.specs.Requests.{BoardTexts}
use Rattle.commands.specs.declared.unput.Unput.{Unput}
use Rattle.commands.specs.declared.unput.Unput.TheVariants as unput

-- The reason why a command writes nothing if its log has this fault. `rows` is the number of rows that the log should have.
abbrev pub unput_log : ℕ → LogFault → Unput
unput_log rows (log.Memory e) = unput.Memory
unput_log rows (log.Digit line) = unput.Log rows (log.Digit line)
unput_log rows (log.Length line) = unput.Log rows (log.Length line)
unput_log rows (log.Extra line) = unput.Log rows (log.Extra line)
unput_log rows (log.Missing found) = unput.Log rows (log.Missing found)

-- The reason why a command writes nothing if its batch of logs has this fault. `rows` is the number of rows that each log should have.
abbrev pub unput_batch : ℕ → BatchFault → Unput
unput_batch rows (batch.Memory e) = unput.Memory
unput_batch rows (batch.Start line) = unput.Batch rows (batch.Start line)
unput_batch rows (batch.Title line) = unput.Batch rows (batch.Title line)
unput_batch rows (batch.Inner board fault) = unput.Batch rows (batch.Inner board fault)

-- the reason says why there is no board: the first fault of the board's texts, or lack of memory
abbrev pub NoBoard : BoardTexts → Unput → Type 0
NoBoard texts (unput.Input fault) = IsBoardOf texts (Err fault)
NoBoard texts (unput.Log rows fault) = ⊥
NoBoard texts (unput.Batch rows fault) = ⊥
NoBoard texts unput.Write = ⊥
NoBoard texts unput.Memory = Unit {0}

-- the reason why a command writes nothing if the texts have this fault
abbrev pub unput_of : InputFault → Unput
unput_of (input.Memory e) = unput.Memory
unput_of (input.Chain fault) = unput.Input (input.Chain fault)
unput_of (input.Nets fault) = unput.Input (input.Nets fault)
unput_of (input.Lex text fault) = unput.Input (input.Lex text fault)
unput_of (input.Parse text fault) = unput.Input (input.Parse text fault)
unput_of (input.Board fault) = unput.Input (input.Board fault)
unput_of (input.Device text fault) = unput.Input (input.Device text fault)
unput_of (input.Link fault) = unput.Input (input.Link fault)
unput_of (input.NoIdent line) = unput.Input (input.NoIdent line)

-- the sink failed after it had taken a prefix of the text
pub record IsPutInPart (text : Text) (old new : Shown) : Type 0 where
  pub rose : Rose old.faults new.faults
  pub bytes : ℕ
  pub takes : Takes old new (take bytes text)

-- one of three things happened: the sink took the whole text, it failed after it had taken a prefix of the text, or memory ran out before
-- the first write
abbrev pub PutsText : Text → Shown → Shown → Result (Unit {0}) Unput → Type 0
PutsText text old new (Ok done) = Takes old new text
PutsText text old new (Err (unput.Input fault)) = ⊥
PutsText text old new (Err (unput.Log rows fault)) = ⊥
PutsText text old new (Err (unput.Batch rows fault)) = ⊥
PutsText text old new (Err unput.Write) = IsPutInPart text old new
PutsText text old new (Err unput.Memory) = new ≡ old
