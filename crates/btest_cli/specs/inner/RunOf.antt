-- A run of a command, as a relation between the states before and after the run and its status.
use Rattle.std.specs.Prelude.{◌≡◌, ◌≢◌, ℕ, List}
use Rattle.bt_base.specs.Counts.{Rose}
use Rattle.bt_base.specs.Puts.{Shown}
use Rattle.btest_cli.specs.declared.status.Status.{Status}
use Rattle.btest_cli.specs.declared.status.Status.TheVariants.{Done, Refused, Usage, ReadFault, WriteFault, NoMemory}
use Rattle.command_line.specs.Words.{Text, Command}
use Rattle.refusal_lines.specs.Refusals.{write_line, memory_line}
use Rattle.btest_cli.specs.Texts.{Held}
use Rattle.btest_cli.specs.Outcome.{AsksSome, IsCutShort, IsDone, IsNotRead, IsRefused, TookOrCut}

pub record IsRunOf (command : Command) (held : Held) (before now : Text → ℕ)
    (asked asked' : List Text) (out out' notes notes' : Shown) (status : Status) : Type 0 where
  pub no_usage : status ≢ Usage
  pub done : status ≡ Done → IsDone held command asked asked' out out'
  pub silent : status ≡ Done → notes' ≡ notes
  pub refused : status ≡ Refused → IsRefused held command asked asked' notes notes'
  pub read : status ≡ ReadFault → IsNotRead held command before now asked asked' notes notes'
  pub write : status ≡ WriteFault → Rose out.faults out'.faults
  pub cut : status ≡ WriteFault → IsCutShort held command asked asked' out out'
  pub write_noted : status ≡ WriteFault → TookOrCut notes notes' write_line
  pub untouched : status ≢ Done → status ≢ WriteFault → out' ≡ out
  pub memory_noted : status ≡ NoMemory → TookOrCut notes notes' memory_line
  pub memory_asks : status ≡ NoMemory → AsksSome command asked asked'
