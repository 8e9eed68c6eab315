-- The exit number of a run, and the effect that the run has at each status.
use Rattle.std.specs.Prelude.{◌≡◌, ◌≢◌, ◌⊎◌, ℕ, List, None, String, map, string_bytes}
use Rattle.std.specs.declared.alloc.Global.{Global}
use Rattle.bt_base.specs.Counts.{Rose}
use Rattle.bt_base.specs.Puts.{Shown}
use Rattle.command_line.specs.Words.{Text, command_of, names_in_command}
use Rattle.refusal_lines.specs.Refusals.{usage_line, write_line, memory_line}
use Rattle.btest_cli.specs.declared.status.Status.{Status}
use Rattle.btest_cli.specs.declared.status.Status.TheVariants.{Done, Refused, Usage, ReadFault, WriteFault, NoMemory}
use Rattle.btest_cli.specs.ExitNumbers.{exit_number}
use Rattle.btest_cli.specs.Texts.{Held}
use Rattle.btest_cli.specs.Outcome.{AsksSome, ForCommand, IsComplete, IsCutShort, IsDone, IsNotRead, IsRefused, SomeRose, TookOrCut}

-- A run on these command-line words ended with the status `ended`, and `number` is the exit number
-- of this status. `held` has the texts of the store. The following pairs are states before and
-- after the run: `before` and `now` are the store's fault counts for each name, `asked` and
-- `asked'` are the names of the texts fetched so far, `out` and `out'` belong to standard output,
-- and `notes` and `notes'` to standard error.
pub record IsEndOf (words : List (String Global)) (held : Held) (before now : Text → ℕ)
    (asked asked' : List Text) (out out' notes notes' : Shown) (number : ℕ) : Type 0 where
  pub ended : Status
  pub exits : number ≡ exit_number ended
  pub usage : ended ≡ Usage → command_of (map string_bytes words) ≡ None
  pub no_command : command_of (map string_bytes words) ≡ None → (ended ≡ Usage) ⊎ (ended ≡ NoMemory)
  pub not_asked : command_of (map string_bytes words) ≡ None → asked' ≡ asked
  pub usage_noted : ended ≡ Usage → TookOrCut notes notes' usage_line
  pub done : ended ≡ Done → ForCommand words (λ c. IsDone held c asked asked' out out')
  pub silent : ended ≡ Done → notes' ≡ notes
  pub refused : ended ≡ Refused → ForCommand words (λ c. IsRefused held c asked asked' notes notes')
  pub read : ended ≡ ReadFault → ForCommand words (λ c. IsNotRead held c before now asked asked' notes notes')
  pub write : ended ≡ WriteFault → Rose out.faults out'.faults
  pub cut : ended ≡ WriteFault → ForCommand words (λ c. IsCutShort held c asked asked' out out')
  pub write_noted : ended ≡ WriteFault → TookOrCut notes notes' write_line
  pub memory_noted : ended ≡ NoMemory → TookOrCut notes notes' memory_line
  pub memory_asks : ended ≡ NoMemory → ForCommand words (λ c. AsksSome c asked asked')
  pub untouched : ended ≢ Done → ended ≢ WriteFault → out' ≡ out
  pub complete : ForCommand words (λ c. IsComplete held c (SomeRose before now (names_in_command c)) (Rose out.faults out'.faults) ended)
