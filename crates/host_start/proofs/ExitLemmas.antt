-- What the exit number of a run says about the run.
use Rattle.std.proofs.Common.{◌≡◌, ◌⊎◌, ℕ, ◌==◌, List, None, refl, inl, inr, sym, ◌∙◌, ap, subst, map, cond}
use Rattle.std.specs.Prelude.{String, string_bytes}
use Rattle.std.specs.declared.alloc.Global.{Global}
use Rattle.bt_base.specs.Counts.{Rose}
use Rattle.bt_base.specs.Puts.{Shown}
use Rattle.command_line.specs.Words.{Text, command_of, names_in_command}
use Rattle.refusal_lines.specs.Refusals.{usage_line, write_line, memory_line}
use Rattle.btest_cli.specs.declared.status.Status.{Status}
use Rattle.btest_cli.specs.declared.status.Status.TheVariants.{Done, Refused, Usage, ReadFault, WriteFault, NoMemory}
use Rattle.btest_cli.specs.ExitNumbers.{exit_number}
use Rattle.btest_cli.specs.Texts.{Held}
use Rattle.btest_cli.specs.Outcome.{AsksSome, ForCommand, IsComplete, IsCutShort, IsDone, IsNotRead, IsRefused, SomeRose, TookOrCut}
use Rattle.host_start.specs.Ending.{IsEndOf}

-- the status with this exit number
abbrev status_of : ℕ → Status
status_of number =
    cond (number == 0) Done
    (cond (number == 1) Refused
    (cond (number == 2) Usage
    (cond (number == 3) ReadFault (cond (number == 4) WriteFault NoMemory))))

status_is : (status : Status) → status_of (exit_number status) ≡ status
status_is Done = refl
status_is Refused = refl
status_is Usage = refl
status_is ReadFault = refl
status_is WriteFault = refl
status_is NoMemory = refl

module _ (words : List (String Global)) (held : Held) (before now : Text → ℕ) (asked asked' : List Text)
    (out out' notes notes' : Shown)
  where
    abbrev EndsWith : ℕ → Type 0
    EndsWith number = IsEndOf words held before now asked asked' out out' notes notes' number

    ended : (number : ℕ) → (end : EndsWith number) → end.ended ≡ status_of number
    ended number end = sym (status_is end.ended) ∙ ap status_of (sym end.exits)

    -- At 0 the command is done, and the run wrote nothing to standard error.
    ended_with_0 : EndsWith 0 → ForCommand words (λ c. IsDone held c asked asked' out out') × (notes' ≡ notes)
    ended_with_0 end = let is = ended 0 end in (end.done is, end.silent is)

    -- At 1 the texts were refused, and the run wrote nothing to standard output.
    ended_with_1 : EndsWith 1 → ForCommand words (λ c. IsRefused held c asked asked' notes notes') × (out' ≡ out)
    ended_with_1 end =
        let is : end.ended ≡ Refused = ended 1 end in
        (end.refused is, end.untouched (λ done. cc (sym is ∙ done)) (λ write. cc (sym is ∙ write)))

    -- At 2 the words are no command. The run asked for no text, and wrote the usage line.
    ended_with_2 : EndsWith 2
        → (command_of (map string_bytes words) ≡ None) × (asked' ≡ asked) × TookOrCut notes notes' usage_line
    ended_with_2 end = let is = ended 2 end in (end.usage is, end.not_asked (end.usage is), end.usage_noted is)

    -- At 3 a text was not read.
    ended_with_3 : EndsWith 3 → ForCommand words (λ c. IsNotRead held c before now asked asked' notes notes')
    ended_with_3 end = end.read (ended 3 end)

    -- At 4 a write to standard output failed.
    ended_with_4 : EndsWith 4
        → Rose out.faults out'.faults × ForCommand words (λ c. IsCutShort held c asked asked' out out')
        × TookOrCut notes notes' write_line
    ended_with_4 end = let is = ended 4 end in (end.write is, end.cut is, end.write_noted is)

    -- At 5 memory ran out.
    ended_with_5 : EndsWith 5 → TookOrCut notes notes' memory_line × ForCommand words (λ c. AsksSome c asked asked')
    ended_with_5 end = let is = ended 5 end in (end.memory_noted is, end.memory_asks is)

    -- If the words are no command, the exit number is 2, or 5 if memory ran out.
    no_command : (number : ℕ) → EndsWith number → command_of (map string_bytes words) ≡ None → (number ≡ 2) ⊎ (number ≡ 5)
    no_command number end none = by_status (end.no_command none)
      where
        by_status : (end.ended ≡ Usage) ⊎ (end.ended ≡ NoMemory) → (number ≡ 2) ⊎ (number ≡ 5)
        by_status (inl usage) = inl (end.exits ∙ ap exit_number usage)
        by_status (inr memory) = inr (end.exits ∙ ap exit_number memory)

    -- whether a run that ends with this status is complete
    abbrev Complete : Status → Type 0
    Complete status =
        ForCommand words (λ c. IsComplete held c (SomeRose before now (names_in_command c)) (Rose out.faults out'.faults) status)

    -- The outcome of the texts determines the exit number, unless a read failed.
    outcome_tells : (number : ℕ) → EndsWith number → Complete (status_of number)
    outcome_tells number end = subst Complete (ended number end) end.complete
