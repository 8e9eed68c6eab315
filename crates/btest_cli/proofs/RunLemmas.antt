-- Lemmas about runs of a command. For each way in which a run ends, they say what the run did. They also say that each run satisfies
-- `IsComplete`. A run agrees with a status if `IsRunOf` holds for the run and the status.
use Rattle.std.proofs.Common.{◌≡◌, ℕ, zero, suc, Bool, true, false, nat_lt, length, List, [], ◌∷◌, Option, Some, None, Result, Ok, Err, refl, sym, ap, ◌∙◌, subst, inl, inr}
use Rattle.std.specs.Prelude.{IfSome, map, take, ◌++◌, if◌then◌else◌}
use Rattle.std.proofs.lemmas.List.{append-nil}
use Rattle.bt_base.specs.Counts.{Rose}
use Rattle.bt_base.specs.Puts.{Puts, Shown}
use Rattle.tap_defs.specs.chain.ChainScans.{chain_text}
use Rattle.tap_defs.specs.board.BoardScans.{board_text}
use Rattle.board_defs.specs.declared.board.RawBoard.{RawBoard}
use Rattle.device_check.specs.DeviceText.{device_text}
use Rattle.coverage_list.specs.CoverText.{cover_text}
use Rattle.btest_core.specs.declared.fault.InputFault.{InputFault}
use Rattle.btest_core.specs.BoardRead.{AreChainLengths, IsBoardRead, Denotes}
use Rattle.btest_core.specs.DevicesRead.{IsDeviceText}
use Rattle.ident_test.specs.Patterns.{ident_text}
use Rattle.board_gen.specs.BoardTexts as made
use Rattle.board_gen.specs.DeviceText.{bsdl_text}
use Rattle.commands.specs.Summary.{summary_text}
use Rattle.btest_core.specs.IdentsRead.{AreIdents}
use Rattle.command_line.specs.declared.command.Command.TheVariants.{Chain, Ident, Device, Cover, Svf, Walk, Make, Diagnose, Groups, Batch}
use Rattle.command_line.specs.Words.{Text, LogNames, Command, board_names, chain_names, log_names, names_in_command}
use Rattle.commands.specs.Requests.{Request}
use Rattle.commands.specs.Answers.{IsBoardOf, IsJudgedOf}
use Rattle.btest_cli.specs.declared.status.Status.{Status}
use Rattle.btest_cli.specs.declared.status.Status.TheVariants as status
use Rattle.btest_cli.specs.declared.failure.Unread.{Unread}
use Rattle.btest_cli.specs.declared.failure.Unread.TheVariants as unread
use Rattle.commands.specs.declared.unput.Unput.{Unput}
use Rattle.commands.specs.declared.unput.Unput.TheVariants as unput
use Rattle.btest_cli.specs.Texts.{Held, Wanted, Reading, Read, TooLong, IsRead, IsReadUpTo, Asks, AsksFor, names_in, logs_wanted, text_called, wanted_of, known_reading, reading_of, read_first, and_text}
use Rattle.board_defs.specs.declared.fault.Single.{Single}
use Rattle.board_defs.specs.BoardRules.{IsBoard}
use Rattle.fault_sim.specs.Diagnosis.{IsDiagnosis}
use Rattle.batch_diag.specs.declared.block.Block.{Block}
use Rattle.batch_diag.specs.Verdicts.{AreVerdicts, Verdict}
use Rattle.walk_test.specs.Laws.{OneSet}
use Rattle.walk_test.specs.WalkTest.{board_walk_text}
use Rattle.commands.specs.LogRead.{IsInputFault, IsJudgedLog, IsWrong, Judging, OnDenoted, TextFault, Input, Log, Batch as OfBatch, diagnosing, diagnosis_text, grouping, grouping_text, judging_each, verdicts_text}
use Rattle.refusal_lines.specs.Refusals.{Names, input_fault_line, log_fault_line, batch_fault_line, long_line, memory_line}
use Rattle.btest_cli.specs.Refusals.{roles_of, text_fault_line}
use Rattle.btest_cli.specs.Outcome.{AsksSome, IsComplete, IsGiven, IsOutcome, IsReadAs, IsSaid, Settles, SomeRose, TookOrCut}
use Rattle.btest_cli.proofs.ReadingLemmas.{continued}
use Rattle.btest_cli.proofs.RequestLemmas.{same_request, some_request}
use Rattle.btest_cli.specs.inner.Reads.{IsUnread, OfRequest, Reads}
use Rattle.btest_cli.specs.inner.Failures.{IsPut, IsUnput, wanted_view, unread_status, unread_line, unput_status, unput_line}
use Rattle.btest_cli.specs.inner.RunOf.{IsRunOf}

-- if a line was written to the notes, the notes took the line, in whole or in part
pub took_or_cut : {T E : Type 0} {old new : Shown} {line : Text} (r : Result T E) → Puts old new line r → TookOrCut old new line
took_or_cut (Ok x) puts = inl puts.whole
took_or_cut (Err e) puts = inr (puts.cause, puts.cut)

pub names_wanted : (names : List Text) → names_in (map text_called names) ≡ names
names_wanted [] = refl
names_wanted (name ∷ names) = ap (λ (l : List Text). name ∷ l) (names_wanted names)

names_of_logs : (names : LogNames) → names_in (logs_wanted names) ≡ log_names names
names_of_logs names = ap (λ (l : List Text). names.log ∷ l) (names_wanted (board_names names.board))

pub wanted_names : (command : Command) → names_in (wanted_of command) ≡ names_in_command command
wanted_names (Chain names) = names_wanted (chain_names names)
wanted_names (Ident names) = names_wanted (chain_names names)
wanted_names (Device name) = refl
wanted_names (Cover names) = names_wanted (board_names names)
wanted_names (Svf names) = names_wanted (board_names names)
wanted_names (Walk names) = names_wanted (board_names names)
wanted_names (Make parts) = refl
wanted_names (Diagnose workers names) = names_of_logs names
wanted_names (Groups names) = names_of_logs names
wanted_names (Batch workers names) = names_of_logs names

pub all_asked : (command : Command) (asked asked' : List Text)
    → Asks asked asked' (names_in (wanted_of command)) → Asks asked asked' (names_in_command command)
all_asked command asked asked' asks = subst (Asks asked asked') (wanted_names command) asks

all_wanted : (command : Command) (asked asked' : List Text) → Asks asked asked' (names_in_command command)
    → Asks asked asked' (names_in (wanted_of command))
all_wanted command asked asked' asks = subst (Asks asked asked') (sym (wanted_names command)) asks

-- if the read of a command's texts succeeded, the texts make the request, and the run asked for each text once and in order
pub was_read : (command : Command) {held held' : Held} {before now : Text → ℕ}
    {asked asked' : List Text} {request : Request}
    → Reads (OfRequest command) (wanted_of command) held held' before now asked asked' (Ok request)
    → IsReadAs held command asked asked' request
was_read command {held} {held'} {before} {now} {asked} {asked'} reads = record {
  texts = reads.told.texts;
  read = continued held (wanted_of command) reads.told.texts reads.told.continues;
  made = reads.told.stands;
  asks = all_asked command asked asked' reads.told.asks;
}

-- if a command's texts were read and the sink took the command's text, the run agrees with the status `Done`
pub run_put : (command : Command) (held : Held) (before now : Text → ℕ) (asked asked' : List Text)
    (request : Request) (out out' notes : Shown) → IsReadAs held command asked asked' request
    → IsPut (roles_of command) request out out'
    → IsRunOf command held before now asked asked' out out' notes notes status.Done
run_put command held before now asked asked' request out out' notes read put = record {
  no_usage = λ e. cc;
  done = λ e. record { request = request; read = read; text = put.text; gives = put.gives; takes = put.takes; worth = put.worth };
  silent = λ e. refl;
  refused = λ e. absurd cc;
  read = λ e. absurd cc;
  write = λ e. absurd cc;
  cut = λ e. absurd cc;
  write_noted = λ e. absurd cc;
  untouched = λ e f. absurd (e refl);
  memory_noted = λ e. absurd cc;
  memory_asks = λ e. absurd cc;
}

-- if a command's texts have a fault, or one of them is too long, and the notes took the line for this, the
-- run agrees with the status `Refused`
refused_run : (command : Command) (held : Held) (before now : Text → ℕ) (asked asked' : List Text)
    (reading : Reading) (line : Text) (out notes notes' : Shown)
    → IsRead held (wanted_of command) reading
    → AsksFor held (wanted_of command) reading asked asked' → IsOutcome command reading (Err line)
    → TookOrCut notes notes' line
    → IsRunOf command held before now asked asked' out out notes notes' status.Refused
refused_run command held before now asked asked' reading line out notes notes' read asks gives noted = record {
  no_usage = λ e. cc;
  done = λ e. absurd cc;
  silent = λ e. absurd cc;
  refused = λ e. record { reading = reading; read = read; asks = asks; line = line; gives = gives; noted = noted };
  read = λ e. absurd cc;
  write = λ e. absurd cc;
  cut = λ e. absurd cc;
  write_noted = λ e. absurd cc;
  untouched = λ e f. refl;
  memory_noted = λ e. absurd cc;
  memory_asks = λ e. absurd cc;
}

-- if memory ran out and the notes took the line for this, the run agrees with the status `NoMemory`
pub memory_run : (command : Command) (held : Held) (before now : Text → ℕ)
    (asked asked' : List Text) (out notes notes' : Shown) → AsksSome command asked asked'
    → TookOrCut notes notes' memory_line
    → IsRunOf command held before now asked asked' out out notes notes' status.NoMemory
memory_run command held before now asked asked' out notes notes' asks noted = record {
  no_usage = λ e. cc;
  done = λ e. absurd cc;
  silent = λ e. absurd cc;
  refused = λ e. absurd cc;
  read = λ e. absurd cc;
  write = λ e. absurd cc;
  cut = λ e. absurd cc;
  write_noted = λ e. absurd cc;
  untouched = λ e f. refl;
  memory_noted = λ e. noted;
  memory_asks = λ e. asks;
}

-- a run that asked for no text satisfies `AsksSome` with the count 0
pub none_asked : (command : Command) (asked : List Text) → AsksSome command asked asked
none_asked command asked = (zero, sym (append-nil asked))

pub none_asked_for : (command : Option Command) (asked : List Text) → IfSome command (λ c. AsksSome c asked asked)
none_asked_for None asked = tt
none_asked_for (Some command) asked = none_asked command asked

first_of : (first others : List Text) → take (length first) (first ++ others) ≡ first
first_of [] others = refl
first_of (name ∷ first) others = ap (λ (l : List Text). name ∷ l) (first_of first others)

asked_first : (command : Command) (first others asked asked' : List Text)
    → names_in_command command ≡ first ++ others → Asks asked asked' first → AsksSome command asked asked'
asked_first command first others asked asked' are asks =
    (length first, subst (Asks asked asked') (sym (ap (take (length first)) are ∙ first_of first others)) asks)

asked_all : (command : Command) (asked asked' : List Text) → Asks asked asked' (names_in_command command) → AsksSome command asked asked'
asked_all command asked asked' asks =
    asked_first command (names_in_command command) [] asked asked'
    (sym (append-nil (names_in_command command))) asks

-- if the read of the texts failed for the reason `lost`, the run agrees with the status for this reason
pub run_unread : (command : Command) (held : Held) (before now : Text → ℕ)
    (asked asked' : List Text) (lost : Unread) (out notes notes' : Shown)
    → IsUnread (wanted_of command) held before now asked asked' lost
    → TookOrCut notes notes' (unread_line lost)
    → IsRunOf command held before now asked asked' out out notes notes' (unread_status lost)
run_unread command held before now asked asked' (unread.TooLong wanted) out notes notes' is noted =
    refused_run command held before now asked asked' (TooLong (wanted_view wanted))
    (long_line wanted.name.now wanted.limit) out notes notes' whole is.1 refl noted
  where
    whole : IsRead held (wanted_of command) (TooLong (wanted_view wanted))
    whole = subst (λ (l : List Wanted). IsRead held l (TooLong (wanted_view wanted))) (append-nil (wanted_of command)) (is.0 [])
run_unread command held before now asked asked' (unread.Failed wanted) out notes notes' is noted = record {
  no_usage = λ e. cc;
  done = λ e. absurd cc;
  silent = λ e. absurd cc;
  refused = λ e. absurd cc;
  read = λ e. record { last = wanted_view wanted; asks = is.0; rose = is.1; noted = noted };
  write = λ e. absurd cc;
  cut = λ e. absurd cc;
  write_noted = λ e. absurd cc;
  untouched = λ e f. refl;
  memory_noted = λ e. absurd cc;
  memory_asks = λ e. absurd cc;
}
run_unread command held before now asked asked' unread.Memory out notes notes' is noted =
    memory_run command held before now asked asked' out notes notes'
    (asked_first command is.first is.others asked asked' (sym (wanted_names command) ∙ is.are)
    is.asks) noted

same_out : (command : Command) (held : Held) (before now : Text → ℕ) (asked asked' : List Text)
    (out out' notes notes' : Shown) (ended : Status) → out' ≡ out
    → IsRunOf command held before now asked asked' out out notes notes' ended
    → IsRunOf command held before now asked asked' out out' notes notes' ended
same_out command held before now asked asked' out out' notes notes' ended same run =
    subst (λ o. IsRunOf command held before now asked asked' out o notes notes' ended) (sym same)
    run

-- if the text was not written whole, for the reason `failure`, the run agrees with the status for this reason
pub run_unput : (command : Command) (held : Held) (before now : Text → ℕ) (asked asked' : List Text)
    (request : Request) (failure : Unput) (out out' notes notes' : Shown)
    → IsReadAs held command asked asked' request
    → IsUnput (roles_of command) request out out' failure
    → TookOrCut notes notes' (unput_line (roles_of command) failure)
    → IsRunOf command held before now asked asked' out out' notes notes' (unput_status failure)
run_unput command held before now asked asked' request (unput.Input fault) out out' notes notes' read is noted =
    same_out command held before now asked asked' out out' notes notes' status.Refused is.1
    (refused_run command held before now asked asked' (Read read.texts)
    (input_fault_line (roles_of command) fault) out notes notes' read.read
    (all_wanted command asked asked' read.asks) (request, read.made, is.0) noted)
run_unput command held before now asked asked' request (unput.Log rows fault) out out' notes notes' read is noted =
    same_out command held before now asked asked' out out' notes notes' status.Refused is.1
    (refused_run command held before now asked asked' (Read read.texts)
    (log_fault_line (roles_of command).log rows fault) out notes notes' read.read
    (all_wanted command asked asked' read.asks) (request, read.made, is.0) noted)
run_unput command held before now asked asked' request (unput.Batch rows fault) out out' notes notes' read is noted =
    same_out command held before now asked asked' out out' notes notes' status.Refused is.1
    (refused_run command held before now asked asked' (Read read.texts)
    (batch_fault_line (roles_of command).log rows fault) out notes notes' read.read
    (all_wanted command asked asked' read.asks) (request, read.made, is.0) noted)
run_unput command held before now asked asked' request unput.Write out out' notes notes' read is noted = record {
  no_usage = λ e. cc;
  done = λ e. absurd cc;
  silent = λ e. absurd cc;
  refused = λ e. absurd cc;
  read = λ e. absurd cc;
  write = λ e. is.rose;
  cut = λ e. record { request = request; read = read; text = is.text; gives = is.gives; bytes = is.bytes; takes = is.takes };
  write_noted = λ e. noted;
  untouched = λ e f. absurd (f refl);
  memory_noted = λ e. absurd cc;
  memory_asks = λ e. absurd cc;
}
run_unput command held before now asked asked' request unput.Memory out out' notes notes' read is noted =
    same_out command held before now asked asked' out out' notes notes' status.NoMemory is
    (memory_run command held before now asked asked' out notes notes'
    (asked_all command asked asked' read.asks) noted)

rose_in : (before now : Text → ℕ) (front : List Wanted) (last : Wanted) (after : List Wanted)
    → Rose (before last.name) (now last.name)
    → SomeRose before now (names_in (front ++ last ∷ after))
rose_in before now [] last after rose = inl rose
rose_in before now (wanted ∷ front) last after rose = inr (rose_in before now front last after rose)

pub rose_among : (command : Command) (held : Held) (before now : Text → ℕ)
    (asked asked' : List Text) (last : Wanted)
    → IsReadUpTo held (wanted_of command) last asked asked'
    → Rose (before last.name) (now last.name) → SomeRose before now (names_in_command command)
rose_among command held before now asked asked' last up_to rose =
    subst (SomeRose before now) (ap names_in (sym up_to.are) ∙ wanted_names command) (rose_in before now up_to.before last up_to.after rose)

-- a reading of a command's texts gives at most one outcome
abbrev pub OneOutcome : Type 0
OneOutcome =
    (command : Command) (reading : Reading) (a b : Result Text Text) → IsOutcome command reading a
    → IsOutcome command reading b → a ≡ b

-- if the reading of a command's texts is known, it gives some outcome
abbrev pub SomeOutcome : Type 0
SomeOutcome =
    (command : Command) (held : Held) (reading : Reading)
    → known_reading held (wanted_of command) ≡ Some reading
    → (outcome : Result Text Text) × IsOutcome command reading outcome

-- the status `NoMemory` is possible with every outcome
settles_memory : (rose : Type 0) (outcome : Result Text Text) → Settles rose outcome status.NoMemory
settles_memory rose (Ok text) = λ calm. inr refl
settles_memory rose (Err line) = inr refl

memory_complete : SomeOutcome → (command : Command) (held : Held) (store_rose out_rose : Type 0)
    → IsComplete held command store_rose out_rose status.NoMemory
memory_complete some command held store_rose out_rose = λ reading known no_rise.
    let outcome = some command held reading known in
    (outcome.0, outcome.1, settles_memory out_rose outcome.0)

pub memory_for : SomeOutcome
    → (command : Option Command) (held : Held) (before now : Text → ℕ) (out_rose : Type 0)
    → IfSome command
    (λ c. IsComplete held c (SomeRose before now (names_in_command c)) out_rose status.NoMemory)
memory_for some None held before now out_rose = tt
memory_for some (Some command) held before now out_rose =
    memory_complete some command held (SomeRose before now (names_in_command command)) out_rose

-- if the reading of these texts is known, every reading of them is the known one
pub one_reading : (held : Held) (wanted : List Wanted) (reading other : Reading)
    → known_reading held wanted ≡ Some reading → IsRead held wanted other → other ≡ reading
one_reading None [] reading other known read =
    let same : ◌≡◌ {A = Option Reading} (Some other) (Some reading) = sym read.1 ∙ known in
    cc
one_reading (Some held) [] reading other known read =
    let same : ◌≡◌ {A = Option Reading} (Some other) (Some reading) = sym read ∙ known in
    cc
one_reading None (wanted ∷ others) reading other known read = absurd cc
one_reading (Some held) (wanted ∷ others) reading other known read =
    let same : ◌≡◌ {A = Option Reading} (Some other) (Some reading) = sym read ∙ known in
    cc

same_outcome : (held : Held) (command : Command) (reading other : Reading) (a b : Result Text Text)
    → OneOutcome → known_reading held (wanted_of command) ≡ Some reading
    → IsRead held (wanted_of command) other → IsOutcome command other a
    → IsOutcome command reading b → a ≡ b
same_outcome held command reading other a b one known is gives_a gives_b =
    one command reading a b
    (subst (λ r. IsOutcome command r a)
    (one_reading held (wanted_of command) reading other known is) gives_a) gives_b

apart : {text line : Text} → ◌≡◌ {A = Result Text Text} (Ok text) (Err line) → ⊥
apart e = cc e

-- a run of a command is complete (`IsComplete`): if no count of faults rose and the reading of the command's
-- texts is known, the outcome determines the status, unless memory ran out
pub run_complete : OneOutcome → SomeOutcome
    → (command : Command) (held : Held) (before now : Text → ℕ) (asked asked' : List Text)
    (out out' notes notes' : Shown) (ended : Status)
    → IsRunOf command held before now asked asked' out out' notes notes' ended
    → IsComplete held command (SomeRose before now (names_in_command command)) (Rose out.faults out'.faults) ended
run_complete one some command held before now asked asked' out out' notes notes' ended run = λ reading known no_rise.
    let outcome = some command held reading known in
    (outcome.0, outcome.1, settle outcome.0 ended reading known outcome.1 no_rise run)
  where
    settle : (o : Result Text Text) (s : Status) (reading : Reading)
        → known_reading held (wanted_of command) ≡ Some reading → IsOutcome command reading o
        → (SomeRose before now (names_in_command command) → ⊥)
        → IsRunOf command held before now asked asked' out out' notes notes' s → Settles (Rose out.faults out'.faults) o s
    settle (Ok text) status.Done reading known gives no_rise run = λ calm. inl refl
    settle (Ok text) status.Refused reading known gives no_rise run = λ calm.
        let told = run.refused refl in
        absurd
        (apart
        (sym
        (same_outcome held command reading told.reading (Err told.line) (Ok text) one
        known told.read told.gives gives)))
    settle (Ok text) status.Usage reading known gives no_rise run = λ calm. absurd (run.no_usage refl)
    settle (Ok text) status.ReadFault reading known gives no_rise run = λ calm.
        let told = run.read refl in absurd (no_rise (rose_among command held before now asked asked' told.last told.asks told.rose))
    settle (Ok text) status.WriteFault reading known gives no_rise run = λ calm. absurd (calm (run.write refl))
    settle (Ok text) status.NoMemory reading known gives no_rise run = λ calm. inr refl
    settle (Err line) status.Done reading known gives no_rise run =
        let told = run.done refl in
        absurd
        (apart
        (same_outcome held command reading (Read told.read.texts) (Ok told.text)
        (Err line) one known told.read.read (told.request, told.read.made, told.gives)
        gives))
    settle (Err line) status.Refused reading known gives no_rise run = inl refl
    settle (Err line) status.Usage reading known gives no_rise run = absurd (run.no_usage refl)
    settle (Err line) status.ReadFault reading known gives no_rise run =
        let told = run.read refl in absurd (no_rise (rose_among command held before now asked asked' told.last told.asks told.rose))
    settle (Err line) status.WriteFault reading known gives no_rise run =
        let told = run.cut refl in
        absurd
        (apart
        (same_outcome held command reading (Read told.read.texts) (Ok told.text)
        (Err line) one known told.read.read (told.request, told.read.made, told.gives)
        gives))
    settle (Err line) status.NoMemory reading known gives no_rise run = inr refl

-- the outcome for a result: the text of the value, or the line of the fault
abbrev said : {A F : Type 0} → (A → Text) → (F → Text) → Result A F → Result Text Text
said text_of line_of (Ok value) = Ok (text_of value)
said text_of line_of (Err fault) = Err (line_of fault)

abbrev AtMostOne : {A F : Type 0} → (Result A F → Type 0) → Type 0
AtMostOne {A} {F} IsFound = (x y : Result A F) → IsFound x → IsFound y → x ≡ y

found_of : {A F : Type 0} (text_of : A → Text) (line_of : F → Text) (IsFound : Result A F → Type 0)
    (a : Result Text Text) → IsSaid text_of line_of IsFound a
    → (x : Result A F) × IsFound x × (a ≡ said text_of line_of x)
found_of text_of line_of IsFound a (inl (value, found, is)) = (Ok value, found, is)
found_of text_of line_of IsFound a (inr (fault, found, is)) = (Err fault, found, is)

one_said : {A F : Type 0} (text_of : A → Text) (line_of : F → Text) (IsFound : Result A F → Type 0)
    (a b : Result Text Text) → AtMostOne IsFound → IsSaid text_of line_of IsFound a
    → IsSaid text_of line_of IsFound b → a ≡ b
one_said text_of line_of IsFound a b one says_a says_b =
    let x = found_of text_of line_of IsFound a says_a in
    let y = found_of text_of line_of IsFound b says_b in
    x.2 ∙ ap (said text_of line_of) (one x.0 y.0 x.1 y.1) ∙ sym y.2

-- An answer is the value that texts give, or their first fault. The text of a device, and the texts of a
-- chain, of a chain's identification codes and of a board, have at most one answer each. Other crates prove
-- these laws, so lemmas take them as arguments.
abbrev OneDevice : Type 0
OneDevice = (text : Text) → AtMostOne (IsDeviceText text)

abbrev OneChain : Type 0
OneChain = (chain : Text) (texts : List Text) → AtMostOne (AreChainLengths chain texts)

abbrev OneIdents : Type 0
OneIdents = (chain : Text) (texts : List Text) → AtMostOne (AreIdents chain texts)

abbrev OneBoard : Type 0
OneBoard = (chain nets : Text) (texts : List Text) → AtMostOne (IsBoardRead chain nets texts)

-- For a text of logs and the texts of a board, there is at most one answer (`OnDenoted`). The answer
-- is the board and what the logs show for it, or the first fault of these texts.
abbrev OneJudged : {L E A : Type 0} → Judging L E A → Type 0
OneJudged judging = (text chain nets : Text) (texts : List Text) → AtMostOne (OnDenoted judging text chain nets texts)

-- for a board that satisfies the rules of a board, the contents of a text of logs show at most one
-- value
abbrev FindsOne : {L E A : Type 0} → Judging L E A → Type 0
FindsOne {L} {E} {A} judging =
    (board : RawBoard) (contents : L) (x y : A) → IsBoard board → judging.Finds board contents x
    → judging.Finds board contents y → x ≡ y

-- if texts denote a board, the board satisfies the rules of a board
abbrev KeepRules : Type 0
KeepRules = (chain nets : Text) (texts : List Text) (board : RawBoard) → Denotes chain nets texts board → IsBoard board

same_board : (a b : RawBoard) → ◌≡◌ {A = Result RawBoard InputFault} (Ok a) (Ok b) → a ≡ b
same_board a b e = cc

not_both : {X Y : Type 0} (a : X) (f : Y) → ◌≡◌ {A = Result X Y} (Ok a) (Err f) → ⊥
not_both a f e = cc e

same_value : {X Y : Type 0} (a b : X) → ◌≡◌ {A = Result X Y} (Ok a) (Ok b) → a ≡ b
same_value a b e = cc

same_cause : {X Y : Type 0} (f g : Y) → ◌≡◌ {A = Result X Y} (Err f) (Err g) → f ≡ g
same_cause f g e = cc

module _ (boards : OneBoard) (rules : KeepRules) {L E A : Type 0} (judging : Judging L E A)
    (one : FindsOne judging) (text chain nets : Text) (texts : List Text) where
  no_input : (board : RawBoard) (fault : TextFault) → Denotes chain nets texts board → IsInputFault chain nets texts fault → ⊥
  no_input board (Input f) denoted is = not_both board f (boards chain nets texts (Ok board) (Err f) denoted is)
  no_input board (Log rows f) denoted is = is
  no_input board (OfBatch rows f) denoted is = is

  one_input : (f g : TextFault) → IsInputFault chain nets texts f → IsInputFault chain nets texts g → f ≡ g
  one_input (Input f) (Input g) is_f is_g = ap Input (same_cause f g (boards chain nets texts (Err f) (Err g) is_f is_g))
  one_input (Input f) (Log rows g) is_f is_g = absurd is_g
  one_input (Input f) (OfBatch rows g) is_f is_g = absurd is_g
  one_input (Log rows f) g is_f is_g = absurd is_f
  one_input (OfBatch rows f) g is_f is_g = absurd is_f

  one_denoted : (a b : RawBoard) → Denotes chain nets texts a → Denotes chain nets texts b → a ≡ b
  one_denoted a b is_a is_b = same_board a b (boards chain nets texts (Ok a) (Ok b) is_a is_b)

  no_wrong : (board : RawBoard) (contents : L) (fault : TextFault)
      → judging.read text board ≡ Ok contents → IsWrong judging text board fault → ⊥
  no_wrong board contents fault holds wrong = not_both contents wrong.cause (sym holds ∙ wrong.fails)

  one_wrong : (board : RawBoard) (f g : TextFault) → IsWrong judging text board f → IsWrong judging text board g → f ≡ g
  one_wrong board f g is_f is_g =
      is_f.is
      ∙ ap (judging.wrong (judging.row_count board))
      (same_cause is_f.cause is_g.cause (sym is_f.fails ∙ is_g.fails)) ∙ sym is_g.is

  one_judged : AtMostOne (OnDenoted judging text chain nets texts)
  one_judged (Ok (a, x)) (Ok (b, y)) is_x is_y =
      let board = one_denoted a b is_x.0 is_y.0 in
      let there = subst (λ (c : RawBoard). IsJudgedLog judging text c x) board is_x.1 in
      let contents = same_value there.contents is_y.1.contents (sym there.holds ∙ is_y.1.holds) in
      let found = subst (λ (l : L). judging.Finds b l x) contents there.finds in
      let same = one b is_y.1.contents x y (rules chain nets texts b is_y.0) found is_y.1.finds in
      ap (λ (c : RawBoard). Ok (c, x)) board ∙ ap (λ (v : A). Ok (b, v)) same
  one_judged (Ok (a, x)) (Err g) is_x (inl input) = absurd (no_input a g is_x.0 input)
  one_judged (Ok (a, x)) (Err g) is_x (inr (b, denoted, wrong)) =
      let there = subst (λ (c : RawBoard). IsJudgedLog judging text c x) (one_denoted a b is_x.0 denoted) is_x.1 in
      absurd (no_wrong b there.contents g there.holds wrong)
  one_judged (Err f) (Ok (b, y)) (inl input) is_y = absurd (no_input b f is_y.0 input)
  one_judged (Err f) (Ok (b, y)) (inr (a, denoted, wrong)) is_y =
      let there = subst (λ (c : RawBoard). IsJudgedLog judging text c y) (one_denoted b a is_y.0 denoted) is_y.1 in
      absurd (no_wrong a there.contents f there.holds wrong)
  one_judged (Err f) (Err g) (inl is_f) (inl is_g) = ap Err (one_input f g is_f is_g)
  one_judged (Err f) (Err g) (inl is_f) (inr (b, denoted, wrong)) = absurd (no_input b f denoted is_f)
  one_judged (Err f) (Err g) (inr (a, denoted, wrong)) (inl is_g) = absurd (no_input a g denoted is_g)
  one_judged (Err f) (Err g) (inr (a, denoted, wrong)) (inr (b, also, other)) =
      ap Err (one_wrong b f g (subst (λ (c : RawBoard). IsWrong judging text c f) (one_denoted a b denoted also) wrong) other)

-- a log of a board has at most one diagnosis
abbrev OneDiagnosis : Type 0
OneDiagnosis =
    (board : RawBoard) (rows : List (List Bool)) (pass other : Bool) (faults others : List Single)
    → IsDiagnosis board rows pass faults → IsDiagnosis board rows other others
    → (pass ≡ other) × (faults ≡ others)

one_diagnosis : OneDiagnosis → FindsOne diagnosing
one_diagnosis one board rows (pass, faults) (other, others) rules is_x is_y =
    let same = one board rows pass other faults others is_x is_y in
    ap (λ (p : Bool). (p, faults)) same.0 ∙ ap (λ (l : List Single). (other, l)) same.1

one_verdicts : OneDiagnosis → (board : RawBoard) (blocks : List Block) (x y : List Verdict)
    → AreVerdicts board blocks x → AreVerdicts board blocks y → x ≡ y
one_verdicts one board [] [] [] is_x is_y = refl
one_verdicts one board [] [] (v ∷ y) is_x is_y = absurd is_y
one_verdicts one board [] (v ∷ x) y is_x is_y = absurd is_x
one_verdicts one board (block ∷ blocks) [] y is_x is_y = absurd is_x
one_verdicts one board (block ∷ blocks) (v ∷ x) [] is_x is_y = absurd is_y
one_verdicts one board (block ∷ blocks) (v ∷ x) (w ∷ y) is_x is_y =
    let same = one board block.log v.pass w.pass v.faults w.faults is_x.0 is_y.0 in
    let head : v
    ≡ w = ap (λ (p : Bool). record { pass = p; faults = v.faults }) same.0
    ∙ ap (λ (l : List Single). record { pass = w.pass; faults = l }) same.1 in
    ap (λ (u : Verdict). u ∷ x) head ∙ ap (λ (l : List Verdict). w ∷ l) (one_verdicts one board blocks x y is_x.1 is_y.1)

one_each : OneDiagnosis → FindsOne judging_each
one_each one board blocks (own, x) (others, y) rules is_x is_y =
    let own_is : own ≡ others = is_x.0 ∙ sym is_y.0 in
    ap (λ (l : List Block). (l, x)) own_is ∙ ap (λ (l : List Verdict). (others, l)) (one_verdicts one board blocks x y is_x.1 is_y.1)

one_grouping : OneSet → FindsOne grouping
one_grouping one board rows None None rules is_x is_y = refl
one_grouping one board rows None (Some groups) rules is_x is_y = absurd (is_x groups is_y)
one_grouping one board rows (Some groups) None rules is_x is_y = absurd (is_y groups is_x)
one_grouping one board rows (Some groups) (Some others) rules is_x is_y = ap Some (one board rows groups others rules is_x is_y)

-- for each of the three ways to judge a text of logs, there is at most one answer (`OneJudged`)
pub record LogsSayOne : Type 0 where
  pub diagnoses : OneJudged diagnosing
  pub groups : OneJudged grouping
  pub each : OneJudged judging_each

pub logs_say_one : OneBoard → KeepRules → OneDiagnosis → OneSet → LogsSayOne
logs_say_one boards rules diagnosis set = record {
  diagnoses = one_judged boards rules diagnosing (one_diagnosis diagnosis);
  groups = one_judged boards rules grouping (one_grouping set);
  each = one_judged boards rules judging_each (one_each diagnosis);
}

-- If each kind of text has at most one answer, a reading gives at most one outcome.
module _ (devices : OneDevice) (chains : OneChain) (idents : OneIdents) (boards : OneBoard) (logs : LogsSayOne) where
  one_given : (names : Names) (request : Request) (a b : Result Text Text) → IsGiven names request a → IsGiven names request b → a ≡ b
  one_given names (Chain texts) a b is_a is_b =
      one_said chain_text (input_fault_line names) (AreChainLengths texts.chain texts.bsdl) a b
      (chains texts.chain texts.bsdl) is_a is_b
  one_given names (Ident texts) a b is_a is_b =
      one_said ident_text (input_fault_line names) (AreIdents texts.chain texts.bsdl) a b
      (idents texts.chain texts.bsdl) is_a is_b
  one_given names (Device bsdl) a b is_a is_b =
      one_said device_text (input_fault_line names) (IsDeviceText bsdl) a b (devices bsdl) is_a is_b
  one_given names (Cover texts) a b is_a is_b =
      one_said cover_text (input_fault_line names) (IsBoardOf texts) a b
      (boards texts.chain texts.nets texts.bsdl) is_a is_b
  one_given names (Svf texts) a b is_a is_b =
      one_said board_text (input_fault_line names) (IsBoardOf texts) a b
      (boards texts.chain texts.nets texts.bsdl) is_a is_b
  one_given names (Walk texts) a b is_a is_b =
      one_said board_walk_text (input_fault_line names) (IsBoardOf texts) a b
      (boards texts.chain texts.nets texts.bsdl) is_a is_b
  one_given names (Make parts) a b is_a is_b =
      one_said summary_text (input_fault_line names)
      (IsBoardRead (made.chain_file_text parts) (made.net_text parts) (bsdl_text ∷ [])) a b
      (boards (made.chain_file_text parts) (made.net_text parts) (bsdl_text ∷ [])) is_a is_b
  one_given names (Diagnose workers texts) a b is_a is_b =
      one_said diagnosis_text (text_fault_line names) (IsJudgedOf diagnosing texts) a b
      (logs.diagnoses texts.log texts.board.chain texts.board.nets texts.board.bsdl) is_a is_b
  one_given names (Groups texts) a b is_a is_b =
      one_said grouping_text (text_fault_line names) (IsJudgedOf grouping texts) a b
      (logs.groups texts.log texts.board.chain texts.board.nets texts.board.bsdl) is_a is_b
  one_given names (Batch workers texts) a b is_a is_b =
      one_said verdicts_text (text_fault_line names) (IsJudgedOf judging_each texts) a b
      (logs.each texts.log texts.board.chain texts.board.nets texts.board.bsdl) is_a is_b

  pub one_outcome : OneOutcome
  one_outcome command (TooLong wanted) a b is_a is_b = is_a ∙ sym is_b
  one_outcome command (Read texts) a b (request, made_a, is_a) (other, made_b, is_b) =
      one_given (roles_of command) other a b
      (subst (λ (r : Request). IsGiven (roles_of command) r a)
      (same_request (sym made_a ∙ made_b)) is_a) is_b

count_read : (held : Text → Option Text) (wanted : List Wanted) (found : List Text)
    → reading_of held wanted ≡ Some (Read found) → length found ≡ length wanted
count_read held [] [] reads = refl
count_read held [] (text ∷ found) reads = absurd cc
count_read held (first ∷ others) found reads = by_text first (held first.name) (reading_of held others) (count_read held others) found reads
  where
    and_rest : (text : Text) (n : ℕ) (rest : Option Reading)
        → ((more : List Text) → rest ≡ Some (Read more) → length more ≡ n) → (found : List Text)
        → and_text text rest ≡ Some (Read found) → length found ≡ suc n
    and_rest text n None counts found reads = absurd cc
    and_rest text n (Some (TooLong wanted)) counts found reads = absurd cc
    and_rest text n (Some (Read more)) counts [] reads = absurd cc
    and_rest text n (Some (Read more)) counts (one ∷ found) reads =
        let same : more ≡ found = cc in
        ap suc (ap length (sym same) ∙ counts more refl)

    by_length : (wanted : Wanted) (text : Text) (long : Bool) (n : ℕ) (rest : Option Reading)
        → ((more : List Text) → rest ≡ Some (Read more) → length more ≡ n) → (found : List Text)
        → (if long then Some (TooLong wanted) else and_text text rest) ≡ Some (Read found)
        → length found ≡ suc n
    by_length wanted text true n rest counts found reads = absurd cc
    by_length wanted text false n rest counts found reads = and_rest text n rest counts found reads

    by_text : (wanted : Wanted) (text : Option Text) (rest : Option Reading) {n : ℕ}
        → ((more : List Text) → rest ≡ Some (Read more) → length more ≡ n) → (found : List Text)
        → read_first wanted text rest ≡ Some (Read found) → length found ≡ suc n
    by_text wanted None rest {n} counts found reads = absurd cc
    by_text wanted (Some text) rest {n} counts found reads =
        by_length wanted text (nat_lt wanted.limit (length text)) n rest counts found reads

count_known : (held : Held) (wanted : List Wanted) (found : List Text)
    → known_reading held wanted ≡ Some (Read found) → length found ≡ length wanted
count_known held [] [] known = refl
count_known held [] (text ∷ found) known = absurd cc
count_known None (wanted ∷ others) found known = absurd cc
count_known (Some held) (wanted ∷ others) found known = count_read held (wanted ∷ others) found known

names_count : (wanted : List Wanted) → length (names_in wanted) ≡ length wanted
names_count [] = refl
names_count (text ∷ wanted) = ap suc (names_count wanted)

wanted_count : (command : Command) → length (wanted_of command) ≡ length (names_in_command command)
wanted_count command = sym (names_count (wanted_of command)) ∙ ap length (wanted_names command)

-- `IsFound` holds for some answer
abbrev HasAnswer : {A F : Type 0} → (Result A F → Type 0) → Type 0
HasAnswer {A} {F} IsFound = (answer : Result A F) × IsFound answer

abbrev HasOutcome : (Result Text Text → Type 0) → Type 0
HasOutcome IsOutcome = (outcome : Result Text Text) × IsOutcome outcome

says : {A F : Type 0} (text_of : A → Text) (line_of : F → Text) (IsFound : Result A F → Type 0)
    (answer : Result A F) → IsFound answer → HasOutcome (IsSaid text_of line_of IsFound)
says text_of line_of IsFound (Ok value) found = (Ok (text_of value), inl (value, found, refl))
says text_of line_of IsFound (Err fault) found = (Err (line_of fault), inr (fault, found, refl))

some_said : {A F : Type 0} (text_of : A → Text) (line_of : F → Text) (IsFound : Result A F → Type 0)
    → HasAnswer IsFound → HasOutcome (IsSaid text_of line_of IsFound)
some_said text_of line_of IsFound some = says text_of line_of IsFound some.0 some.1

-- The text of a device, and the texts of a chain, of a chain's identification codes and of a board, have an
-- answer each. Other crates prove these laws, so lemmas take them as arguments.
abbrev SomeDevice : Type 0
SomeDevice = (text : Text) → HasAnswer (IsDeviceText text)

abbrev SomeChain : Type 0
SomeChain = (chain : Text) (texts : List Text) → HasAnswer (AreChainLengths chain texts)

abbrev SomeIdents : Type 0
SomeIdents = (chain : Text) (texts : List Text) → HasAnswer (AreIdents chain texts)

abbrev SomeBoard : Type 0
SomeBoard = (chain nets : Text) (texts : List Text) → HasAnswer (IsBoardRead chain nets texts)

-- A text of logs and the texts of a board have an answer together. It is what the logs show for the
-- board, or the first fault of the texts, which may denote no board.
abbrev SomeJudged : {L E A : Type 0} → Judging L E A → Type 0
SomeJudged judging = (text chain nets : Text) (texts : List Text) → HasAnswer (OnDenoted judging text chain nets texts)

-- for a board that satisfies the rules of a board, the contents of each text of logs show some
-- value
abbrev FindsSome : {L E A : Type 0} → Judging L E A → Type 0
FindsSome {L} {E} {A} judging = (board : RawBoard) (contents : L) → IsBoard board → (found : A) × judging.Finds board contents found

some_judged : SomeBoard → KeepRules → {L E A : Type 0} (judging : Judging L E A) → FindsSome judging → SomeJudged judging
some_judged boards rules {L} {E} {A} judging some text chain nets texts = by_board (boards chain nets texts).0 (boards chain nets texts).1
  where
    by_text : (board : RawBoard) → Denotes chain nets texts board → (said : Result L E)
        → judging.read text board ≡ said → HasAnswer (OnDenoted judging text chain nets texts)
    by_text board denoted (Ok contents) is =
        let told = some board contents (rules chain nets texts board denoted) in
        (Ok (board, told.0), (denoted, record { contents = contents; holds = is; finds = told.1 }))
    by_text board denoted (Err cause) is =
        (Err (judging.wrong (judging.row_count board) cause), inr (board, denoted, record { cause = cause; fails = is; is = refl }))

    by_board : (answer : Result RawBoard InputFault) → IsBoardRead chain nets texts answer
        → HasAnswer (OnDenoted judging text chain nets texts)
    by_board (Ok board) denoted = by_text board denoted (judging.read text board) refl
    by_board (Err fault) is = (Err (Input fault), inl is)

-- each log of a board that satisfies the rules of a board has a diagnosis
abbrev SomeDiagnosis : Type 0
SomeDiagnosis =
    (board : RawBoard) (rows : List (List Bool)) → IsBoard board
    → (pass : Bool) × (faults : List Single) × IsDiagnosis board rows pass faults

some_diagnosis : SomeDiagnosis → FindsSome diagnosing
some_diagnosis some board rows rules = let told = some board rows rules in ((told.0, told.1), told.2)

some_verdicts : SomeDiagnosis → (board : RawBoard) → IsBoard board → (blocks : List Block)
    → (verdicts : List Verdict) × AreVerdicts board blocks verdicts
some_verdicts some board rules [] = ([], tt)
some_verdicts some board rules (block ∷ blocks) =
    let told = some board block.log rules in
    let later = some_verdicts some board rules blocks in
    (record { pass = told.0; faults = told.1 } ∷ later.0, (told.2, later.1))

some_each : SomeDiagnosis → FindsSome judging_each
some_each some board blocks rules = let told = some_verdicts some board rules blocks in ((blocks, told.0), (refl, told.1))

-- each kind of text of logs has an answer
pub record LogsSaySome : Type 0 where
  pub diagnoses : SomeJudged diagnosing
  pub groups : SomeJudged grouping
  pub each : SomeJudged judging_each

pub logs_say_some : SomeBoard → KeepRules → SomeDiagnosis → FindsSome grouping → LogsSaySome
logs_say_some boards rules diagnosis groups = record {
  diagnoses = some_judged boards rules diagnosing (some_diagnosis diagnosis);
  groups = some_judged boards rules grouping groups;
  each = some_judged boards rules judging_each (some_each diagnosis);
}

-- If each kind of text has an answer, each request has an outcome.
module _ (devices : SomeDevice) (chains : SomeChain) (idents : SomeIdents) (boards : SomeBoard) (logs : LogsSaySome) where
  some_given : (names : Names) (request : Request) → HasOutcome (IsGiven names request)
  some_given names (Chain texts) =
      some_said chain_text (input_fault_line names) (AreChainLengths texts.chain texts.bsdl)
      (chains texts.chain texts.bsdl)
  some_given names (Ident texts) =
      some_said ident_text (input_fault_line names) (AreIdents texts.chain texts.bsdl)
      (idents texts.chain texts.bsdl)
  some_given names (Device bsdl) = some_said device_text (input_fault_line names) (IsDeviceText bsdl) (devices bsdl)
  some_given names (Cover texts) =
      some_said cover_text (input_fault_line names) (IsBoardOf texts)
      (boards texts.chain texts.nets texts.bsdl)
  some_given names (Svf texts) = some_said board_text (input_fault_line names) (IsBoardOf texts) (boards texts.chain texts.nets texts.bsdl)
  some_given names (Walk texts) =
      some_said board_walk_text (input_fault_line names) (IsBoardOf texts)
      (boards texts.chain texts.nets texts.bsdl)
  some_given names (Make parts) =
      some_said summary_text (input_fault_line names)
      (IsBoardRead (made.chain_file_text parts) (made.net_text parts) (bsdl_text ∷ []))
      (boards (made.chain_file_text parts) (made.net_text parts) (bsdl_text ∷ []))
  some_given names (Diagnose workers texts) =
      some_said diagnosis_text (text_fault_line names) (IsJudgedOf diagnosing texts)
      (logs.diagnoses texts.log texts.board.chain texts.board.nets texts.board.bsdl)
  some_given names (Groups texts) =
      some_said grouping_text (text_fault_line names) (IsJudgedOf grouping texts)
      (logs.groups texts.log texts.board.chain texts.board.nets texts.board.bsdl)
  some_given names (Batch workers texts) =
      some_said verdicts_text (text_fault_line names) (IsJudgedOf judging_each texts)
      (logs.each texts.log texts.board.chain texts.board.nets texts.board.bsdl)

  pub some_outcome : SomeOutcome
  some_outcome command held (TooLong wanted) known = (Err (long_line wanted.name wanted.limit), refl)
  some_outcome command held (Read found) known =
      let request = some_request command found (count_known held (wanted_of command) found known ∙ wanted_count command) in
      let given = some_given (roles_of command) request.0 in
      (given.0, (request.0, request.1, given.1))
