-- Lemmas which say that the outcome that the files of a command give (`GivesOutcome`) is the outcome that the contract
-- of `run` states (`IsOutcome`).
use Rattle.std.proofs.Common.{◌≡◌, ◌∙◌, List, [], ◌∷◌, Result, Ok, Err, refl, sym, ap, inl, inr}
use Rattle.std.specs.Prelude.{Bool, codes}
use Rattle.board_defs.specs.declared.board.RawBoard.{RawBoard}
use Rattle.board_defs.specs.declared.fault.Single.{Single}
use Rattle.tap_defs.specs.chain.ChainScans.{chain_text}
use Rattle.tap_defs.specs.board.BoardScans.{board_text}
use Rattle.device_check.specs.DeviceText.{device_text}
use Rattle.coverage_list.specs.CoverText.{cover_text}
use Rattle.ident_test.specs.Patterns.{ident_text}
use Rattle.fault_sim.specs.Diagnosis.{IsDiagnosis}
use Rattle.diagnoser.specs.DiagText.{diag_text}
use Rattle.batch_diag.specs.declared.block.Block.{Block}
use Rattle.batch_diag.specs.Verdicts.{AreVerdicts, Verdict}
use Rattle.batch_diag.specs.BatchText.{batch_text}
use Rattle.walk_test.specs.Groups.{AreFound}
use Rattle.walk_test.specs.GroupText.{groups_text}
use Rattle.walk_test.specs.WalkTest.{board_walk_text}
use Rattle.board_gen.specs.BoardTexts as made
use Rattle.board_gen.specs.DeviceText.{bsdl_text}
use Rattle.btest_core.specs.declared.fault.InputFault.{InputFault}
use Rattle.btest_core.specs.DevicesRead.{IsDeviceText}
use Rattle.btest_core.specs.BoardRead.{AreChainLengths, IsBoardRead}
use Rattle.btest_core.specs.IdentsRead.{AreIdents}
use Rattle.refusal_lines.specs.Refusals.{Names, input_fault_line, log_fault_line, batch_fault_line}
use Rattle.commands.specs.LogRead.{Judging, OnDenoted, Input, Log, Batch as OfBatch, diagnosing, diagnosis_text, grouping, grouping_text, judging_each, verdicts_text, test_rows, walk_rows}
use Rattle.command_line.specs.declared.command.Command.TheVariants.{Chain, Ident, Device, Cover, Svf, Walk, Make, Diagnose, Groups, Batch}
use Rattle.command_line.specs.Words.{Text, Command}
use Rattle.commands.specs.Requests.{board_texts, chain_texts, log_texts}
use Rattle.btest_cli.specs.Refusals.{roles_of, text_fault_line}
use Rattle.btest_cli.specs.Texts.{Read}
use Rattle.btest_cli.specs.Outcome.{IsGiven, IsOutcome, IsSaid}
use Rattle.btest_cli.proofs.RequestLemmas.{by_request}
use Rattle.promises.specs.Gives.{Finds, FindsLogs, GivesOutcome, of_board, of_chain, summary}

pub same_ok : {A E : Type 0} {x y : A} → ◌≡◌ {A = Result A E} (Ok x) (Ok y) → x ≡ y
same_ok e = cc

same_err : {A E : Type 0} {x y : E} → ◌≡◌ {A = Result A E} (Err x) (Err y) → x ≡ y
same_err e = cc

pub not_both : {A E : Type 0} {x : A} {y : E} → ◌≡◌ {A = Result A E} (Ok x) (Err y) → ⊥
not_both e = cc e

module _ {A : Type 0} (IsFound : Result A InputFault → Type 0) (text_of : A → Text) (names : Names) where
  said : (outcome : Result Text Text) → Finds IsFound text_of names outcome → IsSaid text_of (input_fault_line names) IsFound outcome
  said (Ok text) (value, found, is) = inl (value, found, ap (λ (t : Text). Ok t) is)
  said (Err line) (fault, found, is) = inr (fault, found, ap (λ (t : Text). Err t) is)

  found : (outcome : Result Text Text) → IsSaid text_of (input_fault_line names) IsFound outcome → Finds IsFound text_of names outcome
  found (Ok text) (inl (value, is_found, is)) = (value, is_found, same_ok is)
  found (Ok text) (inr (fault, is_found, is)) = absurd (not_both is)
  found (Err line) (inl (value, is_found, is)) = absurd (not_both (sym is))
  found (Err line) (inr (fault, is_found, is)) = (fault, is_found, same_err is)

module _ {L E A B : Type 0} (judging : Judging L E A) (IsFound : RawBoard → L → B → Type 0)
    (text_of : RawBoard → L → B → Text) (printed : RawBoard × A → Text)
    (line_of : RawBoard → E → Text) (names : Names)
    (lines : (board : RawBoard) (fault : E) → text_fault_line names (judging.wrong (judging.row_count board) fault) ≡ line_of board fault)
    (to : (board : RawBoard) (log : L) (b : B) → IsFound board log b
    → (a : A) × judging.Finds board log a × (printed (board, a) ≡ text_of board log b))
    (back : (board : RawBoard) (log : L) (a : A) → judging.Finds board log a
    → (b : B) × IsFound board log b × (printed (board, a) ≡ text_of board log b))
    (logs chain nets : Text) (bsdl : List Text) where
  logs_said : (outcome : Result Text Text)
      → FindsLogs judging.read IsFound text_of line_of names logs chain nets bsdl outcome
      → IsSaid printed (text_fault_line names) (OnDenoted judging logs chain nets bsdl) outcome
  logs_said (Ok text) (board, denotes, log, holds, b, is_found, is) =
      let told = to board log b is_found in
      inl ((board, told.0), (denotes, record { contents = log; holds = holds; finds = told.1 }), ap (λ (t : Text). Ok t) (is ∙ sym told.2))
  logs_said (Err line) (inl (fault, is_found, is)) = inr (Input fault, inl is_found, ap (λ (t : Text). Err t) is)
  logs_said (Err line) (inr (board, denotes, fault, fails, is)) =
      inr (
        judging.wrong (judging.row_count board) fault,
        inr (board, denotes, record { cause = fault; fails = fails; is = refl }),
        ap (λ (t : Text). Err t) (is ∙ sym (lines board fault)),
      )

  logs_found : (outcome : Result Text Text)
      → IsSaid printed (text_fault_line names) (OnDenoted judging logs chain nets bsdl) outcome
      → FindsLogs judging.read IsFound text_of line_of names logs chain nets bsdl outcome
  logs_found (Ok text) (inl ((board, a), (denotes, judged), is)) =
      let told = back board judged.contents a judged.finds in
      (board, denotes, judged.contents, judged.holds, told.0, told.1, same_ok is ∙ told.2)
  logs_found (Ok text) (inr (fault, is_found, is)) = absurd (not_both is)
  logs_found (Err line) (inl (value, is_found, is)) = absurd (not_both (sym is))
  logs_found (Err line) (inr (Input fault, inl is_found, is)) = inl (fault, is_found, same_err is)
  logs_found (Err line) (inr (Log rows fault, inl none, is)) = absurd none
  logs_found (Err line) (inr (OfBatch rows fault, inl none, is)) = absurd none
  logs_found (Err line) (inr (fault, inr (board, denotes, wrong), is)) =
      inr (
        board,
        denotes,
        wrong.cause,
        wrong.fails,
        same_err is ∙ ap (text_fault_line names) wrong.is ∙ lines board wrong.cause,
      )

abbrev Diagnosis : Type 0
Diagnosis = Bool × List Single

each_back : (board : RawBoard) (blocks : List Block) (found : List Block × List Verdict)
    → (found.0 ≡ blocks) × AreVerdicts board blocks found.1
    → (verdicts : List Verdict) × AreVerdicts board blocks verdicts
    × (verdicts_text (board, found) ≡ batch_text board blocks verdicts)
each_back board blocks found is = (found.1, is.1, ap (λ (l : List Block). batch_text board l found.1) is.0)

pub gives_is : (command : Command) (texts : List Text) (outcome : Result Text Text)
    → GivesOutcome command texts outcome → IsOutcome command (Read texts) outcome
gives_is (Chain names) [] outcome gives = absurd gives
gives_is (Chain names) (chain ∷ bsdl) outcome gives = (
  Chain (chain_texts chain bsdl),
  refl,
  said (AreChainLengths chain bsdl) chain_text (of_chain names) outcome gives,
)
gives_is (Ident names) [] outcome gives = absurd gives
gives_is (Ident names) (chain ∷ bsdl) outcome gives = (
  Ident (chain_texts chain bsdl),
  refl,
  said (AreIdents chain bsdl) ident_text (of_chain names) outcome gives,
)
gives_is (Device name) [] outcome gives = absurd gives
gives_is (Device name) (text ∷ []) outcome gives = (
  Device text,
  refl,
  said (IsDeviceText text) device_text
      (record { log = []; chain = []; nets = []; bsdl = name ∷ [] }) outcome gives,
)
gives_is (Device name) (text ∷ other ∷ others) outcome gives = absurd gives
gives_is (Cover names) [] outcome gives = absurd gives
gives_is (Cover names) (chain ∷ []) outcome gives = absurd gives
gives_is (Cover names) (chain ∷ nets ∷ bsdl) outcome gives = (
  Cover (board_texts chain nets bsdl),
  refl,
  said (IsBoardRead chain nets bsdl) cover_text (of_board [] names) outcome gives,
)
gives_is (Svf names) [] outcome gives = absurd gives
gives_is (Svf names) (chain ∷ []) outcome gives = absurd gives
gives_is (Svf names) (chain ∷ nets ∷ bsdl) outcome gives = (
  Svf (board_texts chain nets bsdl),
  refl,
  said (IsBoardRead chain nets bsdl) board_text (of_board [] names) outcome gives,
)
gives_is (Walk names) [] outcome gives = absurd gives
gives_is (Walk names) (chain ∷ []) outcome gives = absurd gives
gives_is (Walk names) (chain ∷ nets ∷ bsdl) outcome gives = (
  Walk (board_texts chain nets bsdl),
  refl,
  said (IsBoardRead chain nets bsdl) board_walk_text (of_board [] names) outcome gives,
)
gives_is (Make parts) texts outcome gives = (
  Make parts,
  refl,
  said (IsBoardRead (made.chain_file_text parts) (made.net_text parts) (bsdl_text ∷ [])) summary
      (record { log = []; chain = codes "chain"; nets = codes "nets"; bsdl = codes "bsdl" ∷ [] })
      outcome gives,
)
gives_is (Diagnose workers names) [] outcome gives = absurd gives
gives_is (Diagnose workers names) (rows ∷ []) outcome gives = absurd gives
gives_is (Diagnose workers names) (rows ∷ chain ∷ []) outcome gives = absurd gives
gives_is (Diagnose workers names) (rows ∷ chain ∷ nets ∷ bsdl) outcome gives = (
  Diagnose workers (log_texts rows chain nets bsdl),
  refl,
  logs_said diagnosing (λ board log (found : Diagnosis). IsDiagnosis board log found.0 found.1)
      (λ board log (found : Diagnosis). diag_text board found.0 found.1) diagnosis_text
      (λ board fault. log_fault_line names.log (test_rows board) fault) (of_board names.log names.board)
      (λ board fault. refl) (λ board log found is. (found, is, refl))
      (λ board log found is. (found, is, refl)) rows chain nets bsdl outcome gives,
)
gives_is (Groups names) [] outcome gives = absurd gives
gives_is (Groups names) (rows ∷ []) outcome gives = absurd gives
gives_is (Groups names) (rows ∷ chain ∷ []) outcome gives = absurd gives
gives_is (Groups names) (rows ∷ chain ∷ nets ∷ bsdl) outcome gives = (
  Groups (log_texts rows chain nets bsdl),
  refl,
  logs_said grouping AreFound (λ board log found. groups_text board found) grouping_text
      (λ board fault. log_fault_line names.log (walk_rows board) fault) (of_board names.log names.board)
      (λ board fault. refl) (λ board log found is. (found, is, refl))
      (λ board log found is. (found, is, refl)) rows chain nets bsdl outcome gives,
)
gives_is (Batch workers names) [] outcome gives = absurd gives
gives_is (Batch workers names) (rows ∷ []) outcome gives = absurd gives
gives_is (Batch workers names) (rows ∷ chain ∷ []) outcome gives = absurd gives
gives_is (Batch workers names) (rows ∷ chain ∷ nets ∷ bsdl) outcome gives = (
  Batch workers (log_texts rows chain nets bsdl),
  refl,
  logs_said judging_each AreVerdicts batch_text verdicts_text
      (λ board fault. batch_fault_line names.log (test_rows board) fault) (of_board names.log names.board)
      (λ board fault. refl) (λ board blocks verdicts is. ((blocks, verdicts), (refl, is), refl))
      each_back rows chain nets bsdl outcome gives,
)

pub is_gives : (command : Command) (texts : List Text) (outcome : Result Text Text)
    → IsOutcome command (Read texts) outcome → GivesOutcome command texts outcome
is_gives command texts outcome (asked, is, given) =
    by_request (λ command texts asked. IsGiven (roles_of command) asked outcome → GivesOutcome command texts outcome)
    (λ names chain bsdl given. found (AreChainLengths chain bsdl) chain_text (of_chain names) outcome given)
    (λ names chain bsdl given. found (AreIdents chain bsdl) ident_text (of_chain names) outcome given)
    (λ name text given. found (IsDeviceText text) device_text (record { log = []; chain = []; nets = []; bsdl = name ∷ [] }) outcome given)
    (λ names chain nets bsdl given. found (IsBoardRead chain nets bsdl) cover_text (of_board [] names) outcome given)
    (λ names chain nets bsdl given. found (IsBoardRead chain nets bsdl) board_text (of_board [] names) outcome given)
    (λ names chain nets bsdl given. found (IsBoardRead chain nets bsdl) board_walk_text (of_board [] names) outcome given)
    (λ parts texts given. found
    (IsBoardRead (made.chain_file_text parts) (made.net_text parts) (bsdl_text ∷ [])) summary
    (record { log = []; chain = codes "chain"; nets = codes "nets"; bsdl = codes "bsdl" ∷ [] })
    outcome given)
    (λ workers names rows chain nets bsdl given. logs_found diagnosing
    (λ board log (found : Diagnosis). IsDiagnosis board log found.0 found.1)
    (λ board log (found : Diagnosis). diag_text board found.0 found.1) diagnosis_text
    (λ board fault. log_fault_line names.log (test_rows board) fault) (of_board names.log names.board)
    (λ board fault. refl) (λ board log found is. (found, is, refl))
    (λ board log found is. (found, is, refl)) rows chain nets bsdl outcome given)
    (λ names rows chain nets bsdl given. logs_found grouping AreFound
    (λ board log found. groups_text board found) grouping_text
    (λ board fault. log_fault_line names.log (walk_rows board) fault) (of_board names.log names.board)
    (λ board fault. refl) (λ board log found is. (found, is, refl))
    (λ board log found is. (found, is, refl)) rows chain nets bsdl outcome given)
    (λ workers names rows chain nets bsdl given. logs_found judging_each AreVerdicts batch_text
    verdicts_text (λ board fault. batch_fault_line names.log (test_rows board) fault)
    (of_board names.log names.board) (λ board fault. refl)
    (λ board blocks verdicts is. ((blocks, verdicts), (refl, is), refl)) each_back rows chain
    nets bsdl outcome given)
    command texts asked is given
