-- Samples of the promise of each command, stated for the text that a run wrote. A run breaks the promise if it wrote another text, or a
-- text without the promised properties. It also breaks the promise if it wrote a text, in whole or in part, although the files denote no
-- board or hold no log of the board. The samples hold for any files with the stated properties.
use Rattle.std.proofs.Common.{◌≡◌, ◌≢◌, ◌↔◌, ◌⊎◌, ◌∙◌, ℕ, ◌+◌, ◌≤◌, Bool, true, false, List, [], ◌∷◌, ◌++◌, length, sum, Option, Some, None, Ok, refl, sym, ap, subst, length-append, arith}
use Rattle.std.specs.Prelude.{codes}
use Rattle.board_defs.specs.declared.board.RawBoard.{RawBoard}
use Rattle.board_defs.specs.declared.device.RawDevice.{RawDevice}
use Rattle.board_defs.specs.declared.device.Symbol.{Symbol}
use Rattle.board_defs.specs.declared.fault.Single.{Single}
use Rattle.board_defs.specs.BoardRules.{IsBoard}
use Rattle.board_defs.specs.DeviceRules.{IsDevice}
use Rattle.board_defs.specs.Faults.{IsSingle, SinglePrecedes}
use Rattle.tap_defs.specs.chain.ChainScans.{chain_text}
use Rattle.tap_defs.specs.chain.ChainTest.{AreIrLengths, ir_lengths}
use Rattle.tap_defs.specs.chain.Clocks.{test_clocks}
use Rattle.tap_defs.specs.chain.Run.{Clock, Wiring, PassesOn, FailsOn}
use Rattle.tap_defs.specs.chain.Svf.{meaning}
use Rattle.tap_defs.specs.chain.TestLogic.{TestLogic}
use Rattle.tap_defs.specs.board.BoardScans.{board_text, svf_row_scans}
use Rattle.tap_defs.specs.board.Explaining.{AgreeOn, Explains, IsExpected}
use Rattle.tap_defs.specs.board.FaultSet.{FaultSet, no_faults, IsObservable, IsNonempty}
use Rattle.tap_defs.specs.board.OnBoard.{PassOnBoard, FailOnBoard}
use Rattle.tap_defs.specs.board.Quiet.{IsQuiet}
use Rattle.device_check.specs.DeviceText.{device_text}
use Rattle.coverage_list.specs.CoverList.{IsCoverList}
use Rattle.coverage_list.specs.CoverText.{cover_text}
use Rattle.ident_test.specs.CodedParts.{AreCoded, all_fit}
use Rattle.ident_test.specs.IdentTest.{ArePatterns}
use Rattle.ident_test.specs.Patterns.{ident_text}
use Rattle.diagnoser.specs.DiagText.{diag_text}
use Rattle.batch_diag.specs.declared.block.Block.{Block}
use Rattle.batch_diag.specs.Verdicts.{EachPair, Verdict}
use Rattle.batch_diag.specs.BatchText.{batch_text}
use Rattle.walk_test.specs.Groups.{AreGroups, Explain}
use Rattle.walk_test.specs.GroupText.{groups_text}
use Rattle.walk_test.specs.WalkTest.{board_walk_text, walk_row_list, walk_scans}
use Rattle.board_gen.specs.BoardTexts as made
use Rattle.board_gen.specs.DeviceText.{bsdl_text}
use Rattle.btest_core.specs.DevicesRead.{IsDeviceText}
use Rattle.btest_core.specs.BoardRead.{AreChainLengths, AreLengths, Denotes}
use Rattle.btest_core.specs.IdentsRead.{AreIdents}
use Rattle.command_line.specs.declared.command.Command.TheVariants.{Ident, Cover, Walk, Diagnose, Groups, Batch}
use Rattle.command_line.specs.Words.{Text, ChainNames, BoardNames, LogNames, Command}
use Rattle.btest_cli.specs.Texts.{Held}
use Rattle.btest_cli.specs.declared.status.Status.{Status}
use Rattle.btest_cli.specs.declared.status.Status.TheVariants.{Done, WriteFault}
use Rattle.promises.specs.Runs.{HoldsEach, Run, files_of}
use Rattle.promises.specs.Gives.{summary}
use Rattle.promises.specs.Logs.{HoldsBoardBlocks, HoldsLog}
use Rattle.promises.specs.Promises.{DiagnosesBlocks, DiagnosesLog, FindsGroups, HasResponses, IsDiagnosed, ListsCover, ListsDevice, RestsOnBlocks, RestsOnLog, RestsOnWalkLog, SumsUp, TestsBoard, TestsChain, TestsIdents, WalksBoard}
use Rattle.promises.proofs.SampleRuns.{chain, chain_words, device, device_words, run_of, svf, svf_words}

abbrev chain_names : ChainNames
chain_names = record { chain = codes "c"; bsdl = codes "b" ∷ [] }

abbrev board_names : BoardNames
board_names = record { chain = codes "c"; nets = codes "n"; bsdl = codes "b" ∷ [] }

-- the names of a file of response logs and of the files of its board
abbrev log_names : LogNames
log_names = record { log = codes "g"; board = board_names }

-- the names of the files that `chain` asks for
abbrev chain_files : List Text
chain_files = codes "c" ∷ codes "b" ∷ []

abbrev board_files : List Text
board_files = codes "c" ∷ codes "n" ∷ codes "b" ∷ []

abbrev log_files : List Text
log_files = codes "g" ∷ board_files

-- the command `diagnose` with one worker
abbrev diagnose : Command
diagnose = Diagnose 1 log_names

abbrev batch : Command
batch = Batch 1 log_names

abbrev groups : Command
groups = Groups log_names

-- the words of the command `diagnose`
abbrev diagnose_words : List Text
diagnose_words = codes "diagnose" ∷ codes "1" ∷ log_files

abbrev batch_words : List Text
batch_words = codes "batch" ∷ codes "1" ∷ log_files

abbrev groups_words : List Text
groups_words = codes "groups" ∷ log_files

-- a text followed by a newline is a different text
past : (text : Text) → text ++ 10 ∷ [] ≡ text → ⊥
past text same =
    let more : length (text ++ 10 ∷ []) ≡ length text + 1 = length-append text (10 ∷ []) in
    let count : length (text ++ 10 ∷ []) ≡ length text = ap length same in
    omega (arith, more, count)

module _ (held : Held) where
  -- a run of `chain` that wrote `text`
  abbrev chain_run : Text → Run
  chain_run text = run_of chain_words held Done chain_files text []

  module _ (lines : Text) (bsdl : List Text) (lengths : List ℕ)
      (each : HoldsEach held (files_of chain) (lines ∷ bsdl))
      (are : AreChainLengths lines bsdl (Ok lengths)) where
    other_chain_test : TestsChain (chain_run (chain_text lengths ++ 10 ∷ [])) → ⊥
    other_chain_test tests =
        let told =
        (tests chain_names lines bsdl lengths (((refl, omega arith), refl), each) are).puts refl
        in
        past (chain_text lengths) (told.1 ∙ told.2.0)

    chain_lengths : (text : Text) → TestsChain (chain_run text) → AreLengths lengths
    chain_lengths text tests = ((tests chain_names lines bsdl lengths (((refl, omega arith), refl), each) are).puts refl).2.1

    chain_passes : (text : Text) → TestsChain (chain_run text)
        → (wiring : Wiring) (parts : List TestLogic) → ir_lengths parts ≡ lengths
        → (clocks : List Clock) × (meaning text ≡ Some clocks) × PassesOn wiring parts clocks
    chain_passes text tests wiring parts same =
        let told = (tests chain_names lines bsdl lengths (((refl, omega arith), refl), each) are).puts refl in
        (told.2.2, ap meaning told.1 ∙ told.2.3, told.2.4 wiring parts same)

    -- if `text` keeps the promise, it fails on each chain with another number of parts, valid instruction
    -- lengths and no more instruction bits
    chain_fails : (text : Text) → TestsChain (chain_run text)
        → (wiring : Wiring) (parts : List TestLogic) → AreIrLengths (ir_lengths parts)
        → length parts ≢ length lengths → sum (ir_lengths parts) ≤ sum lengths
        → (clocks : List Clock) × (meaning text ≡ Some clocks) × FailsOn wiring parts clocks
    chain_fails text tests wiring parts wide other within =
        let told = (tests chain_names lines bsdl lengths (((refl, omega arith), refl), each) are).puts refl in
        (told.2.2, ap meaning told.1 ∙ told.2.3, told.2.5 wiring parts wide other within)

  abbrev ident_run : Text → Run
  ident_run text = run_of (codes "ident" ∷ chain_files) held Done chain_files text []

  module _ (lines : Text) (bsdl : List Text) (patterns : List (Option (List Symbol)))
      (each : HoldsEach held (files_of (Ident chain_names)) (lines ∷ bsdl))
      (are : AreIdents lines bsdl (Ok patterns)) where
    other_ident_test : TestsIdents (ident_run (ident_text patterns ++ 10 ∷ [])) → ⊥
    other_ident_test tests =
        let told =
        (tests chain_names lines bsdl patterns (((refl, omega arith), refl), each) are).puts refl
        in
        past (ident_text patterns) (told.1 ∙ told.2.0)

    ident_patterns : (text : Text) → TestsIdents (ident_run text) → ArePatterns patterns
    ident_patterns text tests = ((tests chain_names lines bsdl patterns (((refl, omega arith), refl), each) are).puts refl).2.1

    codes_pass : (text : Text) → TestsIdents (ident_run text)
        → (wiring : Wiring) (parts : List TestLogic) → AreCoded patterns parts
        → all_fit patterns parts ≡ true
        → (clocks : List Clock) × (meaning text ≡ Some clocks) × PassesOn wiring parts clocks
    codes_pass text tests wiring parts coded fit =
        let told = (tests chain_names lines bsdl patterns (((refl, omega arith), refl), each) are).puts refl in
        (told.2.2, ap meaning told.1 ∙ told.2.3, told.2.4 wiring parts coded fit)

    codes_fail : (text : Text) → TestsIdents (ident_run text)
        → (wiring : Wiring) (parts : List TestLogic) → AreCoded patterns parts
        → all_fit patterns parts ≡ false
        → (clocks : List Clock) × (meaning text ≡ Some clocks) × FailsOn wiring parts clocks
    codes_fail text tests wiring parts coded unfit =
        let told = (tests chain_names lines bsdl patterns (((refl, omega arith), refl), each) are).puts refl in
        (told.2.2, ap meaning told.1 ∙ told.2.3, told.2.5 wiring parts coded unfit)

  module _ (file : Text) (described : RawDevice)
      (each : HoldsEach held (files_of device) (file ∷ [])) (is : IsDeviceText file (Ok described))
    where
      other_listing : ListsDevice (run_of device_words held Done (codes "b" ∷ []) (device_text described ++ 10 ∷ []) []) → ⊥
      other_listing lists =
          let told = (lists (codes "b") file described ((refl, refl), each) is).puts refl in
          past (device_text described) (told.1 ∙ told.2.0)

      listed_rules : (text : Text) → ListsDevice (run_of device_words held Done (codes "b" ∷ []) text []) → IsDevice described
      listed_rules text lists = ((lists (codes "b") file described ((refl, refl), each) is).puts refl).2.1

  module _ (lines nets : Text) (bsdl : List Text) (board : RawBoard) (denotes : Denotes lines nets bsdl board) where
    module _ (each : HoldsEach held (files_of (Cover board_names)) (lines ∷ nets ∷ bsdl)) where
      abbrev cover_run : Text → Run
      cover_run text = run_of (codes "cover" ∷ board_files) held Done board_files text []

      other_cover_list : ListsCover (cover_run (cover_text board ++ 10 ∷ [])) → ⊥
      other_cover_list lists =
          let told =
          (lists board_names lines nets bsdl board (((refl, omega arith), refl), each) denotes).puts
          refl in
          past (cover_text board) (told.1 ∙ told.2.0)

      cover_is_true : (text : Text) → ListsCover (cover_run text) → IsBoard board × IsCoverList board text
      cover_is_true text lists =
          let told = (lists board_names lines nets bsdl board (((refl, omega arith), refl), each) denotes).puts refl in
          (told.2.1, subst (IsCoverList board) (sym told.1) told.2.2)

    module _ (each : HoldsEach held (files_of svf) (lines ∷ nets ∷ bsdl)) where
      abbrev svf_run : Text → Run
      svf_run text = run_of svf_words held Done board_files text []

      other_test : TestsBoard (svf_run (board_text board ++ 10 ∷ [])) → ⊥
      other_test tests =
          let told =
          (tests board_names lines nets bsdl board (((refl, omega arith), refl), each) denotes).puts
          refl in
          past (board_text board) (told.1 ∙ told.2.0)

      test_is_quiet : (text : Text) → TestsBoard (svf_run text)
          → (clocks : List Clock) × (meaning text ≡ Some clocks) × IsQuiet board clocks
          × PassOnBoard board no_faults clocks
      test_is_quiet text tests =
          let told = (tests board_names lines nets bsdl board (((refl, omega arith), refl), each) denotes).puts refl in
          (told.2.1, ap meaning told.1 ∙ told.2.2, told.2.3, told.2.4)

      test_fails : (text : Text) → TestsBoard (svf_run text) → (faults : FaultSet)
          → IsObservable board faults → IsNonempty faults
          → (clocks : List Clock) × (meaning text ≡ Some clocks) × FailOnBoard board faults clocks
      test_fails text tests faults observable some =
          let told = (tests board_names lines nets bsdl board (((refl, omega arith), refl), each) denotes).puts refl in
          (told.2.1, ap meaning told.1 ∙ told.2.2, told.2.5 faults observable some)

    module _ (each : HoldsEach held (files_of (Walk board_names)) (lines ∷ nets ∷ bsdl)) where
      abbrev walk_run : Text → Run
      walk_run text = run_of (codes "walk" ∷ board_files) held Done board_files text []

      other_walk : WalksBoard (walk_run (board_walk_text board ++ 10 ∷ [])) → ⊥
      other_walk walks =
          let told =
          (walks board_names lines nets bsdl board (((refl, omega arith), refl), each) denotes).puts
          refl in
          past (board_walk_text board) (told.1 ∙ told.2.0)

      walk_is_quiet : (text : Text) → WalksBoard (walk_run text)
          → (clocks : List Clock) × (meaning text ≡ Some clocks) × IsQuiet board clocks
          × PassOnBoard board no_faults clocks
      walk_is_quiet text walks =
          let told = (walks board_names lines nets bsdl board (((refl, omega arith), refl), each) denotes).puts refl in
          (told.2.1, ap meaning told.1 ∙ told.2.2, told.2.3, told.2.4)

    abbrev diagnose_run : Text → Run
    diagnose_run text = run_of diagnose_words held Done log_files text []

    module _ (log : Text) (each : HoldsEach held (files_of diagnose) (log ∷ lines ∷ nets ∷ bsdl)) where
      diagnosed : (text : Text) (rows : List (List Bool)) → HoldsLog board (svf_row_scans board) log rows → DiagnosesLog (diagnose_run text)
          → HasResponses board × (pass : Bool) × (faults : List Single)
          × IsDiagnosed board rows pass faults × (text ≡ diag_text board pass faults)
      diagnosed text rows holds diagnoses =
          let told =
          (diagnoses 1 log_names log lines nets bsdl board rows
          (((codes "1", refl, (refl, omega arith)), refl), each) denotes holds).puts refl in
          (told.2.0, told.2.1, told.2.2, told.2.3, told.1 ∙ told.2.4)

    abbrev batch_run : Text → Run
    batch_run text = run_of batch_words held Done log_files text []

    module _ (logs : Text) (each : HoldsEach held (files_of batch) (logs ∷ lines ∷ nets ∷ bsdl)) where
      blocks_diagnosed : (text : Text) (blocks : List Block) → HoldsBoardBlocks board logs blocks → DiagnosesBlocks (batch_run text)
          → HasResponses board × (verdicts : List Verdict)
          × EachPair (λ block verdict. IsDiagnosed board block.log verdict.pass verdict.faults)
          blocks verdicts × (text ≡ batch_text board blocks verdicts)
      blocks_diagnosed text blocks holds diagnoses =
          let told =
          (diagnoses 1 log_names logs lines nets bsdl board blocks
          (((codes "1", refl, (refl, omega arith)), refl), each) denotes holds).puts refl in
          (told.2.0, told.2.1, told.2.2, told.1 ∙ told.2.3)

    abbrev groups_run : Text → Run
    groups_run text = run_of groups_words held Done log_files text []

    module _ (log : Text) (each : HoldsEach held (files_of groups) (log ∷ lines ∷ nets ∷ bsdl)) where
      groups_found : (text : Text) (rows : List (List Bool)) → HoldsLog board (walk_row_list board) log rows → FindsGroups (groups_run text)
          → (meaning (board_walk_text board) ≡ Some (test_clocks (walk_scans board)))
          × (found : Option (List (List ℕ))) × (text ≡ groups_text board found)
          × ((groups : List (List ℕ)) → (found ≡ Some groups) ↔ Explain board rows groups)
      groups_found text rows holds finds =
          let told =
          (finds log_names log lines nets bsdl board rows
          (((refl, omega arith), refl), each) denotes holds).puts refl in
          (told.2.0, told.2.1, told.1 ∙ told.2.2, told.2.3)

      groups_respond : (text : Text) (rows : List (List Bool))
          → HoldsLog board (walk_row_list board) log rows → FindsGroups (groups_run text)
          → (groups : List (List ℕ)) → AreGroups board groups
          → (one : List (List Bool)) × Explain board one groups
          × ((other : List (List Bool)) → Explain board other groups
          → AgreeOn board (walk_row_list board) one other)
      groups_respond text rows holds finds groups are =
          let told =
          (finds log_names log lines nets bsdl board rows
          (((refl, omega arith), refl), each) denotes holds).puts refl in
          let one = told.2.4 groups are in
          (one.0, one.1, λ other explains. told.2.5 groups one.0 other one.1 explains)

  other_summary : (board : RawBoard)
      → Denotes (made.chain_file_text 2) (made.net_text 2) (bsdl_text ∷ []) board
      → SumsUp (run_of (codes "make" ∷ codes "2" ∷ []) None Done [] (summary board ++ 10 ∷ []) [])
      → ⊥
  other_summary board denotes sums =
      let told = (sums 2 board (((codes "2", refl, refl), refl), tt) denotes).puts refl in
      past (summary board) (told.1 ∙ told.2)

-- Runs that wrote a text, in whole or in part, although the files denote no board or the log is not a log of the board.
module _ (held : Held) (lines nets : Text) (bsdl : List Text) (status : Status)
    (ended : (status ≡ Done) ⊎ (status ≡ WriteFault)) (text : Text) where
  module _ (log : Text) (each : HoldsEach held (files_of diagnose) (log ∷ lines ∷ nets ∷ bsdl)) where
    -- the log file holds a log of some board, but the other files denote no board
    diagnosed_without_board : (other : RawBoard) (rows : List (List Bool))
        → HoldsLog other (svf_row_scans other) log rows
        → ((board : RawBoard) → Denotes lines nets bsdl board → ⊥)
        → RestsOnLog (run_of diagnose_words held status log_files text []) → ⊥
    diagnosed_without_board other rows holds none rests =
        let told = rests 1 log_names log lines nets bsdl (((codes "1", refl, (refl, omega arith)), refl), each) ended in
        none told.0 told.1

    diagnosed_without_log : (board : RawBoard) → Denotes lines nets bsdl board
        → ((other : RawBoard) (rows : List (List Bool)) → Denotes lines nets bsdl other
        → HoldsLog other (svf_row_scans other) log rows → ⊥)
        → RestsOnLog (run_of diagnose_words held status log_files text []) → ⊥
    diagnosed_without_log board denotes none rests =
        let told = rests 1 log_names log lines nets bsdl (((codes "1", refl, (refl, omega arith)), refl), each) ended in
        none told.0 told.2 told.1 told.3

  module _ (logs : Text) (each : HoldsEach held (files_of batch) (logs ∷ lines ∷ nets ∷ bsdl)) where
    judged_without_board : (other : RawBoard) (blocks : List Block)
        → HoldsBoardBlocks other logs blocks
        → ((board : RawBoard) → Denotes lines nets bsdl board → ⊥)
        → RestsOnBlocks (run_of batch_words held status log_files text []) → ⊥
    judged_without_board other blocks holds none rests =
        let told = rests 1 log_names logs lines nets bsdl (((codes "1", refl, (refl, omega arith)), refl), each) ended in
        none told.0 told.1

    judged_without_blocks : (board : RawBoard) → Denotes lines nets bsdl board
        → ((other : RawBoard) (blocks : List Block) → Denotes lines nets bsdl other
        → HoldsBoardBlocks other logs blocks → ⊥)
        → RestsOnBlocks (run_of batch_words held status log_files text []) → ⊥
    judged_without_blocks board denotes none rests =
        let told = rests 1 log_names logs lines nets bsdl (((codes "1", refl, (refl, omega arith)), refl), each) ended in
        none told.0 told.2 told.1 told.3

  module _ (log : Text) (each : HoldsEach held (files_of groups) (log ∷ lines ∷ nets ∷ bsdl)) where
    grouped_without_board : (other : RawBoard) (rows : List (List Bool))
        → HoldsLog other (walk_row_list other) log rows
        → ((board : RawBoard) → Denotes lines nets bsdl board → ⊥)
        → RestsOnWalkLog (run_of groups_words held status log_files text []) → ⊥
    grouped_without_board other rows holds none rests =
        let told = rests log_names log lines nets bsdl (((refl, omega arith), refl), each) ended in
        none told.0 told.1

    grouped_without_log : (board : RawBoard) → Denotes lines nets bsdl board
        → ((other : RawBoard) (rows : List (List Bool)) → Denotes lines nets bsdl other
        → HoldsLog other (walk_row_list other) log rows → ⊥)
        → RestsOnWalkLog (run_of groups_words held status log_files text []) → ⊥
    grouped_without_log board denotes none rests =
        let told = rests log_names log lines nets bsdl (((refl, omega arith), refl), each) ended in
        none told.0 told.2 told.1 told.3

-- Samples of diagnoses that are wrong for a log.
module _ (board : RawBoard) (log : List (List Bool)) where
  unexpected_pass : (faults : List Single) → (IsExpected board (svf_row_scans board) log → ⊥) → IsDiagnosed board log true faults → ⊥
  unexpected_pass faults differs is = differs (is.passes.0 refl)

  expected_fail : (faults : List Single) → IsExpected board (svf_row_scans board) log → IsDiagnosed board log false faults → ⊥
  expected_fail faults expected is = let z : false ≡ true = is.passes.1 expected in cc z

  pass_with_fault : (single : Single) → IsDiagnosed board log true (single ∷ []) → ⊥
  pass_with_fault single is = let count : 1 ≡ 0 = ap length (is.none refl) in absurd (omega (arith, count))

  fault_left_out : (single : Single) (pass : Bool) → IsSingle board single → Explains board single log → IsDiagnosed board log pass [] → ⊥
  fault_left_out single pass one explains is = let contained = (is.exactly single).1 (one, explains) in omega (arith, contained.1)

  fault_that_explains_nothing : (single : Single) (pass : Bool) → (Explains board single log → ⊥)
      → IsDiagnosed board log pass (single ∷ []) → ⊥
  fault_that_explains_nothing single pass none is = none ((is.exactly single).0 (0, omega arith, refl)).1

  fault_of_another_board : (single : Single) (pass : Bool) → (IsSingle board single → ⊥) → IsDiagnosed board log pass (single ∷ []) → ⊥
  fault_of_another_board single pass none is = none ((is.exactly single).0 (0, omega arith, refl)).0

  faults_out_of_order : (one other : Single) (pass : Bool) → (SinglePrecedes one other → ⊥)
      → IsDiagnosed board log pass (one ∷ other ∷ []) → ⊥
  faults_out_of_order one other pass none is = none (is.in_order 0 1 one (omega arith) (omega arith))

-- Samples of boards whose test lacks a property that a diagnosis needs.
module _ (board : RawBoard) where
  test_without_meaning : meaning (board_text board) ≡ None → HasResponses board → ⊥
  test_without_meaning none has =
      let bad : ◌≡◌ {A = Option (List Clock)} None (Some _) = sym none ∙ has.means in
      cc bad

  fault_without_response : (single : Single) → IsSingle board single
      → ((log : List (List Bool)) → Explains board single log → ⊥) → HasResponses board → ⊥
  fault_without_response single one none has = let some = has.some single one in none some.0 some.1

  two_responses : (single : Single) (log other : List (List Bool)) → Explains board single log
      → Explains board single other → (AgreeOn board (svf_row_scans board) log other → ⊥)
      → HasResponses board → ⊥
  two_responses single log other one two differ has = differ (has.one single log other one two)
