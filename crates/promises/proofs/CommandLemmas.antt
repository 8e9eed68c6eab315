-- Lemmas which derive the promise of each command from `IsWorthFor`, the property that the contract of `run`
-- states for the text that a command writes.
use Rattle.std.proofs.Common.{◌≡◌, ◌∙◌, ℕ, Bool, List, [], ◌∷◌, Option, Result, Ok, Err, refl, sym, ap, subst, inl, inr}
use Rattle.std.specs.Prelude.{◌↔◌, Some}
use Rattle.board_defs.specs.declared.board.RawBoard.{RawBoard}
use Rattle.board_defs.specs.declared.device.Symbol.{Symbol}
use Rattle.board_defs.specs.declared.fault.Single.{Single}
use Rattle.board_defs.specs.BoardRules.{IsBoard}
use Rattle.board_defs.specs.DeviceRules.{IsDevice}
use Rattle.tap_defs.specs.chain.ChainScans.{chain_text}
use Rattle.tap_defs.specs.chain.ChainTest.{IsChainTest}
use Rattle.tap_defs.specs.board.BoardScans.{board_text}
use Rattle.tap_defs.specs.board.BoardTest.{IsBoardTest, IsHarmless}
use Rattle.device_check.specs.DeviceText.{device_text}
use Rattle.coverage_list.specs.CoverList.{IsCoverList}
use Rattle.coverage_list.specs.CoverText.{cover_text}
use Rattle.ident_test.specs.IdentTest.{ArePatterns, IsIdentTest}
use Rattle.ident_test.specs.Patterns.{ident_text}
use Rattle.batch_diag.specs.declared.block.Block.{Block}
use Rattle.batch_diag.specs.Verdicts.{EachPair, Verdict}
use Rattle.batch_diag.specs.BatchText.{batch_text}
use Rattle.walk_test.specs.Groups.{Explain}
use Rattle.walk_test.specs.WalkTest.{board_walk_text}
use Rattle.board_gen.specs.BoardTexts as made
use Rattle.board_gen.specs.DeviceText.{bsdl_text}
use Rattle.btest_core.specs.BoardRead.{AreLengths, Denotes}
use Rattle.commands.specs.LogRead.{test_blocks, test_log, walk_log}
use Rattle.commands.specs.Worth.{Diagnoses, DiagnosesEach, IsGroupsText as FindsOne, IsRight, RespondOnce, TestMeans}
use Rattle.command_line.specs.declared.command.Command.TheVariants.{Chain, Ident, Device, Cover, Svf, Walk, Make, Diagnose, Groups, Batch}
use Rattle.command_line.specs.Words.{Text}
use Rattle.promises.specs.Runs.{Run}
use Rattle.promises.specs.Gives.{GivesOutcome, summary}
use Rattle.promises.specs.Promises.{DiagnosesBlocks, DiagnosesLog, FindsGroups, HasResponses, IsDiagnosed, ListsCover, ListsDevice, RestsOnBlocks, RestsOnLog, RestsOnWalkLog, SumsUp, TestsBoard, TestsChain, TestsIdents, WalksBoard}
use Rattle.promises.specs.Logs.{LinesAreRead}
use Rattle.promises.specs.inner.Facts.{IsRun, SayOne}
use Rattle.promises.proofs.GiveLemmas.{not_both, same_ok}
use Rattle.promises.proofs.RunLemmas.{gives_text, prints}

module _ (run : Run) (is : IsRun run) (one : SayOne) where
  same_board : (chain nets : Text) (bsdl : List Text) (board other : RawBoard)
      → Denotes chain nets bsdl board → Denotes chain nets bsdl other → other ≡ board
  same_board chain nets bsdl board other denotes also = same_ok (one.board chain nets bsdl (Ok other) (Ok board) also denotes)

  pub tests_chain : TestsChain run
  tests_chain names chain bsdl lengths on are =
      prints run is (Chain names) on.0 (chain ∷ bsdl) on.1 _ refl _
      (λ line gives. not_both (one.chain chain bsdl (Ok lengths) (Err gives.0) are gives.1))
      (λ text gives worth.
      let value : gives.0 ≡ lengths = same_ok (one.chain chain bsdl (Ok gives.0) (Ok lengths) gives.1 are) in
      let same : worth.lengths ≡ lengths = same_ok (one.chain chain bsdl (Ok worth.lengths) (Ok lengths) worth.are are) in
      let test = subst (λ (l : List ℕ). IsChainTest l text) same worth.tests in
      (gives.2 ∙ ap chain_text value, subst AreLengths same worth.bounds, test.clocks, test.means, test.passes, test.fails))

  pub tests_idents : TestsIdents run
  tests_idents names chain bsdl patterns on are =
      prints run is (Ident names) on.0 (chain ∷ bsdl) on.1 _ refl _
      (λ line gives. not_both (one.idents chain bsdl (Ok patterns) (Err gives.0) are gives.1))
      (λ text gives worth.
      let value : gives.0 ≡ patterns = same_ok (one.idents chain bsdl (Ok gives.0) (Ok patterns) gives.1 are) in
      let same : worth.patterns ≡ patterns = same_ok (one.idents chain bsdl (Ok worth.patterns) (Ok patterns) worth.are are) in
      let test = subst (λ (l : List (Option (List Symbol))). IsIdentTest l text) same worth.tests in
      (gives.2 ∙ ap ident_text value, subst ArePatterns same worth.bounds, test.clocks, test.means, test.passes, test.fails))

  pub lists_device : ListsDevice run
  lists_device name text device on described =
      prints run is (Device name) on.0 (text ∷ []) on.1 _ refl _
      (λ line gives. not_both (one.device text (Ok device) (Err gives.0) described gives.1))
      (λ listing gives worth.
      let same : worth.device ≡ device = same_ok (one.device text (Ok worth.device) (Ok device) worth.described described) in
      (worth.is ∙ ap device_text same, subst IsDevice same worth.rules))

  pub lists_cover : ListsCover run
  lists_cover names chain nets bsdl board on denotes =
      prints run is (Cover names) on.0 (chain ∷ nets ∷ bsdl) on.1 _ refl _
      (λ line gives. not_both
      (one.board chain nets bsdl (Ok board) (Err gives.0) denotes gives.1))
      (λ text gives worth.
      let same = same_board chain nets bsdl board worth.board denotes worth.denoted in (
        gives.2 ∙ ap cover_text (same_board chain nets bsdl board gives.0 denotes gives.1),
        subst IsBoard same worth.rules,
        subst (λ (b : RawBoard). IsCoverList b text) same worth.lists,
      ))

  pub tests_board : TestsBoard run
  tests_board names chain nets bsdl board on denotes =
      prints run is (Svf names) on.0 (chain ∷ nets ∷ bsdl) on.1 _ refl _
      (λ line gives. not_both
      (one.board chain nets bsdl (Ok board) (Err gives.0) denotes gives.1))
      (λ text gives worth.
      let same = same_board chain nets bsdl board worth.board denotes worth.denoted in
      let test = subst (λ (b : RawBoard). IsBoardTest b text) same worth.tests in (
        gives.2 ∙ ap board_text (same_board chain nets bsdl board gives.0 denotes gives.1),
        test.clocks,
        test.means,
        test.quiet,
        test.passes,
        test.fails,
      ))

  pub walks_board : WalksBoard run
  walks_board names chain nets bsdl board on denotes =
      prints run is (Walk names) on.0 (chain ∷ nets ∷ bsdl) on.1 _ refl _
      (λ line gives. not_both
      (one.board chain nets bsdl (Ok board) (Err gives.0) denotes gives.1))
      (λ text gives worth.
      let same = same_board chain nets bsdl board worth.board denotes worth.denoted in
      let test = subst (λ (b : RawBoard). IsHarmless b text) same worth.harmless in (
        gives.2 ∙ ap board_walk_text (same_board chain nets bsdl board gives.0 denotes gives.1),
        test.clocks,
        test.means,
        test.quiet,
        test.passes,
      ))

  pub sums_up : SumsUp run
  sums_up parts board on denotes =
      let chain = made.chain_file_text parts in
      let nets = made.net_text parts in
      prints run is (Make parts) on.0 [] on.1 _ refl _
      (λ line gives. not_both
      (one.board chain nets (bsdl_text ∷ []) (Ok board) (Err gives.0) denotes gives.1))
      (λ text gives worth. gives.2 ∙ ap summary (same_board chain nets (bsdl_text ∷ []) board gives.0 denotes gives.1))

  -- if the files denote a board, and a log can be read for this board, then the log has no fault for any board that the files denote
  read_well : {L E : Type 0} (read : Text → RawBoard → Result L E) (log chain nets : Text)
      (bsdl : List Text) (board : RawBoard) (contents : L) → Denotes chain nets bsdl board
      → read log board ≡ Ok contents
      → (other : RawBoard) (fault : E) → Denotes chain nets bsdl other → read log other ≡ Err fault → ⊥
  read_well {L} {E} read log chain nets bsdl board contents denotes holds other fault also fails =
      not_both (sym holds ∙ subst (λ (b : RawBoard). read log b ≡ Err fault) (same_board chain nets bsdl board other denotes also) fails)

  responses : (board : RawBoard) → TestMeans board → RespondOnce board → HasResponses board
  responses board means respond = record { means = means; some = respond.some; one = respond.one }

  diagnosed : (board : RawBoard) (rows : List (List Bool)) (pass : Bool) (faults : List Single)
      → IsRight board rows pass faults → IsDiagnosed board rows pass faults
  diagnosed board rows pass faults right = record { passes = right.passes; none = right.none; exactly = right.lists.exactly; in_order = right.lists.in_order }

  pub diagnoses_log : LinesAreRead → DiagnosesLog run
  diagnoses_log lines workers names log chain nets bsdl board rows on denotes holds =
      prints run is (Diagnose workers names) on.0 (log ∷ chain ∷ nets ∷ bsdl) on.1 _ refl _ (λ line gives. sound gives)
      (λ text gives worth.
      let told = subst (λ (b : RawBoard). Diagnoses log b text) (same_board chain nets bsdl board worth.0 denotes worth.1) worth.2 in
      let same : told.rows ≡ rows = same_ok (sym told.read ∙ read) in
      let right = subst (λ (l : List (List Bool)). IsRight board l told.pass told.faults) same told.right in
      (responses board told.means told.respond, told.pass, told.faults, diagnosed board rows told.pass told.faults right, told.is))
    where
      read : test_log log board ≡ Ok rows
      read = (lines.test chain nets bsdl board log rows denotes).1 holds

      sound : {line : Text} → GivesOutcome (Diagnose workers names) (log ∷ chain ∷ nets ∷ bsdl) (Err line) → ⊥
      sound (inl (fault, found, e)) = not_both (one.board chain nets bsdl (Ok board) (Err fault) denotes found)
      sound (inr (other, also, fault, fails, e)) = read_well test_log log chain nets bsdl board rows denotes read other fault also fails

  pub rests_on_log : LinesAreRead → RestsOnLog run
  rests_on_log lines workers names log chain nets bsdl on ended =
      let gives = (gives_text run is (Diagnose workers names) on.0 (log ∷ chain ∷ nets ∷ bsdl) on.1 ended).1 in
      (gives.0, gives.1, gives.2, (lines.test chain nets bsdl gives.0 log gives.2 gives.1).0 gives.3)

  diagnosed_each : (board : RawBoard) (blocks : List Block) (verdicts : List Verdict)
      → EachPair (λ block verdict. IsRight board block.log verdict.pass verdict.faults) blocks
      verdicts
      → EachPair (λ block verdict. IsDiagnosed board block.log verdict.pass verdict.faults) blocks verdicts
  diagnosed_each board [] [] right = tt
  diagnosed_each board [] (verdict ∷ verdicts) right = absurd right
  diagnosed_each board (block ∷ blocks) [] right = absurd right
  diagnosed_each board (block ∷ blocks) (verdict ∷ verdicts) right = (
    diagnosed board block.log verdict.pass verdict.faults right.0,
    diagnosed_each board blocks verdicts right.1,
  )

  pub diagnoses_blocks : LinesAreRead → DiagnosesBlocks run
  diagnoses_blocks lines workers names logs chain nets bsdl board blocks on denotes holds =
      prints run is (Batch workers names) on.0 (logs ∷ chain ∷ nets ∷ bsdl) on.1 _ refl _ (λ line gives. sound gives)
      (λ text gives worth.
      let told = subst (λ (b : RawBoard). DiagnosesEach logs b text) (same_board chain nets bsdl board worth.0 denotes worth.1) worth.2 in
      let same : told.blocks ≡ blocks = same_ok (sym told.read ∙ read) in
      let each = diagnosed_each board told.blocks told.verdicts told.right in (
        responses board told.means told.respond,
        told.verdicts,
        subst
            (λ (l : List Block). EachPair
            (λ block verdict. IsDiagnosed board block.log verdict.pass verdict.faults) l
            told.verdicts) same each,
        told.is ∙ ap (λ (l : List Block). batch_text board l told.verdicts) same,
      ))
    where
      read : test_blocks logs board ≡ Ok blocks
      read = (lines.blocks chain nets bsdl board logs blocks denotes).1 holds

      sound : {line : Text} → GivesOutcome (Batch workers names) (logs ∷ chain ∷ nets ∷ bsdl) (Err line) → ⊥
      sound (inl (fault, found, e)) = not_both (one.board chain nets bsdl (Ok board) (Err fault) denotes found)
      sound (inr (other, also, fault, fails, e)) =
          read_well test_blocks logs chain nets bsdl board blocks denotes read other fault also
          fails

  pub rests_on_blocks : LinesAreRead → RestsOnBlocks run
  rests_on_blocks lines workers names logs chain nets bsdl on ended =
      let gives = (gives_text run is (Batch workers names) on.0 (logs ∷ chain ∷ nets ∷ bsdl) on.1 ended).1 in
      (gives.0, gives.1, gives.2, (lines.blocks chain nets bsdl gives.0 logs gives.2 gives.1).0 gives.3)

  pub finds_groups : LinesAreRead → FindsGroups run
  finds_groups lines names log chain nets bsdl board rows on denotes holds =
      prints run is (Groups names) on.0 (log ∷ chain ∷ nets ∷ bsdl) on.1 _ refl _ (λ line gives. sound gives)
      (λ text gives worth.
      let told = subst (λ (b : RawBoard). FindsOne log b text) (same_board chain nets bsdl board worth.0 denotes worth.1) worth.2 in
      let same : told.rows ≡ rows = same_ok (sym told.read ∙ read) in (
        told.means,
        told.found,
        told.is,
        subst (λ (l : List (List Bool)). (groups : List (List ℕ)) → (told.found ≡ Some groups) ↔ Explain board l groups) same told.exactly,
        told.respond,
        told.one,
      ))
    where
      read : walk_log log board ≡ Ok rows
      read = (lines.walk chain nets bsdl board log rows denotes).1 holds

      sound : {line : Text} → GivesOutcome (Groups names) (log ∷ chain ∷ nets ∷ bsdl) (Err line) → ⊥
      sound (inl (fault, found, e)) = not_both (one.board chain nets bsdl (Ok board) (Err fault) denotes found)
      sound (inr (other, also, fault, fails, e)) = read_well walk_log log chain nets bsdl board rows denotes read other fault also fails

  pub rests_on_walk_log : LinesAreRead → RestsOnWalkLog run
  rests_on_walk_log lines names log chain nets bsdl on ended =
      let gives = (gives_text run is (Groups names) on.0 (log ∷ chain ∷ nets ∷ bsdl) on.1 ended).1 in
      (gives.0, gives.1, gives.2, (lines.walk chain nets bsdl gives.0 log gives.2 gives.1).0 gives.3)
