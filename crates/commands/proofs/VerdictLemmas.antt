-- Lemmas which say that diagnoses and groups are correct for their logs.
use Rattle.std.proofs.Common.{◌≡◌, ◌↔◌, ℕ, Bool, List, [], ◌∷◌, Option, Some, None, IsTrue, ap, subst}
use Rattle.board_defs.specs.declared.board.RawBoard.{RawBoard}
use Rattle.board_defs.specs.declared.fault.Single.{Single}
use Rattle.board_defs.specs.BoardRules.{IsBoard}
use Rattle.tap_defs.specs.board.BoardScans.{svf_row_scans}
use Rattle.tap_defs.specs.board.Explaining.{IsExpected}
use Rattle.diagnoser.specs.Diagnosis.{AreExplaining}
use Rattle.diagnoser.specs.Laws.{ExplainingListed, PassingUnexplained}
use Rattle.batch_diag.specs.declared.block.Block.{Block}
use Rattle.batch_diag.specs.Verdicts.{AreVerdicts, EachPair, Verdict}
use Rattle.walk_test.specs.Groups.{AreFound, Explain}
use Rattle.walk_test.specs.Laws.{OneSet}
use Rattle.commands.specs.Worth.{IsRight}

module _ (listed : ExplainingListed) (unexplained : PassingUnexplained) (board : RawBoard) (rules : IsBoard board) where
  -- if `pass` says whether the log passes, and `faults` has the faults that explain the log, the diagnosis is correct (`IsRight`)
  pub is_right : (rows : List (List Bool)) (pass : Bool) (faults : List Single)
      → (IsTrue pass ↔ IsExpected board (svf_row_scans board) rows)
      → AreExplaining board rows faults → IsRight board rows pass faults
  is_right rows pass faults passes explaining =
      record {
        passes = passes;
        lists = listed board rows faults rules explaining;
        none = λ e. unexplained
            board rows faults rules (passes.0 e) explaining;
      }

  -- if each verdict is the verdict on its block (`AreVerdicts`), it is correct for the block's log (`IsRight`)
  pub each_right : (blocks : List Block) (verdicts : List Verdict)
      → AreVerdicts board blocks verdicts
      → EachPair (λ block verdict. IsRight board block.log verdict.pass verdict.faults) blocks
      verdicts
  each_right [] [] are = tt
  each_right [] (verdict ∷ verdicts) are = absurd are
  each_right (block ∷ blocks) [] are = absurd are
  each_right (block ∷ blocks) (verdict ∷ verdicts) are = (
    is_right block.log verdict.pass verdict.faults are.0.passes are.0.list,
    each_right blocks verdicts are.1,
  )

-- if `found` is what a log shows (`AreFound`), it is the set `groups` if and only if `groups` explains the log
pub exactly_found : OneSet → (board : RawBoard) → IsBoard board
    → (rows : List (List Bool)) (found : Option (List (List ℕ))) → AreFound board rows found
    → (groups : List (List ℕ)) → (found ≡ Some groups) ↔ Explain board rows groups
exactly_found one board rules rows None none groups = (λ e. absurd cc, λ explains. absurd (none groups explains))
exactly_found one board rules rows (Some found) explained groups = (
  λ e. let same : found ≡ groups = cc in
      subst (Explain board rows) same explained,
  λ explains. ap Some (one board rows found groups rules explained explains),
)
