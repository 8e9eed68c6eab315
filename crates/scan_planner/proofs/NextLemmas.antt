-- Lemmas about the mask of a pass. All rows of a pass have the same mask, so two successive scans that each compare a row of the pass have
-- the same mask.
use Rattle.std.proofs.Common.{◌≡◌, ℕ, suc, ◌+◌, ◌*◌, ◌-◌, ◌<◌, ◌≤◌, Bool, List, [], length, get_or, Option, Some, None, sym, ap, ◌∙◌, arith}
use Rattle.std.specs.Prelude.{slice_get}
use Rattle.std.proofs.lemmas.Option.{slice_get-get_or}
use Rattle.board_defs.specs.declared.board.RawBoard.{RawBoard}
use Rattle.board_defs.specs.BoardRules.{IsBoard}
use Rattle.tap_defs.specs.declared.scan.Shape.{Shape}
use Rattle.tap_defs.specs.chain.Scan.{ScanBit, Scan, joined, mask_bits}
use Rattle.tap_defs.specs.board.BoardScans.{row_bits, test_scans}
use Rattle.tap_defs.proofs.board.ScanPlaceLemmas.{scans_placed}
use Rattle.tap_defs.proofs.chain.RowLemmas.{mask_bits-scan_bits}
use Rattle.plan_tables.specs.declared.tables.PlanTables.{PlanTables}
use Rattle.plan_tables.specs.Plans.{IsPlanOf}
use Rattle.scan_planner.specs.Plans.{FillsScan, scan_of_pass}
use Rattle.scan_planner.proofs.FillLemmas.{mask_is}

pub mask_stands : (board : RawBoard) → IsBoard board → (plan : PlanTables) → IsPlanOf board plan
    → (x j : ℕ) → x < length plan.passes → 1 < j → j ≤ plan.width →
    (shape : Shape) (tdi tdo mask : List Bool) → FillsScan board plan.passes plan.width (2 + (x * suc plan.width + j)) shape tdi tdo mask →
    mask ≡ mask_bits (joined (row_bits board (scan_of_pass board plan x j)))
mask_stands board rules plan p x j less later within shape tdi tdo mask f =
    sym (mask_bits-scan_bits tdi tdo mask f.tdo_length f.mask_length)
    ∙ ap (λ (o : Option Scan). mask_bits (bits_of o))
    (sym f.scan ∙ ap (slice_get scans) place
    ∙ (scans_placed board plan.passes plan.width).rows x (get_or plan.passes x []) (suc i)
    (slice_get-get_or plan.passes x [] less) (omega (arith, later, within)))
    ∙ sym (mask_is board rules plan p x less i)
    ∙ mask_is board rules plan p x less (suc i)
    ∙ ap (λ (n : ℕ). mask_bits (joined (row_bits board (scan_of_pass board plan x n)))) two
  where
    i : ℕ
    i = j - 2

    scans : List Scan
    scans = test_scans board plan.passes plan.width

    bits_of : Option Scan → List ScanBit
    bits_of None = []
    bits_of (Some scan) = scan.bits

    two : suc (suc i) ≡ j
    two = omega (arith, later)

    place : 2 + (x * suc plan.width + j) ≡ 3 + (x * suc plan.width + suc i)
    place = omega (arith, later)
