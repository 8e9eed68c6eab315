-- Lemmas which say that the checks of a log decide whether a fault explains the log and whether the log is the expected one.
use Rattle.std.proofs.Common.{◌≡◌, ℕ, ◌*◌, ◌<◌, Bool, List, length, Option, Some, None, Decides, sym, ap, ◌∙◌, subst, inl, inr}
use Rattle.std.specs.Prelude.{◌↔◌, All}
use Rattle.std.proofs.lemmas.Option.{slice_get_within}
use Rattle.board_defs.specs.declared.board.RawBoard.{RawBoard}
use Rattle.board_defs.specs.declared.board.Ctl.{Ctl}
use Rattle.board_defs.specs.declared.fault.Single.{Single}
use Rattle.board_defs.specs.declared.fault.Single.TheVariants.{StuckNet, OpenPin, Short}
use Rattle.board_defs.specs.BoardRules.{IsBoard}
use Rattle.board_defs.specs.Faults.{IsSingle}
use Rattle.board_defs.specs.Passes.{passes_of}
use Rattle.board_defs.specs.Pins.{data_bits}
use Rattle.tap_defs.specs.board.TestRows.{code_row, code_width, observed_count}
use Rattle.tap_defs.specs.board.BoardScans.{RowScan, svf_row_scans}
use Rattle.tap_defs.specs.board.Explaining.{CompareRows, HasShape, Explains, IsExpected, ShowsBits, compared_scans}
use Rattle.tap_defs.specs.board.SingleBits.{single_bit}
use Rattle.plan_tables.specs.declared.tables.PlanTables.{PlanTables}
use Rattle.scan_planner.specs.Plans.{IsPlanOf}
use Rattle.fault_sim.specs.Effects.{first_net, second_net}
use Rattle.fault_sim.specs.inner.Effects.{fault_bit}
use Rattle.fault_sim.specs.Fits.{ShowsAll, ShowsOwn}
use Rattle.fault_sim.proofs.EffectLemmas.{IsFault}
use Rattle.fault_sim.proofs.ShowLemmas.{bits_shown, all_shown}

pub decides_as : {P Q : Type 0} (r : Bool) → Decides r P → (P → Q) → (Q → P) → Decides r Q
decides_as r decides to back = (λ e. to (decides.0 e), λ q. decides.1 (back q))

pub nets_there : (board : RawBoard) (single : Single) → IsSingle board single
    → (first_net single < length board.nets) × (second_net single < length board.nets)
nets_there board (StuckNet net value) (setting, safe, (v, en, o)) =
    (slice_get_within board.nets net v en, slice_get_within board.nets net v en)
nets_there board (OpenPin pin value) (inl (setting, safe, (v, en, o))) =
    (slice_get_within board.nets pin.net v en, slice_get_within board.nets pin.net v en)
nets_there board (OpenPin pin value) (inr (setting, safe, (v, q, driver, en, ep, reads, ne, o))) =
    (slice_get_within board.nets pin.net v en, slice_get_within board.nets pin.net v en)
nets_there board (Short a b kind) (less, (ne, (setting, safe, ((one, ea, oa), (two, eb, ob))))) =
    (slice_get_within board.nets a one ea, slice_get_within board.nets b two eb)

pub own_shown : (board : RawBoard) (plan : PlanTables) (log : List (List Bool)) (single : Single)
    → IsSingle board single → ShowsAll board plan (Some single) log → ShowsOwn board plan single log
own_shown board plan log single is shown = λ x less.
    let there = nets_there board single is in
    (shown x less (first_net single) there.0, shown x less (second_net single) there.1)

module _ (board : RawBoard) (rules : IsBoard board) (plan : PlanTables) (p : IsPlanOf board plan)
    (passes : plan.passes ≡ passes_of board) (log : List (List Bool))
    (rows : length log ≡ length plan.passes * plan.width) (bits : All (λ row. length row ≡ data_bits board) log)
    (compared : CompareRows (code_row board (passes_of board))
    (code_width (observed_count board (passes_of board))) (passes_of board)
    (compared_scans board (svf_row_scans board)))
    (shape : HasShape board (svf_row_scans board) log
    ↔ ((length log
    ≡ length (passes_of board) * code_width
    (observed_count board (passes_of board)))
    × All (λ row. length row ≡ data_bits board) log)) where
  abbrev scans : List RowScan
  scans = svf_row_scans board

  width_is : plan.width ≡ code_width (observed_count board (passes_of board))
  width_is = p.width_is ∙ ap (λ (l : List (List Ctl)). code_width (observed_count board l)) passes

  pub plan_compared : CompareRows (code_row board plan.passes) plan.width plan.passes (compared_scans board scans)
  plan_compared =
      subst (λ (w : ℕ). CompareRows (code_row board plan.passes) w plan.passes (compared_scans board scans)) (sym width_is)
      (subst
      (λ (l : List (List Ctl)). CompareRows (code_row board l)
      (code_width (observed_count board (passes_of board))) l (compared_scans board scans))
      (sym passes) compared)

  pub shaped : HasShape board scans log
  shaped =
      shape.1 (
        rows ∙ ap (λ (l : List (List Ctl)). length l * plan.width) passes
            ∙ ap (λ (w : ℕ). length (passes_of board) * w) width_is,
        bits,
      )

  module _ (fault : Option Single) (is_fault : IsFault board fault) where
    pub to_bits : ShowsAll board plan fault log → ShowsBits board scans (fault_bit board fault) log
    to_bits = bits_shown board rules plan p fault is_fault log rows bits scans plan_compared

    pub from_bits : ShowsBits board scans (fault_bit board fault) log → ShowsAll board plan fault log
    from_bits = all_shown board rules plan p fault is_fault log rows bits scans plan_compared

  pub explains_is : (single : Single) → IsSingle board single
      → Explains board single log
      ↔ (HasShape board scans log × ShowsBits board scans (single_bit board single) log) →
      Explains board single log ↔ ShowsAll board plan (Some single) log
  explains_is single is_single law = (
    λ e. from_bits (Some single) is_single (law.0 e).1,
    λ show. law.1 (shaped, to_bits (Some single) is_single show),
  )

  pub expected_is : IsExpected board scans log ↔ (HasShape board scans log × ShowsBits board scans (λ row place expected. expected) log) →
      IsExpected board scans log ↔ ShowsAll board plan None log
  expected_is law = (λ e. from_bits None tt (law.0 e).1, λ show. law.1 (shaped, to_bits None tt show))
