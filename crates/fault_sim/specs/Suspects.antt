-- The suspects of a log: the places whose faults may explain it.
use Rattle.std.specs.Prelude.{◌≡◌, ◌↔◌, ◌⊎◌, ℕ, ◌+◌, ◌-◌, ◌*◌, ◌<◌, ◌==◌, Bool, List, [], ◌∷◌, length, count_by, slice_get, Some, None, AllPairs, All, Contains}
use Rattle.board_defs.specs.declared.board.RawBoard.{RawBoard}
use Rattle.board_defs.specs.declared.fault.Single.{Single}
use Rattle.tap_defs.specs.board.Explaining.{Explains}
use Rattle.plan_tables.specs.declared.tables.PlanTables.{PlanTables}
use Rattle.fault_sim.specs.declared.fault_lists.FaultLists.{FaultLists}
use Rattle.fault_sim.specs.Fits.{ShowsOn}
use Rattle.fault_sim.specs.Places.{place_count, places_of}

-- `nets` are the nets that differ in the log, in ascending order. A net differs if, in some row, a cell of
-- the net that the test compares in this row has a bit other than the expected bit.
pub record AreDiffering (board : RawBoard) (plan : PlanTables) (log : List (List Bool)) (nets : List ℕ) : Type 0 where
  pub rising : AllPairs (λ a b. a < b) nets
  pub others : (n : ℕ) → n < length board.nets → Contains nets n ⊎ ShowsOn board plan None log n
  pub exactly : (n : ℕ) → Contains nets n ↔ ((n < length board.nets) × (ShowsOn board plan None log n → ⊥))

-- the number of suspects of a log in which these nets differ
abbrev pub suspect_count : FaultLists → List ℕ → ℕ
suspect_count lists [] = 0
suspect_count lists (n ∷ []) = 2 + (2 * count_by (λ pin. pin.net == n) lists.pins + 4 * (length lists.nets - 1))
suspect_count lists (m ∷ n ∷ []) = 4
suspect_count lists (m ∷ n ∷ o ∷ nets) = 0

-- The suspects of a log, in ascending order. They are places of the board, that is, places in the list of possible single faults
-- (`places_of`). Each place whose single fault explains the log is a suspect. The number of suspects is `suspect_count` of the nets that
-- differ in the log.
pub record AreSuspects (board : RawBoard) (plan : PlanTables) (lists : FaultLists)
    (log : List (List Bool)) (suspects : List ℕ) : Type 0 where
  pub rising : AllPairs (λ i j. i < j) suspects
  pub below : All (λ i. i < place_count lists) suspects
  pub complete : (i : ℕ) (single : Single) → slice_get (places_of board) i ≡ Some (Some single)
      → Explains board single log → Contains suspects i
  pub differing : List ℕ
  pub are_differing : AreDiffering board plan log differing
  pub count_is : length suspects ≡ suspect_count lists differing
