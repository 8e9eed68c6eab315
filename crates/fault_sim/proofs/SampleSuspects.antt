-- Samples of the number of suspects of a log in which no net, two nets or three nets differ.
use Rattle.std.proofs.Common.{◌≡◌, ℕ, ◌<◌, Bool, List, [], ◌∷◌, length, ap, ◌∙◌}
use Rattle.std.specs.Prelude.{Contains}
use Rattle.std.proofs.lemmas.List.{nil_from_length}
use Rattle.board_defs.specs.declared.board.RawBoard.{RawBoard}
use Rattle.board_defs.proofs.Members.{has_contains, contains_has}
use Rattle.board_defs.proofs.Ordered.{pairs_order}
use Rattle.tap_defs.proofs.chain.ListLemmas.{rising_same}
use Rattle.plan_tables.specs.declared.tables.PlanTables.{PlanTables}
use Rattle.fault_sim.specs.declared.fault_lists.FaultLists.{FaultLists}
use Rattle.fault_sim.specs.Suspects.{suspect_count, AreDiffering, AreSuspects}

module _ (board : RawBoard) (plan : PlanTables) (log : List (List Bool)) where
  -- if two lists are lists of the nets that differ, a net in the first list is also in the second
  also_differs : (nets others : List ℕ) → AreDiffering board plan log nets → AreDiffering board plan log others
      → (n : ℕ) → Contains nets n → Contains others n
  also_differs nets others first second n has = (second.exactly n).1 ((first.exactly n).0 has)

  -- two lists of the nets that differ are equal
  same_nets : (nets others : List ℕ) → AreDiffering board plan log nets → AreDiffering board plan log others → nets ≡ others
  same_nets nets others first second =
      rising_same nets others (pairs_order (λ a b. a < b) nets first.rising) (pairs_order (λ a b. a < b) others second.rising)
      (λ n has. contains_has others n (also_differs nets others first second n (has_contains nets n has)))
      (λ n has. contains_has nets n (also_differs others nets second first n (has_contains others n has)))

  module _ (lists : FaultLists) (suspects : List ℕ) (are : AreSuspects board plan lists log suspects) where
    counted : (nets : List ℕ) → AreDiffering board plan log nets → length suspects ≡ suspect_count lists nets
    counted nets differ = are.count_is ∙ ap (λ (l : List ℕ). suspect_count lists l) (same_nets are.differing nets are.are_differing differ)

    -- if no net differs, there are no suspects
    none_differs : AreDiffering board plan log [] → suspects ≡ []
    none_differs differ = nil_from_length suspects (counted [] differ)

    -- if two nets differ, there are four suspects
    two_differ : (m n : ℕ) → AreDiffering board plan log (m ∷ n ∷ []) → length suspects ≡ 4
    two_differ m n differ = counted (m ∷ n ∷ []) differ

    -- if three nets differ, there are no suspects
    three_differ : (m n o : ℕ) → AreDiffering board plan log (m ∷ n ∷ o ∷ []) → suspects ≡ []
    three_differ m n o differ = nil_from_length suspects (counted (m ∷ n ∷ o ∷ []) differ)
