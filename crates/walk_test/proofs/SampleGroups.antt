-- Samples of sets of groups of small boards: lists that are sets of groups and lists that are not, the rows that a board captures under the
-- shorts of a set, the logs that a set explains, and the texts of sets.
use Rattle.std.proofs.Common.{◌≡◌, inl, inr, ℕ, zero, suc, ◌+◌, ◌<◌, ◌≤◌, Bool, List, [], ◌∷◌, length, map, Some, refl, subst, arith}
use Rattle.std.specs.Prelude.{codes, Contains, All}
use Rattle.std.specs.Fmt.{digits}
use Rattle.std.proofs.lemmas.Bool.{both_ways}
use Rattle.std.proofs.lemmas.List.Elements.{All-from_recursion}
use Rattle.board_defs.specs.declared.board.Net.{Net}
use Rattle.board_defs.specs.declared.board.RawBoard.{RawBoard}
use Rattle.board_defs.specs.BoardRules.{IsBoard}
use Rattle.board_defs.specs.Pins.{data_bits}
use Rattle.board_defs.proofs.BoardChecks.{board_of}
use Rattle.board_defs.proofs.Members.{Has}
use Rattle.board_defs.proofs.Ordered.{order_pairs}
use Rattle.tap_defs.specs.board.TestRows.{quiet_row}
use Rattle.tap_defs.specs.board.BoardScans.{scan_of_row}
use Rattle.tap_defs.specs.board.RowCaptures.{row_captured, CapturesPass}
use Rattle.tap_defs.specs.board.Explaining.{scans_by_log}
use Rattle.tap_defs.proofs.board.CaptureLemmas.{log_captured}
use Rattle.tap_defs.proofs.chain.SampleTexts.{on, off}
use Rattle.tap_defs.proofs.board.SampleBoards.{drv, rcv, net, three_wires}
use Rattle.tap_defs.proofs.board.SampleLogs.{free, named_part, named, pin_of}
use Rattle.walk_test.specs.WalkTest.{walk_nets, walk_row_list}
use Rattle.walk_test.specs.Groups.{Rise, AreGroups, or_shorts, Explain}
use Rattle.walk_test.specs.GroupText.{groups_text}
use Rattle.walk_test.specs.inner.Tables.{walk_row_of}
use Rattle.walk_test.proofs.SampleTests.{two_passes, two_passes_nets}

abbrev shown : List (List ℕ) → List (List Bool)
shown groups = map (λ j. row_captured three_wires (or_shorts groups) (walk_row_of three_wires j) (free off)) (0 ∷ 1 ∷ 2 ∷ [])

-- a row in which the receivers of the first three nets read these bits
abbrev read_row : Bool → Bool → Bool → List Bool
read_row first second third = third ∷ off ∷ first ∷ second ∷ off ∷ off ∷ off ∷ off ∷ []

none_shown : shown [] ≡ read_row on off off ∷ read_row off on off ∷ read_row off off on ∷ []
none_shown = refl

first_and_third_shown : shown ((0 ∷ 2 ∷ []) ∷ []) ≡ read_row on off on ∷ read_row off on off ∷ read_row on off on ∷ []
first_and_third_shown = refl

first_and_second_shown : shown ((0 ∷ 1 ∷ []) ∷ []) ≡ read_row on on off ∷ read_row on on off ∷ read_row off off on ∷ []
first_and_second_shown = refl

second_and_third_shown : shown ((1 ∷ 2 ∷ []) ∷ []) ≡ read_row on off off ∷ read_row off on on ∷ read_row off on on ∷ []
second_and_third_shown = refl

all_shown : shown ((0 ∷ 1 ∷ 2 ∷ []) ∷ []) ≡ read_row on on on ∷ read_row on on on ∷ read_row on on on ∷ []
all_shown = refl

abbrev wire : List ℕ → ℕ → ℕ → Net
wire name part bit = named name (net (pin_of part bit ∷ pin_of (part + 2) bit ∷ []))

-- a board with four nets from parts U1 and U2 to parts U3 and U4
abbrev four_wires : RawBoard
four_wires = record {
  chain = named_part (codes "U1") drv ∷ named_part (codes "U2") drv ∷ named_part (codes "U3") rcv ∷ named_part (codes "U4") rcv ∷ [];
  nets = wire (codes "A") 0 0 ∷ wire (codes "B") 0 1 ∷ wire (codes "C") 1 0 ∷ wire (codes "D") 1 1 ∷ [];
}

four_wires_rules : IsBoard four_wires
four_wires_rules = board_of four_wires refl

-- a group of the first and the third net
abbrev one_short : List (List ℕ)
one_short = (0 ∷ 2 ∷ []) ∷ []

one_short_is : AreGroups four_wires one_short
one_short_is = record {
  several = All-from_recursion (λ (group : List ℕ). 2 ≤ length group) one_short (omega arith, tt);
  walked = All-from_recursion (λ (group : List ℕ). All (λ n. Contains (walk_nets four_wires) n) group) one_short (
    All-from_recursion (λ (n : ℕ). Contains (walk_nets four_wires) n) (0 ∷ 2 ∷ [])
        ((0, omega arith, refl), ((2, omega arith, refl), tt)),
    tt,
  );
  rise = All-from_recursion Rise one_short (order_pairs (λ a b. a < b) (0 ∷ 2 ∷ []) (above, (λ n has. absurd has, tt)), tt);
  disjoint = λ i j d less within. absurd (omega arith);
  order = λ i j d less within. absurd (omega arith);
}
  where
    above : (n : ℕ) → Has (2 ∷ []) n → 0 < n
    above n (inl e) = omega (arith, e)
    above n (inr has) = absurd has

-- The list is not a set of groups. The samples are a group of one net, nets that are not in ascending order, a net in two groups, and
-- groups whose lowest nets are not in ascending order.
abbrev NoGroups : List (List ℕ) → Type 0
NoGroups groups = AreGroups four_wires groups → ⊥

one_net : NoGroups ((0 ∷ []) ∷ [])
one_net h = let some : 2 ≤ 1 = h.several 0 [] (omega arith) in absurd (omega (arith, some))

falling : NoGroups ((2 ∷ 0 ∷ []) ∷ [])
falling h = let less : 2 < 0 = h.rise 0 [] (omega arith) 0 1 0 (omega arith) (omega arith) in absurd (omega (arith, less))

in_two : NoGroups ((0 ∷ 1 ∷ []) ∷ (1 ∷ 2 ∷ []) ∷ [])
in_two h = h.disjoint 0 1 [] (omega arith) (omega arith) 1 (1, omega arith, refl) (0, omega arith, refl)

later_first : NoGroups ((2 ∷ 3 ∷ []) ∷ (0 ∷ 1 ∷ []) ∷ [])
later_first h = let less : 2 < 0 = h.order 0 1 [] (omega arith) (omega arith) in absurd (omega (arith, less))

-- a list with a net of the board that is not a walk net is not a set of groups
unwalked : AreGroups two_passes ((0 ∷ 2 ∷ []) ∷ []) → ⊥
unwalked h = not_there (subst (λ (nets : List ℕ). Contains nets 2) two_passes_nets (h.walked 0 [] (omega arith) 1 0 (omega arith)))
  where
    not_there : Contains {X = ℕ} (0 ∷ 1 ∷ []) 2 → ⊥
    not_there (zero, less, e) = cc e
    not_there (suc zero, less, e) = cc e
    not_there (suc (suc k), less, e) = absurd (omega (arith, less))

-- a log with these first three rows, and with a fourth row in which only the fourth net reads 1
abbrev log_of : List Bool → List Bool → List Bool → List (List Bool)
log_of first second third = first ∷ second ∷ third ∷ (off ∷ on ∷ off ∷ off ∷ off ∷ off ∷ off ∷ off ∷ []) ∷ []

-- the log in which the first and the third net read the Or of the bits to which they are driven
abbrev or_log : List (List Bool)
or_log = log_of (read_row on off on) (read_row off on off) (read_row on off on)

or_explained : Explain four_wires or_log one_short
or_explained = record {
  are = one_short_is;
  explained = record {
    shape =
        record {
          rows = refl;
          bits = All-from_recursion
              (λ (row : List Bool). length row ≡ data_bits four_wires) or_log
              (refl, (refl, (refl, (refl, tt))));
        };
    passes = (log_captured four_wires four_wires_rules (or_shorts one_short) (walk_row_list four_wires) or_log).1
        (λ choice. refl, (λ choice. refl, (λ choice. refl, (λ choice. refl, (λ choice. refl, tt)))));
  };
}

-- if the group explains a log, each row of the log is what the cells capture
rows_pass : (log : List (List Bool)) → Explain four_wires log one_short →
    CapturesPass four_wires (or_shorts one_short) quiet_row (walk_row_list four_wires)
    (scans_by_log (map (scan_of_row four_wires) (walk_row_list four_wires)) log)
rows_pass log h = (log_captured four_wires four_wires_rules (or_shorts one_short) (walk_row_list four_wires) log).0 h.explained.passes

-- The group does not explain the log. The samples are a log of the And of the two nets, and a log in which the first net reads the 1 of the
-- third net but the third net does not read the 1 of the first net.
abbrev IsUnexplained : List (List Bool) → Type 0
IsUnexplained log = Explain four_wires log one_short → ⊥

and_log : IsUnexplained (log_of (read_row off off off) (read_row off on off) (read_row off off off))
and_log h = both_ways _ refl ((rows_pass _ h).1.0 (free off))

one_way_log : IsUnexplained (log_of (read_row on off off) (read_row off on off) (read_row on off on))
one_way_log h = both_ways _ refl ((rows_pass _ h).1.0 (free off))

-- the text names the nets of each group in net order
two_groups_text : groups_text four_wires (Some ((0 ∷ 2 ∷ []) ∷ (1 ∷ 3 ∷ []) ∷ []))
    ≡ codes "GROUPS 2\nGROUP 2\nNET A\nNET C\nGROUP 2\nNET B\nNET D\n"
unfolding groups_text digits
two_groups_text = refl
