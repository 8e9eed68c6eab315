-- Samples of the suspects of small boards, worked by hand. The possible single faults of a board are numbered, and the number of a fault is
-- its place. A board has two places for each covered net, two for each tested pin, and four for each pair of covered nets.
use Rattle.std.proofs.Common.{◌≡◌, ◌≤◌, ℕ, zero, suc, [], ◌∷◌, get_or, refl, arith}
use Rattle.fault_sim.specs.declared.fault_lists.FaultLists.{FaultLists}
use Rattle.fault_sim.specs.Places.{place_count}
use Rattle.fault_sim.specs.Starts.{ArePairStarts, pairs_before}
use Rattle.fault_sim.specs.Suspects.{suspect_count}
use Rattle.fault_sim.specs.inner.Suspects.{net_suspects, pair_suspects}

two_starts : ArePairStarts 2 (0 ∷ 1 ∷ 1 ∷ [])
two_starts = record { count = refl; each = each }
  where
    each : (a : ℕ) → a ≤ 2 → get_or (0 ∷ 1 ∷ 1 ∷ []) a 0 ≡ pairs_before 2 a
    each zero le = refl
    each (suc zero) le = refl
    each (suc (suc zero)) le = refl
    each (suc (suc (suc a))) le = absurd (omega (arith, le))

-- two covered nets, each with two tested pins
abbrev two_nets : FaultLists
two_nets =
    record {
      nets = 0 ∷ 1 ∷ [];
      pins = record { net = 0; place = 0 } ∷ record { net = 0; place = 1 }
          ∷ record { net = 1; place = 0 } ∷ record { net = 1; place = 1 } ∷ [];
      starts = 0 ∷ 1 ∷ 1
          ∷ [];
      few = omega arith;
      few_pins = omega arith;
      starts_are = two_starts;
    }

two_nets_places : place_count two_nets ≡ 16
two_nets_places = refl

none_differs : suspect_count two_nets [] ≡ 0
none_differs = refl

-- if only net 0 differs, the suspects are the places of its stuck faults, of the open faults of its two pins,
-- and of the shorts of the only pair
one_differs : net_suspects two_nets 0 0 ≡ 0 ∷ 1 ∷ 4 ∷ 5 ∷ 6 ∷ 7 ∷ 12 ∷ 13 ∷ 14 ∷ 15 ∷ []
one_differs = refl

one_differs_count : suspect_count two_nets (0 ∷ []) ≡ 10
one_differs_count = refl

-- if both nets differ, the suspects are the places of the shorts of the pair
both_differ : pair_suspects two_nets 0 1 ≡ 12 ∷ 13 ∷ 14 ∷ 15 ∷ []
both_differ = refl

both_differ_count : suspect_count two_nets (0 ∷ 1 ∷ []) ≡ 4
both_differ_count = refl

-- if three nets differ, there is no suspect, since no single fault changes three nets
three_differ_count : suspect_count two_nets (0 ∷ 1 ∷ 2 ∷ []) ≡ 0
three_differ_count = refl

three_starts : ArePairStarts 3 (0 ∷ 2 ∷ 3 ∷ 3 ∷ [])
three_starts = record { count = refl; each = each }
  where
    each : (a : ℕ) → a ≤ 3 → get_or (0 ∷ 2 ∷ 3 ∷ 3 ∷ []) a 0 ≡ pairs_before 3 a
    each zero le = refl
    each (suc zero) le = refl
    each (suc (suc zero)) le = refl
    each (suc (suc (suc zero))) le = refl
    each (suc (suc (suc (suc a)))) le = absurd (omega (arith, le))

-- three covered nets, of which only the first has a tested pin; by index, their pairs in order are 0 and 1, 0
-- and 2, 1 and 2
abbrev three_nets : FaultLists
three_nets =
    record {
      nets = 3 ∷ 5 ∷ 8 ∷ [];
      pins = record { net = 3; place = 1 } ∷ [];
      starts = 0 ∷ 2 ∷ 3 ∷ 3
          ∷ [];
      few = omega arith;
      few_pins = omega arith;
      starts_are = three_starts;
    }

three_nets_starts : pairs_before 3 1 ≡ 2
three_nets_starts = refl

middle_differs : net_suspects three_nets 5 1 ≡ 2 ∷ 3 ∷ 8 ∷ 9 ∷ 10 ∷ 11 ∷ 16 ∷ 17 ∷ 18 ∷ 19 ∷ []
middle_differs = refl

outer_differ : pair_suspects three_nets 0 2 ≡ 12 ∷ 13 ∷ 14 ∷ 15 ∷ []
outer_differ = refl
