-- Samples of answers that are not true of a board, and of texts that are not its coverage list.
use Rattle.std.proofs.Common.{◌≡◌, ℕ, true, false, List, [], ◌∷◌, get_or, Some, None, codes, ap, refl, arith}
use Rattle.std.specs.Fmt.{digits}
use Rattle.board_defs.specs.declared.coverage.Reason.TheVariants.{NoReceiver}
use Rattle.board_defs.specs.Laws.{DecidesTerms}
use Rattle.board_defs.proofs.Samples.{bus_net, bus, crossing}
use Rattle.board_defs.proofs.SampleLaws.{bus_is_covered}
use Rattle.coverage_list.specs.declared.lines.PinUse.TheVariants.{Driver}
use Rattle.coverage_list.specs.CoverList.{AreTrue, IsCoverList}
use Rattle.coverage_list.proofs.TruthLemmas.{decided}

-- The net of `bus` is covered. So answers which say that no net is covered, or which give a reason for this net, are not true.
none_covered : DecidesTerms bus → AreTrue bus (record (decided bus) { covered = λ net. false }) → ⊥
none_covered terms answered =
    let one : false ≡ true = (answered.covered 0 bus_net refl).1 (bus_is_covered terms) in cc one

wrong_reason : DecidesTerms bus → AreTrue bus (record (decided bus) { reason = λ net. Some NoReceiver }) → ⊥
wrong_reason terms answered = (answered.reason 0 bus_net refl).uncovered (bus_is_covered terms)

-- the driver on pin 0 of this net is tested, so answers which say that no pin is tested are not true
none_tested : DecidesTerms bus → AreTrue bus (record (decided bus) { tested = λ pin_use net place. false }) → ⊥
none_tested terms answered =
    let one : false ≡ true = (answered.tested Driver 0 bus_net 0 refl).1 ((terms.tested_driver 0 bus_net 0 refl).0 refl) in cc one

-- two nets of `crossing` are paired, so answers which say that no nets are paired are not true
none_paired : DecidesTerms crossing → AreTrue crossing (record (decided crossing) { paired = λ a b. false }) → ⊥
none_paired terms answered =
    let both = (terms.paired 0 1 _ _ refl refl (λ e. omega (arith, e))).0 refl in
    let one : false ≡ true = (answered.paired 0 1 _ _ refl refl (λ e. omega (arith, e))).1 both in cc one

-- Each coverage list of `bus` is made from answers that call the net of `bus` covered.
bus_listed_as_covered : DecidesTerms bus → (text : List ℕ) (list : IsCoverList bus text) → list.answers.covered bus_net ≡ true
bus_listed_as_covered terms text list = (list.truth.covered 0 bus_net refl).1 (bus_is_covered terms)

-- The board `bus` has one net. So a text that counts two nets is not its coverage list.
two_nets_counted : IsCoverList bus (codes "NETS 2 COVERED 1\n") → ⊥
unfolding digits
two_nets_counted list = let digit : 50 ≡ 49 = ap (λ (text : List ℕ). get_or text 5 0) list.listed in omega (arith, digit)
