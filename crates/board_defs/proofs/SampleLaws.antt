-- What the laws of boards say about sample boards, and samples of passes that are not needed.
use Rattle.std.proofs.Common.{◌≡◌, ℕ, zero, suc, true, false, [], ◌∷◌, Some, None, refl, sym, ◌∙◌, ap, arith}
use Rattle.std.specs.Prelude.{slice_get}
use Rattle.std.proofs.lemmas.Option.{same_Some}
use Rattle.board_defs.specs.declared.board.Net.{Net}
use Rattle.board_defs.specs.declared.board.Ctl.{Ctl}
use Rattle.board_defs.specs.declared.board.RawBoard.{RawBoard}
use Rattle.board_defs.specs.declared.board.Drive.TheVariants.{By}
use Rattle.board_defs.specs.declared.coverage.Reason.TheVariants.{Blocked}
use Rattle.board_defs.specs.Settings.{Enabling, holds, enables, IsSafe, ObservesNet}
use Rattle.board_defs.specs.Pins.{guarded}
use Rattle.board_defs.specs.Coverage.{IsCovered, ArePaired, IsTestedDriver, IsUseful, AreTogether, IsReason}
use Rattle.board_defs.specs.Passes.{EnablesNew, ObservesNew, with_driver}
use Rattle.board_defs.specs.Laws.{DecidesTerms, HasTestedDriver, ControlsNew, SaysPasses, PassesAre}
use Rattle.board_defs.proofs.Samples.{ts, pin, net, board, bus_net, bus, crossing, pull, pulled, c}
use Rattle.board_defs.proofs.SampleRules.{pair}

-- The two controls of `bus` are not safe together, and its net is covered. Two nets of `crossing` are paired. The net of `pull` is blocked
-- if the pull disables no driver.
bus_apart : DecidesTerms bus → AreTogether bus (c 0 1) (c 1 1) → ⊥
bus_apart terms both = let one : false ≡ true = (terms.together (c 0 1) (c 1 1)).1 both in cc one

pub bus_is_covered : DecidesTerms bus → IsCovered bus 0
bus_is_covered terms = (terms.covered 0 bus_net refl).0 refl

crossing_is_paired : DecidesTerms crossing → ArePaired crossing 0 1
crossing_is_paired terms = (terms.paired 0 1 _ _ refl refl (λ e. omega (arith, e))).0 refl

pull_is_blocked : DecidesTerms (pull (Some false)) → IsReason (pull (Some false)) 0 (pulled (Some false)) Blocked
pull_is_blocked terms = terms.reason 0 (pulled (Some false)) refl

-- A pass with one control of `bus` does not enable the driver of the other control, and the other control cannot join it. A useful control
-- is new before the first pass. A safe pass with one control observes the net.
bus_disabled : SaysPasses bus → IsTestedDriver bus 0 0 → false ≡ enables bus (holds (c 1 1 ∷ [])) (pin 0 0)
bus_disabled said tested =
    said.enabled 0 bus_net 0 (pin 0 0) (By (c 0 1)) (c 1 1 ∷ []) (record { on_board = refl; in_net = refl }) tested refl

bus_alone : SaysPasses bus → ((d : Ctl) → holds (c 0 1 ∷ []) d ≡ true → AreTogether bus (c 1 1) d) → ⊥
bus_alone said all = let one : false ≡ true = (said.fits_all (c 0 1 ∷ []) (c 1 1)).1 all in cc one

bus_is_new : SaysPasses bus → IsUseful bus (c 0 1) → ControlsNew bus [] (c 0 1)
bus_is_new said useful = (said.new [] (c 0 1) useful).0 refl

bus_is_shown : SaysPasses bus → IsSafe bus (holds (c 0 1 ∷ [])) → ObservesNet bus (holds (c 0 1 ∷ [])) 0
bus_is_shown said safe = (said.shown 0 bus_net (c 0 1 ∷ []) refl safe).0 refl

bus_drivers_fight : SaysPasses bus → HasTestedDriver bus 0 bus_net (By (c 0 1)) → HasTestedDriver bus 0 bus_net (By (c 1 1))
    → IsSafe bus (holds (with_driver (with_driver [] (By (c 0 1))) (By (c 1 1)))) → ⊥
bus_drivers_fight said one other safe = let both : false ≡ true = (said.compatible 0 0 bus_net bus_net _ _ one other).1 safe in cc both

bus_pass_is_safe : PassesAre bus → IsSafe bus (holds (c 0 1 ∷ []))
bus_pass_is_safe passes = passes.kept.safe 0 (c 0 1 ∷ []) refl

-- No setting observes a supply net. So on a board that has no other net, no control enables a tested driver, and no pass is needed.
abbrev pub supplied : Net
supplied = record (net 0 None (pin 0 0 ∷ pin 1 0 ∷ [])) { supply = true }

abbrev pub supply : RawBoard
supply = pair (supplied ∷ [])

only_net : (n : ℕ) (other : Net) → slice_get supply.nets n ≡ Some other → other ≡ supplied
only_net zero other e = sym (same_Some supplied other e)
only_net (suc n) other e = cc e

unobserved : (setting : Enabling) (n : ℕ) → ObservesNet supply setting n → ⊥
unobserved setting n (other, stands, (place, by)) =
    let free : true ≡ false = sym (ap (guarded supply) (only_net n other stands)) ∙ by.open_net in cc free

untested : (n place : ℕ) → IsTestedDriver supply n place → ⊥
untested n place (setting, safe, (other, stands, by)) = unobserved setting n (other, stands, (place, by))

supply_has_no_new_control : ControlsNew supply [] (c 0 1) → ⊥
supply_has_no_new_control new = untested new.n new.place new.tested

supply_has_no_new_driver : EnablesNew supply [] (c 0 1 ∷ []) → ⊥
supply_has_no_new_driver new = untested new.net new.place new.tested

supply_has_no_new_pair : ObservesNew supply [] (c 0 1 ∷ []) → ⊥
supply_has_no_new_pair new =
    let (differ, (setting, safe, both)) = new.paired in unobserved setting new.low both.0

-- a control of a board without nets is not new
no_net : ControlsNew (board (ts ∷ []) []) [] (c 0 1) → ⊥
no_net new = by_place new.n new.stands.on_board
  where
    by_place : (n : ℕ) → slice_get [] n ≡ Some new.net → ⊥
    by_place zero e = cc e
    by_place (suc n) e = cc e
