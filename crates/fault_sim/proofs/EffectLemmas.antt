-- Lemmas which say that the effect of a single fault gives each compared cell of a net the bit that the cell has under this fault.
use Rattle.std.proofs.Common.{◌≡◌, ◌≢◌, ℕ, ◌==◌, Bool, true, false, cond, ◌||◌, List, Option, Some, None, unwrap_or, refl, sym, ap, ◌∙◌}
use Rattle.std.specs.Prelude.{slice_get}
use Rattle.std.proofs.lemmas.Bool.{ne_eqb, eqb-true}
use Rattle.board_defs.specs.declared.board.Net.{Net}
use Rattle.board_defs.specs.declared.board.PinRef.{PinRef}
use Rattle.board_defs.specs.declared.board.RawBoard.{RawBoard}
use Rattle.board_defs.specs.declared.board.Ctl.{Ctl}
use Rattle.board_defs.specs.declared.fault.Kind.{Kind}
use Rattle.board_defs.specs.declared.fault.Single.{Single}
use Rattle.board_defs.specs.declared.fault.Single.TheVariants.{StuckNet, OpenPin, Short}
use Rattle.board_defs.specs.BoardRules.{IsBoard}
use Rattle.board_defs.specs.Faults.{IsSingle}
use Rattle.board_defs.specs.Pins.{guarded}
use Rattle.board_defs.specs.Settings.{holds}
use Rattle.tap_defs.specs.board.NetBits.{Place, bit_or_else}
use Rattle.tap_defs.specs.board.TestRows.{TestRow, code_row, first_enabled}
use Rattle.tap_defs.specs.board.SingleBits.{driven_to, pulled_to, shorted, shorted_nets_bit, is_place, single_bit}
use Rattle.net_pins.specs.declared.nets.NetDriver.{NetDriver}
use Rattle.plan_tables.specs.declared.tables.PlanTables.{PlanTables}
use Rattle.scan_planner.specs.Plans.{IsPlanOf}
use Rattle.fault_sim.specs.declared.effect.Effect.TheVariants.{Plain, Constant, AtPin}
use Rattle.fault_sim.specs.Effects.{feed_bit, driver_in, place_of_driver, pull_in, net_feed, open_effect, effect_of_short, effect_of, effect_in, effect_bit}
use Rattle.fault_sim.specs.inner.Effects.{fault_bit}
use Rattle.fault_sim.proofs.FeedLemmas.{driven_is, first_place}

-- `fault` is a single fault of the board, or there is no fault
abbrev pub IsFault : RawBoard → Option Single → Type 0
IsFault board None = Unit {0}
IsFault board (Some single) = IsSingle board single

module _ (board : RawBoard) (rules : IsBoard board) (plan : PlanTables) (p : IsPlanOf board plan)
    (x : ℕ) (pass : List Ctl) (stands : slice_get plan.passes x ≡ Some pass)
    (n : ℕ) (net : Net) (is_net : slice_get board.nets n ≡ Some net)
    (unguarded : guarded board net ≡ false) (d : NetDriver)
    (enabled : driver_in plan pass n ≡ Some d)
    (place : ℕ) (other : place ≢ d.place) (j : ℕ) (expected : Bool) where
  abbrev row : TestRow
  row = code_row board plan.passes pass j

  abbrev at : Place
  at = record { number = n; net = net; place = place }

  first : first_enabled board (holds pass) 0 net.pins ≡ Some d.place
  first = first_place board rules plan p n net is_net x pass stands unguarded d enabled

  pull_here : pull_in board n ≡ net.pull
  pull_here = ap (λ (o : Option Net). pulled_to o) is_net

  stuck : (m : ℕ) (value : Bool)
      → effect_bit (effect_of board plan pass (StuckNet m value) n) j place expected
      ≡ single_bit board (StuckNet m value) row at expected
  stuck m value = by_test (n == m)
    where
      by_test : (b : Bool) → effect_bit (cond b (Constant value) Plain) j place expected ≡ cond b value expected
      by_test true = refl
      by_test false = refl

  opened : (pin : PinRef) (value : Bool)
      → effect_bit (effect_of board plan pass (OpenPin pin value) n) j place expected
      ≡ single_bit board (OpenPin pin value) row at expected
  opened pin value =
      ap
      (λ (o : Option NetDriver). effect_bit
      (cond (n == pin.net)
      (open_effect (place_of_driver o) pin.place value (pull_in board n)) Plain) j place
      expected) enabled
      ∙ ap
      (λ (o : Option Bool). effect_bit
      (cond (n == pin.net) (open_effect (Some d.place) pin.place value o) Plain) j place
      expected) pull_here
      ∙ by_net (n == pin.net)
      ∙ sym
      (ap
      (λ (o : Option ℕ). cond (n == pin.net)
      (cond (place == pin.place) value
      (cond (is_place o pin.place) (unwrap_or net.pull value) expected)) expected) first)
    where
      by_place : (b : Bool) → (d.place == pin.place) ≡ b →
          effect_bit (cond b (Constant (unwrap_or net.pull value)) (AtPin pin.place value)) j place
          expected
          ≡ cond (place == pin.place) value (cond b (unwrap_or net.pull value) expected)
      by_place true e =
          let same : d.place ≡ pin.place = eqb-true d.place pin.place e in
          let differ : (place == pin.place) ≡ false = ne_eqb place pin.place (λ q. other (q ∙ sym same)) in
          sym (ap (λ (b : Bool). cond b value (unwrap_or net.pull value)) differ)
      by_place false e = refl

      by_net : (b : Bool) → effect_bit (cond b (open_effect (Some d.place) pin.place value net.pull) Plain) j place expected
          ≡ cond b (cond (place == pin.place) value (cond (d.place == pin.place) (unwrap_or net.pull value) expected)) expected
      by_net true = by_place (d.place == pin.place) refl
      by_net false = refl

  shorted_is : (a b : ℕ) (kind : Kind) → IsSingle board (Short a b kind) →
      effect_bit (effect_of board plan pass (Short a b kind) n) j place expected ≡ single_bit board (Short a b kind) row at expected
  shorted_is a b kind is_single = by_test ((n == a) || (n == b))
    where
      one : Net
      one = is_single.1.1.2.0.0

      one_at : slice_get board.nets a ≡ Some one
      one_at = is_single.1.1.2.0.1

      two : Net
      two = is_single.1.1.2.1.0

      two_at : slice_get board.nets b ≡ Some two
      two_at = is_single.1.1.2.1.1

      first_driven : feed_bit (net_feed board plan pass a) j ≡ driven_to board row (slice_get board.nets a)
      first_driven =
          sym (driven_is board rules plan p a one one_at x pass stands is_single.1.1.2.0.2.1.open_net j)
          ∙ sym (ap (λ (o : Option Net). driven_to board row o) one_at)

      second_driven : feed_bit (net_feed board plan pass b) j ≡ driven_to board row (slice_get board.nets b)
      second_driven =
          sym (driven_is board rules plan p b two two_at x pass stands is_single.1.1.2.1.2.1.open_net j)
          ∙ sym (ap (λ (o : Option Net). driven_to board row o) two_at)

      pulls : Option Bool
      pulls = shorted kind (pull_in board a) (pull_in board b)

      here : unwrap_or
          (bit_or_else
          (shorted kind (feed_bit (net_feed board plan pass a) j)
          (feed_bit (net_feed board plan pass b) j)) pulls) expected
          ≡ unwrap_or (shorted_nets_bit board row kind (slice_get board.nets a) (slice_get board.nets b)) expected
      here =
          ap
          (λ (o : Option Bool). unwrap_or
          (bit_or_else (shorted kind o (feed_bit (net_feed board plan pass b) j)) pulls)
          expected) first_driven
          ∙ ap
          (λ (o : Option Bool). unwrap_or
          (bit_or_else (shorted kind (driven_to board row (slice_get board.nets a)) o) pulls)
          expected) second_driven

      by_test : (t : Bool) → effect_bit (cond t (effect_of_short board plan pass a b kind) Plain) j place expected
          ≡ cond t (unwrap_or (shorted_nets_bit board row kind (slice_get board.nets a) (slice_get board.nets b)) expected) expected
      by_test true = here
      by_test false = refl

  by_single : (single : Single) → IsSingle board single
      → effect_bit (effect_of board plan pass single n) j place expected
      ≡ single_bit board single row at expected
  by_single (StuckNet m value) is_single = stuck m value
  by_single (OpenPin pin value) is_single = opened pin value
  by_single (Short a b kind) is_single = shorted_is a b kind is_single

  pub effect_is : (fault : Option Single) → IsFault board fault
      → effect_bit (effect_in board plan pass fault n) j place expected
      ≡ fault_bit board fault row at expected
  effect_is None is_fault = refl
  effect_is (Some single) is_fault = by_single single is_fault
