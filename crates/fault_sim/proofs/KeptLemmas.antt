-- Lemmas about the kept passes of a test, which store rows and drivers of passes for many logs, and about the results of look-ups in them.
use Rattle.std.proofs.Common.{◌≡◌, ℕ, ◌<◌, Bool, true, false, ◌&&◌, cond, List, [], length, get_or, Option, Some, None, refl, subst}
use Rattle.std.specs.Prelude.{option_map, slice_get}
use Rattle.std.proofs.lemmas.Bool.{both_ways}
use Rattle.std.proofs.lemmas.Option.{get_or_from_slice_get, slice_get-get_or, slice_get_within}
use Rattle.board_defs.specs.declared.board.Ctl.{Ctl}
use Rattle.board_defs.specs.declared.board.RawBoard.{RawBoard}
use Rattle.board_defs.proofs.Places.{any_at, any_place}
use Rattle.net_pins.specs.declared.nets.NetDriver.{NetDriver}
use Rattle.net_pins.specs.Enabled.{is_read_beside}
use Rattle.plan_tables.specs.declared.tables.PlanTables.{PlanTables}
use Rattle.fault_sim.specs.declared.feed.Source.TheVariants.{Code, Fixed}
use Rattle.fault_sim.specs.declared.kept.KeptPass.{KeptPass}
use Rattle.fault_sim.specs.Effects.{code_in, driver_in, feed_by, feed_in, place_of_driver, plan_readers, steady_in}
use Rattle.fault_sim.specs.Kept.{AreDrivers, AreComparedRows, IsComparedRow, KeepDrivers, KeepRows, enabled_by, enabled_driver}
use Rattle.fault_sim.specs.inner.Kept.{drivers_of_kept, feed_of, is_code_source, kept_drivers, rows_of_kept, observes_coded, rows_of}
use Rattle.fault_sim.specs.inner.Tested.{observes_by, observes_in, paired_in}

-- the drivers that a look-up of pass x returns are drivers of this pass
pub drivers_kept : (plan : PlanTables) (kept : List KeptPass) → KeepDrivers plan kept → (x : ℕ)
    → AreDrivers plan (get_or plan.passes x []) (kept_drivers kept x)
drivers_kept plan kept keep x n driver = by_pass (slice_get kept x) refl
  where
    by_pass : (o : Option KeptPass) → slice_get kept x ≡ o
        → slice_get (drivers_of_kept o) n ≡ Some driver
        → driver ≡ enabled_driver plan (get_or plan.passes x []) n
    by_pass None at e = cc e
    by_pass (Some pass) at e = keep x pass at n driver e

pub rows_kept : (board : RawBoard) (plan : PlanTables) (kept : List KeptPass)
    → KeepRows board plan kept → (x : ℕ) → AreComparedRows board plan x (rows_of_kept kept x)
rows_kept board plan kept keep x j row = by_pass (slice_get kept x) refl
  where
    by_pass : (o : Option KeptPass) → slice_get kept x ≡ o → slice_get (rows_of o) j ≡ Some row → IsComparedRow board plan x j row
    by_pass None at e = cc e
    by_pass (Some pass) at e = keep x pass at j row e

module _ (plan : PlanTables) (pass : List Ctl) (n : ℕ) where
  pub place_is : option_map (λ d. d.place) (enabled_driver plan pass n) ≡ place_of_driver (driver_in plan pass n)
  place_is = by_driver (driver_in plan pass n)
    where
      by_driver : (o : Option NetDriver) → option_map (λ d. d.place) (option_map (enabled_by plan pass n) o) ≡ place_of_driver o
      by_driver None = refl
      by_driver (Some d) = refl

  pub feed_is : (pull : Option Bool) → option_map (feed_of pull) (enabled_driver plan pass n) ≡ feed_in plan pass n pull
  feed_is pull = by_driver (driver_in plan pass n)
    where
      by_driver : (o : Option NetDriver)
          → option_map (feed_of pull) (option_map (enabled_by plan pass n) o)
          ≡ option_map (feed_by plan pass n pull) o
      by_driver None = refl
      by_driver (Some d) = refl

  pub observes_is : observes_coded (enabled_driver plan pass n) ≡ observes_in plan pass n
  observes_is = by_driver (driver_in plan pass n)
    where
      by_code : (b : Bool) (code : ℕ) (bit : Bool) → is_code_source (cond b (Code code) (Fixed bit)) ≡ b
      by_code true code bit = refl
      by_code false code bit = refl

      by_driver : (o : Option NetDriver) → observes_coded (option_map (enabled_by plan pass n) o) ≡ observes_by o (plan_readers plan n)
      by_driver None = refl
      by_driver (Some d) = by_code (is_read_beside (plan_readers plan n) d) (code_in plan n) (steady_in plan pass d)

-- `paired_in` is true if and only if some pass observes both nets
module _ (plan : PlanTables) (a b : ℕ) where
  pub paired_at : (x : ℕ) → x < length plan.passes
      → (observes_in plan (get_or plan.passes x []) a
      && observes_in plan (get_or plan.passes x []) b) ≡ true → paired_in plan a b ≡ true
  paired_at x less both =
      any_at (λ pass. observes_in plan pass a && observes_in plan pass b) plan.passes x
      (get_or plan.passes x []) (slice_get-get_or plan.passes x [] less) both

  pub never_paired :
      ((x : ℕ) → x < length plan.passes
      → (observes_in plan (get_or plan.passes x []) a
      && observes_in plan (get_or plan.passes x []) b) ≡ false) → paired_in plan a b ≡ false
  never_paired none = by_test (paired_in plan a b) refl
    where
      by_test : (t : Bool) → paired_in plan a b ≡ t → t ≡ false
      by_test false e = refl
      by_test true e =
          let found = any_place (λ pass. observes_in plan pass a && observes_in plan pass b) plan.passes e in
          let at = get_or_from_slice_get plan.passes found.place found.item [] found.stands in
          absurd (both_ways (observes_in plan found.item a && observes_in plan found.item b)
          (subst (λ (p : List Ctl). (observes_in plan p a && observes_in plan p b) ≡ false) at
          (none found.place (slice_get_within plan.passes found.place found.item found.stands)))
          found.passes)
