-- Samples of the driver that a setting enables on a net and of the driver by which a setting observes a net. The expected values are worked
-- out by hand.
use Rattle.std.proofs.Common.{◌≡◌, ℕ, List, [], ◌∷◌, map, Option, Some, None, refl}
use Rattle.std.specs.Prelude.{option_map}
use Rattle.board_defs.specs.declared.board.Ctl.{Ctl}
use Rattle.board_defs.specs.Settings.{holds}
use Rattle.net_pins.specs.declared.nets.NetDriver.{NetDriver}
use Rattle.net_pins.specs.declared.nets.ReaderCell.{ReaderCell}
use Rattle.net_pins.specs.declared.net_tables.NetTables.{NetTables}
use Rattle.net_pins.specs.Enabled.{drivers_on, readers_on, enabled_on, observer_on}

abbrev c : ℕ → ℕ → Ctl
c part cell = record { part = part; cell = cell }

-- the driver of cell 0 of this part, on the pin at `place`
abbrev driver : ℕ → ℕ → Option Ctl → ℕ → NetDriver
driver part place ctl position = record { place = place; ctl = ctl; own = c part 0; position = position }

abbrev reader : ℕ → ℕ → ReaderCell
reader place position = record { place = place; position = position }

-- Net 0 is a bus of the three-state drivers of parts 0 and 1, with a receiver on its third pin. Net 1 has a bidirectional pin of part 0 and
-- a three-state driver of part 1, and only the bidirectional pin has a compared cell. Net 2 is guarded. Net 3 has an always-on driver and
-- no compared cell. Net 4 has compared cells on its first and third pins, and an always-on driver on its second pin.
abbrev nets : NetTables
nets = record {
  drivers =
      (driver 0 0 (Some (c 0 1)) 3 ∷ driver 1 1 (Some (c 1 1)) 1 ∷ [])
      ∷ (driver 0 0 (Some (c 0 1)) 3 ∷ driver 1 1 (Some (c 1 1)) 1 ∷ [])
      ∷ [] ∷ (driver 2 0 None 7 ∷ []) ∷ (driver 2 1 None 7 ∷ []) ∷ [];
  readers =
      (reader 2 0 ∷ []) ∷ (reader 0 3 ∷ []) ∷ (reader 1 0 ∷ []) ∷ []
      ∷ (reader 0 5 ∷ reader 2 6 ∷ []) ∷ [];
}

-- the place of the pin of the driver that the setting with these controls enables on net n
abbrev enabled : ℕ → List Ctl → Option ℕ
enabled n setting = option_map (λ d. d.place) (enabled_on nets (holds setting) n)

-- the place of the pin of the driver by which the setting with these controls observes net n
abbrev observer : ℕ → List Ctl → Option ℕ
observer n setting = option_map (λ d. d.place) (observer_on nets (holds setting) n)

whole : enabled_on nets (holds (c 1 1 ∷ [])) 0 ≡ Some (record { place = 1; ctl = Some (c 1 1); own = c 1 0; position = 1 })
whole = refl

-- A setting enables the driver whose control it has. If it has the controls of both drivers, the result is the first driver in pin order.
controlled : map (enabled 0) ([] ∷ (c 0 1 ∷ []) ∷ (c 1 1 ∷ []) ∷ (c 1 1 ∷ c 0 1 ∷ []) ∷ [])
    ≡ None ∷ Some 0 ∷ Some 1 ∷ Some 0 ∷ []
controlled = refl

-- the driver's own cell is not its control, and neither is the same cell of another part
not_controlled : map (enabled 0) ((c 0 0 ∷ []) ∷ (c 2 1 ∷ []) ∷ []) ≡ None ∷ None ∷ []
not_controlled = refl

-- every setting enables the always-on driver of net 3, but no setting observes net 3, since it has no compared cell
always_on : map (enabled 3) ([] ∷ (c 0 1 ∷ []) ∷ []) ≡ Some 0 ∷ Some 0 ∷ []
always_on = refl

not_read : observer 3 [] ≡ None
not_read = refl

-- Only the bidirectional pin of net 1 has a compared cell. So a setting does not observe the net by this pin's own driver, but observes
-- it by the other driver.
both_ways : map (observer 1) ((c 0 1 ∷ []) ∷ (c 1 1 ∷ []) ∷ []) ≡ None ∷ Some 1 ∷ []
both_ways = refl

read_beside : map (observer 0) ([] ∷ (c 0 1 ∷ []) ∷ (c 1 1 ∷ []) ∷ []) ≡ None ∷ Some 0 ∷ Some 1 ∷ []
read_beside = refl

read_twice : observer 4 [] ≡ Some 1
read_twice = refl

-- the tables leave out the drivers of the guarded net 2, and there is no net 5
none_enabled : map (λ n. enabled n (c 0 1 ∷ c 1 1 ∷ [])) (2 ∷ 5 ∷ []) ≡ None ∷ None ∷ []
none_enabled = refl

none_observed : map (λ n. observer n (c 0 1 ∷ c 1 1 ∷ [])) (2 ∷ 5 ∷ []) ≡ None ∷ None ∷ []
none_observed = refl

no_drivers : map (drivers_on nets) (2 ∷ 5 ∷ []) ≡ [] ∷ [] ∷ []
no_drivers = refl

no_readers : map (readers_on nets) (3 ∷ 5 ∷ []) ≡ [] ∷ [] ∷ []
no_readers = refl
