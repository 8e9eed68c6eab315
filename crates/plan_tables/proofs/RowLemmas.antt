-- Proofs that setting bits leaves the length of a row unchanged.
use Rattle.std.proofs.Common.{◌≡◌, ℕ, ◌==◌, Bool, true, false, cond, List, [], ◌∷◌, length, get_or, set, refl, ◌∙◌, length-set}
use Rattle.plan_tables.specs.declared.tables.DriverCell.{DriverCell}
use Rattle.net_pins.specs.declared.nets.ReaderCell.{ReaderCell}
use Rattle.plan_tables.specs.Assigned.{set_readers, set_compared}

pub length-set_readers : (place : ℕ) (bit : Bool) (bits : List Bool) (readers : List ReaderCell)
    → length (set_readers place bit bits readers) ≡ length bits
length-set_readers place bit bits [] = refl
length-set_readers place bit bits (r ∷ readers) =
    length-set_readers place bit (cond (r.place == place) bits (set bits r.position bit)) readers
    ∙ by_test (r.place == place)
  where
    by_test : (b : Bool) → length (cond b bits (set bits r.position bit)) ≡ length bits
    by_test true = refl
    by_test false = length-set bits r.position bit

pub length-set_compared : (bit : DriverCell → Bool) (readers : List (List ReaderCell))
    (drivers : List DriverCell) (bits : List Bool)
    → length (set_compared bit readers bits drivers) ≡ length bits
length-set_compared bit readers [] bits = refl
length-set_compared bit readers (d ∷ drivers) bits =
    length-set_compared bit readers drivers
    (set_readers d.place (bit d) bits (get_or readers d.net []))
    ∙ length-set_readers d.place (bit d) bits (get_or readers d.net [])
