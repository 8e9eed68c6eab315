-- The flags of a device's port bits: each flag says whether its port bit has an always-on driver.
use Rattle.std.proofs.Common.{◌≡◌, ℕ, suc, ◌+◌, ◌<◌, ◌≤◌, nat_lt, Bool, true, false, cond, ◌&&◌, List, [], ◌∷◌, length, drop, get_or, Some, refl, sym, ap, subst, ◌∙◌, arith}
use Rattle.std.specs.Prelude.{find, All}
use Rattle.std.proofs.lemmas.List.{drop_more, get_or_past}
use Rattle.board_defs.specs.declared.device.Cell.{Cell}
use Rattle.board_defs.specs.declared.device.RawDevice.{RawDevice}
use Rattle.board_defs.specs.DeviceRules.{is_driving, drives_bit, driving_entry, HasPlace}
use Rattle.board_defs.proofs.CellLemmas.{off_past}
use Rattle.board_build.specs.inner.Marked.{AreFlags, has_no_control}

-- one step of the loop, which goes from the last entry to the first: the new flags are right for
-- the entries from `k` on
pub flags_more : (cells : List Cell) (i k bits : ℕ) (old new : List Bool) (d : Cell) → k + 1 ≡ i
    → k < length cells → AreFlags (drop i cells) bits old →
    (AreFlags (drop i cells) bits old → AreFlags (get_or cells k d ∷ drop i cells) bits new) → AreFlags (drop k cells) bits new
flags_more cells i k bits old new d next within was step =
    let cut : drop k cells
    ≡ get_or cells k d ∷ drop i cells = drop_more cells k d within
    ∙ ap (λ n. get_or cells k d ∷ drop n cells) next in
    subst (λ (v : List Cell). AreFlags v bits new) (sym cut) (step was)

none_there : (bits bit : ℕ) (cells : List Cell)
    → All (λ entry. HasPlace bits entry.role entry.bit) cells → bits ≤ bit
    → has_no_control (find (drives_bit bit) cells) ≡ false
none_there bits bit [] places past = refl
none_there bits bit (cell ∷ cells) places past =
    let rest = none_there bits bit cells (λ i d less. places (suc i) d (omega arith)) past in
    ap
    (λ on. has_no_control
    (cond (on && is_driving cell.role) (Some cell) (find (drives_bit bit) cells)))
    (off_past bits bit cell cell.bit (places 0 cell (omega arith)) past) ∙ rest

-- if the flags are right for all entries of a device, and each entry's port bit is a bit of the
-- device, the flag of each port bit says whether the bit has an always-on driver
pub device_flagged : (device : RawDevice) (flags : List Bool)
    → All (λ entry. HasPlace (length device.bits) entry.role entry.bit) device.cells
    → AreFlags device.cells (length device.bits) flags →
    (bit : ℕ) → get_or flags bit false ≡ has_no_control (driving_entry device bit)
device_flagged device flags places are bit = by_there (nat_lt bit (length device.bits)) refl
  where
    by_there : (there : Bool) → nat_lt bit (length device.bits) ≡ there → get_or flags bit false ≡ has_no_control (driving_entry device bit)
    by_there true e =
        let less : bit < length device.bits = grind arith in
        are.each bit less
    by_there false e =
        let past : length device.bits ≤ bit = grind arith in
        get_or_past flags bit false (omega (arith, are.size, past)) ∙ sym (none_there (length device.bits) bit device.cells places past)
