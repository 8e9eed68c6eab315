-- The drivers that one safe setting enables together, and the nets that are paired.
use Rattle.std.specs.Prelude.{◌≡◌, ◌<◌, ◌+◌, ◌*◌, ◌&&◌, ℕ, Bool, false, not, List, [], Option, None, Some, slice_get, cond}
use Rattle.std.specs.Int.{bit_at}
use Rattle.std.specs.List.{list_any}
use Rattle.board_defs.specs.declared.board.Net.{Net}
use Rattle.board_defs.specs.declared.board.RawBoard.{RawBoard}
use Rattle.board_defs.specs.declared.board.Drive.{Drive}
use Rattle.board_defs.specs.Decided.{are_compatible, are_paired, is_covered}
use Rattle.board_defs.specs.Passes.{tested_drivers}

-- one safe setting enables both drivers
abbrev pub fit : RawBoard → Drive → Drive → Bool
fit board d e = are_compatible board (Some d) (Some e)

-- one safe setting enables the driver and some driver in the list
abbrev pub fits_some : RawBoard → List Drive → Drive → Bool
fits_some board es d = list_any (fit board d) es

-- the tested drivers of the net, or no drivers if there is no net
abbrev pub drivers_there : RawBoard → Option Net → List Drive
drivers_there board None = []
drivers_there board (Some net) = tested_drivers board net

-- the tested drivers of net number `n`
abbrev pub drivers_at : RawBoard → ℕ → List Drive
drivers_at board n = drivers_there board (slice_get board.nets n)

-- one safe setting enables the driver and a tested driver of net number `n`
abbrev pub fits_at : RawBoard → Drive → ℕ → Bool
fits_at board d n = fits_some board (drivers_at board n) d

-- there are two nets, and one safe setting observes both
abbrev pub pair_there : RawBoard → Option Net → Option Net → Bool
pair_there board None b = false
pair_there board (Some a) None = false
pair_there board (Some a) (Some b) = are_paired board a b

-- there are nets with both numbers, and one safe setting observes both
abbrev pub pairs_with : RawBoard → ℕ → ℕ → Bool
pairs_with board a b = pair_there board (slice_get board.nets a) (slice_get board.nets b)

-- there is a net, and it is covered, that is, some safe setting observes the net
abbrev pub covered_there : RawBoard → Option Net → Bool
covered_there board None = false
covered_there board (Some net) = is_covered board net

-- net number `b` is covered, and no safe setting observes it together with net number `a`
abbrev pub unpaired_with : RawBoard → ℕ → ℕ → Bool
unpaired_with board a b = covered_there board (slice_get board.nets b) && not (pairs_with board a b)

-- bit `i` of the word is 1 if and only if `passes` is true of `64 * number + i`
abbrev pub AreWordBits : (ℕ → Bool) → ℕ → ℕ → Type 0
AreWordBits passes number word = (i : ℕ) → i < 64 → bit_at word i ≡ cond (passes (64 * number + i)) 1 0
