-- Lemmas for the loops that make the tables of a plan.
use Rattle.std.proofs.Common.{◌≡◌, ℕ, suc, ◌-◌, ◌<◌, ◌≤◌, List, ◌++◌, length, drop, get_or, Option, Some, None, refl, ap, ◌∙◌, arith}
use Rattle.board_defs.specs.declared.device.RawDevice.{RawDevice}
use Rattle.board_defs.specs.declared.board.Part.{Part}
use Rattle.board_defs.specs.declared.board.RawBoard.{RawBoard}
use Rattle.board_defs.specs.Pins.{device_at, cell_count}
use Rattle.tap_defs.specs.chain.Scan.{joined}
use Rattle.plan_tables.specs.inner.Laid.{CellBits, part_laid, parts_laid}
use Rattle.plan_tables.proofs.CodeLemmas.{part_before}

-- the part has a description, and `cell` is one of its boundary cells
pub record CellThere (board : RawBoard) (part cell : ℕ) : Type 0 where
  pub device : RawDevice
  pub is_device : device_at board part ≡ Some device
  pub below : cell < device.boundary

pub cell_there : (board : RawBoard) (part cell : ℕ) → cell < cell_count (device_at board part) → CellThere board part cell
cell_there board part cell less = by_device (device_at board part) refl less
  where
    by_device : (o : Option RawDevice) → device_at board part ≡ o → cell < cell_count o → CellThere board part cell
    by_device None e less = absurd (omega (arith, less))
    by_device (Some device) e less = record { device = device; is_device = e; below = less }

-- The loop over the parts goes from the last part to the first. Each turn appends the bits of one part.
pub part_more : (g : CellBits) (chain : List Part) (i : ℕ) (d : Part) → 0 < i → i ≤ length chain →
    joined (parts_laid g (i - 1) (drop (i - 1) chain))
    ≡ joined (parts_laid g i (drop i chain))
    ++ part_laid g (i - 1) (get_or chain (i - 1) d).kind
part_more g chain i d some within =
    let next : suc (i - 1) ≡ i = omega (arith, some) in
    ap (λ (l : List Part). joined (parts_laid g (i - 1) l)) (part_before chain i d some within)
    ∙ ap (λ (k : ℕ). joined (parts_laid g k (drop i chain)) ++ part_laid g (i - 1) (get_or chain (i - 1) d).kind) next
