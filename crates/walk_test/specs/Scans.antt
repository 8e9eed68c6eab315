-- The rows of a scan of the walking test.
use Rattle.std.specs.Prelude.{◌≡◌, ℕ, ◌<◌, ◌≤◌, Bool, true, false, List, length, Some, slice_get, slice_index_or}
use Rattle.std.specs.List.{list_any}
use Rattle.board_defs.specs.Limits.{most_bits}
use Rattle.board_defs.specs.declared.board.RawBoard.{RawBoard}
use Rattle.tap_defs.specs.declared.scan.Shape.{Shape}
use Rattle.tap_defs.specs.chain.Scan.{scan_bits}
use Rattle.walk_test.specs.WalkTest.{walk_scans}

-- The rows are scan k of the walking test, in the form that the SVF writer takes. All three rows have the same length, from 1 bit to
-- `most_bits` bits. The scan is compared if and only if some bit of the mask is 1. A bit of TDO is 1 only if the mask has a 1 at the same
-- position.
pub record FillsWalk (board : RawBoard) (k : ℕ) (shape : Shape) (tdi tdo mask : List Bool) : Type 0 where
  pub scan : slice_get (walk_scans board) k ≡ Some (record { ir = shape.ir; bits = scan_bits tdi tdo mask })
  pub some : 0 < length tdi
  pub most : length tdi ≤ most_bits
  pub tdo_length : length tdo ≡ length tdi
  pub mask_length : length mask ≡ length tdi
  pub compare : shape.compare ≡ list_any (λ bit. bit) mask
  pub masked : (i : ℕ) → slice_index_or tdo i false ≡ true → slice_index_or mask i false ≡ true
