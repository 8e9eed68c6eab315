-- The two rows for the expected bits and the mask of a scan: their room, their contents, and what a call leaves
-- unchanged.
use Rattle.std.specs.Prelude.{◌≡◌, ℕ, ◌≤◌, List}
use Rattle.tap_defs.specs.chain.Scan.{ScanBit, mask_bits, tdo_bits}
use Rattle.scan_planner.specs.declared.compared_rows.ComparedRows.{ComparedRows}

-- both rows have room for `bits` bits
pub record BothHaveRoom (bits : ℕ) (rows : ComparedRows) : Type 0 where
  pub tdo : bits ≤ rows.tdo.now.room
  pub mask : bits ≤ rows.mask.now.room

-- the rows hold the expected bits and the mask of a scan that has these bits
pub record HoldCompared (bits : List ScanBit) (rows : ComparedRows) : Type 0 where
  pub tdo : rows.tdo.now.bits ≡ tdo_bits bits
  pub mask : rows.mask.now.bits ≡ mask_bits bits

-- `new` has the same two rows as `old`, and each row has the same room as before
pub record AreBothKept (old new : ComparedRows) : Type 0 where
  pub tdo : new.tdo.ghost_name ≡ old.tdo.ghost_name
  pub mask : new.mask.ghost_name ≡ old.mask.ghost_name
  pub tdo_room : new.tdo.now.room ≡ old.tdo.now.room
  pub mask_room : new.mask.now.room ≡ old.mask.now.room
