-- Conditions on the TDI, TDO and MASK rows of a scan: which bits they have, which room they have, and whether a call
-- leaves the same three rows borrowed with the same room. A row (`bt_bits::Row`) is a list of bits in memory, and its
-- room is the largest number of bits that fit into this memory.
use Rattle.std.specs.Prelude.{◌≡◌, ℕ, ◌≤◌, Bool, List, length}
use Rattle.tap_defs.specs.declared.scan.ScanRows.{ScanRows}
use Rattle.tap_defs.specs.declared.scan.StoredRows.{StoredRows}
use Rattle.tap_defs.specs.chain.Scan.{ScanBit, tdi_bits, tdo_bits, mask_bits}

-- the three lists are those of a scan: the bits to shift in, the expected bits, and the mask of the compared bits
pub record AreBitsOf (bits : List ScanBit) (shifted expected marks : List Bool) : Type 0 where
  pub tdi : shifted ≡ tdi_bits bits
  pub tdo : expected ≡ tdo_bits bits
  pub mask : marks ≡ mask_bits bits

-- the three stored rows have the bits of the scan
abbrev pub AreRowsOf : List ScanBit → StoredRows → Type 0
AreRowsOf bits stored = AreBitsOf bits stored.tdi.bits stored.tdo.bits stored.mask.bits

-- the three borrowed rows have the bits of the scan
abbrev pub HoldBits : List ScanBit → ScanRows → Type 0
HoldBits bits rows = AreBitsOf bits rows.tdi.now.bits rows.tdo.now.bits rows.mask.now.bits

-- the room of each of the three rows satisfies `Fits`
pub record EachHasRoom (Fits : ℕ → Type 0) (rows : ScanRows) : Type 0 where
  pub tdi : Fits rows.tdi.now.room
  pub tdo : Fits rows.tdo.now.room
  pub mask : Fits rows.mask.now.room

-- each row has room for its stored counterpart
pub record HaveRoomFor (stored : StoredRows) (rows : ScanRows) : Type 0 where
  pub tdi : length stored.tdi.bits ≤ rows.tdi.now.room
  pub tdo : length stored.tdo.bits ≤ rows.tdo.now.room
  pub mask : length stored.mask.bits ≤ rows.mask.now.room

-- `new` borrows the same three rows as `old`, and each has the same room
pub record AreSameRows (old new : ScanRows) : Type 0 where
  pub tdi : new.tdi.ghost_name ≡ old.tdi.ghost_name
  pub tdo : new.tdo.ghost_name ≡ old.tdo.ghost_name
  pub mask : new.mask.ghost_name ≡ old.mask.ghost_name
  pub tdi_room : new.tdi.now.room ≡ old.tdi.now.room
  pub tdo_room : new.tdo.now.room ≡ old.tdo.now.room
  pub mask_room : new.mask.now.room ≡ old.mask.now.room
