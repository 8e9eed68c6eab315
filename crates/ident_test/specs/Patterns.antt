-- The scan of the identity test, and its text. After a reset, a part with IDCODE has its identification register between TDI and TDO,
-- and any other described part has its bypass register there (IEEE 1149.1-1990, sections 6 and 11).
use Rattle.std.specs.Prelude.{ℕ, Bool, true, false, List, [], ◌∷◌, map, Option, Some, None}
use Rattle.board_defs.specs.declared.device.Symbol.{Symbol}
use Rattle.board_defs.specs.declared.device.Symbol.TheVariants.{Zero, One, Any}
use Rattle.tap_defs.specs.chain.Scan.{ScanBit, Scan, joined}
use Rattle.tap_defs.specs.chain.Text.{svf_text}

-- the bit that a symbol of a pattern expects, or None for X
abbrev pub wanted : Symbol → Option Bool
wanted Zero = Some false
wanted One = Some true
wanted Any = None

-- the scan bit of a symbol: a 0 is shifted in, and the bit at TDO is compared with the symbol
abbrev pub symbol_bit : Symbol → ScanBit
symbol_bit symbol = record { tdi = false; expect = wanted symbol }

-- the symbols that the scan expects from a part's register: the pattern, or the 0 that a bypass
-- register loads in Capture-DR
abbrev pub register_pattern : Option (List Symbol) → List Symbol
register_pattern (Some pattern) = pattern
register_pattern None = Zero ∷ []

-- The bits of one scan through the registers of all parts. The patterns are in the order of the parts from TDI to TDO.
-- The last part's bits come first, because its register is nearest TDO.
abbrev pub ident_bits : List (Option (List Symbol)) → List ScanBit
ident_bits patterns = joined (map (λ part. map symbol_bit (register_pattern part)) patterns)

-- the data scan of the identity test
abbrev pub ident_scan : List (Option (List Symbol)) → Scan
ident_scan patterns = record { ir = false; bits = ident_bits patterns }

-- the SVF text of the identity test of described parts with these patterns
abbrev pub ident_text : List (Option (List Symbol)) → List ℕ
ident_text patterns = svf_text (ident_scan patterns ∷ [])
