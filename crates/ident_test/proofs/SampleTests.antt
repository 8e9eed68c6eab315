-- Samples of the text of the identity test, and of its runs on small chains.
use Rattle.std.proofs.Common.{◌≡◌, Bool, true, false, List, [], ◌∷◌, ◌++◌, map, replicate, Option, Some, None, refl}
use Rattle.std.specs.Prelude.{codes}
use Rattle.std.specs.Fmt.{digits}
use Rattle.board_defs.specs.declared.device.Symbol.{Symbol}
use Rattle.board_defs.specs.declared.device.Symbol.TheVariants.{Zero, One, Any}
use Rattle.tap_defs.specs.chain.TestLogic.{TestLogic, Bypass, Idcode}
use Rattle.tap_defs.specs.chain.Chain.{ChainPart, IsChainOf}
use Rattle.tap_defs.specs.chain.Run.{Clock, tdos, run_passes}
use Rattle.tap_defs.specs.chain.Clocks.{test_clocks}
use Rattle.tap_defs.specs.chain.Text.{svf_text}
use Rattle.tap_defs.proofs.chain.SampleTexts.{off, on, sample_text}
use Rattle.tap_defs.proofs.chain.SampleRun.{choices, no_wiring, pausing, shifting}
use Rattle.ident_test.specs.Patterns.{ident_scan, ident_text}
use Rattle.ident_test.specs.CodedParts.{AreCoded, all_fit}

-- the pattern XXXX0001001000110100000000000111; its last symbol is nearest TDO and comes first in the list
abbrev known_part : List Symbol
known_part =
    One ∷ One ∷ One ∷ Zero ∷ Zero ∷ Zero ∷ Zero ∷ Zero ∷ Zero ∷ Zero ∷ Zero ∷ Zero
    ∷ Zero ∷ Zero ∷ One ∷ Zero ∷ One ∷ One ∷ Zero ∷ Zero ∷ Zero ∷ One ∷ Zero ∷ Zero ∷ One ∷ Zero ∷ Zero ∷ Zero
    ∷ Any ∷ Any ∷ Any ∷ Any ∷ []

-- the last part of the chain has the lowest position in the scan
known_text : ident_text (Some known_part ∷ None ∷ []) ≡ sample_text (codes "SDR 33 TDI (000000000) TDO (00246800E) MASK (01FFFFFFF);" ∷ [])
unfolding svf_text digits
known_text = refl

turned_text : ident_text (None ∷ Some known_part ∷ []) ≡ sample_text (codes "SDR 33 TDI (000000000) TDO (001234007) MASK (10FFFFFFF);" ∷ [])
unfolding svf_text digits
turned_text = refl

-- if the scan compares no bit, its text has only the field TDI
unknown_text : ident_text (Some (replicate 32 Any) ∷ []) ≡ sample_text (codes "SDR 32 TDI (00000000);" ∷ [])
unfolding svf_text digits
unknown_text = refl

-- the patterns of two parts: the first has the short pattern 0X1, and the second has none
abbrev patterns : List (Option (List Symbol))
patterns = Some (One ∷ Any ∷ Zero ∷ []) ∷ None ∷ []

abbrev coded : List Bool → TestLogic
coded code = record { ir_length = 4; boundary_length = 0; extest = None; preload = None; at_reset = Some Idcode; idcode = code }

abbrev bypassed : TestLogic
bypassed = record { ir_length = 2; boundary_length = 0; extest = None; preload = None; at_reset = Some Bypass; idcode = [] }

-- a chain before the test; its two parts are in different TAP states and have different
-- instructions, and the first has this code
abbrev two : List Bool → List ChainPart
two code =
    record { logic = coded code; state = record pausing { identification = on ∷ on ∷ on ∷ [] } }
    ∷ record { logic = bypassed; state = shifting } ∷ []

start : IsChainOf (coded (on ∷ off ∷ off ∷ []) ∷ bypassed ∷ []) (two (on ∷ off ∷ off ∷ []))
start = record {
  logics_are = refl;
  states_are = (
    record { ir = refl; boundary = refl; identification = refl; latches = refl },
    (record { ir = refl; boundary = refl; identification = refl; latches = refl }, tt),
  );
}

abbrev clocks : List Clock
clocks = test_clocks (ident_scan patterns ∷ [])

-- the bit of the bypass register leaves the chain first, and then the code, lowest bit first
reads : tdos no_wiring clocks choices (two (on ∷ off ∷ off ∷ [])) ≡
    (on ∷ off ∷ off ∷ off ∷ off ∷ off ∷ [])
    ++ (off ∷ off ∷ off ∷ []) ++ (off ∷ on ∷ off ∷ off ∷ []) ++ (off ∷ off ∷ [])
    ++ (off ∷ off ∷ off ∷ off ∷ off ∷ [])
unfolding tdos
reads = refl

-- true if the test passes on the chain whose first part has this code
abbrev outcome : List Bool → Bool
outcome code = run_passes clocks (tdos no_wiring clocks choices (two code))

-- the code 001 fits 0X1
low_fits : outcome (on ∷ off ∷ off ∷ []) ≡ true
unfolding tdos
low_fits = refl

-- the code 011 fits 0X1
high_fits : outcome (on ∷ on ∷ off ∷ []) ≡ true
unfolding tdos
high_fits = refl

-- the code 101 does not fit 0X1
first_differs : outcome (on ∷ off ∷ on ∷ []) ≡ false
unfolding tdos
first_differs = refl

-- the code 000 does not fit 0X1
last_differs : outcome (off ∷ off ∷ off ∷ []) ≡ false
unfolding tdos
last_differs = refl

-- `all_fit` gives the same results for these four codes
all_told : map (λ code. all_fit patterns (coded code ∷ bypassed ∷ []))
    ((on ∷ off ∷ off ∷ []) ∷ (on ∷ on ∷ off ∷ []) ∷ (on ∷ off ∷ on ∷ []) ∷ (off ∷ off ∷ off ∷ []) ∷ [])
    ≡ true ∷ true ∷ false ∷ false ∷ []
all_told = refl

-- a code of 32 zeros, which does not fit the pattern
abbrev zeros : List Bool
zeros = replicate 32 off

-- Parts are coded whatever their register lengths are, with or without instruction codes, and even
-- if the code does not fit the pattern.
coded_whatever : AreCoded (Some known_part ∷ Some known_part ∷ None ∷ None ∷ [])
    (coded zeros
    ∷ record {
      ir_length = 2;
      boundary_length = 9;
      extest = Some (off ∷ off ∷ []);
      preload = Some
          (on ∷ off ∷ []);
      at_reset = Some Idcode;
      idcode = zeros;
    }
    ∷ bypassed
    ∷ record { ir_length = 1; boundary_length = 7; extest = Some (off ∷ []); preload = None; at_reset = Some Bypass; idcode = zeros } ∷ [])
coded_whatever = ((refl, refl), ((refl, refl), (refl, (refl, tt))))
