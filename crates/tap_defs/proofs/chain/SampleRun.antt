-- Runs of the chain test of two parts with instruction lengths 4 and 2, on such a chain and on a chain of one part.
use Rattle.std.proofs.Common.{◌≡◌, ℕ, true, false, List, [], ◌∷◌, ◌++◌, None, refl}
use Rattle.tap_defs.specs.declared.tap.TapState.TheVariants.{PauseDR, ShiftIR}
use Rattle.tap_defs.specs.chain.TestLogic.{TestLogic, Sample, Other}
use Rattle.tap_defs.specs.chain.Part.{PartState, FreeBits}
use Rattle.tap_defs.specs.chain.Chain.{ChainPart, IsChainOf}
use Rattle.tap_defs.specs.chain.Run.{Clock, Choices, Wiring, tdos, run_passes}
use Rattle.tap_defs.specs.chain.Clocks.{test_clocks}
use Rattle.tap_defs.proofs.chain.SampleTexts.{off, on, two_parts_scans}

-- the test logic of a part without a description
abbrev pub plain_logic : ℕ → TestLogic
plain_logic n = record { ir_length = n; boundary_length = 0; extest = None; preload = None; at_reset = None; idcode = [] }

-- Free bits are 1 in registers and latches, and 0 at TDO. A reset selects an instruction other than BYPASS.
abbrev pub free_bits : FreeBits
free_bits = record { ir = λ k. on; cells = λ k. on; latches = λ k. on; tdo = off; other = on }

abbrev pub choices : Choices
choices k = record { parts = λ j. free_bits; shorts = λ j. off; tdi = on }

abbrev pub no_wiring : Wiring
no_wiring pins choice k = []

abbrev pub pausing : PartState
pausing =
    record {
      tap = PauseDR;
      ir = off ∷ off ∷ off ∷ off
          ∷ [];
      current = Sample;
      boundary = [];
      bypass = on;
      identification = [];
      latches = [];
    }

abbrev pub shifting : PartState
shifting = record { tap = ShiftIR; ir = on ∷ off ∷ []; current = Other; boundary = []; bypass = off; identification = []; latches = [] }

abbrev pub two : List ChainPart
two = record { logic = plain_logic 4; state = pausing } ∷ record { logic = plain_logic 2; state = shifting } ∷ []

abbrev pub one : List ChainPart
one = record { logic = plain_logic 6; state = record pausing { ir = on ∷ on ∷ on ∷ on ∷ on ∷ on ∷ [] } } ∷ []

-- `two` and `one` are possible states of chains of such parts
pub two_start : IsChainOf (plain_logic 4 ∷ plain_logic 2 ∷ []) two
two_start = record {
  logics_are = refl;
  states_are = (
    record { ir = refl; boundary = refl; identification = refl; latches = refl },
    (record { ir = refl; boundary = refl; identification = refl; latches = refl }, tt),
  );
}

abbrev pub clocks : List Clock
clocks = test_clocks two_parts_scans

-- TDO of the chain of two parts in each clock; the last part is in Shift-IR in the first clock
pub two_shows : tdos no_wiring clocks choices two ≡
    (on ∷ off ∷ off ∷ off ∷ off ∷ off ∷ [])
    ++ (off ∷ off ∷ off ∷ off ∷ []) ++ (on ∷ off ∷ on ∷ off ∷ on ∷ on ∷ []) ++ (off ∷ off ∷ [])
    ++ (off ∷ off ∷ off ∷ []) ++ (off ∷ off ∷ on ∷ off ∷ on ∷ off ∷ off ∷ on ∷ off ∷ on ∷ []) ++ (off ∷ off ∷ [])
    ++ (off ∷ off ∷ off ∷ off ∷ off ∷ [])
unfolding tdos
two_shows = refl

pub two_passes : run_passes clocks (tdos no_wiring clocks choices two) ≡ true
unfolding tdos
two_passes = refl

-- TDO of the chain of one part in each clock; the part delays the marks by only one clock
pub one_shows : tdos no_wiring clocks choices one ≡
    (off ∷ off ∷ off ∷ off ∷ off ∷ off ∷ [])
    ++ (off ∷ off ∷ off ∷ off ∷ []) ++ (on ∷ off ∷ on ∷ on ∷ on ∷ on ∷ []) ++ (off ∷ off ∷ [])
    ++ (off ∷ off ∷ off ∷ []) ++ (off ∷ on ∷ off ∷ on ∷ off ∷ off ∷ on ∷ off ∷ on ∷ off ∷ []) ++ (off ∷ off ∷ [])
    ++ (off ∷ off ∷ off ∷ off ∷ off ∷ [])
unfolding tdos
one_shows = refl

pub one_fails : run_passes clocks (tdos no_wiring clocks choices one) ≡ false
unfolding tdos
one_fails = refl
