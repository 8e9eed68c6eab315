-- The identity test passes if and only if the code of each part fits the part's pattern.
use Rattle.std.proofs.Common.{◌≡◌, ◌≢◌, ℕ, zero, suc, ◌^◌, ◌<◌, Bool, true, false, ◌&&◌, List, [], ◌∷◌, length, map, Option, Some, None, refl, sym, ◌∙◌, ap, subst, arith}
use Rattle.std.specs.Prelude.{cond, slice_get}
use Rattle.std.proofs.Math.Bool.{and-true}
use Rattle.std.proofs.lemmas.List.{length-map}
use Rattle.board_defs.specs.declared.device.Symbol.{Symbol}
use Rattle.board_defs.specs.declared.device.Symbol.TheVariants.{Zero, One, Any}
use Rattle.board_defs.specs.declared.board.PartKind.TheVariants.{Described}
use Rattle.board_defs.specs.declared.device.RawDevice.{RawDevice}
use Rattle.tap_defs.specs.declared.tap.TapState.TheVariants.{RunTestIdle}
use Rattle.tap_defs.specs.chain.TestLogic.{TestLogic, Instruction, Extest, Sample, Bypass, Idcode, Other, all_ones, has_these_bits, instruction_of}
use Rattle.tap_defs.specs.board.OnBoard.{reset_by, test_logic}
use Rattle.tap_defs.specs.chain.Part.{FreeBits}
use Rattle.tap_defs.specs.chain.Chain.{ChainPart, logics, IsChainOf}
use Rattle.tap_defs.specs.chain.Run.{Clock, Wiring, Choices, choices_after, run, tdos, bit_passes, run_passes}
use Rattle.tap_defs.specs.chain.Scan.{ScanBit, Scan, joined}
use Rattle.tap_defs.specs.chain.Text.{AllSized}
use Rattle.tap_defs.specs.chain.Clocks.{sdr_clocks, head_clocks, test_clocks}
use Rattle.tap_defs.specs.chain.ChainRegisters.{dr_capture, dr_captures, data_captured, bits_at_pins, AllIn, AllSelectingIn}
use Rattle.tap_defs.specs.chain.Transport.{scan_passes}
use Rattle.tap_defs.proofs.chain.ListLemmas.{cons_path, length-joined}
use Rattle.tap_defs.proofs.chain.RunLemmas.{two_pass, scan_passes-append}
use Rattle.tap_defs.proofs.chain.DataLemmas.{data_transport}
use Rattle.tap_defs.proofs.chain.HeadLemmas.{run_logics, head_idles, scans_decide}
use Rattle.tap_defs.proofs.chain.MeaningLemmas.{text_means}
use Rattle.ident_test.specs.Patterns.{wanted, symbol_bit, register_pattern, ident_bits, ident_scan, ident_text}
use Rattle.ident_test.specs.CodedParts.{IsCoded, AreCoded, symbol_fits, code_fits, part_fits, all_fit, coded_by, coded_parts, HasCode}
use Rattle.ident_test.specs.IdentTest.{ArePatterns, IsIdentTest, EachRunTells}
use Rattle.ident_test.proofs.LengthLemmas.{AllWhole, whole_by, bits_least, bits_most}
use Rattle.ident_test.proofs.ResetLemmas.{AllSelected, head_selects}

bit_fits : (symbol : Symbol) (bit : Bool) → bit_passes (wanted symbol) bit ≡ symbol_fits symbol bit
bit_fits Zero true = refl
bit_fits Zero false = refl
bit_fits One true = refl
bit_fits One false = refl
bit_fits Any bit = refl

code_passes : (pattern : List Symbol) (code : List Bool) → scan_passes (map symbol_bit pattern) code ≡ code_fits pattern code
code_passes [] code = refl
code_passes (symbol ∷ pattern) [] = refl
code_passes (symbol ∷ pattern) (bit ∷ code) =
    ap (λ (b : Bool). b && scan_passes (map symbol_bit pattern) code) (bit_fits symbol bit)
    ∙ ap (λ (b : Bool). symbol_fits symbol bit && b) (code_passes pattern code)

-- the instruction of a coded part after a reset: IDCODE if it has a pattern, otherwise BYPASS
abbrev selects : Option (List Symbol) → Instruction
selects (Some pattern) = Idcode
selects None = Bypass

coded_at : (pattern : Option (List Symbol)) (part : TestLogic) → IsCoded pattern part → part.at_reset ≡ Some (selects pattern)
coded_at (Some pattern) part h = h.0
coded_at None part h = h

no_other : (pattern : Option (List Symbol)) (i : Instruction) → i ≡ selects pattern → i ≢ Other
no_other (Some pattern) i e h = let z : Idcode ≡ Other = sym e ∙ h in cc z
no_other None i e h = let z : Bypass ≡ Other = sym e ∙ h in cc z

-- After a reset, each coded part selects a register that the model of the chain has.
selecting : (patterns : List (Option (List Symbol))) (ps : List ChainPart) → AllIn RunTestIdle ps
    → AllSelected ps → AreCoded patterns (logics ps) →
    AllSelectingIn RunTestIdle ps
selecting [] [] idle selected coded = tt
selecting [] (p ∷ ps) idle selected coded = absurd coded
selecting (pattern ∷ patterns) [] idle selected coded = absurd coded
selecting (pattern ∷ patterns) (p ∷ ps) idle selected coded = (
  (idle.0, no_other pattern p.state.current (selected.0 (selects pattern) (coded_at pattern p.logic coded.0))),
  selecting patterns ps idle.1 selected.1 coded.1,
)

-- The part loads as many bits as the scan has for its register. These bits pass if and only if the code fits the
-- pattern.
record Loads (pattern : Option (List Symbol)) (part : TestLogic) (loaded : List Bool) : Type 0 where
  size : length (map symbol_bit (register_pattern pattern)) ≡ length loaded
  passes : scan_passes (map symbol_bit (register_pattern pattern)) loaded ≡ part_fits pattern part

part_loads : (pattern : Option (List Symbol)) (part : TestLogic) (pins : List Bool) (free : FreeBits) (n : ℕ) → AllWhole (pattern ∷ []) →
    IsCoded pattern part →
    Loads pattern part (dr_capture part pins free (selects pattern) n)
part_loads (Some pattern) part pins free n whole coded = record {
  size = length-map pattern symbol_bit ∙ whole.0 ∙ sym coded.1;
  passes = code_passes pattern part.idcode;
}
part_loads None part pins free n whole coded = record { size = refl; passes = refl }

first_whole : (pattern : Option (List Symbol)) (patterns : List (Option (List Symbol))) → AllWhole (pattern ∷ patterns) →
    AllWhole (pattern ∷ []) × AllWhole patterns
first_whole (Some pattern) patterns h = ((h.0, tt), h.1)
first_whole None patterns h = (tt, h)

-- the scan bits for the register of each part
abbrev all_bits : List (Option (List Symbol)) → List (List ScanBit)
all_bits patterns = map (λ part. map symbol_bit (register_pattern part)) patterns

-- Each part loads as many bits as the scan has for its register. All bits together pass if and only if all codes fit.
record ChainLoads (patterns : List (Option (List Symbol))) (parts : List TestLogic) (loaded : List (List Bool)) : Type 0 where
  sizes : map length (all_bits patterns) ≡ map length loaded
  passes : scan_passes (ident_bits patterns) (joined loaded) ≡ all_fit patterns parts

and_turned : (a b : Bool) → (a && b) ≡ (b && a)
and_turned true true = refl
and_turned true false = refl
and_turned false true = refl
and_turned false false = refl

chain_loads : (patterns : List (Option (List Symbol))) (ps : List ChainPart) (pins : ℕ → List Bool)
    (free : ℕ → FreeBits) → AllWhole patterns →
    AllSelected ps → AreCoded patterns (logics ps) →
    ChainLoads patterns (logics ps) (dr_captures pins free ps)
chain_loads [] [] pins free whole selected coded = record { sizes = refl; passes = refl }
chain_loads [] (p ∷ ps) pins free whole selected coded = absurd coded
chain_loads (pattern ∷ patterns) [] pins free whole selected coded = absurd coded
chain_loads (pattern ∷ patterns) (p ∷ ps) pins free whole selected coded =
    let wholes = first_whole pattern patterns whole in
    let bits : List ScanBit = map symbol_bit (register_pattern pattern) in
    let loaded : List Bool = dr_capture p.logic (pins 0) (free 0) p.state.current (length p.state.boundary) in
    let others : List (List Bool) = dr_captures (λ k. pins (suc k)) (λ k. free (suc k)) ps in
    let rest : ChainLoads patterns (logics ps) others = chain_loads patterns ps (λ k. pins (suc k))
    (λ k. free (suc k)) wholes.1 selected.1 coded.1 in
    let is : p.state.current ≡ selects pattern = selected.0 (selects pattern) (coded_at pattern p.logic coded.0) in
    let one : Loads pattern p.logic loaded =
    subst (λ (i : Instruction). Loads pattern p.logic (dr_capture p.logic (pins 0) (free 0) i (length p.state.boundary))) (sym is)
    (part_loads pattern p.logic (pins 0) (free 0) (length p.state.boundary) wholes.0 coded.0) in
    record {
      sizes = cons_path one.size rest.sizes;
      passes =
          scan_passes-append (ident_bits patterns) bits (joined others) loaded (length-joined (all_bits patterns) others rest.sizes)
          ∙ ap (λ (b : Bool). b && scan_passes bits loaded) rest.passes
          ∙ ap (λ (b : Bool). all_fit patterns (logics ps) && b) one.passes
          ∙ and_turned (all_fit patterns (logics ps)) (part_fits pattern p.logic);
    }

module _ (patterns : List (Option (List Symbol))) (are : ArePatterns patterns) where
  abbrev bits : List ScanBit
  bits = ident_bits patterns

  abbrev scans : List Scan
  scans = ident_scan patterns ∷ []

  whole : AllWhole patterns
  whole = whole_by patterns are.whole

  some_bits : 0 < length bits
  some_bits = omega (arith, bits_least patterns whole, are.some)

  few_bits : length bits < 2 ^ 64
  few_bits = omega (arith, bits_most patterns whole, are.few)

  sized : AllSized scans
  sized = ((some_bits, few_bits), tt)

  -- facts about a run of the identity test on any chain of coded parts with these patterns
  module _ (wiring : Wiring) (parts : List TestLogic) (coded : AreCoded patterns parts) (chain : List ChainPart) (choices : Choices)
      (start : IsChainOf parts chain) where
    abbrev headed : List ChainPart
    headed = run wiring head_clocks choices chain

    abbrev f6 : Choices
    f6 = choices_after head_clocks choices

    same_parts : logics headed ≡ parts
    same_parts = run_logics wiring head_clocks choices chain ∙ start.logics_are

    headed_coded : AreCoded patterns (logics headed)
    headed_coded = subst (AreCoded patterns) (sym same_parts) coded

    abbrev captured : List (List Bool)
    captured = data_captured wiring f6 headed

    loads : ChainLoads patterns (logics headed) captured
    loads =
        chain_loads patterns headed (bits_at_pins wiring (f6 2) headed) (f6 2).parts whole
        (head_selects wiring choices chain) headed_coded

    all_selecting : AllSelectingIn RunTestIdle headed
    all_selecting = selecting patterns headed (head_idles wiring choices chain) (head_selects wiring choices chain) headed_coded

    decides : run_passes (test_clocks scans) (tdos wiring (test_clocks scans) choices chain) ≡ all_fit patterns parts
    unfolding tdos
    decides =
        let scan_pass : Bool = run_passes (sdr_clocks bits) (tdos wiring (sdr_clocks bits) f6 headed) in
        scans_decide wiring scans choices chain
        ∙ (two_pass wiring (sdr_clocks bits) [] f6 headed ∙ and-true scan_pass)
        ∙ (data_transport wiring bits f6 headed all_selecting some_bits (length-joined (all_bits patterns) captured loads.sizes)).compares
        ∙ loads.passes
        ∙ ap (all_fit patterns) same_parts

pub ident_test : (patterns : List (Option (List Symbol))) → ArePatterns patterns → IsIdentTest patterns (ident_text patterns)
ident_test patterns are = record {
  clocks = test_clocks (scans patterns are);
  means = text_means (scans patterns are) (sized patterns are);
  passes = λ wiring parts coded fit chain choices start. decides patterns are wiring parts coded chain choices start ∙ fit;
  fails = λ wiring parts coded fit chain choices start. decides patterns are wiring parts coded chain choices start ∙ fit;
}

one_coded : (pattern : Option (List Symbol)) (device : RawDevice) (code : List Bool) → device.idcode ≡ pattern → length code ≡ 32 →
    IsCoded pattern (coded_by pattern code (test_logic (Described device)))
one_coded (Some pattern) device code is size = (refl, size)
one_coded None device code is size = ap (λ (o : Option (List Symbol)). Some (reset_by o)) is

pub devices_coded : (devices : List RawDevice) (codes : ℕ → List Bool) → ((k : ℕ) → length (codes k) ≡ 32) →
    AreCoded (map (λ device. device.idcode) devices) (coded_parts devices codes)
devices_coded [] codes sizes = tt
devices_coded (device ∷ devices) codes sizes =
    (one_coded device.idcode device (codes 0) refl (sizes 0), devices_coded devices (λ k. codes (suc k)) (λ k. sizes (suc k)))

coded_alone : (pattern : Option (List Symbol)) (device : RawDevice) (code : List Bool)
    → device.idcode ≡ pattern
    → HasCode device code (coded_by pattern code (test_logic (Described device)))
coded_alone (Some pattern) device code is = record {
  ir_length = refl;
  boundary_length = refl;
  extest = refl;
  preload = refl;
  code_is = λ other has. refl;
}
coded_alone None device code is = record {
  ir_length = refl;
  boundary_length = refl;
  extest = refl;
  preload = refl;
  code_is = λ other has. let clash : None ≡ Some other = sym is ∙ has in absurd cc;
}

pub codes_assigned : (devices : List RawDevice) (codes : ℕ → List Bool) (k : ℕ) (device : RawDevice) → slice_get devices k ≡ Some device →
    (part : TestLogic) × (slice_get (coded_parts devices codes) k ≡ Some part) × HasCode device (codes k) part
codes_assigned [] codes k device is = absurd cc
codes_assigned (first ∷ devices) codes zero device is =
    let same : first ≡ device = cc in (
      coded_by first.idcode (codes 0) (test_logic (Described first)),
      refl,
      subst
          (λ (d : RawDevice). HasCode d (codes 0)
          (coded_by first.idcode (codes 0) (test_logic (Described first)))) same
          (coded_alone first.idcode first (codes 0) refl),
    )
codes_assigned (first ∷ devices) codes (suc k) device is = codes_assigned devices (λ n. codes (suc n)) k device is

pub codes_keep_instructions : (device : RawDevice) (code : List Bool) (part : TestLogic)
    → HasCode device code part → (bits : List Bool)
    → instruction_of part bits ≡ instruction_of (test_logic (Described device)) bits
codes_keep_instructions device code part has bits =
    let given = test_logic (Described device) in
    ap
    (λ (extest : Option (List Bool)). cond (all_ones bits) Bypass
    (cond (has_these_bits extest bits) Extest
    (cond (has_these_bits part.preload bits) Sample Other))) has.extest
    ∙ ap
    (λ (preload : Option (List Bool)). cond (all_ones bits) Bypass
    (cond (has_these_bits given.extest bits) Extest
    (cond (has_these_bits preload bits) Sample Other))) has.preload

pub each_run_tells : (patterns : List (Option (List Symbol))) (text : List ℕ) → IsIdentTest patterns text → EachRunTells patterns text
each_run_tells patterns text test clocks wiring parts chain choices means coded start = by_fit (all_fit patterns parts) refl
  where
    same : test.clocks ≡ clocks
    same = let both : Some test.clocks ≡ Some clocks = sym test.means ∙ means in cc

    by_fit : (fit : Bool) → all_fit patterns parts ≡ fit → run_passes clocks (tdos wiring clocks choices chain) ≡ fit
    by_fit true is =
        subst (λ (cs : List Clock). run_passes cs (tdos wiring cs choices chain) ≡ true) same
        (test.passes wiring parts coded is chain choices start)
    by_fit false is =
        subst (λ (cs : List Clock). run_passes cs (tdos wiring cs choices chain) ≡ false) same
        (test.fails wiring parts coded is chain choices start)
