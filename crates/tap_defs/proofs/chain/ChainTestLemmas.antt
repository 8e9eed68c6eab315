-- The chain test passes on the chains for which it is made, and fails on chains with another number of parts.
use Rattle.std.proofs.Common.{◌≡◌, ◌≢◌, ℕ, zero, suc, ◌+◌, ◌^◌, ◌<◌, ◌≤◌, Bool, true, false, cond, ◌&&◌, List, [], ◌∷◌, ◌++◌, length, map, take, drop}
use Rattle.std.proofs.Common.{replicate, refl, sym, ◌∙◌, ap, subst, append_assoc, length-append, arith}
use Rattle.std.proofs.Math.Bool.{and-true}
use Rattle.std.proofs.lemmas.Bool.{and_parts, and_from, and_right}
use Rattle.std.proofs.lemmas.List.{length-map, length-replicate}
use Rattle.std.proofs.lemmas.List.Folds.{list_all-append}
use Rattle.std.proofs.lemmas.List.Sums.{sum_by-cons}
use Rattle.std.specs.Prelude.{sum, All}
use Rattle.tap_defs.specs.declared.tap.TapState.TheVariants.{RunTestIdle}
use Rattle.tap_defs.specs.chain.TestLogic.{TestLogic, Instruction, Extest, Sample, Bypass, Other, all_ones, has_these_bits, instruction_of}
use Rattle.tap_defs.specs.chain.Part.{FreeBits}
use Rattle.tap_defs.specs.chain.Chain.{ChainPart, logics, IsChainOf}
use Rattle.tap_defs.specs.chain.Run.{Wiring, Choices, choices_after, run, tdos, run_passes, PassesOn, FailsOn}
use Rattle.tap_defs.specs.chain.Scan.{ScanBit, tdi_bits, joined}
use Rattle.tap_defs.specs.chain.Codes.{code_bits}
use Rattle.tap_defs.specs.chain.Text.{AllSized}
use Rattle.tap_defs.specs.chain.ChainScans.{marks, compared_with, chain_scans, chain_text}
use Rattle.tap_defs.specs.chain.Clocks.{sdr_clocks, sir_clocks, head_clocks, test_clocks}
use Rattle.tap_defs.specs.chain.ChainRegisters.{ir_registers, dr_capture, dr_captures, data_captured, codes_captured, bits_at_pins, AllIn, AllSelectingIn}
use Rattle.tap_defs.specs.chain.Transport.{ScansCodes, scan_passes}
use Rattle.tap_defs.specs.chain.ChainTest.{ir_lengths, AreIrLengths, IsChainTest}
use Rattle.tap_defs.proofs.chain.ListLemmas.{cons_path, take_front}
use Rattle.tap_defs.proofs.chain.RunLemmas.{two_pass, scan_passes_take}
use Rattle.tap_defs.proofs.chain.DataLemmas.{long_data_transport}
use Rattle.tap_defs.proofs.chain.CodeLemmas.{long_code_transport, lengths-ir_captures}
use Rattle.tap_defs.proofs.chain.HeadLemmas.{run_logics, ir_sizes, run_ir, chain_lengths, head_idles, scans_decide}
use Rattle.tap_defs.proofs.chain.InstructLemmas.{length-instructs, tdi_bits-instructs, AllRoom, instructs_pass}
use Rattle.tap_defs.proofs.chain.MeaningLemmas.{text_means}
use Rattle.tap_defs.proofs.chain.RowLemmas.{tdi_bits-compared, all_ones-replicate}

-- a code of ones for each part
abbrev ones : List ℕ → List (List Bool)
ones lengths = map (λ n. replicate n true) lengths

lengths-ones : (lengths : List ℕ) → map length (ones lengths) ≡ lengths
lengths-ones [] = refl
lengths-ones (n ∷ lengths) = cons_path (length-replicate n true) (lengths-ones lengths)

length-joined-sum : (rs : List (List Bool)) → length (joined rs) ≡ sum (map length rs)
length-joined-sum [] = refl
length-joined-sum (r ∷ rs) =
    omega (
      arith,
      length-append (joined rs) r,
      length-joined-sum rs,
      sum_by-cons (λ (x : ℕ). x) (length r) (map length rs),
    )

ones_are : (lengths : List ℕ) → all_ones (joined (ones lengths)) ≡ true
ones_are [] = refl
ones_are (n ∷ lengths) =
    list_all-append (λ b. b) (joined (ones lengths)) (replicate n true)
    ∙ and_from (all_ones (joined (ones lengths))) (all_ones (replicate n true)) (ones_are lengths) (all_ones-replicate n)

ones_left : (front ones : List Bool) (n : ℕ) → length front ≤ n → all_ones ones ≡ true → all_ones (drop n (front ++ ones)) ≡ true
ones_left [] ones n fits h = dropped n ones h
  where
    dropped : (m : ℕ) (xs : List Bool) → all_ones xs ≡ true → all_ones (drop m xs) ≡ true
    dropped zero xs k = k
    dropped (suc m) [] k = k
    dropped (suc m) (x ∷ xs) k = dropped m xs (and_parts x (all_ones xs) k).1
ones_left (b ∷ front) ones zero fits h = absurd (omega (arith, fits))
ones_left (b ∷ front) ones (suc n) fits h = ones_left front ones n (omega (arith, fits)) h

ones_bypass : (logic : TestLogic) (code : List Bool) → all_ones code ≡ true → instruction_of logic code ≡ Bypass
ones_bypass logic code h =
    ap
    (λ (b : Bool). cond b Bypass
    (cond (has_these_bits logic.extest code) Extest
    (cond (has_these_bits logic.preload code) Sample Other))) h

abbrev AllBypass : List ChainPart → Type 0
AllBypass [] = Unit {0}
AllBypass (p ∷ ps) = (p.state.current ≡ Bypass) × AllBypass ps

bypass_by : (ps : List ChainPart) → map (λ p. p.state.current) ps ≡ map (λ p. instruction_of p.logic p.state.ir) ps →
    all_ones (joined (ir_registers ps)) ≡ true → AllBypass ps
bypass_by [] e h = tt
bypass_by (p ∷ ps) e h =
    let head : p.state.current ≡ instruction_of p.logic p.state.ir = cc e in
    let tail : map (λ p. p.state.current) ps ≡ map (λ p. instruction_of p.logic p.state.ir) ps = cc e in
    let both =
    and_parts (all_ones (joined (ir_registers ps))) (all_ones p.state.ir)
    (sym (list_all-append (λ b. b) (joined (ir_registers ps)) p.state.ir) ∙ h) in
    (head ∙ ones_bypass p.logic p.state.ir both.1, bypass_by ps tail both.0)

not_other : (i : Instruction) → i ≡ Bypass → i ≢ Other
not_other i e h = let z : Bypass ≡ Other = sym e ∙ h in cc z

selecting_by : (ps : List ChainPart) → AllIn RunTestIdle ps → AllBypass ps → AllSelectingIn RunTestIdle ps
selecting_by [] t h = tt
selecting_by (p ∷ ps) t h = ((t.0, not_other p.state.current h.0), selecting_by ps t.1 h.1)

zero_behind : (k : ℕ) → replicate k false ++ false ∷ [] ≡ false ∷ replicate k false
zero_behind zero = refl
zero_behind (suc k) = cons_path refl (zero_behind k)

loads_zeros : (ps : List ChainPart) (pins : ℕ → List Bool) (free : ℕ → FreeBits) → AllBypass ps →
    joined (dr_captures pins free ps) ≡ replicate (length ps) false
loads_zeros [] pins free h = refl
loads_zeros (p ∷ ps) pins free h =
    let others : List Bool = joined (dr_captures (λ k. pins (suc k)) (λ k. free (suc k)) ps) in
    ap (λ (i : Instruction). others ++ dr_capture p.logic (pins 0) (free 0) i (length p.state.boundary)) h.0
    ∙ ap (λ (r : List Bool). r ++ false ∷ []) (loads_zeros ps (λ k. pins (suc k)) (λ k. free (suc k)) h.1)
    ∙ zero_behind (length ps)

compared_passes : (ins out rest : List Bool) → length out ≤ length ins → scan_passes (compared_with ins out) (out ++ rest) ≡ true
compared_passes [] [] rest h = refl
compared_passes (i ∷ ins) [] rest h = refl
compared_passes [] (o ∷ out) rest h = absurd (omega (arith, h))
compared_passes (i ∷ ins) (true ∷ out) rest h = compared_passes ins out rest (omega (arith, h))
compared_passes (i ∷ ins) (false ∷ out) rest h = compared_passes ins out rest (omega (arith, h))

-- The marks are the bits of the hexadecimal number A5, which the second scan of the chain test shifts in first. A scan
-- that expects `k` zeros and then the marks fails if another number of zeros comes before the marks. The scan must have
-- a bit for each expected bit.
count_fails : (ins : List Bool) (k j : ℕ) (rest : List Bool) → k ≢ j → length (replicate k false ++ marks) ≤ length ins →
    scan_passes (compared_with ins (replicate k false ++ marks)) (replicate j false ++ (marks ++ rest)) ≡ false
count_fails [] k j rest ne h = absurd (omega (arith, h, length-append (replicate k false) marks))
count_fails (i ∷ ins) zero zero rest ne h = absurd (ne refl)
count_fails (i ∷ ins) zero (suc j) rest ne h = refl
count_fails (i ∷ ins) (suc k) zero rest ne h = refl
count_fails (i ∷ ins) (suc k) (suc j) rest ne h = count_fails ins k j rest (λ e. ne (ap suc e)) (omega (arith, h))

length-compared : (ins out : List Bool) → length ins ≡ length out → length (compared_with ins out) ≡ length ins
length-compared [] out h = refl
length-compared (i ∷ ins) [] h = absurd (omega (arith, h))
length-compared (i ∷ ins) (o ∷ out) h = ap suc (length-compared ins out (omega (arith, h)))

count_by_logics : (ps : List ChainPart) (parts : List TestLogic) → logics ps ≡ parts → length ps ≡ length parts
count_by_logics ps parts e = sym (length-map ps (λ p. p.logic)) ∙ ap (λ (l : List TestLogic). length l) e

room_by : (lengths : List ℕ) → All (λ n. 2 ≤ n) lengths → AllRoom lengths
room_by [] h = tt
room_by (n ∷ lengths) h = (h 0 0 (omega arith), room_by lengths (λ k d lt. h (suc k) d (omega (arith, lt))))

wide_sum : (lengths : List ℕ) → AllRoom lengths → length lengths ≤ sum lengths
wide_sum [] h = omega arith
wide_sum (n ∷ lengths) h = omega (arith, h.0, wide_sum lengths h.1, sum_by-cons (λ (x : ℕ). x) n lengths)

module _ (lengths : List ℕ) (are : AreIrLengths lengths) (most : sum lengths ≤ 65535) where
  abbrev zeros : List Bool
  zeros = replicate (length lengths) false

  -- the bits of the first scan, which shifts in codes of ones, and of the second scan, which counts the parts
  abbrev code_part : List ScanBit
  code_part = joined (map code_bits (ones lengths))

  abbrev count_part : List ScanBit
  count_part = compared_with (marks ++ zeros) (zeros ++ marks)

  same_size : length (marks ++ zeros) ≡ length (zeros ++ marks)
  same_size = omega (arith, length-append marks zeros, length-append zeros marks)

  code_size : length code_part ≡ sum lengths
  code_size = length-instructs (ones lengths) ∙ length-joined-sum (ones lengths) ∙ ap (λ (l : List ℕ). sum l) (lengths-ones lengths)

  count_size : length count_part ≡ length marks + length lengths
  count_size =
      length-compared (marks ++ zeros) (zeros ++ marks) same_size
      ∙ length-append marks zeros
      ∙ ap (λ (n : ℕ). length marks + n) (length-replicate (length lengths) false)

  few_parts : length lengths ≤ sum lengths
  few_parts = wide_sum lengths (room_by lengths are.wide)

  some_codes : 0 < length code_part
  some_codes = omega (arith, code_size, few_parts, are.some)

  some_counts : 0 < length count_part
  some_counts = omega (arith, count_size)

  sized : AllSized (chain_scans lengths)
  sized =
      let codes_fit : length code_part < 2 ^ 64 = omega (arith, code_size, most) in
      let counts_fit : length count_part < 2 ^ 64 = omega (arith, count_size, few_parts, most) in
      ((some_codes, codes_fit), ((some_counts, counts_fit), tt))

  -- a run of the test on a chain of these parts, from any state
  module _ (wiring : Wiring) (parts : List TestLogic) (chain : List ChainPart) (choices : Choices) (start : IsChainOf parts chain) where
    abbrev headed : List ChainPart
    headed = run wiring head_clocks choices chain

    abbrev f6 : Choices
    f6 = choices_after head_clocks choices

    abbrev coded : List ChainPart
    coded = run wiring (sir_clocks code_part) f6 headed

    abbrev f7 : Choices
    f7 = choices_after (sir_clocks code_part) f6

    abbrev codes_pass : Bool
    codes_pass = run_passes (sir_clocks code_part) (tdos wiring (sir_clocks code_part) f6 headed)

    abbrev counts_pass : Bool
    counts_pass = run_passes (sdr_clocks count_part) (tdos wiring (sdr_clocks count_part) f7 coded)

    both_decide : run_passes (test_clocks (chain_scans lengths))
        (tdos wiring (test_clocks (chain_scans lengths)) choices chain)
        ≡ (codes_pass && counts_pass)
    unfolding tdos
    both_decide =
        scans_decide wiring (chain_scans lengths) choices chain
        ∙ two_pass wiring (sir_clocks code_part) (sdr_clocks count_part ++ []) f6 headed
        ∙ ap (λ (b : Bool). codes_pass && b) (two_pass wiring (sdr_clocks count_part) [] f7 coded ∙ and-true counts_pass)

    abbrev captured : List (List Bool)
    captured = codes_captured f6 headed

    headed_sizes : ir_sizes headed ≡ ir_lengths parts
    headed_sizes = run_ir wiring head_clocks choices chain ∙ chain_lengths parts chain start

    captured_size : length (joined captured) ≡ sum (ir_lengths parts)
    captured_size = length-joined-sum captured ∙ ap (λ (l : List ℕ). sum l) (lengths-ir_captures headed (f6 3).parts ∙ headed_sizes)

    abbrev stream : List Bool
    stream = joined captured ++ tdi_bits code_part

    code_scan : ScansCodes code_part (take (length code_part) stream) (drop (length code_part) stream)
        (tdos wiring (sir_clocks code_part) f6 headed) headed coded
    code_scan = long_code_transport wiring code_part f6 headed (head_idles wiring choices chain) some_codes

    coded_count : length coded ≡ length parts
    coded_count =
        count_by_logics coded parts
        (run_logics wiring (sir_clocks code_part) f6 headed ∙ run_logics wiring head_clocks choices chain ∙ start.logics_are)

    -- If the instruction registers have no more bits in total than the codes, every part has BYPASS after the first
    -- scan.
    all_bypass : sum (ir_lengths parts) ≤ sum lengths → AllBypass coded
    all_bypass few =
        bypass_by coded code_scan.currents
        (ap (λ (r : List Bool). all_ones r)
        (code_scan.stays ∙ ap (λ (r : List Bool). drop (length code_part) (joined captured ++ r)) (tdi_bits-instructs (ones lengths)))
        ∙ ones_left (joined captured) (joined (ones lengths)) (length code_part)
        (omega (arith, captured_size, code_size, few)) (ones_are lengths))

    -- With every part in BYPASS, the second scan reads one zero for each part and then the marks.
    counts_read : sum (ir_lengths parts) ≤ sum lengths →
        counts_pass ≡ scan_passes count_part (replicate (length parts) false ++ (marks ++ zeros))
    counts_read few =
        let bypass = all_bypass few in
        let loaded : List (List Bool) = data_captured wiring f7 coded in
        let scan = long_data_transport wiring count_part f7 coded (selecting_by coded code_scan.idle bypass) some_counts in
        scan.compares
        ∙ scan_passes_take count_part (joined loaded ++ tdi_bits count_part)
        ∙ ap (λ (r : List Bool). scan_passes count_part (joined loaded ++ r))
        (tdi_bits-compared (marks ++ zeros) (zeros ++ marks) same_size)
        ∙ ap (λ (r : List Bool). scan_passes count_part (r ++ (marks ++ zeros)))
        (loads_zeros coded (bits_at_pins wiring (f7 2) coded) (f7 2).parts bypass ∙ ap (λ (n : ℕ). replicate n false) coded_count)

    codes_read : ir_lengths parts ≡ lengths → codes_pass ≡ true
    codes_read e =
        let fits : map length (ones lengths) ≡ map length (ir_registers headed) = lengths-ones lengths ∙ sym e ∙ sym headed_sizes in
        let room : AllRoom (ir_sizes headed) = subst AllRoom (sym (headed_sizes ∙ e)) (room_by lengths are.wide) in
        let size : length (joined captured) ≡ length code_part = captured_size ∙ ap (λ (l : List ℕ). sum l) e ∙ sym code_size in
        code_scan.compares
        ∙ ap (λ (r : List Bool). scan_passes code_part r) (take_front (length code_part) (joined captured) (tdi_bits code_part) size)
        ∙ instructs_pass (ones lengths) headed (f6 3).parts fits room

  passes : (wiring : Wiring) (parts : List TestLogic) → ir_lengths parts ≡ lengths →
      PassesOn wiring parts (test_clocks (chain_scans lengths))
  passes wiring parts e chain choices start =
      let few : sum (ir_lengths parts) ≤ sum lengths = omega (arith, ap (λ (l : List ℕ). sum l) e) in
      let same : length parts ≡ length lengths = sym (length-map parts (λ p. p.ir_length)) ∙ ap (λ (l : List ℕ). length l) e in
      both_decide wiring parts chain choices start
      ∙ and_from (codes_pass wiring parts chain choices start) (counts_pass wiring parts chain choices start)
      (codes_read wiring parts chain choices start e)
      (counts_read wiring parts chain choices start few
      ∙ ap (λ (n : ℕ). scan_passes count_part (replicate n false ++ (marks ++ zeros))) same
      ∙ ap (λ (r : List Bool). scan_passes count_part r) (sym (append_assoc zeros marks zeros))
      ∙ compared_passes (marks ++ zeros) (zeros ++ marks) zeros (omega (arith, same_size)))

  fails : (wiring : Wiring) (parts : List TestLogic) → length parts ≢ length lengths → sum (ir_lengths parts) ≤ sum lengths →
      FailsOn wiring parts (test_clocks (chain_scans lengths))
  fails wiring parts other few chain choices start =
      both_decide wiring parts chain choices start
      ∙ and_right (codes_pass wiring parts chain choices start) (counts_pass wiring parts chain choices start)
      (counts_read wiring parts chain choices start few
      ∙ count_fails (marks ++ zeros) (length lengths) (length parts) zeros (λ e. other (sym e)) (omega (arith, same_size)))

pub chain_test : (lengths : List ℕ) → AreIrLengths lengths → sum lengths ≤ 65535 → IsChainTest lengths (chain_text lengths)
chain_test lengths are most = record {
  clocks = test_clocks (chain_scans lengths);
  means = text_means (chain_scans lengths) (sized lengths are most);
  passes = passes lengths are most;
  fails = λ wiring parts wide other few. fails lengths are most wiring parts other few;
}
