-- The bits that a data scan captures on a board depend only on the row in the latches, the faults and the
-- free bits.
use Rattle.std.proofs.Common.{◌≡◌, ◌↔◌, ℕ, suc, ◌<◌, Bool, true, false, cond, ◌&&◌, ◌||◌, List, [], ◌∷◌, ◌++◌, length, map, replicate, Option, Some, None, refl, sym, ◌∙◌, ap, subst, arith, append_assoc}
use Rattle.std.specs.Prelude.{is_some}
use Rattle.std.proofs.lemmas.Bool.{and_parts, and_from}
use Rattle.std.proofs.lemmas.List.{length-map, length-replicate, nil_from_length}
use Rattle.board_defs.specs.declared.board.PartKind.{PartKind}
use Rattle.board_defs.specs.declared.board.PartKind.TheVariants.{Described, Bypass as WithoutDescription}
use Rattle.board_defs.specs.declared.board.Part.{Part}
use Rattle.board_defs.specs.declared.board.RawBoard.{RawBoard}
use Rattle.board_defs.specs.BoardRules.{IsBoard}
use Rattle.tap_defs.specs.declared.tap.TapState.TheVariants.{RunTestIdle}
use Rattle.tap_defs.specs.chain.TestLogic.{TestLogic, Instruction, Extest, Bypass}
use Rattle.tap_defs.specs.chain.ShiftRegister.{filled}
use Rattle.tap_defs.specs.chain.Part.{PartState, PinState, IsStateOf}
use Rattle.tap_defs.specs.chain.Chain.{ChainPart, pin_states, logics, AllAreStates}
use Rattle.tap_defs.specs.chain.ChainRegisters.{selected_by, held_bits, all_held}
use Rattle.tap_defs.specs.chain.Run.{Clock, Choice, Choices, Wiring, choices_after, clock_after, later, run, tdos, run_passes, bit_passes}
use Rattle.tap_defs.specs.chain.Scan.{ScanBit, Scan, tdi_bits, joined, compares}
use Rattle.tap_defs.specs.chain.Clocks.{plain, shift_clocks, sdr_clocks, sir_clocks, all_clocks, head_clocks, test_clocks, scan_clocks}
use Rattle.tap_defs.specs.chain.Transport.{scan_passes}
use Rattle.tap_defs.specs.board.FaultSet.{FaultSet}
use Rattle.tap_defs.specs.board.OnBoard.{test_logic, board_wiring, board_logics, IsBoardChain, PassOnBoard}
use Rattle.tap_defs.specs.board.TestRows.{TestRow, quiet_row, row_bit, expect_bit}
use Rattle.tap_defs.specs.chain.Codes.{code_bits, instructs}
use Rattle.tap_defs.specs.board.BoardScans.{RowScan, part_bits, bits_by_part, row_bits, scan_of_row, first_row_scan, board_scans, preload_code, extest_code}
use Rattle.tap_defs.specs.board.Explaining.{uncompared, bits_by_log, is_compared, scans_by_log}
use Rattle.tap_defs.specs.board.RowCaptures.{shown_by_part, shown_by_parts, row_states, registers, row_captured, CapturesPass}
use Rattle.tap_defs.proofs.chain.ListLemmas.{cons_path, map-filled}
use Rattle.tap_defs.proofs.board.InTestLemmas.{in_test, InTest, shifted_row}
use Rattle.tap_defs.proofs.chain.RunLemmas.{two_pass, run-append}
use Rattle.tap_defs.proofs.board.RowScanLemmas.{row_scan_by}
use Rattle.tap_defs.proofs.board.EntryLemmas.{stays_of, row_scan_some, AllSilent, quiet_silent, entered, f3, scan2, in_test_after}
use Rattle.tap_defs.proofs.chain.HeadLemmas.{scans_decide}

part_shows : (board : RawBoard) (t : RowScan) (k : ℕ) (kind : PartKind) (logic : TestLogic) (s : PartState) → logic ≡ test_logic kind →
    IsStateOf logic s →
    s.current ≡ in_test kind → held_bits s ≡ tdi_bits (part_bits board t k kind)
    → record { current = s.current; latches = s.latches } ≡ shown_by_part board t.now k kind
part_shows board t k (Described device) logic s l h c e =
    let latches : s.latches ≡ filled device.boundary (λ cell. row_bit board t.now k device cell) =
    sym (ap (λ (i : Instruction). selected_by i s.latches s.bypass s.identification) c) ∙ e
    ∙ map-filled (λ (b : ScanBit). b.tdi) device.boundary
    (λ cell. record {
      tdi = row_bit board t.now k device cell;
      expect = expect_bit board t.before k device
          cell;
    }) in
    ap (λ (i : Instruction). record { current = i; latches = s.latches }) c
    ∙ ap (λ (r : List Bool). record { current = Extest; latches = r }) latches
part_shows board t k (WithoutDescription n) logic s l h c e =
    ap (λ (i : Instruction). record { current = i; latches = s.latches }) c
    ∙ ap (λ (r : List Bool). record { current = Bypass; latches = r })
    (nil_from_length s.latches (h.latches ∙ ap (λ (x : TestLogic). x.boundary_length) l))

parts_show : (board : RawBoard) (t : RowScan) (k : ℕ) (ps : List Part) (chain : List ChainPart) →
    logics chain ≡ map (λ p. test_logic p.kind) ps → AllAreStates chain →
    map (λ p. p.state.current) chain ≡ map (λ p. in_test p.kind) ps
    → all_held chain ≡ map tdi_bits (bits_by_part board t k ps)
    → pin_states chain ≡ shown_by_parts board t.now k ps
parts_show board t k [] [] l h c e = refl
parts_show board t k [] (n ∷ chain) l h c e = cc l
parts_show board t k (p ∷ ps) [] l h c e = cc l
parts_show board t k (p ∷ ps) (n ∷ chain) l h c e =
    let l0 : n.logic ≡ test_logic p.kind = cc l in
    let l1 : logics chain ≡ map (λ p. test_logic p.kind) ps = cc l in
    let c0 : n.state.current ≡ in_test p.kind = cc c in
    let c1 : map (λ p. p.state.current) chain ≡ map (λ p. in_test p.kind) ps = cc c in
    let e0 : held_bits n.state ≡ tdi_bits (part_bits board t k p.kind) = cc e in
    let e1 : all_held chain ≡ map tdi_bits (bits_by_part board t (suc k) ps) = cc e in
    cons_path (part_shows board t k p.kind n.logic n.state l0 h.0 c0 e0) (parts_show board t (suc k) ps chain l1 h.1 c1 e1)

pub row_shown : (board : RawBoard) (t : RowScan) (chain : List ChainPart) → IsBoardChain board chain →
    InTest board (shifted_row board t) chain → pin_states chain ≡ row_states board t.now
row_shown board t chain start h = parts_show board t 0 board.chain chain h.logics_are start.states_are h.currents h.stays

-- the second list consists of data scans that shift in the rows of the first list; they may compare anything
abbrev pub ShiftRows : RawBoard → List RowScan → List Scan → Type 0
ShiftRows board [] [] = Unit {0}
ShiftRows board [] (s ∷ scans) = ⊥
ShiftRows board (t ∷ ts) [] = ⊥
ShiftRows board (t ∷ ts) (s ∷ scans) = (s.ir ≡ false) × (tdi_bits s.bits ≡ tdi_bits (joined (row_bits board t))) × ShiftRows board ts scans

module _ (board : RawBoard) (rules : IsBoard board) (faults : FaultSet) where
  abbrev around : Wiring
  around = board_wiring board faults

  bits_some : (t : RowScan) (bits : List ScanBit) → tdi_bits bits ≡ tdi_bits (joined (row_bits board t)) → 0 < length bits
  bits_some t bits e =
      omega (
        arith,
        length-map bits (λ (b : ScanBit). b.tdi),
        ap (λ (r : List Bool). length r) e,
        length-map (joined (row_bits board t)) (λ (b : ScanBit). b.tdi),
        row_scan_some board rules t,
      )

  abbrev Held : TestRow → TestRow → List ChainPart → Type 0
  Held row before chain = IsBoardChain board chain × InTest board (shifted_row board (record { now = row; before = before })) chain

  -- The effect of one scan that begins while `row` is in the latches. The scan passes if and only if the bits that the
  -- board captures for `row` are the expected ones. Afterwards the row that the scan shifted in is in the latches.
  record Scanned (t : RowScan) (row : TestRow) (scan : Scan) (free : Choices) (chain : List ChainPart) : Type 0 where
    compares : run_passes (scan_clocks scan) (tdos around (scan_clocks scan) free chain)
        ≡ scan_passes scan.bits (row_captured board faults row (free 2))
    held : Held t.now t.before (run around (scan_clocks scan) free chain)

  scanned : (t : RowScan) (row before : TestRow) (scan : Scan) (free : Choices) (chain : List ChainPart) → Held row before chain →
      scan.ir ≡ false →
      tdi_bits scan.bits ≡ tdi_bits (joined (row_bits board t)) → Scanned t row scan free chain
  scanned t row before scan free chain h is_sdr shifts = subst (λ (s : Scan). Scanned t row s free chain) same here
    where
      same : record { ir = false; bits = scan.bits } ≡ scan
      same = ap (λ (b : Bool). record { ir = b; bits = scan.bits }) (sym is_sdr)

      here : Scanned t row (record { ir = false; bits = scan.bits }) free chain
      here =
          let d = row_scan_by board faults t scan.bits shifts free
          (shifted_row board (record { now = row; before = before })) chain h.1
          (bits_some t scan.bits shifts) in
          record {
            compares =
                d.compares
                ∙ ap
                (λ (s : List PinState). scan_passes scan.bits
                (joined (registers (around s (free 2)) board.chain)))
                (row_shown board (record { now = row; before = before }) chain h.0 h.1);
            held = (stays_of board rules faults (sdr_clocks scan.bits) free chain h.0, d.in_test);
          }

  pub run_follows : (ts : List RowScan) (scans : List Scan) (row before : TestRow) (free : Choices) (chain : List ChainPart) →
      Held row before chain → ShiftRows board ts scans →
      CapturesPass board faults row ts scans → run_passes (all_clocks scans) (tdos around (all_clocks scans) free chain) ≡ true
  run_follows [] [] row before free chain h shifts ok = refl
  run_follows [] (s ∷ scans) row before free chain h shifts ok = absurd shifts
  run_follows (t ∷ ts) [] row before free chain h shifts ok = absurd shifts
  run_follows (t ∷ ts) (s ∷ scans) row before free chain h shifts ok =
      let first : List Clock = scan_clocks s in
      let next : List ChainPart = run around first free chain in
      let e : Scanned t row s free chain = scanned t row before s free chain h shifts.0 shifts.1 in
      two_pass around first (all_clocks scans) free chain
      ∙ and_from (run_passes first (tdos around first free chain))
      (run_passes (all_clocks scans)
      (tdos around (all_clocks scans) (choices_after first free) next))
      (e.compares ∙ ok.0 (free 2))
      (run_follows ts scans t.now t.before (choices_after first free) next e.held shifts.2 ok.1)

  -- the choices of a run in which every cycle has this choice
  abbrev always : Choice → Choices
  always choice = λ k. choice

  always_after : (choice : Choice) (cs : List Clock) → choices_after cs (always choice) ≡ always choice
  always_after choice [] = refl
  always_after choice (c ∷ cs) = always_after choice cs

  -- like `CapturesPass`, but for only one choice of the free bits
  abbrev pub CapturesPassBy : Choice → TestRow → List RowScan → List Scan → Type 0
  CapturesPassBy choice row [] scans = Unit {0}
  CapturesPassBy choice row (t ∷ ts) [] = Unit {0}
  CapturesPassBy choice row (t ∷ ts) (s ∷ scans) =
      (scan_passes s.bits (row_captured board faults row choice) ≡ true)
      × CapturesPassBy choice t.now ts scans

  pub captures_follow : (choice : Choice) (ts : List RowScan) (scans : List Scan) (row before : TestRow) (chain : List ChainPart) →
      Held row before chain → ShiftRows board ts scans →
      run_passes (all_clocks scans) (tdos around (all_clocks scans) (always choice) chain) ≡ true → CapturesPassBy choice row ts scans
  captures_follow choice [] scans row before chain h shifts ok = tt
  captures_follow choice (t ∷ ts) [] row before chain h shifts ok = tt
  captures_follow choice (t ∷ ts) (s ∷ scans) row before chain h shifts ok =
      let first : List Clock = scan_clocks s in
      let next : List ChainPart = run around first (always choice) chain in
      let e : Scanned t row s (always choice) chain = scanned t row before s (always choice) chain h shifts.0 shifts.1 in
      let both =
      and_parts (run_passes first (tdos around first (always choice) chain))
      (run_passes (all_clocks scans)
      (tdos around (all_clocks scans) (choices_after first (always choice)) next))
      (sym (two_pass around first (all_clocks scans) (always choice) chain) ∙ ok) in
      let rest : run_passes (all_clocks scans) (tdos around (all_clocks scans) (always choice) next) ≡ true =
      sym
      (ap
      (λ (f : Choices). run_passes (all_clocks scans)
      (tdos around (all_clocks scans) f next)) (always_after choice first)) ∙ both.1 in
      (sym e.compares ∙ both.0, captures_follow choice ts scans t.now t.before next e.held shifts.2 rest)

  pub with_any : (ts : List RowScan) (scans : List Scan) (row : TestRow) → ((choice : Choice) → CapturesPassBy choice row ts scans) →
      CapturesPass board faults row ts scans
  with_any [] scans row h = tt
  with_any (t ∷ ts) [] row h = tt
  with_any (t ∷ ts) (s ∷ scans) row h = ((λ choice. (h choice).0), with_any ts scans t.now (λ choice. (h choice).1))

-- the two lists of clocks differ at most in what they compare
abbrev pub Alike : List Clock → List Clock → Type 0
Alike [] [] = Unit {0}
Alike [] (d ∷ ds) = ⊥
Alike (c ∷ cs) [] = ⊥
Alike (c ∷ cs) (d ∷ ds) = (c.tms ≡ d.tms) × (c.tdi ≡ d.tdi) × Alike cs ds

run_alike : (wiring : Wiring) (cs ds : List Clock) (free : Choices) (chain : List ChainPart) → Alike cs ds →
    run wiring cs free chain ≡ run wiring ds free chain
unfolding run
run_alike wiring [] [] free chain h = refl
run_alike wiring [] (d ∷ ds) free chain h = absurd h
run_alike wiring (c ∷ cs) [] free chain h = absurd h
run_alike wiring (c ∷ cs) (d ∷ ds) free chain h =
    run_alike wiring cs ds (later free) (clock_after wiring c (free 0) chain) h.2
    ∙ ap (λ (m : List ChainPart). run wiring ds (later free) m) (after_same c d h.0 h.1)
  where
    after_same : (c d : Clock) → c.tms ≡ d.tms → c.tdi ≡ d.tdi → clock_after wiring c (free 0) chain ≡ clock_after wiring d (free 0) chain
    after_same c d p q =
        ap (λ (b : Bool). clock_after wiring (record { tms = b; tdi = c.tdi; expect = None }) (free 0) chain) p
        ∙ ap (λ (o : Option Bool). clock_after wiring (record { tms = d.tms; tdi = o; expect = None }) (free 0) chain) q

after_alike : (cs ds : List Clock) (free : Choices) → Alike cs ds → choices_after cs free ≡ choices_after ds free
after_alike [] [] free h = refl
after_alike [] (d ∷ ds) free h = absurd h
after_alike (c ∷ cs) [] free h = absurd h
after_alike (c ∷ cs) (d ∷ ds) free h = after_alike cs ds (later free) h.2

alike_self : (cs : List Clock) → Alike cs cs
alike_self [] = tt
alike_self (c ∷ cs) = (refl, refl, alike_self cs)

alike_append : (xs ys cs ds : List Clock) → Alike xs ys → Alike cs ds → Alike (xs ++ cs) (ys ++ ds)
alike_append [] [] cs ds h k = k
alike_append [] (y ∷ ys) cs ds h k = absurd h
alike_append (x ∷ xs) [] cs ds h k = absurd h
alike_append (x ∷ xs) (y ∷ ys) cs ds h k = (h.0, h.1, alike_append xs ys cs ds h.2 k)

shifts_alike : (xs ys : List ScanBit) → tdi_bits xs ≡ tdi_bits ys → Alike (shift_clocks xs) (shift_clocks ys)
shifts_alike [] [] e = tt
shifts_alike [] (y ∷ ys) e = cc e
shifts_alike (x ∷ xs) [] e = cc e
shifts_alike (x ∷ []) (y ∷ []) e = let z : x.tdi ≡ y.tdi = cc e in (refl, ap (λ (b : Bool). Some b) z, tt)
shifts_alike (x ∷ []) (y ∷ w ∷ ys) e = cc e
shifts_alike (x ∷ v ∷ xs) (y ∷ []) e = cc e
shifts_alike (x ∷ v ∷ xs) (y ∷ w ∷ ys) e =
    let z : x.tdi ≡ y.tdi = cc e in
    let rest : tdi_bits (v ∷ xs) ≡ tdi_bits (w ∷ ys) = cc e in
    (refl, ap (λ (b : Bool). Some b) z, shifts_alike (v ∷ xs) (w ∷ ys) rest)

sdr_alike : (xs ys : List ScanBit) → tdi_bits xs ≡ tdi_bits ys → Alike (sdr_clocks xs) (sdr_clocks ys)
sdr_alike xs ys e = (
  refl,
  refl,
  (
    refl,
    refl,
    (
      refl,
      refl,
      alike_append (shift_clocks xs) (shift_clocks ys) (plain true ∷ plain false ∷ [])
          (plain true ∷ plain false ∷ []) (shifts_alike xs ys e)
          (alike_self (plain true ∷ plain false ∷ [])),
    ),
  ),
)

sir_alike : (xs ys : List ScanBit) → tdi_bits xs ≡ tdi_bits ys → Alike (sir_clocks xs) (sir_clocks ys)
sir_alike xs ys e = (
  refl,
  refl,
  (
    refl,
    refl,
    (
      refl,
      refl,
      (
        refl,
        refl,
        alike_append (shift_clocks xs) (shift_clocks ys)
            (plain true ∷ plain false ∷ []) (plain true ∷ plain false ∷ [])
            (shifts_alike xs ys e) (alike_self (plain true ∷ plain false ∷ [])),
      ),
    ),
  ),
)

after-append : (xs ys : List Clock) (free : Choices) → choices_after (xs ++ ys) free ≡ choices_after ys (choices_after xs free)
after-append [] ys free = refl
after-append (x ∷ xs) ys free = after-append xs ys (later free)

-- the clocks compare nothing
abbrev Silent : List Clock → Type 0
Silent [] = Unit {0}
Silent (c ∷ cs) = (c.expect ≡ None) × Silent cs

silent_run : (cs : List Clock) (out : List Bool) → Silent cs → run_passes cs out ≡ true
silent_run [] out h = refl
silent_run (c ∷ cs) [] h = refl
silent_run (c ∷ cs) (o ∷ out) h = ap (λ (e : Option Bool). bit_passes e o && run_passes cs out) h.0 ∙ silent_run cs out h.1

silent_append : (xs ys : List Clock) → Silent xs → Silent ys → Silent (xs ++ ys)
silent_append [] ys h k = k
silent_append (x ∷ xs) ys h k = (h.0, silent_append xs ys h.1 k)

silent_shifts : (bits : List ScanBit) → Silent (shift_clocks (uncompared bits))
silent_shifts [] = tt
silent_shifts (b ∷ []) = (refl, tt)
silent_shifts (b ∷ c ∷ bits) = (refl, silent_shifts (c ∷ bits))

silent_sdr : (bits : List ScanBit) → Silent (sdr_clocks (uncompared bits))
silent_sdr bits = (
  refl,
  (
    refl,
    (
      refl,
      silent_append (shift_clocks (uncompared bits)) (plain true ∷ plain false ∷ [])
          (silent_shifts bits) (refl, (refl, tt)),
    ),
  ),
)

silent_sir : (bits : List ScanBit) → Silent (sir_clocks (uncompared bits))
silent_sir bits = (
  refl,
  (
    refl,
    (
      refl,
      (
        refl,
        silent_append (shift_clocks (uncompared bits)) (plain true ∷ plain false ∷ [])
            (silent_shifts bits) (refl, (refl, tt)),
      ),
    ),
  ),
)

tdi_bits-uncompared : (bits : List ScanBit) → tdi_bits (uncompared bits) ≡ tdi_bits bits
tdi_bits-uncompared [] = refl
tdi_bits-uncompared (b ∷ bits) = cons_path refl (tdi_bits-uncompared bits)

tdi_bits-bits_by_log : (bits : List ScanBit) (row : List Bool) → tdi_bits (bits_by_log bits row) ≡ tdi_bits bits
tdi_bits-bits_by_log [] row = refl
tdi_bits-bits_by_log (b ∷ bits) [] = tdi_bits-uncompared (b ∷ bits)
tdi_bits-bits_by_log (b ∷ bits) (r ∷ row) = cons_path refl (tdi_bits-bits_by_log bits row)

-- an SIR statement, or a statement that compares nothing, uses no row of the log
skipped : (s : Scan) (scans : List Scan) (log : List (List Bool)) → is_compared s ≡ false →
    scans_by_log (s ∷ scans) log ≡ record { ir = s.ir; bits = uncompared s.bits } ∷ scans_by_log scans log
skipped s scans [] e = refl
skipped s scans (row ∷ log) e =
    ap
    (λ (b : Bool). cond b
    (record { ir = s.ir; bits = bits_by_log s.bits row } ∷ scans_by_log scans log)
    (record { ir = s.ir; bits = uncompared s.bits } ∷ scans_by_log scans (row ∷ log))) e

-- the scans shift in the same rows if their expected bits come from a log
log_shifts : (board : RawBoard) (ts : List RowScan) (log : List (List Bool)) →
    ShiftRows board ts (scans_by_log (map (scan_of_row board) ts) log)
log_shifts board [] log = tt
log_shifts board (t ∷ ts) [] = (refl, tdi_bits-uncompared (joined (row_bits board t)), log_shifts board ts [])
log_shifts board (t ∷ ts) (row ∷ log) = by_test (log_shifts board ts) (compares (joined (row_bits board t)))
  where
    by_test : ((more : List (List Bool)) → ShiftRows board ts (scans_by_log (map (scan_of_row board) ts) more)) → (b : Bool) →
        ShiftRows board (t ∷ ts)
        (cond b
        (record { ir = false; bits = bits_by_log (joined (row_bits board t)) row } ∷
        scans_by_log (map (scan_of_row board) ts) log)
        (record { ir = false; bits = uncompared (joined (row_bits board t)) } ∷ scans_by_log (map (scan_of_row board) ts) (row ∷ log)))
    by_test rest true = (refl, tdi_bits-bits_by_log (joined (row_bits board t)) row, rest log)
    by_test rest false = (refl, tdi_bits-uncompared (joined (row_bits board t)), rest (row ∷ log))

pub silent_compares : (bits : List ScanBit) → AllSilent bits → compares bits ≡ false
silent_compares [] h = refl
silent_compares (b ∷ bits) h = ap (λ (o : Option Bool). is_some o || compares bits) h.0 ∙ silent_compares bits h.1

-- a state of a part with this test logic, in which all registers and latches are 0
abbrev some_state : TestLogic → PartState
some_state logic = record {
  tap = RunTestIdle;
  ir = replicate logic.ir_length false;
  current = Bypass;
  boundary = replicate logic.boundary_length false;
  bypass = false;
  identification = replicate (length logic.idcode) false;
  latches = replicate logic.boundary_length false;
}

abbrev pub some_chain : List TestLogic → List ChainPart
some_chain parts = map (λ logic. record { logic = logic; state = some_state logic }) parts

pub some_start : (board : RawBoard) → IsBoardChain board (some_chain (board_logics board))
some_start board = record { logics_are = same (board_logics board); states_are = states (board_logics board) }
  where
    same : (parts : List TestLogic) → logics (some_chain parts) ≡ parts
    same [] = refl
    same (logic ∷ parts) = cons_path refl (same parts)

    states : (parts : List TestLogic) → AllAreStates (some_chain parts)
    states [] = tt
    states (logic ∷ parts) = (
      record {
        ir = length-replicate logic.ir_length false;
        boundary = length-replicate logic.boundary_length false;
        identification = length-replicate (length logic.idcode) false;
        latches = length-replicate logic.boundary_length false;
      },
      states parts,
    )

-- The head of a test and its first three scans. If the expected bits come from a log, these scans compare
-- nothing. After them, the described parts have EXTEST.
module _ (board : RawBoard) (rules : IsBoard board) (faults : FaultSet) (ts : List RowScan) (log : List (List Bool)) where
  abbrev env : Wiring
  env = board_wiring board faults

  abbrev preload : List ScanBit
  preload = joined (map code_bits (map (λ p. preload_code p.kind) board.chain))

  abbrev quiet : List ScanBit
  quiet = joined (row_bits board first_row_scan)

  abbrev extest : List ScanBit
  extest = joined (map code_bits (map (λ p. extest_code p.kind) board.chain))

  abbrev compared : List Scan
  compared = scans_by_log (map (scan_of_row board) ts) log

  abbrev silent_head : List Clock
  silent_head = sir_clocks (uncompared preload) ++ (sdr_clocks (uncompared quiet) ++ sir_clocks (uncompared extest))

  abbrev head : List Clock
  head = sir_clocks preload ++ (sdr_clocks quiet ++ sir_clocks extest)

  is_silent : Silent silent_head
  is_silent =
      silent_append (sir_clocks (uncompared preload)) (sdr_clocks (uncompared quiet) ++ sir_clocks (uncompared extest)) (silent_sir preload)
      (silent_append (sdr_clocks (uncompared quiet)) (sir_clocks (uncompared extest)) (silent_sdr quiet) (silent_sir extest))

  is_alike : Alike silent_head head
  is_alike =
      alike_append (sir_clocks (uncompared preload)) (sir_clocks preload)
      (sdr_clocks (uncompared quiet) ++ sir_clocks (uncompared extest))
      (sdr_clocks quiet ++ sir_clocks extest)
      (sir_alike (uncompared preload) preload (tdi_bits-uncompared preload))
      (alike_append (sdr_clocks (uncompared quiet)) (sdr_clocks quiet) (sir_clocks (uncompared extest)) (sir_clocks extest)
      (sdr_alike (uncompared quiet) quiet (tdi_bits-uncompared quiet))
      (sir_alike (uncompared extest) extest (tdi_bits-uncompared extest)))

  scans_are : scans_by_log (board_scans board ts) log
      ≡ record { ir = true; bits = uncompared preload }
      ∷ record { ir = false; bits = uncompared quiet }
      ∷ record { ir = true; bits = uncompared extest } ∷ compared
  scans_are =
      skipped (instructs (map (λ p. preload_code p.kind) board.chain))
      (scan_of_row board first_row_scan ∷ instructs (map (λ p. extest_code p.kind) board.chain)
      ∷ map (scan_of_row board) ts) log refl
      ∙ cons_path refl
      (skipped (scan_of_row board first_row_scan) (instructs (map (λ p. extest_code p.kind) board.chain) ∷ map (scan_of_row board) ts) log
      (silent_compares quiet (quiet_silent board quiet_row 0 board.chain))
      ∙ cons_path refl (skipped (instructs (map (λ p. extest_code p.kind) board.chain)) (map (scan_of_row board) ts) log refl))

  clocks_are : all_clocks (scans_by_log (board_scans board ts) log) ≡ silent_head ++ all_clocks compared
  clocks_are =
      let c0 : List Clock = sir_clocks (uncompared preload) in
      let c1 : List Clock = sdr_clocks (uncompared quiet) in
      let c2 : List Clock = sir_clocks (uncompared extest) in
      ap (λ (l : List Scan). all_clocks l) scans_are
      ∙ ap (λ (l : List Clock). c0 ++ l) (sym (append_assoc c1 c2 (all_clocks compared)))
      ∙ sym (append_assoc c0 (c1 ++ c2) (all_clocks compared))

  module _ (chain : List ChainPart) (free : Choices) (start : IsBoardChain board chain) where
    abbrev under_extest : List ChainPart
    under_extest = entered board rules faults chain free start

    abbrev left : Choices
    left = f3 board rules faults chain free start

    head_run : run env silent_head (choices_after head_clocks free) (run env head_clocks free chain) ≡ under_extest
    head_run =
        let f : Choices = choices_after head_clocks free in
        let m : List ChainPart = run env head_clocks free chain in
        run_alike env silent_head head f m is_alike
        ∙ run-append env (sir_clocks preload) (sdr_clocks quiet ++ sir_clocks extest) f m
        ∙ run-append env (sdr_clocks quiet) (sir_clocks extest) (choices_after (sir_clocks preload) f) (run env (sir_clocks preload) f m)

    head_left : choices_after silent_head (choices_after head_clocks free) ≡ left
    head_left =
        let f : Choices = choices_after head_clocks free in
        after_alike silent_head head f is_alike
        ∙ after-append (sir_clocks preload) (sdr_clocks quiet ++ sir_clocks extest) f
        ∙ after-append (sdr_clocks quiet) (sir_clocks extest) (choices_after (sir_clocks preload) f)

    -- A run agrees with the log if and only if its data scans after the EXTEST codes agree with the log.
    pub log_decides : run_passes (test_clocks (scans_by_log (board_scans board ts) log))
        (tdos env (test_clocks (scans_by_log (board_scans board ts) log)) free chain)
        ≡ run_passes (all_clocks compared) (tdos env (all_clocks compared) left under_extest)
    log_decides =
        let f : Choices = choices_after head_clocks free in
        let m : List ChainPart = run env head_clocks free chain in
        let rest : List Clock = all_clocks compared in
        scans_decide env (scans_by_log (board_scans board ts) log) free chain
        ∙ ap (λ (c : List Clock). run_passes c (tdos env c f m)) clocks_are
        ∙ two_pass env silent_head rest f m
        ∙ ap
        (λ (b : Bool). b
        && run_passes rest
        (tdos env rest (choices_after silent_head f) (run env silent_head f m)))
        (silent_run silent_head (tdos env silent_head f m) is_silent)
        ∙ ap (λ (g : Choices). run_passes rest (tdos env rest g (run env silent_head f m))) head_left
        ∙ ap (λ (n : List ChainPart). run_passes rest (tdos env rest left n)) head_run

    pub in_extest_held : IsBoardChain board under_extest
        × InTest board (shifted_row board (record { now = quiet_row; before = quiet_row }))
        under_extest
    in_extest_held = ((scan2 board rules faults chain free start).is_start, in_test_after board rules faults chain free start)

  log_by_captures : CapturesPass board faults quiet_row ts compared →
      PassOnBoard board faults (test_clocks (scans_by_log (board_scans board ts) log))
  log_by_captures ok chain free start =
      log_decides chain free start
      ∙ run_follows board rules faults ts compared quiet_row quiet_row (left chain free start)
      (under_extest chain free start) (in_extest_held chain free start)
      (log_shifts board ts log) ok

  pub left_always : (choice : Choice) (chain : List ChainPart) (start : IsBoardChain board chain) →
      left chain (λ k. choice) start ≡ (λ k. choice)
  left_always choice chain start =
      let free : Choices = λ k. choice in
      ap
      (λ (f : Choices). choices_after (sir_clocks extest)
      (choices_after (sdr_clocks quiet) (choices_after (sir_clocks preload) f)))
      (always_after board rules faults choice head_clocks)
      ∙ ap (λ (f : Choices). choices_after (sir_clocks extest) (choices_after (sdr_clocks quiet) f))
      (always_after board rules faults choice (sir_clocks preload))
      ∙ ap (λ (f : Choices). choices_after (sir_clocks extest) f) (always_after board rules faults choice (sdr_clocks quiet))
      ∙ always_after board rules faults choice (sir_clocks extest)

  captures_by_log : PassOnBoard board faults (test_clocks (scans_by_log (board_scans board ts) log)) →
      CapturesPass board faults quiet_row ts compared
  captures_by_log passes = with_any board rules faults ts compared quiet_row by_choice
    where
      by_choice : (choice : Choice) → CapturesPassBy board rules faults choice quiet_row ts compared
      by_choice choice =
          let free : Choices = λ k. choice in
          let chain : List ChainPart = some_chain (board_logics board) in
          let start = some_start board in
          let run_ok = sym (log_decides chain free start) ∙ passes chain free start in
          let ends : left chain free start ≡ free = left_always choice chain start in
          captures_follow board rules faults choice ts compared quiet_row quiet_row
          (under_extest chain free start) (in_extest_held chain free start)
          (log_shifts board ts log)
          (sym
          (ap
          (λ (g : Choices). run_passes (all_clocks compared)
          (tdos env (all_clocks compared) g (under_extest chain free start))) ends) ∙ run_ok)

  pub log_captured : PassOnBoard board faults
      (test_clocks (scans_by_log (board_scans board ts) log))
      ↔ CapturesPass board faults quiet_row ts compared
  log_captured = (captures_by_log, log_by_captures)
