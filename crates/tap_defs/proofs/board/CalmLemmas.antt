-- Proof that the text of safe passes keeps the board quiet: drivers never conflict, and unused cells keep their safe
-- values.
use Rattle.std.specs.Prelude.{option_map, slice_get}
use Rattle.std.proofs.Common.{◌≡◌, false, ◌<◌, List, suc, ◌∷◌, ◌∙◌, ◌++◌, true, Some, None, Bool, zero, [], ℕ, Option, ◌&&◌, refl, length, arith, cond, append_assoc, subst, sym, ap, map, inl, take, drop}
use Rattle.board_defs.specs.declared.board.Net.{Net}
use Rattle.board_defs.specs.declared.device.Control.{Control}
use Rattle.board_defs.specs.declared.device.Cell.{Cell}
use Rattle.board_defs.specs.declared.board.Ctl.{Ctl}
use Rattle.board_defs.specs.declared.board.Part.{Part}
use Rattle.board_defs.specs.declared.board.RawBoard.{RawBoard}
use Rattle.board_defs.specs.declared.board.Drive.{Drive}
use Rattle.board_defs.specs.declared.board.Drive.TheVariants.{AlwaysOn}
use Rattle.board_defs.specs.declared.device.Symbol.{Symbol}
use Rattle.board_defs.specs.declared.board.NetPin.{NetPin}
use Rattle.board_defs.specs.declared.board.PartKind.TheVariants.{Described, Bypass as WithoutDescription}
use Rattle.board_defs.specs.declared.board.PartKind.{PartKind}
use Rattle.board_defs.specs.declared.board.PinAt.{PinAt}
use Rattle.board_defs.specs.Pins.{drive_where, drive, entry_at, drive_by}
use Rattle.board_defs.specs.BoardRules.{IsBoard, OneAlwaysOn}
use Rattle.board_defs.proofs.Pairwise.{safe_within}
use Rattle.tap_defs.specs.declared.tap.TapState.{TapState}
use Rattle.tap_defs.specs.declared.tap.TapState.TheVariants.{RunTestIdle, SelectIR, TestLogicReset}
use Rattle.board_defs.specs.Settings.{Enabling, IsSafe, enables, enables_where, enables_by, enables_entry}
use Rattle.tap_defs.specs.board.OnBoard.{reset_by, test_logic, IsBoardChain, board_logics, board_wiring}
use Rattle.tap_defs.specs.chain.Tap.{next_state}
use Rattle.tap_defs.specs.board.NetBits.{is_extest, is_on_by, live_where, live, live_entry, in_extest}
use Rattle.tap_defs.specs.board.BoardScans.{preload_code, extest_code, first_row_scan, board_scans, row_clocks, row_bits, RowScan, pass_scans, row_scans}
use Rattle.tap_defs.specs.chain.Chain.{ChainPart, pin_states, chain_after, logics}
use Rattle.tap_defs.specs.chain.Scan.{ScanBit, joined}
use Rattle.tap_defs.specs.chain.Clocks.{sir_clocks, sdr_clocks, reset_clocks, all_clocks, plain, test_clocks}
use Rattle.tap_defs.specs.chain.ChainRegisters.{AllIn, bits_at_pins}
use Rattle.tap_defs.specs.chain.Part.{PartState, FreeBits, PinState, part_tdo, new_state_acts, old_state_acts}
use Rattle.tap_defs.specs.chain.TestLogic.{reset_instruction, Instruction, TestLogic, Other, Bypass}
use Rattle.tap_defs.specs.board.FaultSet.{FaultSet}
use Rattle.tap_defs.specs.chain.Run.{Clock, Choices, Wiring, clock_after, later, choices_after, shown, run}
use Rattle.tap_defs.specs.board.Quiet.{StaysQuiet, IsUncontested, IsQuietMoment}
use Rattle.tap_defs.specs.board.TestRows.{TestRow, quiet_row}
use Rattle.std.proofs.lemmas.List.{append-nil}
use Rattle.std.proofs.lemmas.Bool.{both_ways}
use Rattle.tap_defs.proofs.board.NetRuleLemmas.{board_rules}
use Rattle.tap_defs.proofs.chain.MoveLemmas.{all_in}
use Rattle.tap_defs.proofs.chain.RunLemmas.{run-append}
use Rattle.tap_defs.proofs.chain.HeadLemmas.{chain_logics, run_logics, head_idles, run_resets, part_tap}
use Rattle.tap_defs.proofs.chain.InstructLemmas.{length-instructs}
use Rattle.tap_defs.proofs.board.RowScanLemmas.{row_scan_done}
use Rattle.tap_defs.proofs.board.WholeLemmas.{clocks-append}
use Rattle.tap_defs.proofs.board.EntryLemmas.{preload_bits, scan1, preloading, headed, in_test_after, sampling, entered, parts_of, scan2, codes_total, quiet_bits, scan0, extest_fits, extest_bits, row_scan_some, preload_fits, stays_of, preloaded, f0, f1, f2, f3}
use Rattle.tap_defs.proofs.board.InTestLemmas.{InTest, shifted_row}
use Rattle.tap_defs.proofs.board.QuietLemmas.{BoardRules, safely_set, uncontested, live_on, keeps_safe}
use Rattle.tap_defs.proofs.chain.TraceLemmas.{AllAre, Switches, sdr_switches, sir_switches, shown-append, taps_step, clear_run}

-- no part has the instruction Extest
abbrev pub IsOff : List PinState → Type 0
IsOff s = (k : ℕ) → in_extest s k ≡ false

abbrev pub AllOff : List ChainPart → Type 0
AllOff [] = Unit {0}
AllOff (n ∷ chain) = (is_extest n.state.current ≡ false) × AllOff chain

off_at : (chain : List ChainPart) → AllOff chain → IsOff (pin_states chain)
off_at [] h k = refl
off_at (n ∷ chain) h zero = h.0
off_at (n ∷ chain) h (suc k) = off_at chain h.1 k

off_live : (board : RawBoard) (s : List PinState) → IsOff s → (p : NetPin) → live board s p ≡ false
off_live board s off p = by_at p.at
  where
    by_entry : (at : PinAt) (o : Option Cell) → live_entry s at.part o ≡ false
    by_entry at None = refl
    by_entry at (Some cell) = ap (λ (b : Bool). b && is_on_by s at.part cell.ctl) (off at.part)

    by_at : (o : Option PinAt) → live_where board s o ≡ false
    by_at None = refl
    by_at (Some at) = by_entry at (entry_at board at)

off_quiet : (board : RawBoard) (s : List PinState) → IsOff s → IsQuietMoment board s
off_quiet board s off = (
  inl (λ k device e. off k),
  λ k cell device v e extest below controls drives value. absurd
      (both_ways (in_extest s k) (off k) extest),
)

-- only drivers that the setting enables are live
abbrev pub LiveWithin : RawBoard → Enabling → List PinState → Type 0
LiveWithin board setting s =
    (n : ℕ) (net : Net) (i : ℕ) (p : NetPin) → slice_get board.nets n ≡ Some net
    → slice_get net.pins i ≡ Some p → live board s p ≡ true → enables board setting p ≡ true

-- a quiet moment at which only drivers that the setting enables are live
pub record Moment (board : RawBoard) (setting : Enabling) (s : List PinState) : Type 0 where
  pub quiet_moment : IsQuietMoment board s
  pub within : LiveWithin board setting s

moment_off : (board : RawBoard) (setting : Enabling) (s : List PinState) → IsOff s → Moment board setting s
moment_off board setting s off =
    record {
      quiet_moment = off_quiet board s off;
      within = λ n net i p en ei on. absurd
          (both_ways (live board s p) (off_live board s off p) on);
    }

-- every control in the setting `small` is also in the setting `big`
abbrev pub Within : Enabling → Enabling → Type 0
Within small big = (c : Ctl) → small c ≡ true → big c ≡ true

enables_more : (board : RawBoard) (small big : Enabling) → Within small big → (p : NetPin) → enables board small p ≡ true →
    enables board big p ≡ true
enables_more board small big within p e = by_at p.at e
  where
    by_control : (part : ℕ) (o : Option Control) → enables_by small part o ≡ true → enables_by big part o ≡ true
    by_control part None h = refl
    by_control part (Some control) h = within (record { part = part; cell = control.cell }) h

    by_entry : (part : ℕ) (o : Option Cell) → enables_entry small part o ≡ true → enables_entry big part o ≡ true
    by_entry part None h = cc h
    by_entry part (Some cell) h = by_control part cell.ctl h

    by_at : (o : Option PinAt) → enables_where board small o ≡ true → enables_where board big o ≡ true
    by_at None h = cc h
    by_at (Some at) h = by_entry at.part (entry_at board at) h

moment_row : (board : RawBoard) (setting : Enabling) → IsSafe board setting → BoardRules board → (row before : TestRow) →
    Within row.setting setting → (chain : List ChainPart) → InTest board (shifted_row board (record { now = row; before = before })) chain →
    Moment board setting (pin_states chain)
moment_row board setting safe rules row before within chain h =
    let small : IsSafe board row.setting = safe_within board row.setting setting within safe in
    record {
      quiet_moment = (safely_set board row small rules before chain h, keeps_safe board row small rules before chain h);
      within =
          λ n net i p en ei on. enables_more board row.setting setting within p
          (live_on board row small rules before chain h n net i p en ei on);
    }

moments_apart : (board : RawBoard) (setting : Enabling) → IsSafe board setting → (now next : List PinState) → Moment board setting now →
    Moment board setting next → IsUncontested board now next
moments_apart board setting safe now next f g = uncontested board setting safe now next f.within g.within

-- the setting without controls
abbrev pub nothing : Enabling
nothing c = false

nothing_safe : (board : RawBoard) → OneAlwaysOn board → IsSafe board nothing
nothing_safe board rule = record {
  one = λ n net i j p q en ei ej ne ep eq. rule n net i j p q en ei ej ne (always_on net p ep) (always_on net q eq);
  free = λ n net i p c en ei g d. refl;
  own = λ at cell control pinned e k same s. cc s;
}
  where
    by_control : (net : Net) (at : PinAt) (cell : Cell) (o : Option Control) → enables_by nothing at.part o ≡ true →
        drive_by board net at.part cell o ≡ AlwaysOn
    by_control net at cell None h = refl
    by_control net at cell (Some control) h = cc h

    by_entry : (net : Net) (at : PinAt) (o : Option Cell) → enables_entry nothing at.part o ≡ true →
        option_map (λ cell. drive_by board net at.part cell cell.ctl) o ≡ Some AlwaysOn
    by_entry net at None h = cc h
    by_entry net at (Some cell) h = ap (λ (d : Drive). Some d) (by_control net at cell cell.ctl h)

    by_at : (net : Net) (o : Option PinAt) → enables_where board nothing o ≡ true → drive_where board net o ≡ Some AlwaysOn
    by_at net None h = cc h
    by_at net (Some at) h = by_entry net at (entry_at board at) h

    always_on : (net : Net) (p : NetPin) → enables board nothing p ≡ true → drive board net p ≡ Some AlwaysOn
    always_on net p h = by_at net p.at h

-- If the board stays quiet during `rest` after these clocks, it stays quiet during the clocks and `rest`. Statements of
-- this form can be joined for clocks that follow each other.
abbrev pub StaysBy : RawBoard → Wiring → List Clock → Choices → List ChainPart → Type 0
StaysBy board wiring cs free chain =
    (rest : List (List PinState)) → StaysQuiet board (pin_states (run wiring cs free chain)) rest
    → StaysQuiet board (pin_states chain) (shown wiring cs free chain ++ rest)

stays_two : (board : RawBoard) (wiring : Wiring) (xs ys : List Clock) (free : Choices) (chain : List ChainPart) →
    StaysBy board wiring xs free chain → StaysBy board wiring ys (choices_after xs free) (run wiring xs free chain) →
    StaysBy board wiring (xs ++ ys) free chain
stays_two board wiring xs ys free chain p q rest h =
    let mid : List ChainPart = run wiring xs free chain in
    let back : StaysQuiet board (pin_states (run wiring ys (choices_after xs free) mid)) rest =
    subst (λ (m : List ChainPart). StaysQuiet board (pin_states m) rest)
    (run-append wiring xs ys free chain) h in
    let shown_all : shown wiring xs free chain
    ++ (shown wiring ys (choices_after xs free) mid ++ rest)
    ≡ shown wiring (xs ++ ys) free chain ++ rest =
    sym
    (append_assoc (shown wiring xs free chain) (shown wiring ys (choices_after xs free) mid)
    rest)
    ∙ sym (ap (λ (l : List (List PinState)). l ++ rest) (shown-append wiring xs ys free chain))
    in
    subst (λ (l : List (List PinState)). StaysQuiet board (pin_states chain) l) shown_all
    (p (shown wiring ys (choices_after xs free) mid ++ rest) (q rest back))

all_then : (board : RawBoard) (setting : Enabling) → IsSafe board setting → (now : List PinState) → Moment board setting now →
    (xs rest : List (List PinState)) → AllAre now xs → StaysQuiet board now rest → StaysQuiet board now (xs ++ rest)
all_then board setting safe now m [] rest a h = h
all_then board setting safe now m (x ∷ xs) rest a h =
    subst (λ (v : List PinState). IsQuietMoment board v × IsUncontested board now v × StaysQuiet board v (xs ++ rest)) (sym a.0)
    (m.quiet_moment, moments_apart board setting safe now now m m, all_then board setting safe now m xs rest a.1 h)

switch_then : (board : RawBoard) (setting : Enabling) → IsSafe board setting →
    (moments : List (List PinState)) (chain next : List ChainPart) → Switches moments chain next → Moment board setting (pin_states chain) →
    Moment board setting (pin_states next) → (rest : List (List PinState)) → StaysQuiet board (pin_states next) rest →
    StaysQuiet board (pin_states chain) (moments ++ rest)
switch_then board setting safe moments chain next s m k rest h =
    let a : List PinState = pin_states next in
    let regroup : s.old ++ (a ∷ a ∷ rest)
    ≡ moments
    ++ rest = sym (append_assoc s.old (a ∷ a ∷ []) rest)
    ∙ sym (ap (λ (l : List (List PinState)). l ++ rest) s.moments_are) in
    subst (λ (l : List (List PinState)). StaysQuiet board (pin_states chain) l) regroup
    (all_then board setting safe (pin_states chain) m s.old (a ∷ a ∷ rest) s.old_are (
      k.quiet_moment,
      moments_apart board setting safe (pin_states chain) a m k,
      (k.quiet_moment, moments_apart board setting safe a a k k, h),
    ))

-- A clock keeps the board quiet if the moments before and after it are quiet, and only drivers that one safe setting
-- enables are live at both moments.
step_then : (board : RawBoard) (setting : Enabling) → IsSafe board setting →
    (wiring : Wiring) (c : Clock) (free : Choices) (chain : List ChainPart) → Moment board setting (pin_states chain) →
    Moment board setting (pin_states (clock_after wiring c (free 0) chain)) → StaysBy board wiring (c ∷ []) free chain
unfolding run shown
step_then board setting safe wiring c free chain m k rest h = (
  k.quiet_moment,
  moments_apart board setting safe (pin_states chain)
      (pin_states (clock_after wiring c (free 0) chain)) m k,
  h,
)

-- in Test-Logic-Reset no part has the instruction Extest
abbrev LogicsOff : List TestLogic → Type 0
LogicsOff [] = Unit {0}
LogicsOff (f ∷ fs) = ((other : Bool) → is_extest (reset_instruction f.at_reset other) ≡ false) × LogicsOff fs

logics_off : (ps : List Part) → LogicsOff (map (λ p. test_logic p.kind) ps)
logics_off [] = tt
logics_off (p ∷ ps) = (one p.kind, logics_off ps)
  where
    by_choice : (b : Bool) → is_extest (cond b Other Bypass) ≡ false
    by_choice true = refl
    by_choice false = refl

    by_code : (o : Option (List Symbol)) → is_extest (reset_by o) ≡ false
    by_code None = refl
    by_code (Some code) = refl

    one : (kind : PartKind) (other : Bool) → is_extest (reset_instruction (test_logic kind).at_reset other) ≡ false
    one (Described device) other = by_code device.idcode
    one (WithoutDescription n) other = by_choice other

pub reset_current : (t : TapState) (i : Instruction) (logic : TestLogic) (free : FreeBits) (s : PartState) → t ≡ TestLogicReset →
    (new_state_acts t i logic free s).current ≡ reset_instruction logic.at_reset free.other
reset_current t i logic free s e =
    subst
    (λ (u : TapState). (new_state_acts u i logic free s).current
    ≡ reset_instruction logic.at_reset free.other) (sym e) refl

chain_off : (chain : List ChainPart) (pins : ℕ → List Bool) (free : ℕ → FreeBits) (tms tdi : Bool) →
    AllIn TestLogicReset (chain_after chain pins free tms tdi) → LogicsOff (logics chain) → AllOff (chain_after chain pins free tms tdi)
chain_off [] pins free tms tdi h f = tt
chain_off (n ∷ chain) pins free tms tdi h f =
    let s : PartState = n.state in
    let to_reset : next_state s.tap tms ≡ TestLogicReset = sym (part_tap n.logic (pins 0) (free 0) tms tdi s) ∙ h.0 in (
      ap is_extest
          (reset_current (next_state s.tap tms) s.current n.logic (free 0)
          (record (old_state_acts s.tap s.current n.logic (pins 0) (free 0) tdi s)
          { tap = next_state s.tap tms }) to_reset) ∙ f.0 (free 0).other,
      chain_off chain (λ k. pins (suc k)) (λ k. free (suc k)) tms (part_tdo (free 0) tdi s) h.1 f.1,
    )

preload_off : (ps : List Part) (chain : List ChainPart) → map (λ n. n.state.current) chain ≡ map (λ p. preloading p.kind) ps → AllOff chain
preload_off ps [] e = tt
preload_off [] (n ∷ chain) e = cc e
preload_off (p ∷ ps) (n ∷ chain) e =
    let hd : n.state.current ≡ preloading p.kind = cc e in
    let tl : map (λ n. n.state.current) chain ≡ map (λ p. preloading p.kind) ps = cc e in
    (ap is_extest hd ∙ one p.kind, preload_off ps chain tl)
  where
    one : (kind : PartKind) → is_extest (preloading kind) ≡ false
    one (Described device) = refl
    one (WithoutDescription m) = refl

-- the board stays quiet during `clocks`, and the quiet row is in the latches after them
pub record Stayed (board : RawBoard) (wiring : Wiring) (clocks : List Clock) (free : Choices) (chain : List ChainPart) : Type 0 where
  pub stays : StaysBy board wiring clocks free chain
  pub last : TestRow
  pub quiet : InTest board (shifted_row board (record { now = quiet_row; before = last })) (run wiring clocks free chain)

module _ (board : RawBoard) (rules : IsBoard board) (faults : FaultSet) where
  abbrev around : Wiring
  around = board_wiring board faults

  stay_then : (setting : Enabling) → IsSafe board setting →
      (t : RowScan) (ts : List RowScan) (free : Choices) (row before : TestRow) (chain : List ChainPart) → Within row.setting setting →
      Within t.now.setting setting → InTest board (shifted_row board (record { now = row; before = before })) chain →
      let first : List Clock = sdr_clocks (joined (row_bits board t)) in
      let next : List ChainPart = run around first free chain in
      (InTest board (shifted_row board t) next
      → Stayed board around (row_clocks board ts) (choices_after first free) next)
      → Stayed board around (row_clocks board (t ∷ ts)) free chain
  stay_then setting safe t ts free row before chain small within h more =
      let bits : List ScanBit = joined (row_bits board t) in
      let first : List Clock = sdr_clocks bits in
      let next : List ChainPart = run around first free chain in
      let e = row_scan_done board faults t free
      (shifted_row board (record { now = row; before = before })) chain h
      (row_scan_some board rules t) in
      let r = more e.in_test in
      let m = moment_row board setting safe (board_rules board rules) row before small chain h in
      let k = moment_row board setting safe (board_rules board rules) t.now t.before within next e.in_test in
      record {
        stays = stays_two board around first (row_clocks board ts) free chain
            (λ rest q. switch_then board setting safe (shown around first free chain) chain next
            (sdr_switches around bits free chain (all_in RunTestIdle chain h.idle)
            (row_scan_some board rules t)) m k rest q) r.stays;
        last = r.last;
        quiet =
            subst
            (λ (v : List ChainPart). InTest board
            (shifted_row board (record { now = quiet_row; before = r.last })) v)
            (sym (run-append around first (row_clocks board ts) free chain)) r.quiet;
      }

  stay_end : (free : Choices) (before : TestRow) (chain : List ChainPart) →
      InTest board (shifted_row board (record { now = quiet_row; before = before })) chain → Stayed board around [] free chain
  unfolding run shown
  stay_end free before chain h = record { stays = λ rest q. q; last = before; quiet = h }

  nothing_within : (setting : Enabling) → Within nothing setting
  nothing_within setting c e = cc e

  stay_scans : (setting : Enabling) → IsSafe board setting → (rows : ℕ → TestRow) → ((j : ℕ) → Within (rows j).setting setting) →
      (more j : ℕ) (row before : TestRow) → Within row.setting setting → (free : Choices) (chain : List ChainPart) →
      InTest board (shifted_row board (record { now = row; before = before })) chain →
      Stayed board around (row_clocks board (pass_scans rows more j row)) free chain
  stay_scans setting safe rows all zero j row before small free chain h =
      let t : RowScan = record { now = quiet_row; before = row } in
      stay_then setting safe t [] free row before chain small (nothing_within setting) h
      (λ k. stay_end (choices_after (sdr_clocks (joined (row_bits board t))) free) row
      (run around (sdr_clocks (joined (row_bits board t))) free chain) k)
  stay_scans setting safe rows all (suc more) j row before small free chain h =
      let t : RowScan = record { now = rows j; before = row } in
      stay_then setting safe t (pass_scans rows more (suc j) (rows j)) free row before chain small (all j) h
      (λ k. stay_scans setting safe rows all more (suc j) (rows j) row (all j)
      (choices_after (sdr_clocks (joined (row_bits board t))) free)
      (run around (sdr_clocks (joined (row_bits board t))) free chain) k)

  stay_two : (xs ys : List RowScan) (free : Choices) (chain : List ChainPart) → Stayed board around (row_clocks board xs) free chain →
      ((f : Choices) (m : List ChainPart) (before : TestRow)
      → InTest board (shifted_row board (record { now = quiet_row; before = before })) m
      → Stayed board around (row_clocks board ys) f m)
      → Stayed board around (row_clocks board (xs ++ ys)) free chain
  stay_two xs ys free chain p more =
      let cx : List Clock = row_clocks board xs in
      let cy : List Clock = row_clocks board ys in
      let r = more (choices_after cx free) (run around cx free chain) p.last p.quiet in
      subst (λ (c : List Clock). Stayed board around c free chain) (sym (clocks-append board xs ys))
      (record {
        stays = stays_two board around cx cy free chain p.stays r.stays;
        last = r.last;
        quiet =
            subst
            (λ (m : List ChainPart). InTest board
            (shifted_row board (record { now = quiet_row; before = r.last })) m)
            (sym (run-append around cx cy free chain)) r.quiet;
      })

  stay_passes : (setting : List Ctl → Enabling) (rows : List Ctl → ℕ → TestRow) (width : ℕ) (ps : List (List Ctl)) →
      ((x : ℕ) (p : List Ctl) → slice_get ps x ≡ Some p → IsSafe board (setting p)) →
      ((p : List Ctl) (j : ℕ) → Within (rows p j).setting (setting p)) →
      (before : TestRow) (free : Choices) (chain : List ChainPart)
      → InTest board (shifted_row board (record { now = quiet_row; before = before })) chain
      → Stayed board around (row_clocks board (row_scans rows width ps)) free chain
  stay_passes setting rows width [] safe within before free chain h = stay_end free before chain h
  stay_passes setting rows width (p ∷ ps) safe within before free chain h =
      stay_two (pass_scans (rows p) width 0 quiet_row) (row_scans rows width ps) free chain
      (stay_scans (setting p) (safe 0 p refl) (rows p) (within p) width 0 quiet_row before (nothing_within (setting p)) free chain h)
      (λ f m b k. stay_passes setting rows width ps (λ x. safe (suc x)) within b f m k)

  tail_stays : (before : TestRow) (free : Choices) (chain : List ChainPart) → IsBoardChain board chain →
      InTest board (shifted_row board (record { now = quiet_row; before = before })) chain → StaysBy board around reset_clocks free chain
  unfolding run shown
  tail_stays before free chain start h =
      let safe = nothing_safe board rules.one_always_on in
      let up : Clock = plain true in
      let two : List Clock = up ∷ up ∷ [] in
      let n2 : List ChainPart = run around two free chain in
      let f2 : Choices = choices_after two free in
      let c = clear_run around RunTestIdle two free chain (all_in RunTestIdle chain h.idle) refl in
      let m = moment_row board nothing safe (board_rules board rules) quiet_row before (nothing_within nothing) chain h in
      let m2 : Moment board nothing (pin_states n2) = subst (λ (v : List PinState). Moment board nothing v) (sym c.same) m in
      let n3 : List ChainPart = clock_after around up (f2 0) n2 in
      let n4 : List ChainPart = clock_after around up (f2 1) n3 in
      let n5 : List ChainPart = clock_after around up (f2 2) n4 in
      let t3 : AllIn TestLogicReset n3 = taps_step SelectIR n2 (bits_at_pins around (f2 0) n2) (f2 0).parts true (f2 0).tdi c.idle in
      let t4 : AllIn TestLogicReset n4 = taps_step TestLogicReset n3 (bits_at_pins around (f2 1) n3) (f2 1).parts true (f2 1).tdi t3 in
      let t5 : AllIn TestLogicReset n5 = taps_step TestLogicReset n4 (bits_at_pins around (f2 2) n4) (f2 2).parts true (f2 2).tdi t4 in
      let off_logics : (k : List ChainPart) → logics k ≡ board_logics board
      → LogicsOff (logics k) = λ (k : List ChainPart) e. subst
      (λ (l : List TestLogic). LogicsOff l) (sym e) (logics_off board.chain) in
      let logics2 : logics n2 ≡ board_logics board = run_logics around two free chain ∙ start.logics_are in
      let logics3 : logics n3
      ≡ board_logics board = chain_logics n2 (bits_at_pins around (f2 0) n2) (f2 0).parts true
      (f2 0).tdi ∙ logics2 in
      let logics4 : logics n4
      ≡ board_logics board = chain_logics n3 (bits_at_pins around (f2 1) n3) (f2 1).parts true
      (f2 1).tdi ∙ logics3 in
      let m3 = moment_off board nothing (pin_states n3)
      (off_at n3
      (chain_off n2 (bits_at_pins around (f2 0) n2) (f2 0).parts true (f2 0).tdi t3
      (off_logics n2 logics2))) in
      let m4 = moment_off board nothing (pin_states n4)
      (off_at n4
      (chain_off n3 (bits_at_pins around (f2 1) n3) (f2 1).parts true (f2 1).tdi t4
      (off_logics n3 logics3))) in
      let m5 = moment_off board nothing (pin_states n5)
      (off_at n5
      (chain_off n4 (bits_at_pins around (f2 2) n4) (f2 2).parts true (f2 2).tdi t5
      (off_logics n4 logics4))) in
      let to_n2 : StaysBy board around two free chain = λ rest q. all_then board nothing safe
      (pin_states chain) m (shown around two free chain) rest c.moments_are
      (subst (λ (v : List PinState). StaysQuiet board v rest) c.same q) in
      let to_n3 = step_then board nothing safe around up f2 n2 m2 m3 in
      let to_n4 = step_then board nothing safe around up (later f2) n3 m3 m4 in
      let to_n5 = step_then board nothing safe around up (later (later f2)) n4 m4 m5 in
      stays_two board around two (up ∷ up ∷ up ∷ []) free chain to_n2
      (stays_two board around (up ∷ []) (up ∷ up ∷ []) f2 n2 to_n3 (stays_two board around (up ∷ []) (up ∷ []) (later f2) n3 to_n4 to_n5))

  fifth_off : (free : Choices) (states : List ChainPart) → IsBoardChain board states → AllOff (run around reset_clocks free states)
  unfolding run
  fifth_off free states start =
      let four : List Clock = plain true ∷ plain true ∷ plain true ∷ plain true ∷ [] in
      let n4 : List ChainPart = run around four free states in
      let f : Choices = choices_after four free in
      let off : LogicsOff (logics n4) = subst (λ (l : List TestLogic). LogicsOff l)
      (sym (run_logics around four free states ∙ start.logics_are)) (logics_off board.chain) in
      chain_off n4 (bits_at_pins around (f 0) n4) (f 0).parts true (f 0).tdi (run_resets around free states) off

  -- From the fifth clock of the text to its end, the board stays quiet if the setting of every pass is safe
  -- and no row of a pass enables a control that is not in the setting of the pass.
  whole_stays : (setting : List Ctl → Enabling) (rows : List Ctl → ℕ → TestRow) (width : ℕ) (ps : List (List Ctl)) →
      ((x : ℕ) (p : List Ctl) → slice_get ps x ≡ Some p → IsSafe board (setting p)) →
      ((p : List Ctl) (j : ℕ) → Within (rows p j).setting (setting p)) → (states : List ChainPart) (free : Choices) →
      IsBoardChain board states →
      let fifth : List ChainPart = run around reset_clocks free states in
      IsQuietMoment board (pin_states fifth)
      × StaysQuiet board (pin_states fifth)
      (shown around
      ((plain false ∷ all_clocks (board_scans board (row_scans rows width ps)))
      ++ reset_clocks) (choices_after reset_clocks free) fifth)
  unfolding run shown
  whole_stays setting rows width ps safe_passes within states free start =
      let safe = nothing_safe board rules.one_always_on in
      let ts : List RowScan = row_scans rows width ps in
      let fifth : List ChainPart = run around reset_clocks free states in
      let f5 : Choices = choices_after reset_clocks free in
      let n0 : List ChainPart = headed board rules faults states free start in
      let g0 : Choices = f0 board rules faults states free start in
      let n1 : List ChainPart = sampling board rules faults states free start in
      let g1 : Choices = f1 board rules faults states free start in
      let n2 : List ChainPart = preloaded board rules faults states free start in
      let g2 : Choices = f2 board rules faults states free start in
      let n3 : List ChainPart = entered board rules faults states free start in
      let g3 : Choices = f3 board rules faults states free start in
      let s0 = scan0 board rules faults states free start in
      let s1 = scan1 board rules faults states free start in
      let s2 = scan2 board rules faults states free start in
      let inside = in_test_after board rules faults states free start in
      let bits0 : List ScanBit = preload_bits board rules faults states free start in
      let bits1 : List ScanBit = quiet_bits board rules faults states free start in
      let bits2 : List ScanBit = extest_bits board rules faults states free start in
      let some0 : 0
      < length bits0 = omega (
        arith,
        length-instructs (map (λ p. preload_code p.kind) board.chain),
        codes_total preload_code board.chain
            (preload_fits board.chain (parts_of board rules)) (parts_of board rules),
        rules.chain_some,
      ) in
      let some2 : 0
      < length bits2 = omega (
        arith,
        length-instructs (map (λ p. extest_code p.kind) board.chain),
        codes_total extest_code board.chain (extest_fits board.chain (parts_of board rules))
            (parts_of board rules),
        rules.chain_some,
      ) in
      let off5 = fifth_off free states start in
      let m5 = moment_off board nothing (pin_states fifth) (off_at fifth off5) in
      let idle = clear_run around TestLogicReset (plain false ∷ []) f5 fifth (run_resets around free states) refl in
      let m0 : Moment board nothing (pin_states n0) = subst (λ (v : List PinState). Moment board nothing v) (sym idle.same) m5 in
      let m1 = moment_off board nothing (pin_states n1) (off_at n1 (preload_off board.chain n1 s0.currents)) in
      let m2 = moment_off board nothing (pin_states n2) (off_at n2 (preload_off board.chain n2 s1.currents)) in
      let m3 = moment_row board nothing safe (board_rules board rules) quiet_row quiet_row (nothing_within nothing) n3 inside in
      let to_n0 = step_then board nothing safe around (plain false) f5 fifth m5 m0 in
      let to_n1 : StaysBy board around (sir_clocks bits0) g0 n0 = λ rest q. switch_then board
      nothing safe (shown around (sir_clocks bits0) g0 n0) n0 n1
      (sir_switches around bits0 g0 n0 (head_idles around free states) some0) m0 m1 rest q in
      let to_n2 : StaysBy board around (sdr_clocks bits1) g1 n1 = λ rest q. switch_then board
      nothing safe (shown around (sdr_clocks bits1) g1 n1) n1 n2
      (sdr_switches around bits1 g1 n1 s0.idle (row_scan_some board rules first_row_scan)) m1 m2
      rest q in
      let to_n3 : StaysBy board around (sir_clocks bits2) g2 n2 = λ rest q. switch_then board
      nothing safe (shown around (sir_clocks bits2) g2 n2) n2 n3
      (sir_switches around bits2 g2 n2 s1.idle some2) m2 m3 rest q in
      let all = stay_passes setting rows width ps safe_passes within quiet_row g3 n3 inside in
      let n4 : List ChainPart = run around (row_clocks board ts) g3 n3 in
      let rest2 : List Clock = sir_clocks bits2 ++ row_clocks board ts in
      let rest1 : List Clock = sdr_clocks bits1 ++ rest2 in
      let rest0 : List Clock = sir_clocks bits0 ++ rest1 in
      let scans : StaysBy board around (plain false ∷ rest0) f5 fifth =
      stays_two board around (plain false ∷ []) rest0 f5 fifth to_n0
      (stays_two board around (sir_clocks bits0) rest1 g0 n0 to_n1
      (stays_two board around (sdr_clocks bits1) rest2 g1 n1 to_n2
      (stays_two board around (sir_clocks bits2) (row_clocks board ts) g2 n2 to_n3
      all.stays))) in
      let n4_is : run around (plain false ∷ rest0) f5 fifth ≡ n4 =
      run-append around (sir_clocks bits0) rest1 g0 n0
      ∙ run-append around (sdr_clocks bits1) rest2 g1 n1
      ∙ run-append around (sir_clocks bits2) (row_clocks board ts) g2 n2 in
      let last : List ChainPart = run around (plain false ∷ rest0) f5 fifth in
      let tail =
      tail_stays all.last (choices_after (plain false ∷ rest0) f5) last
      (stays_of board rules faults (plain false ∷ rest0) f5 fifth (stays_of board rules faults reset_clocks free states start))
      (subst
      (λ (m : List ChainPart). InTest board
      (shifted_row board (record { now = quiet_row; before = all.last })) m) (sym n4_is)
      all.quiet) in
      let whole = stays_two board around (plain false ∷ rest0) reset_clocks f5 fifth scans tail in (
        m5.quiet_moment,
        subst (λ (l : List (List PinState)). StaysQuiet board (pin_states fifth) l)
            (append-nil (shown around ((plain false ∷ rest0) ++ reset_clocks) f5 fifth))
            (whole [] tt),
      )

  pub whole_quiet : (setting : List Ctl → Enabling) (rows : List Ctl → ℕ → TestRow) (width : ℕ) (ps : List (List Ctl)) →
      ((x : ℕ) (p : List Ctl) → slice_get ps x ≡ Some p → IsSafe board (setting p)) →
      ((p : List Ctl) (j : ℕ) → Within (rows p j).setting (setting p)) → (states : List ChainPart) (free : Choices) →
      IsBoardChain board states →
      let clocks : List Clock = test_clocks (board_scans board (row_scans rows width ps)) in
      let fifth : List ChainPart = run around (take 5 clocks) free states in
      IsQuietMoment board (pin_states fifth)
      × StaysQuiet board (pin_states fifth)
      (shown around (drop 5 clocks) (choices_after (take 5 clocks) free) fifth)
  whole_quiet setting rows width ps safe within states free start = whole_stays setting rows width ps safe within states free start
