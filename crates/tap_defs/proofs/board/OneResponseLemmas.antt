-- If no open pin is on a shorted net, the compared bits of a row with a safe setting are the same for all free bits.
use Rattle.std.proofs.Common.{◌≡◌, ◌≢◌, ℕ, zero, suc, ◌+◌, ◌==◌, Bool, true, false, cond, not, ◌&&◌, List, [], ◌∷◌, ◌++◌, length, map, Option, Some, None, refl, sym, ◌∙◌, ap, subst, arith}
use Rattle.std.specs.Prelude.{slice_get, unwrap_or, option_map}
use Rattle.std.proofs.lemmas.Bool.{both_ways, eq-eqb}
use Rattle.board_defs.specs.declared.device.Cell.{Cell}
use Rattle.board_defs.specs.declared.board.PinAt.{PinAt}
use Rattle.board_defs.specs.declared.board.PartKind.{PartKind}
use Rattle.board_defs.specs.declared.board.PartKind.TheVariants.{Described, Bypass as WithoutDescription}
use Rattle.board_defs.specs.declared.board.Part.{Part}
use Rattle.board_defs.specs.declared.board.RawBoard.{RawBoard}
use Rattle.board_defs.specs.DeviceRules.{is_receiving, reading_entry}
use Rattle.board_defs.specs.Pins.{receives_where}
use Rattle.board_defs.specs.Settings.{IsSafe}
use Rattle.tap_defs.specs.chain.ShiftRegister.{filled}
use Rattle.board_defs.specs.BoardRules.{IsBoard}
use Rattle.tap_defs.specs.declared.tap.TapState.TheVariants.{RunTestIdle}
use Rattle.tap_defs.specs.chain.TestLogic.{Extest, Bypass, Other}
use Rattle.tap_defs.specs.chain.Part.{PartState, PinState}
use Rattle.tap_defs.specs.chain.Chain.{ChainPart, pin_states, logics}
use Rattle.tap_defs.specs.chain.ChainRegisters.{bits_at_pins, held_bits, all_held, AllSelectingIn}
use Rattle.tap_defs.specs.chain.Run.{Choice}
use Rattle.tap_defs.specs.chain.Scan.{ScanBit, joined, tdi_bits}
use Rattle.tap_defs.specs.board.FaultSet.{FaultSet, IsFaultSet}
use Rattle.tap_defs.specs.board.OnBoard.{board_wiring, test_logic}
use Rattle.tap_defs.specs.board.NetBits.{live_where, Place, place_of, read_at, read_bit, read_entry, captured_by}
use Rattle.tap_defs.specs.board.TestRows.{TestRow, quiet_row, observing_driver, row_bit, only_if, expect_observed, expect_place, expect_pin, expect_entry, expect_bit}
use Rattle.tap_defs.specs.board.BoardScans.{RowScan, part_bits, bits_by_part, row_bits}
use Rattle.tap_defs.specs.board.RowCaptures.{register_of, registers, shown_by_part, shown_by_parts, row_captured, AgreeAt, AgreeWhereCompared, NoOpenShorted}
use Rattle.tap_defs.proofs.chain.ListLemmas.{cons_path, length-joined, map-filled}
use Rattle.tap_defs.proofs.board.InTestLemmas.{in_test, InTest, shifted_row}
use Rattle.tap_defs.proofs.board.RowScanLemmas.{FitsPins, captured_fits, bits_fit}
use Rattle.tap_defs.proofs.board.FeedingLemmas.{dead_at}
use Rattle.tap_defs.proofs.board.PassingLemmas.{stands_at}
use Rattle.tap_defs.proofs.board.QuietLemmas.{BoardRules}
use Rattle.tap_defs.proofs.board.FixedLemmas.{fixed}
use Rattle.tap_defs.proofs.board.NetRuleLemmas.{board_rules}

agree_self : (o : Option Bool) (x y : Bool) → x ≡ y → AgreeAt o x y
agree_self None x y e = tt
agree_self (Some v) x y e = e

-- A compared cell captures the same bit with two choices of the free bits.
module _ (board : RawBoard) (row : TestRow) (safe : IsSafe board row.setting)
    (rules : BoardRules board) (before : TestRow) (chain : List ChainPart)
    (h : InTest board (shifted_row board (record { now = row; before = before })) chain)
    (faults : FaultSet) (is_set : IsFaultSet board faults) (no_open : NoOpenShorted faults) where
  module _ (k : ℕ) (free other : Bool) (shorts others : ℕ → Bool) where
    reads : (at : PinAt) (p : Place) (v : Bool) → row.carried p.number ≡ Some v → place_of at 0 board.nets ≡ Some p → (d : ℕ) →
        observing_driver board row.setting p.net ≡ Some d → (d == p.place) ≡ false →
        (live_where board (pin_states chain) (Some at) ≡ false)
        × (read_at board faults (pin_states chain) shorts free (Some p)
        ≡ read_at board faults (pin_states chain) others other (Some p))
    reads at p v carried e d observing apart =
        let s = stands_at board at p 0 board.nets e in
        let z : s.index ≡ p.number = omega (arith, s.number_is) in
        let net_at : slice_get board.nets p.number ≡ Some p.net = subst (λ (x : ℕ). slice_get board.nets x ≡ Some p.net) z s.net_is in
        let ne : p.place ≢ d = λ q. both_ways (d == p.place) apart (ap (λ (x : ℕ). d == x) q ∙ eq-eqb d d refl) in
        let f = fixed board row safe rules before chain h faults is_set no_open p.number p.net net_at d observing v carried in (
          sym (ap (λ (o : Option PinAt). live_where board (pin_states chain) o) s.at_is)
              ∙ dead_at board row safe p.number p.net (rules.nets p.number p.net net_at) d observing
              before chain h p.place s.pin s.pin_is ne,
          ap (λ (o : Option Bool). unwrap_or (faults.opened p.number p.place) (unwrap_or o free)) (f.1 shorts)
              ∙ sym (ap (λ (o : Option Bool). unwrap_or (faults.opened p.number p.place) (unwrap_or o other)) (f.1 others)),
        )

    abbrev read_of : PinAt → Option Place → Bool → Bool
    read_of at o receives =
        cond (receives && not (live_where board (pin_states chain) (Some at)))
        (read_at board faults (pin_states chain) shorts free o) free

    abbrev other_read : PinAt → Option Place → Bool → Bool
    other_read at o receives =
        cond (receives && not (live_where board (pin_states chain) (Some at)))
        (read_at board faults (pin_states chain) others other o) other

    by_carried : (at : PinAt) (p : Place) → place_of at 0 board.nets ≡ Some p → (d : ℕ) →
        observing_driver board row.setting p.net ≡ Some d →
        (d == p.place) ≡ false → (o : Option Bool) → row.carried p.number ≡ o
        → AgreeAt o (read_of at (Some p) true) (other_read at (Some p) true)
    by_carried at p e d observing q None c = tt
    by_carried at p e d observing q (Some v) c =
        let r = reads at p v c e d observing q in
        ap (λ (b : Bool). cond (not b) (read_at board faults (pin_states chain) shorts free (Some p)) free) r.0
        ∙ r.1
        ∙ sym (ap (λ (b : Bool). cond (not b) (read_at board faults (pin_states chain) others other (Some p)) other) r.0)

    by_same : (at : PinAt) (p : Place) → place_of at 0 board.nets ≡ Some p → (d : ℕ) → observing_driver board row.setting p.net ≡ Some d →
        (b : Bool) → (d == p.place) ≡ b
        → AgreeAt (only_if (not b) (row.carried p.number)) (read_of at (Some p) true)
        (other_read at (Some p) true)
    by_same at p e d observing true q = tt
    by_same at p e d observing false q = by_carried at p e d observing q (row.carried p.number) refl

    by_driver : (at : PinAt) (p : Place) → place_of at 0 board.nets ≡ Some p → (o : Option ℕ) →
        observing_driver board row.setting p.net ≡ o →
        AgreeAt (expect_observed (row.carried p.number) p.place o) (read_of at (Some p) true) (other_read at (Some p) true)
    by_driver at p e None q = tt
    by_driver at p e (Some d) q = by_same at p e d q (d == p.place) refl

    by_place : (at : PinAt) (o : Option Place) → place_of at 0 board.nets ≡ o →
        AgreeAt (expect_place board row o) (read_of at o true) (other_read at o true)
    by_place at None e = tt
    by_place at (Some p) e = by_driver at p e (observing_driver board row.setting p.net) refl

    by_receives : (at : PinAt) (b : Bool) →
        AgreeAt (cond b (expect_place board row (place_of at 0 board.nets)) None)
        (read_of at (place_of at 0 board.nets) b) (other_read at (place_of at 0 board.nets) b)
    by_receives at true = by_place at (place_of at 0 board.nets) refl
    by_receives at false = tt

    by_pin : (o : Option ℕ) →
        AgreeAt (expect_pin board row k o)
        (read_bit board faults (pin_states chain) shorts free k o)
        (read_bit board faults (pin_states chain) others other k o)
    by_pin None = tt
    by_pin (Some b) = by_receives (record { part = k; bit = b }) (receives_where board (Some (record { part = k; bit = b })))

    by_role : (e : Cell) (b : Bool) →
        AgreeAt (cond b (expect_pin board row k e.bit) None)
        (cond b (read_bit board faults (pin_states chain) shorts free k e.bit) free)
        (cond b (read_bit board faults (pin_states chain) others other k e.bit) other)
    by_role e true = by_pin e.bit
    by_role e false = tt

    pub cell_agrees : (o : Option Cell) →
        AgreeAt (expect_entry board row k o)
        (read_entry board faults (pin_states chain) shorts free k o)
        (read_entry board faults (pin_states chain) others other k o)
    cell_agrees None = tt
    cell_agrees (Some e) = by_role e (is_receiving e.role)

cells_agree : (n : ℕ) (bits : ℕ → ScanBit) (f g : ℕ → Bool) → ((c : ℕ) → AgreeAt (bits c).expect (f c) (g c)) →
    AgreeWhereCompared (filled n bits) (filled n f) (filled n g)
cells_agree zero bits f g q = tt
cells_agree (suc n) bits f g q = (q 0, cells_agree n (λ k. bits (suc k)) (λ k. f (suc k)) (λ k. g (suc k)) (λ k. q (suc k)))

agree_append : (bs cs : List ScanBit) (xs ys us vs : List Bool) → length bs ≡ length xs → length bs ≡ length ys →
    AgreeWhereCompared bs xs ys → AgreeWhereCompared cs us vs →
    AgreeWhereCompared (bs ++ cs) (xs ++ us) (ys ++ vs)
agree_append [] cs [] [] us vs p q h k = k
agree_append [] cs (x ∷ xs) ys us vs p q h k = absurd (omega (arith, p))
agree_append [] cs [] (y ∷ ys) us vs p q h k = absurd (omega (arith, q))
agree_append (b ∷ bs) cs [] ys us vs p q h k = absurd (omega (arith, p))
agree_append (b ∷ bs) cs (x ∷ xs) [] us vs p q h k = absurd (omega (arith, q))
agree_append (b ∷ bs) cs (x ∷ xs) (y ∷ ys) us vs p q h k = (h.0, agree_append bs cs xs ys us vs (omega (arith, p)) (omega (arith, q)) h.1 k)

parts_agree : (board : RawBoard) (t : RowScan) (k : ℕ) (ps : List Part) (pins others : ℕ → List Bool) → FitsPins pins ps →
    FitsPins others ps →
    ((i : ℕ) (p : Part) → slice_get ps i ≡ Some p
    → AgreeWhereCompared (part_bits board t (k + i) p.kind) (register_of p.kind (pins i))
    (register_of p.kind (others i))) →
    AgreeWhereCompared (joined (bits_by_part board t k ps)) (joined (registers pins ps)) (joined (registers others ps))
parts_agree board t k [] pins others f g q = tt
parts_agree board t k (p ∷ ps) pins others f g q =
    let z : k + 0 ≡ k = omega arith in
    let here : AgreeWhereCompared (part_bits board t k p.kind) (register_of p.kind (pins 0)) (register_of p.kind (others 0)) =
    subst
    (λ (i : ℕ). AgreeWhereCompared (part_bits board t i p.kind) (register_of p.kind (pins 0))
    (register_of p.kind (others 0))) z (q 0 p refl) in
    let rest = parts_agree board t (suc k) ps (λ j. pins (suc j)) (λ j. others (suc j)) (λ j. f (suc j)) (λ j. g (suc j))
    (λ i x e. let w : k + suc i ≡ suc k + i = omega arith in
    subst
    (λ (j : ℕ). AgreeWhereCompared (part_bits board t j x.kind)
    (register_of x.kind (pins (suc i))) (register_of x.kind (others (suc i)))) w
    (q (suc i) x e)) in
    agree_append (joined (bits_by_part board t (suc k) ps)) (part_bits board t k p.kind)
    (joined (registers (λ j. pins (suc j)) ps)) (joined (registers (λ j. others (suc j)) ps))
    (register_of p.kind (pins 0)) (register_of p.kind (others 0))
    (length-joined (bits_by_part board t (suc k) ps) (registers (λ j. pins (suc j)) ps)
    (bits_fit board t (suc k) ps (λ j. pins (suc j)) (λ j. f (suc j))))
    (length-joined (bits_by_part board t (suc k) ps) (registers (λ j. others (suc j)) ps)
    (bits_fit board t (suc k) ps (λ j. others (suc j)) (λ j. g (suc j))))
    rest here

pub row_agrees : (board : RawBoard) (t : RowScan) → IsSafe board t.before.setting → BoardRules board →
    (earlier : TestRow) (chain : List ChainPart) → InTest board (shifted_row board (record { now = t.before; before = earlier })) chain →
    (faults : FaultSet) → IsFaultSet board faults → NoOpenShorted faults → (choice other : Choice) →
    AgreeWhereCompared (joined (row_bits board t))
    (joined (registers (bits_at_pins (board_wiring board faults) choice chain) board.chain))
    (joined (registers (bits_at_pins (board_wiring board faults) other chain) board.chain))
row_agrees board t safe rules earlier chain h faults is_set no_open choice other =
    parts_agree board t 0 board.chain (bits_at_pins (board_wiring board faults) choice chain)
    (bits_at_pins (board_wiring board faults) other chain)
    (captured_fits board faults choice chain) (captured_fits board faults other chain)
    (λ k p e. let z : 0 + k ≡ k = omega arith in
    subst
    (λ (i : ℕ). AgreeWhereCompared (part_bits board t i p.kind)
    (register_of p.kind (bits_at_pins (board_wiring board faults) choice chain k))
    (register_of p.kind (bits_at_pins (board_wiring board faults) other chain k))) (sym z)
    (by_kind k p e p.kind refl))
  where
    pins_are : (free : Choice) (k : ℕ) (p : Part) → slice_get board.chain k ≡ Some p →
        bits_at_pins (board_wiring board faults) free chain k
        ≡ captured_by board faults (pin_states chain) free.shorts (free.parts k).cells k p.kind
    pins_are free k p e =
        ap
        (λ (o : Option Part). unwrap_or
        (option_map
        (λ q. captured_by board faults (pin_states chain) free.shorts (free.parts k).cells k
        q.kind) o) []) e

    by_kind : (k : ℕ) (p : Part) → slice_get board.chain k ≡ Some p → (kind : PartKind) → p.kind ≡ kind →
        AgreeWhereCompared (part_bits board t k kind)
        (register_of kind (bits_at_pins (board_wiring board faults) choice chain k))
        (register_of kind (bits_at_pins (board_wiring board faults) other chain k))
    by_kind k p e (WithoutDescription n) q = (tt, tt)
    by_kind k p e (Described device) q =
        let mine : bits_at_pins (board_wiring board faults) choice chain k
        ≡ captured_by board faults (pin_states chain) choice.shorts (choice.parts k).cells k
        (Described device) =
        pins_are choice k p e
        ∙ ap
        (λ (kind : PartKind). captured_by board faults (pin_states chain) choice.shorts
        (choice.parts k).cells k kind) q in
        let others : bits_at_pins (board_wiring board faults) other chain k
        ≡ captured_by board faults (pin_states chain) other.shorts (other.parts k).cells k
        (Described device) =
        pins_are other k p e
        ∙ ap
        (λ (kind : PartKind). captured_by board faults (pin_states chain) other.shorts
        (other.parts k).cells k kind) q in
        subst
        (λ (xs : List Bool). AgreeWhereCompared (part_bits board t k (Described device)) xs
        (bits_at_pins (board_wiring board faults) other chain k)) (sym mine)
        (subst
        (λ (ys : List Bool). AgreeWhereCompared (part_bits board t k (Described device))
        (captured_by board faults (pin_states chain) choice.shorts (choice.parts k).cells k
        (Described device)) ys) (sym others)
        (cells_agree device.boundary (λ c. record { tdi = row_bit board t.now k device c; expect = expect_bit board t.before k device c })
        (λ c. read_entry board faults (pin_states chain) choice.shorts ((choice.parts k).cells c) k (reading_entry device c))
        (λ c. read_entry board faults (pin_states chain) other.shorts ((other.parts k).cells c) k (reading_entry device c))
        (λ c. cell_agrees board t.before safe rules earlier chain h faults is_set no_open k
        ((choice.parts k).cells c) ((other.parts k).cells c) choice.shorts other.shorts
        (reading_entry device c))))

-- A state of a part with the part's bits of the row in its latches. A part without a description has no latches.
abbrev pub holding : RawBoard → TestRow → ℕ → PartKind → PartState
holding board row k (Described device) = record {
  tap = RunTestIdle;
  ir = [];
  current = Extest;
  boundary = [];
  bypass = false;
  identification = [];
  latches = filled device.boundary (λ cell. row_bit board row k device cell);
}
holding board row k (WithoutDescription n) =
    record {
      tap = RunTestIdle;
      ir = [];
      current = Bypass;
      boundary = [];
      bypass = false;
      identification =
          [];
      latches = [];
    }

abbrev pub holding_chain : RawBoard → TestRow → ℕ → List Part → List ChainPart
holding_chain board row k [] = []
holding_chain board row k (p ∷ ps) =
    record { logic = test_logic p.kind; state = holding board row k p.kind }
    ∷ holding_chain board row (suc k) ps

module _ (board : RawBoard) (row : TestRow) where
  abbrev quiet_before : RowScan
  quiet_before = record { now = row; before = quiet_row }

  all_idle : (k : ℕ) (ps : List Part) → AllSelectingIn RunTestIdle (holding_chain board row k ps)
  all_idle k [] = tt
  all_idle k (p ∷ ps) = (one p.kind, all_idle (suc k) ps)
    where
      one : (kind : PartKind) → ((holding board row k kind).tap ≡ RunTestIdle) × ((holding board row k kind).current ≢ Other)
      one (Described device) = (refl, λ e. cc e)
      one (WithoutDescription n) = (refl, λ e. cc e)

  all_logics : (k : ℕ) (ps : List Part) → logics (holding_chain board row k ps) ≡ map (λ p. test_logic p.kind) ps
  all_logics k [] = refl
  all_logics k (p ∷ ps) = cons_path refl (all_logics (suc k) ps)

  all_currents : (k : ℕ) (ps : List Part) → map (λ p. p.state.current) (holding_chain board row k ps) ≡ map (λ p. in_test p.kind) ps
  all_currents k [] = refl
  all_currents k (p ∷ ps) = cons_path (one p.kind) (all_currents (suc k) ps)
    where
      one : (kind : PartKind) → (holding board row k kind).current ≡ in_test kind
      one (Described device) = refl
      one (WithoutDescription n) = refl

  all_stay : (k : ℕ) (ps : List Part) → all_held (holding_chain board row k ps) ≡ map tdi_bits (bits_by_part board quiet_before k ps)
  all_stay k [] = refl
  all_stay k (p ∷ ps) = cons_path (one p.kind) (all_stay (suc k) ps)
    where
      one : (kind : PartKind) → held_bits (holding board row k kind) ≡ tdi_bits (part_bits board quiet_before k kind)
      one (Described device) =
          sym
          (map-filled (λ (b : ScanBit). b.tdi) device.boundary
          (λ cell. record {
            tdi = row_bit board row k device cell;
            expect = expect_bit board quiet_row k
                device cell;
          }))
      one (WithoutDescription n) = refl

  pub all_show : (k : ℕ) (ps : List Part) → pin_states (holding_chain board row k ps) ≡ shown_by_parts board row k ps
  all_show k [] = refl
  all_show k (p ∷ ps) = cons_path (one p.kind) (all_show (suc k) ps)
    where
      one : (kind : PartKind) →
          record {
            current = (holding board row k kind).current;
            latches =
                (holding board row k kind).latches;
          } ≡ shown_by_part board row k kind
      one (Described device) = refl
      one (WithoutDescription n) = refl

  pub held_in_test : InTest board (shifted_row board quiet_before) (holding_chain board row 0 board.chain)
  held_in_test = record {
    idle = all_idle 0 board.chain;
    logics_are = all_logics 0 board.chain;
    currents = all_currents 0 board.chain;
    stays = all_stay 0 board.chain;
  }

pub one_response : (board : RawBoard) (faults : FaultSet) (t : RowScan) → IsBoard board → IsFaultSet board faults → NoOpenShorted faults →
    IsSafe board t.before.setting → (choice other : Choice) →
    AgreeWhereCompared (joined (row_bits board t)) (row_captured board faults t.before choice) (row_captured board faults t.before other)
one_response board faults t rules is_set no_open safe choice other =
    let chain : List ChainPart = holding_chain board t.before 0 board.chain in
    subst
    (λ (s : List PinState). AgreeWhereCompared (joined (row_bits board t))
    (joined (registers (board_wiring board faults s choice) board.chain))
    (joined (registers (board_wiring board faults s other) board.chain)))
    (all_show board t.before 0 board.chain)
    (row_agrees board t safe (board_rules board rules) quiet_row chain (held_in_test board t.before) faults is_set no_open choice other)
