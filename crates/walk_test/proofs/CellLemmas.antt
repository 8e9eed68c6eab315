-- Lemmas about the compared cells of a walk net, and about the bit that each of these cells captures under the Or shorts of groups.
use Rattle.std.proofs.Common.{◌≡◌, ◌≢◌, ◌⊎◌, inl, inr, ℕ, zero, suc, ◌+◌, ◌==◌, Bool, true, false, cond, not, ◌&&◌, ◌||◌, List, [], ◌∷◌, take, Option, Some, None, refl, sym, ◌∙◌, ap, subst, arith}
use Rattle.std.specs.Prelude.{slice_get, unwrap_or, count_by, Contains}
use Rattle.std.specs.List.{list_any, list_all}
use Rattle.std.specs.Cmp.{both_ways as same_answer}
use Rattle.std.proofs.lemmas.Bool.{both_ways, false_from_ne_true, and_parts, eqb-true, eq-eqb}
use Rattle.lists.proofs.Booleans.{eqb_swap}
use Rattle.board_defs.specs.declared.device.Control.{Control}
use Rattle.board_defs.specs.declared.device.Cell.{Cell}
use Rattle.board_defs.specs.declared.device.RawDevice.{RawDevice}
use Rattle.board_defs.specs.declared.board.PartKind.{PartKind}
use Rattle.board_defs.specs.declared.board.PartKind.TheVariants.{Described, Bypass}
use Rattle.board_defs.specs.declared.board.Part.{Part}
use Rattle.board_defs.specs.declared.board.PinAt.{PinAt}
use Rattle.board_defs.specs.declared.board.NetPin.{NetPin}
use Rattle.board_defs.specs.declared.board.Net.{Net}
use Rattle.board_defs.specs.declared.board.RawBoard.{RawBoard}
use Rattle.board_defs.specs.declared.board.Ctl.{Ctl}
use Rattle.board_defs.specs.BoardRules.{IsBoard}
use Rattle.board_defs.specs.DeviceRules.{is_on, is_receiving}
use Rattle.board_defs.specs.Pins.{entry_at, drive, switches, guarded, is_pinned, lets_switch, is_same, is_pulled_to}
use Rattle.board_defs.specs.Decided.{is_by}
use Rattle.board_defs.specs.Settings.{holds, enables_where, enables_entry, enables_by, IsSafe, SwitchesAt}
use Rattle.board_defs.proofs.ControlOrder.{same_refl}
use Rattle.board_defs.proofs.Members.{Has, has_place, has_any, contains_has, has_filter_map, filter_map_has, any_has}
use Rattle.board_defs.proofs.Places.{any_at}
use Rattle.board_defs.proofs.CellLemmas.{on_is}
use Rattle.board_defs.proofs.SameBits.{is_same_refl}
use Rattle.tap_defs.specs.chain.Part.{PinState}
use Rattle.tap_defs.specs.chain.Chain.{ChainPart, pin_states}
use Rattle.tap_defs.specs.chain.Run.{Choice}
use Rattle.tap_defs.specs.chain.Scan.{joined}
use Rattle.tap_defs.specs.board.FaultSet.{Or, FaultSet, IsFaultSet}
use Rattle.tap_defs.specs.board.NetBits.{Feeding, Undriven, Driven, live_where, feeding, fed, OfNet, is_in_short, shorted_nets, numbered_value, bits_fed, bits_held, first_combined, short_bit, net_bit, net_bit_by}
use Rattle.tap_defs.specs.board.TestRows.{TestRow, quiet_row, first_enabled, observing_driver}
use Rattle.tap_defs.specs.board.BoardScans.{is_walked, walk_row}
use Rattle.tap_defs.specs.board.RowCaptures.{row_states, row_captured, NoOpenShorted}
use Rattle.tap_defs.specs.board.RowDriving.{is_switched_off, cell_bit, entry_feeds, at_feeds, pin_feeds, driver_feeds}
use Rattle.tap_defs.proofs.chain.ListLemmas.{cons_path}
use Rattle.tap_defs.proofs.board.InTestLemmas.{InTest, shifted_row}
use Rattle.tap_defs.proofs.board.WrongLemmas.{Compared, captures}
use Rattle.tap_defs.proofs.board.FeedingLemmas.{Observing, observing_at, PinRules, apart, placed, Carries, driven, pulled, carries, dead_at}
use Rattle.tap_defs.proofs.board.QuietLemmas.{BoardRules, device_of}
use Rattle.tap_defs.proofs.board.NetRuleLemmas.{board_rules}
use Rattle.tap_defs.proofs.board.FixedLemmas.{all_decided}
use Rattle.tap_defs.proofs.board.ResponseLemmas.{plain_is}
use Rattle.tap_defs.proofs.board.OneResponseLemmas.{holding_chain, held_in_test, all_show}
use Rattle.tap_defs.proofs.board.DrivingLemmas.{feeding_is}
use Rattle.tap_defs.proofs.board.CellPlaceLemmas.{captured_cell, captured_laid, laid as laid_parts, part_laid as laid_part}
use Rattle.net_pins.specs.declared.nets.ReaderCell.{ReaderCell}
use Rattle.plan_tables.specs.Tables.{first_position, IsReaderCell}
use Rattle.plan_tables.specs.inner.Laid.{CellBits, part_laid, parts_laid, bits_of_parts}
use Rattle.plan_tables.proofs.PinLemmas.{Standing, standing, reading_entry_is}
use Rattle.walk_test.specs.WalkTest.{is_switched_by, switches_some}
use Rattle.walk_test.specs.Groups.{group_of, or_shorts}
use Rattle.walk_test.specs.inner.Reading.{is_one_group, are_joined}

-- An INPUT, CLOCK or BIDIR cell of a receiver on an observed net is compared, unless it is on the pin of the driver by which the setting
-- observes the net.
module _ (board : RawBoard) (rules : IsBoard board) (walk : List Ctl) (n : ℕ) (net : Net)
    (is_net : slice_get board.nets n ≡ Some net) (d : ℕ)
    (observing : observing_driver board (holds walk) net ≡ Some d) (r : ReaderCell)
    (q : IsReaderCell board net r) (other : (r.place == d) ≡ false) where
  abbrev t : Standing board n net r.place q.at
  t = standing board rules n net r.place q.pin q.at is_net q.is_pin q.is_at

  same_device : q.device ≡ t.device
  same_device = let two : Some q.device ≡ Some t.device = sym q.is_device ∙ t.is_device in cc two

  abbrev index : ℕ
  index = (has_place q.device.cells q.entry (contains_has q.device.cells q.entry q.is_entry)).0

  entry_stands : slice_get t.device.cells index ≡ Some q.entry
  entry_stands =
      subst (λ (v : RawDevice). slice_get v.cells index ≡ Some q.entry) same_device
      (has_place q.device.cells q.entry (contains_has q.device.cells q.entry q.is_entry)).1

  entry_parts : (is_on q.at.bit q.entry.bit ≡ true) × (is_receiving q.entry.role ≡ true)
  entry_parts = and_parts (is_on q.at.bit q.entry.bit) (is_receiving q.entry.role) q.reads

  pub compared_of : Compared board (holds walk) n net
  compared_of =
      let dev = device_of board q.at.part t.device t.is_device in
      record {
        k = q.at.part;
        part = dev.part;
        device = t.device;
        at_k = dev.at_k;
        device_is = dev.kind_is;
        cell = q.entry.num;
        below = t.read.num_below index q.entry entry_stands;
        entry = q.entry;
        reads = reading_entry_is t.device t.read index q.entry entry_stands entry_parts.1;
        receiving = entry_parts.1;
        bit = q.at.bit;
        bit_is = on_is q.at.bit q.entry.bit entry_parts.0;
        receives_is = q.receives;
        place = r.place;
        stands = t.is_place;
        pin = q.pin;
        pin_is = q.is_pin;
        pin_at = q.is_at;
        driver = d;
        observing_is = observing;
        other = eqb_swap r.place d other;
      }

  pub compared_device : Rattle.board_defs.specs.Pins.device_at board compared_of.k ≡ Some compared_of.device
  unfolding compared_of
  compared_device = t.is_device

  pub compared_position : r.position ≡ first_position board compared_of.k + compared_of.cell
  unfolding compared_of
  compared_position = q.position_is

parts_same : (f : CellBits) (k : ℕ) (ps : List Part) → laid_parts f false k ps ≡ parts_laid f k ps
parts_same f k [] = refl
parts_same f k (p ∷ ps) = cons_path (one p.kind) (parts_same f (suc k) ps)
  where
    one : (kind : PartKind) → laid_part f false k kind ≡ part_laid f k kind
    one (Described device) = refl
    one (Bypass n) = refl

pub captured_is : (board : RawBoard) (faults : FaultSet) (row : TestRow) (choice : Choice) →
    row_captured board faults row choice ≡ bits_of_parts (captured_cell board faults (row_states board row) choice) board
captured_is board faults row choice =
    captured_laid board faults row choice
    ∙ ap (λ (rs : List (List Bool)). joined rs)
    (parts_same (captured_cell board faults (row_states board row) choice) 0 board.chain)

-- `x` is a net of `nets` with its number, and short `k` joins this net; `n` is the number of the first net of `nets`
record InShort (faults : FaultSet) (k n : ℕ) (nets : List Net) (x : OfNet Net) : Type 0 where
  place : ℕ
  number_is : x.0 ≡ n + place
  stands : slice_get nets place ≡ Some x.1
  short_is : faults.short x.0 ≡ Some k

shorted_is : (faults : FaultSet) (k n : ℕ) (nets : List Net) (x : OfNet Net)
    → Has (shorted_nets faults k n nets) x → InShort faults k n nets x
shorted_is faults k n [] x h = absurd h
shorted_is faults k n (net ∷ nets) x h = by_short (faults.short n) refl (shorted_is faults k (suc n) nets x) h
  where
    later : InShort faults k (suc n) nets x → InShort faults k n (net ∷ nets) x
    later s = record { place = suc s.place; number_is = omega (arith, s.number_is); stands = s.stands; short_is = s.short_is }

    by_number : (j : ℕ) → faults.short n ≡ Some j
        → (Has (shorted_nets faults k (suc n) nets) x → InShort faults k (suc n) nets x)
        → (b : Bool) → (j == k) ≡ b →
        Has
        (cond b ((n, net) ∷ shorted_nets faults k (suc n) nets)
        (shorted_nets faults k (suc n) nets)) x → InShort faults k n (net ∷ nets) x
    by_number j s ih false e g = later (ih g)
    by_number j s ih true e (inr g) = later (ih g)
    by_number j s ih true e (inl same) =
        let number : n ≡ x.0 = ap (λ (y : OfNet Net). y.0) same in
        record {
          place = 0;
          number_is = omega (arith, number);
          stands = ap (λ (y : OfNet Net). Some y.1) same;
          short_is = ap faults.short (sym number) ∙ s ∙ ap (λ (i : ℕ). Some i) (eqb-true j k e);
        }

    by_short : (o : Option ℕ) → faults.short n ≡ o → (Has (shorted_nets faults k (suc n) nets) x → InShort faults k (suc n) nets x) →
        Has
        (cond (is_in_short o k) ((n, net) ∷ shorted_nets faults k (suc n) nets)
        (shorted_nets faults k (suc n) nets)) x → InShort faults k n (net ∷ nets) x
    by_short None s ih g = later (ih g)
    by_short (Some j) s ih g = by_number j s ih (j == k) refl g

is_shorted : (faults : FaultSet) (k n : ℕ) (nets : List Net) (place : ℕ) (net : Net) (m : ℕ)
    → slice_get nets place ≡ Some net → m ≡ n + place → faults.short m ≡ Some k →
    Has (shorted_nets faults k n nets) (m, net)
is_shorted faults k n [] place net m e z s = cc e
is_shorted faults k n (x ∷ nets) zero net m e z s =
    let same : x ≡ net = cc e in
    let number : n ≡ m = omega (arith, z) in
    let here : faults.short n ≡ Some k = ap faults.short number ∙ s in
    subst (λ (l : List (OfNet Net)). Has l (m, net))
    (sym
    (ap
    (λ (o : Option ℕ). cond (is_in_short o k) ((n, x) ∷ shorted_nets faults k (suc n) nets)
    (shorted_nets faults k (suc n) nets)) here
    ∙ ap (λ (b : Bool). cond b ((n, x) ∷ shorted_nets faults k (suc n) nets) (shorted_nets faults k (suc n) nets)) (eq-eqb k k refl)))
    (inl (ap (λ (y : Net). (n, y)) same ∙ ap (λ (i : ℕ). (i, net)) number))
is_shorted faults k n (x ∷ nets) (suc place) net m e z s =
    by_test (is_shorted faults k (suc n) nets place net m e (omega (arith, z)) s)
    (is_in_short (faults.short n) k)
  where
    by_test : Has (shorted_nets faults k (suc n) nets) (m, net) → (b : Bool) →
        Has (cond b ((n, x) ∷ shorted_nets faults k (suc n) nets) (shorted_nets faults k (suc n) nets)) (m, net)
    by_test rest true = inr rest
    by_test rest false = rest

or_of : (fs hs : List (OfNet Bool)) (x : OfNet Bool) (free : Bool) → Has fs x → first_combined Or fs hs free ≡ list_any (λ b. b.1) fs
or_of [] hs x free h = absurd h
or_of (f ∷ fs) hs x free h = refl

-- The setting is safe and has no control of a switching driver. A switching driver is a driver whose own cell is also its control cell, on
-- an unguarded net that is pulled to the driver's disable value.
pub record IsWalkSetting (board : RawBoard) (walk : List Ctl) : Type 0 where
  pub safe : IsSafe board (holds walk)
  pub none : (c : Ctl) → holds walk c ≡ true → switches_some board c ≡ false

-- the setting observes net n
pub record WalkedBy (board : RawBoard) (walk : List Ctl) (n : ℕ) : Type 0 where
  pub net : Net
  pub is_net : slice_get board.nets n ≡ Some net
  pub driver : ℕ
  pub observing : observing_driver board (holds walk) net ≡ Some driver

module _ (board : RawBoard) (rules : IsBoard board) (walk : List Ctl) (setting : IsWalkSetting board walk) (j : ℕ) where
  abbrev row : TestRow
  row = walk_row board walk j

  -- True if walk net n carries 1 in row j, that is, if exactly j walk nets come before it.
  abbrev pub is_marked : ℕ → Bool
  is_marked n = count_by (is_walked board walk) (take n board.nets) == j

  abbrev chain : List ChainPart
  chain = holding_chain board row 0 board.chain

  abbrev states : List PinState
  states = pin_states chain

  abbrev held_row : InTest board (shifted_row board (record { now = row; before = quiet_row })) chain
  held_row = held_in_test board row

  abbrev places : BoardRules board
  places = board_rules board rules

  -- The setting is safe, so a driver that it enables is not one-sided. A one-sided driver is a driver whose
  -- own cell is its control cell and which is not a switching driver. If the driver's own cell were its
  -- control cell, it would be a switching driver, but the setting holds no control of a switching driver.
  not_own : (n : ℕ) (net : Net) (d : ℕ) (pin : NetPin) (at : PinAt) (entry : Cell)
      → slice_get board.nets n ≡ Some net → slice_get net.pins d ≡ Some pin → pin.at ≡ Some at →
      entry_at board at ≡ Some entry → (control : Control) → entry.ctl ≡ Some control
      → holds walk (record { part = at.part; cell = control.cell }) ≡ true
      → (control.cell == entry.num) ≡ false
  not_own n net d pin at entry en ep a e control k held =
      false_from_ne_true (control.cell == entry.num)
      (λ own. by_rules own (((board_rules board rules).nets n net en).pins d pin ep))
    where
      c : Ctl
      c = record { part = at.part; cell = control.cell }

      switched : (control.cell == entry.num) ≡ true → SwitchesAt board at control.disable → switches_some board c ≡ true
      switched own (m, other, i, p, em, ei, ea, open_net, pull) =
          let lets : lets_switch board other control.disable ≡ true =
          ap (λ (g : Bool). not g && is_pulled_to control.disable other.pull) open_net
          ∙ ap (λ (o : Option Bool). is_pulled_to control.disable o) pull ∙ is_same_refl control.disable in
          any_at (λ x. list_any (is_switched_by board c x) x.pins) board.nets m other em
          (any_at (is_switched_by board c other) other.pins i p ei
          (ap
          (λ (o : Option PinAt). Rattle.board_defs.specs.Pins.switches_entry board other
          (Rattle.std.specs.Prelude.option_and_then (entry_at board) o) && is_by c
          (Rattle.board_defs.specs.Pins.drive_where board other o)) ea
          ∙ ap
          (λ (o : Option Cell). Rattle.board_defs.specs.Pins.switches_entry board other o
          && is_by c
          (Rattle.std.specs.Prelude.option_map
          (λ cell. Rattle.board_defs.specs.Pins.drive_by board other at.part cell
          cell.ctl) o)) e
          ∙ ap
          (λ (o : Option Control). Rattle.board_defs.specs.Pins.switches_by board other entry o
          && is_by c
          (Some (Rattle.board_defs.specs.Pins.drive_by board other at.part entry o))) k
          ∙ by_tests (control.cell == entry.num) (lets_switch board other control.disable) own lets))
        where
          by_tests : (x y : Bool) → x ≡ true → y ≡ true
              → ((x && y)
              && is_by c
              (Some
              (cond x
              (cond y
              (Rattle.board_defs.specs.declared.board.Drive.TheVariants.By c)
              Rattle.board_defs.specs.declared.board.Drive.TheVariants.OneSided)
              (Rattle.board_defs.specs.declared.board.Drive.TheVariants.By c)))) ≡ true
          by_tests true true p q = same_refl c
          by_tests true false p q = cc q
          by_tests false y p q = cc p

      by_rules : (control.cell == entry.num) ≡ true → PinRules board n net d pin → ⊥
      by_rules own (apart none_at) = let bad : None ≡ Some at = sym none_at ∙ a in cc bad
      by_rules own (placed other part device b ek ed wired pinned is_place) =
          let two : Some other ≡ Some at = sym b ∙ a in
          let there : other ≡ at = cc two in
          both_ways (switches_some board c) (setting.none c held)
          (switched own
          (setting.safe.own at entry control
          (subst (λ (y : PinAt). is_pinned board y ≡ true) there pinned) e k
          (eqb-true control.cell entry.num own) held))

  -- each walk net is driven to the bit that it carries
  module _ (n : ℕ) (w : WalkedBy board walk n) where
    o : Observing board (holds walk) w.net w.driver
    o = observing_at board (holds walk) w.net w.driver w.observing

    never_off : (at : PinAt) → o.pin.at ≡ Some at → (entry : Cell) → entry_at board at ≡ Some entry
        → (bit : Bool) (c : Option Control) → entry.ctl ≡ c
        → enables_by (holds walk) at.part c ≡ true → is_switched_off bit entry c ≡ false
    never_off at a entry e bit None k on = refl
    never_off at a entry e bit (Some control) k on =
        ap (λ (b : Bool). b && is_same bit control.disable)
        (not_own n w.net w.driver o.pin at entry w.is_net o.stands a e control k on)

    by_entry : (at : PinAt) → o.pin.at ≡ Some at → (x : Option Cell) → entry_at board at ≡ x
        → enables_entry (holds walk) at.part x ≡ true
        → entry_feeds board row at w.driver x ≡ Undriven → ⊥
    by_entry at a None e on off = cc on
    by_entry at a (Some entry) e on off = by_off (never_off at a entry e bit entry.ctl refl on)
      where
        bit : Bool
        bit = cell_bit board row at.part (Rattle.board_defs.specs.Pins.device_at board at.part) entry.num

        by_off : is_switched_off bit entry entry.ctl ≡ false → ⊥
        by_off never =
            let bad : ◌≡◌ {A = Feeding} (Driven w.driver bit) Undriven = sym
            (ap (λ (b : Bool). cond b Undriven (Driven w.driver bit)) never) ∙ off in
            cc bad

    by_at : (x : Option PinAt) → o.pin.at ≡ x → enables_where board (holds walk) x ≡ true → at_feeds board row w.driver x ≡ Undriven → ⊥
    by_at None a on off = cc on
    by_at (Some at) a on off = by_entry at a (entry_at board at) refl on off

    first_is : first_enabled board (holds walk) 0 w.net.pins ≡ Some w.driver
    first_is = go (guarded board w.net) w.observing
      where
        same : (t : Bool) (x : ℕ) → cond t (Some x) None ≡ Some w.driver → Some x ≡ Some w.driver
        same true x h = h
        same false x h = cc h

        inner : (x : Option ℕ) → Rattle.tap_defs.specs.board.TestRows.observing_driver_by board w.net x ≡ Some w.driver → x ≡ Some w.driver
        inner None h = cc h
        inner (Some i) h = same (Rattle.tap_defs.specs.board.TestRows.reads_beside board i 0 w.net.pins) i h

        go : (g : Bool)
            → cond g None
            (Rattle.tap_defs.specs.board.TestRows.observing_driver_by board w.net
            (first_enabled board (holds walk) 0 w.net.pins)) ≡ Some w.driver
            → first_enabled board (holds walk) 0 w.net.pins ≡ Some w.driver
        go true h = cc h
        go false h = inner (first_enabled board (holds walk) 0 w.net.pins) h

    not_undriven : feeding board states w.net ≡ Undriven → ⊥
    not_undriven e =
        by_at o.pin.at refl o.enabled
        (sym
        (ap (λ (x : Option ℕ). driver_feeds board row w.net x) first_is ∙ ap
        (λ (x : Option NetPin). pin_feeds board row w.driver x) o.stands)
        ∙ sym (feeding_is board row setting.safe places quiet_row chain held_row n w.net w.is_net o.unguarded) ∙ e)

    pub carries_mark : Carries w.driver w.net.pull (is_marked n) (feeding board states w.net)
    carries_mark =
        carries board row setting.safe n w.net (places.nets n w.net w.is_net) w.driver w.observing
        quiet_row chain held_row (is_marked n) refl

    driven_mark : feeding board states w.net ≡ Driven w.driver (is_marked n)
    driven_mark = by_carries carries_mark
      where
        by_carries : Carries w.driver w.net.pull (is_marked n) (feeding board states w.net)
            → feeding board states w.net ≡ Driven w.driver (is_marked n)
        by_carries (driven e) = e
        by_carries (pulled e p) = absurd (not_undriven e)

  -- the walk nets under the Or shorts of groups of walk nets
  module _ (groups : List (List ℕ)) (is_set : IsFaultSet board (or_shorts groups))
      (walked : (n k : ℕ) → group_of groups n ≡ Some k → WalkedBy board walk n) where
    abbrev faults : FaultSet
    faults = or_shorts groups

    no_open : NoOpenShorted faults
    no_open n k i e = refl

    -- the nets of short `k`, and the bits to which their drivers drive them
    module _ (k : ℕ) where
      abbrev nets : List (OfNet Net)
      nets = shorted_nets faults k 0 board.nets

      abbrev fs : List (OfNet Bool)
      fs = bits_fed board faults states nets

      fed_is : (x : OfNet Net) → Has nets x → numbered_value x.0 (fed faults x.0 (feeding board states x.1)) ≡ Some (x.0, is_marked x.0)
      fed_is x h =
          let s = shorted_is faults k 0 board.nets x h in
          let w = walked x.0 k s.short_is in
          let at : x.0 ≡ s.place = omega (arith, s.number_is) in
          let two : Some x.1 ≡ Some w.net = sym s.stands ∙ ap (λ (i : ℕ). slice_get board.nets i) (sym at) ∙ w.is_net in
          let same : x.1 ≡ w.net = cc two in
          ap (λ (net : Net). numbered_value x.0 (fed faults x.0 (feeding board states net))) same
          ∙ ap (λ (f : Feeding). numbered_value x.0 (fed faults x.0 f)) (driven_mark x.0 w)

      has_fed : (n : ℕ) → group_of groups n ≡ Some k → Has fs (n, is_marked n)
      has_fed n e =
          let w = walked n k e in
          let z : n ≡ 0 + n = omega arith in
          let h : Has nets (n, w.net) = is_shorted faults k 0 board.nets n w.net n w.is_net z e in
          has_filter_map
          (λ (x : OfNet Net). numbered_value x.0 (fed faults x.0 (feeding board states x.1)))
          nets (n, w.net) (n, is_marked n) h (fed_is (n, w.net) h)

      -- some net of the group carries 1
      abbrev HasMarked : Type 0
      HasMarked = (m : ℕ) × (group_of groups m ≡ Some k) × (is_marked m ≡ true)

      marked_of : list_any (λ b. b.1) fs ≡ true → HasMarked
      marked_of e =
          let a = any_has (λ (b : OfNet Bool). b.1) fs e in
          let f = filter_map_has (λ (x : OfNet Net). numbered_value x.0 (fed faults x.0 (feeding board states x.1))) nets a.0 a.1 in
          let two : Some (f.0.0, is_marked f.0.0) ≡ Some a.0 = sym (fed_is f.0 f.1) ∙ f.2 in
          let same : ◌≡◌ {A = OfNet Bool} (f.0.0, is_marked f.0.0) a.0 = cc two in
          (f.0.0, (shorted_is faults k 0 board.nets f.0 f.1).short_is, ap (λ (b : OfNet Bool). b.1) same ∙ a.2)

      of_marked : HasMarked → list_any (λ b. b.1) fs ≡ true
      of_marked (m, e, mark) = has_any (λ (b : OfNet Bool). b.1) fs (m, is_marked m) (has_fed m e) mark

      short_is : (n : ℕ) → group_of groups n ≡ Some k → (free : Bool) → short_bit board faults states free k ≡ list_any (λ b. b.1) fs
      short_is n e free =
          ap (λ (b : Bool). cond b (first_combined Or fs (bits_held board faults states nets) free) free)
          (all_decided board row setting.safe places quiet_row chain held_row faults is_set no_open k)
          ∙ or_of fs (bits_held board faults states nets) (n, is_marked n) free (has_fed n e)

    -- A compared cell of net `n` captures 1 if net `n` is the net that carries 1 or is in one group with that net. Otherwise the cell
    -- captures 0.
    module _ (n : ℕ) (w : WalkedBy board walk n) (one : ℕ) (marked : (m : ℕ) → WalkedBy board walk m → is_marked m ≡ (m == one)) where
      net_bit_is : (shorts : ℕ → Bool) → net_bit board faults states shorts n w.net ≡ Some (are_joined groups n one)
      net_bit_is shorts = by_group (group_of groups n) refl
        where
          by_one : (k : ℕ) → group_of groups n ≡ Some k → (x : Option ℕ) → group_of groups one ≡ x
              → list_any (λ b. b.1) (fs k) ≡ ((n == one) || is_in_short x k)
          by_one k e x f =
              same_answer (list_any (λ b. b.1) (fs k)) ((n == one) || is_in_short x k)
              (λ any. to (marked_of k any)) (λ h. of_marked k (from h))
            where
              to : HasMarked k → ((n == one) || is_in_short x k) ≡ true
              to (m, g, mark) =
                  let same : m ≡ one = eqb-true m one (sym (marked m (walked m k g)) ∙ mark) in
                  let here : x ≡ Some k = sym f ∙ ap (λ (i : ℕ). group_of groups i) (sym same) ∙ g in
                  Rattle.std.proofs.lemmas.Bool.or_right (n == one) (is_in_short x k)
                  (ap (λ (y : Option ℕ). is_in_short y k) here ∙ eq-eqb k k refl)

              in_group : (y : Option ℕ) → group_of groups one ≡ y → is_in_short y k ≡ true → HasMarked k
              in_group None g t = cc t
              in_group (Some i) g t =
                  let here : group_of groups one ≡ Some k = g ∙ ap (λ (h : ℕ). Some h) (eqb-true i k t) in
                  (one, here, marked one (walked one k here) ∙ eq-eqb one one refl)

              from : ((n == one) || is_in_short x k) ≡ true → HasMarked k
              from h = by_case (Rattle.std.proofs.lemmas.Bool.or_cases (n == one) (is_in_short x k) h)
                where
                  by_case : ((n == one) ≡ true) ⊎ (is_in_short x k ≡ true) → HasMarked k
                  by_case (inl same) = (n, e, marked n w ∙ same)
                  by_case (inr t) = in_group x f t

          or_none : (b : Bool) → (b || false) ≡ b
          or_none true = refl
          or_none false = refl

          by_group : (x : Option ℕ) → group_of groups n ≡ x
              → net_bit_by board faults states shorts n w.net None x
              ≡ Some ((n == one) || is_one_group x (group_of groups one))
          by_group None e =
              plain_is faults w.driver n w.net.pull (is_marked n) (feeding board states w.net) (carries_mark n w)
              ∙ ap (λ (b : Bool). Some b) (marked n w ∙ sym (or_none (n == one)))
          by_group (Some k) e = ap (λ (b : Bool). Some b) (short_is k n e (shorts k) ∙ by_one k e (group_of groups one) refl)

      pub cell_is : (c : Compared board (holds walk) n w.net) (choice : Choice)
          → captured_cell board faults (row_states board row) choice c.k c.device c.cell
          ≡ are_joined groups n one
      cell_is c choice =
          let at : PinAt = record { part = c.k; bit = c.bit } in
          let ne : c.place ≢ c.driver = λ e. both_ways (c.driver == c.place) c.other (eq-eqb c.driver c.place (sym e)) in
          let dead : live_where board states (Some at) ≡ false =
          sym (ap (λ (x : Option PinAt). live_where board states x) c.pin_at)
          ∙ dead_at board row setting.safe n w.net (places.nets n w.net w.is_net) c.driver
          c.observing_is quiet_row chain held_row c.place c.pin c.pin_is ne in
          subst
          (λ (all : List PinState). captured_cell board faults all choice c.k c.device c.cell
          ≡ are_joined groups n one) (all_show board row 0 board.chain)
          (captures board faults (holds walk) n w.net states choice.shorts ((choice.parts c.k).cells c.cell) c dead
          ∙ ap (λ (b : Option Bool). unwrap_or b ((choice.parts c.k).cells c.cell)) (net_bit_is choice.shorts))
