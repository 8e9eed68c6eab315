-- While a row is in the latches, the driver that the row enables drives an unguarded net to the bit of the
-- driver's cell. If the driver's own cell controls it and has the disable value, the net is undriven.
use Rattle.std.proofs.Common.{◌≡◌, ℕ, zero, suc, ◌+◌, ◌==◌, Bool, true, false, cond, not, ◌&&◌, List, [], ◌∷◌, Option, Some, None, refl, sym, ◌∙◌, ap, subst, arith}
use Rattle.std.specs.Prelude.{slice_get, unwrap_or, option_map, option_and_then}
use Rattle.std.specs.List.{list_all}
use Rattle.std.proofs.lemmas.Bool.{both_ways, false_from_ne_true, eqb-true}
use Rattle.board_defs.specs.declared.device.Control.{Control}
use Rattle.board_defs.specs.declared.device.Cell.{Cell}
use Rattle.board_defs.specs.declared.device.RawDevice.{RawDevice}
use Rattle.board_defs.specs.declared.board.PinAt.{PinAt}
use Rattle.board_defs.specs.declared.board.PartKind.TheVariants.{Described}
use Rattle.board_defs.specs.declared.board.Part.{Part}
use Rattle.board_defs.specs.declared.board.NetPin.{NetPin}
use Rattle.board_defs.specs.declared.board.Net.{Net}
use Rattle.board_defs.specs.declared.board.RawBoard.{RawBoard}
use Rattle.board_defs.specs.BoardRules.{IsBoard}
use Rattle.board_defs.specs.DeviceRules.{drives_bit, driving_entry}
use Rattle.board_defs.specs.Pins.{described, device_at, entry_at, guarded, is_same, is_pinned}
use Rattle.board_defs.specs.Settings.{Enabling, IsSafe, enables, enables_where, enables_entry, enables_by}
use Rattle.tap_defs.specs.chain.Part.{PinState}
use Rattle.tap_defs.specs.chain.Chain.{ChainPart, pin_states}
use Rattle.tap_defs.specs.board.NetBits.{latch, is_on_by, live, live_where, live_entry, driver_bit, extest_where, ruled, Feeding, Undriven, Unruled, Driven, with_pin, feeding_from, feeding}
use Rattle.tap_defs.specs.board.TestRows.{TestRow, quiet_row, first_enabled, row_bit}
use Rattle.tap_defs.specs.board.RowCaptures.{row_states}
use Rattle.tap_defs.specs.board.RowDriving.{cell_bit, is_switched_off, entry_feeds, at_feeds, pin_feeds, driver_feeds, row_feeding}
use Rattle.tap_defs.proofs.board.InTestLemmas.{InTest, shifted_row}
use Rattle.tap_defs.proofs.board.LiveLemmas.{IsWired, found, latch_is, extest_is, control_on}
use Rattle.tap_defs.proofs.board.FeedingLemmas.{PinRules, apart, placed, first_at, all_dead, feeding_one, all_pass}
use Rattle.tap_defs.proofs.board.QuietLemmas.{BoardRules, live_on}
use Rattle.tap_defs.proofs.board.NetRuleLemmas.{board_rules}
use Rattle.tap_defs.proofs.board.FixedLemmas.{under_extest}
use Rattle.tap_defs.proofs.board.OneResponseLemmas.{holding_chain, held_in_test, all_show}

none_enabled : (board : RawBoard) (setting : Enabling) (m : ℕ) (ps : List NetPin) → first_enabled board setting m ps ≡ None →
    (i : ℕ) (p : NetPin) → slice_get ps i ≡ Some p → enables board setting p ≡ false
none_enabled board setting m [] e i p ep = cc ep
none_enabled board setting m (q ∷ ps) e i p ep =
    by_test (λ rest j y ey. none_enabled board setting (suc m) ps rest j y ey)
    (enables board setting q) refl e i ep
  where
    by_place : (enables board setting q ≡ false) → ((j : ℕ) (y : NetPin) → slice_get ps j ≡ Some y → enables board setting y ≡ false) →
        (i : ℕ) → slice_get (q ∷ ps) i ≡ Some p → enables board setting p ≡ false
    by_place off rest zero ep = let same : q ≡ p = cc ep in sym (ap (λ (y : NetPin). enables board setting y) same) ∙ off
    by_place off rest (suc i) ep = rest i p ep

    by_test :
        (first_enabled board setting (suc m) ps ≡ None → (j : ℕ) (y : NetPin)
        → slice_get ps j ≡ Some y → enables board setting y ≡ false) →
        (b : Bool) → enables board setting q ≡ b
        → cond b (Some m) (first_enabled board setting (suc m) ps) ≡ None → (i : ℕ)
        → slice_get (q ∷ ps) i ≡ Some p → enables board setting p ≡ false
    by_test ih true off e i ep = cc e
    by_test ih false off e i ep = by_place off (ih e) i ep

counted_is : (x : Bool) (d : ℕ) (bit : Bool) → with_pin (not x) d bit Undriven ≡ cond x Undriven (Driven d bit)
counted_is true d bit = refl
counted_is false d bit = refl

not_self : (b : Bool) → not (is_same (not b) b) ≡ true
not_self true = refl
not_self false = refl

module _ (board : RawBoard) (row : TestRow) (safe : IsSafe board row.setting)
    (rules : BoardRules board) (before : TestRow) (chain : List ChainPart)
    (h : InTest board (shifted_row board (record { now = row; before = before })) chain) (n : ℕ)
    (net : Net) (en : slice_get board.nets n ≡ Some net) (unguarded : guarded board net ≡ false)
  where
    ruled_is : ruled board (pin_states chain) net ≡ true
    ruled_is =
        ap (λ (b : Bool). not b && list_all (λ p. extest_where (pin_states chain) p.at) net.pins) unguarded
        ∙ all_pass (λ p. extest_where (pin_states chain) p.at) net.pins
        (λ i p e. under_extest board row safe rules before chain h n net i p
        ((rules.nets n net en).pins i p e))

    from_pins : (f : Feeding) → feeding_from board (pin_states chain) 0 net.pins ≡ f → feeding board (pin_states chain) net ≡ f
    from_pins f e = ap (λ (b : Bool). cond b (feeding_from board (pin_states chain) 0 net.pins) Unruled) ruled_is ∙ e

    not_live : (i : ℕ) (p : NetPin) → slice_get net.pins i ≡ Some p → enables board row.setting p ≡ false →
        live board (pin_states chain) p ≡ false
    not_live i p ep off =
        false_from_ne_true (live board (pin_states chain) p)
        (λ on. both_ways (enables board row.setting p) off
        (live_on board row safe rules before chain h n net i p en ep on))

    -- No other driver of the net is live, so the enabled driver alone decides how the net is driven. It is not live either
    -- if its control cell is its own cell and has the disable value.
    module _ (d : ℕ) (pin : NetPin) (stands : slice_get net.pins d ≡ Some pin) (enabled : enables board row.setting pin ≡ true) where
      alone_is : feeding_from board (pin_states chain) 0 net.pins
          ≡ with_pin (live board (pin_states chain) pin) d
          (driver_bit board (pin_states chain) pin.at) Undriven
      alone_is =
          let z : 0 + d ≡ d = omega arith in
          feeding_one board (pin_states chain) 0 d net.pins pin stands
          (λ i p e ne. not_live i p e
          (false_from_ne_true (enables board row.setting p)
          (λ on. safe.one n net i d p pin en e stands ne on enabled)))
          ∙ ap (λ (x : ℕ). with_pin (live board (pin_states chain) pin) x (driver_bit board (pin_states chain) pin.at) Undriven) z

      module _ (at : PinAt) (part : Part) (device : RawDevice) (at_is : pin.at ≡ Some at)
          (ek : slice_get board.chain at.part ≡ Some part) (ed : part.kind ≡ Described device)
          (wired : IsWired device) (pinned : is_pinned board at ≡ true) where
        dev : device_at board at.part ≡ Some device
        dev = ap (λ (o : Option Part). option_and_then (λ p. described p.kind) o) ek ∙ ap described ed

        entry_is : entry_at board at ≡ driving_entry device at.bit
        entry_is = ap (λ (o : Option RawDevice). option_and_then (λ x. driving_entry x at.bit) o) dev

        on_entry : enables_entry row.setting at.part (driving_entry device at.bit) ≡ true
        on_entry =
            sym (ap (λ (o : Option Cell). enables_entry row.setting at.part o) entry_is)
            ∙ sym (ap (λ (o : Option PinAt). enables_where board row.setting o) at_is)
            ∙ enabled

        module _ (e : Cell) (i : ℕ) (de : drives_bit at.bit e ≡ true) (ei : slice_get device.cells i ≡ Some e) where
          latch_num : latch (pin_states chain) at.part e.num ≡ row_bit board row at.part device e.num
          latch_num =
              latch_is board (record { now = row; before = before }) chain at.part part device h ek
              ed e.num (wired.num_below i e ei)

          on_by : (o : Option Control) → e.ctl ≡ o → enables_by row.setting at.part o ≡ true →
              is_on_by (pin_states chain) at.part o ≡ not (is_switched_off (row_bit board row at.part device e.num) e o)
          on_by None q on = refl
          on_by (Some control) q on = by_own (control.cell == e.num) refl
            where
              by_own : (b : Bool) → (control.cell == e.num) ≡ b →
                  not (is_same (latch (pin_states chain) at.part control.cell) control.disable)
                  ≡ not (b && is_same (row_bit board row at.part device e.num) control.disable)
              by_own true x =
                  ap (λ (c : ℕ). not (is_same (latch (pin_states chain) at.part c) control.disable)) (eqb-true control.cell e.num x)
                  ∙ ap (λ (b : Bool). not (is_same b control.disable)) latch_num
              by_own false x =
                  ap (λ (b : Bool). not (is_same b control.disable))
                  (control_on board row before chain at part device h ek ed wired pinned e i de ei
                  control q on x)
                  ∙ not_self control.disable

        by_entry : (o : Option Cell) → driving_entry device at.bit ≡ o → enables_entry row.setting at.part o ≡ true →
            with_pin (live_entry (pin_states chain) at.part o) d
            (unwrap_or (option_map (λ cell. latch (pin_states chain) at.part cell.num) o) false)
            Undriven ≡ entry_feeds board row at d o
        by_entry None z on = cc on
        by_entry (Some e) z on =
            let f = found (drives_bit at.bit) device.cells e z in
            let bit : Bool = row_bit board row at.part device e.num in
            ap
            (λ (b : Bool). with_pin (b && is_on_by (pin_states chain) at.part e.ctl) d
            (latch (pin_states chain) at.part e.num) Undriven)
            (extest_is board (record { now = row; before = before }) chain at.part part device h
            ek ed)
            ∙ ap (λ (b : Bool). with_pin b d (latch (pin_states chain) at.part e.num) Undriven) (on_by e f.1.0 f.0 f.1.1 e.ctl refl on)
            ∙ ap (λ (b : Bool). with_pin (not (is_switched_off bit e e.ctl)) d b Undriven) (latch_num e f.1.0 f.0 f.1.1)
            ∙ counted_is (is_switched_off bit e e.ctl) d bit
            ∙ sym
            (ap
            (λ (o : Option RawDevice). cond
            (is_switched_off (cell_bit board row at.part o e.num) e e.ctl) Undriven
            (Driven d (cell_bit board row at.part o e.num))) dev)

        feeds : with_pin (live board (pin_states chain) pin) d
            (driver_bit board (pin_states chain) pin.at) Undriven ≡ pin_feeds board row d (Some pin)
        feeds =
            ap
            (λ (o : Option PinAt). with_pin (live_where board (pin_states chain) o) d
            (driver_bit board (pin_states chain) o) Undriven) at_is
            ∙ ap
            (λ (o : Option Cell). with_pin (live_entry (pin_states chain) at.part o) d
            (unwrap_or (option_map (λ cell. latch (pin_states chain) at.part cell.num) o)
            false) Undriven) entry_is
            ∙ by_entry (driving_entry device at.bit) refl on_entry
            ∙ sym (ap (λ (o : Option Cell). entry_feeds board row at d o) entry_is)
            ∙ sym (ap (λ (o : Option PinAt). at_feeds board row d o) at_is)

      by_rules : PinRules board n net d pin →
          with_pin (live board (pin_states chain) pin) d (driver_bit board (pin_states chain) pin.at)
          Undriven ≡ pin_feeds board row d (Some pin)
      by_rules (apart a) =
          absurd
          (both_ways (enables board row.setting pin)
          (ap (λ (x : Option PinAt). enables_where board row.setting x) a) enabled)
      by_rules (placed at part device a ek ed wired pinned place) = feeds at part device a ek ed wired pinned

    by_first : (o : Option ℕ) → first_enabled board row.setting 0 net.pins ≡ o →
        feeding board (pin_states chain) net ≡ driver_feeds board row net o
    by_first None e =
        from_pins Undriven
        (all_dead board (pin_states chain) 0 net.pins
        (λ i p ep. not_live i p ep (none_enabled board row.setting 0 net.pins e i p ep)))
    by_first (Some d) e =
        let r = first_at board row.setting 0 d net.pins e in
        let z : r.0 ≡ d = omega (arith, r.2) in
        let stands : slice_get net.pins d ≡ Some r.1 = subst (λ (i : ℕ). slice_get net.pins i ≡ Some r.1) z r.3 in
        from_pins (pin_feeds board row d (slice_get net.pins d))
        (alone_is d r.1 stands r.4
        ∙ by_rules d r.1 stands r.4 ((rules.nets n net en).pins d r.1 stands)
        ∙ sym (ap (λ (o : Option NetPin). pin_feeds board row d o) stands))

    pub feeding_is : feeding board (pin_states chain) net ≡ row_feeding board row net
    feeding_is = by_first (first_enabled board row.setting 0 net.pins) refl

pub row_drives : (board : RawBoard) (row : TestRow) (n : ℕ) (net : Net) → IsBoard board → IsSafe board row.setting →
    slice_get board.nets n ≡ Some net → guarded board net ≡ false →
    feeding board (row_states board row) net ≡ row_feeding board row net
row_drives board row n net rules safe en unguarded =
    sym (ap (λ (s : List PinState). feeding board s net) (all_show board row 0 board.chain))
    ∙ feeding_is board row safe (board_rules board rules) quiet_row
    (holding_chain board row 0 board.chain) (held_in_test board row) n net en unguarded
