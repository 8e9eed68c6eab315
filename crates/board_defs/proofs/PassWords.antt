-- The Boolean functions that choose the passes agree with the definitions of their terms.
use Rattle.std.proofs.Common.{◌≡◌, ℕ, ◌+◌, ◌<◌, ◌==◌, true, false, ◌&&◌, List, [], Option, Some, None, refl, sym, ◌∙◌, ap, subst, arith}
use Rattle.std.specs.Prelude.{slice_get, option_and_then, IsTrue, nat_lt, Contains, ◌↔◌}
use Rattle.std.specs.Bool.{Decides}
use Rattle.std.specs.List.{list_any, enumerate_from, range_with_len}
use Rattle.std.proofs.lemmas.Bool.{both_ways, not-true, not_from_false, false_from_ne_true, and_from, or_left, or_right, eq-eqb, lt-ltb}
use Rattle.board_defs.specs.declared.board.PartKind.{PartKind}
use Rattle.board_defs.specs.declared.board.PartKind.TheVariants.{Described, Bypass}
use Rattle.board_defs.specs.declared.board.Part.{Part}
use Rattle.board_defs.specs.declared.board.NetPin.{NetPin}
use Rattle.board_defs.specs.declared.board.Net.{Net}
use Rattle.board_defs.specs.declared.board.Ctl.{Ctl}
use Rattle.board_defs.specs.declared.board.RawBoard.{RawBoard}
use Rattle.board_defs.specs.declared.board.Drive.{Drive}
use Rattle.board_defs.specs.declared.board.Drive.TheVariants.{AlwaysOn, OneSided, By}
use Rattle.board_defs.specs.BoardRules.{Stands, IsBoard}
use Rattle.board_defs.specs.Pins.{described, cell_count, IsCell, drive}
use Rattle.board_defs.specs.Settings.{same_ctl, precedes, holds, enables, IsInControlOrder, IsSafe}
use Rattle.board_defs.specs.Coverage.{IsTestedDriver, IsUseful, AreTogether}
use Rattle.board_defs.specs.Decided.{can_enable, is_useful, are_together, are_compatible, place_drive, drive_in}
use Rattle.board_defs.specs.Passes.{cells_of, all_cells, useful_controls, tested_drivers, is_enabled, with_driver, joins_setting, is_new, SomePass}
use Rattle.board_defs.specs.Laws.{HasTestedDriver, ControlsNew, SaysPasses}
use Rattle.board_defs.proofs.Members.{Has, has_at, has_place, has_contains, contains_has, has_map, map_has, has_flat_map, has_filter, filter_has, has_range, has_enumerate, any_has, has_any, all_has, has_all}
use Rattle.board_defs.proofs.Ordered.{InOrder, order_pairs, order_flat_map, order_filter, order_map, order_range, order_enumerate}
use Rattle.board_defs.proofs.ControlOrder.{same_equal, same_refl}
use Rattle.board_defs.proofs.BoardLemmas.{control_is_cell}
use Rattle.board_defs.proofs.Driving.{by_enables, always_enables}
use Rattle.board_defs.proofs.SafeSettings.{together_safe, safe_together}
use Rattle.board_defs.proofs.Covered.{tested_can, tested_driver_is, tested_driver_true, drives_pin, useful_is, useful_true, safe_compatible}
use Rattle.board_defs.proofs.PassSettings.{safe_setting, both_together, with_enables, with_keeps}
use Rattle.board_defs.proofs.PassesKept.{Tested, tested_has, has_tested, enabled_needs, shows_observes, observes_shows}

precedes_part : (a b : Ctl) → a.part < b.part → precedes a b ≡ true
precedes_part a b less = or_left (nat_lt a.part b.part) ((a.part == b.part) && nat_lt a.cell b.cell) (lt-ltb a.part b.part less)

precedes_cell : (part x y : ℕ) → x < y → precedes (record { part = part; cell = x }) (record { part = part; cell = y }) ≡ true
precedes_cell part x y less =
    or_right (nat_lt part part) ((part == part) && nat_lt x y)
    (and_from (part == part) (nat_lt x y) (eq-eqb part part refl) (lt-ltb x y less))

abbrev Before : Ctl → Ctl → Type 0
Before a b = IsTrue (precedes a b)

cells_order : (k : ℕ) (kind : PartKind) → InOrder Before (cells_of k kind)
cells_order k (Described device) =
    order_map (λ (x y : ℕ). x < y) Before
    (λ cell. let c : Ctl = record { part = k; cell = cell } in c) (range_with_len 0 device.boundary)
    (λ x y less. precedes_cell k x y less) (order_range 0 device.boundary)
cells_order k (Bypass n) = tt

cells_part : (k : ℕ) (kind : PartKind) (c : Ctl) → Has (cells_of k kind) c → c.part ≡ k
cells_part k (Described device) c h =
    let r = map_has (λ cell. let v : Ctl = record { part = k; cell = cell } in v)
    (range_with_len 0 device.boundary) c h in
    ap (λ (v : Ctl). v.part) (sym r.2)
cells_part k (Bypass n) c h = absurd h

all_order : (board : RawBoard) → InOrder Before (all_cells board)
all_order board =
    order_flat_map (λ (p q : ℕ × Part). p.0 < q.0) Before (λ part. cells_of part.0 part.1.kind)
    (enumerate_from 0 board.chain) (order_enumerate 0 board.chain)
    (λ part h. cells_order part.0 part.1.kind)
    (λ p q less a b ha hb. across p q less a b (cells_part p.0 p.1.kind a ha) (cells_part q.0 q.1.kind b hb))
  where
    across : (p q : ℕ × Part) → p.0 < q.0 → (a b : Ctl) → a.part ≡ p.0 → b.part ≡ q.0 → precedes a b ≡ true
    across p q less a b ea eb = precedes_part a b (omega (arith, ea, eb))

useful_order : (board : RawBoard) → IsInControlOrder (useful_controls board)
useful_order board = order_pairs Before (useful_controls board) (order_filter Before (is_useful board) (all_cells board) (all_order board))

cell_has : (board : RawBoard) (c : Ctl) → IsCell board c → Has (all_cells board) c
cell_has board c h = by_part (slice_get board.chain c.part) refl h
  where
    by_kind : (part : Part) → slice_get board.chain c.part ≡ Some part → (kind : PartKind)
        → part.kind ≡ kind → c.cell < cell_count (described kind) → Has (all_cells board) c
    by_kind part e (Bypass n) k less = absurd (omega arith)
    by_kind part e (Described device) k less =
        let at : 0 + c.part ≡ c.part = omega arith in
        let P : ℕ → Type 0 = λ m. Has (enumerate_from 0 board.chain) (m, part) in
        let Q : PartKind → Type 0 = λ v. Has (cells_of c.part v) c in
        has_flat_map (λ (p : ℕ × Part). cells_of p.0 p.1.kind) (enumerate_from 0 board.chain)
        (c.part, part) c (subst P at (has_enumerate 0 board.chain c.part part e))
        (subst Q (sym k)
        (has_map (λ cell. let v : Ctl = record { part = c.part; cell = cell } in v)
        (range_with_len 0 device.boundary) c.cell
        (has_range 0 device.boundary c.cell (omega arith) (omega arith))))

    by_part : (w : Option Part) → slice_get board.chain c.part ≡ w
        → c.cell < cell_count (option_and_then (λ (p : Part). described p.kind) w)
        → Has (all_cells board) c
    by_part None e less = absurd (omega arith)
    by_part (Some part) e less = by_kind part e part.kind refl less

useful_held : (board : RawBoard) → IsBoard board → (c : Ctl) → Decides (holds (useful_controls board) c) (IsUseful board c)
useful_held board rules c = (is, held)
  where
    is : holds (useful_controls board) c ≡ true → IsUseful board c
    is h =
        let r = any_has (same_ctl c) (useful_controls board) h in
        let P : Ctl → Type 0 = λ v. IsUseful board v in
        subst P (sym (same_equal c r.0 r.2)) (useful_is board r.0 rules (filter_has (is_useful board) (all_cells board) r.0 r.1).1)

    held : IsUseful board c → holds (useful_controls board) c ≡ true
    held (safe, n, net, place, pin, en, ep, d, t) =
        has_any (same_ctl c) (useful_controls board) c
        (has_filter (is_useful board) (all_cells board) c
        (cell_has board c (control_is_cell board net pin c rules d))
        (useful_true board c rules (safe, n, net, place, pin, en, ep, d, t)))
        (same_refl c)

drivers_are : (board : RawBoard) → IsBoard board → (n : ℕ) (net : Net) (d : Drive)
    → slice_get board.nets n ≡ Some net
    → Contains (tested_drivers board net) d ↔ HasTestedDriver board n net d
drivers_are board rules n net d en = (λ h. is (tested_has board net d (contains_has (tested_drivers board net) d h)), listed)
  where
    is : Tested board net d → HasTestedDriver board n net d
    is t =
        let p = drives_pin board net (slice_get net.pins t.place) (tested_can board net t.place t.tested) in
        record {
          place = t.place;
          pin = p.0;
          stands = record { on_board = en; in_net = p.1 };
          drives =
              sym (ap (drive_in board net) p.1)
              ∙ t.drives;
          tested = tested_driver_is board n net t.place rules en t.tested;
        }

    listed : HasTestedDriver board n net d → Contains (tested_drivers board net) d
    listed t =
        has_contains (tested_drivers board net) d
        (has_tested board net t.place d (tested_driver_true board n net t.place rules en t.tested)
        (ap (drive_in board net) t.stands.in_net ∙ t.drives))

driver_enabled : (board : RawBoard) → IsBoard board
    → (n : ℕ) (net : Net) (place : ℕ) (pin : NetPin) (d : Drive) (pass : List Ctl)
    → Stands board n net place pin → IsTestedDriver board n place → drive board net pin ≡ Some d
    → is_enabled pass d ≡ enables board (holds pass) pin
driver_enabled board rules n net place pin AlwaysOn pass st t e = sym (always_enables board net pin e (holds pass))
driver_enabled board rules n net place pin (By c) pass st t e = sym (by_enables board net pin c e (holds pass))
driver_enabled board rules n net place pin OneSided pass st t e =
    let can : can_enable board (place_drive board net place)
    ≡ true = tested_can board net place
    (tested_driver_true board n net place rules st.on_board t) in
    let wrong : false ≡ true = sym (ap (can_enable board) (ap (drive_in board net) st.in_net ∙ e)) ∙ can in
    cc wrong

fits_setting : (board : RawBoard) → IsBoard board → (setting : List Ctl) (c : Ctl)
    → Decides (joins_setting board setting c)
    ((d : Ctl) → holds setting d ≡ true → AreTogether board c d)
fits_setting board rules setting c = (
  λ h d k. let r =
      any_has (same_ctl d) setting k in
      let P : Ctl → Type 0 = λ v. AreTogether board c v in
      subst P (sym (same_equal d r.0 r.2))
      (together_safe board c r.0 rules (all_has (are_together board c) setting r.0 h r.1)),
  λ all. has_all (are_together board c) setting (λ d m. safe_together board c d (all d (has_any (same_ctl d) setting d m (same_refl d)))),
)

new_control : (board : RawBoard) (earlier : List (List Ctl)) (c : Ctl) → IsUseful board c
    → Decides (is_new earlier c) (ControlsNew board earlier c)
new_control board earlier c (safe, n, net, place, pin, en, ep, d, t) = (is, new)
  where
    is : is_new earlier c ≡ true → ControlsNew board earlier c
    is h = record {
      n = n;
      net = net;
      place = place;
      pin = pin;
      stands = record { on_board = en; in_net = ep };
      drives = d;
      tested = t;
      new =
          λ some. both_ways (list_any (λ (pass : List Ctl). holds pass c) earlier)
          (not-true (list_any (λ (pass : List Ctl). holds pass c) earlier) h) (held some);
    }
      where
        held : SomePass earlier (λ setting. enables board setting pin ≡ true) → list_any (λ (pass : List Ctl). holds pass c) earlier ≡ true
        held (x, pass, e, on) =
            has_any (λ (q : List Ctl). holds q c) earlier pass (has_at earlier x pass e)
            (sym (by_enables board net pin c d (holds pass)) ∙ on)

    new : ControlsNew board earlier c → is_new earlier c ≡ true
    new k = not_from_false (list_any (λ (pass : List Ctl). holds pass c) earlier)
        (false_from_ne_true (list_any (λ (pass : List Ctl). holds pass c) earlier) (λ h.
        let r = any_has (λ (pass : List Ctl). holds pass c) earlier h in
        let p = has_place earlier r.0 r.1 in
        k.new (p.0, r.0, p.1, by_enables board k.net k.pin c k.drives (holds r.0) ∙ r.2)))

pair_compatible : (board : RawBoard) → IsBoard board → (m n : ℕ) (a b : Net) (d e : Drive)
    → HasTestedDriver board m a d → HasTestedDriver board n b e
    → Decides (are_compatible board (Some d) (Some e))
    (IsSafe board (holds (with_driver (with_driver [] d) e)))
pair_compatible board rules m n a b d e s t = (
  λ h. safe_setting board (with_driver (with_driver [] d) e) rules
      (both_together board d e rules h),
  λ safe. compatible safe,
)
  where
    can_be : (k : ℕ) (net : Net) (v : Drive) → HasTestedDriver board k net v → can_enable board (Some v) ≡ true
    can_be k net v h =
        sym (ap (can_enable board) (ap (drive_in board net) h.stands.in_net ∙ h.drives))
        ∙ tested_can board net h.place
        (tested_driver_true board k net h.place rules h.stands.on_board h.tested)

    compatible : IsSafe board (holds (with_driver (with_driver [] d) e)) → are_compatible board (Some d) (Some e) ≡ true
    compatible safe =
        let start : List Ctl = with_driver (with_driver [] d) e in
        safe_compatible board (holds start) (Some d) (Some e) safe (can_be m a d s) (can_be n b e t)
        (enabled_needs start (Some d) d refl (with_keeps (with_driver [] d) e d (with_enables [] d board (can_be m a d s))))
        (enabled_needs start (Some e) e refl (with_enables (with_driver [] d) e board (can_be n b e t)))

pub passes_said : (board : RawBoard) → IsBoard board → SaysPasses board
passes_said board rules = record {
  useful_in_order = useful_order board;
  useful = useful_held board rules;
  drivers = drivers_are board rules;
  enabled = driver_enabled board rules;
  fits_all = fits_setting board rules;
  new = new_control board;
  shown = λ n net pass en safe. ((λ h. (net, en, shows_observes board net pass h)), observes_shows board n net pass rules safe en);
  compatible = pair_compatible board rules;
}
