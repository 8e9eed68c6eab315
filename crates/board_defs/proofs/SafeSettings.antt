-- The tests of single controls and of pairs of controls pass if and only if the settings of these controls are safe.
use Rattle.std.proofs.Common.{◌≡◌, ◌≢◌, ℕ, ◌<◌, ◌==◌, Bool, true, false, not, ◌&&◌, ◌||◌, length, Option, Some, None, refl, sym, ◌∙◌, ap, subst, ◌⊎◌, inl, inr, cond}
use Rattle.std.specs.Prelude.{slice_get, option_and_then, is_some}
use Rattle.std.specs.List.{list_any, list_all}
use Rattle.std.proofs.lemmas.Bool.{both_ways, not-true, not_from_false, false_from_ne_true, true_from_ne_false, and_parts, and_from, or_left, or_right, or_cases, eqb-true, eq-eqb}
use Rattle.std.proofs.lemmas.Option.{slice_get_within}
use Rattle.board_defs.specs.declared.device.Control.{Control}
use Rattle.board_defs.specs.declared.device.Cell.{Cell}
use Rattle.board_defs.specs.declared.device.PortBit.{PortBit}
use Rattle.board_defs.specs.declared.device.RawDevice.{RawDevice}
use Rattle.board_defs.specs.declared.board.PinAt.{PinAt}
use Rattle.board_defs.specs.declared.board.NetPin.{NetPin}
use Rattle.board_defs.specs.declared.board.Net.{Net}
use Rattle.board_defs.specs.declared.board.RawBoard.{RawBoard}
use Rattle.board_defs.specs.declared.board.Ctl.{Ctl}
use Rattle.board_defs.specs.declared.board.Drive.{Drive}
use Rattle.board_defs.specs.declared.board.Drive.TheVariants.{AlwaysOn, By}
use Rattle.board_defs.specs.Pins.{drive, guarded, entry_at, device_at, is_pinned, is_pulled_to, lets_switch}
use Rattle.board_defs.specs.Settings.{Enabling, same_ctl, just, both, enables, SwitchesAt, IsSafe}
use Rattle.board_defs.specs.BoardRules.{IsBoard, Stands}
use Rattle.board_defs.specs.Decided.{at_most_one, is_always_on, is_by, drives_net, is_closed, admits, is_at, is_switching, own_where, own_control, is_one_sided_by, count_port_bits, bit_count, enables_one_sided, is_safe_alone, share_net, are_together}
use Rattle.board_defs.proofs.ControlOrder.{same_equal, same_refl}
use Rattle.board_defs.proofs.Places.{Found, any_place, any_at, all_at, all_from, one_from, one_at, FoundBelow, below_place, below_at}
use Rattle.board_defs.proofs.BoardLemmas.{pins_once, pins_stand}
use Rattle.board_defs.proofs.Driving.{View, no_driver, always_on, by_control, one_sided, view, by_true, always_true, is_by_drive, is_always_drive, by_enables, always_enables}
use Rattle.board_defs.proofs.Pairwise.{safe_within}
use Rattle.board_defs.proofs.SameBits.{is_same_refl, same_of_is_same}

not_both : (a b : Bool) → (a ≡ true → b ≡ true → ⊥) → not (a && b) ≡ true
not_both true true h = absurd (h refl refl)
not_both true false h = refl
not_both false b h = refl

-- every driver that the setting enables by its own cell is a switching driver, whether or not it is on a net
abbrev pub OwnSwitches : RawBoard → Enabling → Type 0
OwnSwitches board s =
    (at : PinAt) (cell : Cell) (control : Control) → is_pinned board at ≡ true
    → entry_at board at ≡ Some cell → cell.ctl ≡ Some control → control.cell ≡ cell.num
    → s (record { part = at.part; cell = control.cell }) ≡ true
    → SwitchesAt board at control.disable

pulled_true : (value : Bool) (pull : Option Bool) → pull ≡ Some value → is_pulled_to value pull ≡ true
pulled_true value pull h = ap (is_pulled_to value) h ∙ is_same_refl value

pulled_some : (value : Bool) (pull : Option Bool) → is_pulled_to value pull ≡ true → pull ≡ Some value
pulled_some value None h = cc h
pulled_some value (Some b) h = ap Some (sym (same_of_is_same value b h))

pub one_sided_off : (board : RawBoard) (s : Enabling) → IsBoard board → OwnSwitches board s
    → (n : ℕ) (net : Net) (i : ℕ) (p : NetPin) → Stands board n net i p →
    (at : PinAt) (cell : Cell) (control : Control) → p.at ≡ Some at → entry_at board at ≡ Some cell
    → cell.ctl ≡ Some control → control.cell ≡ cell.num
    → lets_switch board net control.disable ≡ false
    → s (record { part = at.part; cell = control.cell }) ≡ true → ⊥
one_sided_off board s rules own n net i p st at cell control pa e k o w on =
    from (own at cell control (pins_stand board rules n net i p at st.on_board st.in_net pa) e k o on)
  where
    from : SwitchesAt board at control.disable → ⊥
    from (m, other, j, q, em, ej, qa, g, pull) =
        let places : (n ≡ m) × (i ≡ j) = pins_once board rules n m net other i j p q at st.on_board em st.in_net ej pa qa in
        let got : slice_get board.nets n ≡ Some other = ap (slice_get board.nets) places.0 ∙ em in
        let two : Some net ≡ Some other = sym st.on_board ∙ got in
        let same : net ≡ other = cc in
        both_ways (not (guarded board net) && is_pulled_to control.disable net.pull) w
        (and_from (not (guarded board net)) (is_pulled_to control.disable net.pull)
        (not_from_false (guarded board net) (ap (guarded board) same ∙ g))
        (pulled_true control.disable net.pull (ap (λ (v : Net). v.pull) same ∙ pull)))

own_where_is : (cell : Cell) (ctl : Option Control) (control : Control)
    → own_where cell ctl ≡ Some control → (ctl ≡ Some control) × (control.cell ≡ cell.num)
own_where_is cell None control h = cc h
own_where_is cell (Some k) control h = by_test (k.cell == cell.num) refl h
  where
    by_test : (b : Bool) → (k.cell == cell.num) ≡ b → cond b (Some k) None ≡ Some control
        → (Some k ≡ Some control) × (control.cell ≡ cell.num)
    by_test true e g = let same : k ≡ control = cc in (g, sym (ap (λ (v : Control). v.cell) same) ∙ eqb-true k.cell cell.num e)
    by_test false e g = cc g

own_where_of : (cell : Cell) (control : Control) → control.cell ≡ cell.num → own_where cell (Some control) ≡ Some control
own_where_of cell control h =
    let t : (control.cell == cell.num)
    ≡ true = ap (λ n. control.cell == n) (sym h) ∙ (eq-eqb control.cell control.cell refl) in
    ap (λ b. cond b (Some control) None) t

own_control_of : (board : RawBoard) (at : PinAt) (cell : Cell) (control : Control)
    → entry_at board at ≡ Some cell → cell.ctl ≡ Some control → control.cell ≡ cell.num
    → own_control board at ≡ Some control
own_control_of board at cell control e k o =
    let F : Option Cell → Option Control = λ w. option_and_then (λ v. own_where v v.ctl) w in
    ap F e ∙ (let G : Option Control → Option Control = λ w. own_where cell w in ap G k) ∙ own_where_of cell control o

pinned_below : (board : RawBoard) (at : PinAt) → is_pinned board at ≡ true → at.bit < count_port_bits board at.part
pinned_below board at h = by_device (device_at board at.part) h
  where
    by_device : (device : Option RawDevice)
        → is_some
        (option_and_then (λ bit. bit.pin)
        (option_and_then (λ v. slice_get v.bits at.bit) device)) ≡ true → at.bit < bit_count device
    by_device None g = cc g
    by_device (Some device) g = by_bit (slice_get device.bits at.bit) refl g
      where
        by_bit : (bit : Option PortBit) → slice_get device.bits at.bit ≡ bit
            → is_some (option_and_then (λ b. b.pin) bit) ≡ true → at.bit < length device.bits
        by_bit None e g = cc g
        by_bit (Some bit) e g = slice_get_within device.bits at.bit bit e

is_at_same : (at b : PinAt) → ((b.part == at.part) && (b.bit == at.bit)) ≡ true → b ≡ at
is_at_same at b h =
    let p : b.part ≡ at.part = eqb-true b.part at.part ((and_parts (b.part == at.part) (b.bit == at.bit) h).0) in
    let c : b.bit ≡ at.bit = eqb-true b.bit at.bit ((and_parts (b.part == at.part) (b.bit == at.bit) h).1) in
    let P : ℕ → Type 0 = λ n. b ≡ record { part = n; bit = b.bit } in
    let Q : ℕ → Type 0 = λ n. b ≡ record { part = at.part; bit = n } in
    subst Q c (subst P p refl)

pub is_at_some : (at : PinAt) (place : Option PinAt) → is_at at place ≡ true → place ≡ Some at
is_at_some at None h = cc h
is_at_some at (Some b) h = ap Some (is_at_same at b h)

is_at_of : (at : PinAt) (place : Option PinAt) → place ≡ Some at → is_at at place ≡ true
is_at_of at place h =
    ap (is_at at) h
    ∙ and_from (at.part == at.part) (at.bit == at.bit) ((eq-eqb at.part at.part refl))
    ((eq-eqb at.bit at.bit refl))

pub switching_is : (board : RawBoard) (at : PinAt) (value : Bool) → is_switching board at value ≡ true → SwitchesAt board at value
switching_is board at value h =
    let a : Found
    (λ (net : Net). not (guarded board net) && is_pulled_to value net.pull
    && list_any (λ p. is_at at p.at) net.pins) board.nets = any_place _ board.nets h in
    let first =
    (and_parts (not (guarded board a.item) && is_pulled_to value a.item.pull)
    (list_any (λ (p : NetPin). is_at at p.at) a.item.pins) a.passes).0 in
    let b : Found (λ (p : NetPin). is_at at p.at) a.item.pins = any_place _ a.item.pins
    ((and_parts (not (guarded board a.item) && is_pulled_to value a.item.pull)
    (list_any (λ (p : NetPin). is_at at p.at) a.item.pins) a.passes).1) in (
      a.place,
      a.item,
      b.place,
      b.item,
      a.stands,
      b.stands,
      is_at_some at b.item.at b.passes,
      not-true (guarded board a.item) ((and_parts (not (guarded board a.item)) (is_pulled_to value a.item.pull) first).0),
      pulled_some value a.item.pull ((and_parts (not (guarded board a.item)) (is_pulled_to value a.item.pull) first).1),
    )

pub switching_of : (board : RawBoard) (at : PinAt) (value : Bool) → SwitchesAt board at value → is_switching board at value ≡ true
switching_of board at value (n, net, i, p, en, ei, pa, g, pull) =
    any_at (λ (v : Net). not (guarded board v) && is_pulled_to value v.pull && list_any (λ q. is_at at q.at) v.pins) board.nets n net en
    (and_from (not (guarded board net) && is_pulled_to value net.pull) (list_any (λ (q : NetPin). is_at at q.at) net.pins)
    (and_from (not (guarded board net)) (is_pulled_to value net.pull)
    (not_from_false (guarded board net) g) (pulled_true value net.pull pull))
    (any_at (λ (q : NetPin). is_at at q.at) net.pins i p ei (is_at_of at p.at pa)))

one_sided_by_is : (board : RawBoard) (cell : ℕ) (at : PinAt) (ctl : Option Control)
    (control : Control) → ctl ≡ Some control → control.cell ≡ cell → is_pinned board at ≡ true
    → is_switching board at control.disable ≡ false → is_one_sided_by board cell at ctl ≡ true
one_sided_by_is board cell at ctl control e c p w =
    ap (is_one_sided_by board cell at) e ∙
    and_from ((control.cell == cell) && is_pinned board at) (not (is_switching board at control.disable))
    (and_from (control.cell == cell) (is_pinned board at) (ap (λ n. control.cell == n) (sym c) ∙ (eq-eqb control.cell control.cell refl)) p)
    (not_from_false (is_switching board at control.disable) w)

pub own_from_test : (board : RawBoard) (c : Ctl) → enables_one_sided board c ≡ false → OwnSwitches board (just c)
own_from_test board c h at cell control pinned e k o on =
    let same : record { part = at.part; cell = control.cell } ≡ c = same_equal (record { part = at.part; cell = control.cell }) c on in
    switching_is board at control.disable (true_from_ne_false (is_switching board at control.disable) (λ w.
    both_ways (enables_one_sided board c) h (found same w)))
  where
    found : record { part = at.part; cell = control.cell } ≡ c
        → is_switching board at control.disable ≡ false → enables_one_sided board c ≡ true
    found same w =
        let part : at.part ≡ c.part = ap (λ (v : Ctl). v.part) same in
        let there : record { part = at.part; bit = at.bit }
        ≡ record { part = c.part; bit = at.bit } = ap
        (λ n. let a : PinAt = record { part = n; bit = at.bit } in a) part in
        let F : PinAt → Bool = λ a. is_one_sided_by board c.cell a (own_control board a) in
        below_at (count_port_bits board c.part) (λ bit. F (record { part = c.part; bit = bit })) at.bit
        (let P : ℕ → Type 0 = λ n. at.bit < count_port_bits board n in subst P part (pinned_below board at pinned))
        (ap F (sym there)
        ∙ one_sided_by_is board c.cell at (own_control board at) control
        (own_control_of board at cell control e k o) (ap (λ (v : Ctl). v.cell) same) pinned
        w)

pub test_from_own : (board : RawBoard) (c : Ctl) → OwnSwitches board (just c) → enables_one_sided board c ≡ false
test_from_own board c own = false_from_ne_true (enables_one_sided board c) (λ h. from (below_place _ _ h))
  where
    F : ℕ → Bool
    F = λ bit. let at : PinAt = record { part = c.part; bit = bit } in is_one_sided_by board c.cell at (own_control board at)

    by_entry : (at : PinAt) → at.part ≡ c.part → (entry : Option Cell) → entry_at board at ≡ entry
        → is_one_sided_by board c.cell at (option_and_then (λ v. own_where v v.ctl) entry) ≡ true
        → ⊥
    by_entry at part None e h = cc h
    by_entry at part (Some cell) e h = by_control (own_where cell cell.ctl) refl h
      where
        by_control : (ctl : Option Control) → own_where cell cell.ctl ≡ ctl → is_one_sided_by board c.cell at ctl ≡ true → ⊥
        by_control None k h = cc h
        by_control (Some control) k h =
            let is : (cell.ctl ≡ Some control) × (control.cell ≡ cell.num) = own_where_is cell cell.ctl control k in
            let first = (and_parts ((control.cell == c.cell) && is_pinned board at) (not (is_switching board at control.disable)) h).0 in
            let num : control.cell
            ≡ c.cell = eqb-true control.cell c.cell
            ((and_parts (control.cell == c.cell) (is_pinned board at) first).0) in
            let on : just c (record { part = at.part; cell = control.cell })
            ≡ true = and_from (at.part == c.part) (control.cell == c.cell)
            (ap (λ n. n == c.part) part ∙ (eq-eqb c.part c.part refl))
            (ap (λ n. n == c.cell) num ∙ (eq-eqb c.cell c.cell refl)) in
            let yes : SwitchesAt board at control.disable = own at cell control
            ((and_parts (control.cell == c.cell) (is_pinned board at) first).1) e is.0 is.1 on
            in
            both_ways (is_switching board at control.disable)
            (not-true (is_switching board at control.disable)
            ((and_parts ((control.cell == c.cell) && is_pinned board at)
            (not (is_switching board at control.disable)) h).1))
            (switching_of board at control.disable yes)

    from : FoundBelow (count_port_bits board c.part) F → ⊥
    from r = let at : PinAt = record { part = c.part; bit = r.number } in by_entry at refl (entry_at board at) refl r.passes

-- The conditions of safety on nets: no two controlled drivers of a net are enabled, and none is enabled on a net that is guarded or has an
-- always-on driver (`is_closed`). They suffice for a setting that enables no one-sided driver.
pub record NetsAdmit (board : RawBoard) (s : Enabling) : Type 0 where
  pub apart : (n : ℕ) (net : Net) (i j : ℕ) (p q : NetPin) (c d : Ctl)
      → slice_get board.nets n ≡ Some net → slice_get net.pins i ≡ Some p
      → slice_get net.pins j ≡ Some q → i ≢ j → drive board net p ≡ Some (By c)
      → drive board net q ≡ Some (By d) → s c ≡ true → s d ≡ true → ⊥
  pub opened : (n : ℕ) (net : Net) (i : ℕ) (p : NetPin) (c : Ctl)
      → slice_get board.nets n ≡ Some net → slice_get net.pins i ≡ Some p
      → drive board net p ≡ Some (By c) → s c ≡ true → is_closed board net ≡ false

places_differ : (board : RawBoard) (net : Net) (i j : ℕ) (p q : NetPin) (d e : Option Drive)
    → slice_get net.pins i ≡ Some p → slice_get net.pins j ≡ Some q → drive board net p ≡ d
    → drive board net q ≡ e → (d ≡ e → ⊥) → i ≢ j
places_differ board net i j p q d e ei ej dp dq ne same =
    let got : slice_get net.pins i ≡ Some q = ap (slice_get net.pins) same ∙ ej in
    let two : Some p ≡ Some q = sym ei ∙ got in
    let eq : p ≡ q = cc in
    ne (sym dp ∙ ap (drive board net) eq ∙ dq)

pub safe_from_nets : (board : RawBoard) (s : Enabling) → IsBoard board → NetsAdmit board s → OwnSwitches board s → IsSafe board s
safe_from_nets board s rules nets own = record {
  one = λ n net i j p q en ei ej ne ep eq. two n net i j p q en ei ej ne ep eq (view board net p) (view board net q);
  free =
      λ n net i p c en ei g d. false_from_ne_true (s c)
      (λ on. both_ways (is_closed board net) (nets.opened n net i p c en ei d on)
      (or_left (guarded board net) _ g));
  own = own;
}
  where
    two : (n : ℕ) (net : Net) (i j : ℕ) (p q : NetPin) → slice_get board.nets n ≡ Some net
        → slice_get net.pins i ≡ Some p → slice_get net.pins j ≡ Some q → i ≢ j
        → enables board s p ≡ true → enables board s q ≡ true → View board net p → View board net q
        → ⊥
    two n net i j p q en ei ej ne ep eq (no_driver d f) w = both_ways (enables board s p) (f s) ep
    two n net i j p q en ei ej ne ep eq (one_sided at cell control pa e k o sw d f) w =
        one_sided_off board s rules own n net i p (record { on_board = en; in_net = ei }) at cell
        control pa e k o sw (sym (f s) ∙ ep)
    two n net i j p q en ei ej ne ep eq (always_on d f) (no_driver dq fq) = both_ways (enables board s q) (fq s) eq
    two n net i j p q en ei ej ne ep eq (always_on d f)
        (one_sided at cell control pa e k o sw dq fq) =
        one_sided_off board s rules own n net j q (record { on_board = en; in_net = ej }) at cell
        control pa e k o sw (sym (fq s) ∙ eq)
    two n net i j p q en ei ej ne ep eq (always_on d f) (always_on dq fq) = rules.one_always_on n net i j p q en ei ej ne d dq
    two n net i j p q en ei ej ne ep eq (always_on d f) (by_control c dq fq) =
        both_ways (is_closed board net) (nets.opened n net j q c en ej dq (sym (fq s) ∙ eq))
        (or_right (guarded board net) _
        (any_at (λ (v : NetPin). is_always_on (drive board net v)) net.pins i p ei
        (is_always_drive (drive board net p) d)))
    two n net i j p q en ei ej ne ep eq (by_control c d f) (no_driver dq fq) = both_ways (enables board s q) (fq s) eq
    two n net i j p q en ei ej ne ep eq (by_control c d f)
        (one_sided at cell control pa e k o sw dq fq) =
        one_sided_off board s rules own n net j q (record { on_board = en; in_net = ej }) at cell
        control pa e k o sw (sym (fq s) ∙ eq)
    two n net i j p q en ei ej ne ep eq (by_control c d f) (always_on dq fq) =
        both_ways (is_closed board net) (nets.opened n net i p c en ei d (sym (f s) ∙ ep))
        (or_right (guarded board net) _
        (any_at (λ (v : NetPin). is_always_on (drive board net v)) net.pins j q ej
        (is_always_drive (drive board net q) dq)))
    two n net i j p q en ei ej ne ep eq (by_control c d f) (by_control b dq fq) =
        nets.apart n net i j p q c b en ei ej ne d dq (sym (f s) ∙ ep) (sym (fq s) ∙ eq)

pub nets_from_safe : (board : RawBoard) (s : Enabling) → IsSafe board s → NetsAdmit board s
nets_from_safe board s safe = record {
  apart =
      λ n net i j p q c d en ei ej ne dp dq sc sd. safe.one n net i j p q en ei ej ne
      (by_enables board net p c dp s ∙ sc) (by_enables board net q d dq s ∙ sd);
  opened =
      λ n net i p c en ei d on. false_from_ne_true (is_closed board net)
      (λ h. closed n net i p c en ei d on
      (or_cases (guarded board net)
      (list_any (λ (q : NetPin). is_always_on (drive board net q)) net.pins) h));
}
  where
    closed : (n : ℕ) (net : Net) (i : ℕ) (p : NetPin) (c : Ctl) → slice_get board.nets n ≡ Some net
        → slice_get net.pins i ≡ Some p → drive board net p ≡ Some (By c) → s c ≡ true
        → (guarded board net ≡ true)
        ⊎ (list_any (λ (q : NetPin). is_always_on (drive board net q)) net.pins ≡ true) → ⊥
    closed n net i p c en ei d on (inl g) = both_ways (s c) (safe.free n net i p c en ei g d) on
    closed n net i p c en ei d on (inr a) =
        let r : Found (λ (q : NetPin). is_always_on (drive board net q)) net.pins = any_place _ net.pins a in
        let up : drive board net r.item ≡ Some AlwaysOn = always_true (drive board net r.item) r.passes in
        safe.one n net i r.place p r.item en ei r.stands
        (places_differ board net i r.place p r.item (Some (By c)) (Some AlwaysOn) ei r.stands d
        up (λ (w : Some (By c) ≡ Some AlwaysOn). cc w)) (by_enables board net p c d s ∙ on)
        (always_enables board net r.item up s)

pub alone_safe : (board : RawBoard) (c : Ctl) → IsBoard board → is_safe_alone board c ≡ true → IsSafe board (just c)
alone_safe board c rules h = safe_from_nets board (just c) rules (record {
  apart = λ n net i j p q a b en ei ej ne dp dq sa sb.
      let ca : a ≡ c = same_equal a c sa in
      let cb : b ≡ c = same_equal b c sb in
      one_at (λ (v : NetPin). is_by c (drive board net v)) net.pins ((and_parts _ _ (admitted n net en)).0) i j p q ei ej ne
      (is_by_drive c (drive board net p) (dp ∙ ap (λ v. Some (By v)) ca))
      (is_by_drive c (drive board net q) (dq ∙ ap (λ v. Some (By v)) cb));
  opened = λ n net i p a en ei d on.
      let ca : a ≡ c = same_equal a c on in
      false_from_ne_true (is_closed board net) (λ k.
      both_ways (drives_net board c net && is_closed board net)
      (not-true _
      ((and_parts (at_most_one (λ (v : NetPin). is_by c (drive board net v)) net.pins) _
      (admitted n net en)).1))
      (and_from (drives_net board c net) (is_closed board net)
      (any_at (λ (v : NetPin). is_by c (drive board net v)) net.pins i p ei
      (is_by_drive c (drive board net p) (d ∙ ap (λ v. Some (By v)) ca))) k));
}) (own_from_test board c (not-true _ ((and_parts (list_all (admits board c) board.nets) _ h).1)))
  where
    admitted : (n : ℕ) (net : Net) → slice_get board.nets n ≡ Some net → admits board c net ≡ true
    admitted n net en = all_at (admits board c) board.nets ((and_parts (list_all (admits board c) board.nets) _ h).0) n net en

pub safe_alone : (board : RawBoard) (c : Ctl) → IsSafe board (just c) → is_safe_alone board c ≡ true
safe_alone board c safe =
    and_from (list_all (admits board c) board.nets) (not (enables_one_sided board c))
    (all_from (admits board c) board.nets admitted)
    (not_from_false (enables_one_sided board c) (test_from_own board c safe.own))
  where
    nets : NetsAdmit board (just c)
    nets = nets_from_safe board (just c) safe

    admitted : (n : ℕ) (net : Net) → slice_get board.nets n ≡ Some net → admits board c net ≡ true
    admitted n net en = and_from _ _
        (one_from (λ (v : NetPin). is_by c (drive board net v)) net.pins
        (λ i j p q ei ej ne hp hq. nets.apart n net i j p q c c en ei ej ne
        (by_true c (drive board net p) hp) (by_true c (drive board net q) hq)
        (same_refl c) (same_refl c)))
        (not_both (drives_net board c net) (is_closed board net) (λ hd hk.
        let r : Found (λ (v : NetPin). is_by c (drive board net v)) net.pins = any_place _ net.pins hd in
        both_ways (is_closed board net)
        (nets.opened n net r.place r.item c en r.stands
        (by_true c (drive board net r.item) r.passes) (same_refl c)) hk))

drives_at : (board : RawBoard) (c : Ctl) (net : Net) (i : ℕ) (p : NetPin)
    → slice_get net.pins i ≡ Some p → drive board net p ≡ Some (By c)
    → drives_net board c net ≡ true
drives_at board c net i p e d = any_at (λ (v : NetPin). is_by c (drive board net v)) net.pins i p e (is_by_drive c (drive board net p) d)

pub together_safe : (board : RawBoard) (a b : Ctl) → IsBoard board → are_together board a b ≡ true → IsSafe board (both a b)
together_safe board a b rules h = safe_from_nets board (both a b) rules (record {
  apart = λ n net i j p q c d en ei ej ne dp dq sc sd. meet n net i j p q c d en ei ej ne dp dq (which c sc) (which d sd);
  opened = λ n net i p c en ei d on. open_there n net i p c en ei d (which c on);
}) (λ at cell control pinned e k o on. own_there at cell control pinned e k o (which (record { part = at.part; cell = control.cell }) on))
  where
    first : is_safe_alone board a ≡ true
    first = (and_parts _ _ ((and_parts (is_safe_alone board a && is_safe_alone board b) _ h).0)).0

    second : is_safe_alone board b ≡ true
    second = (and_parts (is_safe_alone board a) _ ((and_parts (is_safe_alone board a && is_safe_alone board b) _ h).0)).1

    safe_a : IsSafe board (just a)
    safe_a = alone_safe board a rules first

    safe_b : IsSafe board (just b)
    safe_b = alone_safe board b rules second

    nets_a : NetsAdmit board (just a)
    nets_a = nets_from_safe board (just a) safe_a

    nets_b : NetsAdmit board (just b)
    nets_b = nets_from_safe board (just b) safe_b

    which : (c : Ctl) → both a b c ≡ true → (just a c ≡ true) ⊎ (just b c ≡ true)
    which c s = or_cases (same_ctl c a) (same_ctl c b) s

    apart : (n : ℕ) (net : Net) → slice_get board.nets n ≡ Some net → drives_net board a net ≡ true
        → drives_net board b net ≡ true → same_ctl a b ≡ true
    apart n net en da db =
        by_or
        (or_cases (same_ctl a b) (not (share_net board a b))
        ((and_parts (is_safe_alone board a && is_safe_alone board b) _ h).1))
      where
        by_or : (same_ctl a b ≡ true) ⊎ (not (share_net board a b) ≡ true) → same_ctl a b ≡ true
        by_or (inl e) = e
        by_or (inr e) =
            absurd
            (both_ways (share_net board a b) (not-true _ e)
            (any_at (λ (v : Net). drives_net board a v && drives_net board b v) board.nets n net
            en (and_from _ _ da db)))

    turn : (c : Ctl) → same_ctl a b ≡ true → just b c ≡ true → just a c ≡ true
    turn c e s = let ab : a ≡ b = same_equal a b e in ap (same_ctl c) ab ∙ s

    by_a : (c : Ctl) (d : Option Drive) → d ≡ Some (By c) → just a c ≡ true → d ≡ Some (By a)
    by_a c d e s = e ∙ ap (λ v. Some (By v)) (same_equal c a s)

    by_b : (c : Ctl) (d : Option Drive) → d ≡ Some (By c) → just b c ≡ true → d ≡ Some (By b)
    by_b c d e s = e ∙ ap (λ v. Some (By v)) (same_equal c b s)

    meet : (n : ℕ) (net : Net) (i j : ℕ) (p q : NetPin) (c d : Ctl)
        → slice_get board.nets n ≡ Some net → slice_get net.pins i ≡ Some p
        → slice_get net.pins j ≡ Some q → i ≢ j → drive board net p ≡ Some (By c)
        → drive board net q ≡ Some (By d) → (just a c ≡ true) ⊎ (just b c ≡ true)
        → (just a d ≡ true) ⊎ (just b d ≡ true) → ⊥
    meet n net i j p q c d en ei ej ne dp dq (inl x) (inl y) = nets_a.apart n net i j p q c d en ei ej ne dp dq x y
    meet n net i j p q c d en ei ej ne dp dq (inr x) (inr y) = nets_b.apart n net i j p q c d en ei ej ne dp dq x y
    meet n net i j p q c d en ei ej ne dp dq (inl x) (inr y) =
        let same : same_ctl a b
        ≡ true = apart n net en (drives_at board a net i p ei (by_a c (drive board net p) dp x))
        (drives_at board b net j q ej (by_b d (drive board net q) dq y)) in
        nets_a.apart n net i j p q c d en ei ej ne dp dq x (turn d same y)
    meet n net i j p q c d en ei ej ne dp dq (inr x) (inl y) =
        let same : same_ctl a b
        ≡ true = apart n net en (drives_at board a net j q ej (by_a d (drive board net q) dq y))
        (drives_at board b net i p ei (by_b c (drive board net p) dp x)) in
        nets_a.apart n net i j p q c d en ei ej ne dp dq (turn c same x) y

    open_there : (n : ℕ) (net : Net) (i : ℕ) (p : NetPin) (c : Ctl)
        → slice_get board.nets n ≡ Some net → slice_get net.pins i ≡ Some p
        → drive board net p ≡ Some (By c) → (just a c ≡ true) ⊎ (just b c ≡ true)
        → is_closed board net ≡ false
    open_there n net i p c en ei d (inl x) = nets_a.opened n net i p c en ei d x
    open_there n net i p c en ei d (inr x) = nets_b.opened n net i p c en ei d x

    own_there : (at : PinAt) (cell : Cell) (control : Control) → is_pinned board at ≡ true
        → entry_at board at ≡ Some cell → cell.ctl ≡ Some control → control.cell ≡ cell.num
        → (just a (record { part = at.part; cell = control.cell }) ≡ true)
        ⊎ (just b (record { part = at.part; cell = control.cell }) ≡ true)
        → SwitchesAt board at control.disable
    own_there at cell control pinned e k o (inl x) = safe_a.own at cell control pinned e k o x
    own_there at cell control pinned e k o (inr x) = safe_b.own at cell control pinned e k o x

pub safe_together : (board : RawBoard) (a b : Ctl) → IsSafe board (both a b) → are_together board a b ≡ true
safe_together board a b safe =
    and_from (is_safe_alone board a && is_safe_alone board b) (same_ctl a b || not (share_net board a b))
    (and_from (is_safe_alone board a) (is_safe_alone board b)
    (safe_alone board a (safe_within board (just a) (both a b) (λ c s. or_left (same_ctl c a) (same_ctl c b) s) safe))
    (safe_alone board b (safe_within board (just b) (both a b) (λ c s. or_right (same_ctl c a) (same_ctl c b) s) safe)))
    (by_same (same_ctl a b) refl)
  where
    nets : NetsAdmit board (both a b)
    nets = nets_from_safe board (both a b) safe

    by_same : (t : Bool) → same_ctl a b ≡ t → (t || not (share_net board a b)) ≡ true
    by_same true e = refl
    by_same false e = not_from_false (share_net board a b) (false_from_ne_true (share_net board a b) (λ h.
        let r : Found (λ (v : Net). drives_net board a v && drives_net board b v) board.nets = any_place _ board.nets h in
        let x : Found (λ (v : NetPin). is_by a (drive board r.item v)) r.item.pins = any_place _
        r.item.pins
        ((and_parts (drives_net board a r.item) (drives_net board b r.item) r.passes).0) in
        let y : Found (λ (v : NetPin). is_by b (drive board r.item v)) r.item.pins = any_place _
        r.item.pins
        ((and_parts (drives_net board a r.item) (drives_net board b r.item) r.passes).1) in
        let dx : drive board r.item x.item ≡ Some (By a) = by_true a (drive board r.item x.item) x.passes in
        let dy : drive board r.item y.item ≡ Some (By b) = by_true b (drive board r.item y.item) y.passes in
        nets.apart r.place r.item x.place y.place x.item y.item a b r.stands x.stands y.stands
        (places_differ board r.item x.place y.place x.item y.item (Some (By a)) (Some (By b))
        x.stands y.stands dx dy
        (λ (w : Some (By a) ≡ Some (By b)). let ab : a ≡ b = cc in
        both_ways (same_ctl a b) e (ap (same_ctl a) (sym ab) ∙ same_refl a)))
        dx dy (or_left (same_ctl a a) (same_ctl a b) (same_refl a)) (or_right (same_ctl b a) (same_ctl b b) (same_refl b))))
