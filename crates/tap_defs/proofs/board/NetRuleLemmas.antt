-- Consequences of the rules of devices and boards for controls, entries and pins.
use Rattle.std.proofs.Common.{◌≡◌, ℕ, zero, suc, ◌+◌, ◌<◌, ◌==◌, Bool, true, false, cond, ◌&&◌, ◌||◌, List, [], ◌∷◌, Option, Some, None, refl, sym, ◌∙◌, ap, subst, arith}
use Rattle.std.specs.Prelude.{slice_get, option_map, option_and_then, is_some}
use Rattle.std.specs.List.{list_any}
use Rattle.board_defs.specs.declared.device.Role.{Role}
use Rattle.board_defs.specs.declared.device.Role.TheVariants.{Input, Output2, Output3, Control as ControlRole, ControlR, Internal, Clock as ClockRole, Bidir, ObserveOnly}
use Rattle.board_defs.specs.declared.device.Control.{Control}
use Rattle.board_defs.specs.declared.device.Cell.{Cell}
use Rattle.board_defs.specs.declared.device.RawDevice.{RawDevice}
use Rattle.board_defs.specs.declared.board.PartKind.{PartKind}
use Rattle.board_defs.specs.declared.board.PartKind.TheVariants.{Described}
use Rattle.board_defs.specs.declared.board.Part.{Part}
use Rattle.board_defs.specs.declared.board.PinAt.{PinAt}
use Rattle.board_defs.specs.declared.board.NetPin.{NetPin}
use Rattle.board_defs.specs.declared.board.Net.{Net}
use Rattle.board_defs.specs.declared.board.RawBoard.{RawBoard}
use Rattle.board_defs.specs.DeviceRules.{is_driving, is_reading, is_writing, is_loading, is_controlling, is_control_of, is_control_entry, disable_in, disable_of, IsDevice}
use Rattle.board_defs.specs.BoardRules.{IsBoard, IsPart}
use Rattle.board_defs.specs.Pins.{device_at, is_pinned}
use Rattle.board_defs.specs.Settings.{SwitchesAt}
use Rattle.board_defs.proofs.Places.{all_stands}
use Rattle.board_defs.proofs.BoardLemmas.{pins_once, pins_stand}
use Rattle.tap_defs.specs.board.NetBits.{place_in, place_of, or_next}
use Rattle.board_defs.specs.Decided.{is_at}
use Rattle.board_defs.proofs.SafeSettings.{is_at_some}
use Rattle.std.proofs.lemmas.Bool.{and_parts, eq-eqb, eqb-true}
use Rattle.tap_defs.proofs.board.LiveLemmas.{IsWired, found, find_some}
use Rattle.tap_defs.proofs.board.FeedingLemmas.{PinRules, apart, placed, NetRules}
use Rattle.tap_defs.proofs.board.ReadingLemmas.{IsRead, any_is, AllRead}
use Rattle.tap_defs.proofs.board.QuietLemmas.{BoardRules, device_of, control_is}

same_item : {A : Type 0} (xs : List A) (i j : ℕ) (x y : A) → slice_get xs i ≡ Some x → slice_get xs j ≡ Some y → i ≡ j → y ≡ x
same_item xs i j x y ex ey e =
    let two : Some y ≡ Some x = sym ey ∙ sym (ap (λ (k : ℕ). slice_get xs k) e) ∙ ex in
    cc two

driving_writes : (r : Role) → is_driving r ≡ true → is_writing r ≡ true
driving_writes Output2 e = refl
driving_writes Output3 e = refl
driving_writes Bidir e = refl
driving_writes Input e = cc e
driving_writes ControlRole e = cc e
driving_writes ControlR e = cc e
driving_writes Internal e = cc e
driving_writes ClockRole e = cc e
driving_writes ObserveOnly e = cc e

reading_loads : (r : Role) → is_reading r ≡ true → is_loading r ≡ true
reading_loads Input e = refl
reading_loads ClockRole e = refl
reading_loads ObserveOnly e = refl
reading_loads Bidir e = refl
reading_loads Output2 e = cc e
reading_loads Output3 e = cc e
reading_loads ControlRole e = cc e
reading_loads ControlR e = cc e
reading_loads Internal e = cc e

controlling_writes : (r : Role) → is_controlling r ≡ true → is_writing r ≡ true
controlling_writes ControlRole e = refl
controlling_writes ControlR e = refl
controlling_writes Input e = cc e
controlling_writes ClockRole e = cc e
controlling_writes ObserveOnly e = cc e
controlling_writes Bidir e = cc e
controlling_writes Output2 e = cc e
controlling_writes Output3 e = cc e
controlling_writes Internal e = cc e

not_both : (r : Role) → is_controlling r ≡ true → is_driving r ≡ true → ⊥
not_both ControlRole e h = cc h
not_both ControlR e h = cc h
not_both Input e h = cc h
not_both ClockRole e h = cc h
not_both ObserveOnly e h = cc h
not_both Bidir e h = cc e
not_both Output2 e h = cc e
not_both Output3 e h = cc e
not_both Internal e h = cc h

module _ (device : RawDevice) (rules : IsDevice device) where
  num_below : (i : ℕ) (e : Cell) → slice_get device.cells i ≡ Some e → e.num < device.boundary
  num_below i e ei = all_stands (λ (c : Cell). c.num < device.boundary) device.cells i e ei rules.cells_below

  -- the control of an entry is the entry's own cell, or a cell with a CONTROL or CONTROLR entry
  data Owner (e : Cell) (control : Control) : Type 0 where
    own_cell : control.cell ≡ e.num → Owner e control
    control_cell : (k : ℕ) (x : Cell) → slice_get device.cells k ≡ Some x → x.num ≡ control.cell → is_controlling x.role ≡ true →
        Owner e control

  owner : (i : ℕ) (e : Cell) (control : Control) → slice_get device.cells i ≡ Some e → e.ctl ≡ Some control → Owner e control
  owner i e control ei ec = by_test (control.cell == e.num) refl (rules.controls_stand i e control ei ec)
    where
      by_test : (b : Bool) → (control.cell == e.num) ≡ b → (b || list_any (is_control_entry control.cell) device.cells) ≡ true →
          Owner e control
      by_test true q h = own_cell (eqb-true control.cell e.num q)
      by_test false q h =
          let x = any_is (is_control_entry control.cell) device.cells h in
          let parts = and_parts (x.1.num == control.cell) (is_controlling x.1.role) x.3 in
          control_cell x.0 x.1 x.2 (eqb-true x.1.num control.cell parts.0) parts.1

  below_by : (i : ℕ) (e : Cell) (control : Control) → slice_get device.cells i ≡ Some e → Owner e control → control.cell < device.boundary
  below_by i e control ei (own_cell same) = subst (λ (n : ℕ). n < device.boundary) (sym same) (num_below i e ei)
  below_by i e control ei (control_cell k x xk same role) = subst (λ (n : ℕ). n < device.boundary) same (num_below k x xk)

  own_by : (i j : ℕ) (e d : Cell) (control : Control) → slice_get device.cells i ≡ Some e → is_driving e.role ≡ true →
      slice_get device.cells j ≡ Some d → is_driving d.role ≡ true → d.num ≡ control.cell → Owner e control → d ≡ e
  own_by i j e d control ei driving dj drives num (own_cell same) =
      same_item device.cells i j e d ei dj
      (rules.one_writing i j e d ei dj (driving_writes e.role driving)
      (driving_writes d.role drives) (sym (num ∙ same)))
  own_by i j e d control ei driving dj drives num (control_cell k x xk same role) =
      let z : d
      ≡ x = same_item device.cells k j x d xk dj
      (rules.one_writing k j x d xk dj (controlling_writes x.role role)
      (driving_writes d.role drives) (same ∙ sym num)) in
      absurd (not_both d.role (subst (λ (c : Cell). is_controlling c.role ≡ true) (sym z) role) drives)

  disable_is : (i : ℕ) (e : Cell) (control : Control) → slice_get device.cells i ≡ Some e → e.ctl ≡ Some control →
      disable_of device control.cell ≡ Some control.disable
  disable_is i e control ei ec =
      let test : Cell → Bool = λ entry. is_control_of control.cell entry.ctl in
      let here : test e ≡ true = ap (λ (o : Option Control). is_control_of control.cell o) ec ∙ eq-eqb control.cell control.cell refl in
      let y = find_some test device.cells i e ei here in
      let f = found test device.cells y.0 y.1 in
      let k = control_is control.cell y.0.ctl f.0 in
      let same : k.0.disable ≡ control.disable = rules.one_disable f.1.0 i y.0 e k.0 control f.1.1 ei k.1 ec k.2 in
      ap (λ (o : Option Cell). disable_in control.cell o) y.1
      ∙ ap (λ (o : Option Control). option_map (λ c. c.disable) o) k.1
      ∙ ap (λ (b : Bool). Some b) same

  pub wired : IsWired device
  wired = record {
    below = λ i e control ei ec. below_by i e control ei (owner i e control ei ec);
    one_disable = disable_is;
    num_below = num_below;
    one_cell =
        λ i j e d ei driving dj drives num. same_item device.cells i j e d ei dj
        (rules.one_writing i j e d ei dj (driving_writes e.role driving)
        (driving_writes d.role drives) (sym num));
    one_driver = λ i j e d b ei de dj dd. same_item device.cells i j e d ei dj (rules.one_driver i j b e d ei dj de dd);
    own = λ i j e d control ei ec driving dj drives num. own_by i j e d control ei driving dj drives num (owner i e control ei ec);
  }

  pub read : IsRead device
  read = record {
    one_reader =
        λ i j e d ei reading dj reads num. same_item device.cells i j e d ei dj
        (rules.one_loading i j e d ei dj (reading_loads e.role reading) (reading_loads d.role reads)
        (sym num));
    num_below = num_below;
  }

-- The following lemmas show that the search for a pin that occurs only once in the nets finds this pin.
self_at : (at : PinAt) → is_at at (Some at) ≡ true
self_at at = ap (λ (b : Bool). b && (at.bit == at.bit)) (eq-eqb at.part at.part refl) ∙ eq-eqb at.bit at.bit refl

place_in_at : (at : PinAt) (m i : ℕ) (ps : List NetPin) (p : NetPin) → slice_get ps i ≡ Some p → p.at ≡ Some at →
    ((j : ℕ) (q : NetPin) → slice_get ps j ≡ Some q → q.at ≡ Some at → j ≡ i) → place_in at m ps ≡ Some (m + i)
place_in_at at m i [] p e a once = cc e
place_in_at at m zero (q ∷ ps) p e a once =
    let z : q ≡ p = cc e in
    let w : m ≡ m + 0 = omega arith in
    ap (λ (b : Bool). cond b (Some m) (place_in at (suc m) ps))
    (ap (λ (x : NetPin). is_at at x.at) z ∙ ap (λ (o : Option PinAt). is_at at o) a ∙ self_at at)
    ∙ ap (λ (x : ℕ). Some x) w
place_in_at at m (suc i) (q ∷ ps) p e a once =
    let w : suc m + i ≡ m + suc i = omega arith in
    by_test
    (place_in_at at (suc m) i ps p e a
    (λ j x ej xa. let z : suc j ≡ suc i = once (suc j) x ej xa in omega (arith, z))
    ∙ ap (λ (x : ℕ). Some x) w)
    (is_at at q.at) refl
  where
    by_test : place_in at (suc m) ps ≡ Some (m + suc i) → (b : Bool) → is_at at q.at ≡ b →
        cond b (Some m) (place_in at (suc m) ps) ≡ Some (m + suc i)
    by_test ih true h = let z : 0 ≡ suc i = once 0 q refl (is_at_some at q.at h) in absurd (omega (arith, z))
    by_test ih false h = ih

place_in_none : (at : PinAt) (m : ℕ) (ps : List NetPin) → ((j : ℕ) (q : NetPin) → slice_get ps j ≡ Some q → q.at ≡ Some at → ⊥) →
    place_in at m ps ≡ None
place_in_none at m [] none = refl
place_in_none at m (q ∷ ps) none = by_test (place_in_none at (suc m) ps (λ j x. none (suc j) x)) (is_at at q.at) refl
  where
    by_test : place_in at (suc m) ps ≡ None → (b : Bool) → is_at at q.at ≡ b → cond b (Some m) (place_in at (suc m) ps) ≡ None
    by_test ih true h = absurd (none 0 q refl (is_at_some at q.at h))
    by_test ih false h = ih

place_of_at : (at : PinAt) (m n i : ℕ) (nets : List Net) (net : Net) (p : NetPin) → slice_get nets n ≡ Some net →
    slice_get net.pins i ≡ Some p → p.at ≡ Some at →
    ((l j : ℕ) (other : Net) (q : NetPin) → slice_get nets l ≡ Some other
    → slice_get other.pins j ≡ Some q → q.at ≡ Some at → (l ≡ n) × (j ≡ i)) →
    place_of at m nets ≡ Some (record { number = m + n; net = net; place = i })
place_of_at at m n i [] net p en ei a once = cc en
place_of_at at m zero i (other ∷ nets) net p en ei a once =
    let z : other ≡ net = cc en in
    let w : m ≡ m + 0 = omega arith in
    let v : 0 + i ≡ i = omega arith in
    ap (λ (x : Net). or_next m x (place_in at 0 x.pins) (place_of at (suc m) nets)) z
    ∙ ap (λ (o : Option ℕ). or_next m net o (place_of at (suc m) nets))
    (place_in_at at 0 i net.pins p ei a
    (λ j q ej qa. (once 0 j net q (ap (λ (x : Net). Some x) z) ej qa).1))
    ∙ ap (λ (x : ℕ). Some (record { number = m; net = net; place = x })) v
    ∙ ap (λ (x : ℕ). Some (record { number = x; net = net; place = i })) w
place_of_at at m (suc n) i (other ∷ nets) net p en ei a once =
    let w : suc m + n ≡ m + suc n = omega arith in
    ap (λ (o : Option ℕ). or_next m other o (place_of at (suc m) nets))
    (place_in_none at 0 other.pins (λ j q ej qa. let z : 0 ≡ suc n = (once 0 j other q refl ej qa).0 in absurd (omega (arith, z))))
    ∙ place_of_at at (suc m) n i nets net p en ei a (λ l j x q el ej qa.
    let r = once (suc l) j x q el ej qa in
    let y : l ≡ n = omega (arith, r.0) in (y, r.1))
    ∙ ap (λ (x : ℕ). Some (record { number = x; net = net; place = i })) w

module _ (board : RawBoard) (rules : IsBoard board) where
  pub is_device : (k : ℕ) (part : Part) (device : RawDevice) → slice_get board.chain k ≡ Some part → part.kind ≡ Described device →
      IsDevice device
  is_device k part device e d =
      subst (λ (kind : PartKind). IsPart kind) d
      (all_stands (λ (p : Part). IsPart p.kind) board.chain k part e rules.parts)

  pub all_read : AllRead board
  all_read part device k e d = read device (is_device k part device e d)

  pinned_device : (at : PinAt) → is_pinned board at ≡ true → (device : RawDevice) × (device_at board at.part ≡ Some device)
  pinned_device at h = by_device (device_at board at.part) refl h
    where
      by_device : (o : Option RawDevice) → device_at board at.part ≡ o →
          is_some (option_and_then (λ bit. bit.pin) (option_and_then (λ x. slice_get x.bits at.bit) o)) ≡ true →
          (device : RawDevice) × (device_at board at.part ≡ Some device)
      by_device None e q = cc q
      by_device (Some device) e q = (device, e)

  pin_rules : (n : ℕ) (net : Net) (i : ℕ) (p : NetPin) → slice_get board.nets n ≡ Some net → slice_get net.pins i ≡ Some p →
      PinRules board n net i p
  pin_rules n net i p en ei = by_at p.at refl
    where
      by_at : (o : Option PinAt) → p.at ≡ o → PinRules board n net i p
      by_at None a = apart a
      by_at (Some at) a =
          let pinned = pins_stand board rules n net i p at en ei a in
          let d = pinned_device at pinned in
          let part = device_of board at.part d.0 d.1 in
          let w : 0 + n ≡ n = omega arith in
          placed at part.part d.0 a part.at_k part.kind_is (wired d.0 (is_device at.part part.part d.0 part.at_k part.kind_is)) pinned
          (place_of_at at 0 n i board.nets net p en ei a
          (λ l j other q el ej qa. pins_once board rules l n other net j i q p at el en ej ei qa
          a)
          ∙ ap (λ (x : ℕ). Some (record { number = x; net = net; place = i })) w)

  alone : (n : ℕ) (net : Net) → slice_get board.nets n ≡ Some net → (i : ℕ) (p : NetPin) (at : PinAt) (value : Bool) →
      slice_get net.pins i ≡ Some p → p.at ≡ Some at → SwitchesAt board at value → net.pull ≡ Some value
  alone n net en i p at value ei a (m, other, j, q, em, ej, qa, open_net, pull) =
      let same : m ≡ n = (pins_once board rules m n other net j i q p at em en ej ei qa a).0 in
      let z : other ≡ net = same_item board.nets n m net other en em (sym same) in
      sym (ap (λ (x : Net). x.pull) z) ∙ pull

  pub net_rules : (n : ℕ) (net : Net) → slice_get board.nets n ≡ Some net → NetRules board n net
  net_rules n net en = record { stands = en; pins = λ i p ei. pin_rules n net i p en ei; alone = alone n net en }

  pub board_rules : BoardRules board
  board_rules = record { nets = net_rules; devices = λ k part device e d. wired device (is_device k part device e d) }
