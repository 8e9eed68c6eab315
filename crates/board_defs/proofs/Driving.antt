-- The ways in which a pin's driver is enabled. For each way, the settings that enable the driver.
use Rattle.std.proofs.Common.{◌≡◌, ◌==◌, Bool, true, false, Option, Some, None, refl, sym, ◌∙◌, ap}
use Rattle.std.specs.Prelude.{option_map, if◌then◌else◌}
use Rattle.std.proofs.lemmas.Bool.{eqb-true}
use Rattle.board_defs.specs.declared.device.Control.{Control}
use Rattle.board_defs.specs.declared.device.Cell.{Cell}
use Rattle.board_defs.specs.declared.board.PinAt.{PinAt}
use Rattle.board_defs.specs.declared.board.NetPin.{NetPin}
use Rattle.board_defs.specs.declared.board.Net.{Net}
use Rattle.board_defs.specs.declared.board.RawBoard.{RawBoard}
use Rattle.board_defs.specs.declared.board.Ctl.{Ctl}
use Rattle.board_defs.specs.declared.board.Drive.{Drive}
use Rattle.board_defs.specs.declared.board.Drive.TheVariants.{AlwaysOn, OneSided, By}
use Rattle.board_defs.specs.Pins.{drive, drive_where, drive_by, entry_at, lets_switch}
use Rattle.board_defs.specs.Settings.{Enabling, enables, enables_where, enables_entry, enables_by}
use Rattle.board_defs.specs.Decided.{is_always_on, is_by}
use Rattle.board_defs.proofs.ControlOrder.{same_equal, same_refl}

-- a case of `drive`, and the settings that enable the pin in that case
pub data View (board : RawBoard) (net : Net) (pin : NetPin) : Type 0 where
  no_driver : drive board net pin ≡ None → ((s : Enabling) → enables board s pin ≡ false) → View board net pin
  always_on : drive board net pin ≡ Some AlwaysOn → ((s : Enabling) → enables board s pin ≡ true) → View board net pin
  by_control : (c : Ctl) → drive board net pin ≡ Some (By c) → ((s : Enabling) → enables board s pin ≡ s c) → View board net pin
  one_sided : (at : PinAt) (cell : Cell) (control : Control) → pin.at ≡ Some at
      → entry_at board at ≡ Some cell → cell.ctl ≡ Some control → control.cell ≡ cell.num
      → lets_switch board net control.disable ≡ false → drive board net pin ≡ Some OneSided
      → ((s : Enabling) → enables board s pin ≡ s (record { part = at.part; cell = control.cell }))
      → View board net pin

view_own : (board : RawBoard) (net : Net) (pin : NetPin) (at : PinAt) (cell : Cell)
    (control : Control) → pin.at ≡ Some at → entry_at board at ≡ Some cell → cell.ctl ≡ Some control
    →
    (own switched : Bool) → (control.cell == cell.num) ≡ own → lets_switch board net control.disable ≡ switched →
    drive board net pin
    ≡ Some
    (if own
    then (if switched then By (record { part = at.part; cell = control.cell })
    else OneSided) else By (record { part = at.part; cell = control.cell })) →
    ((s : Enabling) → enables board s pin ≡ s (record { part = at.part; cell = control.cell })) → View board net pin
view_own board net pin at cell control pa e k true true o w d en = by_control (record { part = at.part; cell = control.cell }) d en
view_own board net pin at cell control pa e k true false o w d en =
    one_sided at cell control pa e k (eqb-true control.cell cell.num o) w d en
view_own board net pin at cell control pa e k false w' o w d en = by_control (record { part = at.part; cell = control.cell }) d en

view_by : (board : RawBoard) (net : Net) (pin : NetPin) (at : PinAt) (cell : Cell)
    (ctl : Option Control) → pin.at ≡ Some at → entry_at board at ≡ Some cell → cell.ctl ≡ ctl →
    drive board net pin ≡ Some (drive_by board net at.part cell ctl)
    → ((s : Enabling) → enables board s pin ≡ enables_by s at.part ctl) → View board net pin
view_by board net pin at cell None pa e k d en = always_on d en
view_by board net pin at cell (Some control) pa e k d en =
    view_own board net pin at cell control pa e k (control.cell == cell.num)
    (lets_switch board net control.disable) refl refl d en

view_entry : (board : RawBoard) (net : Net) (pin : NetPin) (at : PinAt) (entry : Option Cell)
    → pin.at ≡ Some at → entry_at board at ≡ entry → View board net pin
view_entry board net pin at None pa e =
    no_driver
    (ap (λ (w : Option PinAt). drive_where board net w) pa
    ∙ (let F : Option Cell
    → Option Drive = λ w. option_map
    (λ cell. drive_by board net at.part cell cell.ctl) w in
    ap F e))
    (λ s. ap (λ (w : Option PinAt). enables_where board s w) pa ∙ (let F : Option Cell → Bool = λ w. enables_entry s at.part w in ap F e))
view_entry board net pin at (Some cell) pa e =
    view_by board net pin at cell cell.ctl pa e refl
    (ap (λ (w : Option PinAt). drive_where board net w) pa
    ∙ (let F : Option Cell
    → Option Drive = λ w. option_map
    (λ cell. drive_by board net at.part cell cell.ctl) w in
    ap F e))
    (λ s. ap (λ (w : Option PinAt). enables_where board s w) pa ∙ (let F : Option Cell → Bool = λ w. enables_entry s at.part w in ap F e))

view_where : (board : RawBoard) (net : Net) (pin : NetPin) (place : Option PinAt) → pin.at ≡ place → View board net pin
view_where board net pin None pa =
    no_driver (ap (λ (w : Option PinAt). drive_where board net w) pa) (λ s. ap (λ (w : Option PinAt). enables_where board s w) pa)
view_where board net pin (Some at) pa = view_entry board net pin at (entry_at board at) pa refl

pub view : (board : RawBoard) (net : Net) (pin : NetPin) → View board net pin
view board net pin = view_where board net pin pin.at refl

pub by_true : (c : Ctl) (d : Option Drive) → is_by c d ≡ true → d ≡ Some (By c)
by_true c None h = cc h
by_true c (Some AlwaysOn) h = cc h
by_true c (Some OneSided) h = cc h
by_true c (Some (By d)) h = ap (λ e. Some (By e)) (same_equal d c h)

pub always_true : (d : Option Drive) → is_always_on d ≡ true → d ≡ Some AlwaysOn
always_true None h = cc h
always_true (Some AlwaysOn) h = refl
always_true (Some OneSided) h = cc h
always_true (Some (By d)) h = cc h

pub is_by_drive : (c : Ctl) (d : Option Drive) → d ≡ Some (By c) → is_by c d ≡ true
is_by_drive c d h = ap (is_by c) h ∙ same_refl c

pub is_always_drive : (d : Option Drive) → d ≡ Some AlwaysOn → is_always_on d ≡ true
is_always_drive d h = ap is_always_on h

pub by_enables : (board : RawBoard) (net : Net) (pin : NetPin) (c : Ctl)
    → drive board net pin ≡ Some (By c) → (s : Enabling) → enables board s pin ≡ s c
by_enables board net pin c d s = from_view (view board net pin)
  where
    from_view : View board net pin → enables board s pin ≡ s c
    from_view (no_driver e f) = let wrong : None ≡ Some (By c) = sym e ∙ d in cc wrong
    from_view (always_on e f) = let wrong : Some AlwaysOn ≡ Some (By c) = sym e ∙ d in cc wrong
    from_view (by_control b e f) = let same : Some (By b) ≡ Some (By c) = sym e ∙ d in let eq : b ≡ c = cc in f s ∙ ap s eq
    from_view (one_sided at cell control pa e k o w g f) = let wrong : Some OneSided ≡ Some (By c) = sym g ∙ d in cc wrong

pub always_enables : (board : RawBoard) (net : Net) (pin : NetPin)
    → drive board net pin ≡ Some AlwaysOn → (s : Enabling) → enables board s pin ≡ true
always_enables board net pin d s = from_view (view board net pin)
  where
    from_view : View board net pin → enables board s pin ≡ true
    from_view (no_driver e f) = let wrong : None ≡ Some AlwaysOn = sym e ∙ d in cc wrong
    from_view (always_on e f) = f s
    from_view (by_control b e f) = let wrong : Some (By b) ≡ Some AlwaysOn = sym e ∙ d in cc wrong
    from_view (one_sided at cell control pa e k o w g f) = let wrong : Some OneSided ≡ Some AlwaysOn = sym g ∙ d in cc wrong
