-- On a board that keeps the rules of boards, a setting is safe if and only if each of its controls is safe alone and any two of its
-- controls are safe together.
use Rattle.std.proofs.Common.{◌≡◌, ◌≢◌, ℕ, true, Option, Some, None, refl, ◌∙◌, ap, ◌⊎◌, inl, inr}
use Rattle.std.specs.Prelude.{slice_get, option_map}
use Rattle.std.proofs.lemmas.Bool.{both_ways, false_from_ne_true, or_left, or_right, or_cases}
use Rattle.board_defs.specs.declared.device.Control.{Control}
use Rattle.board_defs.specs.declared.device.Cell.{Cell}
use Rattle.board_defs.specs.declared.board.PinAt.{PinAt}
use Rattle.board_defs.specs.declared.board.NetPin.{NetPin}
use Rattle.board_defs.specs.declared.board.Net.{Net}
use Rattle.board_defs.specs.declared.board.RawBoard.{RawBoard}
use Rattle.board_defs.specs.declared.board.Ctl.{Ctl}
use Rattle.board_defs.specs.declared.board.Drive.TheVariants.{AlwaysOn}
use Rattle.board_defs.specs.Pins.{drive, drive_where, drive_by, entry_at}
use Rattle.board_defs.specs.Settings.{Enabling, same_ctl, just, both, enables, enables_where, enables_entry, enables_by, IsSafe, IsPairwiseSafe}
use Rattle.board_defs.specs.BoardRules.{OneAlwaysOn}
use Rattle.board_defs.proofs.ControlOrder.{same_equal, same_refl}

just_has : (c : Ctl) → just c c ≡ true
just_has c = same_refl c

both_first : (c d : Ctl) → both c d c ≡ true
both_first c d = or_left (same_ctl c c) (same_ctl c d) (same_refl c)

both_second : (c d : Ctl) → both c d d ≡ true
both_second c d = or_right (same_ctl d c) (same_ctl d d) (same_refl d)

-- Why a setting enables a pin: the pin's driver is always on, or the setting has a control that enables it.
pub data Enabled (board : RawBoard) (setting : Enabling) (net : Net) (pin : NetPin) : Type 0 where
  always : drive board net pin ≡ Some AlwaysOn → ((other : Enabling) → enables board other pin ≡ true) → Enabled board setting net pin
  by_control : (c : Ctl) → setting c ≡ true
      → ((other : Enabling) → other c ≡ true → enables board other pin ≡ true)
      → Enabled board setting net pin

enabled_by : (board : RawBoard) (setting : Enabling) (net : Net) (at : PinAt) (cell : Cell)
    (ctl : Option Control) (pin : NetPin) → enables_by setting at.part ctl ≡ true →
    ((other : Enabling) → enables_by other at.part ctl ≡ true → enables board other pin ≡ true) →
    drive board net pin ≡ Some (drive_by board net at.part cell ctl) → Enabled board setting net pin
enabled_by board setting net at cell None pin e up d = always d (λ other. up other refl)
enabled_by board setting net at cell (Some control) pin e up d =
    by_control (record { part = at.part; cell = control.cell }) e (λ other h. up other h)

enabled_entry : (board : RawBoard) (setting : Enabling) (net : Net) (at : PinAt)
    (entry : Option Cell) (pin : NetPin) → enables_entry setting at.part entry ≡ true →
    ((other : Enabling) → enables_entry other at.part entry ≡ true → enables board other pin ≡ true) →
    drive board net pin ≡ option_map (λ cell. drive_by board net at.part cell cell.ctl) entry → Enabled board setting net pin
enabled_entry board setting net at None pin e up d = cc e
enabled_entry board setting net at (Some cell) pin e up d = enabled_by board setting net at cell cell.ctl pin e up d

enabled_where : (board : RawBoard) (setting : Enabling) (net : Net) (where_at : Option PinAt)
    (pin : NetPin) → pin.at ≡ where_at → enables_where board setting where_at ≡ true
    → Enabled board setting net pin
enabled_where board setting net None pin p e = cc e
enabled_where board setting net (Some at) pin p e =
    enabled_entry board setting net at (entry_at board at) pin e
    (λ other h. ap (λ (w : Option PinAt). enables_where board other w) p ∙ h)
    (ap (λ (w : Option PinAt). drive_where board net w) p)

pub enabled : (board : RawBoard) (setting : Enabling) (net : Net) (pin : NetPin)
    → enables board setting pin ≡ true → Enabled board setting net pin
enabled board setting net pin e = enabled_where board setting net pin.at pin refl e

one_by : (board : RawBoard) (setting : Enabling) → OneAlwaysOn board → IsPairwiseSafe board setting
    → (n : ℕ) (net : Net) (i j : ℕ) (p q : NetPin) → slice_get board.nets n ≡ Some net
    → slice_get net.pins i ≡ Some p → slice_get net.pins j ≡ Some q → i ≢ j
    → Enabled board setting net p → Enabled board setting net q → ⊥
one_by board setting rule h n net i j p q en ei ej ne (always dp up) (always dq uq) = rule n net i j p q en ei ej ne dp dq
one_by board setting rule h n net i j p q en ei ej ne (always dp up) (by_control c sc uq) =
    (h.each c sc).one n net i j p q en ei ej ne (up (just c)) (uq (just c) (just_has c))
one_by board setting rule h n net i j p q en ei ej ne (by_control c sc up) (always dq uq) =
    (h.each c sc).one n net i j p q en ei ej ne (up (just c) (just_has c)) (uq (just c))
one_by board setting rule h n net i j p q en ei ej ne (by_control c sc up) (by_control d sd uq) =
    (h.each_two c d sc sd).one n net i j p q en ei ej ne (up (both c d) (both_first c d))
    (uq (both c d) (both_second c d))

pub safe_from_pairs : (board : RawBoard) (setting : Enabling) → OneAlwaysOn board → IsPairwiseSafe board setting → IsSafe board setting
safe_from_pairs board setting rule h = record {
  one =
      λ n net i j p q en ei ej ne ep eq. one_by board setting rule h n net i j p q en ei ej ne
      (enabled board setting net p ep) (enabled board setting net q eq);
  free =
      λ n net i p c en ei g d. false_from_ne_true (setting c)
      (λ s. both_ways (just c c) ((h.each c s).free n net i p c en ei g d) (just_has c));
  own = λ at cell control pinned e k same s.
      let c : Ctl = record { part = at.part; cell = control.cell } in
      (h.each c s).own at cell control pinned e k same (just_has c);
}

pub safe_within : (board : RawBoard) (small big : Enabling)
    → ((c : Ctl) → small c ≡ true → big c ≡ true) → IsSafe board big → IsSafe board small
safe_within board small big within h = record {
  one =
      λ n net i j p q en ei ej ne ep eq. h.one n net i j p q en ei ej ne
      (grow net p (enabled board small net p ep)) (grow net q (enabled board small net q eq));
  free = λ n net i p c en ei g d. false_from_ne_true (small c) (λ s. both_ways (big c) (h.free n net i p c en ei g d) (within c s));
  own =
      λ at cell control pinned e k same s. h.own at cell control pinned e k same
      (within (record { part = at.part; cell = control.cell }) s);
}
  where
    grow : (net : Net) (p : NetPin) → Enabled board small net p → enables board big p ≡ true
    grow net p (always d u) = u big
    grow net p (by_control c s u) = u big (within c s)

pub pairs_from_safe : (board : RawBoard) (setting : Enabling) → IsSafe board setting → IsPairwiseSafe board setting
pairs_from_safe board setting h = record {
  each = λ c s. safe_within board (just c) setting (λ d k. ap setting (same_equal d c k) ∙ s) h;
  each_two = λ c d s t. safe_within board (both c d) setting (λ e k. by_or c d e s t (or_cases (same_ctl e c) (same_ctl e d) k)) h;
}
  where
    by_or : (c d e : Ctl) → setting c ≡ true → setting d ≡ true → (same_ctl e c ≡ true) ⊎ (same_ctl e d ≡ true) → setting e ≡ true
    by_or c d e s t (inl k) = ap setting (same_equal e c k) ∙ s
    by_or c d e s t (inr k) = ap setting (same_equal e d k) ∙ t
