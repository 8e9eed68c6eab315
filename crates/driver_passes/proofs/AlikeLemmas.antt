-- Lemmas about the table of nets whose lists of tested drivers are equal.
use Rattle.std.proofs.Common.{◌≡◌, refl, Bool, true, List, ◌∙◌, ap, sym}
use Rattle.std.specs.Bool.{Decides}
use Rattle.std.specs.Cmp.Lexicographic.{pointwise}
use Rattle.std.proofs.lemmas.Slice.Eq.{slice_eq-Decides}
use Rattle.board_defs.specs.declared.board.Drive.{Drive}
use Rattle.board_defs.specs.declared.board.Drive.TheVariants.{AlwaysOn, OneSided, By}
use Rattle.board_defs.specs.contracts.board.DrivePartialEq.TheImpl as drives
use Rattle.board_defs.specs.Settings.{same_ctl}
use Rattle.board_defs.proofs.ControlOrder.{same_equal, same_refl}

drives_decided : (d e : Drive) → Decides (drives.eq-value.it d e) (d ≡ e)
drives_decided AlwaysOn AlwaysOn = (λ h. refl, λ e. refl)
drives_decided AlwaysOn OneSided = (λ h. cc h, λ e. cc e)
drives_decided AlwaysOn (By c) = (λ h. cc h, λ e. cc e)
drives_decided OneSided AlwaysOn = (λ h. cc h, λ e. cc e)
drives_decided OneSided OneSided = (λ h. refl, λ e. refl)
drives_decided OneSided (By c) = (λ h. cc h, λ e. cc e)
drives_decided (By c) AlwaysOn = (λ h. cc h, λ e. cc e)
drives_decided (By c) OneSided = (λ h. cc h, λ e. cc e)
drives_decided (By c) (By d) = (λ h. ap By (same_equal c d h), λ e. let same : c ≡ d = cc e in ap (same_ctl c) (sym same) ∙ same_refl c)

pub drives_same : (drivers others : List Drive) (t : Bool) → t ≡ pointwise drives.eq-value.it drivers others → t ≡ true → drivers ≡ others
drives_same drivers others t e h = (slice_eq-Decides drives_decided drivers others t e).0 h
