-- Lemmas about the port bits of boundary entries, and about reading entries.
use Rattle.std.proofs.Common.{◌≡◌, ℕ, ◌<◌, ◌≤◌, true, false, Option, Some, None, refl, ap, arith}
use Rattle.std.proofs.lemmas.Bool.{eqb-true, ne_eqb}
use Rattle.board_defs.specs.declared.device.Role.{Role}
use Rattle.board_defs.specs.declared.device.Role.TheVariants.{Input, Output2, Output3, Control as ControlRole, ControlR, Internal, Clock as ClockRole, Bidir, ObserveOnly}
use Rattle.board_defs.specs.declared.device.Cell.{Cell}
use Rattle.board_defs.specs.DeviceRules.{is_on, is_reading, is_receiving, HasPlace}

pub receiving_reads : (r : Role) → is_receiving r ≡ true → is_reading r ≡ true
receiving_reads Input e = refl
receiving_reads ClockRole e = refl
receiving_reads Bidir e = refl
receiving_reads Output2 e = cc e
receiving_reads Output3 e = cc e
receiving_reads ControlRole e = cc e
receiving_reads ControlR e = cc e
receiving_reads Internal e = cc e
receiving_reads ObserveOnly e = cc e

pub on_is : (bit : ℕ) (o : Option ℕ) → is_on bit o ≡ true → o ≡ Some bit
on_is bit None e = cc e
on_is bit (Some b) e = ap Some (eqb-true b bit e)

pub off_past : (bits bit : ℕ) (cell : Cell) (on : Option ℕ) → HasPlace bits cell.role on → bits ≤ bit → is_on bit on ≡ false
off_past bits bit cell None place past = refl
off_past bits bit cell (Some b) place past = let less : b < bits = place.1 in ne_eqb b bit (λ e. omega (arith, less, past, e))
