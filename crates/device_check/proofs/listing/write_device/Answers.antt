use Rattle.std.proofs.Common.{ap, sym, subst}
use Rattle.line_printer.proofs.PrintLemmas.{puts_of, prints_same}
use Rattle.board_defs.specs.DeviceRules.{IsDevice}
use Rattle.device_check.specs.DeviceText.{device_text}
use Rattle.device_check.proofs.listing.write_device.Goals as goal

pub put_listing-requires : goal.put_listing-requires
put_listing-requires g c = subst IsDevice (sym c.raw.ensures.value) c.raw.ensures.rules

pub returns : goal.returns
unfolding device_text
returns g c = puts_of (prints_same (ap device_text c.raw.ensures.value) c.put_listing.ensures)
