use Rattle.std.proofs.Common.{ap}
use Rattle.line_printer.proofs.PrintLemmas.{prints_same, puts_of}
use Rattle.coverage_list.specs.CoverText.{cover_text}
use Rattle.coverage_list.proofs.listing.write_cover.Goals as goal

pub returns : goal.returns
unfolding cover_text
returns g c = puts_of (prints_same (ap cover_text c.of.ensures) c.put_list.ensures)
