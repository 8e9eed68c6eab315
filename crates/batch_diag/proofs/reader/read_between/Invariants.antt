use Rattle.std.proofs.Common.{◌≡◌, Ok}
use Rattle.std.specs.Prelude.{All}
use Rattle.response_log.specs.LogRows.{HasSize}
use Rattle.batch_diag.specs.inner.Reading.{said_between}
use Rattle.batch_diag.proofs.reader.read_between.Given as goal

-- `found` has the blocks `first..i` with their logs
abbrev pub invariant-loop-i : goal.invariant-loop-i
invariant-loop-i l = record {
  said : said_between l.reading l.first l.i ≡ Ok l.found.items;
  size : All (λ block. HasSize l.reading.rows l.reading.len block.log) l.found.items;
}
