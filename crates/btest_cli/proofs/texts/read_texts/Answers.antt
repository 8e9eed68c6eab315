use Rattle.std.proofs.Common.{rules, ◌+◌, refl, map}
use Rattle.btest_cli.proofs.ReadingLemmas.{items_more, memory_of, next_lost, next_read}
use Rattle.btest_cli.proofs.texts.read_texts.Goals as goal

pub returns-in-Err : goal.returns-in-Err
returns-in-Err g c =
    rw c.as_slice-names.ensures.names at
    (next_lost c.as_slice-names.result.now c.loop-name.name-index _ _ c.loop-name-test.true refl
    c.loop-name.invariant.reads c.in-Err.ensures)

pub returns-in_default : goal.returns-in_default
returns-in_default g c =
    rw c.as_slice-names.ensures.names at
    (memory_of c.as_slice-names.result.now (c.loop-name.name-index + 1)
    (next_read c.as_slice-names.result.now c.loop-name.name-index _ _ c.loop-name-test.true refl
    c.loop-name.invariant.reads c.in-Ok.ensures _ refl))

pub loop-name-preserved : goal.loop-name-preserved
loop-name-preserved g c = record {
  reads =
      next_read c.as_slice-names.result.now c.loop-name.name-index _ _ c.loop-name-test.true refl c.loop-name.invariant.reads
      c.in-Ok.ensures (map (λ text. text.items) c.push.new.self.items)
      (items_more c.loop-name.texts.items c.push.new.self.items c.into_bytes.result c.in-Ok.text
      c.in-Ok-push.ensures.items c.into_bytes.ensures.bytes);
  short = search rules;
  number = search rules;
}
