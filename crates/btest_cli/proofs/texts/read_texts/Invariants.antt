use Rattle.std.proofs.Common.{◌≡◌, ◌<◌, ◌^◌, Ok, All, map, take, length}
use Rattle.btest_cli.specs.inner.Reads.{AreAll, Reads}
use Rattle.btest_cli.proofs.ReadingLemmas.{called}
use Rattle.btest_cli.proofs.texts.read_texts.Given as goal

-- The texts with the names before `name` were read, and the list has these texts. Each of them has
-- fewer than 2^32 bytes.
abbrev pub invariant-loop-name : goal.invariant-loop-name
invariant-loop-name g l = record {
  reads : Reads AreAll (called (take l.name-index l.names)) (g.S.Store.held l.fn.store)
      (g.S.Store.held l.store) (g.S.Store.faults l.fn.store) (g.S.Store.faults l.store)
      (g.S.Store.asked l.fn.store) (g.S.Store.asked l.store)
      (Ok (map (λ text. text.items) l.texts.items));
  short : All (λ text. length text.items < 2 ^ 32) l.texts.items;
  number : length l.texts.items ≡ l.name-index;
}
