use Rattle.std.proofs.Common.{◌≡◌, All, drop, vec_len}
use Rattle.bsdl_parser.specs.Entity.{HaveKinds, IsSmall}
use Rattle.btest_core.proofs.TextLemmas.{CompletesTexts, numbered}
use Rattle.btest_core.proofs.texts.entities.Given as goal

-- The list has the entities of the texts visited so far, one for each text. The list, followed by
-- the entities of the remaining texts, has the entities of all texts. The attributes of each entity
-- have the right kinds of values, and its lists, names and texts are shorter than 2^32.
abbrev pub invariant-loop-text : goal.invariant-loop-text
invariant-loop-text l = record {
  read : CompletesTexts l.texts.items.now (numbered l.text (drop l.text l.texts.items.now)) l.entities.items;
  kinds : All HaveKinds l.entities.items;
  small : All IsSmall l.entities.items;
  number : vec_len l.entities ≡ l.text;
}
