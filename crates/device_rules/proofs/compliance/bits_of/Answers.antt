-- If the loop's next word names a bit, the loop adds that bit to the set.
use Rattle.std.proofs.Common.{sym, ap, subst, ◌∙◌, ◌+◌, take}
use Rattle.std.specs.Prelude.{option_map}
use Rattle.std.specs.List.{list_any}
use Rattle.std.proofs.lemmas.List.{take_all}
use Rattle.device_rules.specs.inner.Index.{names_bit, HasBits}
use Rattle.device_rules.proofs.NamedLemmas.{marked_more, marked_none}
use Rattle.device_rules.proofs.compliance.bits_of.Goals as goal
use Rattle.device_rules.proofs.compliance.bits_of.Goals.{in-Some+in_ok-insert, in_default}

pub loop-word-preserved : goal.loop-word-preserved
loop-word-preserved c =
    let words = c.args.words.now in
    let i = c.loop-word.word-index in
    let word = c.word-item.result in
    let P = λ (s : _). HasBits s (take (i + 1) words) in
    elim c.match-key_of.branch [
      | in-Some+in_ok-insert w ↦
          subst P (sym w.bits-is) (λ name index.
          marked_more words i word (w.in-Some.key.0.now, w.in-Some.key.1) name.now index _ _
          c.loop-word-test.true (sym c.word-item.is)
          (sym c.key_of.ensures ∙ ap (option_map (λ key. (key.0.now, key.1))) w.in-Some.is)
          (w.in_ok-insert.ensures.updates.0 (name, index)) (c.loop-word.invariant name index))
      | in_default w ↦
          subst P (sym w.bits-is)
          (λ name index. marked_none words i word name.now index _ c.loop-word-test.true
          (sym c.word-item.is)
          (sym c.key_of.ensures
          ∙ ap (option_map (λ key. (key.0.now, key.1))) w.in_default.is)
          (c.loop-word.invariant name index))
    ]

pub returns : goal.returns
returns c =
    λ name index. c.loop-word.invariant name index
    ∙ ap (list_any (names_bit name.now index))
    (take_all c.loop-word.word-index c.args.words.now c.loop-word-test.false)
