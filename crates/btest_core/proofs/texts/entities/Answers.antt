use Rattle.std.proofs.Common.{rules, Err}
use Rattle.std.proofs.lemmas.List.Elements.{All-push}
use Rattle.bsdl_parser.specs.Entity.{HaveKinds, IsSmall}
use Rattle.btest_core.specs.TextsRead.{AreEntities, IsEntityOf, IsEntityOfText}
use Rattle.std.proofs.lemmas.Option.{IfSome_then}
use Rattle.btest_core.specs.Answers.{input_told}
use Rattle.btest_core.proofs.EachLemmas.{completes_all, completes_more, completes_fault, completes_end}
use Rattle.btest_core.proofs.TextLemmas.{texts_left, no_texts_left, bytes_of}
use Rattle.btest_core.proofs.texts.entities.Goals as goal

pub loop-text-init : goal.loop-text-init
loop-text-init c =
    record {
      read = rw (c.new-entities.ensures.items) (completes_all IsEntityOfText _);
      kinds = search
          rules;
      small = search rules;
      number = search rules;
    }

pub loop-text-preserved : goal.loop-text-preserved
loop-text-preserved c =
    let left = texts_left c.args.texts.items.now c.loop-text.text c.loop-text.entities.items
    c.bytes-item.result c.deref.result.now c.loop-text-test.true c.bytes-item.is
    c.deref.ensures.value c.loop-text.invariant.read in
    record {
      read =
          rw (c.in_ok-push.ensures.items)
          (completes_more IsEntityOfText _ (c.loop-text.text, c.deref.result.now) _
          c.loop-text.entities.items c.in-Ok.entity left c.in-Ok.ensures.read);
      kinds =
          rw (c.in_ok-push.ensures.items)
          (All-push HaveKinds c.loop-text.entities.items c.in-Ok.entity c.loop-text.invariant.kinds
          c.in-Ok.ensures.kinds);
      small =
          rw (c.in_ok-push.ensures.items)
          (All-push IsSmall c.loop-text.entities.items c.in-Ok.entity c.loop-text.invariant.small
          c.in-Ok.ensures.small);
      number = search rules;
    }

pub returns-in-Err-clause-read : goal.returns-in-Err-clause-read
returns-in-Err-clause-read c =
    let left = texts_left c.args.texts.items.now c.loop-text.text c.loop-text.entities.items
    c.bytes-item.result c.deref.result.now c.loop-text-test.true c.bytes-item.is
    c.deref.ensures.value c.loop-text.invariant.read in
    IfSome_then (input_told c.in-Err.fault)
    {P = λ f. IsEntityOf c.deref.result.now c.loop-text.text (Err f)}
    {Q = λ f. AreEntities (bytes_of c.args.texts.items.now) (Err f)} c.in-Err.ensures.read
    (λ f is. completes_fault IsEntityOfText _ (c.loop-text.text, c.deref.result.now) _
    c.loop-text.entities.items f left is)

pub returns-clause-read : goal.returns-clause-read
returns-clause-read c =
    completes_end IsEntityOfText _ c.loop-text.entities.items
    (no_texts_left c.args.texts.items.now c.loop-text.text c.loop-text.entities.items
    c.loop-text-test.false c.loop-text.invariant.read)

pub returns-clause-kinds : goal.returns-clause-kinds
returns-clause-kinds c = c.loop-text.invariant.kinds

pub returns-clause-small : goal.returns-clause-small
returns-clause-small c = c.loop-text.invariant.small

pub returns-clause-number : goal.returns-clause-number
returns-clause-number c = search rules
