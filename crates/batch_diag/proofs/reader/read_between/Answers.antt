-- Proofs for the loop that reads the blocks of a range one by one.
use Rattle.std.proofs.Common.{◌≡◌, ◌+◌, ◌≤◌, ◌++◌, ◌∷◌, [], List, refl, sym, subst, arith}
use Rattle.std.specs.Prelude.{All}
use Rattle.std.proofs.lemmas.List.Elements.{All-nil, All-push}
use Rattle.response_log.specs.LogRows.{HasSize}
use Rattle.batch_diag.specs.declared.block.Block.{Block}
use Rattle.batch_diag.proofs.ReadLemmas.{read_end, read_more, read_none, read_start}
use Rattle.batch_diag.proofs.reader.read_between.Goals as goal

pub loop-i-init : goal.loop-i-init
loop-i-init c =
    let r = c.args.reading.now in
    record {
      said = read_start r c.args.first c.new-found.result.items c.new-found.ensures.items;
      size =
          subst (λ (l : List Block). All (λ (block : Block). HasSize r.rows r.len block.log) l)
          (sym c.new-found.ensures.items)
          (All-nil (λ (block : Block). HasSize r.rows r.len block.log));
    }

pub loop-i-preserved : goal.loop-i-preserved
loop-i-preserved c =
    let r = c.args.reading.now in
    let i = c.loop-i.i in
    let block = c.in-Ok.block in
    let found = c.loop-i.found.items in
    let items : c.push.new.self.items ≡ found ++ block ∷ [] = c.in_ok-push.ensures.items in
    rw items (record {
      said =
          read_more r i c.unread_at-unread.result c.unread_at-unread.ensures c.args.first (i + 1)
          found (found ++ block ∷ []) block c.loop-i.auto.i c.loop-i.invariant.said
          c.in-Ok.ensures.id c.in-Ok.ensures.log refl;
      size = All-push (λ (b : Block). HasSize r.rows r.len b.log) found block c.loop-i.invariant.size c.in-Ok.ensures.size;
    })

pub returns-in-Err : goal.returns-in-Err
returns-in-Err c =
    let r = c.args.reading.now in
    let i = c.loop-i.i in (
      read_none r i c.unread_at-unread.result c.unread_at-unread.ensures c.args.first c.args.end
          c.loop-i.found.items c.in-Err.fault c.loop-i.auto.i c.loop-i-test.true c.requires.within
          c.loop-i.invariant.said c.in-Err.ensures.log,
      tt,
      c.in-Err.ensures.inner,
    )

pub returns : goal.returns
returns c =
    let last : c.loop-i.i ≤ c.args.end = c.loop-i.auto.i-end c.requires.order in
    let end : c.loop-i.i ≡ c.args.end = omega (arith, last, c.loop-i-test.false) in (
      read_end c.args.reading.now c.args.first c.loop-i.i c.args.end c.loop-i.found.items end
          c.loop-i.invariant.said,
      c.loop-i.invariant.size,
      tt,
    )
