-- Proofs for the loop that cuts the blocks out of a text one by one.
use Rattle.std.proofs.Common.{◌≡◌, ◌+◌, ◌<◌, ◌≤◌, ◌++◌, ◌∷◌, [], length, arith}
use Rattle.std.proofs.lemmas.List.{length_push}
use Rattle.text_lines.proofs.LineLemmas.{at_some}
use Rattle.response_log.specs.LogRows.{row_lines}
use Rattle.batch_diag.specs.Batch.{blocks_of}
use Rattle.batch_diag.proofs.ReadLemmas.{cut_more, next_count, next_place}
use Rattle.batch_diag.proofs.lines.list_blocks.Goals as goal

pub unread_block-requires : goal.unread_block-requires
unread_block-requires c =
    let title = c.in-Some.title in
    let place : title.line + length title.behind.now
    ≤ length c.args.text.items.now = at_some
    (λ t. t.line + length t.behind.now ≤ length c.args.text.items.now) c.loop-next.next title
    c.in-Some.is c.loop-next.invariant.place in
    omega (arith, place, c.args.text.short, c.cut_at_title-in-Some.ensures.within)

pub loop-next-preserved : goal.loop-next-preserved
loop-next-preserved c =
    let lines = blocks_of (row_lines c.args.text.items.now) in
    let title = c.in-Some.title in
    let own = c.cut_at_title-in-Some.result.0 in
    let following = c.cut_at_title-in-Some.result.1 in
    let block = c.unread_block.result in
    let unread = c.loop-next.unread.items in
    let items : c.push.new.self.items ≡ unread ++ block ∷ [] = c.in_ok-push.ensures.items in
    let count : length unread
    < title.line = at_some (λ t. length unread < t.line) c.loop-next.next title c.in-Some.is
    c.loop-next.invariant.count in
    let place : title.line + length title.behind.now
    ≤ length c.args.text.items.now = at_some
    (λ t. t.line + length t.behind.now ≤ length c.args.text.items.now) c.loop-next.next title
    c.in-Some.is c.loop-next.invariant.place in
    rw items (record {
      cut =
          cut_more lines unread c.loop-next.next following title own.now block c.in-Some.is
          c.loop-next.invariant.cut c.cut_at_title-in-Some.ensures.own
          c.cut_at_title-in-Some.ensures.rest c.unread_block.ensures;
      few = omega (arith, length_push unread block, count, place);
      count = next_count following unread block title.line count c.cut_at_title-in-Some.ensures.later;
      place =
          next_place following title.line (length title.behind.now) (length c.args.text.items.now)
          place c.cut_at_title-in-Some.ensures.place;
    })
