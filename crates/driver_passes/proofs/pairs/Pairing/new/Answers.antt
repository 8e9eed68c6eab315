use Rattle.std.proofs.Common.{ℕ, ◌∙◌, ◌+◌, ◌/◌, ap}
use Rattle.std.specs.List.{list_all}
use Rattle.driver_passes.specs.inner.NumberSets.{is_in}
use Rattle.driver_passes.specs.inner.Shown.{words_at}
use Rattle.driver_passes.proofs.RowLemmas.{always_whole}
use Rattle.driver_passes.proofs.pairs.Pairing.new.Goals as goal

pub returns-clause-pairing : goal.returns-clause-pairing
returns-clause-pairing c =
    let progress = c.args.progress in
    let same = ap (λ (n : ℕ). n / 64 + 1) c.net_count-nets.ensures.value in
    record {
      rows = c.requires.progress.rows;
      column = c.in_ok-column.ensures ∙ ap (words_at c.in_ok-column.column.number) c.deref-2.ensures.value;
      tested = c.requires.tested;
      useful = c.requires.progress.useful;
      left_length = c.in_ok-left.ensures.room ∙ same;
      always = always_whole c.args.board.now progress.passes.items progress.rows.items
          c.keep_shown.new.always _ c.requires.progress.rows (c.in_ok-always.ensures.room ∙ same)
          c.keep_shown.ensures.room (λ n within.
          c.keep_shown.ensures.nets n within ∙ ap (list_all (λ row. is_in row n)) c.deref.ensures.value);
    }
