use Rattle.std.proofs.Common.{◌∙◌, ◌&&◌, map, ap, sym, nat_lt}
use Rattle.std.proofs.lemmas.Result.{IfOk-weaker}
use Rattle.board_build.specs.inner.Marked.{seen_word, marked_net}
use Rattle.board_lines.proofs.MapLemmas.{filter-map}
use Rattle.board_build.proofs.rules.marked_drivers.Goals as goal

pub returns : goal.returns
returns c =
    IfOk-weaker c.always_on.result _ _
    (λ drivers e. ap (map seen_word) e
    ∙ sym
    (filter-map seen_word (λ m. nat_lt (marked_net m) c.args.nets && m.always_on)
    c.args.words.now)) c.always_on.ensures
