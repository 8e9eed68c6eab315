use Rattle.std.proofs.Common.{◌≡◌, ◌/◌, ◌<◌, ℕ, length, get_or, sym, ◌∙◌, ap, subst, cond}
use Rattle.std.specs.Int.{bit_at}
use Rattle.std.proofs.lemmas.List.{get_or_default, length-set}
use Rattle.net_classes.specs.NetRows.{AreRowBits}
use Rattle.net_classes.proofs.WordLemmas.{row_put}
use Rattle.net_classes.proofs.net_rows.NetRow.put.Goals as goal

pub returns : goal.returns
returns c =
    let words = c.self.inside.words.items in
    let view : c.args.self.now ≡ words = sym c.self.view_is in
    let place : ℕ = c.args.net / 64 in
    let within : place < length words = subst (λ v. place < length v) view c.requires in
    let read : c.index.result.now ≡ get_or words place 0 = c.index.ensures ∙ get_or_default words place c.index.result.now 0 within in
    record {
      bits = λ before after are on same. row_put before after words c.args.net c.put_bit.result (subst (AreRowBits before) view are) within
          (c.put_bit.ensures.here ∙ ap (λ t. cond t 1 0) (sym on))
          (λ i less other. c.put_bit.ensures.others i less other ∙ ap (λ v. bit_at v i) read)
          same;
      size = length-set words place c.put_bit.result ∙ ap length (sym view);
    }
