-- Net `n` gets the pins of group `n`: the pins whose words belong to net `n`, in the order of the
-- words.
use Rattle.std.proofs.Common.{◌≡◌, ◌+◌, length, map, ap, ◌∙◌, arith}
use Rattle.std.proofs.lemmas.List.{length-map}
use Rattle.std.proofs.lemmas.Result.{IfOk-weaker}
use Rattle.board_build.specs.inner.Marked.{marked_group, nets_with, seen_word}
use Rattle.board_build.proofs.GroupLemmas.{nets_zip}
use Rattle.board_build.proofs.nets.nets_of.Goals as goal

pub returns : goal.returns
returns c =
    let words = map seen_word c.words.result.now in
    let names = map (λ n. n.now) c.args.names.now in
    let count : length c.in_ok-groups.groups.items
    ≡ length c.args.names.now = omega
    (arith, c.in_ok-groups.ensures.count, c.in_ok-groups.groups.ok.0) in
    let size : length (map (λ g. g.items) c.in_ok-groups.groups.items)
    ≡ length c.args.names.now = length-map c.in_ok-groups.groups.items (λ g. g.items) ∙ count in
    IfOk-weaker c.nets_by.result _ _
    (λ nets e known pulled hs hp. e ∙ nets_zip _ _ known pulled words hs hp c.args.names.now
    (map (λ g. g.items) c.in_ok-groups.groups.items) 0 size
    (λ k less. let here : k ≡ 0 + k = omega arith in c.in_ok-groups.ensures.groups k less ∙ ap (marked_group words) here)
    ∙ ap (λ v. nets_with known pulled v 0 names) c.words.ensures)
    c.nets_by.ensures
