use Rattle.std.proofs.Common.{◌≡◌, List, ap, ◌∙◌}
use Rattle.std.proofs.lemmas.List.{take_all}
use Rattle.board_defs.specs.declared.board.Net.{Net}
use Rattle.board_defs.specs.declared.board.RawBoard.{RawBoard}
use Rattle.walk_test.specs.inner.Setting.{all_switching}
use Rattle.walk_test.proofs.SettingLemmas.{net_more}
use Rattle.walk_test.proofs.setting.switching_of.Goals as goal

pub loop-n-preserved : goal.loop-n-preserved
loop-n-preserved c =
    let nets = c.as_slice-nets.result.now in
    let are : nets ≡ c.args.board.now.nets = c.as_slice-nets.ensures ∙ ap (λ (b : RawBoard). b.nets) c.raw.ensures.value in
    net_more c.args.board.now nets c.loop-n.n c.index-nets-n.result c.loop-n.setting
    c.add_net.new.setting are c.loop-n-test.true c.index-nets-n.is c.loop-n.invariant
    c.in_ok-add_net.ensures

pub returns : goal.returns
returns c =
    let nets = c.as_slice-nets.result.now in
    let are : nets ≡ c.args.board.now.nets = c.as_slice-nets.ensures ∙ ap (λ (b : RawBoard). b.nets) c.raw.ensures.value in
    c.loop-n.invariant ∙ ap (λ (l : List Net). all_switching c.args.board.now l) (take_all c.loop-n.n nets c.loop-n-test.false ∙ are)
