-- The pin is appended to the list of pins of the net with this number, and the lists of the other
-- nets stay the same.
use Rattle.std.proofs.Common.{◌≡◌, ◌<◌, ◌∷◌, [], ◌++◌, length, map, set, get_or, ap, sym, ◌∙◌, arith}
use Rattle.std.proofs.lemmas.List.{map-set, get_or-map}
use Rattle.board_build.proofs.nets.push_pin.Goals as goal

pub returns-clause-groups : goal.returns-clause-groups
returns-clause-groups c =
    let groups = c.args.groups.now.items in
    let was = c.index_mut.result.now in
    let within : c.args.number < length groups = omega (arith, c.requires, c.args.groups.now.ok.0) in
    let old : get_or (map (λ g. g.items) groups) c.args.number []
    ≡ was.items = get_or-map (λ g. g.items) groups c.args.number was [] within
    ∙ ap (λ g. g.items) (sym c.index_mut.ensures.value) in
    map-set (λ g. g.items) groups c.args.number c.push.new.self
    ∙ ap (set (map (λ g. g.items) groups) c.args.number)
    (c.in_ok-push.ensures.items ∙ ap (λ v. v ++ c.args.pin ∷ []) (sym old))
