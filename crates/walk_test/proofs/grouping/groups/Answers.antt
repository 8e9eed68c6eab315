use Rattle.std.proofs.Common.{◌≡◌, ℕ, List, Some, length, map, ap, sym, ◌∙◌, arith}
use Rattle.std.proofs.lemmas.List.{length-map}
use Rattle.std.proofs.lemmas.Option.{MatchOption-at_none, MatchOption-at_some}
use Rattle.walk_test.specs.inner.Reading.{label_of, ShowsLabels}
use Rattle.walk_test.proofs.SetLemmas.{by_parts, walked_at, nets_at, nets_in_order, all_have_places, nothing_at, none_found, groups_found, found_named}
use Rattle.walk_test.proofs.grouping.groups.Goals as goal

pub returns-then-pass_count-eq0-clause-found : goal.returns-then-pass_count-eq0-clause-found
returns-then-pass_count-eq0-clause-found c =
    nothing_at c.walk_safe.ensures c.logs_by_rows.ensures c.rows_compared.ensures.walk
    c.scans_in_turn.ensures.walk c.args.board.now c.raw-rules.ensures.rules c.args.walk.now
    c.walk.inside.tables c.args.log.now c.pass_count.result c.new.result.items
    c.requires.walk c.walk.view_is c.pass_count.ensures c.if-pass_count-eq0.true c.requires.rows c.new.ensures.items

pub of-requires-clause-few : goal.of-requires-clause-few
of-requires-clause-few c =
    let w = walked_at c.args.board.now c.args.walk.now c.walk.inside.tables
    c.as_slice-cells.result.now c.pass_count.result c.requires.walk c.walk.view_is
    c.as_slice-cells.ensures c.pass_count.ensures c.if-pass_count-eq0.false in
    omega (arith, w.are.count, ap (λ t. length t.nets) c.walk.view_is, c.walk.invariant, ap (λ (l : List ℕ). length l) c.requires.walk.nets)

pub of-requires-clause-size : goal.of-requires-clause-size
of-requires-clause-size c =
    let w = walked_at c.args.board.now c.args.walk.now c.walk.inside.tables
    c.as_slice-cells.result.now c.pass_count.result c.requires.walk c.walk.view_is
    c.as_slice-cells.ensures c.pass_count.ensures c.if-pass_count-eq0.false in
    record {
      rows = omega (arith, w.are.count, c.requires.rows, ap (λ (l : List ℕ). length l) c.requires.walk.nets);
      bits = λ k d less. c.requires.bits k d less ∙ sym c.dr_bits.ensures;
    }

pub of-requires-clause-places : goal.of-requires-clause-places
of-requires-clause-places c =
    let w = walked_at c.args.board.now c.args.walk.now c.walk.inside.tables
    c.as_slice-cells.result.now c.pass_count.result c.requires.walk c.walk.view_is
    c.as_slice-cells.ensures c.pass_count.ensures c.if-pass_count-eq0.false in
    all_have_places c.args.board.now c.raw-rules.ensures.rules c.as_slice-cells.result.now w c.dr_bits.result c.dr_bits.ensures

pub groups_by-requires-clause-rise : goal.groups_by-requires-clause-rise
groups_by-requires-clause-rise c =
    nets_in_order c.args.board.now c.as_slice-nets.result.now
    (nets_at c.args.board.now c.args.walk.now c.walk.inside.tables c.as_slice-nets.result.now
    c.requires.walk c.walk.view_is c.as_slice-nets.ensures)

pub groups_by-requires-clause-labels : goal.groups_by-requires-clause-labels
groups_by-requires-clause-labels c =
    let it = c.in_ok-logged.logged in
    let cells = c.as_slice-cells.result.now in
    let w = walked_at c.args.board.now c.args.walk.now c.walk.inside.tables
    c.as_slice-cells.result.now c.pass_count.result c.requires.walk c.walk.view_is
    c.as_slice-cells.ensures c.pass_count.ensures c.if-pass_count-eq0.false in
    let nets = nets_at c.args.board.now c.args.walk.now c.walk.inside.tables
    c.as_slice-nets.result.now c.requires.walk c.walk.view_is c.as_slice-nets.ensures in
    let shown = MatchOption-at_some (ShowsLabels it.log (map (label_of it.log) it.nets) it.nets → ⊥)
    (λ labels. (labels.items ≡ map (label_of it.log) it.nets)
    × ShowsLabels it.log labels.items it.nets) c.in-Some.labels c.in-Some.is
    c.in_ok-shown_labels.ensures in
    ap (λ (l : List ℕ). length l) (c.deref.ensures.value ∙ shown.0)
    ∙ length-map it.nets (label_of it.log) ∙ ap (λ l. length l) c.in_ok-logged.ensures.nets
    ∙ w.are.count ∙ sym (ap (λ (l : List ℕ). length l) nets)

pub returns-in-None-clause-found : goal.returns-in-None-clause-found
returns-in-None-clause-found c =
    let it = c.in_ok-logged.logged in
    let log = c.args.log.now in
    let cells = c.as_slice-cells.result.now in
    let w = walked_at c.args.board.now c.args.walk.now c.walk.inside.tables
    c.as_slice-cells.result.now c.pass_count.result c.requires.walk c.walk.view_is
    c.as_slice-cells.ensures c.pass_count.ensures c.if-pass_count-eq0.false in
    let hidden = MatchOption-at_none
    (ShowsLabels it.log (map (label_of it.log) it.nets) it.nets → ⊥)
    (λ labels. (labels.items ≡ map (label_of it.log) it.nets)
    × ShowsLabels it.log labels.items it.nets) c.in-None.is c.in_ok-shown_labels.ensures in
    none_found c.walk_safe.ensures c.logs_by_rows.ensures c.rows_compared.ensures.walk
    c.scans_in_turn.ensures.walk c.args.board.now c.raw-rules.ensures.rules cells w log
    (c.requires.rows ∙ ap (λ (l : List ℕ). length l) c.requires.walk.nets) c.requires.bits
    (by_parts it log cells c.in_ok-logged.ensures.log c.in_ok-logged.ensures.nets (λ l n. ShowsLabels l (map (label_of l) n) n → ⊥) hidden)

pub returns-clause-found : goal.returns-clause-found
returns-clause-found c =
    let it = c.in_ok-logged.logged in
    let log = c.args.log.now in
    let cells = c.as_slice-cells.result.now in
    let w = walked_at c.args.board.now c.args.walk.now c.walk.inside.tables
    c.as_slice-cells.result.now c.pass_count.result c.requires.walk c.walk.view_is
    c.as_slice-cells.ensures c.pass_count.ensures c.if-pass_count-eq0.false in
    let nets = nets_at c.args.board.now c.args.walk.now c.walk.inside.tables
    c.as_slice-nets.result.now c.requires.walk c.walk.view_is c.as_slice-nets.ensures in
    let shown = MatchOption-at_some (ShowsLabels it.log (map (label_of it.log) it.nets) it.nets → ⊥)
    (λ labels. (labels.items ≡ map (label_of it.log) it.nets)
    × ShowsLabels it.log labels.items it.nets) c.in-Some.labels c.in-Some.is
    c.in_ok-shown_labels.ensures in
    let labels = c.in-Some.labels.items in
    let are = by_parts it log cells c.in_ok-logged.ensures.log c.in_ok-logged.ensures.nets
    (λ l n. (labels ≡ map (label_of l) n) × ShowsLabels l labels n) shown in
    groups_found c.walk_safe.ensures c.logs_by_rows.ensures c.rows_compared.ensures.walk
    c.scans_in_turn.ensures.walk c.args.board.now c.raw-rules.ensures.rules cells w log
    (c.requires.rows ∙ ap (λ (l : List ℕ). length l) c.requires.walk.nets) c.requires.bits
    c.as_slice-nets.result.now labels c.deref.result.now nets are.0 c.deref.ensures.value are.1
    c.in_ok-groups_by-in-Some.field-0.items c.in_ok-groups_by-in-Some.ensures

pub returns-clause-named : goal.returns-clause-named
returns-clause-named c =
    found_named c.args.board.now c.args.log.now (Some c.in_ok-groups_by-in-Some.field-0.items) (returns-clause-found c)
