use Rattle.std.proofs.Common.{◌≡◌, map, length, arith, sym, ◌∙◌, ap, Vec, Global}
use Rattle.std.specs.Prelude.{filter}
use Rattle.std.proofs.lemmas.List.{with_items_is}
use Rattle.lists.proofs.ListLemmas.{map-map}
use Rattle.board_defs.specs.Passes.{all_cells}
use Rattle.net_facts.specs.Cells.{table, item_of_cell}
use Rattle.net_facts.specs.inner.Rows.{made_rows, mark_nets}
use Rattle.net_facts.specs.inner.Answers.{class_in, useful_in}
use Rattle.net_facts.specs.declared.classes.ControlClass.{ControlClass}
use Rattle.net_facts.specs.inner.Shared.{flags_of, shared_in}
use Rattle.net_facts.proofs.Contended.{shared_rows}
use Rattle.net_facts.proofs.Marks.{Made, made_of}
use Rattle.net_facts.proofs.classes.facts_by.Goals as goal

pub returns : goal.returns
returns c =
    let board = c.args.board.now in
    let facts = c.args.facts.items in
    let before = table c.in_ok-controls.controls.items in
    let after = table c.mark_useful.new.rows in
    let nets = c.in_ok-nets.nets.items in
    let useful = c.in_ok-useful.useful.items in
    let size : length c.mark_useful.new.rows
    ≡ c.in_ok-controls.controls.len = grind
    (arith, c.mark_useful.auto.rows, c.deref_mut.ensures.len, c.deref_mut.ensures.value) in
    let kept = with_items_is c.in_ok-controls.controls c.mark_useful.new.rows size in
    let m : Made board nets after useful = made_of board facts before after nets useful
    c.raw-rules.ensures.rules c.requires
    (c.in_ok-controls.ensures ∙ ap (made_rows board) c.deref.ensures.value)
    (c.in_ok-nets.ensures
    ∙ ap (λ rows. map (class_in (table rows)) c.deref-3.result.now) c.deref-2.ensures.value
    ∙ ap (map (class_in before)) c.deref-3.ensures.value)
    (c.mark_useful.ensures
    ∙ ap (λ rows. mark_nets (table rows) c.deref-4.result.now) c.deref_mut.ensures.value
    ∙ ap (mark_nets before) c.deref-4.ensures.value)
    (c.in_ok-useful.ensures ∙ ap (λ rows. filter (useful_in (table rows)) (all_cells board)) (c.deref-5.ensures.value ∙ kept)) in
    let flags = c.in_ok-flags.flags.items in
    let shared = shared_rows board facts flags after (table c.in_ok-shared.shared.items) c.requires
    (c.in_ok-flags.ensures ∙ ap flags_of c.deref-6.ensures.value) m.controls_are
    (c.in_ok-shared.ensures ∙ ap
    (λ v. map (λ (row : Vec ControlClass Global). map (shared_in v) row.items)
    c.deref-8.result.now) c.deref-7.ensures.value ∙
    ap (map (λ (row : Vec ControlClass Global). map (shared_in flags) row.items))
    (c.deref-8.ensures.value ∙ kept) ∙ sym
    (map-map (λ (row : Vec ControlClass Global). row.items) (map (shared_in flags))
    c.mark_useful.new.rows)) in
    record {
      facts_are = c.requires;
      nets_are = m.nets_are;
      controls_are = λ d is. ap
          (λ rows. item_of_cell (table rows) d) kept
          ∙ m.controls_are d is;
      useful_are = m.useful_are;
      shared_are = shared;
    }
