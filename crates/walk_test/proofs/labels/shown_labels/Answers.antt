use Rattle.std.proofs.Common.{◌≡◌, ℕ, true, false, List, length, map, sym, ap, subst, ◌∙◌, arith}
use Rattle.std.specs.List.{list_all}
use Rattle.std.proofs.lemmas.List.{with_items_is}
use Rattle.walk_test.specs.declared.tables.NetCells.{NetCells}
use Rattle.walk_test.specs.inner.Reading.{first_in, is_even, label_of, AreRead, ShowsLabels}
use Rattle.walk_test.proofs.ReadLemmas.{labels_are, even_shows, shows_even}
use Rattle.walk_test.proofs.labels.shown_labels.Goals as goal

pub read_rows-requires-clause-firsts : goal.read_rows-requires-clause-firsts
read_rows-requires-clause-firsts c = omega (arith, c.deref_mut.ensures.len, c.in_ok-firsts.ensures.len, c.len.ensures)

pub returns-then-not-are_even : goal.returns-then-not-are_even
returns-then-not-are_even c shows =
    let it = c.args.log.now in
    let none = c.rows-none.result in
    let nets = c.nets-nets.result.now in
    let new = c.read_rows.new.firsts in
    let read = subst (λ (n : ℕ). AreRead it.log it.mask it.nets n (length it.nets) new)
    (sym c.rows-none.ensures) c.if-not-read_rows.ensures in
    let same : c.deref.result.now
    ≡ new = c.deref.ensures.value
    ∙ with_items_is c.in_ok-firsts.firsts new
    (c.read_rows.auto.firsts ∙ c.deref_mut.ensures.len) in
    let even = shows_even it.log it.mask it.nets none c.rows-none.ensures c.laws.ensures.rows c.laws.ensures.compared new read shows in
    let bad : false ≡ true =
    sym c.if-not-are_even.true
    ∙ c.are_even.ensures
    ∙ ap (λ (l : List ℕ). list_all (is_even none l) nets) same
    ∙ ap (λ (l : List NetCells). list_all (is_even none new) l) c.nets-nets.ensures
    ∙ even in
    cc bad

pub returns : goal.returns
returns c =
    let it = c.args.log.now in
    let none = c.rows-none.result in
    let nets = c.nets-nets.result.now in
    let new = c.read_rows.new.firsts in
    let read = subst (λ (n : ℕ). AreRead it.log it.mask it.nets n (length it.nets) new)
    (sym c.rows-none.ensures) c.if-not-read_rows.ensures in
    let size = c.read_rows.auto.firsts ∙ c.deref_mut.ensures.len in
    let same : c.deref.result.now ≡ new = c.deref.ensures.value ∙ with_items_is c.in_ok-firsts.firsts new size in
    let again : c.deref-2.result.now ≡ new = c.deref-2.ensures.value ∙ with_items_is c.in_ok-firsts.firsts new size in
    let even : list_all (is_even none new) it.nets ≡ true =
    ap (λ (l : List NetCells). list_all (is_even none new) l) (sym c.nets-nets.ensures)
    ∙ ap (λ (l : List ℕ). list_all (is_even none l) nets) (sym same)
    ∙ sym c.are_even.ensures
    ∙ c.if-not-are_even.false in
    let labels : c.in_ok-labels_in.field-0.items ≡ map (label_of it.log) it.nets =
    c.in_ok-labels_in.ensures
    ∙ ap (λ (l : List ℕ). map (first_in none l) nets) again
    ∙ ap (λ (l : List NetCells). map (first_in none new) l) c.nets-nets.ensures
    ∙ labels_are it.log it.mask it.nets none c.rows-none.ensures c.laws.ensures.rows c.laws.ensures.compared new read in (
      labels,
      subst (λ (l : List ℕ). ShowsLabels it.log l it.nets) (sym labels)
          (even_shows it.log it.mask it.nets none c.rows-none.ensures c.laws.ensures.rows
          c.laws.ensures.compared new read even),
    )
