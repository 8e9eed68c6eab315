use Rattle.std.proofs.Common.{◌≡◌, ◌∷◌, [], ◌++◌, List, ℕ, length, sym, ap, subst, ◌∙◌, append_assoc, append-nil, arith}
use Rattle.std.specs.Prelude.{All}
use Rattle.std.specs.List.{flat_map}
use Rattle.std.specs.Vec.Iter.{into_iter_items}
use Rattle.std.proofs.lemmas.Grind.{flat_map-append}
use Rattle.std.proofs.lemmas.List.{nil_from_length}
use Rattle.std.proofs.lemmas.List.Elements.{All-head, All-tail}
use Rattle.walk_test.specs.Groups.{Rise}
use Rattle.walk_test.specs.inner.Reading.{where_several}
use Rattle.walk_test.proofs.grouping.groups_among.Goals as goal

pub push_group-requires : goal.push_group-requires
push_group-requires c =
    let list : List ℕ = c.in-Some.list in
    let steps : into_iter_items c.loop-list.list-iterator ≡ list ∷ into_iter_items c.next.new.self = c.in-Some.ensures.steps.0 in
    let rise = subst (λ (l : List (List ℕ)). All Rise l) steps c.loop-list.invariant.rise in
    subst (λ (l : List ℕ). Rise l) (sym c.into_vec.ensures) (All-head Rise list (into_iter_items c.next.new.self) rise)

pub loop-list-preserved : goal.loop-list-preserved
loop-list-preserved c =
    let at = c.loop-list in
    let list : List ℕ = c.in-Some.list in
    let steps : into_iter_items at.list-iterator ≡ list ∷ into_iter_items c.next.new.self = c.in-Some.ensures.steps.0 in
    let rise = subst (λ (l : List (List ℕ)). All Rise l) steps at.invariant.rise in
    record {
      all = append_assoc at.yielded (list ∷ []) _ ∙ rw (← steps) at.invariant.all;
      count =
          let was = at.invariant.count in
          let gone = c.in-Some.ensures.steps.1 in
          let short = ap length steps in
          omega arith;
      rise = All-tail Rise list (into_iter_items c.next.new.self) rise;
      groups =
          c.in_ok-push_group.ensures
          ∙ ap (λ (l : List (List ℕ)). l ++ where_several c.into_vec.result.items) at.invariant.groups
          ∙ ap (λ (l : List ℕ). flat_map where_several at.yielded ++ where_several l) c.into_vec.ensures
          ∙ sym
          (flat_map-append where_several at.yielded (list ∷ [])
          ∙ ap (λ (l : List (List ℕ)). flat_map where_several at.yielded ++ l)
          (append-nil (where_several list)));
    }

pub returns : goal.returns
returns c =
    let at = c.loop-list in
    let none = c.in-None.ensures.steps in
    let empty : into_iter_items at.list-iterator ≡ [] = nil_from_length _ (sym at.invariant.count ∙ none.0) in
    let all = sym (append-nil at.yielded) ∙ rw empty at at.invariant.all ∙ c.into_iter-list-iterator.ensures.into_iter_gives.0 in
    at.invariant.groups ∙ ap (λ (l : List (List ℕ)). flat_map where_several l) all
