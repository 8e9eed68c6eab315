-- Lemmas about a loop that prints the texts of items in turn. `Completes start now rest whole` says: a call that prints
-- `rest` from the sink's state `now` completes the printing of `whole`, which began in the state `start`.
use Rattle.std.proofs.Common.{◌≡◌, ℕ, ◌+◌, ◌<◌, ◌≤◌, List, [], ◌++◌, length, get_or, drop, refl, sym, ap, ◌∙◌, Result, Ok, Err, IsErr}
use Rattle.std.specs.List.{flat_map}
use Rattle.std.proofs.lemmas.List.{drop_more, drop_all}
use Rattle.bt_base.specs.Puts.{Shown}
use Rattle.bt_base.specs.declared.sink.PutFault.{PutFault}
use Rattle.line_printer.specs.Prints.{Prints}
use Rattle.line_printer.proofs.PrintLemmas.{prints_ok, prints_err, prints_none, prints_same}

abbrev pub Completes : Shown → Shown → List ℕ → List ℕ → Type 0
Completes start now rest whole =
    (new : Shown) (r : Result (Unit {0}) PutFault) → Prints now new [] [] rest r
    → Prints start new [] [] whole r

module _ {X : Type 0} (text : X → List ℕ) (items : List X) where
  abbrev pub texts_after : ℕ → List ℕ
  texts_after i = flat_map text (drop i items)

  after_next : (i : ℕ) (x : X) → x ≡ get_or items i x → i < length items → texts_after i ≡ text x ++ texts_after (i + 1)
  after_next i x is less =
      ap (λ (l : List X). flat_map text l) (drop_more items i x less)
      ∙ ap (λ (y : X). text y ++ texts_after (i + 1)) (sym is)

  pub next_ok : (i : ℕ) (x : X) {start now new : Shown} {r : Result (Unit {0}) PutFault}
      {u : Unit {0}} → x ≡ get_or items i x → i < length items
      → Completes start now (texts_after i) (flat_map text items) →
      Prints now new [] [] (text x) r → r ≡ Ok u → Completes start new (texts_after (i + 1)) (flat_map text items)
  next_ok i x {start} {now} {new} {r} {u} is less completes first ok last q rest =
      completes last q (prints_same (sym (after_next i x is less)) (prints_ok first ok rest))

  pub next_err : (i : ℕ) (x : X) {start now new : Shown} {r q : Result (Unit {0}) PutFault}
      {e : PutFault} → x ≡ get_or items i x → i < length items
      → Completes start now (texts_after i) (flat_map text items) →
      Prints now new [] [] (text x) r → r ≡ Err e → IsErr q → Prints start new [] [] (flat_map text items) q
  next_err i x {start} {now} {new} {r} {q} {e} is less completes first err is_err =
      completes new q (prints_same (sym (after_next i x is less)) (prints_err (texts_after (i + 1)) first err is_err))

  pub all_put : (i : ℕ) {start now : Shown} → length items ≤ i
      → Completes start now (texts_after i) (flat_map text items)
      → Prints {T = Unit {0}} {E = PutFault} start now [] [] (flat_map text items) (Ok tt)
  all_put i {start} {now} past completes =
      completes now (Ok tt)
      (prints_same (sym (ap (λ (l : List X). flat_map text l) (drop_all i items past)))
      (prints_none tt refl))
