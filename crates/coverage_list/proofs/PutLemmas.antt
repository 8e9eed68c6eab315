-- Lemmas about a loop that writes the texts of the numbers below `count` in turn. At each step, what the loop has written, followed by
-- the remaining texts, is the whole text.
use Rattle.std.proofs.Common.{◌≡◌, ℕ, ◌+◌, ◌-◌, ◌<◌, ◌≤◌, zero, suc, append_assoc, List, [], ◌++◌, refl, sym, ◌∙◌, ap, Result, Ok, Err, IsErr, arith}
use Rattle.std.specs.List.{flat_map, range_with_len}
use Rattle.bt_base.specs.Puts.{Shown}
use Rattle.bt_base.specs.declared.sink.PutFault.{PutFault}
use Rattle.line_printer.specs.Prints.{Prints}
use Rattle.line_printer.proofs.PrintLemmas.{prints_ok, prints_err, prints_none, prints_same}
use Rattle.line_printer.proofs.PutLemmas.{Completes}
use Rattle.coverage_list.specs.inner.CoverForms.{texts_from}

texts_next : (f : ℕ → List ℕ) (n count : ℕ) → n < count → texts_from f n count ≡ f n ++ texts_from f (n + 1) count
texts_next f n count less = let e : count - n ≡ suc (count - (n + 1)) = omega arith in ap (λ k. flat_map f (range_with_len n k)) e

texts_none : (f : ℕ → List ℕ) (n count : ℕ) → count ≤ n → texts_from f n count ≡ []
texts_none f n count past = let e : count - n ≡ 0 = omega arith in ap (λ k. flat_map f (range_with_len n k)) e

range_split : (f : ℕ → List ℕ) (n a b : ℕ)
    → flat_map f (range_with_len n (a + b))
    ≡ flat_map f (range_with_len n a) ++ flat_map f (range_with_len (n + a) b)
range_split f n zero b =
    let none : 0 + b ≡ b = omega arith in
    let here : n ≡ n + 0 = omega arith in
    ap (λ k. flat_map f (range_with_len n k)) none ∙ ap (λ k. flat_map f (range_with_len k b)) here
range_split f n (suc a) b =
    let one : suc a + b ≡ suc (a + b) = omega arith in
    let next : n + 1 + a ≡ n + suc a = omega arith in
    ap (λ k. flat_map f (range_with_len n k)) one ∙ ap (λ t. f n ++ t) (range_split f (n + 1) a b)
    ∙ sym
    (append_assoc (f n) (flat_map f (range_with_len (n + 1) a))
    (flat_map f (range_with_len (n + 1 + a) b))) ∙
    ap (λ k. (f n ++ flat_map f (range_with_len (n + 1) a)) ++ flat_map f (range_with_len k b)) next

texts_split : (f : ℕ → List ℕ) (n m count : ℕ) → n ≤ m → m ≤ count → texts_from f n count ≡ texts_from f n m ++ texts_from f m count
texts_split f n m count least most =
    let whole : count - n ≡ (m - n) + (count - m) = omega (arith, least, most) in
    let later : n + (m - n) ≡ m = omega (arith, least) in
    ap (λ k. flat_map f (range_with_len n k)) whole ∙ range_split f n (m - n) (count - m)
    ∙ ap
    (λ k. flat_map f (range_with_len n (m - n)) ++ flat_map f (range_with_len k (count - m)))
    later

pub each_start : (start : Shown) (whole : List ℕ) → Completes start start whole whole
each_start start whole new r p = p

-- a step that writes the text of number `n`
pub each_ok : (f : ℕ → List ℕ) (n count : ℕ) (whole : List ℕ) {start now new : Shown}
    {r : Result (Unit {0}) PutFault} {x : Unit {0}}
    → Completes start now (texts_from f n count) whole → n < count → Prints now new [] [] (f n) r
    → r ≡ Ok x → Completes start new (texts_from f (n + 1) count) whole
each_ok f n count whole {start} {now} {new} {r} {x} completes less first ok last q rest =
    completes last q (prints_same (sym (texts_next f n count less)) (prints_ok first ok rest))

-- a step that fails in the text of number `n`: a prefix of the whole text is written
pub each_err : (f : ℕ → List ℕ) (n count : ℕ) (whole : List ℕ) {start now new : Shown}
    {r q : Result (Unit {0}) PutFault} {e : PutFault}
    → Completes start now (texts_from f n count) whole → n < count → Prints now new [] [] (f n) r
    → r ≡ Err e → IsErr q → Prints start new [] [] whole q
each_err f n count whole {start} {now} {new} {r} {q} {e} completes less first err is =
    completes new q (prints_same (sym (texts_next f n count less)) (prints_err (texts_from f (n + 1) count) first err is))

-- a step that writes the texts of the numbers `n..m`
pub some_ok : (f : ℕ → List ℕ) (n m count : ℕ) (whole : List ℕ) {start now new : Shown}
    {r : Result (Unit {0}) PutFault} {x : Unit {0}}
    → Completes start now (texts_from f n count) whole → n ≤ m → m ≤ count
    → Prints now new [] [] (texts_from f n m) r → r ≡ Ok x
    → Completes start new (texts_from f m count) whole
some_ok f n m count whole {start} {now} {new} {r} {x} completes least most first ok last q rest =
    completes last q (prints_same (sym (texts_split f n m count least most)) (prints_ok first ok rest))

-- a step that fails in the texts of the numbers `n..m`: a prefix of the whole text is written
pub some_err : (f : ℕ → List ℕ) (n m count : ℕ) (whole : List ℕ) {start now new : Shown}
    {r q : Result (Unit {0}) PutFault} {e : PutFault}
    → Completes start now (texts_from f n count) whole → n ≤ m → m ≤ count
    → Prints now new [] [] (texts_from f n m) r → r ≡ Err e → IsErr q
    → Prints start new [] [] whole q
some_err f n m count whole {start} {now} {new} {r} {q} {e} completes least most first err is =
    completes new q (prints_same (sym (texts_split f n m count least most)) (prints_err (texts_from f m count) first err is))

-- the end of the loop: no text remains, so the whole text is written
pub each_end : (f : ℕ → List ℕ) (n count : ℕ) (whole : List ℕ) {start now : Shown}
    → Completes start now (texts_from f n count) whole → count ≤ n
    → Prints {T = Unit {0}} {E = PutFault} start now [] [] whole (Ok tt)
each_end f n count whole {start} {now} completes past =
    completes now (Ok tt) (prints_same (sym (texts_none f n count past)) (prints_none tt refl))
