-- Lemmas about a text that is printed in pieces. If a write to the sink fails, the text is cut short.
use Rattle.std.proofs.Common.{◌≡◌, ℕ, ◌+◌, ◌-◌, ◌<◌, min, List, [], ◌∷◌, ◌++◌, length, take, refl, sym, ap, ◌∙◌, append_assoc, append-nil, arith, subst, Result, Ok, Err, IsErr, true, false, inl, inr, map, drop, Bor, get_or}
use Rattle.std.proofs.Math.Seq.{take-add}
use Rattle.std.proofs.lemmas.List.{drop_more, take_more, take-append-drop}
use Rattle.bt_base.specs.Puts.{Puts, Shown, Takes}
use Rattle.bt_base.proofs.Cuts.{rose_after, takes_twice, take-append-past, take-append-least, takes_same}
use Rattle.line_printer.specs.Prints.{Prints, Moves, whole}

pub prints_same : {T E : Type 0} {old new : Shown} {p l a b : List ℕ} {r : Result T E} → a ≡ b
    → Prints old new p l a r → Prints old new p l b r
prints_same {T} {E} {old} {new} {p} {l} {a} {b} {r} same prints = subst (λ t. Prints old new p l t r) same prints

pub prints_from : {T E : Type 0} {old new : Shown} {p q l a : List ℕ} {r : Result T E} → p ≡ q
    → Prints old new p l a r → Prints old new q l a r
prints_from {T} {E} {old} {new} {p} {q} {l} {a} {r} same prints = subst (λ t. Prints old new t l a r) same prints

pub prints_to : {T E : Type 0} {old new : Shown} {p l m a : List ℕ} {r : Result T E} → l ≡ m
    → Prints old new p l a r → Prints old new p m a r
prints_to {T} {E} {old} {new} {p} {l} {m} {a} {r} same prints = subst (λ t. Prints old new p t a r) same prints

pub prints_none : {T E : Type 0} {old : Shown} {p l a : List ℕ} (x : T) → l ≡ p ++ a → Prints {T = T} {E = E} old old p l a (Ok x)
prints_none x holds = record { whole = inl (refl, holds); cut = tt; later = omega arith; cause = tt }

two_moves : (u m v l p a b : List ℕ) → u ++ m ≡ p ++ a → v ++ l ≡ m ++ b → (u ++ v) ++ l ≡ p ++ (a ++ b)
two_moves u m v l p a b first second =
    append_assoc u v l ∙ ap (λ t. u ++ t) second ∙ sym (append_assoc u m b) ∙ ap (λ t. t ++ b) first ∙ append_assoc p a b

still_move : (m v l p a b : List ℕ) → m ≡ p ++ a → v ++ l ≡ m ++ b → v ++ l ≡ p ++ (a ++ b)
still_move m v l p a b first second = second ∙ ap (λ t. t ++ b) first ∙ append_assoc p a b

move_still : (u m l p a b : List ℕ) → u ++ m ≡ p ++ a → l ≡ m ++ b → u ++ l ≡ p ++ (a ++ b)
move_still u m l p a b first second = ap (λ t. u ++ t) second ∙ sym (append_assoc u m b) ∙ ap (λ t. t ++ b) first ∙ append_assoc p a b

moves_twice : {old mid new : Shown} (p m l a b : List ℕ) → Moves old mid p m a → Moves mid new m l b → Moves old new p l (a ++ b)
moves_twice {old} {mid} {new} p m l a b (inl (same, holds)) (inl (same', holds')) =
    inl (same' ∙ same, holds' ∙ ap (λ t. t ++ b) holds ∙ append_assoc p a b)
moves_twice {old} {mid} {new} p m l a b (inl (same, holds)) (inr (v, takes, holds')) =
    inr (v, subst (λ s. Takes s new v) same takes, still_move m v l p a b holds holds')
moves_twice {old} {mid} {new} p m l a b (inr (u, takes, holds)) (inl (same, holds')) =
    inr (u, subst (λ s. Takes old s u) (sym same) takes, move_still u m l p a b holds holds')
moves_twice {old} {mid} {new} p m l a b (inr (u, takes, holds)) (inr (v, takes', holds')) =
    inr (u ++ v, takes_twice takes takes', two_moves u m v l p a b holds holds')

cut_second : {old mid new : Shown} (p m a b : List ℕ) (k : ℕ) → Moves old mid p m a
    → Takes mid new (take k (m ++ b)) → (n : ℕ) × Takes old new (take n (p ++ (a ++ b)))
cut_second {old} {mid} {new} p m a b k (inl (same, holds)) takes =
    (k, takes_same (ap (take k) (ap (λ t. t ++ b) holds ∙ append_assoc p a b)) (subst (λ s. Takes s new (take k (m ++ b))) same takes))
cut_second {old} {mid} {new} p m a b k (inr (u, first, holds)) takes = (
  length u + k,
  takes_same
      (take-append-past k u (m ++ b)
      ∙ ap (take (length u + k))
      (sym (append_assoc u m b) ∙ ap (λ t. t ++ b) holds ∙ append_assoc p a b))
      (takes_twice first takes),
)

-- If a first call prints `a` and returns Ok, and a second call prints `b`, both calls together print `a ++ b`.
pub prints_ok : {T U E F : Type 0} {old mid new : Shown} {p m l a b : List ℕ} {r : Result T E}
    {x : T} {s : Result U F} → Prints old mid p m a r → r ≡ Ok x → Prints mid new m l b s
    → Prints old new p l (a ++ b) s
prints_ok {T} {U} {E} {F} {old} {mid} {new} {p} {m} {l} {a} {b} {r} {x} {s} first ok second = after s second
  where
    moves : Moves old mid p m a
    moves = (subst (λ (q : Result T E). Prints old mid p m a q) ok first).whole

    after : (s : Result U F) → Prints mid new m l b s → Prints old new p l (a ++ b) s
    after (Ok y) second = record {
      whole = moves_twice p m l a b moves second.whole;
      cut = tt;
      later = omega (arith, first.later, second.later);
      cause = tt;
    }
    after (Err e) second = record {
      whole = tt;
      cut = cut_second p m a b second.cut.0 moves second.cut.1;
      later = omega (arith, first.later, second.later);
      cause = rose_after first.later second.cause;
    }

-- A caller that fails to print `a`, and returns Err, meets the contract of printing `a ++ b`.
pub prints_err : {T U E F : Type 0} {old new : Shown} {p m l a : List ℕ} {r : Result T E} {e : E}
    {s : Result U F} → (b : List ℕ) → Prints old new p m a r → r ≡ Err e → IsErr s
    → Prints old new p l (a ++ b) s
prints_err {T} {U} {E} {F} {old} {new} {p} {m} {l} {a} {r} {e} {s} b first err is = by s is
  where
    cut : Prints {T = T} {E = E} old new p m a (Err e)
    cut = subst (λ (q : Result T E). Prints old new p m a q) err first

    by : (s : Result U F) → IsErr s → Prints old new p l (a ++ b) s
    by (Ok y) is = let bad : false ≡ true = is in absurd cc
    by (Err f) is = record {
      whole = tt;
      cut = (
        min cut.cut.0 (length (p ++ a)),
        takes_same
            (take-append-least cut.cut.0 (p ++ a) b
            ∙ ap (take (min cut.cut.0 (length (p ++ a)))) (append_assoc p a b)) cut.cut.1,
      );
      later = cut.later;
      cause = cut.cause;
    }

-- If a call prints a text and returns Ok, a caller that returns Ok with another value has also printed the text.
pub prints_done : {T U E F : Type 0} {old new : Shown} {p l a : List ℕ} {r : Result T E} {x : T}
    {y : U} → Prints old new p l a r → r ≡ Ok x → Prints {T = U} {E = F} old new p l a (Ok y)
prints_done {T} {U} {E} {F} {old} {new} {p} {l} {a} {r} {x} {y} prints ok = record {
  whole = (subst (λ (q : Result T E). Prints old new p l a q) ok prints).whole;
  cut = tt;
  later = prints.later;
  cause = tt;
}

-- If the buffer had the bytes `p`, and a call writes `p ++ a` to the sink and leaves the buffer empty, the
-- call prints `a`.
pub prints_put : {T E : Type 0} {old new : Shown} {p l a b : List ℕ} {r : Result T E}
    → Puts old new b r → b ≡ p ++ a → l ≡ [] → Prints old new p l a r
prints_put {T} {E} {old} {new} {p} {l} {a} {b} {r} put same empty = by r put
  where
    by : (r : Result T E) → Puts old new b r → Prints old new p l a r
    by (Ok x) put = record {
      whole = inr (b, put.whole, ap (λ t. b ++ t) empty ∙ append-nil b ∙ same);
      cut = tt;
      later = put.later;
      cause = tt;
    }
    by (Err e) put = record {
      whole = tt;
      cut = (put.cut.0, takes_same (ap (take put.cut.0) same) put.cut.1);
      later = put.later;
      cause = put.cause;
    }

-- If the buffer is empty before and after a call that prints a nonempty text, the call writes the text to the sink.
pub puts_of : {T E : Type 0} {old new : Shown} {c : ℕ} {a : List ℕ} {r : Result T E}
    → Prints old new [] [] (c ∷ a) r → Puts old new (c ∷ a) r
puts_of {T} {E} {old} {new} {c} {a} {r} prints = by r prints
  where
    moved : Moves old new [] [] (c ∷ a) → Takes old new (c ∷ a)
    moved (inl (same, holds)) = let clash : ◌≡◌ {A = List ℕ} [] (c ∷ a) = holds in cc clash
    moved (inr (u, takes, holds)) = takes_same (sym (append-nil u) ∙ holds) takes

    by : (r : Result T E) → Prints old new [] [] (c ∷ a) r → Puts old new (c ∷ a) r
    by (Ok x) prints = record { whole = moved prints.whole; cut = tt; later = prints.later; cause = tt }
    by (Err e) prints = record { whole = tt; cut = prints.cut; later = prints.later; cause = prints.cause }

whole-append : (a b : List (List ℕ)) → whole (a ++ b) ≡ whole a ++ whole b
whole-append [] b = refl
whole-append (x ∷ a) b = ap (λ t. x ++ t) (whole-append a b) ∙ sym (append_assoc x (whole a) (whole b))

lent-append : (a b : List (Bor (List ℕ))) → map (λ p. p.now) (a ++ b) ≡ map (λ p. p.now) a ++ map (λ p. p.now) b
lent-append [] b = refl
lent-append (x ∷ a) b = ap (λ t. x.now ∷ t) (lent-append a b)

pub whole-more : (pieces : List (Bor (List ℕ))) (i : ℕ) (d : Bor (List ℕ)) → i < length pieces
    → whole (map (λ p. p.now) (take i pieces)) ++ (get_or pieces i d).now ≡ whole (map (λ p. p.now) (take (i + 1) pieces))
whole-more pieces i d within =
    ap (λ t. whole (map (λ p. p.now) (take i pieces)) ++ t) (sym (append-nil (get_or pieces i d).now))
    ∙ sym
    (ap (λ l. whole (map (λ p. p.now) l)) (take_more pieces i d within) ∙ ap whole
    (lent-append (take i pieces) (get_or pieces i d ∷ []))
    ∙ whole-append (map (λ p. p.now) (take i pieces)) ((get_or pieces i d).now ∷ []))

pub whole-split : (pieces : List (Bor (List ℕ))) (i : ℕ) (d : Bor (List ℕ)) → i < length pieces
    → whole (map (λ p. p.now) (take i pieces))
    ++ ((get_or pieces i d).now ++ whole (map (λ p. p.now) (drop (i + 1) pieces)))
    ≡ whole (map (λ p. p.now) pieces)
whole-split pieces i d within =
    let cut : pieces
    ≡ take i pieces
    ++ get_or pieces i d ∷ drop (i + 1) pieces = sym (take-append-drop i pieces)
    ∙ ap (λ l. take i pieces ++ l) (drop_more pieces i d within) in
    sym (ap (λ l. whole (map (λ p. p.now) l)) cut ∙ ap whole (lent-append (take i pieces) (get_or pieces i d ∷ drop (i + 1) pieces))
    ∙ whole-append (map (λ p. p.now) (take i pieces)) ((get_or pieces i d).now ∷ map (λ p. p.now) (drop (i + 1) pieces)))

pub taken_more : (at count : ℕ) (text : List ℕ) → take at text ++ take (at + count - at) (drop at text) ≡ take (at + count) text
taken_more at count text =
    let same : at + count - at ≡ count = omega arith in
    ap (λ n. take at text ++ take n (drop at text)) same ∙ sym (take-add at count text)
