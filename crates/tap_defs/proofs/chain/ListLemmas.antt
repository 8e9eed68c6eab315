-- Lists of bits, joined registers, and lists of numbers in ascending order.
use Rattle.std.proofs.Common.{◌≡◌, ◌⊎◌, inl, inr, ℕ, zero, suc, ◌<◌, ◌≤◌, Bool, List, [], ◌∷◌, ◌++◌, length, map, take, drop, refl, sym, ◌∙◌, ap, subst, arith, length-append}
use Rattle.std.proofs.Math.Seq.{take-append_seam, drop-append_seam}
use Rattle.board_defs.proofs.Members.{Has}
use Rattle.board_defs.proofs.Ordered.{InOrder}
use Rattle.tap_defs.specs.chain.Scan.{joined}
use Rattle.tap_defs.specs.chain.ShiftRegister.{shifted_out, shifted, filled, captured_ir}

pub cons_path : {A : Type 0} {x y : A} {xs ys : List A} → x ≡ y → xs ≡ ys → x ∷ xs ≡ y ∷ ys
cons_path p q = cc

pub take_front : {A : Type 0} (n : ℕ) (front rest : List A) → length front ≡ n → take n (front ++ rest) ≡ front
take_front n front rest e = subst (λ (m : ℕ). take m (front ++ rest) ≡ front) e (take-append_seam front rest)

pub drop_front : {A : Type 0} (n : ℕ) (front rest : List A) → length front ≡ n → drop n (front ++ rest) ≡ rest
drop_front n front rest e = subst (λ (m : ℕ). drop m (front ++ rest) ≡ rest) e (drop-append_seam front rest)

pub length-joined : {A B : Type 0} (rs : List (List A)) (qs : List (List B)) → map length rs ≡ map length qs →
    length (joined rs) ≡ length (joined qs)
length-joined [] [] e = refl
length-joined [] (q ∷ qs) e = cc e
length-joined (r ∷ rs) [] e = cc e
length-joined (r ∷ rs) (q ∷ qs) e =
    let head : length r ≡ length q = cc e in
    let tail : map length rs ≡ map length qs = cc e in
    omega (arith, length-append (joined rs) r, length-append (joined qs) q, head, length-joined rs qs tail)

pub shift_is : (bits : List Bool) (tdi : Bool) → bits ++ tdi ∷ [] ≡ shifted_out bits tdi ∷ shifted bits tdi
shift_is [] tdi = refl
shift_is (b ∷ bits) tdi = refl

pub length-shifted : (bits : List Bool) (tdi : Bool) → length (shifted bits tdi) ≡ length bits
length-shifted [] tdi = refl
length-shifted (b ∷ bits) tdi = length-append bits (tdi ∷ []) ∙ omega arith

pub length-filled : {A : Type 0} (n : ℕ) (f : ℕ → A) → length (filled n f) ≡ n
length-filled zero f = refl
length-filled (suc n) f = ap suc (length-filled n (λ k. f (suc k)))

pub map-filled : {A B : Type 0} (g : A → B) (n : ℕ) (f : ℕ → A) → map g (filled n f) ≡ filled n (λ k. g (f k))
map-filled g zero f = refl
map-filled g (suc n) f = cons_path refl (map-filled g n (λ k. f (suc k)))

pub length-captured_ir : (bits : List Bool) (free : ℕ → Bool) → length (captured_ir bits free) ≡ length bits
length-captured_ir [] free = refl
length-captured_ir (a ∷ []) free = refl
length-captured_ir (a ∷ b ∷ bits) free = ap (λ (n : ℕ). suc (suc n)) (length-filled (length bits) free)

-- the numbers are in ascending order, each only once
abbrev pub Rises : List ℕ → Type 0
Rises xs = InOrder (λ a b. a < b) xs

pub le_first : (x : ℕ) (xs : List ℕ) (y : ℕ) → Rises (x ∷ xs) → Has (x ∷ xs) y → x ≤ y
le_first x xs y rise (inl e) = omega (arith, e)
le_first x xs y rise (inr has) = omega (arith, rise.0 y has)

rest_within : (x y : ℕ) (xs ys : List ℕ) → x ≡ y → Rises (x ∷ xs) → ((z : ℕ) → Has (x ∷ xs) z → Has (y ∷ ys) z)
    → (z : ℕ) → Has xs z → Has ys z
rest_within x y xs ys same rise to z has = by_place (to z (inr has))
  where
    by_place : (y ≡ z) ⊎ Has ys z → Has ys z
    by_place (inl e) = absurd (omega (arith, rise.0 z has, same, e))
    by_place (inr later) = later

-- two lists of numbers in ascending order are equal if they have the same numbers
pub rising_same : (xs ys : List ℕ) → Rises xs → Rises ys → ((x : ℕ) → Has xs x → Has ys x) → ((x : ℕ) → Has ys x → Has xs x) → xs ≡ ys
rising_same [] [] p q to from = refl
rising_same [] (y ∷ ys) p q to from = absurd (from y (inl refl))
rising_same (x ∷ xs) [] p q to from = absurd (to x (inl refl))
rising_same (x ∷ xs) (y ∷ ys) p q to from =
    let same : x ≡ y = omega (arith, le_first y ys x q (to x (inl refl)), le_first x xs y p (from y (inl refl))) in
    cons_path same (rising_same xs ys p.1 q.1 (rest_within x y xs ys same p to) (rest_within y x ys xs (sym same) q from))
