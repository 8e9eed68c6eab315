-- The code width of `n` codes is the smallest `w` for which `2 ^ w` is at least `n + 2`. So no code from 1 to `n` has only zeros or only
-- ones.
use Rattle.std.proofs.Common.{◌≡◌, ℕ, zero, suc, ◌+◌, ◌^◌, ◌<◌, ◌≤◌, Bool, true, false, cond, Option, Some, None, refl, ◌∙◌, ap, arith}
use Rattle.std.specs.Prelude.{nat_le, find, unwrap_or}
use Rattle.std.specs.List.{range_with_len}
use Rattle.std.proofs.lemmas.Bool.{leb-true, leb-false}
use Rattle.std.proofs.Math.Nat.{pow-suc}
use Rattle.board_defs.proofs.Members.{find_has, find_none, has_range}
use Rattle.tap_defs.specs.board.TestRows.{code_width, IsCodeWidth}

grows : (n : ℕ) → n + 2 ≤ 2 ^ suc n
grows zero = omega arith
grows (suc n) = omega (arith, grows n, pow-suc 2 (suc n))

none_before : (p : ℕ → Bool) (n a w : ℕ) → find p (range_with_len a n) ≡ Some w → (v : ℕ) → a ≤ v → v < w → p v ≡ false
none_before p zero a w e v h k = cc e
none_before p (suc n) a w e v h k = by_test (λ i f. none_before p n (a + 1) w f v i k) (p a) refl e
  where
    by_place : (a + 1 ≤ v → find p (range_with_len (a + 1) n) ≡ Some w → p v ≡ false) → p a ≡ false → (b : Bool) → nat_le v a ≡ b →
        find p (range_with_len (a + 1) n) ≡ Some w → p v ≡ false
    by_place rest q true t f = let z : v ≡ a = omega (arith, leb-true v a t, h) in ap p z ∙ q
    by_place rest q false t f = rest (omega (arith, leb-false v a t)) f

    by_test : (a + 1 ≤ v → find p (range_with_len (a + 1) n) ≡ Some w → p v ≡ false) → (b : Bool) → p a ≡ b →
        cond b (Some a) (find p (range_with_len (a + 1) n)) ≡ Some w → p v ≡ false
    by_test rest true q f = let z : a ≡ w = cc f in absurd (omega (arith, z, h, k))
    by_test rest false q f = by_place rest q (nat_le v a) refl f

abbrev enough : ℕ → ℕ → Bool
enough n w = nat_le (n + 2) (2 ^ w)

pub width_is : (n : ℕ) → IsCodeWidth n (code_width n)
width_is n = go (find (enough n) (range_with_len 0 (n + 2))) refl
  where
    go : (o : Option ℕ) → find (enough n) (range_with_len 0 (n + 2)) ≡ o → IsCodeWidth n (unwrap_or o 0)
    go None e =
        let none : enough n (suc n)
        ≡ false = find_none (enough n) (range_with_len 0 (n + 2)) (suc n) e
        (has_range 0 (n + 2) (suc n) (omega arith) (omega arith)) in
        absurd (omega (arith, leb-false (n + 2) (2 ^ suc n) none, grows n))
    go (Some w) e = record {
      enough = leb-true (n + 2) (2 ^ w) (find_has (enough n) (range_with_len 0 (n + 2)) w e).1;
      least = λ less h. leb-false (n + 2) (2 ^ less) (none_before (enough n) (n + 2) 0 w e less (omega arith) h);
    }
