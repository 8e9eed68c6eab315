-- Lemmas about the lists of the nets with each label, and about the groups that these lists give. A net's label is the place, in the list
-- of walk nets, of the first walk net whose 1 the net reads. A loop fills the lists net by net.
use Rattle.std.proofs.Common.{◌≡◌, ℕ, zero, suc, ◌+◌, ◌<◌, ◌==◌, Bool, cond, List, [], ◌∷◌, ◌++◌, length, map, take, replicate, Some, refl, sym, ap, ◌∙◌, subst, arith, append-nil}
use Rattle.std.specs.Prelude.{slice_get, All}
use Rattle.std.specs.List.{flat_map, range_with_len}
use Rattle.std.proofs.lemmas.Bool.{eq-eqb, ne_eqb}
use Rattle.board_defs.proofs.Members.{map_has, all_from_has}
use Rattle.tap_defs.proofs.chain.ListLemmas.{cons_path}
use Rattle.lists.specs.Rows.{noted}
use Rattle.walk_test.specs.Groups.{Rise}
use Rattle.walk_test.specs.inner.Reading.{members, where_several, group_at, groups_by}
use Rattle.walk_test.proofs.LabelLemmas.{members_more, rise_members}

-- list `k`, with item `x` appended if `k` is `l`
abbrev with_item : (ℕ → List ℕ) → ℕ → ℕ → ℕ → List ℕ
with_item f l x k = f k ++ cond (l == k) (x ∷ []) []

others_kept : (f : ℕ → List ℕ) (a n l x : ℕ) → l < a → map f (range_with_len a n) ≡ map (with_item f l x) (range_with_len a n)
others_kept f a zero l x less = refl
others_kept f a (suc n) l x less =
    cons_path
    (sym
    (ap (λ (b : Bool). f a ++ cond b (x ∷ []) []) (ne_eqb l a (λ e. omega (arith, less, e)))
    ∙ append-nil (f a))) (others_kept f (a + 1) n l x (omega (arith, less)))

noted_from : (f : ℕ → List ℕ) (a n l x : ℕ)
    → noted (map f (range_with_len a n)) (Some l) x
    ≡ map (with_item f (a + l) x) (range_with_len a n)
noted_from f a zero l x = refl
noted_from f a (suc n) zero x =
    let z : a + 0 ≡ a = omega arith in
    cons_path (sym (ap (λ (b : Bool). f a ++ cond b (x ∷ []) []) (eq-eqb (a + 0) a z))) (others_kept f (a + 1) n (a + 0) x (omega arith))
noted_from f a (suc n) (suc l) x =
    let on : a + 1 + l ≡ a + suc l = omega arith in
    cons_path (sym (ap (λ (b : Bool). f a ++ cond b (x ∷ []) []) (ne_eqb (a + suc l) a (λ e. omega (arith, e))) ∙ append-nil (f a)))
    (noted_from f (a + 1) n l x ∙ ap (λ (m : ℕ). map (with_item f m x) (range_with_len (a + 1) n)) on)

same_over : (f g : ℕ → List ℕ) → ((k : ℕ) → f k ≡ g k) → (ks : List ℕ) → map f ks ≡ map g ks
same_over f g same [] = refl
same_over f g same (k ∷ ks) = cons_path (same k) (same_over f g same ks)

-- One iteration of the loop over the nets, for net `i`.
pub all_members_more : (nets labels : List ℕ) (count i n l : ℕ) (now new : List (List ℕ))
    → slice_get nets i ≡ Some n → slice_get labels i ≡ Some l →
    now ≡ map (members (take i nets) (take i labels)) (range_with_len 0 count) → new ≡ noted now (Some l) n →
    new ≡ map (members (take (i + 1) nets) (take (i + 1) labels)) (range_with_len 0 count)
all_members_more nets labels count i n l now new e f now_is new_is =
    let z : 0 + l ≡ l = omega arith in
    let before = members (take i nets) (take i labels) in
    new_is ∙ ap (λ (v : List (List ℕ)). noted v (Some l) n) now_is ∙ noted_from before 0 count l n
    ∙ ap (λ (m : ℕ). map (with_item before m n) (range_with_len 0 count)) z
    ∙ same_over (with_item before l n) (members (take (i + 1) nets) (take (i + 1) labels))
    (λ k. sym (members_more nets labels k i n l e f)) (range_with_len 0 count)

pub no_members : (a n : ℕ) → replicate n [] ≡ map (members [] []) (range_with_len a n)
no_members a zero = refl
no_members a (suc n) = ap (λ (l : List (List ℕ)). [] ∷ l) (no_members (a + 1) n)

several_over : (nets labels : List ℕ) (ks : List ℕ)
    → flat_map where_several (map (members nets labels) ks) ≡ flat_map (group_at nets labels) ks
several_over nets labels [] = refl
several_over nets labels (k ∷ ks) = ap (λ (l : List (List ℕ)). group_at nets labels k ++ l) (several_over nets labels ks)

pub groups_are : (nets labels : List ℕ) (lists groups : List (List ℕ))
    → lists ≡ map (members nets labels) (range_with_len 0 (length labels))
    → groups ≡ flat_map where_several lists → groups ≡ groups_by nets labels
groups_are nets labels lists groups lists_are is =
    is ∙ ap (λ (l : List (List ℕ)). flat_map where_several l) lists_are
    ∙ several_over nets labels (range_with_len 0 (length labels))

pub all_rise : (nets labels : List ℕ) (lists : List (List ℕ)) → Rise nets
    → lists ≡ map (members nets labels) (range_with_len 0 (length labels)) → All Rise lists
all_rise nets labels lists rise are =
    subst (λ (l : List (List ℕ)). All Rise l) (sym are)
    (all_from_has Rise (map (members nets labels) (range_with_len 0 (length labels)))
    (λ g h. let r = map_has (members nets labels) (range_with_len 0 (length labels)) g h in rise_members nets labels r.0 g rise (sym r.2)))
