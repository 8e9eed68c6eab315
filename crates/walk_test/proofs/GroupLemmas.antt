-- Lemmas about lists of groups. Two lists of groups that satisfy `AreOrdered` are equal if the same pairs of nets are in one group in both
-- lists.
use Rattle.std.proofs.Common.{◌≡◌, ◌⊎◌, inl, inr, ℕ, zero, suc, ◌+◌, ◌<◌, ◌≤◌, ◌==◌, Bool, true, false, cond, List, [], ◌∷◌, length, Option, Some, None, refl, sym, ◌∙◌, ap, subst, arith}
use Rattle.std.specs.Prelude.{slice_get, Contains}
use Rattle.std.specs.List.{list_any}
use Rattle.std.specs.Cmp.{both_ways as same_answer}
use Rattle.std.proofs.lemmas.Bool.{eqb-true, eq-eqb, or_cases, or_left, or_right}
use Rattle.board_defs.specs.declared.board.RawBoard.{RawBoard}
use Rattle.board_defs.proofs.Members.{Has, has_at, has_place, any_has, has_any, has_contains, has_from_all}
use Rattle.board_defs.proofs.Ordered.{InOrder, pairs_order}
use Rattle.tap_defs.proofs.chain.ListLemmas.{cons_path, Rises, le_first, rising_same}
use Rattle.walk_test.specs.Groups.{Rise, least_of, AreGroups, group_from, group_of}
use Rattle.walk_test.specs.inner.Reading.{is_one_group, are_joined}

pub least_has : (group : List ℕ) → 2 ≤ length group → Has group (least_of group)
least_has [] some = absurd (omega (arith, some))
least_has (n ∷ group) some = inl refl

pub least_le : (group : List ℕ) (n : ℕ) → Rises group → Has group n → least_of group ≤ n
least_le [] n rise has = absurd has
least_le (x ∷ group) n rise has = le_first x group n rise has

abbrev pub Apart : List ℕ → List ℕ → Type 0
Apart one other = (n : ℕ) → Has one n → Has other n → ⊥

abbrev pub Before : List ℕ → List ℕ → Type 0
Before one other = least_of one < least_of other

-- The groups are in order. Each group has two or more nets, in ascending order. No net is in two groups. The lowest nets of the groups are
-- in ascending order.
pub record AreOrdered (groups : List (List ℕ)) : Type 0 where
  pub several : (group : List ℕ) → Has groups group → 2 ≤ length group
  pub rise : (group : List ℕ) → Has groups group → Rises group
  pub apart : InOrder Apart groups
  pub order : InOrder Before groups

tail_ordered : (group : List ℕ) (groups : List (List ℕ)) → AreOrdered (group ∷ groups) → AreOrdered groups
tail_ordered group groups p =
    record {
      several = λ g has. p.several g (inr has);
      rise = λ g has. p.rise g (inr has);
      apart =
          p.apart.1;
      order = p.order.1;
    }

apart_of : (groups : List (List ℕ)) → InOrder (λ one other. (n : ℕ) → Contains one n → Contains other n → ⊥) groups → InOrder Apart groups
apart_of [] p = tt
apart_of (group ∷ groups) p = (λ other has n a b. p.0 other has n (has_contains group n a) (has_contains other n b), apart_of groups p.1)

pub groups_ordered : (board : RawBoard) (groups : List (List ℕ)) → AreGroups board groups → AreOrdered groups
groups_ordered board groups are = record {
  several = λ group has. has_from_all (λ (g : List ℕ). 2 ≤ length g) groups group are.several has;
  rise = λ group has. pairs_order (λ a b. a < b) group (has_from_all Rise groups group are.rise has);
  apart = apart_of groups (pairs_order (λ one other. (n : ℕ) → Contains one n → Contains other n → ⊥) groups are.disjoint);
  order = pairs_order Before groups are.order;
}

-- some group has both nets `a` and `b`
abbrev pub Together : List (List ℕ) → ℕ → ℕ → Type 0
Together groups a b = (group : List ℕ) × Has groups group × Has group a × Has group b

first_only : (group : List ℕ) (groups : List (List ℕ)) (other : List ℕ) (n : ℕ)
    → AreOrdered (group ∷ groups) → Has group n → Has (group ∷ groups) other → Has other n
    → group ≡ other
first_only group groups other n p in_first (inl same) in_other = same
first_only group groups other n p in_first (inr has) in_other = absurd (p.apart.0 other has n in_first in_other)

least_low : (group : List ℕ) (groups : List (List ℕ)) (other : List ℕ) → AreOrdered (group ∷ groups)
    → Has (group ∷ groups) other → least_of group ≤ least_of other
least_low group groups other p (inl same) = let e : least_of group ≡ least_of other = ap least_of same in omega (arith, e)
least_low group groups other p (inr has) = omega (arith, p.order.0 other has)

module _ (g : List ℕ) (gs : List (List ℕ)) (h : List ℕ) (hs : List (List ℕ))
    (p : AreOrdered (g ∷ gs)) (q : AreOrdered (h ∷ hs))
    (to : (a b : ℕ) → Together (g ∷ gs) a b → Together (h ∷ hs) a b) where
  own_least : Has g (least_of g)
  own_least = least_has g (p.several g (inl refl))

  least_above : least_of h ≤ least_of g
  least_above =
      let r = to (least_of g) (least_of g) (g, inl refl, own_least, own_least) in
      omega (arith, least_low h hs r.0 q r.1, least_le r.0 (least_of g) (q.rise r.0 r.1) r.2)

  first_within : least_of g ≡ least_of h → (x : ℕ) → Has g x → Has h x
  first_within same x has =
      let r = to (least_of g) x (g, inl refl, own_least, has) in
      let low : Has h (least_of g) = subst (λ (n : ℕ). Has h n) (sym same) (least_has h (q.several h (inl refl))) in
      let is : h ≡ r.0 = first_only h hs r.0 (least_of g) q low r.1 r.2 in
      subst (λ (l : List ℕ). Has l x) (sym is) r.3

  rest_within : g ≡ h → (a b : ℕ) → Together gs a b → Together hs a b
  rest_within same a b (k, has, in_a, in_b) = by_place (to a b (k, inr has, in_a, in_b))
    where
      by_place : Together (h ∷ hs) a b → Together hs a b
      by_place (l, inl first, la, lb) = absurd (p.apart.0 k has a (subst (λ (s : List ℕ). Has s a) (sym (same ∙ first)) la) in_a)
      by_place (l, inr later, la, lb) = (l, later, la, lb)

pub one_list : (groups others : List (List ℕ)) → AreOrdered groups → AreOrdered others
    → ((a b : ℕ) → Together groups a b → Together others a b)
    → ((a b : ℕ) → Together others a b → Together groups a b) → groups ≡ others
one_list [] [] p q to from = refl
one_list [] (h ∷ hs) p q to from =
    let low = least_has h (q.several h (inl refl)) in
    absurd ((from (least_of h) (least_of h) (h, inl refl, low, low)).1)
one_list (g ∷ gs) [] p q to from =
    let low = least_has g (p.several g (inl refl)) in
    absurd ((to (least_of g) (least_of g) (g, inl refl, low, low)).1)
one_list (g ∷ gs) (h ∷ hs) p q to from =
    let least : least_of g ≡ least_of h = omega (arith, least_above g gs h hs p q to, least_above h hs g gs q p from) in
    let same : g
    ≡ h = rising_same g h (p.rise g (inl refl)) (q.rise h (inl refl))
    (first_within g gs h hs p q to least) (first_within h hs g gs q p from (sym least)) in
    cons_path same
    (one_list gs hs (tail_ordered g gs p) (tail_ordered h hs q)
    (rest_within g gs h hs p q to same) (rest_within h hs g gs q p from (sym same)))

any_in : (group : List ℕ) (n : ℕ) → Has group n → list_any (λ m. m == n) group ≡ true
any_in group n has = has_any (λ m. m == n) group n has (eq-eqb n n refl)

in_any : (group : List ℕ) (n : ℕ) → list_any (λ m. m == n) group ≡ true → Has group n
in_any group n e = let r = any_has (λ m. m == n) group e in subst (λ (m : ℕ). Has group m) (eqb-true r.0 n r.2) r.1

pub record GroupOf (k : ℕ) (groups : List (List ℕ)) (n y : ℕ) : Type 0 where
  pub index : ℕ
  pub group : List ℕ
  pub number_is : y ≡ k + index
  pub stands : slice_get groups index ≡ Some group
  pub member : Has group n

pub group_found : (k : ℕ) (groups : List (List ℕ)) (n y : ℕ) → group_from k groups n ≡ Some y → GroupOf k groups n y
group_found k [] n y e = cc e
group_found k (group ∷ groups) n y e = by_test (group_found (suc k) groups n y) (list_any (λ m. m == n) group) refl e
  where
    by_test : (group_from (suc k) groups n ≡ Some y → GroupOf (suc k) groups n y) → (b : Bool)
        → list_any (λ m. m == n) group ≡ b → cond b (Some k) (group_from (suc k) groups n) ≡ Some y
        → GroupOf k (group ∷ groups) n y
    by_test later true t f =
        let same : k ≡ y = cc f in
        record {
          index = 0;
          group = group;
          number_is = omega (arith, same);
          stands = refl;
          member =
              in_any group n t;
        }
    by_test later false t f =
        let r = later f in
        record {
          index = suc r.index;
          group = r.group;
          number_is = omega (arith, r.number_is);
          stands =
              r.stands;
          member = r.member;
        }

pub group_is : (k : ℕ) (groups : List (List ℕ)) (index : ℕ) (group : List ℕ) (n : ℕ)
    → InOrder Apart groups → slice_get groups index ≡ Some group → Has group n
    → group_from k groups n ≡ Some (k + index)
group_is k [] index group n apart e has = cc e
group_is k (first ∷ groups) zero group n apart e has =
    let same : first ≡ group = cc e in
    let z : k ≡ k + 0 = omega arith in
    ap (λ (b : Bool). cond b (Some k) (group_from (suc k) groups n))
    (any_in first n (subst (λ (l : List ℕ). Has l n) (sym same) has)) ∙ ap (λ (m : ℕ). Some m) z
group_is k (first ∷ groups) (suc index) group n apart e has =
    by_test (group_is (suc k) groups index group n apart.1 e has) (list_any (λ m. m == n) first)
    refl
  where
    by_test : group_from (suc k) groups n ≡ Some (suc k + index) → (b : Bool)
        → list_any (λ m. m == n) first ≡ b
        → cond b (Some k) (group_from (suc k) groups n) ≡ Some (k + suc index)
    by_test later true t = absurd (apart.0 group (has_at groups index group e) n (in_any first n t) has)
    by_test later false t =
        let z : suc k + index ≡ k + suc index = omega arith in
        later ∙ ap (λ (m : ℕ). Some m) z

pub together_of : (groups : List (List ℕ)) (a b : ℕ) → is_one_group (group_of groups a) (group_of groups b) ≡ true → Together groups a b
together_of groups a b e = by_first (group_of groups a) refl e
  where
    by_both : (x y : ℕ) → group_of groups a ≡ Some x → group_of groups b ≡ Some y → (y == x) ≡ true → Together groups a b
    by_both x y ea eb same =
        let p = group_found 0 groups a x ea in
        let q = group_found 0 groups b y eb in
        let at : q.index ≡ p.index = omega (arith, p.number_is, q.number_is, eqb-true y x same) in
        let two : Some q.group ≡ Some p.group = sym q.stands ∙ ap (λ (i : ℕ). slice_get groups i) at ∙ p.stands in
        let one : q.group ≡ p.group = cc two in
        (p.group, has_at groups p.index p.group p.stands, p.member, subst (λ (l : List ℕ). Has l b) one q.member)

    by_second : (x : ℕ) → group_of groups a ≡ Some x → (o : Option ℕ) → group_of groups b ≡ o
        → is_one_group (Some x) o ≡ true → Together groups a b
    by_second x ea None eb same = cc same
    by_second x ea (Some y) eb same = by_both x y ea eb same

    by_first : (o : Option ℕ) → group_of groups a ≡ o → is_one_group o (group_of groups b) ≡ true → Together groups a b
    by_first None ea same = cc same
    by_first (Some x) ea same = by_second x ea (group_of groups b) refl same

pub one_group : (groups : List (List ℕ)) (a b : ℕ) → InOrder Apart groups → Together groups a b
    → is_one_group (group_of groups a) (group_of groups b) ≡ true
one_group groups a b apart (group, has, in_a, in_b) =
    let at = has_place groups group has in
    let z : 0 + at.0 ≡ at.0 = omega arith in
    ap (λ (o : Option ℕ). is_one_group o (group_of groups b)) (group_is 0 groups at.0 group a apart at.1 in_a)
    ∙ ap (λ (o : Option ℕ). is_one_group (Some (0 + at.0)) o) (group_is 0 groups at.0 group b apart at.1 in_b)
    ∙ eq-eqb (0 + at.0) (0 + at.0) refl

pub joined_cases : (groups : List (List ℕ)) (a b : ℕ) → are_joined groups a b ≡ true → (a ≡ b) ⊎ Together groups a b
joined_cases groups a b e = by_case (or_cases (a == b) (is_one_group (group_of groups a) (group_of groups b)) e)
  where
    by_case : ((a == b) ≡ true) ⊎ (is_one_group (group_of groups a) (group_of groups b) ≡ true) → (a ≡ b) ⊎ Together groups a b
    by_case (inl same) = inl (eqb-true a b same)
    by_case (inr one) = inr (together_of groups a b one)

pub joined_self : (groups : List (List ℕ)) (a b : ℕ) → a ≡ b → are_joined groups a b ≡ true
joined_self groups a b same = or_left (a == b) (is_one_group (group_of groups a) (group_of groups b)) (eq-eqb a b same)

module _ (groups : List (List ℕ)) (ordered : AreOrdered groups) where
  pub joined_in : (a b : ℕ) → Together groups a b → are_joined groups a b ≡ true
  joined_in a b t = or_right (a == b) (is_one_group (group_of groups a) (group_of groups b)) (one_group groups a b ordered.apart t)

  pub joined_swap : (a b : ℕ) → are_joined groups a b ≡ true → are_joined groups b a ≡ true
  joined_swap a b e = by_case (joined_cases groups a b e)
    where
      by_case : (a ≡ b) ⊎ Together groups a b → are_joined groups b a ≡ true
      by_case (inl same) = joined_self groups b a (sym same)
      by_case (inr (group, has, in_a, in_b)) = joined_in b a (group, has, in_b, in_a)

  pub one_of : (group other : List ℕ) (n : ℕ) → Has groups group → Has groups other → Has group n → Has other n → group ≡ other
  one_of group other n has also in_one in_other =
      let p = has_place groups group has in
      let q = has_place groups other also in
      let two : Some (0 + p.0)
      ≡ Some (0 + q.0) = sym (group_is 0 groups p.0 group n ordered.apart p.1 in_one)
      ∙ group_is 0 groups q.0 other n ordered.apart q.1 in_other in
      let sum : 0 + p.0 ≡ 0 + q.0 = cc two in
      let at : p.0 ≡ q.0 = omega (arith, sum) in
      let same : Some group ≡ Some other = sym p.1 ∙ ap (λ (i : ℕ). slice_get groups i) at ∙ q.1 in
      cc same

  joined_across : (a b c : ℕ) → are_joined groups a b ≡ true → are_joined groups b c ≡ true → are_joined groups a c ≡ true
  joined_across a b c e f = by_case (joined_cases groups a b e) (joined_cases groups b c f)
    where
      by_case : (a ≡ b) ⊎ Together groups a b → (b ≡ c) ⊎ Together groups b c → are_joined groups a c ≡ true
      by_case (inl same) k = subst (λ (n : ℕ). are_joined groups n c ≡ true) (sym same) f
      by_case (inr t) (inl same) = subst (λ (n : ℕ). are_joined groups a n ≡ true) same e
      by_case (inr (g, has, in_a, in_b)) (inr (h, also, of_b, of_c)) =
          let one : g ≡ h = one_of g h b has also in_b of_b in
          joined_in a c (g, has, in_a, subst (λ (l : List ℕ). Has l c) (sym one) of_c)

  pub joined_same : (a b c : ℕ) → are_joined groups a b ≡ true → are_joined groups a c ≡ are_joined groups b c
  joined_same a b c e =
      same_answer (are_joined groups a c) (are_joined groups b c)
      (λ f. joined_across b a c (joined_swap a b e) f) (λ f. joined_across a b c e f)

  pub joined_by : (a b c : ℕ) → are_joined groups a c ≡ true → are_joined groups b c ≡ true → are_joined groups a b ≡ true
  joined_by a b c e f = joined_across a c b e (joined_swap b c f)
