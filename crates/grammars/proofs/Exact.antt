-- A reader decides a production if it finds the value of each list that the production derives, and runs out
-- of tokens if and only if the tokens satisfy the production's `Cut`.
use Rattle.std.proofs.Common.{◌≡◌, true, false, List, [], ◌∷◌, ◌++◌, Option, Some, None, IsSome, inl, inr, refl, sym, ◌∙◌, ap, subst, append_assoc, append-nil}
use Rattle.grammars.specs.Production.{Production}
use Rattle.grammars.specs.Production as production
use Rattle.grammars.specs.inner.Reader.{Reader, Outcome, found, refused, read_on}
use Rattle.grammars.specs.inner.Reader as reader

-- the outcome leaves no tokens
abbrev pub RunsOut : {T A : Type 0} → Outcome T A → Type 0
RunsOut (found a rest) = rest ≡ []
RunsOut (refused rest) = rest ≡ []

-- the reader finds the value `a` in `front` and leaves the tokens after it, whatever these tokens are
pub record Reads {T A : Type 0} (read : Reader T A) (tokens : List T) (a : A) (rest : List T) : Type 0 where
  pub front : List T
  pub split : tokens ≡ front ++ rest
  pub again : (more : List T) → read (front ++ more) ≡ found a more

pub record Refuses {T A : Type 0} (read : Reader T A) (tokens rest : List T) : Type 0 where
  pub front : List T
  pub split : tokens ≡ front ++ rest
  pub before : read front ≡ refused []
  pub again : (token : T) (tail more : List T) → rest ≡ token ∷ tail → read (front ++ token ∷ more) ≡ refused (token ∷ more)

abbrev pub IsLocalAt : {T A : Type 0} → Reader T A → List T → Outcome T A → Type 0
IsLocalAt read tokens (found a rest) = Reads read tokens a rest
IsLocalAt read tokens (refused rest) = Refuses read tokens rest

pub record Decides {T A : Type 0} (p : Production T A) (read : Reader T A) : Type 0 where
  pub local : (tokens : List T) → IsLocalAt read tokens (read tokens)
  pub whole : (tokens : List T) (a : A) → p.Whole tokens a → read tokens ≡ found a []
  pub is_whole : (tokens : List T) (a : A) → read tokens ≡ found a [] → p.Whole tokens a
  pub cut : (tokens : List T) → p.Cut tokens → RunsOut (read tokens)
  pub is_cut : (tokens : List T) → RunsOut (read tokens) → p.Cut tokens

pub decides_done : {T A : Type 0} (a : A) → Decides (production.done {T = T} a) (reader.done a)
decides_done a = record {
  local = λ tokens. record { front = []; split = refl; again = λ more. refl };
  whole = λ tokens b h. cc (h.0, h.1);
  is_whole = λ tokens b e. (cc, cc);
  cut = λ tokens h. h;
  is_cut = λ tokens h. h;
}

pub decides_none : {T A : Type 0} → Decides (production.none {T = T} {A = A}) (reader.none {A = A})
decides_none = record {
  local = λ tokens. record { front = []; split = refl; before = refl; again = λ token tail more e. refl };
  whole = λ tokens a h. absurd h;
  is_whole = λ tokens a e. cc;
  cut = λ tokens h. h;
  is_cut = λ tokens h. h;
}

local_value : {T A : Type 0} (value : T → Option A) (token : T) (tokens : List T) (v : Option A) → value token ≡ v
    → IsLocalAt (reader.place value) (token ∷ tokens) (reader.value_then v token tokens)
local_value value token tokens (Some a) e =
    record
    { front = token ∷ []; split = refl; again = λ more. ap (λ v. reader.value_then v token more) e }
local_value value token tokens None e = record {
  front = [];
  split = refl;
  before = refl;
  again = λ next tail more same.
      ap (λ v. reader.value_then v next more) (subst (λ t. value t ≡ None) (cc) e);
}

local_place : {T A : Type 0} (value : T → Option A) (tokens : List T) → IsLocalAt (reader.place value) tokens (reader.place value tokens)
local_place value [] = record { front = []; split = refl; before = refl; again = λ token tail more e. cc }
local_place value (token ∷ tokens) = local_value value token tokens (value token) refl

value_is : {T A : Type 0} (token : T) (tokens : List T) (v : Option A) (a : A)
    → reader.value_then v token tokens ≡ found a [] → (v ≡ Some a) × (tokens ≡ [])
value_is token tokens (Some b) a e = (cc, cc)
value_is token tokens None a e = cc

whole_place : {T A : Type 0} (value : T → Option A) (tokens : List T) (a : A)
    → reader.place value tokens ≡ found a [] → (production.place value).Whole tokens a
whole_place value [] a e = cc
whole_place value (token ∷ tokens) a e = let h = value_is token tokens (value token) a e in (token, ap (λ ts. token ∷ ts) h.1, h.0)

absurd_bool : {P : Type 0} → false ≡ true → P
absurd_bool e = cc

cut_value : {T A : Type 0} (token : T) (v : Option A) → IsSome v → RunsOut (reader.value_then v token [])
cut_value token (Some a) h = refl
cut_value token None h = absurd_bool h

cut_place : {T A : Type 0} (value : T → Option A) (tokens : List T)
    → production.CutsPlace value tokens → RunsOut (reader.place value tokens)
cut_place value [] h = refl
cut_place value (token ∷ []) h = cut_value token (value token) h
cut_place value (token ∷ next ∷ tokens) h = absurd h

is_cut_value : {T A : Type 0} (value : T → Option A) (token : T) (tokens : List T) (v : Option A)
    → value token ≡ v → RunsOut (reader.value_then v token tokens)
    → production.CutsPlace value (token ∷ tokens)
is_cut_value value token tokens None is e = cc
is_cut_value value token [] (Some a) is e = subst (λ v. IsSome v) (sym is) refl
is_cut_value value token (next ∷ tokens) (Some a) is e = cc

is_cut_place : {T A : Type 0} (value : T → Option A) (tokens : List T)
    → RunsOut (reader.place value tokens) → production.CutsPlace value tokens
is_cut_place value [] h = tt
is_cut_place value (token ∷ tokens) h = is_cut_value value token tokens (value token) refl h

pub decides_place : {T A : Type 0} (value : T → Option A) → Decides (production.place value) (reader.place value)
decides_place value = record {
  local = local_place value;
  whole = λ tokens a h. rw h.1 (ap (λ v. reader.value_then v h.0 []) h.2);
  is_whole = whole_place value;
  cut = cut_place value;
  is_cut = is_cut_place value;
}

local_second : {T A B : Type 0} (p : Reader T A) (q : A → Reader T B) (tokens : List T) (a : A) (mid : List T) → Reads p tokens a mid
    → (o : Outcome T B) → IsLocalAt (q a) mid o → IsLocalAt (reader.in_turn p q) tokens o
local_second p q tokens a mid h (found b rest) k = record {
  front = h.front ++ k.front;
  split = h.split ∙ ap (λ ts. h.front ++ ts) k.split ∙ sym (append_assoc h.front k.front rest);
  again =
      λ more. ap (λ ts. read_on (p ts) q) (append_assoc h.front k.front more)
      ∙ ap (λ o. read_on o q) (h.again (k.front ++ more)) ∙ k.again more;
}
local_second p q tokens a mid h (refused rest) k = record {
  front = h.front ++ k.front;
  split = h.split ∙ ap (λ ts. h.front ++ ts) k.split ∙ sym (append_assoc h.front k.front rest);
  before = ap (λ o. read_on o q) (h.again k.front) ∙ k.before;
  again = λ token tail more e. ap (λ ts. read_on (p ts) q) (append_assoc h.front k.front (token ∷ more))
      ∙ ap (λ o. read_on o q) (h.again (k.front ++ token ∷ more)) ∙ k.again token tail more e;
}

local_after : {T A B : Type 0} (p : Reader T A) (q : A → Reader T B) → ((a : A) (tokens : List T) → IsLocalAt (q a) tokens (q a tokens))
    → (tokens : List T) (o : Outcome T A) → IsLocalAt p tokens o → IsLocalAt (reader.in_turn p q) tokens (read_on o q)
local_after p q each tokens (found a mid) h = local_second p q tokens a mid h (q a mid) (each a mid)
local_after p q each tokens (refused rest) h = record {
  front = h.front;
  split = h.split;
  before = ap (λ o. read_on o q) h.before;
  again = λ token tail more e. ap (λ o. read_on o q) (h.again token tail more e);
}

pub reads_on : {T A : Type 0} {p : Production T A} {r : Reader T A} → Decides p r
    → (front : List T) (a : A) → r front ≡ found a [] → (more : List T)
    → r (front ++ more) ≡ found a more
reads_on {A} {p} {r} d front a e more =
    let h : Reads r front a [] = subst (λ o. IsLocalAt r front o) e (d.local front) in
    let same : front ≡ h.front = h.split ∙ append-nil h.front in
    ap (λ ts. r (ts ++ more)) same ∙ h.again more

no_rest : {T : Type 0} (front rest : List T) → [] ≡ front ++ rest → rest ≡ []
no_rest [] rest e = sym e
no_rest (t ∷ front) rest e = cc

nothing_left : {T A : Type 0} (r : Reader T A) (o : Outcome T A) → IsLocalAt r [] o → RunsOut o
nothing_left r (found a rest) h = no_rest h.front rest h.split
nothing_left r (refused rest) h = no_rest h.front rest h.split

pub runs_out : {T A : Type 0} {p : Production T A} {r : Reader T A} → Decides p r → RunsOut (r [])
runs_out {A} {p} {r} d = nothing_left r (r []) (d.local [])

pub front_alone : {T A : Type 0} (r : Reader T A) (tokens : List T) (a : A) (mid : List T)
    (h : Reads r tokens a mid) → r h.front ≡ found a []
front_alone r tokens a mid h = ap r (sym (append-nil h.front)) ∙ h.again []

pub decides_bind : {T A B : Type 0} {p : Production T A} {r : Reader T A} {q : A → Production T B} {s : A → Reader T B}
    → Decides p r → ((a : A) → Decides (q a) (s a)) → Decides (production.in_turn p q) (reader.in_turn r s)
decides_bind {A} {B} {p} {r} {q} {s} dp dq = record {
  local = λ tokens. local_after r s (λ a ts. (dq a).local ts) tokens (r tokens) (dp.local tokens);
  whole = λ tokens b h.
      ap (λ ts. read_on (r ts) s) h.split
      ∙ ap (λ o. read_on o s)
      (reads_on dp h.front h.value (dp.whole h.front h.value h.first) h.back)
      ∙ (dq h.value).whole h.back b h.next;
  is_whole = λ tokens b e. is_whole_bind dp dq tokens b (r tokens) refl e;
  cut = λ tokens h. elim h [ inl k ↦ cut_first dq (r tokens) (dp.cut tokens k) | inr k ↦ cut_second dp dq tokens k ];
  is_cut = λ tokens h. is_cut_bind dp dq tokens (r tokens) refl h;
}
  where
    is_whole_bind : {T A B : Type 0} {p : Production T A} {r : Reader T A} {q : A → Production T B} {s : A → Reader T B}
        → Decides p r → ((a : A) → Decides (q a) (s a))
        → (tokens : List T) (b : B) (o : Outcome T A) → r tokens ≡ o → read_on o s ≡ found b []
        → (production.in_turn p q).Whole tokens b
    is_whole_bind dp dq tokens b (refused rest) is e = cc
    is_whole_bind {A} {B} {p} {r} {q} {s} dp dq tokens b (found a mid) is e =
        let h : Reads r tokens a mid = subst (λ o. IsLocalAt r tokens o) is (dp.local tokens) in
        record {
          front = h.front;
          back = mid;
          value = a;
          split = h.split;
          first = dp.is_whole h.front a (front_alone r tokens a mid h);
          next = (dq a).is_whole mid b e;
        }

    cut_first : {T A B : Type 0} {q : A → Production T B} {s : A → Reader T B}
        → ((a : A) → Decides (q a) (s a)) → (o : Outcome T A) → RunsOut o → RunsOut (read_on o s)
    cut_first dq (refused rest) h = h
    cut_first {A} {B} {q} {s} dq (found a rest) h = subst (λ ts. RunsOut (s a ts)) (sym h) (runs_out (dq a))

    cut_second : {T A B : Type 0} {p : Production T A} {r : Reader T A} {q : A → Production T B} {s : A → Reader T B}
        → Decides p r → ((a : A) → Decides (q a) (s a)) → (tokens : List T)
        → production.Follows p (λ a back. (q a).Cut back) tokens
        → RunsOut (read_on (r tokens) s)
    cut_second {A} {B} {p} {r} {q} {s} dp dq tokens h =
        let e : r tokens ≡ found h.value h.back = ap r h.split ∙ reads_on dp h.front h.value (dp.whole h.front h.value h.first) h.back in
        subst (λ o. RunsOut (read_on o s)) (sym e) ((dq h.value).cut h.back h.next)

    is_cut_bind : {T A B : Type 0} {p : Production T A} {r : Reader T A} {q : A → Production T B} {s : A → Reader T B}
        → Decides p r → ((a : A) → Decides (q a) (s a)) → (tokens : List T) (o : Outcome T A)
        → r tokens ≡ o → RunsOut (read_on o s) → (production.in_turn p q).Cut tokens
    is_cut_bind {A} {B} {p} {r} {q} {s} dp dq tokens (refused rest) is h = inl (dp.is_cut tokens (subst RunsOut (sym is) h))
    is_cut_bind {A} {B} {p} {r} {q} {s} dp dq tokens (found a mid) is e =
        let h : Reads r tokens a mid = subst (λ o. IsLocalAt r tokens o) is (dp.local tokens) in
        inr (record {
          front = h.front;
          back = mid;
          value = a;
          split = h.split;
          first = dp.is_whole h.front a (front_alone r tokens a mid h);
          next = (dq a).is_cut mid e;
        })
