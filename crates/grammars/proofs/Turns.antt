-- Lemmas about reading the turns of a repetition, each of which takes at least one token. A limit on the number of turns does not change
-- the outcome if it is greater than the number of tokens.
use Rattle.std.proofs.Common.{◌≡◌, ℕ, zero, suc, ◌+◌, ◌<◌, ◌≤◌, List, [], ◌∷◌, ◌++◌, length, Option, Some, None, refl, sym, ◌∙◌, ap, subst, arith, length-append}
use Rattle.std.proofs.lemmas.List.{append_cancel_right}
use Rattle.grammars.specs.Turn.{Turn, again, last}
use Rattle.grammars.specs.Production.{Production}
use Rattle.grammars.specs.Production as production
use Rattle.grammars.specs.inner.Reader.{Reader, Outcome, found, refused, read_on}
use Rattle.grammars.specs.inner.Reader as reader
use Rattle.grammars.proofs.Exact.{RunsOut, Reads, Refuses, IsLocalAt, Decides, decides_none, decides_done, decides_bind, runs_out}

-- whenever the reader finds a value, it takes at least one token
abbrev pub Shrinks : {T A : Type 0} → Reader T A → Type 0
Shrinks {T} {A} read = (tokens : List T) (a : A) (rest : List T) → read tokens ≡ found a rest → length rest < length tokens

abbrev pub EachDecides : {T S A : Type 0} → (S → Production T A) → (S → Reader T A) → Type 0
EachDecides {T} {S} turn read = (s : S) → Decides (turn s) (read s)

abbrev pub EachShrinks : {T S A : Type 0} → (S → Reader T A) → Type 0
EachShrinks {T} {S} read = (s : S) → Shrinks (read s)

pub decides_follow : {T S A : Type 0} {next : S → Production T A} {read : S → Reader T A}
    → EachDecides next read → (t : Turn S A)
    → Decides (production.follow next t) (reader.follow read t)
decides_follow d (again s) = d s
decides_follow d (last a) = decides_done a

pub decides_up_to : {T S A : Type 0} (n : ℕ) {turn : S → Production T (Turn S A)} {read : S → Reader T (Turn S A)} → EachDecides turn read
    → EachDecides (production.turns_up_to n turn) (reader.turns_up_to n read)
decides_up_to zero d s = decides_none
decides_up_to (suc n) d s = decides_bind (d s) (decides_follow (decides_up_to n d))

-- a relation of outcomes that relates each outcome to itself
record Relation (T A : Type 0) : Type 1 where
  Related : Outcome T A → Outcome T A → Type 0
  same : (o : Outcome T A) → Related o o

abbrev RelatedBelow : {T S A : Type 0} → Relation T A → ℕ → (S → Reader T A) → (S → Reader T A) → Type 0
RelatedBelow {T} {S} R n f g = (s : S) (rest : List T) → length rest < n → R.Related (f s rest) (g s rest)

related : {T S A : Type 0} (R : Relation T A) (f g : S → Reader T A) (n : ℕ) → RelatedBelow R n f g → (o : Outcome T (Turn S A))
    → ((t : Turn S A) (rest : List T) → o ≡ found t rest → length rest < n)
    → R.Related (read_on o (reader.follow f)) (read_on o (reader.follow g))
related R f g n below (refused rest) less = R.same (refused rest)
related R f g n below (found (again s) rest) less = below s rest (less (again s) rest refl)
related R f g n below (found (last a) rest) less = R.same (found a rest)

abbrev equal : {T A : Type 0} → Relation T A
equal = record { Related = λ o o'. o ≡ o'; same = λ o. refl }

abbrev finds : {T A : Type 0} → Relation T A
finds {T} {A} = record { Related = λ o o'. (a : A) (rest : List T) → o ≡ found a rest → o' ≡ found a rest; same = λ o a rest e. e }

abbrev outs : {T A : Type 0} → Relation T A
outs = record { Related = λ o o'. RunsOut o → RunsOut o'; same = λ o h. h }

settle : {T S A : Type 0} (n m : ℕ) (read : S → Reader T (Turn S A)) → EachShrinks read
    → (s : S) (tokens : List T) → length tokens < n → length tokens < m
    → reader.turns_up_to n read s tokens ≡ reader.turns_up_to m read s tokens
settle zero m read shrinks s tokens less less' = absurd (omega arith)
settle (suc n) zero read shrinks s tokens less less' = absurd (omega arith)
settle (suc n) (suc m) read shrinks s tokens less less' =
    related equal (reader.turns_up_to n read) (reader.turns_up_to m read) (length tokens)
    (λ t rest lt. settle n m read shrinks t rest (omega arith) (omega arith)) (read s tokens) (shrinks s tokens)

raise : {T S A : Type 0} (n m : ℕ) (read : S → Reader T (Turn S A)) → EachShrinks read → (s : S) (tokens : List T) → n ≤ m
    → (a : A) (rest : List T) → reader.turns_up_to n read s tokens ≡ found a rest → reader.turns_up_to m read s tokens ≡ found a rest
raise zero m read shrinks s tokens le = λ a rest e. cc
raise (suc n) zero read shrinks s tokens le = absurd (omega arith)
raise (suc n) (suc m) read shrinks s tokens le =
    related finds (reader.turns_up_to n read) (reader.turns_up_to m read) (length tokens)
    (λ t rest lt. raise n m read shrinks t rest (omega arith)) (read s tokens) (shrinks s tokens)

raise_out : {T S A : Type 0} (n m : ℕ) {turn : S → Production T (Turn S A)}
    (read : S → Reader T (Turn S A)) → EachDecides turn read → EachShrinks read
    → (s : S) (tokens : List T) → n ≤ m
    → RunsOut (reader.turns_up_to n read s tokens) → RunsOut (reader.turns_up_to m read s tokens)
raise_out zero m read d shrinks s tokens le h =
    subst (λ ts. RunsOut (reader.turns_up_to m read s ts)) (sym h) (runs_out (decides_up_to m d s))
raise_out (suc n) zero read d shrinks s tokens le h = absurd (omega arith)
raise_out (suc n) (suc m) read d shrinks s tokens le h =
    related outs (reader.turns_up_to n read) (reader.turns_up_to m read) (length tokens)
    (λ t rest lt. raise_out n m read d shrinks t rest (omega arith)) (read s tokens) (shrinks s tokens) h

enough : {T S A : Type 0} (n : ℕ) (read : S → Reader T (Turn S A)) → EachShrinks read → (s : S) (tokens : List T) → length tokens < n
    → reader.turns_up_to n read s tokens ≡ reader.turns read s tokens
unfolding reader.turns
enough n read shrinks s tokens less = settle n (suc (length tokens)) read shrinks s tokens less (omega arith)

finds_turns : {T S A : Type 0} (n : ℕ) (read : S → Reader T (Turn S A)) → EachShrinks read
    → (s : S) (tokens : List T) (a : A) (rest : List T)
    → reader.turns_up_to n read s tokens ≡ found a rest → reader.turns read s tokens ≡ found a rest
finds_turns n read shrinks s tokens a rest e =
    sym (enough (n + suc (length tokens)) read shrinks s tokens (omega arith))
    ∙ raise n (n + suc (length tokens)) read shrinks s tokens (omega arith) a rest e

local_turns : {T S A : Type 0} {turn : S → Production T (Turn S A)} (read : S → Reader T (Turn S A))
    → EachDecides turn read → EachShrinks read → (s : S)
    → (tokens : List T) (o : Outcome T A) → reader.turns read s tokens ≡ o
    → IsLocalAt (reader.turns_up_to (suc (length tokens)) read s) tokens o
    → IsLocalAt (reader.turns read s) tokens o
local_turns {T} read d shrinks s tokens (found a rest) is h = record {
  front = h.front;
  split = h.split;
  again = λ more. finds_turns (suc (length tokens)) read shrinks s (h.front ++ more) a more (h.again more);
}
local_turns {T} read d shrinks s tokens (refused rest) is h = record {
  front = h.front;
  split = h.split;
  before =
      sym
      (enough (suc (length tokens)) read shrinks s h.front
      (let e : length tokens ≡ length (h.front ++ rest) = ap length h.split in
      omega (arith, e, length-append h.front rest))) ∙ h.before;
  again = λ token tail more e. refuses token tail more e;
}
  where
    refuses : (token : T) (tail more : List T) → rest ≡ token ∷ tail
        → reader.turns read s (h.front ++ token ∷ more) ≡ refused (token ∷ more)
    refuses token tail more e =
        let n : ℕ = suc (length tokens) + suc (length (h.front ++ token ∷ more)) in
        let is_refused : reader.turns_up_to n read s tokens ≡ refused rest = enough n read shrinks s tokens (omega arith) ∙ is in
        let k : Refuses (reader.turns_up_to n read s) tokens rest = subst
        (λ o. IsLocalAt (reader.turns_up_to n read s) tokens o) is_refused
        ((decides_up_to n d s).local tokens) in
        let same : k.front ≡ h.front = append_cancel_right k.front h.front rest (sym k.split ∙ h.split) in
        sym (enough n read shrinks s (h.front ++ token ∷ more) (omega arith))
        ∙ ap (λ ts. reader.turns_up_to n read s (ts ++ token ∷ more)) (sym same)
        ∙ k.again token tail more e

pub decides_turns : {T S A : Type 0} {turn : S → Production T (Turn S A)}
    {read : S → Reader T (Turn S A)} → EachDecides turn read → EachShrinks read
    → EachDecides (production.turns turn) (reader.turns read)
unfolding reader.turns
decides_turns {T} {S} {A} {turn} {read} d shrinks s = record {
  local =
      λ tokens. local_turns read d shrinks s tokens (reader.turns read s tokens) refl
      ((decides_up_to (suc (length tokens)) d s).local tokens);
  whole = λ tokens a h. finds_turns h.0 read shrinks s tokens a [] ((decides_up_to h.0 d s).whole tokens a h.1);
  is_whole = λ tokens a e. (suc (length tokens), (decides_up_to (suc (length tokens)) d s).is_whole tokens a e);
  cut = λ tokens h. subst RunsOut (enough (h.0 + suc (length tokens)) read shrinks s tokens (omega arith))
      (raise_out h.0 (h.0 + suc (length tokens)) read d shrinks s tokens (omega arith) ((decides_up_to h.0 d s).cut tokens h.1));
  is_cut = λ tokens h. (suc (length tokens), (decides_up_to (suc (length tokens)) d s).is_cut tokens h);
}

pub turns_once : {T S A : Type 0} (read : S → Reader T (Turn S A)) → EachShrinks read → (s : S) (tokens : List T)
    → reader.turns read s tokens ≡ read_on (read s tokens) (reader.follow (reader.turns read))
unfolding reader.turns
turns_once read shrinks s tokens =
    related equal (reader.turns_up_to (length tokens) read) (reader.turns read) (length tokens)
    (λ t rest lt. enough (length tokens) read shrinks t rest lt) (read s tokens) (shrinks s tokens)

shrinks_value : {T A : Type 0} (token : T) (tokens : List T) (v : Option A) (a : A) (rest : List T)
    → reader.value_then v token tokens ≡ found a rest → length rest < length (token ∷ tokens)
shrinks_value token tokens (Some b) a rest e =
    let same : tokens ≡ rest = cc in
    subst (λ ts. length ts < length (token ∷ tokens)) same (omega arith)
shrinks_value token tokens None a rest e = cc

pub shrinks_place : {T A : Type 0} (value : T → Option A) → Shrinks (reader.place value)
shrinks_place value [] a rest e = cc
shrinks_place value (token ∷ tokens) a rest e = shrinks_value token tokens (value token) a rest e

no_longer : {T A : Type 0} (r : Reader T A) (tokens : List T) (a : A) (rest : List T) → Reads r tokens a rest → length rest ≤ length tokens
no_longer r tokens a rest h = rw h.split (omega (arith, length-append h.front rest))

-- whenever the reader finds a value, it leaves no more tokens than it got
abbrev pub Keeps : {T A : Type 0} → Reader T A → Type 0
Keeps {T} {A} read = (tokens : List T) (a : A) (rest : List T) → read tokens ≡ found a rest → length rest ≤ length tokens

pub keeps : {T A : Type 0} {p : Production T A} {r : Reader T A} → Decides p r → Keeps r
keeps {A} {p} {r} d tokens a rest e = no_longer r tokens a rest (subst (λ o. IsLocalAt r tokens o) e (d.local tokens))

shrinks_after : {T A B : Type 0} (q : A → Reader T B) → ((a : A) → Keeps (q a))
    → (n : ℕ) (o : Outcome T A) → ((a : A) (mid : List T) → o ≡ found a mid → length mid < n)
    → (b : B) (rest : List T) → read_on o q ≡ found b rest → length rest < n
shrinks_after q each n (refused mid) less b rest e = cc
shrinks_after q each n (found a mid) less b rest e =
    let lt : length mid < n = less a mid refl in
    let le : length rest ≤ length mid = each a mid b rest e in
    omega arith

pub shrinks_first : {T A B : Type 0} {r : Reader T A} {q : A → Reader T B} → Shrinks r
    → ((a : A) → Keeps (q a)) → Shrinks (reader.in_turn r q)
shrinks_first {A} {B} {r} {q} first each tokens b rest e = shrinks_after q each (length tokens) (r tokens) (first tokens) b rest e

shrinks_later : {T A B : Type 0} (q : A → Reader T B) → ((a : A) → Shrinks (q a))
    → (n : ℕ) (o : Outcome T A) → ((a : A) (mid : List T) → o ≡ found a mid → length mid ≤ n)
    → (b : B) (rest : List T) → read_on o q ≡ found b rest → length rest < n
shrinks_later q each n (refused mid) less b rest e = cc
shrinks_later q each n (found a mid) less b rest e =
    let lt : length mid ≤ n = less a mid refl in
    let le : length rest < length mid = each a mid b rest e in
    omega arith

pub shrinks_second : {T A B : Type 0} {r : Reader T A} {q : A → Reader T B} → Keeps r
    → ((a : A) → Shrinks (q a)) → Shrinks (reader.in_turn r q)
shrinks_second {A} {B} {r} {q} first each tokens b rest e = shrinks_later q each (length tokens) (r tokens) (first tokens) b rest e
