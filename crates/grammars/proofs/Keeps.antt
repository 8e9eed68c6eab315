-- Facts about the values that a grammar derives. A fact may also depend on the weight of the tokens from which the value is derived: the
-- sum of a number for each token.
use Rattle.std.proofs.Common.{◌≡◌, ℕ, zero, suc, ◌+◌, ◌≤◌, List, [], ◌∷◌, ◌++◌, Option, Some, sym, ◌∙◌, ap, subst, arith}
use Rattle.grammars.specs.Turn.{Turn, again, last}
use Rattle.grammars.specs.Production.{Production, Follows}
use Rattle.grammars.specs.Production as production
use Rattle.grammars.specs.Grammar.{Grammar, place, done, in_turn, turns, production_of}

abbrev pub total : {T : Type 0} → (T → ℕ) → List T → ℕ
total weight [] = 0
total weight (token ∷ tokens) = weight token + total weight tokens

pub total-append : {T : Type 0} (weight : T → ℕ) (xs ys : List T) → total weight (xs ++ ys) ≡ total weight xs + total weight ys
total-append weight [] ys = omega arith
total-append weight (x ∷ xs) ys =
    let e : total weight (xs ++ ys)
    ≡ total weight xs + total weight ys = total-append weight xs ys in
    omega arith

-- `Fact` is true of each value that the production derives, together with a number: `given` plus
-- the weight of the tokens from which the value is derived.
abbrev pub Kept : {T A : Type 0} → (T → ℕ) → Production T A → ℕ → (ℕ → A → Type 0) → Type 0
Kept {T} {A} weight p given Fact = (tokens : List T) (a : A) → p.Whole tokens a → Fact (given + total weight tokens) a

pub record Keeps {T A : Type 0} (weight : T → ℕ) (g : Grammar T A) (given : ℕ) (Fact : ℕ → A → Type 0) : Type 0 where
  pub kept : Kept weight (production_of g) given Fact

pub keeps_place : {T A : Type 0} {weight : T → ℕ} {value : T → Option A} {given : ℕ}
    {Fact : ℕ → A → Type 0}
    → ((token : T) (a : A) → value token ≡ Some a → Fact (given + weight token) a)
    → Keeps weight (place value) given Fact
keeps_place {T} {A} {weight} {value} {given} {Fact} h = record {
  kept = λ tokens a whole. (
      let one : total weight tokens ≡ weight whole.0 = ap (total weight) whole.1 ∙ omega arith in
      subst (λ n. Fact n a) (sym (ap (λ n. given + n) one)) (h whole.0 a whole.2));
}

kept_done : {T A : Type 0} (weight : T → ℕ) (given : ℕ) (Fact : ℕ → A → Type 0) (a : A)
    → Fact given a → Kept weight (production.done a) given Fact
kept_done weight given Fact a h tokens b whole =
    let none : given ≡ given + total weight tokens = (let e : total weight tokens ≡ 0 = ap (total weight) whole.0 in omega arith) in
    subst (λ n. Fact n b) none (subst (Fact given) (sym whole.1) h)

pub keeps_done : {T A : Type 0} {weight : T → ℕ} {a : A} {given : ℕ} {Fact : ℕ → A → Type 0}
    → Fact given a → Keeps weight (done a) given Fact
keeps_done {T} {A} {weight} {a} {given} {Fact} h = record { kept = kept_done weight given Fact a h }

kept_in_turn : {T A B : Type 0} (weight : T → ℕ) (p : Production T A) (q : A → Production T B)
    (given : ℕ) (First : ℕ → A → Type 0) (Fact : ℕ → B → Type 0)
    → Kept weight p given First → ((a : A) (n : ℕ) → First n a → Kept weight (q a) n Fact) → Kept weight (production.in_turn p q) given Fact
kept_in_turn weight p q given First Fact first second tokens b whole =
    let n : ℕ = given + total weight whole.front in
    let fact : Fact (n + total weight whole.back) b = second whole.value n
    (first whole.front whole.value whole.first) whole.back b whole.next in
    let sum : n + total weight whole.back ≡ given + total weight tokens =
    (let e : total weight tokens
    ≡ total weight whole.front + total weight whole.back = ap (total weight) whole.split
    ∙ total-append weight whole.front whole.back in
    omega arith) in
    subst (λ n. Fact n b) sum fact

pub keeps_in_turn : {T A B : Type 0} {weight : T → ℕ} {p : Grammar T A} {q : A → Grammar T B}
    {given : ℕ} {First : ℕ → A → Type 0} {Fact : ℕ → B → Type 0}
    → Keeps weight p given First → ((a : A) (n : ℕ) → First n a → Keeps weight (q a) n Fact) → Keeps weight (in_turn p q) given Fact
keeps_in_turn {T} {A} {B} {weight} {p} {q} {given} {First} {Fact} first second = record {
  kept = kept_in_turn weight (production_of p) (λ a. production_of (q a)) given First Fact first.kept (λ a n h. (second a n h).kept);
}

-- A fact about the end of a turn and a number. If another turn follows, `Before` is true of the number and
-- the turn's state. After the last turn, `Fact` is true of the number and the turn's value.
abbrev pub BehindTurn : {S A : Type 0} → (ℕ → S → Type 0) → (ℕ → A → Type 0) → ℕ → Turn S A → Type 0
BehindTurn Before Fact n (again s) = Before n s
BehindTurn Before Fact n (last a) = Fact n a

kept_follow : {T S A : Type 0} (weight : T → ℕ) (next : S → Production T A)
    (Before : ℕ → S → Type 0) (Fact : ℕ → A → Type 0)
    → ((s : S) (n : ℕ) → Before n s → Kept weight (next s) n Fact)
    → (t : Turn S A) (n : ℕ) → BehindTurn Before Fact n t → Kept weight (production.follow next t) n Fact
kept_follow weight next Before Fact h (again s) n fact = h s n fact
kept_follow weight next Before Fact h (last a) n fact = kept_done weight n Fact a fact

kept_up_to : {T S A : Type 0} (k : ℕ) (weight : T → ℕ) (turn : S → Production T (Turn S A))
    (Before : ℕ → S → Type 0) (Fact : ℕ → A → Type 0)
    → ((s : S) (n : ℕ) → Before n s → Kept weight (turn s) n (BehindTurn Before Fact))
    → (s : S) (n : ℕ) → Before n s → Kept weight (production.turns_up_to k turn s) n Fact
kept_up_to zero weight turn Before Fact h s n before = λ tokens a whole. absurd whole
kept_up_to (suc k) weight turn Before Fact h s n before =
    kept_in_turn weight (turn s) (production.follow (production.turns_up_to k turn)) n (BehindTurn Before Fact) Fact (h s n before)
    (λ t m fact. kept_follow weight (production.turns_up_to k turn) Before Fact (kept_up_to k weight turn Before Fact h) t m fact)

pub keeps_turns : {T S A : Type 0} {weight : T → ℕ} {turn : S → Grammar T (Turn S A)} {Before : ℕ → S → Type 0} {Fact : ℕ → A → Type 0}
    → ((s : S) (n : ℕ) → Before n s → Keeps weight (turn s) n (BehindTurn Before Fact))
    → (s : S) (n : ℕ) → Before n s → Keeps weight (turns turn s) n Fact
keeps_turns {T} {S} {A} {weight} {turn} {Before} {Fact} h s n before = record {
  kept =
      λ tokens a whole. kept_up_to whole.0 weight (λ s. production_of (turn s)) Before Fact
      (λ s n b. (h s n b).kept) s n before tokens a whole.1;
}

pub keeps_nothing : {T A : Type 0} {weight : T → ℕ} {g : Grammar T A} {given : ℕ} → Keeps weight g given (λ n a. Unit {0})
keeps_nothing {T} {A} {weight} {g} {given} = record { kept = λ tokens a whole. tt }

-- `given` plus the weight of the tokens is at least `given`, since no token has a negative weight
pub keeps_more : {T A : Type 0} {weight : T → ℕ} {g : Grammar T A} {given : ℕ} → Keeps weight g given (λ n a. given ≤ n)
keeps_more {T} {A} {weight} {g} {given} = record { kept = λ tokens a whole. omega arith }
