-- Lemmas about a loop that reads a list entry by entry.
use Rattle.std.proofs.Common.{◌≡◌, ℕ, zero, suc, ◌+◌, ◌*◌, ◌<◌, ◌≤◌, Bool, true, false, List, [], ◌∷◌, ◌++◌, length, inl, refl, sym, ◌∙◌, ap, subst, arith, length-append, zero-add}
use Rattle.grammars.specs.Turn.{turn_of}
use Rattle.grammars.specs.inner.Reader.{found, refused}
use Rattle.grammars.specs.Grammar.{Grammar, turns, production_of, reader_of_grammar}
use Rattle.grammars.specs.Lists.{list_turn, list_of, Fronts, GoesWrongAt}
use Rattle.grammars.proofs.Exact.{Reads, Decides, IsLocalAt, reads_on, front_alone}
use Rattle.grammars.proofs.Grammars.{TakesToken, EachTurnTakes, read_grammar, decides_grammar, goes_on, ends, stops, turn_shrinks}

-- each entry and each mark after an entry takes at least one token, and so does each turn of a
-- repetition in them
pub record CanRead {T A : Type 0} (entry : Grammar T A) (more : Grammar T Bool) : Type 0 where
  pub takes : TakesToken entry
  pub takes_mark : TakesToken more
  pub entries : EachTurnTakes entry
  pub marks : EachTurnTakes more

pub list_takes : {T A : Type 0} {entry : Grammar T A} {more : Grammar T Bool} → CanRead entry more
    → (before : List A)
    → TakesToken (list_turn entry more before) × EachTurnTakes (list_turn entry more before)
unfolding list_turn
list_takes can before = (inl can.takes, (can.entries, λ one. (can.marks, λ another. tt)))

pub each_takes : {T A : Type 0} {entry : Grammar T A} {more : Grammar T Bool} → CanRead entry more → EachTurnTakes (list_of entry more)
each_takes can = λ before. list_takes can before

-- the tokens consist of a front that the grammar derives with the value `a`, and of `rest`
pub record ReadFront {T A : Type 0} (g : Grammar T A) (tokens : List T) (a : A) (rest : List T) : Type 0 where
  pub front : List T
  pub split : tokens ≡ front ++ rest
  pub whole : (production_of g).Whole front a

pub read_front : {T A : Type 0} (g : Grammar T A) → EachTurnTakes g
    → (tokens : List T) (a : A) (rest : List T) → reader_of_grammar g tokens ≡ found a rest
    → ReadFront g tokens a rest
read_front {T} g h tokens a rest e =
    let d : Decides (production_of g) (reader_of_grammar g) = decides_grammar g h in
    let k : Reads (reader_of_grammar g) tokens a rest = subst (λ o. IsLocalAt (reader_of_grammar g) tokens o) e (d.local tokens) in
    record { front = k.front; split = k.split; whole = d.is_whole k.front a (front_alone (reader_of_grammar g) tokens a rest k) }

pub found_front : {T A : Type 0} (g : Grammar T A) → EachTurnTakes g
    → (tokens front back : List T) (a : A) → tokens ≡ front ++ back
    → (production_of g).Whole front a → reader_of_grammar g tokens ≡ found a back
found_front g h tokens front back a split whole =
    let d : Decides (production_of g) (reader_of_grammar g) = decides_grammar g h in
    ap (reader_of_grammar g) split ∙ reads_on d front a (d.whole front a whole) back

front_of_more : {T A : Type 0} {entry : Grammar T A} {more : Grammar T Bool} → CanRead entry more
    → (n : ℕ) (one : A) (tokens mid rest : List T)
    → reader_of_grammar entry tokens ≡ found one mid → reader_of_grammar more mid ≡ found true rest
    → Fronts entry more n rest → Fronts entry more (suc n) tokens
front_of_more {T} {A} {entry} {more} can n one tokens mid rest e f h =
    let k = read_front entry can.entries tokens one mid e in
    let m = read_front more can.marks mid true rest f in
    record {
      front = k.front;
      back = mid;
      value = one;
      split = k.split;
      first = k.whole;
      next = record { front = m.front; back = rest; value = true; split = m.split; first = m.whole; next = (refl, h) };
    }

front_after : {T A : Type 0} {entry : Grammar T A} {more : Grammar T Bool} → CanRead entry more
    → (n : ℕ) (one : A) (tokens mid rest : List T)
    → reader_of_grammar entry tokens ≡ found one mid → reader_of_grammar more mid ≡ found true rest
    → Fronts entry more (suc n) tokens → Fronts entry more n rest
front_after {T} {A} {entry} {more} can n one tokens mid rest e f h =
    let first = found_front entry can.entries tokens h.front h.back h.value h.split h.first in
    let same : h.back ≡ mid = cc (first, e) in
    let second = found_front more can.marks h.back h.next.front h.next.back h.next.value h.next.split h.next.first in
    let here : reader_of_grammar more mid
    ≡ found h.next.value h.next.back = subst
    (λ ts. reader_of_grammar more ts ≡ found h.next.value h.next.back) same second in
    let last : h.next.back ≡ rest = cc (here, f) in
    subst (λ ts. Fronts entry more n ts) last h.next.next.1

-- the state of the loop after it has read the entries `before` and has `rest` left to read
pub record Progress {T A : Type 0} (entry : Grammar T A) (more : Grammar T Bool) (tokens rest : List T) (before : List A) : Type 0 where
  pub reads : reader_of_grammar (turns (list_turn entry more) before) rest ≡ reader_of_grammar (list_of entry more) tokens
  pub stand : (n : ℕ) → Fronts entry more n rest → Fronts entry more (n + length before) tokens
  pub only : (n : ℕ) → Fronts entry more (n + length before) tokens → Fronts entry more n rest
  -- each entry together with the mark after it takes at least two tokens
  pub fewer : 2 * length before + length rest ≤ length tokens

takes_token : {T A : Type 0} (g : Grammar T A) → EachTurnTakes g → TakesToken g
    → (tokens : List T) (a : A) (rest : List T) → reader_of_grammar g tokens ≡ found a rest
    → length rest < length tokens
takes_token g h t tokens a rest e = (read_grammar g h).shrinks t tokens a rest e

plus_zero : (n : ℕ) → n ≡ n + 0
plus_zero n = omega arith

pub begins : {T A : Type 0} (entry : Grammar T A) (more : Grammar T Bool) (tokens : List T) → Progress entry more tokens tokens []
begins entry more tokens = record {
  reads = refl;
  stand = λ n h. subst (λ k. Fronts entry more k tokens) (plus_zero n) h;
  only = λ n h. subst (λ k. Fronts entry more k tokens) (sym (plus_zero n)) h;
  fewer = omega arith;
}

one_more : {A : Type 0} (n : ℕ) (before : List A) (one : A) → suc n + length before ≡ n + length (before ++ one ∷ [])
one_more n before one = omega (arith, length-append before (one ∷ []))

turn_again : {T A : Type 0} (entry : Grammar T A) (more : Grammar T Bool) (before : List A)
    (one : A) (another : Bool) (tokens mid rest : List T)
    → reader_of_grammar entry tokens ≡ found one mid
    → reader_of_grammar more mid ≡ found another rest
    → reader_of_grammar (list_turn entry more before) tokens
    ≡ found (turn_of another (before ++ one ∷ [])) rest
unfolding list_turn
turn_again entry more before one another tokens mid rest e f = rw (e, f) refl

pub goes_further : {T A : Type 0} {entry : Grammar T A} {more : Grammar T Bool} → CanRead entry more
    → (tokens here mid rest : List T) (before : List A) (one : A)
    → Progress entry more tokens here before → reader_of_grammar entry here ≡ found one mid
    → reader_of_grammar more mid ≡ found true rest
    → Progress entry more tokens rest (before ++ one ∷ [])
goes_further {T} {A} {entry} {more} can tokens here mid rest before one so_far e f = record {
  reads =
      goes_on (list_turn entry more) (list_takes can) before (before ++ one ∷ []) here rest
      (reader_of_grammar (list_of entry more) tokens) so_far.reads
      (turn_again entry more before one true here mid rest e f);
  stand =
      λ n h. subst (λ k. Fronts entry more k tokens) (one_more n before one)
      (so_far.stand (suc n) (front_of_more can n one here mid rest e f h));
  only =
      λ n h. front_after can n one here mid rest e f
      (so_far.only (suc n) (subst (λ k. Fronts entry more k tokens) (sym (one_more n before one)) h));
  fewer =
      let a : length mid < length here = takes_token entry can.entries can.takes here one mid e in
      let b : length rest < length mid = takes_token more can.marks can.takes_mark mid true rest f in
      let c : length (before ++ one ∷ []) ≡ length before + 1 = length-append before (one ∷ []) in
      omega (arith, so_far.fewer);
}

pub ends_with : {T A : Type 0} {entry : Grammar T A} {more : Grammar T Bool} → CanRead entry more
    → (tokens here mid rest : List T) (before : List A) (one : A)
    → Progress entry more tokens here before → reader_of_grammar entry here ≡ found one mid
    → reader_of_grammar more mid ≡ found false rest
    → reader_of_grammar (list_of entry more) tokens ≡ found (before ++ one ∷ []) rest
ends_with {T} {A} {entry} {more} can tokens here mid rest before one so_far e f =
    ends (list_turn entry more) (list_takes can) before (before ++ one ∷ []) here rest
    (reader_of_grammar (list_of entry more) tokens) so_far.reads
    (turn_again entry more before one false here mid rest e f)

turn_stops : {T A : Type 0} (entry : Grammar T A) (more : Grammar T Bool) (before : List A) (tokens rest : List T)
    → reader_of_grammar entry tokens ≡ refused rest → reader_of_grammar (list_turn entry more before) tokens ≡ refused rest
unfolding list_turn
turn_stops entry more before tokens rest e = rw e refl

turn_stops_later : {T A : Type 0} (entry : Grammar T A) (more : Grammar T Bool) (before : List A) (one : A) (tokens mid rest : List T)
    → reader_of_grammar entry tokens ≡ found one mid → reader_of_grammar more mid ≡ refused rest
    → reader_of_grammar (list_turn entry more before) tokens ≡ refused rest
unfolding list_turn
turn_stops_later entry more before one tokens mid rest e f = rw (e, f) refl

pub stops_at_entry : {T A : Type 0} {entry : Grammar T A} {more : Grammar T Bool}
    → CanRead entry more → (tokens here rest : List T) (before : List A)
    → Progress entry more tokens here before → reader_of_grammar entry here ≡ refused rest
    → reader_of_grammar (list_of entry more) tokens ≡ refused rest
stops_at_entry {T} {A} {entry} {more} can tokens here rest before so_far e =
    stops (list_turn entry more) (list_takes can) before here rest
    (reader_of_grammar (list_of entry more) tokens) so_far.reads
    (turn_stops entry more before here rest e)

pub stops_after_entry : {T A : Type 0} {entry : Grammar T A} {more : Grammar T Bool}
    → CanRead entry more → (tokens here mid rest : List T) (before : List A) (one : A)
    → Progress entry more tokens here before → reader_of_grammar entry here ≡ found one mid
    → reader_of_grammar more mid ≡ refused rest
    → reader_of_grammar (list_of entry more) tokens ≡ refused rest
stops_after_entry {T} {A} {entry} {more} can tokens here mid rest before one so_far e f =
    stops (list_turn entry more) (list_takes can) before here rest
    (reader_of_grammar (list_of entry more) tokens) so_far.reads
    (turn_stops_later entry more before one here mid rest e f)

pub no_value : {T A : Type 0} (g : Grammar T A) → EachTurnTakes g → (tokens rest : List T)
    → reader_of_grammar g tokens ≡ refused rest → (a : A) → (production_of g).Whole tokens a → ⊥
no_value g h tokens rest e a whole =
    let k : reader_of_grammar g tokens ≡ found a [] = (decides_grammar g h).whole tokens a whole in
    cc (e, k)

pub suc_plus : (n : ℕ) → suc n ≡ suc zero + n
suc_plus n = omega arith

pub wrong_at_entry : {T A : Type 0} {entry : Grammar T A} {more : Grammar T Bool}
    → CanRead entry more → (tokens here rest : List T) (before : List A)
    → Progress entry more tokens here before → reader_of_grammar entry here ≡ refused rest
    → GoesWrongAt entry more (length before + 1) tokens
wrong_at_entry {T} {A} {entry} {more} can tokens here rest before so_far e = record {
  no_value = no_value (list_of entry more) (each_takes can) tokens rest (stops_at_entry can tokens here rest before so_far e);
  whole = length before;
  next = refl;
  stand = subst (λ k. Fronts entry more k tokens) (zero-add (length before)) (so_far.stand zero tt);
  no_more = λ h. none here rest e (so_far.only (suc zero) (subst (λ k. Fronts entry more k tokens) (suc_plus (length before)) h));
}
  where
    none : (here rest : List T) → reader_of_grammar entry here ≡ refused rest → Fronts entry more (suc zero) here → ⊥
    none here rest e h = let k = found_front entry can.entries here h.front h.back h.value h.split h.first in cc (e, k)

pub wrong_after_entry : {T A : Type 0} {entry : Grammar T A} {more : Grammar T Bool}
    → CanRead entry more → (tokens here mid rest : List T) (before : List A) (one : A)
    → Progress entry more tokens here before → reader_of_grammar entry here ≡ found one mid
    → reader_of_grammar more mid ≡ refused rest
    → GoesWrongAt entry more (length before + 1) tokens
wrong_after_entry {T} {A} {entry} {more} can tokens here mid rest before one so_far e f = record {
  no_value = no_value (list_of entry more) (each_takes can) tokens rest (stops_after_entry can tokens here mid rest before one so_far e f);
  whole = length before;
  next = refl;
  stand = subst (λ k. Fronts entry more k tokens) (zero-add (length before)) (so_far.stand zero tt);
  no_more = λ h. none here mid rest one e f (so_far.only (suc zero) (subst (λ k. Fronts entry more k tokens) (suc_plus (length before)) h));
}
  where
    none : (here mid rest : List T) (one : A) → reader_of_grammar entry here ≡ found one mid
        → reader_of_grammar more mid ≡ refused rest → Fronts entry more (suc zero) here → ⊥
    none here mid rest one e f h =
        let first = found_front entry can.entries here h.front h.back h.value h.split h.first in
        let same : h.back ≡ mid = cc (first, e) in
        let second = found_front more can.marks h.back h.next.front h.next.back h.next.value h.next.split h.next.first in
        let k : reader_of_grammar more mid
        ≡ found h.next.value h.next.back = subst
        (λ ts. reader_of_grammar more ts ≡ found h.next.value h.next.back) same second in
        cc (k, f)

pub shorter : {T A : Type 0} {entry : Grammar T A} {more : Grammar T Bool} → CanRead entry more
    → (here mid rest : List T) (before : List A) (one : A) (another : Bool)
    → reader_of_grammar entry here ≡ found one mid → reader_of_grammar more mid ≡ found another rest → length rest < length here
shorter {T} {A} {entry} {more} can here mid rest before one another e f =
    turn_shrinks (list_turn entry more) (list_takes can) before
    (turn_of another (before ++ one ∷ [])) here rest
    (turn_again entry more before one another here mid rest e f)

pub value_of_list : {T A : Type 0} (g : Grammar T A) → EachTurnTakes g → (tokens : List T) (a : A)
    → reader_of_grammar g tokens ≡ found a [] → (production_of g).Whole tokens a
value_of_list g h tokens a e = (decides_grammar g h).is_whole tokens a e

pub one_value : {T A : Type 0} (g : Grammar T A) → EachTurnTakes g → (tokens : List T) (a b : A)
    → (production_of g).Whole tokens a → (production_of g).Whole tokens b → a ≡ b
one_value g h tokens a b x y =
    let d : Decides (production_of g) (reader_of_grammar g) = decides_grammar g h in
    let p = d.whole tokens a x in
    let q = d.whole tokens b y in
    cc (p, q)
