-- Each string either fits its grammar, or has exactly one first entry that does not fit.
use Rattle.std.proofs.Common.{◌≡◌, ℕ, zero, suc, ◌+◌, ◌*◌, ◌<◌, ◌≤◌, ◌^◌, Bool, true, false, List, [], ◌∷◌, ◌++◌, length, ◌⊎◌, inl, inr, refl, subst, arith, length-append, zero-add}
use Rattle.std.proofs.Math.Nat.{lt_of_not-le}
use Rattle.std.specs.List.{take_while}
use Rattle.board_defs.specs.declared.device.Symbol.{Symbol}
use Rattle.grammars.specs.inner.Reader.{Outcome, found, refused}
use Rattle.grammars.specs.Grammar.{Grammar, production_of, reader_of_grammar}
use Rattle.grammars.specs.Lists.{list_of, Fronts, GoesWrongAt}
use Rattle.grammars.proofs.Exact.{Decides}
use Rattle.grammars.proofs.Grammars.{read_grammar, decides_grammar}
use Rattle.grammars.proofs.ListReaders.{CanRead, Progress, each_takes, begins, found_front, goes_further, ends_with, wrong_at_entry, wrong_after_entry, value_of_list, one_value, suc_plus}
use Rattle.bsdl_strings.specs.Pieces.{pieces}
use Rattle.bsdl_strings.specs.Places.{Part, comma_or_end, is_code_piece, code_of, is_symbol}
use Rattle.bsdl_strings.specs.Strings.{IsListOf, IsPattern, IsNoPattern}
use Rattle.bsdl_strings.proofs.PieceLemmas.{length_pieces}

-- The tokens are a list, or the list goes wrong at some entry. A list has at most half as many
-- entries as tokens, since each entry, and each comma or end after it, takes at least one token.
pub data Answered {T A : Type 0} (entry : Grammar T A) (more : Grammar T Bool) (tokens : List T) : Type 0 where
  listed : (values : List A) → (production_of (list_of entry more)).Whole tokens values
      → 2 * length values ≤ length tokens → Answered entry more tokens
  wrong : (number : ℕ) → GoesWrongAt entry more number tokens → Answered entry more tokens

ends_early : {T A : Type 0} {entry : Grammar T A} {more : Grammar T Bool} → CanRead entry more
    → (tokens here mid : List T) (t : T) (rest : List T) (before : List A) (one : A)
    → Progress entry more tokens here before → reader_of_grammar entry here ≡ found one mid
    → reader_of_grammar more mid ≡ found false (t ∷ rest)
    → GoesWrongAt entry more (length before + 1) tokens
ends_early {T} {A} {entry} {more} can tokens here mid t rest before one so_far e f = record {
  no_value = λ values whole.
      let d : Decides (production_of (list_of entry more)) (reader_of_grammar (list_of entry more))
      = decides_grammar (list_of entry more) (each_takes can) in
      let k = d.whole tokens values whole in
      let l = ends_with can tokens here mid (t ∷ rest) before one so_far e f in
      cc (k, l);
  whole = length before;
  next = refl;
  stand = subst (λ k. Fronts entry more k tokens) (zero-add (length before)) (so_far.stand zero tt);
  no_more = λ h. none (so_far.only (suc zero) (subst (λ k. Fronts entry more k tokens) (suc_plus (length before)) h));
}
  where
    none : Fronts entry more (suc zero) here → ⊥
    none h =
        let first = found_front entry can.entries here h.front h.back h.value h.split h.first in
        let same : h.back ≡ mid = cc (first, e) in
        let second = found_front more can.marks h.back h.next.front h.next.back h.next.value h.next.split h.next.first in
        let k : reader_of_grammar more mid
        ≡ found h.next.value h.next.back = subst
        (λ ts. reader_of_grammar more ts ≡ found h.next.value h.next.back) same second in
        let yes : h.next.value ≡ true = h.next.next.0 in
        cc (k, f, yes)

ends_there : {T A : Type 0} {entry : Grammar T A} {more : Grammar T Bool} → CanRead entry more
    → (tokens here mid : List T) (before : List A) (one : A)
    → Progress entry more tokens here before → reader_of_grammar entry here ≡ found one mid
    → reader_of_grammar more mid ≡ found false [] → Answered entry more tokens
ends_there {T} {A} {entry} {more} can tokens here mid before one so_far e f =
    let a : length mid < length here = (read_grammar entry can.entries).shrinks can.takes here one mid e in
    let b : 0 < length mid = (read_grammar more can.marks).shrinks can.takes_mark mid false [] f in
    let c : length (before ++ one ∷ []) ≡ length before + 1 = length-append before (one ∷ []) in
    listed (before ++ one ∷ [])
    (value_of_list (list_of entry more) (each_takes can) tokens (before ++ one ∷ [])
    (ends_with can tokens here mid [] before one so_far e f)) (omega (arith, so_far.fewer))

answered_from : {T A : Type 0} {entry : Grammar T A} {more : Grammar T Bool} → CanRead entry more
    → (fuel : ℕ) (tokens here : List T) (before : List A) → Progress entry more tokens here before
    → length here < fuel → Answered entry more tokens
answered_from can zero tokens here before so_far lt = absurd (omega arith)
answered_from {T} {A} {entry} {more} can (suc fuel) tokens here before so_far lt =
    by_entry (reader_of_grammar entry here) refl
    (λ rest all p le. answered_from can fuel tokens rest all p le)
  where
    by_mark : (one : A) (mid : List T) → reader_of_grammar entry here ≡ found one mid
        → (o : Outcome T Bool) → reader_of_grammar more mid ≡ o
        → ((rest : List T) (all : List A) → Progress entry more tokens rest all → length rest < fuel
        → Answered entry more tokens) → Answered entry more tokens
    by_mark one mid e (refused rest) f again = wrong (length before + 1) (wrong_after_entry can tokens here mid rest before one so_far e f)
    by_mark one mid e (found false []) f again = ends_there can tokens here mid before one so_far e f
    by_mark one mid e (found false (t ∷ rest)) f again =
        wrong (length before + 1) (ends_early can tokens here mid t rest before one so_far e f)
    by_mark one mid e (found true rest) f again =
        let a : length mid < length here = (read_grammar entry can.entries).shrinks can.takes here one mid e in
        let b : length rest < length mid = (read_grammar more can.marks).shrinks can.takes_mark mid true rest f in
        again rest (before ++ one ∷ []) (goes_further can tokens here mid rest before one so_far e f) (omega arith)

    by_entry : (o : Outcome T A) → reader_of_grammar entry here ≡ o
        → ((rest : List T) (all : List A) → Progress entry more tokens rest all → length rest < fuel
        → Answered entry more tokens) → Answered entry more tokens
    by_entry (refused rest) e again = wrong (length before + 1) (wrong_at_entry can tokens here rest before so_far e)
    by_entry (found one mid) e again = by_mark one mid e (reader_of_grammar more mid) refl again

pub answered : {A : Type 0} {entry : Part A} → CanRead entry comma_or_end → (text : List ℕ) → Answered entry comma_or_end (pieces text)
answered {A} {entry} can text =
    answered_from can (suc (length (pieces text))) (pieces text) (pieces text) []
    (begins entry comma_or_end (pieces text)) (omega arith)

fewer_stand : {T A : Type 0} (entry : Grammar T A) (more : Grammar T Bool) (n m : ℕ)
    (tokens : List T) → m ≤ n → Fronts entry more n tokens → Fronts entry more m tokens
fewer_stand entry more n zero tokens le h = tt
fewer_stand entry more zero (suc m) tokens le h = absurd (omega arith)
fewer_stand entry more (suc n) (suc m) tokens le h = record {
  front = h.front;
  back = h.back;
  value = h.value;
  split = h.split;
  first = h.first;
  next =
      record {
        front = h.next.front;
        back = h.next.back;
        value = h.next.value;
        split = h.next.split;
        first
            = h.next.first;
        next =
            (h.next.next.0, fewer_stand entry more n m h.next.back (omega arith) h.next.next.1);
      };
}

pub one_number : {T A : Type 0} {entry : Grammar T A} {more : Grammar T Bool} (tokens : List T)
    (n m : ℕ) → GoesWrongAt entry more n tokens → GoesWrongAt entry more m tokens → n ≡ m
one_number {T} {A} {entry} {more} tokens n m x y =
    let a : x.whole < suc y.whole = lt_of_not-le (λ le. y.no_more (fewer_stand entry more x.whole (suc y.whole) tokens le x.stand)) in
    let b : y.whole < suc x.whole = lt_of_not-le (λ le. x.no_more (fewer_stand entry more y.whole (suc x.whole) tokens le y.stand)) in
    omega (arith, x.next, y.next)

pub few_entries : {A : Type 0} {entry : Part A} → CanRead entry comma_or_end
    → (text : List ℕ) (values : List A) → IsListOf entry text values → length text < 2 ^ 32
    → length values < 2 ^ 32
few_entries {A} {entry} can text values is short = by_answer (answered can text)
  where
    by_answer : Answered entry comma_or_end (pieces text) → length values < 2 ^ 32
    by_answer (listed others whole size) =
        let same : others ≡ values = one_value (list_of entry comma_or_end) (each_takes can) (pieces text) others values whole is in
        let few : 2 * length values ≤ length (pieces text) = subst (λ vs. 2 * length vs ≤ length (pieces text)) same size in
        omega (arith, (length_pieces text).1)
    by_answer (wrong number h) = absurd (h.no_value values is)

pub pattern_answered : (text : List ℕ) → ((code : List Symbol) × IsPattern text code) ⊎ ((number : ℕ) × IsNoPattern text number)
pattern_answered text = by_test (is_code_piece text) refl
  where
    by_test : (b : Bool) → is_code_piece text ≡ b → ((code : List Symbol) × IsPattern text code) ⊎ ((number : ℕ) × IsNoPattern text number)
    by_test true e = inl (code_of text, (e, refl))
    by_test false e =
        inr (
          length (take_while is_symbol text) + 1,
          record {
            no_value = λ value h. (let k : is_code_piece text ≡ true = h.0 in cc (k, e));
            place
                = refl;
          },
        )
