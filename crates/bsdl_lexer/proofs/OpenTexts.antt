-- If the first byte is a quote, then either a string token or a string that is not closed begins there.
use Rattle.std.proofs.Common.{◌≡◌, ℕ, suc, List, [], ◌∷◌, ◌++◌, Bool, true, false, cond, Option, Some, None, ◌⊎◌, inl, inr, refl, sym, ◌∙◌, ap, arith, nat_eq, slice_get, IsTrue}
use Rattle.std.proofs.lemmas.Bool.Decides.{nat_tests}
use Rattle.std.specs.List.{prefix_len, list_all}
use Rattle.std.proofs.lemmas.Bool.{and_parts}
use Rattle.bsdl_lexer.specs.declared.token.TokenKind.{TokenKind}
use Rattle.bsdl_lexer.specs.declared.token.TokenKind.TheVariants.{Text}
use Rattle.bsdl_lexer.specs.Forms.{begins_gap, is_text_byte, line_feed, carriage_return, quote}
use Rattle.bsdl_lexer.specs.Answer.{BeginsOpenText, EndsOpen}
use Rattle.bsdl_lexer.specs.inner.Lengths.{token_at, closed_len}

-- the first byte that may not be in a string, or None if there is no such byte
byte_behind : List ℕ → Option ℕ
byte_behind others = slice_get others (prefix_len is_text_byte others)

behind_first : (x : ℕ) (xs : List ℕ) → is_text_byte x ≡ true → byte_behind (x ∷ xs) ≡ byte_behind xs
unfolding byte_behind
behind_first x xs h =
    let more : prefix_len is_text_byte (x ∷ xs) ≡ suc (prefix_len is_text_byte xs) = rw h (omega arith) in
    ap (slice_get (x ∷ xs)) more

behind_none : (x : ℕ) (xs : List ℕ) → is_text_byte x ≡ false → byte_behind (x ∷ xs) ≡ Some x
unfolding byte_behind
behind_none x xs h = let none : prefix_len is_text_byte (x ∷ xs) ≡ 0 = rw h refl in ap (slice_get (x ∷ xs)) none

not_closed : (o : Option ℕ) (n : ℕ) → (o ≡ Some quote → ⊥) → closed_len o n ≡ None
not_closed None n h = refl
not_closed (Some byte) n h = go (nat_eq byte quote) refl
  where
    go : (b : Bool) → nat_eq byte quote ≡ b → cond {A = Option (TokenKind × ℕ)} b (Some (Text, suc (suc n))) None ≡ None
    go true e = absurd (h (ap Some (grind (arith, nat_tests))))
    go false e = refl

closed : (o : Option ℕ) (n : ℕ) → closed_len o n ≡ None → o ≡ Some quote → ⊥
closed None n e h = cc
closed (Some byte) n e h =
    let same : byte ≡ quote = cc in
    let test : nat_eq byte quote ≡ true = grind (arith, nat_tests) in
    let some : closed_len (Some byte) n ≡ Some (Text, suc (suc n)) = rw test refl in
    cc

line_end : (x : ℕ) → is_text_byte x ≡ false → (x ≡ quote → ⊥) → (x ≡ line_feed) ⊎ (x ≡ carriage_return)
line_end x h n = go (nat_eq x line_feed) refl
  where
    go : (b : Bool) → nat_eq x line_feed ≡ b → (x ≡ line_feed) ⊎ (x ≡ carriage_return)
    go true e = inl (grind (arith, nat_tests))
    go false e = inr (grind (arith, nat_tests))

-- These bytes come after an opening quote, and the string is not closed. `inner` has only bytes that may be in a
-- string, and `more`, the rest, begins with a line end or is empty.
record Open (others : List ℕ) : Type 0 where
  inner : List ℕ
  more : List ℕ
  parts : others ≡ inner ++ more
  allowed : IsTrue (list_all is_text_byte inner)
  is_open : EndsOpen more

open_front : (others : List ℕ) → (byte_behind others ≡ Some quote → ⊥) → Open others
open_front [] h = record { inner = []; more = []; parts = refl; allowed = refl; is_open = tt }
open_front (x ∷ xs) h = go (is_text_byte x) refl (open_front xs)
  where
    longer : is_text_byte x ≡ true → Open xs → Open (x ∷ xs)
    longer e k =
        record {
          inner = x
              ∷ k.inner;
          more = k.more;
          parts = ap (λ ys. x ∷ ys) k.parts;
          allowed = rw e k.allowed;
          is_open = k.is_open;
        }

    go : (b : Bool) → is_text_byte x ≡ b → ((byte_behind xs ≡ Some quote → ⊥) → Open xs) → Open (x ∷ xs)
    go true e front = longer e (front (λ k. h (behind_first x xs e ∙ k)))
    go false e front =
        record {
          inner = [];
          more = x
              ∷ xs;
          parts = refl;
          allowed = refl;
          is_open = line_end x e
              (λ same. h (behind_none x xs e ∙ ap Some same));
        }

none_behind : byte_behind [] ≡ Some quote → ⊥
unfolding byte_behind
none_behind e = cc

never_closed : (inner more : List ℕ) → IsTrue (list_all is_text_byte inner) → EndsOpen more → byte_behind (inner ++ more) ≡ Some quote → ⊥
never_closed [] [] a o e = none_behind e
never_closed [] (y ∷ ys) (a) (inl o) e =
    let k : byte_behind (y ∷ ys) ≡ Some y = behind_none y ys (rw o refl) in
    let same : quote ≡ line_feed = cc in
    absurd (omega arith)
never_closed [] (y ∷ ys) (a) (inr o) e =
    let k : byte_behind (y ∷ ys) ≡ Some y = behind_none y ys (rw o refl) in
    let same : quote ≡ carriage_return = cc in
    absurd (omega arith)
never_closed (x ∷ inner) more a o e =
    let k = and_parts (is_text_byte x) (list_all is_text_byte inner) a in
    never_closed inner more k.1 o (sym (behind_first x (inner ++ more) k.0) ∙ e)

quote_at : (others : List ℕ) → token_at (quote ∷ others) ≡ closed_len (byte_behind others) (prefix_len is_text_byte others)
unfolding byte_behind
quote_at [] = refl
quote_at (x ∷ xs) = refl

pub begins_open : (others : List ℕ) → token_at (quote ∷ others) ≡ None → BeginsOpenText (quote ∷ others)
begins_open others e =
    let k : Open others = open_front others (closed (byte_behind others) (prefix_len is_text_byte others) (sym (quote_at others) ∙ e)) in
    record { inner = k.inner; more = k.more; parts = ap (λ xs. quote ∷ xs) k.parts; allowed = k.allowed; is_open = k.is_open }

pub open_no_token : (rest : List ℕ) → BeginsOpenText rest → token_at rest ≡ None
open_no_token rest h =
    rw h.parts
    (quote_at (h.inner ++ h.more)
    ∙ not_closed (byte_behind (h.inner ++ h.more)) (prefix_len is_text_byte (h.inner ++ h.more))
    (never_closed h.inner h.more h.allowed h.is_open))

quote_no_gap : (others : List ℕ) → begins_gap (quote ∷ others) ≡ false
quote_no_gap [] = refl
quote_no_gap (x ∷ xs) = refl

pub open_no_gap : (rest : List ℕ) → BeginsOpenText rest → begins_gap rest ≡ false
open_no_gap rest h = rw h.parts (quote_no_gap (h.inner ++ h.more))
