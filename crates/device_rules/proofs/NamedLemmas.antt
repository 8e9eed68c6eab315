-- Lemmas about the bits that the compliance patterns name.
use Rattle.std.proofs.Common.{◌≡◌, ℕ, ◌+◌, ◌<◌, ◌==◌, Bool, true, ◌||◌, ◌&&◌, cond, nat_eq, List, [], ◌∷◌, length, take, get_or, Option, Some, None, refl, sym, ap, ◌∙◌, arith}
use Rattle.std.specs.List.{list_any}
use Rattle.std.specs.Str.{bytes_eq}
use Rattle.std.specs.Option.{option_eq}
use Rattle.std.proofs.Math.Bool.{or-false}
use Rattle.std.proofs.lemmas.Bool.Decides.{nat_tests}
use Rattle.std.proofs.lemmas.List.Folds.{list_any_more}
use Rattle.bsdl_strings.specs.declared.values.Compliance.{Compliance}
use Rattle.bsdl_strings.specs.declared.values.PortWord.{PortWord}
use Rattle.bsdl_strings.specs.declared.values.PortWord.TheVariants.{Star, Plain, Index}
use Rattle.device_rules.specs.Ports.{Bit, is_named, has_index}
use Rattle.device_rules.specs.inner.Index.{key_of, is_key, names_bit, compliance_words}
use Rattle.device_rules.specs.Raw.{in_compliance}
use Rattle.device_rules.proofs.NameLemmas.{bytes_turned}
use Rattle.device_rules.proofs.PinLemmas.{one_more}

-- One step of a loop over the words. `old` says whether a word before word `i` names the bit, and `new` says whether
-- word `i` or one before it does.
pub marked_more : (words : List PortWord) (i : ℕ) (word : PortWord) (key : List ℕ × Option ℕ)
    (name : List ℕ) (index : Option ℕ) (new old : Bool) → i < length words
    → get_or words i word ≡ word → key_of word ≡ Some key
    → new ≡ cond (bytes_eq key.0 name && option_eq nat_eq key.1 index) true old
    → old ≡ list_any (names_bit name index) (take i words)
    → new ≡ list_any (names_bit name index) (take (i + 1) words)
marked_more words i word key name index new old less is same e f =
    e ∙ one_more (bytes_eq key.0 name && option_eq nat_eq key.1 index) old
    ∙ ap (λ b. b || (bytes_eq key.0 name && option_eq nat_eq key.1 index)) f
    ∙ ap (λ k. list_any (names_bit name index) (take i words) || is_key k name index) (sym same)
    ∙ ap (λ x. list_any (names_bit name index) (take i words) || names_bit name index x) (sym is)
    ∙ sym (list_any_more (names_bit name index) words i word less)

pub marked_none : (words : List PortWord) (i : ℕ) (word : PortWord) (name : List ℕ)
    (index : Option ℕ) (old : Bool) → i < length words → get_or words i word ≡ word
    → key_of word ≡ None
    → old ≡ list_any (names_bit name index) (take i words) → old ≡ list_any (names_bit name index) (take (i + 1) words)
marked_none words i word name index old less is same f =
    f ∙ sym (or-false (list_any (names_bit name index) (take i words)))
    ∙ ap (λ k. list_any (names_bit name index) (take i words) || is_key k name index) (sym same)
    ∙ ap (λ x. list_any (names_bit name index) (take i words) || names_bit name index x) (sym is)
    ∙ sym (list_any_more (names_bit name index) words i word less)

same_index : (at index : Option ℕ) → has_index at index ≡ option_eq nat_eq at index
same_index None None = refl
same_index None (Some i) = refl
same_index (Some n) None = refl
same_index (Some n) (Some i) = turned n i
  where
    turned : (n i : ℕ) → (i == n) ≡ nat_eq n i
    turned n i = grind (arith, nat_tests)

both : (a b c d : Bool) → a ≡ b → c ≡ d → (a && c) ≡ (b && d)
both a b c d e f = ap (λ x. x && c) e ∙ ap (λ x. b && x) f

names_is : (bit : Bit) (word : PortWord) → names_bit bit.name bit.index word ≡ is_named word bit
names_is bit Star = refl
names_is bit (Plain name) = both _ _ _ _ (bytes_turned name bit.name) (sym (same_index None bit.index))
names_is bit (Index name number) = both _ _ _ _ (bytes_turned name bit.name) (sym (same_index (Some number) bit.index))

any_is : (bit : Bit) (words : List PortWord) → list_any (names_bit bit.name bit.index) words ≡ list_any (λ word. is_named word bit) words
any_is bit [] = refl
any_is bit (word ∷ words) =
    ap (λ b. b || list_any (names_bit bit.name bit.index) words) (names_is bit word)
    ∙ ap (λ b. is_named word bit || b) (any_is bit words)

pub in_compliance_is : (compliance : Option Compliance) (bit : Bit)
    → list_any (names_bit bit.name bit.index) (compliance_words compliance)
    ≡ in_compliance compliance bit
in_compliance_is None bit = refl
in_compliance_is (Some compliance) bit = any_is bit compliance.ports
