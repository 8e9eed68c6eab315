-- If a text keeps the rules V5, V6 and V7, the instruction codes and the IDCODE pattern of its device keep the rules of
-- devices.
use Rattle.std.proofs.Common.{◌≡◌, ◌≢◌, ℕ, zero, suc, ◌≤◌, ◌==◌, Bool, true, false, not, ◌&&◌, ◌||◌, List, [], ◌∷◌, map, length, replicate, Option, Some, None, refl, sym, ◌∙◌, ap, subst, arith, ◌⊎◌, inl, inr}
use Rattle.std.specs.Prelude.{All, codes, IfSome, zip, option_and_then, if◌then◌else◌}
use Rattle.std.specs.List.{list_any, list_all}
use Rattle.std.proofs.lemmas.Bool.{or_parts, and_parts, not-true, not-false, eqb-true, eq-eqb, and_from}
use Rattle.std.proofs.lemmas.List.{length-map, length-replicate}
use Rattle.std.proofs.lemmas.List.Elements.{All-replicate}
use Rattle.lists.proofs.Booleans.{clash}
use Rattle.board_defs.specs.declared.device.Symbol.{Symbol}
use Rattle.board_defs.specs.declared.device.Symbol.TheVariants.{Zero, One, Any}
use Rattle.board_defs.specs.declared.device.Edition.{Edition}
use Rattle.board_defs.specs.declared.device.Edition.TheVariants.{Old, Of2001}
use Rattle.board_defs.specs.DeviceRules.{bit_of, HasCodes}
use Rattle.board_defs.proofs.Members.{Has, has_place, map_has, find_has, all_from_has}
use Rattle.bsdl_strings.specs.declared.values.Opcode.{Opcode}
use Rattle.device_rules.specs.declared.draft.Draft.{Draft}
use Rattle.first_places.specs.Items.{or_else}
use Rattle.instruction_rules.specs.Instructions.{has_length, is_called, breaks_opcode, v5, first_of, opcode_called, first_code, listed_preload_code, is_all_ones, is_all_zeros, may_preload, same_bit, same_code, is_given_code, may_extest, has_code, fits_one, extest_holds, v6, ends_in_01, may_be_idcode, v7, settled, settled_code, preload, extest}
use Rattle.device_rules.specs.Raw.{raw_device, HasLengths}
use Rattle.device_rules.proofs.RuleLemmas.{holds}
use Rattle.device_rules.proofs.IsDeviceLists.{holds_at}

-- each code of each opcode has as many symbols as the instruction register has bits
abbrev AreLong : ℕ → List Opcode → Type 0
AreLong ir ops = (op : Opcode) → Has ops op → list_all (has_length ir) op.codes ≡ true

are_long : (ir : ℕ) (ops : List Opcode) → v5 ir ops ≡ None → AreLong ir ops
unfolding v5
are_long ir ops e op has =
    let r = has_place ops op has in
    not-false (list_all (has_length ir) op.codes)
    (or_parts (list_any (is_called op.name) _) (not (list_all (has_length ir) op.codes))
    (holds_at (breaks_opcode ir) ops (holds (breaks_opcode ir) ops e) r.0 op r.1)).1

first_long : (ir : ℕ) (all : List (List Symbol)) (code : List Symbol)
    → list_all (has_length ir) all ≡ true → first_of all ≡ Some code → length code ≡ ir
first_long ir [] code h e = cc e
first_long ir (first ∷ all) code h e =
    let same : first ≡ code = cc e in
    ap length (sym same)
    ∙ eqb-true (length first) ir
    (and_parts (has_length ir first) (list_all (has_length ir) all) h).0

code_long : (ir : ℕ) (ops : List Opcode) → AreLong ir ops → (name : List ℕ) (code : List Symbol)
    → first_code name ops ≡ Some code → length code ≡ ir
code_long ir ops long name code e = by_found (opcode_called name ops) refl e
  where
    by_found : (o : Option Opcode) → opcode_called name ops ≡ o
        → option_and_then (λ (op : Opcode). first_of op.codes) o ≡ Some code → length code ≡ ir
    by_found None found is = cc is
    by_found (Some op) found is = first_long ir op.codes code (long op (find_has (is_called name) ops op found).0) is

either_code : (a b : Option (List Symbol)) (code : List Symbol) → or_else a b ≡ Some code → (a ≡ Some code) ⊎ (b ≡ Some code)
either_code None b code e = inr e
either_code (Some first) b code e = inl e

preload_long : (ir : ℕ) (edition : Edition) (ops : List Opcode) → AreLong ir ops
    → (code : List Symbol) → listed_preload_code edition ops ≡ Some code → length code ≡ ir
preload_long ir Old ops long code e = code_long ir ops long (codes "SAMPLE") code e
preload_long ir Of2001 ops long code e = by_part (either_code (first_code (codes "PRELOAD") ops) (first_code (codes "SAMPLE") ops) code e)
  where
    by_part : (first_code (codes "PRELOAD") ops ≡ Some code) ⊎ (first_code (codes "SAMPLE") ops ≡ Some code) → length code ≡ ir
    by_part (inl h) = code_long ir ops long (codes "PRELOAD") code h
    by_part (inr h) = code_long ir ops long (codes "SAMPLE") code h

-- `settled` replaces X by 0, and `bit_of` counts X as 0, too
settled_bit : (s : Symbol) → bit_of (settled s) ≡ bit_of s
settled_bit Zero = refl
settled_bit One = refl
settled_bit Any = refl

settled_given : (s : Symbol) → settled s ≢ Any
settled_given Zero e = cc e
settled_given One e = cc e
settled_given Any e = cc e

all_settled : (code : List Symbol) → list_all bit_of (map settled code) ≡ list_all bit_of code
all_settled [] = refl
all_settled (s ∷ code) = ap (λ b. b && list_all bit_of (map settled code)) (settled_bit s) ∙ ap (λ b. bit_of s && b) (all_settled code)

any_settled : (code : List Symbol) → list_any bit_of (map settled code) ≡ list_any bit_of code
any_settled [] = refl
any_settled (s ∷ code) = ap (λ b. b || list_any bit_of (map settled code)) (settled_bit s) ∙ ap (λ b. bit_of s || b) (any_settled code)

given : (code : List Symbol) → All (λ s. s ≢ Any) (map settled code)
given code =
    all_from_has (λ (s : Symbol). s ≢ Any) (map settled code)
    (λ s has e. let r = map_has settled code s has in settled_given r.0 (r.2 ∙ e))

pub same_bits : (b : Bool) → same_bit b b ≡ true
same_bits true = refl
same_bits false = refl

same_pairs : (a b : List Symbol) → map settled a ≡ map settled b
    → list_all (λ (pair : Symbol × Symbol). same_bit (bit_of pair.0) (bit_of pair.1)) (zip a b)
    ≡ true
same_pairs [] b e = refl
same_pairs (x ∷ a) [] e = refl
same_pairs (x ∷ a) (y ∷ b) e =
    let head : settled x ≡ settled y = cc e in
    let tail : map settled a ≡ map settled b = cc e in
    let bits : bit_of x ≡ bit_of y = sym (settled_bit x) ∙ (ap bit_of head ∙ settled_bit y) in
    and_from (same_bit (bit_of x) (bit_of y)) _ (ap (λ v. same_bit v (bit_of y)) bits ∙ same_bits (bit_of y)) (same_pairs a b tail)

same_codes : (a b : List Symbol) → map settled a ≡ map settled b → same_code a b ≡ true
same_codes a b e =
    let lengths : length a ≡ length b = sym (length-map a settled) ∙ (ap length e ∙ length-map b settled) in
    and_from (length a == length b) _ (eq-eqb (length a) (length b) lengths) (same_pairs a b e)

none_one : (n : ℕ) → list_any bit_of (replicate n Zero) ≡ false
none_one zero = refl
none_one (suc n) = none_one n

not_ones : (n : ℕ) → 2 ≤ n → list_all bit_of (replicate n Zero) ≡ false
not_ones zero least = absurd (omega arith)
not_ones (suc n) least = refl

zero_given : Zero ≢ Any
zero_given e = cc e

-- the text lists a preload code, and not all of its symbols are 1
record Preloads (edition : Edition) (preload : Option (List Symbol)) : Type 0 where
  code : List Symbol
  is : preload ≡ Some code
  not_ones : is_all_ones code ≡ false

preloads : (edition : Edition) (o : Option (List Symbol)) → may_preload edition o ≡ true → Preloads edition o
preloads edition None e = cc e
preloads Old (Some code) e =
    record {
      code = code;
      is = refl;
      not_ones = not-true (is_all_ones code)
          (and_parts (not (is_all_zeros code)) (not (is_all_ones code)) e).1;
    }
preloads Of2001 (Some code) e = record { code = code; is = refl; not_ones = not-true (is_all_ones code) e }

not_zeros : (o : Option (List Symbol)) (code : List Symbol) → o ≡ Some code → may_preload Old o ≡ true → list_any bit_of code ≡ true
not_zeros None code same e = cc e
not_zeros (Some c) code same e =
    let one : c ≡ code = cc same in
    ap (list_any bit_of) (sym one)
    ∙ not-false (list_any bit_of c)
    (not-true (is_all_zeros c) (and_parts (not (is_all_zeros c)) (not (is_all_ones c)) e).0)

-- The text lists an EXTEST code. Not all of its symbols are 1, and it differs from the preload code.
record Extests (code preload : Option (List Symbol)) : Type 0 where
  own : List Symbol
  is : code ≡ Some own
  not_ones : is_all_ones own ≡ false
  apart : is_given_code own preload ≡ false

extests : (code preload : Option (List Symbol)) → may_extest code preload ≡ true → Extests code preload
extests None preload e = cc e
extests (Some code) preload e =
    let parts = and_parts (not (is_all_ones code)) (not (is_given_code code preload)) e in
    record { own = code; is = refl; not_ones = not-true (is_all_ones code) parts.0; apart = not-true (is_given_code code preload) parts.1 }

-- V6 holds for the preload code and for the EXTEST code
record CodesStand (edition : Edition) (ops : List Opcode) : Type 0 where
  may_load : may_preload edition (listed_preload_code edition ops) ≡ true
  may_test : extest_holds edition ops ≡ true

codes_stand : (edition : Edition) (ops : List Opcode) → v6 edition ops ≡ None → CodesStand edition ops
unfolding v6
codes_stand edition ops e = by_tests (may_preload edition (listed_preload_code edition ops)) (extest_holds edition ops) refl refl e
  where
    by_tests : (a b : Bool) → may_preload edition (listed_preload_code edition ops) ≡ a
        → extest_holds edition ops ≡ b
        → ◌≡◌ {A = Option ℕ}
        (if not a then Some 1 else if not b then Some 2
        else if has_code fits_one (opcode_called (codes "BYPASS") ops) then None else Some 3) None
        → CodesStand edition ops
    by_tests true true is_a is_b none = record { may_load = is_a; may_test = is_b }
    by_tests true false is_a is_b none = cc none
    by_tests false b is_a is_b none = cc none

idcode_long : (ir : ℕ) (capture : List Symbol) (idcode : Option (List Symbol))
    → v7 ir capture idcode ≡ None → IfSome idcode (λ code. length code ≡ 32)
unfolding v7
idcode_long ir capture idcode e = by_tests (has_length ir capture && ends_in_01 capture) idcode e
  where
    by_tests : (a : Bool) (o : Option (List Symbol))
        → ◌≡◌ {A = Option ℕ} (if not a then Some 1 else if may_be_idcode o then None else Some 2)
        None → IfSome o (λ code. length code ≡ 32)
    by_tests a None none = tt
    by_tests false (Some code) none = cc none
    by_tests true (Some code) none = by_length (has_length 32 code) refl none
      where
        by_length : (b : Bool) → has_length 32 code ≡ b → ◌≡◌ {A = Option ℕ} (if b then None else Some 2) None → length code ≡ 32
        by_length true is n = eqb-true (length code) 32 is
        by_length false is n = cc n

-- The EXTEST code has `ir` symbols. None of them is X, and not all of them are 1. The code differs
-- from the preload code. In the old edition, which is any edition before that of 2001, all of its
-- symbols are 0.
record ExtestStands (edition : Edition) (ir : ℕ) (ops : List Opcode) : Type 0 where
  long : length (extest edition ir ops) ≡ ir
  given : All (λ s. s ≢ Any) (extest edition ir ops)
  not_ones : list_all bit_of (extest edition ir ops) ≡ false
  differs : preload edition ops ≢ extest edition ir ops
  zeros : edition ≡ Old → All (λ s. s ≡ Zero) (extest edition ir ops)

old_stands : (ir : ℕ) (ops : List Opcode) → 2 ≤ ir → CodesStand Old ops → ExtestStands Old ir ops
unfolding preload extest
old_stands ir ops least stand = record {
  long = length-replicate ir Zero;
  given = All-replicate (λ (s : Symbol). s ≢ Any) ir Zero zero_given;
  not_ones = not_ones ir least;
  differs = λ e.
      let p : Preloads Old (listed_preload_code Old ops) = preloads Old (listed_preload_code Old ops) stand.may_load in
      let one : list_any bit_of (map settled p.code)
      ≡ true = any_settled p.code
      ∙ not_zeros (listed_preload_code Old ops) p.code p.is stand.may_load in
      let zero : list_any bit_of (map settled p.code) ≡ false = ap (list_any bit_of) (sym (ap settled_code p.is) ∙ e) ∙ none_one ir in
      clash (list_any bit_of (map settled p.code)) one zero;
  zeros = λ old. All-replicate (λ (s : Symbol). s ≡ Zero) ir Zero refl;
}

new_stands : (ir : ℕ) (ops : List Opcode) → AreLong ir ops → CodesStand Of2001 ops → ExtestStands Of2001 ir ops
unfolding preload extest
new_stands ir ops long stand =
    let x : Extests (first_code (codes "EXTEST") ops) (listed_preload_code Of2001 ops) = extests
    (first_code (codes "EXTEST") ops) (listed_preload_code Of2001 ops) stand.may_test in
    let code : settled_code (first_code (codes "EXTEST") ops) ≡ map settled x.own = ap settled_code x.is in
    record {
      long = ap length code ∙ (length-map x.own settled ∙ code_long ir ops long (codes "EXTEST") x.own x.is);
      given = subst (λ (v : List Symbol). All (λ s. s ≢ Any) v) (sym code) (given x.own);
      not_ones = ap (list_all bit_of) code ∙ (all_settled x.own ∙ x.not_ones);
      differs = λ e.
          let p : Preloads Of2001 (listed_preload_code Of2001 ops) = preloads Of2001 (listed_preload_code Of2001 ops) stand.may_load in
          let same : map settled x.own ≡ map settled p.code = sym code ∙ (sym e ∙ ap settled_code p.is) in
          clash (same_code x.own p.code) (same_codes x.own p.code same) (sym (ap (is_given_code x.own) p.is) ∙ x.apart);
      zeros = λ old. cc old;
    }

extest_stands : (edition : Edition) (ir : ℕ) (ops : List Opcode) → 2 ≤ ir → AreLong ir ops
    → CodesStand edition ops → ExtestStands edition ir ops
extest_stands Old ir ops least long stand = old_stands ir ops least stand
extest_stands Of2001 ir ops least long stand = new_stands ir ops long stand

preload_is : (edition : Edition) (ops : List Opcode) (code : List Symbol)
    → listed_preload_code edition ops ≡ Some code → preload edition ops ≡ map settled code
unfolding preload
preload_is edition ops code e = ap settled_code e

pub has_codes : (draft : Draft) → HasLengths draft → v5 draft.ir draft.opcodes ≡ None
    → v6 draft.edition draft.opcodes ≡ None → v7 draft.ir draft.capture draft.idcode ≡ None
    → HasCodes (raw_device draft)
has_codes draft lengths e5 e6 e7 =
    let long : AreLong draft.ir draft.opcodes = are_long draft.ir draft.opcodes e5 in
    let stand : CodesStand draft.edition draft.opcodes = codes_stand draft.edition draft.opcodes e6 in
    let p : Preloads draft.edition (listed_preload_code draft.edition draft.opcodes) = preloads
    draft.edition (listed_preload_code draft.edition draft.opcodes) stand.may_load in
    let code : preload draft.edition draft.opcodes ≡ map settled p.code = preload_is draft.edition draft.opcodes p.code p.is in
    let x : ExtestStands draft.edition draft.ir draft.opcodes = extest_stands draft.edition draft.ir
    draft.opcodes lengths.ir_least long stand in
    record {
      sample_length = ap length code ∙ (length-map p.code settled ∙ preload_long draft.ir draft.edition draft.opcodes long p.code p.is);
      extest_length = x.long;
      sample_given = subst (λ (v : List Symbol). All (λ s. s ≢ Any) v) (sym code) (given p.code);
      extest_given = x.given;
      sample_not_ones = ap (list_all bit_of) code ∙ (all_settled p.code ∙ p.not_ones);
      extest_not_ones = x.not_ones;
      codes_differ = x.differs;
      old_extest = x.zeros;
      idcode_length = idcode_long draft.ir draft.capture draft.idcode e7;
    }
