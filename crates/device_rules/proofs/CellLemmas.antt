-- Lemmas about cell numbers: those below the length of the boundary register, and the entries that
-- belong to a cell.
use Rattle.std.proofs.Common.{◌≡◌, ◌≢◌, ℕ, ◌<◌, ◌≤◌, ◌==◌, Bool, true, false, ◌&&◌, cond, List, [], ◌∷◌, Option, Some, None, refl, sym, ◌∙◌, ap, arith, nat_le, find, inl, inr}
use Rattle.std.specs.Prelude.{option_map, All, slice_index_or}
use Rattle.std.proofs.lemmas.List.{get_or_past}
use Rattle.std.proofs.lemmas.List.Folds.{list_any_none}
use Rattle.std.proofs.lemmas.List.Elements.{All-weaker, All-nil, All-cons}
use Rattle.std.proofs.Math.Bool.{and-false}
use Rattle.std.proofs.lemmas.Bool.Decides.{nat_tests}
use Rattle.std.proofs.lemmas.Bool.{cases_lt}
use Rattle.lists.proofs.Booleans.{lt-eqb, eqb_refl}
use Rattle.board_defs.specs.declared.device.Role.{Role}
use Rattle.bsdl_strings.specs.declared.values.Entry.{Entry}
use Rattle.board_defs.specs.DeviceRules.{is_controlling}
use Rattle.first_places.specs.Items.{or_else}
use Rattle.device_rules.specs.inner.Tables.{MarksItems}
use Rattle.device_rules.specs.Cells.{is_entry_of, is_entry_of_control, has_control_entry, too_large, v8}

another_cell : (cell boundary : ℕ) (entry : Entry) → boundary ≤ cell → entry.num < boundary → is_entry_of_control cell entry ≡ false
another_cell cell boundary entry le lt = ap (λ b. b && is_controlling entry.role) (lt-eqb entry.num cell (omega arith))

no_control_there : (cell boundary : ℕ) (entries : List Entry) → boundary ≤ cell
    → All (λ entry. entry.num < boundary) entries → false ≡ has_control_entry entries cell
no_control_there cell boundary entries le below = sym (list_any_none (is_entry_of_control cell) entries
    (All-weaker (λ entry. entry.num < boundary) (λ entry. is_entry_of_control cell entry ≡ false)
    (λ entry lt. another_cell cell boundary entry le lt) entries below))

-- a cell number past the end of the register has no flag and no entry, so the look-up is right for it too
pub controls_known : (boundary : ℕ) (entries : List Entry) (flags : List Bool)
    → All (λ entry. entry.num < boundary) entries
    → MarksItems is_entry_of_control entries boundary flags → (cell : ℕ)
    → slice_index_or flags cell false ≡ has_control_entry entries cell
controls_known boundary entries flags below marks cell = elim (cases_lt cell boundary) [
  | inl less ↦ marks.each cell less
  | inr more ↦ get_or_past flags cell false (omega (arith, more, marks.size)) ∙ no_control_there cell boundary entries more below
]

below_step : (boundary : ℕ) (entry : Entry) (entries : List Entry) (b : Bool)
    → nat_le boundary entry.num ≡ b
    → (too_large boundary entries ≡ None → All (λ entry. entry.num < boundary) entries)
    → option_map (λ entry. entry.num)
    (cond b (Some entry) (find (λ entry. nat_le boundary entry.num) entries)) ≡ None
    → All (λ entry. entry.num < boundary) (entry ∷ entries)
below_step boundary entry entries true is h e = cc
below_step boundary entry entries false is h e =
    All-cons (λ entry. entry.num < boundary) entry entries (smaller boundary entry.num is) (h e)
  where
    smaller : (m n : ℕ) → nat_le m n ≡ false → n < m
    smaller m n e = grind (arith, nat_tests)

none_too_large : (boundary : ℕ) (entries : List Entry) → too_large boundary entries ≡ None → All (λ entry. entry.num < boundary) entries
none_too_large boundary [] e = All-nil (λ entry. entry.num < boundary)
none_too_large boundary (entry ∷ entries) e =
    below_step boundary entry entries (nat_le boundary entry.num) refl
    (none_too_large boundary entries) e

first_none : (a b : Option ℕ) → or_else a b ≡ None → a ≡ None
first_none None b e = refl
first_none (Some n) b e = e

pub all_below : (boundary : ℕ) (entries : List Entry) → v8 boundary entries ≡ None → All (λ entry. entry.num < boundary) entries
unfolding v8
all_below boundary entries e = none_too_large boundary entries (first_none (too_large boundary entries) _ e)

apart : (m n : ℕ) → n ≢ m → (m == n) ≡ false
apart m n h = grind (arith, nat_tests)

pub counts_here : (kind : Role → Bool) (entry : Entry) → kind entry.role ≡ true → (is_entry_of entry.num entry && kind entry.role) ≡ true
counts_here kind entry e = ap (λ b. b && kind entry.role) (eqb_refl entry.num) ∙ e

pub counts_nowhere_else : (kind : Role → Bool) (entry : Entry) (n : ℕ) → n ≢ entry.num → (is_entry_of n entry && kind entry.role) ≡ false
counts_nowhere_else kind entry n h = ap (λ b. b && kind entry.role) (apart entry.num n h)

pub counts_nowhere : (kind : Role → Bool) (entry : Entry) (n : ℕ) → kind entry.role ≡ false
    → (is_entry_of n entry && kind entry.role) ≡ false
counts_nowhere kind entry n e = ap (λ b. is_entry_of n entry && b) e ∙ and-false (is_entry_of n entry)

pub counts_above : (kind : Role → Bool) (entry : Entry) (bound n : ℕ) → bound ≤ entry.num
    → n < bound → (is_entry_of n entry && kind entry.role) ≡ false
counts_above kind entry bound n le lt = counts_nowhere_else kind entry n (λ e. absurd (omega arith))
