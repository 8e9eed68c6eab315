-- Lemmas about a loop over the lines of a chain file that collects the parts.
use Rattle.std.proofs.Common.{◌≡◌, ℕ, ◌+◌, ◌<◌, List, ◌∷◌, ◌++◌, length, drop, get_or, Option, Some, None, refl, sym, ap, subst, ◌∙◌, append_assoc, append-nil}
use Rattle.std.specs.Prelude.{All, IfSome}
use Rattle.std.specs.List.{cons_option}
use Rattle.std.specs.Option.{option_to_list}
use Rattle.std.proofs.lemmas.List.{drop_more}
use Rattle.std.proofs.lemmas.List.Elements.{All-push}
use Rattle.board_files.specs.declared.chain_file.ChainLine.{ChainLine}
use Rattle.board_defs.specs.declared.device.RawDevice.{RawDevice}
use Rattle.board_defs.specs.declared.board.Part.{Part}
use Rattle.board_lines.specs.ChainParts.{chain_parts, devices_after, part_of_line}

cons_to : {A : Type 0} (o : Option A) (xs : List A) → cons_option o xs ≡ option_to_list o ++ xs
cons_to None xs = refl
cons_to (Some x) xs = refl

-- one step of the loop: `new` is `parts` with the part of line `i`, if the line has one, appended
pub parts_step : (lines : List ChainLine) (i : ℕ) (line : ChainLine) (devices rest : List RawDevice)
    (o : Option Part) (parts new all : List Part) → i < length lines → get_or lines i line ≡ line →
    o ≡ part_of_line line.statement devices → rest ≡ devices_after line.statement devices
    → new ≡ parts ++ option_to_list o → all ≡ parts ++ chain_parts (drop i lines) devices
    → all ≡ new ++ chain_parts (drop (i + 1) lines) rest
parts_step lines i line devices rest o parts new all within read eo er en same =
    let cut : drop i lines
    ≡ line ∷ drop (i + 1) lines = drop_more lines i line within
    ∙ ap (λ (v : ChainLine). v ∷ drop (i + 1) lines) read in
    same ∙ ap (λ (v : List ChainLine). parts ++ chain_parts v devices) cut
    ∙ ap (λ (v : List Part). parts ++ v)
    (cons_to (part_of_line line.statement devices)
    (chain_parts (drop (i + 1) lines) (devices_after line.statement devices)))
    ∙ sym
    (append_assoc parts (option_to_list (part_of_line line.statement devices))
    (chain_parts (drop (i + 1) lines) (devices_after line.statement devices)))
    ∙ ap
    (λ (v : Option Part). (parts ++ option_to_list v)
    ++ chain_parts (drop (i + 1) lines) (devices_after line.statement devices)) (sym eo)
    ∙ ap (λ (v : List Part). v ++ chain_parts (drop (i + 1) lines) (devices_after line.statement devices)) (sym en)
    ∙ ap (λ (v : List RawDevice). new ++ chain_parts (drop (i + 1) lines) v) (sym er)

pub all_option : {A : Type 0} (P : A → Type 0) (xs : List A) (o : Option A) → All P xs → IfSome o P → All P (xs ++ option_to_list o)
all_option {A} P xs None h k = subst (All P) (sym (append-nil xs)) h
all_option P xs (Some x) h k = All-push P xs x h k
