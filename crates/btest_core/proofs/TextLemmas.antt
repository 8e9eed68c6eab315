-- Lemmas about a loop that finds the entity of each text. An answer is the list of the entities or
-- the first fault.
use Rattle.std.proofs.Common.{◌≡◌, ℕ, ◌+◌, ◌<◌, ◌≤◌, List, [], ◌∷◌, map, drop, length, slice_index_or, ap, sym, ◌∙◌, subst, Vec, Global}
use Rattle.std.specs.List.{enumerate_from}
use Rattle.std.proofs.lemmas.List.{drop_all, at_drop_more}
use Rattle.bsdl_parser.specs.declared.entity.Entity.{Entity}
use Rattle.btest_core.specs.TextsRead.{IsEntityOfText}
use Rattle.btest_core.proofs.EachLemmas.{Completes}

abbrev pub bytes_of : List (Vec ℕ Global) → List (List ℕ)
bytes_of texts = map (λ text. text.items) texts

-- the texts, each with its number; the numbers begin with `n`
abbrev pub numbered : ℕ → List (Vec ℕ Global) → List (ℕ × List ℕ)
numbered n texts = enumerate_from n (bytes_of texts)

-- for each answer for the texts `rest`, the answer with the entities `front` in front is an answer
-- for all texts
abbrev pub CompletesTexts : List (Vec ℕ Global) → List (ℕ × List ℕ) → List Entity → Type 0
CompletesTexts texts rest front = Completes IsEntityOfText (numbered 0 texts) rest front

pub texts_left : (texts : List (Vec ℕ Global)) (n : ℕ) (front : List Entity) (text : Vec ℕ Global)
    (bytes : List ℕ) → n < length texts → text ≡ slice_index_or texts n text → bytes ≡ text.items
    → CompletesTexts texts (numbered n (drop n texts)) front
    → CompletesTexts texts ((n, bytes) ∷ numbered (n + 1) (drop (n + 1) texts)) front
texts_left texts n front text bytes within at is completes =
    let here : slice_index_or texts n text ≡ text = sym at in
    let split : numbered n (drop n texts) ≡ (n, bytes) ∷ numbered (n + 1) (drop (n + 1) texts) =
    at_drop_more (numbered n) texts n text within
    ∙ ap (λ v. (n, v.items) ∷ numbered (n + 1) (drop (n + 1) texts)) here
    ∙ ap (λ b. (n, b) ∷ numbered (n + 1) (drop (n + 1) texts)) (sym is) in
    subst (λ rest. CompletesTexts texts rest front) split completes

pub no_texts_left : (texts : List (Vec ℕ Global)) (n : ℕ) (front : List Entity) → length texts ≤ n
    → CompletesTexts texts (numbered n (drop n texts)) front → CompletesTexts texts [] front
no_texts_left texts n front past completes = subst (λ rest. CompletesTexts texts (numbered n rest) front) (drop_all n texts past) completes
