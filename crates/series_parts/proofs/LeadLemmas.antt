-- Lemmas about `leads`, which says whether a path of links joins two nets.
use Rattle.std.proofs.Common.{◌≡◌, true, ◌&&◌, ◌||◌, List, [], ◌∷◌, refl, sym, ap, ◌∙◌, ◌⊎◌, inl, inr}
use Rattle.std.proofs.lemmas.Bool.{and_parts, and_from, or_cases, or_left, or_right}
use Rattle.std.specs.Cmp.Lexicographic.{bytes_decides}
use Rattle.board_defs.proofs.Members.{Has}
use Rattle.board_files.specs.Names.{same_word}
use Rattle.series_parts.specs.Nets.{Word}
use Rattle.series_parts.specs.Joining.{Pair, leads}

pub same_self : (a : Word) → same_word a a ≡ true
same_self a = (bytes_decides a a).1 refl

pub same_is : (a b : Word) → same_word a b ≡ true → a ≡ b
same_is a b e = (bytes_decides a b).0 e

-- the ways in which links lead from `a` to `b` after `link` is put in front of the links: without
-- `link`, along `link` from its first net to its second, or along `link` from its second net to its
-- first
pub data Way (link : Pair) (links : List Pair) (a b : Word) : Type 0 where
  without : leads links a b ≡ true → Way link links a b
  forth : leads links a link.0 ≡ true → leads links link.1 b ≡ true → Way link links a b
  back : leads links a link.1 ≡ true → leads links link.0 b ≡ true → Way link links a b

pub way : (link : Pair) (links : List Pair) (a b : Word) → leads (link ∷ links) a b ≡ true → Way link links a b
way link links a b h =
    first
    (or_cases (leads links a b)
    ((leads links a link.0 && leads links link.1 b)
    || (leads links a link.1 && leads links link.0 b)) h)
  where
    second : ((leads links a link.0 && leads links link.1 b) ≡ true)
        ⊎ ((leads links a link.1 && leads links link.0 b) ≡ true) → Way link links a b
    second (inl e) = let p = and_parts (leads links a link.0) (leads links link.1 b) e in forth p.0 p.1
    second (inr e) = let p = and_parts (leads links a link.1) (leads links link.0 b) e in back p.0 p.1

    first : (leads links a b ≡ true)
        ⊎ (((leads links a link.0 && leads links link.1 b)
        || (leads links a link.1 && leads links link.0 b)) ≡ true) → Way link links a b
    first (inl e) = without e
    first (inr e) = second (or_cases (leads links a link.0 && leads links link.1 b) (leads links a link.1 && leads links link.0 b) e)

pub leads_by : (link : Pair) (links : List Pair) (a b : Word) → Way link links a b → leads (link ∷ links) a b ≡ true
leads_by link links a b (without e) =
    or_left (leads links a b)
    ((leads links a link.0 && leads links link.1 b)
    || (leads links a link.1 && leads links link.0 b)) e
leads_by link links a b (forth e f) =
    or_right (leads links a b) ((leads links a link.0 && leads links link.1 b) || (leads links a link.1 && leads links link.0 b))
    (or_left (leads links a link.0 && leads links link.1 b)
    (leads links a link.1 && leads links link.0 b)
    (and_from (leads links a link.0) (leads links link.1 b) e f))
leads_by link links a b (back e f) =
    or_right (leads links a b) ((leads links a link.0 && leads links link.1 b) || (leads links a link.1 && leads links link.0 b))
    (or_right (leads links a link.0 && leads links link.1 b)
    (leads links a link.1 && leads links link.0 b)
    (and_from (leads links a link.1) (leads links link.0 b) e f))

pub leads_self : (links : List Pair) (a : Word) → leads links a a ≡ true
leads_self [] a = same_self a
leads_self (link ∷ links) a = leads_by link links a a (without (leads_self links a))

forth_here : (link : Pair) (links : List Pair) (a b c : Word) → link ≡ (a, b) → Way link links b c → Way link links a c
forth_here link links a b c e (without q) =
    forth (ap (leads links a) (ap (λ (p : Pair). p.0) e) ∙ leads_self links a)
    (ap (λ (p : Pair). leads links p.1 c) e ∙ q)
forth_here link links a b c e (forth q r) = forth (ap (leads links a) (ap (λ (p : Pair). p.0) e) ∙ leads_self links a) r
forth_here link links a b c e (back q r) = without (ap (λ (p : Pair). leads links p.0 c) (sym e) ∙ r)

back_here : (link : Pair) (links : List Pair) (a b c : Word) → link ≡ (b, a) → Way link links b c → Way link links a c
back_here link links a b c e (without q) =
    back (ap (leads links a) (ap (λ (p : Pair). p.1) e) ∙ leads_self links a)
    (ap (λ (p : Pair). leads links p.0 c) e ∙ q)
back_here link links a b c e (forth q r) = without (ap (λ (p : Pair). leads links p.1 c) (sym e) ∙ r)
back_here link links a b c e (back q r) = back (ap (leads links a) (ap (λ (p : Pair). p.1) e) ∙ leads_self links a) r

on : (link : Pair) (links : List Pair) (a b c : Word)
    → ((d : Word) → leads links b d ≡ true → leads links a d ≡ true) → Way link links b c
    → Way link links a c
on link links a b c step (without q) = without (step c q)
on link links a b c step (forth q r) = forth (step link.0 q) r
on link links a b c step (back q r) = back (step link.1 q) r

pub leads_forth : (links : List Pair) (a b c : Word) → Has links (a, b) → leads links b c ≡ true → leads links a c ≡ true
leads_forth [] a b c h p = absurd h
leads_forth (link ∷ links) a b c (inl e) p = leads_by link links a c (forth_here link links a b c e (way link links b c p))
leads_forth (link ∷ links) a b c (inr h) p =
    leads_by link links a c
    (on link links a b c (λ d q. leads_forth links a b d h q) (way link links b c p))

pub leads_back : (links : List Pair) (a b c : Word) → Has links (b, a) → leads links b c ≡ true → leads links a c ≡ true
leads_back [] a b c h p = absurd h
leads_back (link ∷ links) a b c (inl e) p = leads_by link links a c (back_here link links a b c e (way link links b c p))
leads_back (link ∷ links) a b c (inr h) p =
    leads_by link links a c
    (on link links a b c (λ d q. leads_back links a b d h q) (way link links b c p))
