-- Lemmas about commands with their texts.
use Rattle.std.proofs.Common.{◌≡◌, ℕ, List, [], ◌∷◌, length, Option, Some, None, refl, subst, arith}
use Rattle.command_line.specs.declared.command.Command.TheVariants.{Chain, Ident, Device, Cover, Svf, Walk, Make, Diagnose, Groups, Batch}
use Rattle.command_line.specs.Words.{Text, BoardNames, ChainNames, LogNames, Command, names_in_command}
use Rattle.commands.specs.Requests.{Request, board_texts, chain_texts, log_texts, request_of}

pub same_request : {a b : Request} → ◌≡◌ {A = Option Request} (Some a) (Some b) → a ≡ b
same_request e = cc

none_made : {a : Request} → ◌≡◌ {A = Option Request} None (Some a) → ⊥
none_made e = cc e

-- If P holds for each kind of command, its texts and the request that they make, P holds for every command and texts that make a request.
module _ (P : Command → List Text → Request → Type 0)
    (of_chain : (names : ChainNames) (chain : Text) (bsdl : List Text)
    → P (Chain names) (chain ∷ bsdl) (Chain (chain_texts chain bsdl)))
    (of_ident : (names : ChainNames) (chain : Text) (bsdl : List Text)
    → P (Ident names) (chain ∷ bsdl) (Ident (chain_texts chain bsdl)))
    (of_device : (name bsdl : Text) → P (Device name) (bsdl ∷ []) (Device bsdl))
    (of_cover : (names : BoardNames) (chain nets : Text) (bsdl : List Text)
    → P (Cover names) (chain ∷ nets ∷ bsdl) (Cover (board_texts chain nets bsdl)))
    (of_svf : (names : BoardNames) (chain nets : Text) (bsdl : List Text)
    → P (Svf names) (chain ∷ nets ∷ bsdl) (Svf (board_texts chain nets bsdl)))
    (of_walk : (names : BoardNames) (chain nets : Text) (bsdl : List Text)
    → P (Walk names) (chain ∷ nets ∷ bsdl) (Walk (board_texts chain nets bsdl)))
    (of_make : (parts : ℕ) (texts : List Text) → P (Make parts) texts (Make parts))
    (of_diagnose : (workers : ℕ) (names : LogNames) (log chain nets : Text)
    (bsdl : List Text)
    → P (Diagnose workers names) (log ∷ chain ∷ nets ∷ bsdl)
    (Diagnose workers (log_texts log chain nets bsdl)))
    (of_groups : (names : LogNames) (log chain nets : Text) (bsdl : List Text)
    → P (Groups names) (log ∷ chain ∷ nets ∷ bsdl)
    (Groups (log_texts log chain nets bsdl)))
    (of_batch : (workers : ℕ) (names : LogNames) (log chain nets : Text)
    (bsdl : List Text)
    → P (Batch workers names) (log ∷ chain ∷ nets ∷ bsdl)
    (Batch workers (log_texts log chain nets bsdl))) where
  pub by_request : (command : Command) (texts : List Text) (made : Request) → request_of command texts ≡ Some made → P command texts made
  by_request (Chain names) [] made e = absurd (none_made e)
  by_request (Chain names) (chain ∷ bsdl) made e = subst (P (Chain names) (chain ∷ bsdl)) (same_request e) (of_chain names chain bsdl)
  by_request (Ident names) [] made e = absurd (none_made e)
  by_request (Ident names) (chain ∷ bsdl) made e = subst (P (Ident names) (chain ∷ bsdl)) (same_request e) (of_ident names chain bsdl)
  by_request (Device name) [] made e = absurd (none_made e)
  by_request (Device name) (bsdl ∷ []) made e = subst (P (Device name) (bsdl ∷ [])) (same_request e) (of_device name bsdl)
  by_request (Device name) (bsdl ∷ other ∷ others) made e = absurd (none_made e)
  by_request (Cover names) [] made e = absurd (none_made e)
  by_request (Cover names) (chain ∷ []) made e = absurd (none_made e)
  by_request (Cover names) (chain ∷ nets ∷ bsdl) made e =
      subst (P (Cover names) (chain ∷ nets ∷ bsdl)) (same_request e)
      (of_cover names chain nets bsdl)
  by_request (Svf names) [] made e = absurd (none_made e)
  by_request (Svf names) (chain ∷ []) made e = absurd (none_made e)
  by_request (Svf names) (chain ∷ nets ∷ bsdl) made e =
      subst (P (Svf names) (chain ∷ nets ∷ bsdl)) (same_request e) (of_svf names chain nets bsdl)
  by_request (Walk names) [] made e = absurd (none_made e)
  by_request (Walk names) (chain ∷ []) made e = absurd (none_made e)
  by_request (Walk names) (chain ∷ nets ∷ bsdl) made e =
      subst (P (Walk names) (chain ∷ nets ∷ bsdl)) (same_request e) (of_walk names chain nets bsdl)
  by_request (Make parts) texts made e = subst (P (Make parts) texts) (same_request e) (of_make parts texts)
  by_request (Diagnose workers names) [] made e = absurd (none_made e)
  by_request (Diagnose workers names) (log ∷ []) made e = absurd (none_made e)
  by_request (Diagnose workers names) (log ∷ chain ∷ []) made e = absurd (none_made e)
  by_request (Diagnose workers names) (log ∷ chain ∷ nets ∷ bsdl) made e =
      subst (P (Diagnose workers names) (log ∷ chain ∷ nets ∷ bsdl)) (same_request e)
      (of_diagnose workers names log chain nets bsdl)
  by_request (Groups names) [] made e = absurd (none_made e)
  by_request (Groups names) (log ∷ []) made e = absurd (none_made e)
  by_request (Groups names) (log ∷ chain ∷ []) made e = absurd (none_made e)
  by_request (Groups names) (log ∷ chain ∷ nets ∷ bsdl) made e =
      subst (P (Groups names) (log ∷ chain ∷ nets ∷ bsdl)) (same_request e)
      (of_groups names log chain nets bsdl)
  by_request (Batch workers names) [] made e = absurd (none_made e)
  by_request (Batch workers names) (log ∷ []) made e = absurd (none_made e)
  by_request (Batch workers names) (log ∷ chain ∷ []) made e = absurd (none_made e)
  by_request (Batch workers names) (log ∷ chain ∷ nets ∷ bsdl) made e =
      subst (P (Batch workers names) (log ∷ chain ∷ nets ∷ bsdl)) (same_request e)
      (of_batch workers names log chain nets bsdl)

-- The command and these texts make a request. They do if there are as many texts as the command has file names.
abbrev pub MakesRequest : Command → List Text → Type 0
MakesRequest command texts = (made : Request) × (request_of command texts ≡ Some made)

pub some_request : (command : Command) (texts : List Text) → length texts ≡ length (names_in_command command) → MakesRequest command texts
some_request (Chain names) [] count = absurd (omega (arith, count))
some_request (Chain names) (chain ∷ bsdl) count = (Chain (chain_texts chain bsdl), refl)
some_request (Ident names) [] count = absurd (omega (arith, count))
some_request (Ident names) (chain ∷ bsdl) count = (Ident (chain_texts chain bsdl), refl)
some_request (Device name) [] count = absurd (omega (arith, count))
some_request (Device name) (bsdl ∷ []) count = (Device bsdl, refl)
some_request (Device name) (bsdl ∷ other ∷ others) count = absurd (omega (arith, count))
some_request (Cover names) [] count = absurd (omega (arith, count))
some_request (Cover names) (chain ∷ []) count = absurd (omega (arith, count))
some_request (Cover names) (chain ∷ nets ∷ bsdl) count = (Cover (board_texts chain nets bsdl), refl)
some_request (Svf names) [] count = absurd (omega (arith, count))
some_request (Svf names) (chain ∷ []) count = absurd (omega (arith, count))
some_request (Svf names) (chain ∷ nets ∷ bsdl) count = (Svf (board_texts chain nets bsdl), refl)
some_request (Walk names) [] count = absurd (omega (arith, count))
some_request (Walk names) (chain ∷ []) count = absurd (omega (arith, count))
some_request (Walk names) (chain ∷ nets ∷ bsdl) count = (Walk (board_texts chain nets bsdl), refl)
some_request (Make parts) texts count = (Make parts, refl)
some_request (Diagnose workers names) [] count = absurd (omega (arith, count))
some_request (Diagnose workers names) (log ∷ []) count = absurd (omega (arith, count))
some_request (Diagnose workers names) (log ∷ chain ∷ []) count = absurd (omega (arith, count))
some_request (Diagnose workers names) (log ∷ chain ∷ nets ∷ bsdl) count = (Diagnose workers (log_texts log chain nets bsdl), refl)
some_request (Groups names) [] count = absurd (omega (arith, count))
some_request (Groups names) (log ∷ []) count = absurd (omega (arith, count))
some_request (Groups names) (log ∷ chain ∷ []) count = absurd (omega (arith, count))
some_request (Groups names) (log ∷ chain ∷ nets ∷ bsdl) count = (Groups (log_texts log chain nets bsdl), refl)
some_request (Batch workers names) [] count = absurd (omega (arith, count))
some_request (Batch workers names) (log ∷ []) count = absurd (omega (arith, count))
some_request (Batch workers names) (log ∷ chain ∷ []) count = absurd (omega (arith, count))
some_request (Batch workers names) (log ∷ chain ∷ nets ∷ bsdl) count = (Batch workers (log_texts log chain nets bsdl), refl)
