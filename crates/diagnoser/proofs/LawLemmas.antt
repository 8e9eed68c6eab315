-- Lemmas which say that the laws of diagnoses follow from the definitions of diagnoses.
use Rattle.std.proofs.Common.{◌≡◌, Bool, List, [], sym, ap, ◌∙◌}
use Rattle.std.specs.Bool.{one_answer}
use Rattle.board_defs.specs.declared.board.RawBoard.{RawBoard}
use Rattle.board_defs.specs.declared.fault.Single.{Single}
use Rattle.board_defs.specs.Faults.{singles, IsSingle, SinglePrecedes}
use Rattle.board_defs.specs.Laws.{SinglesListed}
use Rattle.board_defs.specs.BoardRules.{IsBoard}
use Rattle.board_defs.proofs.Members.{has_contains, contains_has}
use Rattle.board_defs.proofs.Ordered.{order_pairs, pairs_order}
use Rattle.tap_defs.specs.board.BoardScans.{svf_row_scans}
use Rattle.tap_defs.specs.board.Explaining.{set_of, ExplainedBy, Explains}
use Rattle.tap_defs.specs.board.FaultSet.{FaultSet, IsObservable, IsNonempty}
use Rattle.diagnoser.specs.Diagnosis.{AreExplaining}
use Rattle.diagnoser.specs.DiagText.{diag_text}
use Rattle.diagnoser.specs.Laws.{ListsExplaining, OneList, OneDiagnosis}
use Rattle.diagnoser.proofs.ThoseLemmas.{those_hold, hold_those, those_one, those_order, those_none}

pub one_list : OneList
one_list board log faults others first second = those_one (λ single. Explains board single log) (singles board) faults others first second

pub one_diagnosis : OneDiagnosis
one_diagnosis board log text other first second =
    first.is_text
    ∙ (ap (λ (b : Bool). diag_text board b first.faults) (one_answer first.pass second.pass first.passes second.passes)
    ∙
    (ap (λ (l : List Single). diag_text board second.pass l)
    (one_list board log first.faults second.faults first.explaining second.explaining) ∙ sym
    second.is_text))

module _ (listed : SinglesListed) (board : RawBoard) (log : List (List Bool)) (faults : List Single)
    (rules : IsBoard board) (explaining : AreExplaining board log faults) where
  abbrev Explaining : Single → Type 0
  Explaining single = Explains board single log

  pub explaining_listed : ListsExplaining board log faults
  explaining_listed = record {
    exactly = λ single. (
      (λ has. let r = those_hold Explaining (singles board) faults single explaining
          (contains_has faults single has) in
          (((listed board rules).exactly single).0 (has_contains (singles board) single r.0), r.1)),
      (λ h. has_contains faults single
          (hold_those Explaining (singles board) faults single explaining
          (contains_has (singles board) single (((listed board rules).exactly single).1 h.0))
          h.1)),
    );
    in_order =
        order_pairs SinglePrecedes faults
        (those_order Explaining SinglePrecedes (singles board) faults
        (pairs_order SinglePrecedes (singles board) (listed board rules).in_order) explaining);
  }

  -- if no nonempty set of observable faults explains a log, no single fault explains it
  pub passing_unexplained :
      ((single : Single) → IsSingle board single → IsObservable board (set_of single))
      → ((single : Single) → IsNonempty (set_of single)) →
      ((faults : FaultSet) → IsObservable board faults → IsNonempty faults
      → ExplainedBy board faults (svf_row_scans board) log → ⊥) → faults ≡ []
  passing_unexplained observable nonempty unexplained =
      those_none Explaining (singles board) faults
      (λ single has explains. unexplained (set_of single)
      (observable single
      (((listed board rules).exactly single).0 (has_contains (singles board) single has)))
      (nonempty single) explains) explaining
