use Rattle.std.proofs.Common.{subst, sym, arith, ◌∙◌, ap}
use Rattle.bsdl_strings.specs.Pieces.{pieces}
use Rattle.bsdl_strings.specs.Strings.{IsNoListOf}
use Rattle.bsdl_strings.specs.Faults.{stop_fault, NamesEntry}
use Rattle.bsdl_strings.specs.inner.Takes.{can_all}
use Rattle.bsdl_strings.proofs.Lists.{few_entries, wrong_in_entry, wrong_in_mark, is_list, another_entry, fewer_pieces}
use Rattle.bsdl_strings.proofs.listed.all_entries.Goals as goal

pub fault-requires : goal.fault-requires
fault-requires g c =
    omega (
      arith,
      c.len.ensures,
      c.entries.entries.ok,
      few_entries c.args.text.now c.entries.rest.now c.entries.entries.items c.entries.invariant
          c.requires,
    )

pub returns-in-Err-clause-fault : goal.returns-in-Err-clause-fault
returns-in-Err-clause-fault g c =
    let wrong = wrong_in_entry (can_all g.met.T.Listed.takes) c.args.text.now (pieces c.entries.rest.now)
    c.entries.entries.items c.in-Err.stop c.entries.invariant c.in-Err.ensures in
    subst (NamesEntry (IsNoListOf g.T.Listed.grammar c.args.text.now))
    (sym
    (c.fault.ensures ∙ ap (stop_fault c.in-Err.stop) (c.len.ensures ∙ c.entries.entries.ok.0)))
    wrong

pub fault-requires-in-Err-comma : goal.fault-requires-in-Err-comma
fault-requires-in-Err-comma g c =
    omega (
      arith,
      c.len-in-Err-comma.ensures,
      c.entries.entries.ok,
      few_entries c.args.text.now c.entries.rest.now c.entries.entries.items c.entries.invariant
          c.requires,
    )

pub returns-in-Err-comma-clause-fault : goal.returns-in-Err-comma-clause-fault
returns-in-Err-comma-clause-fault g c =
    let wrong = wrong_in_mark (can_all g.met.T.Listed.takes) c.args.text.now (pieces c.entries.rest.now)
    (pieces c.in-Ok.found.1.now) c.entries.entries.items c.in-Ok.found.0 c.in-Err-comma.stop
    c.entries.invariant c.in-Ok.ensures c.in-Err-comma.ensures in
    subst (NamesEntry (IsNoListOf g.T.Listed.grammar c.args.text.now))
    (sym
    (c.fault-in-Err-comma.ensures
    ∙ ap (stop_fault c.in-Err-comma.stop)
    (c.len-in-Err-comma.ensures ∙ c.entries.entries.ok.0))) wrong

pub returns-in-None-clause-value : goal.returns-in-None-clause-value
returns-in-None-clause-value g c =
    is_list (can_all g.met.T.Listed.takes) c.args.text.now (pieces c.entries.rest.now) (pieces c.in-Ok.found.1.now)
    c.entries.entries.items c.push.new.self.items c.in-Ok.found.0 c.in-Ok-comma.more
    c.entries.invariant
    c.in-Ok.ensures c.in-Ok-comma.ensures c.in-None.is c.in_ok-push-in-Ok-comma.ensures.items

pub entries-preserved : goal.entries-preserved
entries-preserved g c =
    another_entry (can_all g.met.T.Listed.takes) c.args.text.now (pieces c.entries.rest.now)
    (pieces c.in-Ok.found.1.now) c.entries.entries.items c.push.new.self.items c.in-Ok.found.0
    c.in-Ok-comma.more c.in-Some.next c.entries.invariant
    c.in-Ok.ensures c.in-Ok-comma.ensures c.in-Some.is c.in_ok-push-in-Ok-comma.ensures.items

pub entries-smaller : goal.entries-smaller
entries-smaller g c =
    fewer_pieces {entry = g.T.Listed.grammar} (can_all g.met.T.Listed.takes) (pieces c.entries.rest.now) (pieces c.in-Ok.found.1.now)
    c.entries.entries.items c.in-Ok.found.0 c.in-Ok-comma.more c.in-Some.next c.in-Ok.ensures
    c.in-Ok-comma.ensures c.in-Some.is
