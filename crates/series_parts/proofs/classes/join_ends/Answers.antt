-- The higher of two roots gets the lower one as its parent.
use Rattle.std.proofs.Common.{◌≡◌, ◌<◌, length, arith}
use Rattle.series_parts.proofs.RootLemmas.{joined_first, joined_second, joined_same}
use Rattle.series_parts.proofs.classes.join_ends.Goals as goal

pub returns-then-first-second-clause-labels : goal.returns-then-first-second-clause-labels
returns-then-first-second-clause-labels c = λ label h.
    let old_first = c.root-first.ensures.labels label h in
    let old_second = c.root-second.ensures.labels label old_first in
    let first : c.root-first.result ≡ label c.args.a = c.root-first.ensures.root label h in
    let second : c.root-second.result ≡ label c.args.b = c.root-second.ensures.root label old_first in
    let in_first : c.root-first.result
    < length c.root-first.new.parents.items = omega
    (arith, c.root-first.ensures.within, c.root-first.new.parents.ok.0) in
    let in_second : c.root-second.result
    < length c.root-second.new.parents.items = omega
    (arith, c.root-second.ensures.within, c.root-second.new.parents.ok.0) in
    let own_first : label c.root-first.result
    ≡ c.root-first.result = old_first.root c.root-first.result in_first c.root-first.ensures.own
    in
    let own_second : label c.root-second.result
    ≡ c.root-second.result = old_second.root c.root-second.result in_second
    c.root-second.ensures.own in
    joined_second c.root-second.new.parents.items c.args.a c.args.b c.root-first.result
    c.root-second.result label in_second c.if-first-second.true first second own_first
    own_second old_second

pub returns-then-second-first-clause-labels : goal.returns-then-second-first-clause-labels
returns-then-second-first-clause-labels c = λ label h.
    let old_first = c.root-first.ensures.labels label h in
    let old_second = c.root-second.ensures.labels label old_first in
    let first : c.root-first.result ≡ label c.args.a = c.root-first.ensures.root label h in
    let second : c.root-second.result ≡ label c.args.b = c.root-second.ensures.root label old_first in
    let in_first : c.root-first.result
    < length c.root-first.new.parents.items = omega
    (arith, c.root-first.ensures.within, c.root-first.new.parents.ok.0) in
    let in_second : c.root-second.result
    < length c.root-second.new.parents.items = omega
    (arith, c.root-second.ensures.within, c.root-second.new.parents.ok.0) in
    let own_first : label c.root-first.result
    ≡ c.root-first.result = old_first.root c.root-first.result in_first c.root-first.ensures.own
    in
    let own_second : label c.root-second.result
    ≡ c.root-second.result = old_second.root c.root-second.result in_second
    c.root-second.ensures.own in
    let inside : c.root-first.result
    < length c.root-second.new.parents.items = omega (
      arith,
      c.root-first.ensures.within,
      c.root-second.ensures.count,
      c.root-second.new.parents.ok.0,
    ) in
    joined_first c.root-second.new.parents.items c.args.a c.args.b c.root-second.result
    c.root-first.result label inside c.if-second-first.true first second own_second own_first
    old_second

pub returns-else-second-first-clause-labels : goal.returns-else-second-first-clause-labels
returns-else-second-first-clause-labels c = λ label h.
    let old_first = c.root-first.ensures.labels label h in
    let old_second = c.root-second.ensures.labels label old_first in
    let first : c.root-first.result ≡ label c.args.a = c.root-first.ensures.root label h in
    let second : c.root-second.result ≡ label c.args.b = c.root-second.ensures.root label old_first in
    let same : label c.args.a ≡ label c.args.b = omega (arith, first, second, c.if-first-second.false, c.if-second-first.false) in
    joined_same c.root-second.new.parents.items c.args.a c.args.b label same old_second
