use Rattle.std.proofs.Common.{◌≡◌, ◌++◌, length}
use Rattle.std.specs.Prelude.{All}
use Rattle.std.specs.List.{flat_map}
use Rattle.std.specs.Vec.Iter.{into_iter_items, into_iter_len}
use Rattle.walk_test.specs.Groups.{Rise}
use Rattle.walk_test.specs.inner.Reading.{where_several}
use Rattle.walk_test.proofs.grouping.groups_among.Given as goal

-- the groups found so far are the lists with two or more nets, of the lists that the loop has handled
abbrev pub invariant-loop-list : goal.invariant-loop-list
invariant-loop-list l = record {
  all : l.yielded ++ into_iter_items l.list-iterator ≡ into_iter_items l.initial.list-iterator;
  count : into_iter_len l.list-iterator ≡ length (into_iter_items l.list-iterator);
  rise : All Rise (into_iter_items l.list-iterator);
  groups : l.groups.items ≡ flat_map where_several l.yielded;
}
