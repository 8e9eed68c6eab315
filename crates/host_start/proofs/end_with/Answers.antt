use Rattle.std.proofs.Common.{ap}
use Rattle.host_start.proofs.end_with.Goals as goal

pub returns : goal.returns
returns g c = record {
  ended = c.run.result;
  exits = c.number.ensures;
  usage = c.run.ensures.usage;
  no_command = c.run.ensures.words;
  not_asked = λ e. ap g.S.Store.asked (c.run.ensures.not_fetched e);
  usage_noted = c.run.ensures.usage_noted;
  done = c.run.ensures.done;
  silent = c.run.ensures.silent;
  refused = c.run.ensures.refused;
  read = c.run.ensures.read;
  write = c.run.ensures.write;
  cut = c.run.ensures.cut;
  write_noted = c.run.ensures.write_noted;
  memory_noted = c.run.ensures.memory_noted;
  memory_asks = c.run.ensures.memory_asks;
  untouched = c.run.ensures.untouched;
  complete = c.run.ensures.complete;
}
