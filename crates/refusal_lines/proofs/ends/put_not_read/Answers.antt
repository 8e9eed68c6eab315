use Rattle.refusal_lines.proofs.ends.put_not_read.Goals as goal

pub returns : goal.returns
returns g c = rw c.as_bytes.ensures.value at c.put_all.ensures
