use Rattle.refusal_lines.proofs.ends.put_too_long.Goals as goal

pub returns : goal.returns
returns g c =
    let named = rw c.as_bytes.ensures.value at c.put_all.ensures in
    let told = rw c.format.ensures.text at (rw c.as_bytes-limit.ensures.value at named) in
    rw c.as_slice-2.ensures at (rw c.as_slice.ensures at told)
