use Rattle.std.proofs.Common.{◌+◌, ap, sym, subst, ◌∙◌, take, drop, filter}
use Rattle.std.specs.Prelude.{◌==◌}
use Rattle.device_check.proofs.ListingLemmas.{split_at_port}
use Rattle.device_check.specs.inner.ListingForms.{Rises}
use Rattle.device_check.proofs.listing.split_port.Goals as goal

pub returns : goal.returns
returns c =
    let bits = c.args.bits.now in
    let port = c.args.port in
    let s = split_at_port port bits c.requires in
    let back = c.split_at.ensures.back ∙ ap (λ n. drop n bits) c.count_bits.ensures.value in
    record {
      own = c.split_at.ensures.front ∙ ap (λ n. take n bits) c.count_bits.ensures.value ∙ s.own;
      rises = subst (Rises (port + 1)) (sym back) s.rises;
      others = λ q less. ap (filter (λ bit. bit.port == q)) back ∙ s.others q less;
    }
