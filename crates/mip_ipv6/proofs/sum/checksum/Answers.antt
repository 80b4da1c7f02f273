use Rattle.std.proofs.Common.{◌≡◌, ℕ, ◌-◌, IsTrue, subst, refl}
use Rattle.mip_ipv6.specs.Sum.{is_right_sum, with_number_at, checksum_of}
use Rattle.mip_ipv6.proofs.Sums.{checksum_is, checksum_whole}
use Rattle.mip_ipv6.proofs.sum.checksum.Goals as goal

pub returns-clause-whole : goal.returns-clause-whole
returns-clause-whole c =
    let a = c.args in
    let value : checksum_of a.source a.destination a.proto a.body.now a.at ≡ 65535 - c.fold.result =
    rw (checksum_is a.source a.destination a.proto a.at a.body.now c.requires.inside, c.fold.ensures, c.pseudo_sum.ensures.value, c.zeroed_sum.ensures.value) refl in
    let P : ℕ → Type 0 = λ n. IsTrue (is_right_sum a.source a.destination a.proto (with_number_at a.at n a.body.now)) in
    subst P value (checksum_whole a.source a.destination a.proto a.at a.body.now c.requires.even c.requires.inside)
