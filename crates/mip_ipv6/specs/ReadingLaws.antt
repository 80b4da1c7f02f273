-- Laws and invariants of Reading: only proofs stand on them.
use Rattle.mip_ipv6.specs.declared.walked.Walked.{Walked}
use Rattle.mip_ipv6.specs.Reading.{Walk}

abbrev pub walk : Walked → Walk
walk w = record { found = w.found; next = w.next; rest = w.rest.now }
