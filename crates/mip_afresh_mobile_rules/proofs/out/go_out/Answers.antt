use Rattle.std.proofs.Common.{refl, ap, ◌∙◌, List, ℕ}
use Rattle.mip_ipv6.specs.Reading.{packet_of}
use Rattle.mip_rules_mobile.specs.Sendings.{OfPart, is_mobility}
use Rattle.mip_afresh_mobile_rules.proofs.out.go_out.Goals as goal

pub returns : goal.returns
returns c = c.send_inner.ensures (OfPart c.args.packet) refl (c.is_mobility-signal.ensures ∙ ap (λ (bytes : List ℕ). is_mobility (packet_of bytes)) c.as_slice.ensures)
