use Rattle.std.proofs.Common.{◌≤◌, length, List, ℕ, sym, subst, ◌∙◌}
use Rattle.mip_mobile_registration.proofs.HomeShows.{ask-short}
use Rattle.mip_mobile_registration.proofs.packets.write_discovery.Goals as goal

pub write_data_packet-requires-clause-short : goal.write_data_packet-requires-clause-short
write_data_packet-requires-clause-short c =
    subst (λ (b : List ℕ). length b ≤ 2048) (sym (c.as_slice.ensures ∙ c.in_ok-body.ensures.canonical)) (ask-short c.args.careof c.agents_of-agents.result c.args.identifier)
