use Rattle.std.specs.Prelude.{option_map}
use Rattle.mip_afresh_mobile_state.specs.Trials.{discovery_seen}
use Rattle.mip_rules_mobile.specs.HomeRules.{seeks_again_at, seeks_again}
use Rattle.mip_afresh_mobile_rules.proofs.Asking.{asked}
use Rattle.mip_afresh_mobile_rules.proofs.searching.seek_again.Goals as goal

pub returns : goal.returns
unfolding seeks_again
returns c =
    let turn = c.args.turn.now in
    let discovery = option_map discovery_seen c.discovery-discovery.result in
    asked c.seek_again_at.result turn c.seek_again_at.new.turn (λ k n. k.standing) c.standing-standing.result (λ s t. seeks_again_at s t.known.discovery t) c.standing-standing.ensures
    (asked c.seek_again_at.result turn c.seek_again_at.new.turn (λ k n. k.discovery) discovery (λ d. seeks_again_at c.standing-standing.result d) c.discovery-discovery.ensures
    c.seek_again_at.ensures)
