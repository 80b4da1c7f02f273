use Rattle.std.proofs.Common.{ℕ, List, [], map, ap, ◌∙◌}
use Rattle.mip_history.specs.Runs.{Run}
use Rattle.mip_history.specs.Permitted.{claims_from}
use Rattle.mip_afresh.specs.Tellings.{TellingSeen, host_seen, pasts_of}
use Rattle.mip_afresh.proofs.Openings.{fresh_agents, fresh_mobiles, opened_so}
use Rattle.mip_afresh.proofs.telling.Telling.new.Goals as goal

pub returns : goal.returns
returns c =
    let s = c.args.setting in
    ap (λ (run : Run). let t : TellingSeen = record { setup = s; run = run } in t)
    (opened_so s _ _ _ _ _ _ (c.in_ok-past.ensures ∙ ap (λ (l : List ℕ). claims_from l [] (map host_seen c.few_hosts.result.list.now)) c.few_links.ensures ∙ ap (claims_from s.links []) c.few_hosts.ensures) (ap (pasts_of s) c.new-3.ensures) (fresh_agents s c.in_ok-roles.roles.items c.in_ok-roles.ensures) (fresh_mobiles s c.in_ok-roles.roles.items c.in_ok-roles.ensures) c.new.ensures c.new-2.ensures.items)
