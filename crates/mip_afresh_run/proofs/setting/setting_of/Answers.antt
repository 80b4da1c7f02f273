use Rattle.std.proofs.Common.{◌≡◌, List, ap, ◌∙◌}
use Rattle.mip_schedule.specs.Schedules.{content}
use Rattle.mip_symbols.specs.declared.declaration.Declaration.{Declaration}
use Rattle.mip_history.specs.Setup.{links_in, hosts_in, outsiders_in}
use Rattle.mip_afresh_run.proofs.SettingLaws.{few_prefixes, few_nodes, same_setting}
use Rattle.mip_afresh_run.proofs.setting.setting_of.Goals as goal

pub invariant_of-result : goal.invariant_of-result
invariant_of-result c =
    let ds : List Declaration = c.args.schedule.now.declarations in
    let are : c.as_slice-ds.result.now ≡ ds = c.as_slice-ds.ensures in
    (few_prefixes ds _ c.few.ensures (c.in_ok-links_in.ensures ∙ ap links_in are), few_nodes ds _ c.few.ensures (c.in_ok-hosts_in.ensures ∙ ap hosts_in are))

pub returns : goal.returns
returns c =
    let ds : List Declaration = c.args.schedule.now.declarations in
    let are : c.as_slice-ds.result.now ≡ ds = c.as_slice-ds.ensures in
    same_setting (content c.args.schedule.now) _ _ _ _ (c.in_ok-links_in.ensures ∙ ap links_in are) (c.in_ok-hosts_in.ensures ∙ ap hosts_in are)
    (c.outsiders_in.ensures ∙ ap outsiders_in c.few_declarations.ensures) c.numbers_of.ensures.value
