use Rattle.mip_hub.proofs.HubRules.{claimed, released}
use Rattle.mip_hub.proofs.laws.last_lines_count.Goals as goal

pub returns-clause-claim : goal.returns-clause-claim
returns-clause-claim c = claimed

pub returns-clause-release : goal.returns-clause-release
returns-clause-release c = released
