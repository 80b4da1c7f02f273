use Rattle.mip_node.specs.Settings.{said}
use Rattle.mip_node.proofs.Configured.{new_is, new_is_early}
use Rattle.mip_node.proofs.role.new_role.Goals as goal

pub returns-clause-role : goal.returns-clause-role
returns-clause-role c = new_is (said c.args.setting.now) c.new.result _ _ c.address_of-own.ensures c.in_ok-kind.ensures c.new.ensures

pub returns-clause-timely : goal.returns-clause-timely
returns-clause-timely c = new_is_early _ _ _ _ _ c.new.result c.new.ensures
