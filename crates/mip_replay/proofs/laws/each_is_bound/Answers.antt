use Rattle.mip_replay.proofs.BindingLaws.{bound_of_content}
use Rattle.mip_replay.proofs.laws.each_is_bound.Goals as goal

pub returns : goal.returns
returns c = bound_of_content (record { held = c.held_was_accepted.ensures.held; under = c.held_was_accepted.ensures.under }) c.accepted_was_handed.ensures
