-- An advertisement that a home agent hears leaves no answer.
use Rattle.std.proofs.Common.{◌≡◌, ℕ, [], List, ap}
use Rattle.mip_words.specs.declared.address.Address.{Address}
use Rattle.mip_entries.proofs.TransitionLaws.{noted-steps}
use Rattle.mip_rules_agent.specs.declared.identity.Identity.{Identity}
use Rattle.mip_rules_agent.specs.Known.{Known}
use Rattle.mip_rules_agent.specs.Calls as calls
use Rattle.mip_rules_agent.specs.Steps.{Step, Called, answers_of}
use Rattle.mip_rules_agent.specs.Questions.{after}
use Rattle.mip_rules_agent.specs.Transitions.{begun}
use Rattle.mip_rules_agent.specs.Doing.{does, transition_of}

pub silent : (me : Identity) (k : Known) (now : ℕ) (agent : Address) (preference life : ℕ) → answers_of (transition_of me k now (calls.Hear agent preference life)).steps ≡ []
unfolding does
silent me k now agent preference life = ap (λ (steps : List Step). answers_of steps) (noted-steps after (Called (calls.Hear agent preference life)) (begun now k))
