-- Roles: a new one knows nothing, and after a call one stands for its past with the call.
use Rattle.std.proofs.Common.{◌≡◌, ℕ, List, [], ◌∷◌, refl, ◌∙◌}
use Rattle.std.specs.Prelude.{Option}
use Rattle.mip_words.specs.declared.address.Address.{Address}
use Rattle.mip_nonce.specs.Secrets.{Life}
use Rattle.mip_entries.specs.Stamped.{Stamped}
use Rattle.mip_entries.specs.Transitions.{StandsBy, known_by}
use Rattle.mip_rules_correspondent.specs.declared.identity.Identity.{Identity}
use Rattle.mip_rules_correspondent.specs.Calls as correspondents
use Rattle.mip_rules_correspondent.specs.Steps.{Step}
use Rattle.mip_rules_correspondent.specs.Questions.{known, fresh}
use Rattle.mip_rules_correspondent.specs.Transitions.{with_transition}
use Rattle.mip_rules_correspondent.specs.Doing.{transition_of}
use Rattle.mip_rules_correspondent.proofs.Pasts.{stands-known, known-stands}
use Rattle.mip_rules_correspondent.proofs.Calls.{call-stands}
use Rattle.mip_rules_agent.specs.declared.identity.Identity as agent
use Rattle.mip_rules_agent.specs.Calls as agents
use Rattle.mip_rules_agent.specs.Steps as agent_steps
use Rattle.mip_rules_agent.specs.Questions as agent_questions
use Rattle.mip_rules_agent.specs.Transitions as agent_transitions
use Rattle.mip_rules_agent.specs.Doing as agent_doing
use Rattle.mip_rules_agent.proofs.Pasts as agent_pasts
use Rattle.mip_rules_agent.proofs.Calls as agent_calls
use Rattle.mip_rules_mobile.specs.Calls as mobiles
use Rattle.mip_rules_mobile.specs.Known.{Known}
use Rattle.mip_rules_mobile.specs.Steps as mobile_steps
use Rattle.mip_rules_mobile.specs.Questions as mobile_questions
use Rattle.mip_rules_mobile.specs.Questions.{after}
use Rattle.mip_rules_mobile.specs.HomeQuestions.{home_of}
use Rattle.mip_rules_mobile.specs.Transitions as mobile_transitions
use Rattle.mip_rules_mobile.specs.Doing as mobile_doing
use Rattle.mip_rules_mobile.proofs.Calls as mobile_calls
use Rattle.mip_rules_mobile.proofs.Told.{home-kept}
use Rattle.mip_history.specs.Setup.{Kind}
use Rattle.mip_history.specs.Setup.Kind.{Correspondent as OfCorrespondent, Agent as OfAgent, Mobile as OfMobile}
use Rattle.mip_roles.specs.Roles.{last_of, new_role}

pub new_last : (seed : List ℕ) (numbers n life : ℕ) (own : Address) (kind : Kind) → last_of (new_role seed numbers n life own kind) ≡ 0
new_last seed numbers n life own (OfCorrespondent room) = refl
new_last seed numbers n life own (OfAgent preference seconds room serves) = refl
new_last seed numbers n life own (OfMobile agent) = refl

-- what a call leaves known is that of the past with it
pub knows_on : (me : Identity) (now room numbers : ℕ) (past : List (Stamped Step)) (call : correspondents.Call)
    → (transition_of me (known room numbers past) now call).known ≡ known room numbers (with_transition past (transition_of me (known room numbers past) now call))
knows_on me now room numbers past call =
    let t = transition_of me (known room numbers past) now call in
    stands-known room numbers (with_transition past t) t.known (call-stands room numbers past (known room numbers past) now me call (known-stands room numbers past (known room numbers past) refl))

agent-stands : (serves : List Address) (past : List (Stamped agent_steps.Step)) → agent_transitions.Stands serves past (agent_questions.known serves past)
unfolding agent_questions.known StandsBy
agent-stands serves past = refl

pub agent_knows_on : (me : agent.Identity) (now : ℕ) (serves : List Address) (past : List (Stamped agent_steps.Step)) (call : agents.Call)
    → (agent_doing.transition_of me (agent_questions.known serves past) now call).known ≡ agent_questions.known serves (agent_transitions.with_transition past (agent_doing.transition_of me (agent_questions.known serves past) now call))
agent_knows_on me now serves past call =
    let k = agent_questions.known serves past in
    let t = agent_doing.transition_of me k now call in
    agent_pasts.stands-known serves (agent_transitions.with_transition past t) t.known (agent_calls.call-stands serves past k now me call (agent-stands serves past))

mobile-stands : (home : Address) (declared : Option Address) (numbers : ℕ) (secrets : Life) (past : List (Stamped mobile_steps.Step)) → mobile_transitions.Stands home declared numbers secrets past (mobile_questions.known home declared numbers secrets past)
unfolding mobile_questions.known StandsBy
mobile-stands home declared numbers secrets past = refl

pub mobile_knows_on : (now : ℕ) (home : Address) (declared : Option Address) (numbers : ℕ) (secrets : Life) (past : List (Stamped mobile_steps.Step)) (call : mobiles.Call)
    → (mobile_doing.transition_of (mobile_questions.known home declared numbers secrets past) now call).known ≡ mobile_questions.known home declared numbers secrets (mobile_transitions.with_transition past (mobile_doing.transition_of (mobile_questions.known home declared numbers secrets past) now call))
mobile_knows_on now home declared numbers secrets past call =
    let k = mobile_questions.known home declared numbers secrets past in
    let t = mobile_doing.transition_of k now call in
    mobile_calls.stands-known home declared numbers secrets (mobile_transitions.with_transition past t) t.known (mobile_calls.call-stands home declared numbers secrets past k now call (mobile-stands home declared numbers secrets past))

-- nothing behind it, each knows what a new one does
pub known_first : (room numbers : ℕ) → known room numbers [] ≡ fresh room numbers
unfolding known
known_first room numbers = refl

pub agent_known_first : (serves : List Address) → agent_questions.known serves [] ≡ agent_questions.fresh serves
unfolding agent_questions.known
agent_known_first serves = refl

pub mobile_known_first : (home : Address) (declared : Option Address) (numbers : ℕ) (secrets : Life) → mobile_questions.known home declared numbers secrets [] ≡ mobile_questions.fresh home declared numbers secrets
unfolding mobile_questions.known
mobile_known_first home declared numbers secrets = refl

-- a mobile keeps its home address through all its lives
home-fold : (k : Known) (past : List (Stamped mobile_steps.Step)) → home_of (known_by after k past) ≡ home_of k
home-fold k [] = refl
home-fold k (s ∷ past) = home-fold (after k s) past ∙ home-kept k s

pub mobile_home : (home : Address) (declared : Option Address) (numbers : ℕ) (secrets : Life) (past : List (Stamped mobile_steps.Step)) → home_of (mobile_questions.known home declared numbers secrets past) ≡ home
unfolding mobile_questions.known
mobile_home home declared numbers secrets past = home-fold (mobile_questions.fresh home declared numbers secrets) past
