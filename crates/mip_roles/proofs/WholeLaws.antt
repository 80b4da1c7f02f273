-- Whatever a role answers is whole.
use Rattle.std.proofs.Common.{◌≡◌, ℕ, List, [], ◌∷◌, ◌++◌, Bool, true, false, refl}
use Rattle.std.specs.Prelude.{Option, Some, None, IfSome, ◌&&◌, ◌||◌, not}
use Rattle.std.specs.List.{AllByRecursion}
use Rattle.mip_words.specs.declared.address.Address.{Address}
use Rattle.mip_ipv6.specs.Packet.{names_no_body}
use Rattle.mip_entries.specs.declared.answer.Answer.{Answer}
use Rattle.mip_entries.specs.declared.answer.Answer.TheVariants.{Send, Note}
use Rattle.mip_entries.specs.declared.entry.Entry.{Entry}
use Rattle.mip_entries.specs.declared.entry.Entry.TheVariants.{Sent, Injected, Heard, Handed}
use Rattle.mip_entries.specs.Wholes as wholes
use Rattle.mip_outside.specs.Places.{Around}
use Rattle.mip_rules_correspondent.specs.Rules.{is_data}
use Rattle.mip_rules_correspondent.specs.Steps as correspondent_steps
use Rattle.mip_rules_correspondent.specs.Seen as correspondents
use Rattle.mip_rules_correspondent.specs.Wholes as correspondent_wholes
use Rattle.mip_rules_correspondent.proofs.Answers as correspondent_answers
use Rattle.mip_rules_agent.specs.Steps as agent_steps
use Rattle.mip_rules_agent.specs.Seen as agents
use Rattle.mip_rules_agent.specs.Wholes as agent_wholes
use Rattle.mip_rules_agent.proofs.Answers as agent_answers
use Rattle.mip_rules_mobile.specs.Known.{Known}
use Rattle.mip_rules_mobile.specs.HomeQuestions.{home_of}
use Rattle.mip_rules_mobile.specs.Steps as mobile_steps
use Rattle.mip_rules_mobile.specs.Questions.{after}
use Rattle.mip_rules_mobile.specs.Doing.{transition_of}
use Rattle.mip_rules_mobile.specs.Answering as answering
use Rattle.mip_rules_mobile.specs.Answering.{EachAnswer, CanBeAsked}
use Rattle.mip_rules_mobile.proofs.Wholes as mobile_wholes
use Rattle.mip_history.specs.Calls.{Call, Take, Send as Sends, Refresh, Tick, Plan, Hear, Attach, Leave, Ask, Restart, for_correspondent, for_agent, for_mobile}
use Rattle.mip_roles.specs.declared.call.Call as asks
use Rattle.mip_roles.specs.declared.call.Call.TheVariants as ask
use Rattle.mip_roles.specs.declared.role.Role.{Role}
use Rattle.mip_roles.specs.declared.role.Role.TheVariants.{Correspondent, Agent, Mobile}
use Rattle.mip_roles.specs.Payloads.{is_payload}
use Rattle.mip_roles.specs.Calls.{asked, IsAskable, CanAsk}
use Rattle.mip_roles.specs.Roles.{or_idle, answers_to}
use Rattle.mip_roles.specs.RolesLaws.{IsWhole, is_apart}

weaker : (P : Answer → Type 0) → ((a : Answer) → P a → IsWhole a) → (answers : List Answer) → AllByRecursion P answers → AllByRecursion IsWhole answers
weaker P f [] all = tt
weaker P f (a ∷ more) all = (f a all.0, weaker P f more all.1)

both : (a b : List Answer) → AllByRecursion IsWhole a → AllByRecursion IsWhole b → AllByRecursion IsWhole (a ++ b)
both [] b first then = then
both (x ∷ a) b first then = (first.0, both a b first.1 then)

-- no role leaves an entry of the network
apart-correspondents : (entry : Entry) → correspondent_wholes.is_own entry ≡ true → is_apart entry ≡ true
apart-correspondents (Sent number node shielded packet) own = absurd cc
apart-correspondents (Injected number outsider link packet) own = absurd cc
apart-correspondents (Heard number outsider) own = absurd cc
apart-correspondents (Handed number node) own = absurd cc
apart-correspondents _ own = refl

apart-agents : (entry : Entry) → agent_wholes.is_own entry ≡ true → is_apart entry ≡ true
apart-agents (Sent number node shielded packet) own = absurd cc
apart-agents (Injected number outsider link packet) own = absurd cc
apart-agents (Heard number outsider) own = absurd cc
apart-agents (Handed number node) own = absurd cc
apart-agents _ own = refl

apart-mobiles : (entry : Entry) → (answering.is_mobiles entry || correspondent_wholes.is_own entry) ≡ true → is_apart entry ≡ true
apart-mobiles (Sent number node shielded packet) own = absurd cc
apart-mobiles (Injected number outsider link packet) own = absurd cc
apart-mobiles (Heard number outsider) own = absurd cc
apart-mobiles (Handed number node) own = absurd cc
apart-mobiles _ own = refl

of-correspondent : (a : Answer) → wholes.IsWhole correspondent_wholes.is_own a → IsWhole a
of-correspondent (Send shield packet) whole = whole
of-correspondent (Note entry) whole = apart-correspondents entry whole

of-agent : (a : Answer) → wholes.IsWhole agent_wholes.is_own a → IsWhole a
of-agent (Send shield packet) whole = whole
of-agent (Note entry) whole = apart-agents entry whole

of-mobile : (k : Known) (a : Answer) → answering.IsWhole k a → IsWhole a
of-mobile k (Send shield packet) whole = whole
of-mobile k (Note entry) whole = apart-mobiles entry whole

each : (now : ℕ) (k : Known) (steps : List mobile_steps.Step) → EachAnswer answering.IsWhole now k steps → AllByRecursion IsWhole (mobile_steps.answers_of steps)
each now k [] all = tt
each now k (step ∷ steps) all =
    both (mobile_steps.answer_of step) (mobile_steps.answers_of steps) (weaker (answering.IsWhole k) (of-mobile k) (mobile_steps.answer_of step) all.0)
    (each now (after k (record { at = now; step = step })) steps all.1)

idle-or : {C : Type 0} (answers : C → List Answer) (o : Option C) (R : C → Type 0) → IfSome o R → ((x : C) → R x → AllByRecursion IsWhole (answers x)) → AllByRecursion IsWhole (or_idle answers o)
idle-or answers None R can whole = (refl, tt)
idle-or answers (Some x) R can whole = whole x can

some : {C : Type 0} (o : Option C) → IfSome o (λ _. Unit {0})
some None = tt
some (Some x) = tt

payload-data : (proto : ℕ) → is_payload proto ≡ true → (is_data proto ≡ true) × (names_no_body proto ≡ false)
payload-data proto is = by (is_data proto) (names_no_body proto) is
  where
    by : (a b : Bool) → (a && not b) ≡ true → (a ≡ true) × (b ≡ false)
    by true false is = (refl, refl)
    by true true is = absurd cc
    by false b is = absurd cc

can-mobile : (around : Around) (home : Address) (call : Call) → CanAsk call → IfSome (for_mobile around home call) CanBeAsked
can-mobile around home (Take number shield packet) can = tt
can-mobile around home (Sends to proto payload) can = payload-data proto can
can-mobile around home (Refresh to) can = tt
can-mobile around home Tick can = tt
can-mobile around home (Plan valid preferred) can = tt
can-mobile around home (Hear agent preference life) can = tt
can-mobile around home (Attach prefix) can = tt
can-mobile around home Leave can = tt
can-mobile around home Ask can = tt
can-mobile around home (Restart secrets) can = tt

-- what is asked as the code asks it can be asked
pub can_ask : (call : asks.Call) → IsAskable call → CanAsk (asked call)
can_ask (ask.Take number shield packet) can = tt
can_ask (ask.Send to proto payload) can = can.0
can_ask (ask.Refresh home) can = tt
can_ask ask.Tick can = tt
can_ask (ask.Plan valid preferred) can = tt
can_ask (ask.Hear agent preference life) can = tt
can_ask (ask.Attach prefix) can = tt
can_ask ask.Leave can = tt
can_ask ask.Ask can = tt
can_ask (ask.Restart secrets) can = tt

pub role_whole : (around : Around) (role : Role) (now : ℕ) (call : Call) → CanAsk call → AllByRecursion IsWhole (answers_to around role now call)
role_whole around (Correspondent c) now call can =
    idle-or (λ x. correspondent_steps.answers_of (correspondents.transition_at c now x).steps) (for_correspondent call) (λ _. Unit {0}) (some (for_correspondent call))
    (λ x _. weaker (wholes.IsWhole correspondent_wholes.is_own) of-correspondent (correspondent_steps.answers_of (correspondents.transition_at c now x).steps) (correspondent_answers.call-whole c.identity c.known now x))
role_whole around (Agent a) now call can =
    idle-or (λ x. agent_steps.answers_of (agents.transition_at a now x).steps) (for_agent around call) (λ _. Unit {0}) (some (for_agent around call))
    (λ x _. weaker (wholes.IsWhole agent_wholes.is_own) of-agent (agent_steps.answers_of (agents.transition_at a now x).steps) (agent_answers.call-whole a.identity a.known now x))
role_whole around (Mobile k) now call can =
    idle-or (λ x. mobile_steps.answers_of (transition_of k now x).steps) (for_mobile around (home_of k) call) CanBeAsked (can-mobile around (home_of k) call can)
    (λ x can. each now k (transition_of k now x).steps (mobile_wholes.call-whole k now x can))
