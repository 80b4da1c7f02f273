-- A call as a transition: what it shows, and what it leaves.
use Rattle.std.proofs.Common.{◌≡◌, ℕ, List, [], ◌∷◌, ◌++◌, refl, sym, ap, ◌∙◌, subst}
use Rattle.std.specs.Prelude.{Bool, false, Option}
use Rattle.std.proofs.lemmas.List.{append_assoc, append-nil}
use Rattle.mip_words.specs.declared.address.Address.{Address}
use Rattle.mip_outside.specs.Places.{without_claim}
use Rattle.mip_discovery.specs.Plan.{left_of}
use Rattle.mip_entries.specs.declared.answer.Answer.TheVariants.{Send}
use Rattle.mip_rules_agent.specs.declared.home_row.HomeRow.{HomeRow}
use Rattle.mip_rules_agent.specs.declared.ending.Ending.{Ending}
use Rattle.mip_rules_agent.specs.Messages.{shield_to, prefix_packet}
use Rattle.mip_homeagent.specs.Endings.{homes_released, claims_released, answers_released, answers_told, heard_at, planned_at, given_up}
use Rattle.mip_words.specs.declared.shield.Shield.{Shield}
use Rattle.mip_ipv6.specs.Reading.{packet_of}
use Rattle.mip_outside.specs.declared.claim.Claim.{Claim}
use Rattle.mip_entries.specs.declared.answer.Answer.{Answer}
use Rattle.mip_entries.proofs.TransitionLaws.{noted_all-is}
use Rattle.mip_rules_agent.specs.Known.{Known}
use Rattle.mip_rules_agent.specs.Calls as calls
use Rattle.mip_rules_agent.specs.Calls.{Call}
use Rattle.mip_rules_agent.specs.Steps.{Called, Sends, Releases, Rang, answer_of, answers_of}
use Rattle.mip_rules_agent.specs.Questions.{holding, with_served, due_ends, rows_at, valid_at, preferred_at, after}
use Rattle.mip_rules_agent.specs.Claims.{claims_by}
use Rattle.mip_rules_agent.specs.Transitions.{Transition, begun, noted}
use Rattle.mip_rules_agent.specs.Rules.{advertises, receives}
use Rattle.mip_rules_agent.specs.Doing.{takes, releases_all, ticks, advertises_all, plans, handing, does}
use Rattle.mip_rules_agent.specs.Seen.{AgentSeen, transition_at, called}
use Rattle.mip_homeagent.specs.declared.change.Change.{Change}
use Rattle.mip_homeagent.specs.Changes.{Claiming, unclaimed, with_change, claims_with}
use Rattle.mip_homeagent.specs.Showing.{Shows, Leads, opened}
use Rattle.mip_homeagent.proofs.ShowingLaws.{shown, sent, shows_begun, shows-answers, shows-known}

-- what a call ends with
pub record Ends (old new : AgentSeen) (answers : List Answer) (now : ℕ) (c : Call) (claiming : Claiming) : Type 0 where
  pub answered : answers ≡ answers_of (transition_at old now c).steps
  pub after : new ≡ called old now c
  pub claimed : (claims : ℕ → Bool) → claims_by (transition_at old now c).steps claims ≡ claiming claims

-- a call ends with what its transition shows
pub ends_shown : (old new : AgentSeen) (now : ℕ) (c : Call) (k : Known) (claiming : Claiming) (answers : List Answer) → Shows now k claiming answers (transition_at old now c)
    → new ≡ record { identity = old.identity; known = k } → Ends old new answers now c claiming
ends_shown old new now c k claiming answers shows is = record {
  answered = sym (shows-answers now k claiming answers (transition_at old now c) shows);
  after = is ∙ ap (λ (k : Known). record { identity = old.identity; known = k }) (sym (shows-known now k claiming answers (transition_at old now c) shows));
  claimed = shows.1;
}

-- a packet that is handed over
pub take_shown : (s : AgentSeen) (now number : ℕ) (shield : Option Shield) (bytes : List ℕ) (claim : Claim) (change : Option Change) (answers : List Answer)
    → Leads (receives (handing s.identity now (opened now s.known) number shield bytes claim) (packet_of bytes)) now (opened now s.known) answers change
    → Shows now (with_change change (opened now s.known)) (claims_with change) answers (transition_at s now (calls.Take number shield bytes claim))
unfolding does takes after
take_shown s now number shield bytes claim change answers leads =
    let c : Call = calls.Take number shield bytes claim in
    let t : Transition = noted (Called c) (begun now s.known) in
    subst (λ (u : Transition). Shows now (with_change change (opened now s.known)) (claims_with change) answers (receives (handing s.identity u.now u.known number shield bytes claim) (packet_of bytes) t))
    (sym (noted_all-is after (Called c ∷ []) (begun now s.known)))
    (leads t (shows_begun c now s.known))

-- each registered home is told of the prefix
pub told : (own : Address) (k : Known) (now : ℕ) (rows : List HomeRow) (known : Known) (claiming : Claiming) (old : List Answer) (t : Transition) → Shows now known claiming old t
    → Shows now known claiming (old ++ answers_told own (valid_at k now) (preferred_at k now) rows) (advertises_all own k now rows t)
unfolding advertises
told own k now [] known claiming old t s = subst (λ (l : List Answer). Shows now known claiming l t) (sym (append-nil old)) s
told own k now (r ∷ rows) known claiming old t s =
    let packet = prefix_packet own r.home r.careof 0 (valid_at k now) (preferred_at k now) in
    let answer : List Answer = Send (shield_to own r.home) packet ∷ [] in
    let u : Transition = noted (Sends (shield_to own r.home) packet) t in
    subst (λ (l : List Answer). Shows now known claiming l (advertises_all own k now rows u)) (append_assoc old answer (answers_told own (valid_at k now) (preferred_at k now) rows))
    (told own k now rows known claiming (old ++ answer) u (sent (shield_to own r.home) packet old (old ++ answer) refl now known claiming t s))

-- a plan
pub plan_shown : (s : AgentSeen) (now valid preferred : ℕ)
    → Shows now (planned_at now (record { valid = valid; preferred = preferred; since = record { 0 = now } }) s.known) unclaimed
    (answers_told s.identity.own (left_of valid now now) (left_of preferred now now) (rows_at now s.known.homes)) (transition_at s now (calls.Plan valid preferred))
unfolding does plans after
plan_shown s now valid preferred =
    let c : Call = calls.Plan valid preferred in
    let t : Transition = noted (Called c) (begun now s.known) in
    let k : Known = after s.known (record { at = now; step = Called c }) in
    subst (λ (u : Transition). Shows now k unclaimed (answers_told s.identity.own (left_of valid now now) (left_of preferred now now) (rows_at now s.known.homes)) (advertises_all s.identity.own u.known u.now (rows_at u.now u.known.homes) t))
    (sym (noted_all-is after (Called c ∷ []) (begun now s.known)))
    (told s.identity.own k now (rows_at now s.known.homes) k unclaimed [] t (shows_begun c now s.known))

-- an advertisement of another agent
pub hear_shown : (s : AgentSeen) (now : ℕ) (agent : Address) (preference life : ℕ) → Shows now (heard_at now (calls.Hear agent preference life) s.known) unclaimed [] (transition_at s now (calls.Hear agent preference life))
unfolding does after
hear_shown s now agent preference life = shows_begun (calls.Hear agent preference life) now s.known

-- ends that are due
released : (es : List Ending) (now : ℕ) (known : Known) (claiming : Claiming) (old : List Answer) (t : Transition) → Shows now known claiming old t
    → Shows now (record { last = known.last; homes = homes_released es known.homes; ends = known.ends; agents = known.agents; plan = known.plan }) (λ claims. claims_released es (claiming claims))
    (old ++ answers_released es) (releases_all es t)
unfolding after
released [] now known claiming old t s = subst (λ (l : List Answer). Shows now known claiming l t) (sym (append-nil old)) s
released (e ∷ es) now known claiming old t s =
    let u : Transition = noted (Releases e.home) t in
    let next : Known = record { last = known.last; homes = with_served (holding false) e.home known.homes; ends = known.ends; agents = known.agents; plan = known.plan } in
    let last : Known = record { last = known.last; homes = homes_released es next.homes; ends = known.ends; agents = known.agents; plan = known.plan } in
    subst (λ (l : List Answer). Shows now last (λ claims. claims_released es (without_claim e.home.0 (claiming claims))) l (releases_all es u)) (append_assoc old (answer_of (Releases e.home)) (answers_released es))
    (released es now next (λ claims. without_claim e.home.0 (claiming claims)) (old ++ answer_of (Releases e.home)) u (shown (Releases e.home) now known claiming old (old ++ answer_of (Releases e.home)) t refl s))

pub tick_shown : (s : AgentSeen) (now : ℕ)
    → Shows now (given_up now (due_ends now s.known.ends) s.known) (claims_released (due_ends now s.known.ends)) (answers_released (due_ends now s.known.ends)) (transition_at s now calls.Tick)
unfolding does ticks after
tick_shown s now =
    let t : Transition = noted (Called calls.Tick) (begun now s.known) in
    let due = due_ends now s.known.ends in
    let gone = released due now (after s.known (record { at = now; step = Called calls.Tick })) unclaimed [] t (shows_begun calls.Tick now s.known) in
    let known : Known = record { last = now; homes = homes_released due s.known.homes; ends = s.known.ends; agents = s.known.agents; plan = s.known.plan } in
    subst (λ (u : Transition). Shows now (given_up now due s.known) (claims_released due) (answers_released due) (noted Rang (releases_all (due_ends u.now u.known.ends) t)))
    (sym (noted_all-is after (Called calls.Tick ∷ []) (begun now s.known)))
    (shown Rang now known (claims_released due) (answers_released due) (answers_released due) (releases_all due t) (sym (append-nil (answers_released due))) gone)
