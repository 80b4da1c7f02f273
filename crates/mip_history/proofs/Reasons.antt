-- The reasons in what nodes leave, and the causes in marks.
use Rattle.std.proofs.Common.{◌≡◌, ℕ, List, [], ◌∷◌, ◌++◌, Bool, true, false, refl, arith}
use Rattle.std.specs.Prelude.{Option, Some, None, ◌||◌}
use Rattle.std.specs.List.{AllByRecursion}
use Rattle.std.proofs.lemmas.Bool.{cond_both}
use Rattle.mip_words.specs.declared.address.Address.{Address}
use Rattle.mip_reception.specs.Says.{UpdateIdentity}
use Rattle.mip_entries.specs.declared.answer.Answer.{Answer}
use Rattle.mip_entries.specs.declared.answer.Answer.TheVariants.{Send, Note}
use Rattle.mip_entries.specs.declared.entry.Entry.{Entry}
use Rattle.mip_entries.specs.declared.entry.Entry.TheVariants as entries
use Rattle.mip_entries.specs.Reasons.{is_unsent_why, is_dropped_why}
use Rattle.mip_entries.specs.Wholes.{IsWhole}
use Rattle.mip_provenance.specs.declared.accepted_update.AcceptedUpdate.{AcceptedUpdate}
use Rattle.mip_provenance.specs.declared.mark.Mark.{Mark}
use Rattle.mip_provenance.specs.declared.mark.Mark.TheVariants as marks
use Rattle.mip_provenance.specs.Entries.{declared_in}
use Rattle.mip_provenance.specs.Sights.{Sight, sights}
use Rattle.mip_provenance.specs.Firsts.{Post, post_at, key_at, first_update}
use Rattle.mip_provenance.specs.Pairs.{Pair, gives, pair_by}
use Rattle.mip_provenance.specs.Causes.{Claim, home_claim, careof_claim, is_used_early, is_named_otherwise}
use Rattle.mip_provenance.specs.Marks.{by_claims, by_pair, by_post, by_first, by_key, mark_of, mark_in}
use Rattle.mip_rules_correspondent.specs.Wholes as parts
use Rattle.mip_rules_agent.specs.Wholes as agents
use Rattle.mip_rules_mobile.specs.Calls.{Call}
use Rattle.mip_rules_mobile.specs.Steps.{Step, answer_of, answers_of}
use Rattle.mip_rules_mobile.specs.Known.{Known}
use Rattle.mip_rules_mobile.specs.Questions.{after}
use Rattle.mip_rules_mobile.specs.Doing.{transition_of}
use Rattle.mip_rules_mobile.specs.Answering.{EachAnswer, is_mobiles}
use Rattle.mip_rules_mobile.proofs.Answers.{each-answer}
use Rattle.mip_rules_mobile.proofs.Fits.{call-fits}
use Rattle.mip_history.specs.Naming.{IsCause}

-- an entry has a reason that stands in it, if it has one
abbrev pub HasReason : Entry → Type 0
HasReason (entries.Unsent node why) = is_unsent_why why ≡ true
HasReason (entries.Dropped node number why) = is_dropped_why why ≡ true
HasReason _ = Unit {0}

abbrev pub HasReasons : Answer → Type 0
HasReasons (Send shield packet) = Unit {0}
HasReasons (Note entry) = HasReason entry

part_reason : (e : Entry) → parts.is_own e ≡ true → HasReason e
part_reason (entries.Unsent node why) own = absurd cc
part_reason (entries.Dropped node number why) own = own
part_reason _ own = tt

agent_reason : (e : Entry) → agents.is_own e ≡ true → HasReason e
agent_reason (entries.Unsent node why) own = absurd cc
agent_reason (entries.Dropped node number why) own = own
agent_reason _ own = tt

or_false : (b : Bool) → (b || false) ≡ true → b ≡ true
or_false true e = refl
or_false false e = e

mobile_reason : (e : Entry) → (is_mobiles e || parts.is_own e) ≡ true → HasReason e
mobile_reason (entries.Unsent node why) own = or_false (is_unsent_why why) own
mobile_reason (entries.Dropped node number why) own = own
mobile_reason _ own = tt

-- what a correspondent and an agent answer
pub part_reasons : (answers : List Answer) → AllByRecursion (IsWhole parts.is_own) answers → AllByRecursion HasReasons answers
part_reasons [] all = tt
part_reasons (Send shield packet ∷ answers) all = (tt, part_reasons answers all.1)
part_reasons (Note entry ∷ answers) all = (part_reason entry all.0, part_reasons answers all.1)

pub agent_reasons : (answers : List Answer) → AllByRecursion (IsWhole agents.is_own) answers → AllByRecursion HasReasons answers
agent_reasons [] all = tt
agent_reasons (Send shield packet ∷ answers) all = (tt, agent_reasons answers all.1)
agent_reasons (Note entry ∷ answers) all = (agent_reason entry all.0, agent_reasons answers all.1)

-- two lists
pub all_append : {X : Type 0} (P : X → Type 0) (xs ys : List X) → AllByRecursion P xs → AllByRecursion P ys → AllByRecursion P (xs ++ ys)
all_append P [] ys first second = second
all_append P (x ∷ xs) ys first second = (first.0, all_append P xs ys first.1 second)

-- what a mobile answers
step_reasons : (now : ℕ) (k : Known) (steps : List Step) → EachAnswer (λ k answer. HasReasons answer) now k steps → AllByRecursion HasReasons (answers_of steps)
step_reasons now k [] each = tt
step_reasons now k (step ∷ steps) each =
    all_append HasReasons (answer_of step) (answers_of steps) each.0 (step_reasons now (after k (record { at = now; step = step })) steps each.1)

pub mobile_reasons : (k : Known) (now : ℕ) (c : Call) → AllByRecursion HasReasons (answers_of (transition_of k now c).steps)
mobile_reasons k now c =
    step_reasons now k (transition_of k now c).steps
    (each-answer (λ k answer. HasReasons answer) (λ k. Unit {0}) c now (λ k step i. tt) (λ k e own. mobile_reason e own) (λ k x i sent. tt) (λ k row u i of. tt)
    k (transition_of k now c).steps tt (call-fits k now c))

-- the cause of a mark
abbrev pub HasCause : Mark → Type 0
HasCause (marks.Origin hot cot update) = Unit {0}
HasCause (marks.Forged cause) = IsCause cause

claims_cause : (seen : List Sight) (home : Claim) (careof : Option Claim) (update : ℕ) → HasCause (by_claims seen home careof update)
claims_cause seen home careof update =
    cond_both (is_used_early seen home careof) _ _ HasCause (λ early. (omega arith, omega arith)) (λ late.
    cond_both (is_named_otherwise seen home careof) _ _ HasCause (λ otherwise. (omega arith, omega arith)) (λ same. tt))

pair_cause : (seen : List Sight) (a : AcceptedUpdate) (update : ℕ) (o : Option Pair) → HasCause (by_pair seen a update o)
pair_cause seen a update None = (omega arith, omega arith)
pair_cause seen a update (Some pair) = claims_cause seen (home_claim seen a pair.home) (careof_claim seen a pair) update

post_cause : (seen : List Sight) (a : AcceptedUpdate) (own : Address) (key : UpdateIdentity) (update : ℕ) (o : Option Post) → HasCause (by_post seen a own key update o)
post_cause seen a own key update None = (omega arith, omega arith)
post_cause seen a own key update (Some post) = pair_cause seen a update (pair_by seen a.careof_index (gives own a.careof key) update post.maker)

first_cause : (seen : List Sight) (a : AcceptedUpdate) (own : Address) (key : UpdateIdentity) (o : Option ℕ) → HasCause (by_first seen a own key o)
first_cause seen a own key None = (omega arith, omega arith)
first_cause seen a own key (Some update) = post_cause seen a own key update (post_at seen update)

key_cause : (seen : List Sight) (a : AcceptedUpdate) (own : Address) (o : Option UpdateIdentity) → HasCause (by_key seen a own o)
key_cause seen a own None = (omega arith, omega arith)
key_cause seen a own (Some key) = first_cause seen a own key (first_update seen key)

of_cause : (seen : List Sight) (a : AcceptedUpdate) (o : Option Address) → HasCause (mark_of seen a o)
unfolding mark_of
of_cause seen a None = (omega arith, omega arith)
of_cause seen a (Some own) = key_cause seen a own (key_at seen a.number)

pub mark_cause : (past : List Entry) (a : AcceptedUpdate) → HasCause (mark_in past a)
unfolding mark_in
mark_cause past a = of_cause (sights past) a (declared_in past a.node.0)
