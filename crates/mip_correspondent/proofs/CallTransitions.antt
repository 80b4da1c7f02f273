-- A call as a transition: what it shows, and what it leaves.
use Rattle.std.proofs.Common.{◌≡◌, ℕ, List, [], false, sym, ap, ◌∙◌, subst}
use Rattle.mip_words.specs.declared.address.Address.{Address}
use Rattle.mip_entries.specs.declared.answer.Answer.{Answer}
use Rattle.mip_bcache.specs.Seen.{CacheSeen, expired}
use Rattle.mip_entries.proofs.TransitionLaws.{noted-known}
use Rattle.mip_rules_correspondent.specs.declared.identity.Identity.{Identity}
use Rattle.mip_rules_correspondent.specs.declared.known.Known.{Known}
use Rattle.mip_rules_correspondent.specs.Calls.{Call, Tick, is_tick}
use Rattle.mip_rules_correspondent.specs.Steps.{Called, Sends, answers_of}
use Rattle.mip_rules_correspondent.specs.Questions.{held_of, after}
use Rattle.mip_rules_correspondent.specs.Transitions.{Transition, begun, noted}
use Rattle.mip_rules_correspondent.specs.Doing.{handles, does, transition_of, request_refresh, refreshes, data_sent, transmits}
use Rattle.mip_rules_correspondent.specs.Seen.{CorrespondentSeen, transition_at, called}
use Rattle.mip_correspondent.specs.Showing.{left, Shows}
use Rattle.mip_correspondent.proofs.ShowingLaws.{shows_begun, shows-answers, shows-known, shows-now}

-- what a call ends with
pub record Ends (old new : CorrespondentSeen) (answers : List Answer) (now : ℕ) (c : Call) : Type 0 where
  pub answered : answers ≡ answers_of (transition_at old now c).steps
  pub after : new ≡ called old now c

-- a call that is not for the passing of time ends with what its rule shows
pub ends : (old inside new : CorrespondentSeen) (now : ℕ) (c : Call) (begins : List Answer) (leaves : CacheSeen → CacheSeen) (answers : List Answer) → is_tick c ≡ false → begins ≡ [] → inside ≡ old
    → ((t : Transition) → Shows now inside.known.cache begins t → Shows now (leaves inside.known.cache) answers (handles inside.identity c t))
    → new ≡ record { identity = old.identity; known = left now (leaves old.known.cache) } → Ends old new answers now c
unfolding does
ends old inside new now c begins leaves answers other none same rule is =
    let shows : Shows now (leaves inside.known.cache) answers (transition_at inside now c) =
    rule (noted (Called c) (begun now inside.known))
    (subst (λ (l : List Answer). Shows now inside.known.cache l (noted (Called c) (begun now inside.known))) (sym none) (shows_begun c now inside.known other)) in
    let seen = subst (λ (s : CorrespondentSeen). Shows now (leaves s.known.cache) answers (transition_at s now c)) same shows in
    record {
      answered = sym (shows-answers now (leaves old.known.cache) answers (transition_at old now c) seen);
      after = is ∙ ap (λ (k : Known). record { identity = old.identity; known = k }) (sym (shows-known now (leaves old.known.cache) answers (transition_at old now c) seen));
    }

-- a refresh and data go by what the transition leaves of the home
pub refreshes-shown : (me : Identity) (home : Address) (now : ℕ) (cache : CacheSeen) (answers : List Answer) (t : Transition) → Shows now cache answers t → refreshes me home t ≡ request_refresh me home (held_of (left now cache) now home) t
unfolding refreshes
refreshes-shown me home now cache answers t s =
    ap (λ (k : Known). request_refresh me home (held_of k t.now home) t) (shows-known now cache answers t s)
    ∙ ap (λ (n : ℕ). request_refresh me home (held_of (left now cache) n home) t) (shows-now now cache answers t s)

pub transmits-shown : (me : Identity) (to : Address) (proto : ℕ) (payload : List ℕ) (now : ℕ) (cache : CacheSeen) (answers : List Answer) (t : Transition) → Shows now cache answers t
    → transmits me to proto payload t ≡ noted (Sends (data_sent me to proto payload (held_of (left now cache) now to))) t
unfolding transmits
transmits-shown me to proto payload now cache answers t s =
    ap (λ (k : Known). noted (Sends (data_sent me to proto payload (held_of k t.now to))) t) (shows-known now cache answers t s)
    ∙ ap (λ (n : ℕ). noted (Sends (data_sent me to proto payload (held_of (left now cache) n to))) t) (shows-now now cache answers t s)

pub ticked-known : (me : Identity) (k : Known) (now : ℕ) → (transition_of me k now Tick).known ≡ left now (expired now k.cache)
unfolding does after
ticked-known me k now = noted-known after (Called Tick) (begun now k)
