-- What a mobile knows behind a call, and of one of which nothing is known any more.
use Rattle.std.proofs.Common.{◌≡◌, ℕ, List, refl, sym, ap, subst, ◌∙◌}
use Rattle.std.specs.Prelude.{Option, Some, None, IfSome, IsTrue, is_some}
use Rattle.mip_words.specs.declared.address.Address.{Address}
use Rattle.mip_bulist.specs.Timers.{first_due}
use Rattle.mip_entries.proofs.TransitionLaws.{noted-known, noted-now}
use Rattle.mip_rules_mobile.specs.declared.attachment.Attachment.TheVariants.{Detached}
use Rattle.mip_rules_mobile.specs.Known.{Known}
use Rattle.mip_rules_mobile.specs.Calls.{Call}
use Rattle.mip_rules_mobile.specs.Steps.{Called, answers_of}
use Rattle.mip_rules_mobile.specs.Questions.{after, fresh, known}
use Rattle.mip_rules_mobile.specs.Transitions.{Transition, Stands, begun, noted, with_transition}
use Rattle.mip_rules_mobile.specs.Doing.{handles, does}
use Rattle.mip_rules_mobile.proofs.Calls.{stands-known, call-stands}
use Rattle.mip_entries.specs.Transitions.{StandsBy}
use Rattle.mip_rules_correspondent.specs.Seen.{CorrespondentSeen}
use Rattle.mip_rules_correspondent.specs.Questions.{held_of}
use Rattle.mip_afresh_bindings.specs.declared.acceptance.Acceptance.{Acceptance}
use Rattle.mip_afresh_mobile_state.specs.Mobiles.{MobileSeen, seen_of}
use Rattle.mip_afresh_mobile_state.specs.declared.turn.Turn.{Turn}
use Rattle.mip_afresh_mobile_state.specs.Turns.{Shows}
use Rattle.mip_afresh_mobile.specs.Nodes.{NodeSeen, known_to, transition_at, after_call, AreAccepted}
use Rattle.mip_nonce.specs.Secrets.{Life}
use Rattle.mip_afresh_mobile.specs.declared.called.Asked.TheVariants as asked
use Rattle.mip_afresh_mobile.specs.Pasts.{new_node, lost, node_left}
use Rattle.mip_afresh_mobile.proofs.Turned.{shows-now, shows-seen, shows-answers}

-- whoever knows what its past leaves stands for it
known-stands : (m : NodeSeen) → Stands m.home m.declared m.numbers m.secrets m.past (known_to m)
unfolding known StandsBy
known-stands m = refl

-- behind a call it knows what the call leaves known
pub known-after : (m : NodeSeen) (now : ℕ) (call : Call) → (transition_at m now call).known ≡ known_to (after_call m now call)
known-after m now call =
    stands-known m.home m.declared m.numbers m.secrets (with_transition m.past (transition_at m now call)) (transition_at m now call).known
    (call-stands m.home m.declared m.numbers m.secrets m.past (known_to m) now call (known-stands m))

-- and keeps it so
pub kept-after : (m : NodeSeen) (now : ℕ) (call : Call) (turn : Turn) → Shows turn (transition_at m now call) → seen_of (known_to (after_call m now call)) ≡ turn.mobile
kept-after m now call turn shows = ap seen_of (sym (known-after m now call)) ∙ shows-seen turn (transition_at m now call) shows

-- that a call was given leaves its correspondent part as it was
pub called-part : (k : Known) (now : ℕ) (call : Call) → (noted (Called call) (begun now k)).known.part ≡ k.part
unfolding after
called-part k now call = ap (λ (l : Known). l.part) (noted-known after (Called call) (begun now k))

-- what is done about a call is the call
pub done : (m : NodeSeen) (now : ℕ) (call : Call) → handles call (noted (Called call) (begun now (known_to m))) ≡ transition_at m now call
unfolding does
done m now call = refl

-- one that is lost has no timer, and stands nowhere
pub lost-due : (m : NodeSeen) → first_due (known_to (lost m)).list.timers ≡ None
unfolding known after
lost-due m = refl

pub lost-standing : (m : NodeSeen) → (known_to (lost m)).standing ≡ Detached
unfolding known after
lost-standing m = refl

-- a mobile of which this is known
pub kept-in : (m : NodeSeen) (o : Option MobileSeen) (known : MobileSeen) → o ≡ Some known → IfSome o (λ k. seen_of (known_to m) ≡ k) → seen_of (known_to m) ≡ known
kept-in m o known is inv = subst (λ (x : Option MobileSeen). IfSome x (λ k. seen_of (known_to m) ≡ k)) is inv

-- it is not lost
pub node-there : (m : NodeSeen) (o : Option MobileSeen) → IsTrue (is_some o) → m ≡ node_left o m
node-there m None there = absurd cc
node-there m (Some known) there = refl

-- the moment of the call that began
pub begun-now : (first : Turn) (now : ℕ) (k : Known) (call : Call) → Shows first (noted (Called call) (begun now k)) → first.now.0 ≡ now
begun-now first now k call shows = sym (shows-now first (noted (Called call) (begun now k)) shows) ∙ noted-now after (Called call) (begun now k)

-- a call that came to its end
pub record IsDone (self new : NodeSeen) (now : ℕ) (call : Call) (turn : Turn) : Type 0 where
  pub invariant : seen_of (known_to new) ≡ turn.mobile
  pub answers : turn.answers ≡ answers_of (transition_at self now call).steps
  pub goes_on : new ≡ after_call self now call

pub ended : (inside self new : NodeSeen) (o taken : Option MobileSeen) (now : ℕ) (call : Call) (first turn : Turn)
    → node_left o inside ≡ self → taken ≡ o → IsTrue (is_some taken) → IfSome o (λ k. seen_of (known_to inside) ≡ k)
    → ((k : Known) (c : Call) → IfSome taken (λ known. seen_of k ≡ known) → Shows first (noted (Called c) (begun now k)))
    → ((t : Transition) → inside ≡ self → t.known.part ≡ (known_to self).part → first.now.0 ≡ now → Shows first t → Shows turn (handles call t))
    → new ≡ after_call inside now call → IsDone self new now call turn
ended inside self new o taken now call first turn view took there inv begins goes added =
    let same : inside ≡ self = node-there inside o (subst (λ (x : Option MobileSeen). IsTrue (is_some x)) took there) ∙ view in
    let given : IfSome taken (λ known. seen_of (known_to inside) ≡ known) = subst (λ (x : Option MobileSeen). IfSome x (λ known. seen_of (known_to inside) ≡ known)) (sym took) inv in
    let t : Transition = noted (Called call) (begun now (known_to inside)) in
    let part : t.known.part ≡ (known_to self).part = called-part (known_to inside) now call ∙ ap (λ (m : NodeSeen). (known_to m).part) same in
    let starts = begins (known_to inside) call given in
    let shows : Shows turn (transition_at inside now call) = subst (Shows turn) (done inside now call) (goes t same part (begun-now first now (known_to inside) call starts) starts) in
    record {
      invariant = ap (λ (m : NodeSeen). seen_of (known_to m)) added ∙ kept-after inside now call turn shows;
      answers = sym (shows-answers turn (transition_at inside now call) shows) ∙ ap (λ (m : NodeSeen). answers_of (transition_at m now call).steps) same;
      goes_on = added ∙ ap (λ (m : NodeSeen). after_call m now call) same;
    }

-- what the correspondent part holds as the call goes on is what it held before
pub held-here : (part other : CorrespondentSeen) (now at : ℕ) (home : Address) (held : Option Address) → other ≡ part → at ≡ now → held ≡ held_of part.known now home → held ≡ held_of other.known at home
held-here part other now at home held same then is =
    is ∙ ap (λ (p : CorrespondentSeen). held_of p.known now home) (sym same) ∙ ap (λ (n : ℕ). held_of other.known n home) (sym then)

-- so is what it accepted
pub accepted-here : (numbers count now at : ℕ) (accepted : List Acceptance) (part other : CorrespondentSeen) → count ≡ numbers → at ≡ now → other ≡ part
    → AreAccepted numbers now accepted part.known.cache → AreAccepted count at accepted other.known.cache
accepted-here numbers count now at accepted part other many then same are =
    subst (λ (n : ℕ). AreAccepted n at accepted other.known.cache) (sym many)
    (subst (λ (n : ℕ). AreAccepted numbers n accepted other.known.cache) (sym then)
    (subst (λ (p : CorrespondentSeen). AreAccepted numbers now accepted p.known.cache) (sym same) are))

-- the secrets of a restart
pub secrets-are : (given found : Life) → asked.Restart given ≡ asked.Restart found → found ≡ given
secrets-are given found is = cc

-- one to which nothing has happened
pub known-new : (home : Address) (declared : Option Address) (numbers : ℕ) (secrets : Life) → known_to (new_node home declared numbers secrets) ≡ fresh home declared numbers secrets
unfolding known
known-new home declared numbers secrets = refl
