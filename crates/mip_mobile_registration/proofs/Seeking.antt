-- A discovery that goes on, by what the context knows.
use Rattle.std.proofs.Common.{◌≡◌, ℕ, [], ◌∷◌, refl, sym, ap, ◌∙◌}
use Rattle.std.specs.Prelude.{◌*◌, ◌^◌, Option, Some, None, option_map, option_and_then}
use Rattle.std.proofs.lemmas.List.{append-nil}
use Rattle.mip_words.specs.Constants.{initial_dhaad_timeout}
use Rattle.mip_words.specs.declared.address.Address.{Address}
use Rattle.mip_entries.specs.Shows.{ShowsBy}
use Rattle.mip_entries.proofs.TransitionLaws.{noted-now, noted-known, noted_all-is}
use Rattle.mip_entries.proofs.ShowLaws.{answers-noted}
use Rattle.mip_discovery.specs.Retries.{DiscoverySeen, retried}
use Rattle.mip_rules_mobile.specs.declared.attachment.Attachment.{Attachment}
use Rattle.mip_rules_mobile.specs.declared.attachment.Attachment.TheVariants.{Away}
use Rattle.mip_rules_mobile.specs.Known.{Known}
use Rattle.mip_rules_mobile.specs.HomeQuestions.{home_of}
use Rattle.mip_rules_mobile.specs.Questions.{after}
use Rattle.mip_rules_mobile.specs.Sendings.{Discovers}
use Rattle.mip_rules_mobile.specs.Steps.{Sends, SeeksAgain, GivesUp, Waits, answer_of}
use Rattle.mip_rules_mobile.specs.TimerQuestions.{seeking}
use Rattle.mip_rules_mobile.specs.Transitions.{Transition, noted}
use Rattle.mip_rules_mobile.specs.HomeRules.{seeks_again_from, seeks_again_at, seeks_again}
use Rattle.mip_mobile_context.specs.Seen.{ContextSeen, Shows}

-- what is left of the discovery after a retry
pub discovery-again : (t : Transition) → (noted SeeksAgain t).known.discovery ≡ option_and_then (retried t.now) t.known.discovery
unfolding after
discovery-again t = ap (λ (k : Known). k.discovery) (noted-known after SeeksAgain t)

again-for : (careof : Address) (identifier wait : ℕ) (t : Transition) (o : Option DiscoverySeen) → option_map (λ d. initial_dhaad_timeout * 2 ^ d.retries) o ≡ Some wait
    → noted (Waits seeking wait) (noted (Sends (Discovers (home_of t.known) careof identifier)) (noted SeeksAgain t)) ≡ seeks_again_from careof o identifier t
again-for careof identifier wait t None is = absurd cc
again-for careof identifier wait t (Some d) is = cc

gives-for : (careof : Address) (identifier : ℕ) (t : Transition) (o : Option DiscoverySeen) → option_map (λ d. initial_dhaad_timeout * 2 ^ d.retries) o ≡ None
    → noted GivesUp t ≡ seeks_again_from careof o identifier t
gives-for careof identifier t None is = refl
gives-for careof identifier t (Some d) is = absurd cc

-- what is read of the discovery after a retry
left : (t : Transition) (now : ℕ) (k l : Known) (d : DiscoverySeen) → t.known ≡ k → t.now ≡ now → k.discovery ≡ Some d → (noted SeeksAgain t).known ≡ l → l.discovery ≡ retried now d
left t now k l d known moment is again =
    ap (λ (x : Known). x.discovery) (sym again) ∙ discovery-again t
    ∙ ap (λ (o : Option DiscoverySeen). option_and_then (retried t.now) o) (ap (λ (x : Known). x.discovery) known ∙ is)
    ∙ ap (λ (n : ℕ). retried n d) moment

pub again-some : (careof : Address) (identifier wait now : ℕ) (t : Transition) (k l : Known) (d : DiscoverySeen) → t.known ≡ k → t.now ≡ now → k.discovery ≡ Some d → (noted SeeksAgain t).known ≡ l
    → Some wait ≡ option_map (λ d. initial_dhaad_timeout * 2 ^ d.retries) l.discovery
    → noted (Waits seeking wait) (noted (Sends (Discovers (home_of k) careof identifier)) (noted SeeksAgain t)) ≡ seeks_again_from careof (retried now d) identifier t
again-some careof identifier wait now t k l d known moment is again waits =
    ap (λ (x : Known). noted (Waits seeking wait) (noted (Sends (Discovers (home_of x) careof identifier)) (noted SeeksAgain t))) (sym known)
    ∙ again-for careof identifier wait t (retried now d)
    (ap (λ (o : Option DiscoverySeen). option_map (λ d. initial_dhaad_timeout * 2 ^ d.retries) o) (sym (left t now k l d known moment is again)) ∙ sym waits)

pub again-none : (careof : Address) (identifier now : ℕ) (t : Transition) (k l : Known) (d : DiscoverySeen) → t.known ≡ k → t.now ≡ now → k.discovery ≡ Some d → (noted SeeksAgain t).known ≡ l
    → None ≡ option_map (λ d. initial_dhaad_timeout * 2 ^ d.retries) l.discovery → noted GivesUp t ≡ seeks_again_from careof (retried now d) identifier t
again-none careof identifier now t k l d known moment is again none =
    gives-for careof identifier t (retried now d)
    (ap (λ (o : Option DiscoverySeen). option_map (λ d. initial_dhaad_timeout * 2 ^ d.retries) o) (sym (left t now k l d known moment is again)) ∙ sym none)

-- a discovery that is over is over, whether it was tried again before or not
pub given-up : (d : ContextSeen) (t : Transition) → Shows d (noted GivesUp (noted SeeksAgain t)) → Shows d (noted GivesUp t)
unfolding ShowsBy after
given-up d t s = (
  noted-now after GivesUp t ∙ sym (ap (λ (u : Transition). u.now) (noted_all-is after (SeeksAgain ∷ GivesUp ∷ []) t)) ∙ s.0,
  noted-known after GivesUp t ∙ sym (ap (λ (u : Transition). u.known) (noted_all-is after (SeeksAgain ∷ GivesUp ∷ []) t)) ∙ s.1,
  answers-noted answer_of after GivesUp t ∙ sym (answers-noted answer_of after SeeksAgain t)
      ∙ sym (append-nil _) ∙ sym (answers-noted answer_of after GivesUp (noted SeeksAgain t)) ∙ s.2,
)

-- a discovery that is under way has an identifier
pub under-way : (careof : Address) (o : Option DiscoverySeen) (identifier now : ℕ) (t : Transition) → t.now ≡ now → Some identifier ≡ option_map (λ d. d.identifier) o
    → (d : DiscoverySeen) × (o ≡ Some d) × (seeks_again_from careof (retried now d) identifier t ≡ seeks_again_at (Away careof) o t)
under-way careof None identifier now t moment is = absurd cc
under-way careof (Some d) identifier now t moment is = (
  d,
  refl,
  ap (λ (n : ℕ). seeks_again_from careof (retried n d) identifier t) (sym moment)
      ∙ ap (λ (i : ℕ). seeks_again_from careof (retried t.now d) i t) cc,
)

pub none-under-way : (careof : Address) (o : Option DiscoverySeen) (t : Transition) → None ≡ option_map (λ d. d.identifier) o → t ≡ seeks_again_at (Away careof) o t
none-under-way careof None t is = refl
none-under-way careof (Some d) t is = absurd cc

pub seeks-by : (t : Transition) (k : Known) (s : Attachment) → t.known ≡ k → k.standing ≡ s → seeks_again_at s k.discovery t ≡ seeks_again t
unfolding seeks_again
seeks-by t k s known standing =
    ap (λ (x : Attachment). seeks_again_at x k.discovery t) (sym standing)
    ∙ ap (λ (l : Known). seeks_again_at l.standing l.discovery t) (sym known)
