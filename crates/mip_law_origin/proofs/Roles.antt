-- What a correspondent, an agent and a mobile answer is right.
use Rattle.std.proofs.Common.{◌≡◌, ℕ, List, [], ◌∷◌, ◌++◌, Bool, true, false, inl, inr, refl, sym, ap, ◌∙◌, subst}
use Rattle.std.specs.Prelude.{Option, Some, None, IfSome}
use Rattle.std.specs.List.{list_any, AllByRecursion}
use Rattle.std.proofs.lemmas.Bool.{or_parts}
use Rattle.std.proofs.lemmas.List.Sums.{fold-append}
use Rattle.mip_words.specs.declared.address.Address.{Address}
use Rattle.mip_nonce.specs.Secrets.{Life}
use Rattle.mip_packets.specs.Says.{Carried, Test, Update, Other, carried}
use Rattle.mip_packets.specs.Written.{SaysNoTest}
use Rattle.mip_entries.specs.declared.answer.Answer.{Answer}
use Rattle.mip_entries.specs.declared.entry.Entry.{Entry}
use Rattle.mip_entries.specs.declared.entry.Entry.TheVariants as entries
use Rattle.mip_entries.specs.Stamped.{Stamped}
use Rattle.mip_provenance.specs.Sights.{token_in}
use Rattle.mip_rules_correspondent.specs.declared.identity.Identity.{Identity}
use Rattle.mip_rules_correspondent.specs.Steps as parts
use Rattle.mip_rules_correspondent.specs.Wholes.{is_own}
use Rattle.mip_rules_agent.specs.Steps as agents
use Rattle.mip_rules_agent.specs.Sayings.{SaysHanded, SaysNoOther}
use Rattle.mip_rules_correspondent.specs.Seen.{CorrespondentSeen}
use Rattle.mip_rules_mobile.specs.Calls as calls
use Rattle.mip_rules_mobile.specs.Calls.{Call}
use Rattle.mip_rules_mobile.specs.Sendings.{PeerUpdate, packet_of_sending, update_packet}
use Rattle.mip_rules_mobile.specs.Steps.{Step, Called, Parts, Notes, Sends, Unsends, Drops, Claims, Releases, FindsTaken, Arrives, Detaches, Restarts, Registers, Unregisters, IsRefused, Resequences, Seeks, SeeksAgain, GivesUp, Finds, Chooses, Learns, Meets, Tries, Updates, Forgets, Binds, Unbinds, answer_of, answers_of}
use Rattle.mip_rules_mobile.specs.Known.{Known}
use Rattle.mip_rules_mobile.specs.Questions.{part_after, after, fresh, known}
use Rattle.mip_rules_mobile.specs.Fitting.{IsUpdateOf, Fits, EachFits}
use Rattle.mip_rules_mobile.specs.Answering.{EachAnswer, SaysOwn, NoTest, OwnHomeTest, OwnCareofTest, Asked, SaysRight}
use Rattle.mip_rules_mobile.specs.Kept.{IsMadeFrom}
use Rattle.mip_rules_mobile.proofs.Kept.{update-from}
use Rattle.mip_history.specs.Setup.{Setup}
use Rattle.mip_history.specs.Setup.Kind.{Correspondent, Agent, Mobile}
use Rattle.mip_history.specs.Questions.{moment_in}
use Rattle.mip_law_origin.specs.OwnTests.{IsOwnTest, SendsOwnTests}
use Rattle.mip_law_origin.specs.OwnHistories.{life_of}
use Rattle.mip_law_origin.specs.OwnHistoriesLaws.{kind_at, is_agent_kind, HasCome, IsRightFrom}
use Rattle.mip_law_origin.proofs.Own.{own_of_none, home_own, careof_own}
use Rattle.mip_law_origin.proofs.Coming.{IsGiven, AreGiven, HasTaken, fit_given, made_home, made_careof, all_both}
use Rattle.mip_law_origin.proofs.Answering.{IsNoted, IsRight}

no_token : (c : Carried) (t : List ℕ) → SaysNoTest c → token_in c ≡ Some t → ⊥
no_token (Test kind index token destination) t none e = none
no_token (Update key) t none e = absurd cc
no_token Other t none e = absurd cc

-- a step is a restart
abbrev pub begins_anew : Step → Bool
begins_anew (Restarts secrets) = true
begins_anew _ = false

-- the secrets of the part stay through a step that is none
part_secrets : (part : CorrespondentSeen) (at : ℕ) (step : Step) → begins_anew step ≡ false → (part_after part at step).identity.secrets ≡ part.identity.secrets
part_secrets part at (Restarts secrets) none = absurd cc
part_secrets part at _ none = refl

pub secrets_after : (k : Known) (x : Stamped Step) → begins_anew x.step ≡ false → (let l : Known = after k x in l.part.identity.secrets) ≡ k.part.identity.secrets
unfolding after
secrets_after k x none = part_secrets k.part x.at x.step none

-- what is known with one step more
pub known_more : (own : Address) (agent : Option Address) (numbers : ℕ) (secrets : Life) (past : List (Stamped Step)) (x : Stamped Step) → after (known own agent numbers secrets past) x ≡ known own agent numbers secrets (past ++ x ∷ [])
unfolding known
known_more own agent numbers secrets past x = sym (fold-append after (fresh own agent numbers secrets) past (x ∷ []))

module _ (s : Setup) (Q : Type 0) (front : List Entry) (n : ℕ) where
  abbrev AllRight : List Answer → Type 0
  AllRight answers = AllByRecursion (IsRight s Q front n) answers

  -- a correspondent
  module _ (me : Identity) (now room : ℕ) (kind : kind_at s n ≡ Some (Correspondent room)) (life : me.secrets ≡ life_of s front n) (moment : now ≡ moment_in s.start front) where
    sent_own : (packet : List ℕ) → IsOwnTest me.secrets now (carried packet) → IsRightFrom s front n packet (kind_at s n)
    sent_own packet own =
        subst (IsRightFrom s front n packet) (sym kind)
        (subst (λ (l : Life). IsOwnTest l (moment_in s.start front) (carried packet)) life (subst (λ (t : ℕ). IsOwnTest me.secrets t (carried packet)) moment own))

    pub correspondent_right : (steps : List parts.Step) → (Q → AllByRecursion (SendsOwnTests me now) steps) → AllRight (parts.answers_of steps)
    correspondent_right [] own = tt
    correspondent_right (parts.Called call ∷ steps) own = correspondent_right steps (λ q. (own q).1)
    correspondent_right (parts.Sends packet ∷ steps) own = (λ q. sent_own packet (own q).0, correspondent_right steps (λ q. (own q).1))
    correspondent_right (parts.Accepts number home binding a ∷ steps) own = (tt, correspondent_right steps (λ q. (own q).1))
    correspondent_right (parts.Denies number status ∷ steps) own = (tt, correspondent_right steps (λ q. (own q).1))
    correspondent_right (parts.Drops number why ∷ steps) own = (tt, correspondent_right steps (λ q. (own q).1))
    correspondent_right (parts.HandsUp number source destination proto payload ∷ steps) own = (tt, correspondent_right steps (λ q. (own q).1))
    correspondent_right (parts.Idles ∷ steps) own = (tt, correspondent_right steps (λ q. (own q).1))

  -- an agent
  module _ (bytes : List ℕ) (came : (t : List ℕ) → token_in (carried bytes) ≡ Some t → HasCome front n t) where
    handed_right : (packet : List ℕ) → SaysHanded bytes packet → IfSome (token_in (carried packet)) (HasCome front n)
    handed_right packet says = by (token_in (carried packet)) refl says
      where
        by : (o : Option (List ℕ)) → token_in (carried packet) ≡ o → SaysHanded bytes packet → IfSome o (HasCome front n)
        by None is says = tt
        by (Some t) is (inl same) = came t (ap token_in (sym same) ∙ is)
        by (Some t) is (inr none) = absurd (no_token (carried packet) t none is)

    module _ (preference life room : ℕ) (serves : List Address) (kind : kind_at s n ≡ Some (Agent preference life room serves)) where
      pub agent_right : (steps : List agents.Step) → AllByRecursion (SaysNoOther bytes) (agents.answers_of steps) → AllRight (agents.answers_of steps)
      agent_right [] says = tt
      agent_right (agents.Called call ∷ steps) says = agent_right steps says
      agent_right (agents.Sends shield packet ∷ steps) says =
          (λ q. subst (IsRightFrom s front n packet) (sym kind) (handed_right packet says.0), agent_right steps says.1)
      agent_right (agents.Registers number home binding ∷ steps) says = (ap is_agent_kind kind, agent_right steps says.1)
      agent_right (agents.Claims home ∷ steps) says = (tt, agent_right steps says.1)
      agent_right (agents.Releases home ∷ steps) says = (tt, agent_right steps says.1)
      agent_right (agents.Denies number status ∷ steps) says = (tt, agent_right steps says.1)
      agent_right (agents.Drops number why ∷ steps) says = (tt, agent_right steps says.1)
      agent_right (agents.Rang ∷ steps) says = agent_right steps says

  -- a mobile
  own_noted : (e : Entry) → is_own e ≡ true → IsNoted s Q front n e
  own_noted (entries.Home node home careof sequence end) own = absurd cc
  own_noted (entries.Made node peer number home careof) own = absurd cc
  own_noted _ own = tt

  module _ (own : Address) (agent : Option Address) (numbers : ℕ) (secrets : Life) (c : Call) (now : ℕ) (came : HasTaken front n c) (kind : kind_at s n ≡ Some (Mobile agent))
      (moment : now ≡ moment_in s.start front) (asked : (inner : List ℕ) → c ≡ calls.Tunnel inner → ⊥) where
    -- what it says is a test of its own, or none
    says_own : (me : Identity) (packet : List ℕ) → SaysOwn c me now packet → IsOwnTest me.secrets now (carried packet)
    says_own me packet (NoTest none) = own_of_none me.secrets now (carried packet) none
    says_own me packet (OwnHomeTest source cookie is) = subst (IsOwnTest me.secrets now) (sym is) (home_own me now source cookie)
    says_own me packet (OwnCareofTest source cookie is) = subst (IsOwnTest me.secrets now) (sym is) (careof_own me now source cookie)
    says_own me packet (Asked inner tunnel is) = absurd (asked inner tunnel)

    sent_right : (k : Known) (packet : List ℕ) → k.part.identity.secrets ≡ life_of s front n → SaysOwn c k.part.identity now packet → IsRightFrom s front n packet (kind_at s n)
    sent_right k packet mine says =
        subst (IsRightFrom s front n packet) (sym kind)
        (subst (λ (l : Life). IsOwnTest l (moment_in s.start front) (carried packet)) mine
        (subst (λ (t : ℕ). IsOwnTest k.part.identity.secrets t (carried packet)) moment (says_own k.part.identity packet says)))

    update_right : (past : List (Stamped Step)) (k : Known) (row : ℕ) (u : PeerUpdate) → k ≡ known own agent numbers secrets past → AreGiven front n past → IsUpdateOf now k row u
        → (Q → k.part.identity.secrets ≡ life_of s front n) → (Q → AllByRecursion (SaysRight c now k) (answer_of (Updates row u))) → AllRight (answer_of (Updates row u))
    update_right past k row u is given of mine says =
        let from : IsMadeFrom past row u.made = update-from own agent numbers secrets past now row u (subst (λ (l : Known). IsUpdateOf now l row u) is of) in
        ((made_home front n row past u.made given from, made_careof front n row past u.made u.made.careof given from.careof), (λ q. sent_right k (update_packet u) (mine q) (says q).1.0, tt))

    step_right : (past : List (Stamped Step)) (k : Known) (step : Step) → k ≡ known own agent numbers secrets past → AreGiven front n past → Fits c now k step
        → (Q → k.part.identity.secrets ≡ life_of s front n) → (Q → AllByRecursion (SaysRight c now k) (answer_of step)) → AllRight (answer_of step)
    step_right past k (Called call) is given fits mine says = tt
    step_right past k (Parts call) is given fits mine says = tt
    step_right past k (Notes entry) is given fits mine says = (own_noted entry fits, tt)
    step_right past k (Sends sending) is given fits mine says = (λ q. sent_right k (packet_of_sending sending) (mine q) (says q).0, tt)
    step_right past k (Unsends why) is given fits mine says = (tt, tt)
    step_right past k (Drops number why) is given fits mine says = (tt, tt)
    step_right past k (Claims address) is given fits mine says = (tt, tt)
    step_right past k (Releases address) is given fits mine says = (tt, tt)
    step_right past k (FindsTaken address holder) is given fits mine says = (tt, tt)
    step_right past k (Arrives address) is given fits mine says = (tt, tt)
    step_right past k Detaches is given fits mine says = tt
    step_right past k (Restarts new) is given fits mine says = (tt, tt)
    step_right past k (Registers agent' end renew) is given fits mine says = (tt, tt)
    step_right past k (Unregisters agent') is given fits mine says = (tt, tt)
    step_right past k (IsRefused status) is given fits mine says = (tt, tt)
    step_right past k (Resequences agent' last) is given fits mine says = tt
    step_right past k Seeks is given fits mine says = tt
    step_right past k SeeksAgain is given fits mine says = tt
    step_right past k GivesUp is given fits mine says = tt
    step_right past k (Finds agents) is given fits mine says = tt
    step_right past k (Chooses agent') is given fits mine says = (tt, tt)
    step_right past k (Learns valid preferred) is given fits mine says = (tt, tt)
    step_right past k (Meets peer) is given fits mine says = tt
    step_right past k (Tries row change) is given fits mine says = tt
    step_right past k (Updates row update) is given fits mine says = update_right past k row update is given fits mine says
    step_right past k (Forgets row) is given fits mine says = tt
    step_right past k (Binds row peer end renew) is given fits mine says = (tt, tt)
    step_right past k (Unbinds row peer) is given fits mine says = (tt, tt)
    step_right past k _ is given fits mine says = tt

    pub mobile_right : (past : List (Stamped Step)) (k : Known) (steps : List Step) → k ≡ known own agent numbers secrets past → AreGiven front n past → EachFits c now k steps
        → (Q → k.part.identity.secrets ≡ life_of s front n) → (Q → EachAnswer (SaysRight c now) now k steps) → list_any begins_anew steps ≡ false → AllRight (answers_of steps)
    mobile_right past k [] is given fits mine says none = tt
    mobile_right past k (step ∷ steps) is given fits mine says none =
        let x : Stamped Step = record { at = now; step = step } in
        let parts = or_parts (begins_anew step) (list_any begins_anew steps) none in
        all_both (IsRight s Q front n) (answer_of step) (answers_of steps) (step_right past k step is given fits.0 mine (λ q. (says q).0))
        (mobile_right (past ++ x ∷ []) (after k x) steps (ap (λ (l : Known). after l x) is ∙ known_more own agent numbers secrets past x)
        (all_both (λ (y : Stamped Step). IsGiven front n y.step) past (x ∷ []) given (fit_given front n c now k step came fits.0, tt)) fits.1
        (λ q. secrets_after k x parts.0 ∙ mine q) (λ q. (says q).1) parts.1)
