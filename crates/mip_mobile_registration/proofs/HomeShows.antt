-- Rules of home registration, by what the context knows.
use Rattle.std.proofs.Common.{◌≡◌, ℕ, ◌≤◌, length, refl, sym, ap, ◌∙◌, arith}
use Rattle.std.specs.Prelude.{Option, Some, None, if◌then◌else◌}
use Rattle.mip_words.specs.declared.address.Address.{Address}
use Rattle.mip_ipv6.specs.Sum.{checksum_of}
use Rattle.mip_ipv6.proofs.Sums.{length-with_number_at}
use Rattle.mip_icmp.specs.Said.{DiscoverAsk, PrefixAsk}
use Rattle.mip_icmp.specs.Spelling.{unsummed, icmp_bytes}
use Rattle.mip_words.specs.Numbers.{number_bytes}
use Rattle.mip_rules_mobile.specs.declared.attachment.Attachment.{Attachment}
use Rattle.mip_rules_mobile.specs.declared.attachment.Attachment.TheVariants.{Detached, AtHome, Away}
use Rattle.mip_rules_mobile.specs.declared.home_update.HomeUpdate.{HomeUpdate}
use Rattle.mip_rules_mobile.specs.Known.{Known}
use Rattle.mip_rules_mobile.specs.HomeQuestions.{home_of, target_of, agent_of, registered_agent}
use Rattle.mip_rules_mobile.specs.Doing.{solicits_from, solicits}
use Rattle.mip_rules_mobile.specs.IcmpRules.{is_from_agent, learns, takes_prefix_reply}
use Rattle.mip_words.specs.declared.shield.Shield.{Shield}
use Rattle.mip_icmp.specs.declared.options.IcmpSet.{IcmpSet}
use Rattle.mip_rules_mobile.specs.Transitions.{Transition, noted}
use Rattle.mip_rules_mobile.specs.HomeRules.{seeks, registers_with, wait_behind, registers_at, registers, resends_as, resends_home, turns_to, is_refused, deregisters_at}
use Rattle.mip_rules_mobile.specs.MovingRules.{settles_at, settles, address_under, arrives_by, arrives}
use Rattle.mip_rules_mobile.specs.DiscoveryQuestions.{next_found}
use Rattle.mip_rules_mobile.specs.Steps.{IsRefused}
use Rattle.mip_outside.specs.declared.claim.Claim.{Claim}

pub registers-some : (careof agent : Address) (wait : ℕ) (t : Transition) (k : Known) → t.known ≡ k → target_of k ≡ Some agent → wait ≡ wait_behind k.latest → registers_with careof agent wait t ≡ registers careof t
unfolding registers
registers-some careof agent wait t k known target is =
    ap (λ (w : ℕ). registers_with careof agent w t) (is ∙ ap (λ (l : Known). wait_behind l.latest) (sym known))
    ∙ ap (λ (o : Option Address). registers_at careof o t) (sym target ∙ ap (λ (l : Known). target_of l) (sym known))

pub registers-none : (careof : Address) (t : Transition) (k : Known) → t.known ≡ k → target_of k ≡ None → seeks careof t ≡ registers careof t
unfolding registers
registers-none careof t k known target =
    ap (λ (o : Option Address). registers_at careof o t) (sym target ∙ ap (λ (l : Known). target_of l) (sym known))

pub resends-by : (wait : ℕ) (t : Transition) (k : Known) (s : Attachment) (o : Option HomeUpdate) → t.known ≡ k → k.standing ≡ s → k.latest ≡ o → resends_as s o wait t ≡ resends_home wait t
unfolding resends_home
resends-by wait t k s o known standing latest =
    ap (λ (x : Attachment). resends_as x o wait t) (sym standing ∙ ap (λ (l : Known). l.standing) (sym known))
    ∙ ap (λ (x : Option HomeUpdate). resends_as t.known.standing x wait t) (sym latest ∙ ap (λ (l : Known). l.latest) (sym known))

pub resends-nothing : (wait : ℕ) (t : Transition) (s : Attachment) → resends_as s None wait t ≡ t
resends-nothing wait t Detached = refl
resends-nothing wait t AtHome = refl
resends-nothing wait t (Away careof) = refl

-- a request of home agents is short
ask-size : (identifier : ℕ) → length (unsummed (DiscoverAsk identifier)) ≡ 8
unfolding unsummed number_bytes
ask-size identifier = refl

pub ask-short : (source destination : Address) (identifier : ℕ) → length (icmp_bytes source destination (DiscoverAsk identifier)) ≤ 2048
unfolding icmp_bytes
ask-short source destination identifier =
    omega (arith, length-with_number_at 2 (checksum_of source destination 58 (unsummed (DiscoverAsk identifier)) 2) (unsummed (DiscoverAsk identifier)) (omega (arith, ask-size identifier)), ask-size identifier)

solicit-size : (identifier : ℕ) → length (unsummed (PrefixAsk identifier)) ≡ 8
unfolding unsummed number_bytes
solicit-size identifier = refl

pub solicit-short : (source destination : Address) (identifier : ℕ) → length (icmp_bytes source destination (PrefixAsk identifier)) ≤ 2048
unfolding icmp_bytes
solicit-short source destination identifier =
    omega (arith, length-with_number_at 2 (checksum_of source destination 58 (unsummed (PrefixAsk identifier)) 2) (unsummed (PrefixAsk identifier)) (omega (arith, solicit-size identifier)), solicit-size identifier)

pub refused-by : (status : ℕ) (t : Transition) (k : Known) (s : Attachment) (o : Option Address) → t.known ≡ k → k.standing ≡ s → next_found k ≡ o → turns_to s o (noted (IsRefused status) t) ≡ is_refused status t
unfolding is_refused
refused-by status t k s o known standing next =
    ap (λ (x : Attachment). turns_to x o (noted (IsRefused status) t)) (sym standing ∙ ap (λ (l : Known). l.standing) (sym known))
    ∙ ap (λ (x : Option Address). turns_to t.known.standing x (noted (IsRefused status) t)) (sym next ∙ ap (λ (l : Known). next_found l) (sym known))

pub settles-by : (t : Transition) (k : Known) (s : Attachment) → t.known ≡ k → k.standing ≡ s → settles_at s t ≡ settles t
unfolding settles
settles-by t k s known standing = ap (λ (x : Attachment). settles_at x t) (sym standing ∙ ap (λ (l : Known). l.standing) (sym known))

pub undoes-by : (t : Transition) (k : Known) (now : ℕ) → t.known ≡ k → t.now ≡ now → (let u : Transition = (if k.owes then deregisters_at (agent_of k now) t else t) in u) ≡ settles_at AtHome t
undoes-by t k now known moment =
    ap (λ (l : Known). (let u : Transition = (if l.owes then deregisters_at (agent_of l now) t else t) in u)) (sym known)
    ∙ ap (λ (n : ℕ). (let u : Transition = (if t.known.owes then deregisters_at (agent_of t.known n) t else t) in u)) (sym moment)

pub arrives-by : (prefix : ℕ) (claim : Claim) (t : Transition) (k : Known) (address : Address) → t.known ≡ k → address ≡ address_under (home_of k) prefix → arrives_by claim address t ≡ arrives prefix claim t
unfolding arrives
arrives-by prefix claim t k address known is =
    ap (λ (a : Address). arrives_by claim a t) (is ∙ ap (λ (l : Known). address_under (home_of l) prefix) (sym known))

pub solicits-by : (t : Transition) (k : Known) (now : ℕ) (s : Attachment) (o : Option Address) → t.known ≡ k → t.now ≡ now → k.standing ≡ s → registered_agent k now ≡ o → solicits_from s o t ≡ solicits t
unfolding solicits
solicits-by t k now s o known moment standing agent =
    ap (λ (x : Attachment). solicits_from x o t) (sym standing ∙ ap (λ (l : Known). l.standing) (sym known))
    ∙ ap (λ (x : Option Address). solicits_from t.known.standing x t)
    (sym agent ∙ ap (λ (l : Known). registered_agent l now) (sym known) ∙ ap (λ (n : ℕ). registered_agent t.known n) (sym moment))

pub prefixes-by : (number : ℕ) (shield : Option Shield) (options : IcmpSet) (t : Transition) (k : Known) (now : ℕ) (o : Option Address) → t.known ≡ k → t.now ≡ now → agent_of k now ≡ o
    → learns number (is_from_agent shield o) options.prefix t ≡ takes_prefix_reply number shield options t
unfolding takes_prefix_reply
prefixes-by number shield options t k now o known moment agent =
    ap (λ (x : Option Address). learns number (is_from_agent shield x) options.prefix t)
    (sym agent ∙ ap (λ (l : Known). agent_of l now) (sym known) ∙ ap (λ (n : ℕ). agent_of t.known n) (sym moment))
