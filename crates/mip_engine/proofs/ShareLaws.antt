-- Who holds what before the first event: nodes their addresses, and the first agent of a link the home-agents anycast address there.
use Rattle.std.proofs.Common.{◌≡◌, ◌≢◌, ℕ, ◌/◌, ◌^◌, List, [], ◌∷◌, ◌++◌, length, Bool, true, false, refl, sym, ap, ◌∙◌, arith}
use Rattle.std.proofs.lemmas.Bool.{or_parts, eqb-true, eq-eqb}
use Rattle.std.proofs.lemmas.List.Sums.{fold-append}
use Rattle.std.proofs.lemmas.Nat.{mod-mul-add, div-mul-add}
use Rattle.std.specs.Prelude.{Option, Some, None, is_some, unwrap_or, not, ◌||◌, ◌==◌, if◌then◌else◌}
use Rattle.std.specs.List.{list_any}
use Rattle.mip_words.specs.Addresses.{prefix_of}
use Rattle.mip_words.specs.declared.address.Address.{Address}
use Rattle.mip_words.specs.Asked.{asked}
use Rattle.mip_links.specs.Table.{link_from, link_of}
use Rattle.mip_schedule.specs.DeclarationTimes.{interface_of}
use Rattle.mip_entries.specs.declared.entry.Entry.{Entry}
use Rattle.mip_history.specs.Setup.{Host, Kind}
use Rattle.mip_history.specs.Setup.Kind.{Correspondent as OfCorrespondent, Agent as OfAgent, Mobile as OfMobile}
use Rattle.mip_history.specs.Questions.{holder_says}
use Rattle.mip_history.specs.Permitted.{is_same_link, is_agent_kind_on, is_agent_on, is_first_agent, anycast_at, claimed_entry, claims_of, claims_from}
use Rattle.mip_engine.specs.Joining.{has_address, is_anycast}

-- the last 64 bits of an anycast address, and its first
interface_is : (own : Address) → interface_of (anycast_at own).0 ≡ 18302628885633695742
interface_is own = mod-mul-add (own.0 / 2 ^ 64) (2 ^ 64) 18302628885633695742 (omega arith)

prefix_is : (own : Address) → prefix_of (anycast_at own).0 ≡ prefix_of own.0
prefix_is own = div-mul-add (own.0 / 2 ^ 64) (2 ^ 64) 18302628885633695742 (omega arith)

anycast_is : (own : Address) → is_anycast (anycast_at own).0 ≡ true
anycast_is own = ap (λ (i : ℕ). i == 18302628885633695742) (interface_is own)

pub anycast_link : (links : List ℕ) (own : Address) → link_of links (anycast_at own).0 ≡ link_of links own.0
anycast_link links own = ap (λ (p : ℕ). link_from 0 links p) (prefix_is own)

-- an address that is no anycast address
other_than_anycast : (a : ℕ) (own : Address) → is_anycast a ≡ false → (a == (anycast_at own).0) ≡ false
other_than_anycast a own apart = by (a == (anycast_at own).0) refl
  where
    by : (b : Bool) → (a == (anycast_at own).0) ≡ b → b ≡ false
    by false is = refl
    by true is = let clash : true ≡ false = sym (ap is_anycast (eqb-true a (anycast_at own).0 is) ∙ anycast_is own) ∙ apart in absurd cc

pub anycast_apart : (own : Address) → is_anycast own.0 ≡ false → (anycast_at own).0 ≢ own.0
anycast_apart own apart same = let clash : true ≡ false = sym (anycast_is own) ∙ ap is_anycast same ∙ apart in absurd cc

-- an agent that would hold this address besides its own
abbrev pub shares_by : ℕ → Address → Kind → Bool
shares_by a own (OfAgent preference life room serves) = a == (anycast_at own).0
shares_by a own _ = false

abbrev pub shares : ℕ → Host → Bool
shares a host = shares_by a host.address host.kind

-- nobody holds what no node has
pub held_by_none : (links : List ℕ) (before hosts : List Host) (a : ℕ) → list_any (has_address a) hosts ≡ false → list_any (shares a) hosts ≡ false
    → asked (holder_says a) None (claims_from links before hosts) ≡ None
held_by_none links before [] a own share = refl
held_by_none links before (host ∷ hosts) a own share =
    let p = or_parts _ _ own in
    let q = or_parts _ _ share in
    fold-append (λ (o : Option ℕ) (x : Entry). unwrap_or (holder_says a x) o) None (claims_of links before host) (claims_from links (before ++ host ∷ []) hosts)
    ∙ ap (λ (o : Option ℕ). asked (holder_says a) o (claims_from links (before ++ host ∷ []) hosts)) (here host.address host.kind p.0 q.0)
    ∙ held_by_none links (before ++ host ∷ []) hosts a p.1 q.1
  where
    with : (b : Bool) (address : Address) → (a == address.0) ≡ false → (b ≡ true → (a == (anycast_at address).0) ≡ false)
        → asked (holder_says a) None (claimed_entry links (length before) address ∷ (if b then claimed_entry links (length before) (anycast_at address) ∷ [] else [])) ≡ None
    with true address own other =
        ap (λ (t : Bool). unwrap_or (if a == (anycast_at address).0 then Some (Some (length before)) else None) (unwrap_or (if t then Some (Some (length before)) else None) None)) own
        ∙ ap (λ (t : Bool). unwrap_or (if t then Some (Some (length before)) else None) None) (other refl)
    with false address own other = ap (λ (t : Bool). unwrap_or (if t then Some (Some (length before)) else None) None) own

    here : (address : Address) (kind : Kind) → (a == address.0) ≡ false → shares_by a address kind ≡ false → asked (holder_says a) None (claims_of links before (record { address = address; kind = kind })) ≡ None
    here address (OfCorrespondent room) own share = with false address own (λ t. absurd cc)
    here address (OfMobile agent) own share = with false address own (λ t. absurd cc)
    here address (OfAgent preference life room serves) own share = with (is_first_agent links before address (OfAgent preference life room serves)) address own (λ t. share)

pub none_shares : (links : List ℕ) (hosts : List Host) (a : ℕ) → is_anycast a ≡ false → list_any (shares a) hosts ≡ false
none_shares links [] a apart = refl
none_shares links (host ∷ hosts) a apart = ap (λ (b : Bool). b || list_any (shares a) hosts) (by host.address host.kind) ∙ none_shares links hosts a apart
  where
    by : (own : Address) (kind : Kind) → shares_by a own kind ≡ false
    by own (OfCorrespondent room) = refl
    by own (OfMobile agent) = refl
    by own (OfAgent preference life room serves) = other_than_anycast a own apart

-- nobody has an anycast address of its own
pub none_anycast : (hosts : List Host) (own : Address) → list_any (λ h. is_anycast h.address.0) hosts ≡ false → list_any (has_address (anycast_at own).0) hosts ≡ false
none_anycast [] own apart = refl
none_anycast (host ∷ hosts) own apart =
    let p = or_parts _ _ apart in
    ap (λ (b : Bool). b || list_any (has_address (anycast_at own).0) hosts) (by ((anycast_at own).0 == host.address.0) refl p.0) ∙ none_anycast hosts own p.1
  where
    by : (b : Bool) → ((anycast_at own).0 == host.address.0) ≡ b → is_anycast host.address.0 ≡ false → b ≡ false
    by false is apart = refl
    by true is apart = let clash : true ≡ false = sym (anycast_is own) ∙ ap is_anycast (eqb-true (anycast_at own).0 host.address.0 is) ∙ apart in absurd cc

pub first_alone : (links : List ℕ) (before : List Host) (own : Address) (kind : Kind) → is_first_agent links before own kind ≡ true → list_any (is_agent_on links (link_of links own.0)) before ≡ false
first_alone links before own (OfCorrespondent room) is = absurd cc
first_alone links before own (OfMobile agent) is = absurd cc
first_alone links before own (OfAgent preference life room serves) is = by (list_any (is_agent_on links (link_of links own.0)) before) is
  where
    by : (b : Bool) → not b ≡ true → b ≡ false
    by true e = absurd cc
    by false e = refl

same_link : (o : Option ℕ) → is_some o ≡ true → is_same_link o o ≡ true
same_link None there = absurd cc
same_link (Some l) there = eq-eqb l l refl

-- agents on other links hold other anycast addresses
pub others_share : (links : List ℕ) (hosts : List Host) (own : Address) → is_some (link_of links own.0) ≡ true → list_any (is_agent_on links (link_of links own.0)) hosts ≡ false
    → list_any (shares (anycast_at own).0) hosts ≡ false
others_share links [] own there none = refl
others_share links (host ∷ hosts) own there none =
    let p = or_parts _ _ none in
    ap (λ (b : Bool). b || list_any (shares (anycast_at own).0) hosts) (by host.address host.kind p.0) ∙ others_share links hosts own there p.1
  where
    apart : (other : Address) → is_same_link (link_of links own.0) (link_of links other.0) ≡ false → (b : Bool) → ((anycast_at own).0 == (anycast_at other).0) ≡ b → b ≡ false
    apart other none false is = refl
    apart other none true is =
        let same : link_of links own.0 ≡ link_of links other.0 =
        sym (anycast_link links own) ∙ ap (λ (x : ℕ). link_of links x) (eqb-true (anycast_at own).0 (anycast_at other).0 is) ∙ anycast_link links other in
        let clash : true ≡ false = sym (same_link (link_of links own.0) there) ∙ ap (λ (o : Option ℕ). is_same_link (link_of links own.0) o) same ∙ none in absurd cc

    by : (address : Address) (kind : Kind) → is_agent_kind_on links (link_of links own.0) address kind ≡ false → shares_by (anycast_at own).0 address kind ≡ false
    by address (OfCorrespondent room) none = refl
    by address (OfMobile agent) none = refl
    by address (OfAgent preference life room serves) none = apart address none ((anycast_at own).0 == (anycast_at address).0) refl
