-- Whether an agent is the first one of its link.
use Rattle.std.proofs.Common.{◌≡◌, ℕ, zero, suc, ◌+◌, ◌<◌, List, [], ◌∷◌, ◌++◌, length, Bool, true, false, refl, ap, ◌∙◌, arith}
use Rattle.std.proofs.lemmas.List.{take_more}
use Rattle.std.proofs.lemmas.List.Folds.{list_any-append}
use Rattle.std.proofs.lemmas.Bool.{or_left, or_right}
use Rattle.std.specs.Prelude.{Option, Some, None, is_some, not, ◌&&◌, ◌||◌, take, get_or, if◌then◌else◌}
use Rattle.std.specs.List.{list_any}
use Rattle.mip_words.specs.declared.address.Address.{Address}
use Rattle.mip_links.specs.Table.{link_of}
use Rattle.mip_history.specs.Setup.{Host, Kind}
use Rattle.mip_history.specs.Setup.Kind.{Correspondent as OfCorrespondent, Agent as OfAgent, Mobile as OfMobile}
use Rattle.mip_history.specs.Permitted.{is_same_link, is_agent_kind_on, is_agent_on, is_first_agent, anycast_at}
use Rattle.mip_roles.specs.Nodes.{NodeSeen, router_by}
use Rattle.mip_engine.specs.Joining.{hosts_of, anycast_for}

-- an agent, and on this link
pub agent_on : (links : List ℕ) (link : Option ℕ) (own : Address) (kind : Kind) → is_agent_kind_on links link own kind ≡ (is_some (router_by own kind) && is_same_link link (link_of links own.0))
agent_on links link own (OfCorrespondent room) = refl
agent_on links link own (OfAgent preference life room serves) = refl
agent_on links link own (OfMobile agent) = refl

first_is : (links : List ℕ) (before : List Host) (own : Address) (kind : Kind)
    → is_first_agent links before own kind ≡ (is_some (router_by own kind) && not (list_any (is_agent_on links (link_of links own.0)) before))
first_is links before own (OfCorrespondent room) = refl
first_is links before own (OfAgent preference life room serves) = refl
first_is links before own (OfMobile agent) = refl

pub first_agent : (links : List ℕ) (before : List Host) (host : Host)
    → anycast_for links before host ≡ (if is_some (router_by host.address host.kind) && not (list_any (is_agent_on links (link_of links host.address.0)) before) then Some (anycast_at host.address) else None)
first_agent links before host = ap (λ (b : Bool). if b then Some (anycast_at host.address) else None) (first_is links before host.address host.kind)

hosts-append : (xs ys : List NodeSeen) → hosts_of (xs ++ ys) ≡ hosts_of xs ++ hosts_of ys
hosts-append [] ys = refl
hosts-append (x ∷ xs) ys = ap (λ (l : List Host). x.host ∷ l) (hosts-append xs ys)

-- none so far, and not this one
pub none_more : (is : Host → Bool) (nodes : List NodeSeen) (i : ℕ) (d : NodeSeen) → i < length nodes → list_any is (hosts_of (take i nodes)) ≡ false → is (get_or nodes i d).host ≡ false
    → list_any is (hosts_of (take (i + 1) nodes)) ≡ false
none_more is nodes i d inside none this =
    ap (λ (l : List NodeSeen). list_any is (hosts_of l)) (take_more nodes i d inside)
    ∙ ap (list_any is) (hosts-append (take i nodes) (get_or nodes i d ∷ []))
    ∙ list_any-append is (hosts_of (take i nodes)) ((get_or nodes i d).host ∷ [])
    ∙ ap (λ (b : Bool). b || (is (get_or nodes i d).host || false)) none
    ∙ ap (λ (b : Bool). b || false) this

-- one is
pub any_here : (is : Host → Bool) (nodes : List NodeSeen) (i : ℕ) (d : NodeSeen) → i < length nodes → is (get_or nodes i d).host ≡ true → list_any is (hosts_of nodes) ≡ true
any_here is [] i d inside this = absurd (let e : i < 0 = inside in omega (arith, e))
any_here is (x ∷ xs) zero d inside this = or_left (is x.host) (list_any is (hosts_of xs)) this
any_here is (x ∷ xs) (suc i) d inside this = or_right (is x.host) (list_any is (hosts_of xs)) (any_here is xs i d (let e : suc i < suc (length xs) = inside in omega (arith, e)) this)
