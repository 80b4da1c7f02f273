-- The opening claims, node by node; and what is kept of the nodes before the first event.
use Rattle.std.proofs.Common.{◌≡◌, Bool, ℕ, zero, suc, ◌+◌, ◌<◌, List, [], ◌∷◌, ◌++◌, length, refl, sym, ap, ◌∙◌, subst, arith, get_or}
use Rattle.std.specs.Prelude.{Option, Some, None, IfSome, map, slice_get, take}
use Rattle.std.proofs.lemmas.List.{append_assoc, append-nil, length-append, map-append, take_more}
use Rattle.mip_entries.specs.declared.entry.Entry.{Entry}
use Rattle.mip_entries.specs.Stamped.{Stamped}
use Rattle.mip_rules_correspondent.specs.Steps.{Step}
use Rattle.mip_rules_agent.specs.Steps as agents
use Rattle.mip_rules_mobile.specs.Steps as mobiles
use Rattle.mip_history.specs.Setup.{Setup, Host}
use Rattle.mip_links.specs.Table.{Post}
use Rattle.mip_history.specs.Runs.{Run}
use Rattle.mip_history.specs.Permitted.{claims_of, claims_from, opened}
use Rattle.mip_afresh.specs.declared.host.Host as declared_host
use Rattle.mip_afresh.specs.declared.role.Role.{Role}
use Rattle.mip_afresh.specs.Tellings.{host_seen}
use Rattle.mip_afresh.specs.Roles.{agent_past, mobile_past, IsOf, AreOf, IsFreshFor, AreFresh}

pub claims_more : (links : List ℕ) (before hosts : List Host) (host : Host) → claims_from links before (hosts ++ host ∷ []) ≡ claims_from links before hosts ++ claims_of links (before ++ hosts) host
claims_more links before [] host =
    append-nil (claims_of links before host) ∙ ap (λ (l : List Host). claims_of links l host) (sym (append-nil before))
claims_more links before (h ∷ hs) host =
    ap (λ (es : List Entry). claims_of links before h ++ es)
    (claims_more links (before ++ h ∷ []) hs host ∙ ap (λ (l : List Host). claims_from links (before ++ h ∷ []) hs ++ claims_of links l host) (append_assoc before (h ∷ []) hs))
    ∙ sym (append_assoc (claims_of links before h) (claims_from links (before ++ h ∷ []) hs) (claims_of links (before ++ h ∷ hs) host))

-- those of one node more
pub claims_next : (links : List ℕ) (hs : List declared_host.Host) (i : ℕ) (h : declared_host.Host) → i < length hs → h ≡ get_or hs i h
    → claims_from links [] (map host_seen (take i hs)) ++ claims_of links (map host_seen (take i hs)) (host_seen h) ≡ claims_from links [] (map host_seen (take (i + 1) hs))
claims_next links hs i h inside is =
    sym (ap (λ (l : List declared_host.Host). claims_from links [] (map host_seen l))
    (take_more hs i h inside ∙ ap (λ (x : declared_host.Host). take i hs ++ x ∷ []) (sym is))
    ∙ ap (claims_from links []) (map-append host_seen (take i hs) (h ∷ [])) ∙ claims_more links [] (map host_seen (take i hs)) (host_seen h))

-- nothing has happened to any node
empty_pasts : {X : Type 0} (f : Role → List X) (hosts : List Host) (roles : List Role) → length roles ≡ length hosts → ((n : ℕ) → IfSome (slice_get roles n) (λ r. f r ≡ [])) → map f roles ≡ map (λ (host : Host). let l : List X = [] in l) hosts
empty_pasts f [] [] same each = refl
empty_pasts f [] (r ∷ rs) same each = absurd cc
empty_pasts f (h ∷ hs) [] same each = absurd cc
empty_pasts f (h ∷ hs) (r ∷ rs) same each =
    ap (λ (l : List _). l ∷ map f rs) (each zero) ∙ ap (λ (l : List (List _)). [] ∷ l) (empty_pasts f hs rs (let less : length rs ≡ length hs = cc in less) (λ (n : ℕ). each (suc n)))

if_some : {X : Type 0} (P Q : X → Type 0) (o : Option X) → ((x : X) → P x → Q x) → IfSome o P → IfSome o Q
if_some P Q None go p = tt
if_some P Q (Some x) go p = go x p

pub fresh_agents : (s : Setup) (roles : List Role) → AreFresh s (length s.hosts) roles → map agent_past roles ≡ map (λ (host : Host). let l : List (Stamped agents.Step) = [] in l) s.hosts
fresh_agents s roles f = empty_pasts agent_past s.hosts roles f.long (λ (n : ℕ). if_some (IsFreshFor s n) (λ (r : Role). agent_past r ≡ []) (slice_get roles n) (λ (r : Role) (is : IsFreshFor s n r). is.agent) (f.each n))

pub fresh_mobiles : (s : Setup) (roles : List Role) → AreFresh s (length s.hosts) roles → map mobile_past roles ≡ map (λ (host : Host). let l : List (Stamped mobiles.Step) = [] in l) s.hosts
fresh_mobiles s roles f = empty_pasts mobile_past s.hosts roles f.long (λ (n : ℕ). if_some (IsFreshFor s n) (λ (r : Role). mobile_past r ≡ []) (slice_get roles n) (λ (r : Role) (is : IsFreshFor s n r). is.mobile) (f.each n))

pub fresh_of : (s : Setup) (roles : List Role) → AreFresh s (length s.hosts) roles → AreOf s roles
fresh_of s roles f n = if_some (IsFreshFor s n) (IsOf s n) (slice_get roles n) (λ (r : Role) (is : IsFreshFor s n r). is.is) (f.each n)

-- one more
more_get : (P : ℕ → Role → Type 0) (roles : List Role) (role : Role) → ((n : ℕ) → IfSome (slice_get roles n) (P n)) → P (length roles) role → (n : ℕ) → IfSome (slice_get (roles ++ role ∷ []) n) (P n)
more_get P [] role each p zero = p
more_get P [] role each p (suc n) = tt
more_get P (r ∷ rs) role each p zero = each zero
more_get P (r ∷ rs) role each p (suc n) = more_get (λ (k : ℕ). P (suc k)) rs role (λ (k : ℕ). each (suc k)) p n

pub fresh_more : (s : Setup) (count : ℕ) (roles : List Role) (role : Role) → AreFresh s count roles → IsFreshFor s count role → AreFresh s (count + 1) (roles ++ role ∷ [])
fresh_more s count roles role f is = record {
  long = length-append roles (role ∷ []) ∙ (let long = f.long in omega (arith, long));
  each = more_get (IsFreshFor s) roles role f.each (subst (λ (k : ℕ). IsFreshFor s k role) (sym f.long) is);
}

-- and so the run is as it is before the first event
pub opened_so : (s : Setup) (past : List Entry) (ps : List (List (Stamped Step))) (xs : List (List (Stamped agents.Step))) (ys : List (List (Stamped mobiles.Step))) (posts : List Post) (flying : List Bool)
    → past ≡ claims_from s.links [] s.hosts → ps ≡ map (λ (host : Host). let l : List (Stamped Step) = [] in l) s.hosts → xs ≡ map (λ (host : Host). let l : List (Stamped agents.Step) = [] in l) s.hosts
    → ys ≡ map (λ (host : Host). let l : List (Stamped mobiles.Step) = [] in l) s.hosts → posts ≡ [] → flying ≡ []
    → ◌≡◌ {A = Run} (record { past = past; pasts = ps; agent_pasts = xs; mobile_pasts = ys; posts = posts; flying = flying }) (opened s)
opened_so s past ps xs ys posts flying a p b c d e = cc
