-- A node joins, and the first agent of a link has the anycast address there, too.
use Rattle.std.proofs.Common.{◌≡◌, ◌≢◌, ℕ, ◌<◌, List, [], ◌∷◌, ◌++◌, length, Bool, true, false, Option, Some, None, refl, sym, ap, ◌∙◌, subst}
use Rattle.std.proofs.lemmas.Bool.{ne_eqb}
use Rattle.std.specs.Prelude.{if◌then◌else◌}
use Rattle.mip_words.specs.declared.address.Address.{Address}
use Rattle.mip_links.specs.Nets.{NetSeen, holder_of, claimed}
use Rattle.mip_links.specs.Table.{Asked}
use Rattle.mip_history.specs.Setup.{Setup, Host}
use Rattle.mip_history.specs.Runs.{note}
use Rattle.mip_history.specs.Permitted.{is_first_agent, anycast_at, claimed_entry, opened}
use Rattle.mip_engine.specs.Engines.{EngineSeen, IsFree}
use Rattle.mip_engine.specs.Joining.{hosts_of, anycast_for}
use Rattle.mip_engine.specs.Openings.{with_hosts, CanShare}
use Rattle.mip_engine.specs.Standing.{IsAt}
use Rattle.mip_links.proofs.NetLaws.{holder-put}
use Rattle.mip_engine.proofs.OpenLaws.{arrived, opened_next}
use Rattle.mip_engine.proofs.JoinLaws.{hosts_at}

-- another address is as free as before, once a node has its own
pub share_free : (net : NetSeen) (who : ℕ) (own a : Address) → IsFree net a.0 → a.0 ≢ own.0 → IsFree (claimed net who own) a.0
share_free net who own a free other = (
  free.0,
  holder-put net.rows own.0 (Some who) a.0 ∙ ap (λ (b : Bool). if b then Some who else holder_of net.rows a.0) (ne_eqb a.0 own.0 other) ∙ free.1,
)

the_same : (a b : Address) → ◌≡◌ {A = Option Address} (Some a) (Some b) → a ≡ b
the_same a b e = cc

pub can_share : (net : NetSeen) (own : ℕ) (o : Option Address) (a : Address) → CanShare net own o → Some a ≡ o → IsFree net a.0 × (a.0 ≢ own)
can_share net own None a can is = absurd cc
can_share net own (Some b) a can is = let same : a ≡ b = the_same a b is in subst (λ (x : Address). IsFree net x.0 × (x.0 ≢ own)) (sym same) can

module _ (e : EngineSeen) (s : Setup) (hosts : List Host) (host : Host) (small : length e.nodes < 32)
    (at : IsAt e (with_hosts hosts s) (opened (with_hosts hosts s))) where
  any_is : anycast_for e.net.links (hosts_of e.nodes) host ≡ anycast_for s.links hosts host
  any_is =
      ap (λ (q : Asked). anycast_for q.links (hosts_of e.nodes) host) at.asked
      ∙ ap (λ (hs : List Host). anycast_for s.links hs host) (hosts_at e (with_hosts hosts s) (opened (with_hosts hosts s)) at)

  abbrev first : Bool
  first = is_first_agent s.links hosts host.address host.kind

  pub joined_none : None ≡ anycast_for e.net.links (hosts_of e.nodes) host → arrived e s hosts host small at ≡ opened (with_hosts (hosts ++ host ∷ []) s)
  joined_none none = by first refl
    where
      by : (b : Bool) → first ≡ b → arrived e s hosts host small at ≡ opened (with_hosts (hosts ++ host ∷ []) s)
      by false is = opened_next e s hosts host small at false is
      by true is =
          let clash : ◌≡◌ {A = Option Address} None (Some (anycast_at host.address)) = none ∙ any_is ∙ ap (λ (b : Bool). if b then Some (anycast_at host.address) else None) is in
          absurd cc

  pub joined_some : (a : Address) → Some a ≡ anycast_for e.net.links (hosts_of e.nodes) host
      → note (claimed_entry s.links (length e.nodes) a) (arrived e s hosts host small at) ≡ opened (with_hosts (hosts ++ host ∷ []) s)
  joined_some a some = by first refl
    where
      by : (b : Bool) → first ≡ b → note (claimed_entry s.links (length e.nodes) a) (arrived e s hosts host small at) ≡ opened (with_hosts (hosts ++ host ∷ []) s)
      by false is =
          let clash : ◌≡◌ {A = Option Address} (Some a) None = some ∙ any_is ∙ ap (λ (b : Bool). if b then Some (anycast_at host.address) else None) is in
          absurd cc
      by true is =
          let same : a ≡ anycast_at host.address = the_same a (anycast_at host.address) (some ∙ any_is ∙ ap (λ (b : Bool). if b then Some (anycast_at host.address) else None) is) in
          ap (λ (n : ℕ). note (claimed_entry s.links n a) (arrived e s hosts host small at)) at.count
          ∙ ap (λ (x : Address). note (claimed_entry s.links (length hosts) x) (arrived e s hosts host small at)) same
          ∙ opened_next e s hosts host small at true is
