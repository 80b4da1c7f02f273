-- A home address that is given up passes to its mobile, where that is at home.
use Rattle.std.proofs.Common.{◌≡◌, ℕ, zero, suc, ◌+◌, ◌<◌, length, Bool, true, false, refl, sym, ap, ◌∙◌, subst, arith, ◌≢◌, ◌⊎◌, inl, inr}
use Rattle.std.proofs.lemmas.Bool.{cases_eq}
use Rattle.std.proofs.Math.Path.{fun_ext}
use Rattle.std.specs.Prelude.{Option, Some, None, option_map, slice_get, is_some, if◌then◌else◌, ◌==◌, ◌&&◌}
use Rattle.std.specs.Option.{option_map_or}
use Rattle.mip_words.specs.declared.address.Address.{Address}
use Rattle.mip_words.specs.Last.{or_else}
use Rattle.mip_history.specs.Setup.{Setup, Host, Kind}
use Rattle.mip_history.specs.Setup.Kind.{Correspondent, Agent, Mobile}
use Rattle.mip_history.specs.Runs.{Run, note}
use Rattle.mip_history.specs.Knowing.{mobile_known_in}
use Rattle.mip_history.specs.Homes as homes
use Rattle.mip_history.specs.Homes.{first_below, is_at_home, lives_by_host, lives_by_kind, resident, given_up_on, left_on}
use Rattle.mip_history.specs.Claims.{link_id}
use Rattle.mip_entries.specs.declared.entry.Entry.TheVariants.{Released, Idle}
use Rattle.std.proofs.lemmas.Bool.Decides.{nat_tests}
use Rattle.mip_links.proofs.NetLaws.{holder-put}
use Rattle.mip_links.specs.Nets.{NetSeen, refusal, holder_of, is_held_by, taken_by}
use Rattle.mip_links.specs.Table.{Asked, link_of}
use Rattle.mip_links.specs.declared.claim_fault.ClaimFault.TheVariants.{NoLink}
use Rattle.mip_roles.specs.Nodes.{NodeSeen}
use Rattle.mip_roles.specs.Roles.{lives_in}
use Rattle.mip_engine.specs.Engines.{EngineSeen, IsFree, lives_at, resident_of, released, with_entry, with_net}
use Rattle.mip_engine.specs.Standing.{IsAt, node_in, role_in}
use Rattle.mip_engine.proofs.HomeLaws.{home_in}
use Rattle.mip_engine.proofs.ClaimLaws.{at_released}

-- nothing yet, and one number more
pub none_yet : (is : ℕ → Bool) (n : ℕ) → first_below is n ≡ None → is n ≡ false → first_below is (n + 1) ≡ None
none_yet is n none not_here =
    let next : suc n ≡ n + 1 = omega arith in
    subst (λ (m : ℕ). first_below is m ≡ None) next (rw (none, not_here) refl)

-- the first one stays the first
first_next : (is : ℕ → Bool) (n m : ℕ) → first_below is n ≡ None → is n ≡ true → (n ≡ m) ⊎ (n ≢ m) → (n < m → first_below is m ≡ Some n) → n < suc m → first_below is (suc m) ≡ Some n
first_next is n m none here (inl same) before inside = subst (λ (k : ℕ). first_below is (suc k) ≡ Some n) same
    (ap (λ (o : Option ℕ). or_else o (if is n then Some n else None)) none ∙ ap (λ (b : Bool). if b then Some n else None) here)
first_next is n m none here (inr other) before inside =
    ap (λ (o : Option ℕ). or_else o (if is m then Some m else None)) (before (omega (arith, other, inside)))

pub first_here : (is : ℕ → Bool) (n count : ℕ) → first_below is n ≡ None → is n ≡ true → n < count → first_below is count ≡ Some n
first_here is n zero none here inside = absurd (omega (arith, inside))
first_here is n (suc m) none here inside = first_next is n m none here (cases_eq n m) (λ less. first_here is n m none here less) inside

-- what nobody has may be claimed
pub free_claimed : (net : NetSeen) (who address : ℕ) → IsFree net address → refusal net who address ≡ None
free_claimed net who address free =
    ap (λ (b : Bool). if b then taken_by (holder_of net.rows address) who else Some NoLink) free.0
    ∙ ap (λ (o : Option ℕ). taken_by o who) free.1

-- the mobile that is at home in the engine is the one of the run
module _ (e : EngineSeen) (s : Setup) (run : Run) (at : IsAt e s run) (address : ℕ) where
  lives_kind : (n : ℕ) (own : Address) (kind : Kind) → lives_in (role_in s run n own kind) address ≡ lives_by_kind s run address n own kind
  lives_kind n own (Correspondent room) = refl
  lives_kind n own (Agent preference life room serves) = refl
  lives_kind n own (Mobile agent) =
      ap (λ (h : Address). (h.0 == address) && is_at_home (mobile_known_in s run n own agent).standing) (home_in s run n own agent)

  lives_here : (n : ℕ) (o : Option Host) → option_map_or (λ (c : NodeSeen). lives_in c.role address) (option_map (node_in s run n) o) false ≡ lives_by_host s run address n o
  lives_here n None = refl
  lives_here n (Some host) = lives_kind n host.address host.kind

  lives_same : (n : ℕ) → lives_at e.nodes address n ≡ homes.lives_at s run address n
  lives_same n =
      ap (λ (o : Option NodeSeen). option_map_or (λ (c : NodeSeen). lives_in c.role address) o false) (at.nodes n) ∙ lives_here n (slice_get s.hosts n)

  pub resident_same : resident_of e.nodes address ≡ resident s run address
  resident_same =
      ap (λ (is : ℕ → Bool). first_below is (length e.nodes)) (fun_ext lives_same)
      ∙ ap (first_below (homes.lives_at s run address)) at.count

-- an address that was held and is given up is free
pub freed : (net : NetSeen) (who l : ℕ) (a : Address) → link_of net.links a.0 ≡ Some l → is_held_by (holder_of net.rows a.0) who ≡ true → IsFree (released net who a) a.0
freed net who l a on held = rw held (ap is_some on, holder-put net.rows a.0 None a.0 ∙ none (holder_of net.rows a.0))
  where
    none : (o : Option ℕ) → (if a.0 == a.0 then None else o) ≡ None
    none o = grind (arith, nat_tests)

-- it is given up, and passes to its mobile
pub at_given_up : (e : EngineSeen) (s : Setup) (run : Run) (who l : ℕ) (a : Address) → is_held_by (holder_of e.net.rows a.0) who ≡ true → IsAt e s run
    → IsAt (with_entry (Released who (link_id l) a) (with_net (released e.net who a) e)) s (note (Released who (link_id l) a) run)
at_given_up e s run who l a held at = rw held (at_released e s run who l a at)

pub given_up_is : (e : EngineSeen) (s : Setup) (run : Run) (who l : ℕ) (a : Address) (b : Bool) → is_held_by (holder_of e.net.rows a.0) who ≡ b → IsAt e s run
    → given_up_on s who a run (Some l) ≡ (if b then left_on s who a l run else note Idle run)
given_up_is e s run who l a b held at =
    ap (λ (t : Bool). if t then left_on s who a l run else note Idle run)
    (ap (λ (q : Asked). is_held_by (q.holder a.0) who) (sym at.asked) ∙ held)

-- nothing is given up by one that does not hold it
pub at_kept : (e : EngineSeen) (s : Setup) (run : Run) (who : ℕ) (a : Address) → is_held_by (holder_of e.net.rows a.0) who ≡ false → IsAt e s run → IsAt (with_net (released e.net who a) e) s run
at_kept e s run who a held at = rw held at
