-- The entries of every schedule that keeps to its declarations are of what is declared.
use Rattle.std.proofs.Common.{◌≡◌, ℕ, ◌+◌, ◌<◌, ◌≤◌, List, [], ◌∷◌, ◌++◌, Bool, true, false, length, inl, inr, refl, sym, arith, length-append, subst}
use Rattle.std.specs.Prelude.{Option, Some, None, unwrap_or, if◌then◌else◌}
use Rattle.std.specs.List.{AllByRecursion}
use Rattle.std.proofs.lemmas.Option.{slice_get_within}
use Rattle.mip_words.specs.declared.address.Address.{Address}
use Rattle.mip_words.specs.declared.ids.LinkId.{LinkId}
use Rattle.mip_entries.specs.declared.entry.Entry.{Entry}
use Rattle.mip_entries.specs.declared.entry.Entry.TheVariants as entries
use Rattle.mip_schedule.specs.Lawful.{IsLink, IsOutsider, IsWithin}
use Rattle.mip_symbols.specs.declared.declaration.Declaration.{Declaration}
use Rattle.mip_schedule.specs.declared.event.Event.{Event}
use Rattle.mip_schedule.specs.declared.event.Event.TheVariants.{Inject, Probe, Bind, Tell}
use Rattle.mip_links.specs.Table.{Fate, link_of, outsider_of, holder_outside}
use Rattle.mip_links.specs.Table.Fate.{Gone, Outsider, Node}
use Rattle.mip_history.specs.Setup.{Setup, Host}
use Rattle.mip_history.specs.Runs.{Run, note}
use Rattle.mip_history.specs.Calls as calls
use Rattle.mip_history.specs.Claims.{link_id}
use Rattle.mip_history.specs.Nodes.{acts}
use Rattle.mip_history.specs.Permitted.{is_first_agent, anycast_at, claimed_entry, claims_of, claims_from, opened, run_of}
use Rattle.mip_history.specs.Naming.{IsDeclared}
use Rattle.mip_history.proofs.Reasons.{all_append}
use Rattle.mip_history.proofs.Declaring.{IsOf, P, d-note, link_is, node_is, d-claims, d-gives_up, d-acts, IsRight, delivery_right}
use Rattle.mip_history.proofs.Keeping.{emptied}
use Rattle.mip_history.proofs.Changes.{Injects, IsFate, IsHeard, IsLeft, Change, left, comes, injects, drops, squats, yields, acted, moved, reborn, gives, renewed, schedule_keeps}
use Rattle.mip_history.proofs.Folds.{emptied_past}

-- who injects
injector : (numbered : Bool) (ds : List Declaration) (event : Event) (o : ℕ) (link : LinkId) → Injects event o link → IsWithin numbered ds event → IsOutsider ds o × IsLink ds link
injector numbered ds (Inject outsider on packet) o link is within = (subst (IsOutsider ds) is.0 within.0, subst (IsLink ds) is.1 within.1)
injector numbered ds (Probe outsider on careof source peer cookie) o link is within = (subst (IsOutsider ds) is.0 within.0, subst (IsLink ds) is.1 within.1)
injector numbered ds (Bind outsider on ends sequence lifetime kh kc number) o link is within = (subst (IsOutsider ds) is.0 within.0, subst (IsLink ds) is.1 within.1)
injector numbered ds (Tell outsider on kt kp) o link is within = (subst (IsOutsider ds) is.0 within.0, subst (IsLink ds) is.1 within.1)
injector numbered ds _ o link is within = absurd is

all_front : {X : Type 0} (F : X → Type 0) (xs ys : List X) → AllByRecursion F (xs ++ ys) → AllByRecursion F xs
all_front F [] ys all = tt
all_front F (x ∷ xs) ys all = (all.0, all_front F xs ys all.1)

module _ (numbered : Bool) (ds : List Declaration) (s : Setup) (of : IsOf ds s) where
  abbrev Q : Run → Type 0
  Q run = P ds s of run

  note-it : (e : Entry) (run : Run) → IsDeclared ds e → Q run → Q (note e run)
  note-it e run is q = d-note ds s of e run is q

  -- opening claims
  claimed_is : (n : ℕ) (address : Address) → n < length s.hosts → IsDeclared ds (claimed_entry s.links n address)
  claimed_is n address within = (inl (node_is ds s of n within), by (link_of s.links address.0) refl)
    where
      by : (o : Option ℕ) → link_of s.links address.0 ≡ o → IsLink ds (link_id (unwrap_or o 0))
      by None e = omega (arith, of.links, of.linked (omega (arith, within)))
      by (Some link) e = link_is ds s of address.0 link e

  host_claims : (before : List Host) (host : Host) → length before < length s.hosts → AllByRecursion (IsDeclared ds) (claims_of s.links before host)
  host_claims before host within = (claimed_is (length before) host.address within, by (is_first_agent s.links before host.address host.kind))
    where
      by : (b : Bool) → AllByRecursion (IsDeclared ds) (if b then claimed_entry s.links (length before) (anycast_at host.address) ∷ [] else [])
      by true = (claimed_is (length before) (anycast_at host.address) within, tt)
      by false = tt

  claims_are : (before hosts : List Host) → length before + length hosts ≤ length s.hosts → AllByRecursion (IsDeclared ds) (claims_from s.links before hosts)
  claims_are before [] within = tt
  claims_are before (host ∷ hosts) within =
      all_append (IsDeclared ds) (claims_of s.links before host) (claims_from s.links (before ++ host ∷ []) hosts)
      (host_claims before host (omega (arith, within)))
      (claims_are (before ++ host ∷ []) hosts (omega (arith, within, length-append before (host ∷ []))))

  -- what becomes of a packet
  fate_right : (event : Event) (run : Run) (k : ℕ) (fate : Fate) → IsFate s event run k fate → Q run → IsRight ds s of fate
  fate_right event run k fate is q =
      subst (IsRight ds s of) is.comes
      (delivery_right ds s of (record run { past = is.front }) (Some is.post)
      (all_front (IsDeclared ds) is.front is.heard (subst (λ (l : List Entry). AllByRecursion (IsDeclared ds) l) is.whole q)))

  heard_is : (event : Event) (run : Run) (k o : ℕ) → IsHeard s event run k o → Q run → IsOutsider ds o
  heard_is event run k o is q = elim is.by as (λ _. IsOutsider ds o) [
    | inl within ↦ omega (arith, within, of.outsiders)
    | inr (who, fate, same) ↦ (let right : outsider_of who < s.outsiders = fate_right event run k (Outsider who) fate q in omega (arith, right, same, of.outsiders))
  ]

  left_is : (event : Event) → IsWithin numbered ds event → (run : Run) (e : Entry) → IsLeft s event run e → Q run → IsDeclared ds e
  left_is event bounds run entries.Idle is q = tt
  left_is event bounds run (entries.Heard k o) is q = heard_is event run k o is q
  left_is event bounds run (entries.Handed k node) is q = node_is ds s of node.0 (fate_right event run k (Node node.0) is q)
  left_is event bounds run (entries.Gone k why) is q = fate_right event run k (Gone why) is q
  left_is event bounds run (entries.Lost k) is q = tt
  left_is event bounds run (entries.Listening o link) is q = subst (IsWithin numbered ds) is bounds
  left_is event bounds run (entries.Deafened o link) is q = subst (IsWithin numbered ds) is bounds
  left_is event bounds run (entries.Settled a b value) is q = subst (IsWithin numbered ds) is bounds
  left_is event bounds run (entries.Advertised node link router) is q = (node_is ds s of node.0 is.1, subst (IsWithin numbered ds) is.0 bounds)
  left_is event bounds run (entries.Row node home number careof sequence end kept) is q = node_is ds s of node.0 is.1
  left_is event bounds run _ is q = absurd is

  change : (event : Event) → IsWithin numbered ds event → (a b : Run) → Change s event a b → Q a → Q b
  change event bounds _ _ (left run e is) q = note-it e run (left_is event bounds run e is q) q
  change event bounds _ _ (comes run m wait early) q = note-it (entries.At (record { 0 = m })) run tt q
  change event bounds _ _ (injects run o link packet is) q = note-it (entries.Injected (length run.posts) o link packet) run (injector numbered ds event o link is bounds) q
  change event bounds _ _ (drops run k) q = q
  change event bounds _ _ (squats run o address so) q = d-claims ds s of (holder_outside o) address run (inr (o, (subst (IsWithin numbered ds) so bounds).0, omega arith)) q
  change event bounds _ _ (yields run o address so) q = d-gives_up ds s of (holder_outside o) address run (inr (o, (subst (IsWithin numbered ds) so bounds).0, omega arith)) q
  change event bounds _ _ (acted run n call is) q = d-acts ds s of n call run q
  change event bounds _ _ (moved run node link so is) q =
      note-it (entries.Moved node link) (acts s node.0 calls.Leave run) (subst (IsWithin numbered ds) so bounds) (d-acts ds s of node.0 calls.Leave run q)
  change event bounds _ _ (reborn run node so is) q =
      note-it (entries.Restarted node) (emptied s node.0 run) (subst (IsWithin numbered ds) so bounds) (subst (AllByRecursion (IsDeclared ds)) (sym (emptied_past s node.0 run)) q)
  change event bounds _ _ (gives run node address so is) q = d-gives_up ds s of node.0 address run (inl (node_is ds s of node.0 (slice_get_within s.hosts node.0 _ is.host))) q
  change event bounds _ _ (renewed run node secrets so is life) q =
      d-acts ds s of node.0 (calls.Restart secrets) (note (entries.Restarted node) run) (note-it (entries.Restarted node) run (subst (IsWithin numbered ds) so bounds) q)

  pub declared_run : (events : List Event) → AllByRecursion (IsWithin numbered ds) events → Q (run_of s events)
  declared_run events bounds = schedule_keeps s Q (IsWithin numbered ds) change (opened s) events bounds (claims_are [] s.hosts (omega arith))
