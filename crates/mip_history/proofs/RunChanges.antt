-- Each change keeps a run.
use Rattle.std.proofs.Common.{◌≡◌, ℕ, List, [], ◌∷◌, ◌++◌, true, false, length, refl, sym, ap, subst}
use Rattle.std.specs.Prelude.{Option, Some, None, is_some, slice_get}
use Rattle.std.proofs.lemmas.Option.{slice_get_within}
use Rattle.mip_words.specs.declared.address.Address.{Address}
use Rattle.mip_words.specs.declared.shield.Shield.{Shield}
use Rattle.mip_nonce.specs.Secrets.{Life}
use Rattle.mip_entries.specs.declared.entry.Entry.{Entry}
use Rattle.mip_entries.specs.declared.entry.Entry.TheVariants as entries
use Rattle.mip_entries.specs.Completed.{node_id}
use Rattle.mip_schedule.specs.declared.event.Event.{Event}
use Rattle.mip_links.specs.Table.{holder_outside}
use Rattle.mip_history.specs.Setup.{Setup, Host, Kind, is_mobile_host}
use Rattle.mip_history.specs.SetupLaws.{is_correspondent_host}
use Rattle.mip_history.specs.Setup.Kind.{Correspondent, Agent, Mobile}
use Rattle.mip_history.specs.Runs.{Run, note, with_agent_past}
use Rattle.mip_history.specs.Questions.{life_in}
use Rattle.mip_history.specs.Calls as calls
use Rattle.mip_history.specs.Calls.{Call, Take}
use Rattle.mip_history.specs.Knowing.{secrets_in}
use Rattle.mip_history.specs.Nodes.{by_host, acts}
use Rattle.mip_history.specs.Delivery.{handed_over}
use Rattle.mip_history.specs.Bound.{packet_in}
use Rattle.mip_history.specs.Shields.{is_shielded_in}
use Rattle.mip_history.proofs.Keeping.{IsHanded, emptied_by_host}
use Rattle.mip_history.proofs.Changes.{IsBy, Change, left, comes, injects, drops, squats, yields, acted, moved, reborn, gives, renewed}
use Rattle.mip_history.proofs.Walking.{left_idle}
use Rattle.mip_history.proofs.Numbers.{AreNumbered, posted_is}
use Rattle.mip_history.proofs.Shields.{AreShielded, shield_is}
use Rattle.mip_history.proofs.Runs.{IsRun, quiet_same, quiet_run, quiet_idle, quiet_entered, quiet_claims, quiet_gives_up}
use Rattle.mip_history.proofs.Handing.{handed_to}
use Rattle.mip_history.proofs.PartHanding.{handed_to_part}
use Rattle.mip_history.proofs.Acting.{noted_goes, quiet_agent_past, acts_goes, acts_calmly}
use Rattle.mip_history.proofs.Waiting.{at_comes}
use Rattle.mip_history.proofs.Restarting.{other_reborn, correspondent_reborn, mobile_reborn}

module _ (s : Setup) (run : Run) (is : IsRun s run) (numbered : AreNumbered s run) (shielded : AreShielded s run) where
  -- a packet is handed over
  handed_keeps : (n k : ℕ) (shield : Option Shield) (packet : List ℕ) → IsHanded run n k shield packet → IsRun s (acts s n (Take k shield packet) run)
  handed_keeps n k shield packet h =
      subst (λ (bytes : List ℕ). IsRun s (acts s n (Take k shield bytes) run)) (sym h.as_posted)
      (subst (λ (under : Option Shield). IsRun s (acts s n (Take k under (handed_over h.post.packet h.link)) run)) (sym h.under)
      (subst (λ (past : List Entry). IsRun s (acts s n (Take k h.post.shield (handed_over h.post.packet h.link)) (record run { past = past }))) (sym h.told) goes))
    where
      before : Run
      before = record run { past = h.earlier }

      here : IsRun s (note (entries.Handed k (node_id n)) (record run { past = h.earlier }))
      here = subst (λ (past : List Entry). IsRun s (record run { past = past })) h.told is

      found : packet_in (h.earlier ++ entries.Handed k (node_id n) ∷ []) k ≡ Some h.post.packet
      found = subst (λ (past : List Entry). packet_in past k ≡ Some h.post.packet) h.told (posted_is s run k h.post numbered h.posted)

      under : is_shielded_in (h.earlier ++ entries.Handed k (node_id n) ∷ []) k ≡ Some (is_some h.post.shield)
      under = subst (λ (past : List Entry). is_shielded_in past k ≡ Some (is_some h.post.shield)) h.told (shield_is s run k h.post shielded h.posted)

      goes : IsRun s (acts s n (Take k h.post.shield (handed_over h.post.packet h.link)) (note (entries.Handed k (node_id n)) (record run { past = h.earlier })))
      goes = (acts_goes s n (Take k h.post.shield (handed_over h.post.packet h.link)) (note (entries.Handed k (node_id n)) before) here
          (λ own room e. handed_to s k n h.post h.link before here found own room e) (λ own agent e. handed_to_part s k n h.post h.link before here found under own agent e)).run

  called : (event : Event) (n : ℕ) (call : Call) → IsBy s event run n call → IsRun s (acts s n call run)
  called event n (Take k shield packet) by = handed_keeps n k shield packet by.1
  called event n (calls.Restart secrets) by = absurd by
  called event n call by = (acts_calmly s n call run is refl).run

  -- a node begins its next life
  reborn_keeps : (n : ℕ) (o : Option Host) → slice_get s.hosts n ≡ o → is_mobile_host o ≡ false → IsRun s (note (entries.Restarted (node_id n)) (emptied_by_host n run o))
  reborn_keeps n None e unmoved = (other_reborn s run n is (ap is_correspondent_host e) (ap is_mobile_host e)).run
  reborn_keeps n (Some host) e unmoved = of_kind host.address host.kind e unmoved
    where
      of_kind : (own : Address) (kind : Kind) → slice_get s.hosts n ≡ Some (record { address = own; kind = kind }) → is_mobile_host (Some (record { address = own; kind = kind })) ≡ false
          → IsRun s (note (entries.Restarted (node_id n)) (emptied_by_host n run (Some (record { address = own; kind = kind }))))
      of_kind own (Correspondent room) e unmoved = (correspondent_reborn s run n is (slice_get_within s.hosts n _ e) (ap is_mobile_host e)).run
      of_kind own (Agent preference life room serves) e unmoved =
          let empty : Run = with_agent_past n [] run in
          (other_reborn s empty n (quiet_run s run empty (quiet_agent_past s n [] run) is) (ap is_correspondent_host e) (ap is_mobile_host e)).run
      of_kind own (Mobile agent) e unmoved = absurd cc

  renewed_keeps : (n : ℕ) (secrets : Life) → secrets ≡ secrets_in s n (life_in (run.past ++ entries.Restarted (node_id n) ∷ []) n) → (o : Option Host) → slice_get s.hosts n ≡ o → is_mobile_host o ≡ true
      → IsRun s (by_host s n (calls.Restart secrets) (note (entries.Restarted (node_id n)) run) o)
  renewed_keeps n secrets so None e mobile = absurd cc
  renewed_keeps n secrets so (Some host) e mobile = of_kind host.address host.kind e mobile
    where
      of_kind : (own : Address) (kind : Kind) → slice_get s.hosts n ≡ Some (record { address = own; kind = kind }) → is_mobile_host (Some (record { address = own; kind = kind })) ≡ true
          → IsRun s (by_host s n (calls.Restart secrets) (note (entries.Restarted (node_id n)) run) (Some (record { address = own; kind = kind })))
      of_kind own (Correspondent room) e mobile = absurd cc
      of_kind own (Agent preference life room serves) e mobile = absurd cc
      of_kind own (Mobile agent) e mobile =
          subst (λ (l : Life). IsRun s (by_host s n (calls.Restart l) (note (entries.Restarted (node_id n)) run) (Some (record { address = own; kind = Mobile agent })))) (sym so) (mobile_reborn s run n is own agent e).run

pub run_change : (s : Setup) (event : Event) (a b : Run) → Change s event a b → AreNumbered s a → AreShielded s a → IsRun s a → IsRun s b
run_change s event _ _ (left run e is) numbered shielded r = quiet_run s run (note e run) (quiet_idle s run run e (left_idle s event run e is) (quiet_same s run)) r
run_change s event _ _ (comes run m wait early) numbered shielded r = (at_comes s run m r early).run
run_change s event _ _ (injects run o link packet is) numbered shielded r =
    quiet_run s run _ (quiet_entered s (record { from = link.0; shield = None; packet = packet }) (entries.Injected (length run.posts) o link packet) run refl) r
run_change s event _ _ (drops run k) numbered shielded r = record { nodes = r.nodes; agents = r.agents; mobiles = r.mobiles; kept = r.kept; pasts = r.pasts; parts = r.parts }
run_change s event _ _ (squats run o address so) numbered shielded r = quiet_run s run _ (quiet_claims s (holder_outside o) address run) r
run_change s event _ _ (yields run o address so) numbered shielded r = quiet_run s run _ (quiet_gives_up s (holder_outside o) address run) r
run_change s event _ _ (acted run n call by) numbered shielded r = called s run r numbered shielded event n call by
run_change s event _ _ (moved run node link so is) numbered shielded r =
    let gone = acts_calmly s node.0 calls.Leave run r refl in (noted_goes s (acts s node.0 calls.Leave run) (entries.Moved node link) gone.run refl).run
run_change s event _ _ (reborn run node so is) numbered shielded r = reborn_keeps s run r numbered shielded node.0 (slice_get s.hosts node.0) refl is
run_change s event _ _ (gives run node address so is) numbered shielded r = quiet_run s run _ (quiet_gives_up s node.0 address run) r
run_change s event _ _ (renewed run node secrets so is life) numbered shielded r = renewed_keeps s run r numbered shielded node.0 secrets life (slice_get s.hosts node.0) refl is
