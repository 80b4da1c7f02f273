-- A packet that was heard and noted as handed over leaves a run as it was for its nodes.
use Rattle.std.proofs.Common.{◌≡◌, ℕ, List, Bool, true, false, refl, sym, ap, ◌∙◌, subst}
use Rattle.std.specs.Prelude.{Option, Some, None, if◌then◌else◌}
use Rattle.mip_words.specs.declared.shield.Shield.{Shield}
use Rattle.mip_words.specs.declared.ids.NodeId.{NodeId}
use Rattle.mip_entries.specs.declared.entry.Entry.TheVariants.{Handed as Hands}
use Rattle.mip_links.specs.Table.{Post}
use Rattle.mip_history.specs.Setup.{Setup}
use Rattle.mip_history.specs.Runs.{Run, note, without}
use Rattle.mip_history.specs.Calls.{Take}
use Rattle.mip_history.specs.Nodes.{acts}
use Rattle.mip_history.specs.Delivery.{arrival_link, overheard_at, delivered}
use Rattle.mip_history.proofs.Keeping.{keeps_overheard}
use Rattle.mip_history.proofs.Runs.{IsRun, IsQuiet, Goes, quiet_same, quiet_then, quiet_one, quiet_idle, goes_quietly}
use Rattle.mip_afresh.specs.declared.arriving.Arrival.{Arrival}
use Rattle.mip_afresh.specs.declared.arriving.Arrival.TheVariants.{Done, Handed}
use Rattle.mip_afresh.specs.Tellings.{TellingSeen, with_run}
use Rattle.mip_afresh.specs.Arrivals.{IsHandedOver, Arrives}

quiet_without : (s : Setup) (run : Run) (k : ℕ) (keep : Bool) → IsQuiet s run (if keep then run else without k run)
quiet_without s run k true = quiet_same s run
quiet_without s run k false = record { pasts = refl; agents = refl; mobiles = refl; accepted = λ n. refl; moment = refl; life = λ n. refl; kept = λ k. k }

quiet_overheard : (s : Setup) (post : Post) (k : ℕ) (link : Option ℕ) (run : Run) → IsQuiet s run (overheard_at s post k link run)
quiet_overheard s post k None run = quiet_same s run
quiet_overheard s post k (Some link) run = keeps_overheard s (IsQuiet s run) (quiet_idle s run) link post.shield None k run (quiet_same s run)

quiet_handed : (s : Setup) (before after : Run) (k : ℕ) (node : NodeId) → IsHandedOver s before after k node → IsQuiet s before after
quiet_handed s before after k node is =
    let heard = overheard_at s is.post k (arrival_link s is.post) before in
    subst (IsQuiet s before) (sym is.is)
    (quiet_then s before heard (note (Hands k node) heard) (quiet_overheard s is.post k (arrival_link s is.post) before) (quiet_one s heard (Hands k node) refl))

-- where a packet was handed to a node, the run in which that acts is a run; and what the node does completes the delivery
module _ (old new : TellingSeen) (k : ℕ) (keep : Bool) (a : Arrival) (arrives : Arrives old new k keep a) where
  module _ (node : NodeId) (shield : Option Shield) (packet : List ℕ) (e : a ≡ Handed node shield packet) where
    here : Arrives old new k keep (Handed node shield packet)
    here = subst (Arrives old new k keep) e arrives

    goes : IsRun old.setup old.run → Goes old.setup old.run new.run
    goes run =
        let left : Run = if keep then old.run else without k old.run in
        goes_quietly old.setup old.run new.run run
        (quiet_then old.setup old.run left new.run (quiet_without old.setup old.run k keep) (quiet_handed old.setup left new.run k node here.reached))

    pub handed_run : IsRun old.setup old.run → IsRun new.setup new.run
    handed_run run = subst (λ (s : Setup). IsRun s new.run) (sym here.same) (goes run).run

    pub handed_whole : with_run (acts new.setup node.0 (Take k shield packet) new.run) new ≡ with_run (delivered old.setup old.run k keep) old
    handed_whole =
        ap (λ (s : Setup). let t : TellingSeen = record { setup = s; run = acts s node.0 (Take k shield packet) new.run } in t) here.same
        ∙ ap (λ (run : Run). with_run run old) here.whole

  -- and where nobody acts, it is complete
  pub done_whole : a ≡ Done → new ≡ with_run (delivered old.setup old.run k keep) old
  done_whole e =
      let here = subst (Arrives old new k keep) e arrives in
      ap (λ (s : Setup). let t : TellingSeen = record { setup = s; run = new.run } in t) here.same
      ∙ ap (λ (run : Run). with_run run old) here.whole
