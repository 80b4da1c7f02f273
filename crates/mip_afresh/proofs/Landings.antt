-- What becomes of a packet, by what it comes to.
use Rattle.std.proofs.Common.{◌≡◌, ℕ, List, Bool, true, false, refl, sym, ap, ◌∙◌, subst}
use Rattle.std.specs.Prelude.{Option, Some, None, if◌then◌else◌}
use Rattle.mip_words.specs.declared.shield.Shield.{Shield}
use Rattle.mip_words.specs.declared.ids.NodeId.{NodeId}
use Rattle.mip_entries.specs.declared.entry.Entry.{Entry}
use Rattle.mip_entries.specs.declared.entry.Entry.TheVariants as entries
use Rattle.mip_links.specs.Table as table
use Rattle.mip_links.specs.Table.{Post, in_pool}
use Rattle.mip_history.specs.Setup.{Setup}
use Rattle.mip_history.specs.Runs.{Run, note, without}
use Rattle.mip_history.specs.Calls.{Take}
use Rattle.mip_history.specs.Nodes.{acts}
use Rattle.mip_history.specs.Delivery.{arrival_link, handed_over, overheard_at, handed, became, arrived, delivered}
use Rattle.mip_afresh.specs.declared.fate.Fate.{Fate}
use Rattle.mip_afresh.specs.declared.fate.Fate.TheVariants.{Node}
use Rattle.mip_afresh.specs.declared.landing.Landing.{Landing}
use Rattle.mip_afresh.specs.declared.arriving.Arrival.{Arrival}
use Rattle.mip_afresh.specs.declared.arriving.Arrival.TheVariants.{Done, Handed}
use Rattle.mip_afresh.specs.Fates.{fate_seen}
use Rattle.mip_afresh.specs.Tellings.{TellingSeen, with_run}
use Rattle.mip_afresh.specs.Arrivals.{link_seen, IsLanding, IsLandingIn, then_acts, IsBeforeAct, Lands, Arrives}

module _ (old new : TellingSeen) (k : ℕ) (post : Post) (l : Landing) (is : IsLanding old.setup old.run.past post l) where
  by_landing : (a : Arrival) → new.setup ≡ old.setup → then_acts old.setup k a new.run ≡ became old.setup k post (link_seen l.link) old.run (fate_seen l.fate)
      → IsBeforeAct old.setup old.run new.run k a → Lands old new k post a
  by_landing a same e reached = record {
    same = same;
    reached = reached;
    comes =
        e
        ∙ ap (λ (link : Option ℕ). became old.setup k post link old.run (fate_seen l.fate)) is.reaches
        ∙ ap (λ (f : table.Fate). became old.setup k post (arrival_link old.setup post) old.run f) is.comes;
  }

  -- nobody acts
  pub lands_done : (f : Fate) → l.fate ≡ f → new ≡ with_run (became old.setup k post (link_seen l.link) old.run (fate_seen f)) old → Lands old new k post Done
  lands_done f fate e =
      by_landing Done (ap (λ (t : TellingSeen). t.setup) e)
      (ap (λ (t : TellingSeen). t.run) e ∙ ap (λ (g : Fate). became old.setup k post (link_seen l.link) old.run (fate_seen g)) (sym fate)) tt

  -- a node acts
  pub lands_handed : (node : NodeId) → l.fate ≡ Node node → new ≡ with_run (note (entries.Handed k node) (overheard_at old.setup post k (link_seen l.link) old.run)) old
      → Lands old new k post (Handed node l.shield l.packet)
  unfolding handed
  lands_handed node fate e =
      let reached : Run = note (entries.Handed k node) (overheard_at old.setup post k (link_seen l.link) old.run) in
      by_landing (Handed node l.shield l.packet) (ap (λ (t : TellingSeen). t.setup) e)
      (ap (λ (t : TellingSeen). acts old.setup node.0 (Take k l.shield l.packet) t.run) e
      ∙ ap (λ (shield : Option Shield). acts old.setup node.0 (Take k shield l.packet) reached) is.guarded
      ∙ ap (λ (packet : List ℕ). acts old.setup node.0 (Take k post.shield packet) reached) (is.given ∙ ap (handed_over post.packet) (sym is.reaches))
      ∙ ap (λ (g : Fate). became old.setup k post (link_seen l.link) old.run (fate_seen g)) (sym fate))
      (record {
        post = post;
        is = ap (λ (t : TellingSeen). t.run) e ∙ ap (λ (link : Option ℕ). note (entries.Handed k node) (overheard_at old.setup post k link old.run)) is.reaches;
      })

-- the packet that is there, or that none is
pub there : (s : Setup) (past : List Entry) (o : Option Post) (l : Landing) → IsLandingIn s past o (Some l) → (post : Post) × (o ≡ Some post) × IsLanding s past post l
there s past None l is = absurd is
there s past (Some post) l is = (post, refl, is)

pub absent : (s : Setup) (past : List Entry) (o : Option Post) → IsLandingIn s past o None → o ≡ None
absent s past None is = refl
absent s past (Some post) is = absurd is

past_kept : (keep : Bool) (k : ℕ) (run : Run) → (if keep then run else without k run).past ≡ run.past
past_kept true k run = refl
past_kept false k run = refl

module _ (old mid new : TellingSeen) (k : ℕ) (keep : Bool) (e : mid ≡ with_run (if keep then old.run else without k old.run) old) where
  pub landing_kept : (post : Post) (l : Landing) → IsLanding old.setup old.run.past post l → IsLanding mid.setup mid.run.past post l
  landing_kept post l is =
      subst (λ (m : TellingSeen). IsLanding m.setup m.run.past post l) (sym e)
      (subst (λ (past : List Entry). IsLanding old.setup past post l) (sym (past_kept keep k old.run)) is)

  pub arrives_some : (post : Post) (a : Arrival) → in_pool old.run.flying old.run.posts k ≡ Some post → Lands mid new k post a → Arrives old new k keep a
  unfolding delivered
  arrives_some post a at lands =
      let here = subst (λ (m : TellingSeen). Lands m new k post a) e lands in
      record {
        same = here.same;
        whole = here.comes ∙ ap (arrived old.setup k (if keep then old.run else without k old.run)) (sym at);
        reached = here.reached;
      }

  pub arrives_none : (a : Arrival) → in_pool old.run.flying old.run.posts k ≡ None → (a ≡ Done) × (new ≡ with_run (note entries.Idle mid.run) mid) → Arrives old new k keep a
  unfolding delivered
  arrives_none a at is =
      let here : new ≡ with_run (note entries.Idle (if keep then old.run else without k old.run)) old = is.1 ∙ ap (λ (m : TellingSeen). with_run (note entries.Idle m.run) m) e in
      record {
        same = ap (λ (t : TellingSeen). t.setup) here;
        whole =
            ap (λ (b : Arrival). then_acts old.setup k b new.run) is.0
            ∙ ap (λ (t : TellingSeen). t.run) here
            ∙ ap (arrived old.setup k (if keep then old.run else without k old.run)) (sym at);
        reached = subst (λ (b : Arrival). IsBeforeAct old.setup (if keep then old.run else without k old.run) new.run k b) (sym is.0) tt;
      }
