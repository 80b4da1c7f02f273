use Rattle.std.proofs.Common.{◌≡◌, ◌<◌, ℕ, List, length, refl, ap, subst, ◌∙◌}
use Rattle.std.specs.Prelude.{Option, option_map}
use Rattle.mip_words.specs.declared.ids.LinkId.{LinkId}
use Rattle.mip_words.specs.declared.shield.Shield.{Shield}
use Rattle.mip_entries.specs.Completed.{node_id}
use Rattle.mip_entries.specs.declared.entry.Entry.TheVariants.{Handed}
use Rattle.mip_links.specs.Table.{Post}
use Rattle.mip_history.specs.Calls.{Take}
use Rattle.mip_history.specs.Runs.{note}
use Rattle.mip_history.specs.Nodes.{acts}
use Rattle.mip_history.specs.Delivery.{handed, handed_over, overheard_at}
use Rattle.mip_engine.specs.Engines.{EngineSeen}
use Rattle.mip_engine.specs.Standing.{IsAt}
use Rattle.mip_engine.proofs.QuietLaws.{at_is, at_reached}
use Rattle.mip_engine.proofs.PostingLaws.{silent_handed}
use Rattle.mip_replay.proofs.DeliveredLaws.{overheard_posted}
use Rattle.mip_replay.proofs.delivering.reach_node.Goals as goal

pub returns : goal.returns
unfolding handed
returns c = λ post there shield.
    let k = c.args.number in
    let n = c.args.node.0 in
    let link = option_map (λ (l : LinkId). l.0) c.args.arrival.link in
    let packet : c.as_slice.result.now ≡ handed_over post.packet link = c.as_slice.ensures ∙ c.in_ok-packet.ensures.handed post there in
    let overheard = c.in_ok-overhear_at.ensures post shield in
    record {
      stands = λ s run at.
          let heard = overheard_at s post k link run in
          let here = note (Handed k (node_id n)) heard in
          let inside = subst (λ (ps : List Post). k < length ps) at.posts c.requires in
          let after = λ (shield : Option Shield) (bytes : List ℕ). acts s n (Take k shield bytes) here in
          let acted = c.in_ok-act.ensures.stands s here (at_is c.in_ok-note.ensures (at_reached c.overhear_at.new.engine s heard (Handed k (node_id n)) k (silent_handed k (node_id n)) refl refl (overheard_posted s post k link run inside) (overheard.stands s run (at_is c.handed_packet.ensures.same at)))) in
          subst (IsAt c.give_back.new.self s)
          (ap (λ (shield : Option Shield). after shield c.as_slice.result.now) shield ∙ ap (after post.shield) packet)
          (at_is c.give_back.ensures acted);
      kept = ap (λ (x : EngineSeen). x.told) c.give_back.ensures ∙ c.in_ok-act.ensures.kept ∙ ap (λ (x : EngineSeen). x.told) c.in_ok-note.ensures ∙ overheard.kept
          ∙ ap (λ (x : EngineSeen). x.told) c.handed_packet.ensures.same;
    }
