-- Who is handed a packet under a shield is whom the shield names.
use Rattle.std.proofs.Common.{◌≡◌, ℕ, List, [], ◌∷◌, ◌++◌, false, length, refl, sym, ap, ◌∙◌, subst}
use Rattle.std.specs.Prelude.{Option, Some, None, ◌==◌, if◌then◌else◌}
use Rattle.std.specs.List.{list_any}
use Rattle.mip_words.specs.Last.{or_else}
use Rattle.mip_words.specs.EachAfter.{EachAfter}
use Rattle.mip_words.specs.declared.ids.NodeId.{NodeId}
use Rattle.mip_words.proofs.EachLaws.{each-append, each_at}
use Rattle.mip_entries.specs.declared.entry.Entry.{Entry}
use Rattle.mip_entries.specs.declared.entry.Entry.TheVariants as entries
use Rattle.mip_schedule.specs.declared.event.Event.{Event}
use Rattle.mip_links.specs.Table.{Post}
use Rattle.mip_history.specs.Setup.{Setup}
use Rattle.mip_history.specs.Runs.{Run}
use Rattle.mip_history.specs.Permitted.{opening_claims, opened, run_of}
use Rattle.mip_history.specs.Receivers.{IsForIt, IsHandedRight}
use Rattle.mip_history.proofs.Numbered.{slice_get_push}
use Rattle.mip_history.proofs.Opening.{is_other, claims_none}
use Rattle.mip_history.proofs.Effects.{IsSeen, IsPosting, Effect, notes-it, enters, goes, learns}
use Rattle.mip_history.proofs.Folds.{schedule_effects}

-- it stays so, as packets are posted
right_more : (posts : List Post) (post : Post) (front : List Entry) (e : Entry) → IsHandedRight posts front e → IsHandedRight (posts ++ post ∷ []) front e
right_more posts post front (entries.Handed k node) is = record {
  post = is.post;
  posted = slice_get_push posts post k ∙ ap (λ (o : Option Post). or_else o (if length posts == k then Some post else None)) is.posted;
  named = is.named;
}
right_more posts post front _ is = tt

each_more : (posts : List Post) (post : Post) (front es : List Entry) → EachAfter (IsHandedRight posts) front es → EachAfter (IsHandedRight (posts ++ post ∷ [])) front es
each_more posts post front [] each = tt
each_more posts post front (e ∷ es) each = (right_more posts post front e each.0, each_more posts post (front ++ e ∷ []) es each.1)

seen : (run : Run) (e : Entry) → IsSeen run e → IsHandedRight run.posts run.past e
seen run (entries.Handed k node) is = is
seen run _ is = tt

posting : (run : Run) (post : Post) (e : Entry) → IsPosting run post e → IsHandedRight (run.posts ++ post ∷ []) run.past e
posting run post (entries.Sent number node shielded packet) is = tt
posting run post (entries.Injected number outsider link packet) is = tt
posting run post _ is = absurd is

opening : (front es : List Entry) → list_any is_other es ≡ false → EachAfter (IsHandedRight []) front es
opening front [] claims = tt
opening front (entries.Claimed who link address ∷ es) claims = (tt, opening (front ++ entries.Claimed who link address ∷ []) es claims)
opening front (_ ∷ es) claims = absurd cc

module _ (s : Setup) where
  abbrev AreRight : Run → Type 0
  AreRight run = EachAfter (IsHandedRight run.posts) [] run.past

  effect : (a b : Run) → Effect s a b → AreRight a → AreRight b
  effect _ _ (notes-it run e is) p = each-append (IsHandedRight run.posts) [] run.past (e ∷ []) p (seen run e is, tt)
  effect _ _ (enters run post e is) p =
      each-append (IsHandedRight (run.posts ++ post ∷ [])) [] run.past (e ∷ []) (each_more run.posts post [] run.past p) (posting run post e is, tt)
  effect _ _ (goes run k) p = p
  effect _ _ (learns run next past posts flying) p =
      subst (λ (l : List Entry). EachAfter (IsHandedRight next.posts) [] l) (sym past) (subst (λ (ps : List Post). EachAfter (IsHandedRight ps) [] run.past) (sym posts) p)

  run_right : (events : List Event) → AreRight (run_of s events)
  run_right events =
      schedule_effects s AreRight effect (λ run m early p. each-append (IsHandedRight run.posts) [] run.past (_ ∷ []) p (tt, tt)) (λ run node p. each-append (IsHandedRight run.posts) [] run.past (_ ∷ []) p (tt, tt))
      (opened s) events (opening [] (opening_claims s) (claims_none is_other (λ who link address. refl) s.links [] s.hosts))

  pub handed_right : (events : List Event) (before : List Entry) (k : ℕ) (node : NodeId) (after : List Entry) → (run_of s events).past ≡ before ++ entries.Handed k node ∷ after
      → IsForIt (run_of s events).posts before k node
  handed_right events before k node after whole =
      let posts : List Post = (let r : Run = run_of s events in r.posts) in
      each_at (IsHandedRight posts) [] before (entries.Handed k node) after (subst (λ (l : List Entry). EachAfter (IsHandedRight posts) [] l) whole (run_right events))
