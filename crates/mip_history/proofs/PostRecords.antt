-- What the entries of a run record of each post, and what each entry meets of those before it.
use Rattle.std.proofs.Common.{◌≡◌, ◌+◌, ◌<◌, List, [], ◌∷◌, ◌++◌, false, length, refl, sym, ap, ◌∙◌, subst, arith, length-append}
use Rattle.std.specs.Prelude.{map, Option, Some, None}
use Rattle.std.specs.List.{list_any, filter_map, cons_option}
use Rattle.std.proofs.lemmas.List.{append-nil, map-append}
use Rattle.std.proofs.lemmas.List.Elements.{filter_map-append}
use Rattle.std.proofs.lemmas.Bool.{or_parts}
use Rattle.mip_words.specs.EachAfter.{EachAfter}
use Rattle.mip_words.proofs.EachLaws.{each-append}
use Rattle.mip_entries.specs.declared.entry.Entry.{Entry}
use Rattle.mip_entries.specs.declared.entry.Entry.TheVariants as entries
use Rattle.mip_schedule.specs.declared.event.Event.{Event}
use Rattle.mip_links.specs.Table.{Post}
use Rattle.mip_history.specs.Setup.{Setup}
use Rattle.mip_history.specs.Runs.{Run, note}
use Rattle.mip_history.specs.Permitted.{opening_claims, opened, run_of}
use Rattle.mip_history.proofs.Effects.{IsSeen, IsPosting, Effect, notes-it, enters, goes, learns}
use Rattle.mip_history.proofs.Opening.{is_other, claims_none}
use Rattle.mip_history.proofs.Changes.{Change, all_keep}
use Rattle.mip_history.proofs.Folds.{change_effects}

-- an entry that a schedule leaves beside those of effects: a moment, a life that begins
abbrev pub IsBeside : Entry → Type 0
IsBeside (entries.At moment) = Unit {0}
IsBeside (entries.Restarted node) = Unit {0}
IsBeside _ = ⊥

-- an entry tells a T of the packet that it posts, of which the post knows it too, and meets M
module _ (s : Setup) {T : Type 0} (told : Entry → Option T) (known : Post → T) (M : List Entry → Entry → Type 0) where
  pub record Tells (run : Run) : Type 0 where
    pub posts : filter_map told run.past ≡ map known run.posts
    pub each : EachAfter M [] run.past

  pub record TellsWhere : Type 0 where
    pub seen : (run : Run) (e : Entry) → IsSeen run e → filter_map told run.past ≡ map known run.posts → M run.past e × (told e ≡ None)
    pub posting : (run : Run) (post : Post) (e : Entry) → IsPosting run post e → filter_map told run.past ≡ map known run.posts → M run.past e × (told e ≡ Some (known post))
    pub beside : (past : List Entry) (e : Entry) → IsBeside e → M past e × (told e ≡ None)
    pub opens : (past : List Entry) (e : Entry) → is_other e ≡ false → length past < length (opening_claims s) → M past e × (told e ≡ None)

  tells_more : (run : Run) (e : Entry) (o : Option T) → told e ≡ o → filter_map told (run.past ++ e ∷ []) ≡ filter_map told run.past ++ cons_option o []
  tells_more run e o is = filter_map-append told run.past (e ∷ []) ∙ ap (λ (o : Option T). filter_map told run.past ++ cons_option o []) is

  tells_none : (run : Run) (e : Entry) → M run.past e × (told e ≡ None) → Tells run → Tells (note e run)
  tells_none run e is t = record {
    posts = tells_more run e None is.1 ∙ append-nil (filter_map told run.past) ∙ t.posts;
    each = each-append M [] run.past (e ∷ []) t.each (is.0, tt);
  }

  tells_effect : TellsWhere → (a b : Run) → Effect s a b → Tells a → Tells b
  tells_effect law _ _ (notes-it run e is) t = tells_none run e (law.seen run e is t.posts) t
  tells_effect law _ _ (enters run post e is) t =
      let meets : M run.past e × (told e ≡ Some (known post)) = law.posting run post e is t.posts in record {
        posts = tells_more run e (Some (known post)) meets.1 ∙ ap (λ (l : List T). l ++ known post ∷ []) t.posts ∙ sym (map-append known run.posts (post ∷ []));
        each = each-append M [] run.past (e ∷ []) t.each (meets.0, tt);
      }
  tells_effect law _ _ (goes run k) t = record { posts = t.posts; each = t.each }
  tells_effect law _ _ (learns run next past posts flying) t = record {
    posts = ap (λ (l : List Entry). filter_map told l) past ∙ t.posts ∙ ap (λ (l : List Post). map known l) (sym posts);
    each = subst (λ (l : List Entry). EachAfter M [] l) (sym past) t.each;
  }

  pub tells_change : TellsWhere → (event : Event) (a b : Run) → Change s event a b → Tells a → Tells b
  tells_change law event =
      change_effects s Tells (tells_effect law) event (λ run m wait early t. tells_none run _ (law.beside run.past _ tt) t) (λ run node so t. tells_none run _ (law.beside run.past _ tt) t)

  -- it is so of the opening claims, and of every run
  opens : TellsWhere → (front es : List Entry) → list_any is_other es ≡ false → length front + length es ≡ length (opening_claims s) → EachAfter M front es × (filter_map told es ≡ [])
  opens law front [] claims sum = (tt, refl)
  opens law front (e ∷ es) claims sum =
      let parts = or_parts (is_other e) (list_any is_other es) claims in
      let one : M front e × (told e ≡ None) = law.opens front e parts.0 (omega (arith, sum)) in
      let rest = opens law (front ++ e ∷ []) es parts.1 (omega (arith, sum, length-append front (e ∷ []))) in
      ((one.0, rest.0), ap (λ (o : Option T). cons_option o (filter_map told es)) one.1 ∙ rest.1)

  opened_tells : TellsWhere → Tells (opened s)
  opened_tells law =
      let o = opens law [] (opening_claims s) (claims_none is_other (λ who link address. refl) s.links [] s.hosts) (omega arith) in record { posts = o.1; each = o.0 }

  pub run_tells : TellsWhere → (events : List Event) → Tells (run_of s events)
  run_tells law events = all_keep s Tells (tells_change law) (opened s) events (opened_tells law)
