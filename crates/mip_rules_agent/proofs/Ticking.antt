-- A tick gives up the home addresses whose registrations have ended, and keeps the other ends.
use Rattle.std.proofs.Common.{◌≡◌, ℕ, List, [], ◌∷◌, ◌++◌, refl, sym, ap, ◌∙◌, nat_lt}
use Rattle.std.specs.Prelude.{not, map, filter, Option, Some, None}
use Rattle.std.specs.List.{cons_option}
use Rattle.std.proofs.lemmas.List.{append_assoc, append-nil}
use Rattle.mip_words.specs.declared.address.Address.{Address}
use Rattle.mip_entries.proofs.TransitionLaws.{noted-now, noted-known, noted-steps}
use Rattle.mip_rules_agent.specs.declared.identity.Identity.{Identity}
use Rattle.mip_rules_agent.specs.declared.ending.Ending.{Ending}
use Rattle.mip_rules_agent.specs.Known.{Known}
use Rattle.mip_rules_agent.specs.Calls.{Tick}
use Rattle.mip_rules_agent.specs.Steps.{Step, Called, Releases, Rang}
use Rattle.mip_rules_agent.specs.Questions.{due_ends, ends_after, later_ends, after}
use Rattle.mip_rules_agent.specs.Transitions.{Transition, begun, noted}
use Rattle.mip_rules_agent.specs.Doing.{releases_all, ticks, does, transition_of}
use Rattle.mip_rules_agent.specs.RefusingLaws.{release_of, released}

abbrev homes_in : List Ending → List Address
homes_in es = map (λ e. e.home) es

front-kept : (o : Option Address) (xs ys : List Address) → cons_option o (xs ++ ys) ≡ cons_option o xs ++ ys
front-kept None xs ys = refl
front-kept (Some x) xs ys = refl

released-push : (steps : List Step) (step : Step) → released (steps ++ step ∷ []) ≡ released steps ++ released (step ∷ [])
released-push [] step = refl
released-push (s ∷ steps) step = ap (cons_option (release_of s)) (released-push steps step) ∙ front-kept (release_of s) (released steps) (released (step ∷ []))

released-noted : (step : Step) (t : Transition) → released (noted step t).steps ≡ released t.steps ++ released (step ∷ [])
released-noted step t = ap released (noted-steps after step t) ∙ released-push t.steps step

released-all : (es : List Ending) (t : Transition) → (let u : Transition = releases_all es t in released u.steps) ≡ released t.steps ++ homes_in es
released-all [] t = sym (append-nil (released t.steps))
released-all (e ∷ es) t =
    released-all es (noted (Releases e.home) t)
    ∙ ap (λ (l : List Address). l ++ homes_in es) (released-noted (Releases e.home) t)
    ∙ append_assoc (released t.steps) (e.home ∷ []) (homes_in es)

ends-noted : (step : Step) (t : Transition) → (noted step t).known.ends ≡ ends_after t.known.ends t.now step
unfolding after
ends-noted step t = ap (λ (k : Known). k.ends) (noted-known after step t)

ends-all : (es : List Ending) (t : Transition) → (let u : Transition = releases_all es t in u.known.ends) ≡ t.known.ends
ends-all [] t = refl
ends-all (e ∷ es) t = ends-all es (noted (Releases e.home) t) ∙ ends-noted (Releases e.home) t

now-all : (es : List Ending) (t : Transition) → (let u : Transition = releases_all es t in u.now) ≡ t.now
now-all [] t = refl
now-all (e ∷ es) t = now-all es (noted (Releases e.home) t) ∙ noted-now after (Releases e.home) t

module _ (me : Identity) (k : Known) (now : ℕ) where
  abbrev first : Transition
  first = noted (Called Tick) (begun now k)

  first-ends : first.known.ends ≡ k.ends
  first-ends = ends-noted (Called Tick) (begun now k)

  first-now : first.now ≡ now
  first-now = noted-now after (Called Tick) (begun now k)

  abbrev rung : Transition
  rung = releases_all (due_ends first.now first.known.ends) first

  pub tick-releases : released (transition_of me k now Tick).steps ≡ map (λ (e : Ending). e.home) (filter (λ (e : Ending). not (nat_lt now e.end.0)) k.ends)
  unfolding does ticks
  tick-releases =
      released-noted Rang rung
      ∙ append-nil (released rung.steps)
      ∙ released-all (due_ends first.now first.known.ends) first
      ∙ ap (λ (l : List Address). l ++ homes_in (due_ends first.now first.known.ends)) (released-noted (Called Tick) (begun now k))
      ∙ ap (λ (n : ℕ). homes_in (due_ends n first.known.ends)) first-now
      ∙ ap (λ (es : List Ending). homes_in (due_ends now es)) first-ends

  pub tick-leaves : (transition_of me k now Tick).known.ends ≡ filter (λ (e : Ending). nat_lt now e.end.0) k.ends
  unfolding does ticks
  tick-leaves =
      ends-noted Rang rung
      ∙ ap (later_ends rung.now) (ends-all (due_ends first.now first.known.ends) first ∙ first-ends)
      ∙ ap (λ (n : ℕ). later_ends n k.ends) (now-all (due_ends first.now first.known.ends) first ∙ first-now)
