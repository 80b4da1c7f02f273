-- What an agent keeps stays sound.
use Rattle.std.proofs.Common.{◌≡◌, ℕ, ◌≤◌, List, [], ◌∷◌, Bool, true, false, refl, sym, subst, arith}
use Rattle.std.specs.Prelude.{Option, Some, None, ◌==◌, if◌then◌else◌}
use Rattle.std.specs.List.{AllByRecursion}
use Rattle.mip_words.specs.declared.address.Address.{Address}
use Rattle.mip_binding.specs.Rows.{put_by}
use Rattle.mip_binding.proofs.RowLaws.{rises-put, all-put}
use Rattle.mip_words.specs.Addresses.{is_routable}
use Rattle.mip_rules_agent.specs.declared.ending.Ending.{Ending}
use Rattle.mip_homeagent.specs.Endings.{homes_released, heard_at, planned_at, given_up}
use Rattle.mip_rules_agent.specs.declared.home_binding.HomeBinding.{HomeBinding}
use Rattle.mip_rules_agent.specs.declared.served.Served.{Served}
use Rattle.mip_discovery.specs.declared.plan.PrefixPlan.{PrefixPlan}
use Rattle.mip_rules_agent.specs.Calls.{Call}
use Rattle.mip_rules_agent.specs.Known.{Known}
use Rattle.mip_rules_agent.specs.Questions.{key_of, new_home, homes_of, fresh, agents_called, bound_to, holding, with_served}
use Rattle.mip_rules_agent.proofs.Homes.{rises-changed}
use Rattle.mip_homeagent.specs.declared.change.Change.{Change}
use Rattle.mip_homeagent.specs.Changes.{with_holding, with_change}
use Rattle.mip_homeagent.specs.Showing.{opened}
use Rattle.mip_homeagent.specs.Soundness.{IsRoutable, AreSound, IsSound}

abbrev KeepsRoutable : (Served → Served) → Type 0
KeepsRoutable change = (s : Served) → IsRoutable s → IsRoutable (change s)

routable_changed : (change : Served → Served) → KeepsRoutable change → (home : Address) (homes : List Served) → AllByRecursion IsRoutable homes → AllByRecursion IsRoutable (with_served change home homes)
routable_changed change keeps home [] all = tt
routable_changed change keeps home (s ∷ homes) all = (by (s.home.0 == home.0), routable_changed change keeps home homes all.1)
  where
    by : (same : Bool) → IsRoutable (if same then change s else s)
    by true = keeps s all.0
    by false = all.0

pub bound_sound : (b : HomeBinding) (home : Address) (homes : List Served) → AreSound homes → AreSound (with_served (bound_to b) home homes)
bound_sound b home homes sound = record {
  rises = rises-changed (bound_to b) (λ s. refl) home homes sound.rises;
  routable = routable_changed (bound_to b) (λ s r. r) home homes sound.routable;
}

pub held_sound : (held : Bool) (home : Address) (homes : List Served) → AreSound homes → AreSound (with_served (holding held) home homes)
held_sound held home homes sound = record {
  rises = rises-changed (holding held) (λ s. refl) home homes sound.rises;
  routable = routable_changed (holding held) (λ s r. r) home homes sound.routable;
}

pub holding_sound : (h : Option Bool) (home : Address) (homes : List Served) → AreSound homes → AreSound (with_holding h home homes)
holding_sound None home homes sound = sound
holding_sound (Some held) home homes sound = held_sound held home homes sound

pub changed_sound : (k : Known) (now : ℕ) (change : Option Change) → k.last ≤ now → IsSound k → IsSound (with_change change (opened now k))
changed_sound k now None later sound = record {
  rises = sound.rises;
  routable = sound.routable;
  heard = let h = sound.heard in omega arith;
  planned = let p = sound.planned in omega arith;
}
changed_sound k now (Some c) later sound =
    let homes = holding_sound c.holding c.home (with_served (bound_to c.binding) c.home k.homes) (bound_sound c.binding c.home k.homes (record { rises = sound.rises; routable = sound.routable })) in
    record {
      rises = homes.rises;
      routable = homes.routable;
      heard = let h = sound.heard in omega arith;
      planned = let p = sound.planned in omega arith;
    }

-- a home that is put in
pub put_sound : (home : Address) (homes new : List Served) → is_routable home.0 ≡ true → AreSound homes → new ≡ put_by key_of (new_home home) homes → AreSound new
put_sound home homes new routable sound e = subst AreSound (sym e) (record {
  rises = rises-put key_of (new_home home) homes sound.rises;
  routable = all-put IsRoutable key_of (new_home home) homes routable sound.routable;
})

-- homes that are given up
pub released_sound : (es : List Ending) (homes : List Served) → AreSound homes → AreSound (homes_released es homes)
released_sound [] homes sound = sound
released_sound (e ∷ es) homes sound = released_sound es (with_served (holding false) e.home homes) (held_sound false e.home homes sound)

pub held_on : (held : Bool) (home : Address) (homes new : List Served) → AreSound homes → new ≡ with_served (holding held) home homes → AreSound new
held_on held home homes new sound e = subst AreSound (sym e) (held_sound held home homes sound)

pub fresh_sound : (serves : List Address) → AreSound (homes_of serves) → IsSound (fresh serves)
fresh_sound serves sound = record { rises = sound.rises; routable = sound.routable; heard = omega arith; planned = omega arith }

pub heard_sound : (now : ℕ) (call : Call) (k : Known) → k.last ≤ now → (agents_called k.agents now call).last ≤ now → IsSound k → IsSound (heard_at now call k)
heard_sound now call k later heard sound = record { rises = sound.rises; routable = sound.routable; heard = heard; planned = let p = sound.planned in omega arith }

pub planned_sound : (now : ℕ) (plan : PrefixPlan) (k : Known) → k.last ≤ now → plan.since.0 ≤ now → IsSound k → IsSound (planned_at now plan k)
planned_sound now plan k later since sound = record { rises = sound.rises; routable = sound.routable; heard = let h = sound.heard in omega arith; planned = since }

pub given_up_sound : (now : ℕ) (due : List Ending) (k : Known) → k.last ≤ now → IsSound k → IsSound (given_up now due k)
given_up_sound now due k later sound =
    let homes = released_sound due k.homes (record { rises = sound.rises; routable = sound.routable }) in
    record { rises = homes.rises; routable = homes.routable; heard = let h = sound.heard in omega arith; planned = let p = sound.planned in omega arith }
