use Rattle.std.proofs.Common.{◌≡◌, ℕ, suc, ◌+◌, List, ◌++◌, ◌∷◌, [], take, sym, ap, ◌∙◌, arith}
use Rattle.std.specs.Prelude.{None}
use Rattle.mip_words.specs.declared.address.Address.{Address}
use Rattle.mip_discovery.specs.declared.agent.Agent.{Agent}
use Rattle.mip_discovery.specs.Heard.{live}
use Rattle.mip_past.specs.Hearing.{live_addresses}
use Rattle.mip_past.proofs.AgentsHeard.{next_some, next_none}
use Rattle.mip_past.proofs.hearing.addresses.Goals as goal
use Rattle.mip_past.proofs.hearing.addresses.Goals.{in-Some+in_ok-push, in_default}

pub loop-place-preserved : goal.loop-place-preserved
loop-place-preserved c =
    let agents : List Agent = live c.args.now.0 c.args.agents.now.agents in
    let one : suc c.loop-place.place ≡ c.loop-place.place + 1 = omega arith in
    let more : take (suc c.loop-place.place) (live_addresses c.args.now.0 c.args.agents.now.agents) ≡ take (c.loop-place.place + 1) (live_addresses c.args.now.0 c.args.agents.now.agents) =
    ap (λ (n : ℕ). take n (live_addresses c.args.now.0 c.args.agents.now.agents)) one in
    elim c.match-live.branch [
      | in-Some+in_ok-push w ↦
          rw w.found-is (w.in_ok-push.ensures.items ∙ ap (λ (l : List Address). l ++ w.in-Some.address ∷ []) c.loop-place.invariant
          ∙ sym (next_some (λ (x : Agent). x.address) agents c.loop-place.place w.in-Some.address (sym w.in-Some.ensures.found)) ∙ more)
      | in_default w ↦
          rw w.found-is (c.loop-place.invariant ∙ sym (next_none (λ (x : Agent). x.address) agents c.loop-place.place (let none : c.live.result ≡ None = w.in_default.is in sym c.live.ensures.found ∙ none)) ∙ more)
    ]
