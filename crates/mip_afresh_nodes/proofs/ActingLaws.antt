-- A call of a correspondent that is remembered, with its answers, is what the node does about it.
use Rattle.std.proofs.Common.{◌≡◌, ℕ, List, sym, ap, ◌∙◌}
use Rattle.std.specs.Prelude.{Option, Some}
use Rattle.mip_words.specs.declared.address.Address.{Address}
use Rattle.mip_words.specs.declared.shield.Shield.{Shield}
use Rattle.mip_entries.specs.declared.answer.Answer.{Answer}
use Rattle.mip_rules_correspondent.specs.Calls as correspondents
use Rattle.mip_history.specs.Setup.{Setup}
use Rattle.mip_history.specs.Runs.{Run}
use Rattle.mip_history.specs.Calls as calls
use Rattle.mip_history.specs.Nodes.{by_host, acts}
use Rattle.mip_afresh.specs.declared.acted.Asked.TheVariants as asked
use Rattle.mip_afresh_nodes.specs.declared.member.Member.{Member}
use Rattle.mip_afresh_nodes.specs.Members.{host_of, IsMember, after_call, AreAnswers}

module _ (s : Setup) (run : Run) (m : Member) (xs : List Answer) (host : IsMember s m) where
  as_host : (call : calls.Call) → by_host s m.node.0 call run (Some (host_of m)) ≡ acts s m.node.0 call run
  as_host call = sym (ap (by_host s m.node.0 call run) host)

  pub took : (number : ℕ) (shield : Option Shield) (packet : List ℕ) → AreAnswers s run m (correspondents.Take number shield packet) xs
      → after_call s run m (asked.Take number shield packet) xs ≡ acts s m.node.0 (calls.Take number shield packet) run
  took number shield packet are = ap (after_call s run m (asked.Take number shield packet)) are ∙ as_host (calls.Take number shield packet)

  pub sent : (to : Address) (proto : ℕ) (payload : List ℕ) → AreAnswers s run m (correspondents.Send to proto payload) xs
      → after_call s run m (asked.Send to proto payload) xs ≡ acts s m.node.0 (calls.Send to proto payload) run
  sent to proto payload are = ap (after_call s run m (asked.Send to proto payload)) are ∙ as_host (calls.Send to proto payload)

  pub refreshed : (home : Address) → AreAnswers s run m (correspondents.Refresh home) xs → after_call s run m (asked.Refresh home) xs ≡ acts s m.node.0 (calls.Refresh home) run
  refreshed home are = ap (after_call s run m (asked.Refresh home)) are ∙ as_host (calls.Refresh home)
