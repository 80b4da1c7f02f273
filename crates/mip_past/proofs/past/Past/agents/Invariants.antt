use Rattle.std.proofs.Common.{◌≡◌, ◌<◌, ◌≤◌, ◌^◌, drop}
use Rattle.std.specs.Prelude.{fold}
use Rattle.mip_past.specs.Hearing.{Hearing, router_of, heard_told, hearing_in}
use Rattle.mip_past.proofs.past.Past.agents.Given as goal

abbrev pub invariant-loop-entry : goal.invariant-loop-entry
invariant-loop-entry l = record {
  told : fold (heard_told (router_of l.declarations) l.agent.0) (let h : Hearing = record { at = l.at.0; seen = l.agents } in h) (drop l.entry-index l.self.entries.now)
      ≡ hearing_in (router_of l.declarations) l.self.start.0 l.self.entries.now l.agent.0;
  later : l.agents.last ≤ l.at.0;
  early : l.at.0 < 2 ^ 62;
}
