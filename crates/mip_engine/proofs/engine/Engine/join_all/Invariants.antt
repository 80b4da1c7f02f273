use Rattle.std.proofs.Common.{◌≡◌, ◌++◌}
use Rattle.mip_history.specs.Setup.{Setup}
use Rattle.mip_history.specs.Permitted.{opened}
use Rattle.mip_engine.specs.Engines.{new_engine}
use Rattle.mip_engine.specs.Openings.{with_hosts}
use Rattle.mip_engine.specs.Standing.{IsAt}
use Rattle.mip_engine.proofs.engine.Engine.join_all.Given as goal

abbrev pub invariant-loop-host : goal.invariant-loop-host
invariant-loop-host l = record {
  runs : (s : Setup) → l.fn.self ≡ new_engine s.seed s.start s.links s.outsiders s.numbers → IsAt l.self (with_hosts l.yielded s) (opened (with_hosts l.yielded s));
  kept : l.self.told ≡ l.fn.self.told;
  split : l.fn.hosts.items ≡ l.yielded ++ l.host-iterator.rest.items;
}
