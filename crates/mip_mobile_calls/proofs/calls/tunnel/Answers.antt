use Rattle.mip_rules_mobile.specs.Sendings.{Given}
use Rattle.mip_mobile_calls.proofs.calls.tunnel.Goals as goal

pub returns : goal.returns
returns c = λ t shows. c.go_out.ensures (Given c.args.inner.now.bytes.now) t c.is_mobility-signals.ensures c.in_ok-bytes.ensures shows
