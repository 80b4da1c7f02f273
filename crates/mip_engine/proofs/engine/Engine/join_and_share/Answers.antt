use Rattle.std.proofs.Common.{◌∙◌, ℕ, ◌++◌, ◌∷◌, [], sym, ap, subst}
use Rattle.std.specs.Prelude.{OnOk}
use Rattle.mip_history.specs.Runs.{Run, note}
use Rattle.mip_history.specs.Permitted.{claimed_entry}
use Rattle.mip_engine.specs.Engines.{EngineSeen, IsFree}
use Rattle.mip_engine.specs.Openings.{with_hosts}
use Rattle.mip_engine.specs.Standing.{IsAt}
use Rattle.mip_engine.proofs.QuietLaws.{at_is}
use Rattle.mip_engine.proofs.OpenLaws.{arrived, at_joined}
use Rattle.mip_engine.proofs.ShareAllLaws.{share_free, can_share, joined_none, joined_some}
use Rattle.mip_engine.proofs.engine.Engine.join_and_share.Goals as goal

pub share-requires-clause-free : goal.share-requires-clause-free
share-requires-clause-free c =
    let e = c.args.self.now in
    let host = c.args.host in
    let can = can_share e.net host.address.0 _ c.in-Some.address c.requires.share c.in-Some.ensures in
    subst (λ (x : EngineSeen). IsFree x.net c.in-Some.address.0) (sym c.in_ok-join.ensures) (share_free e.net _ host.address c.in-Some.address can.0 can.1)

pub returns-in-Some-clause-stands : goal.returns-in-Some-clause-stands
returns-in-Some-clause-stands c = λ s hosts at.
    let e = c.args.self.now in
    let host = c.args.host in
    let after = with_hosts (hosts ++ host ∷ []) s in
    let run = arrived e s hosts host c.requires.few at in
    let joined = at_is c.in_ok-join.ensures (at_joined e s hosts host c.requires.few at) in
    let whole = ap (λ (n : ℕ). note (claimed_entry s.links n c.in-Some.address) run) c.count-number.ensures.is ∙ joined_some e s hosts host c.requires.few at c.in-Some.address c.in-Some.ensures in
    subst (λ (r : Run). OnOk c.share.result (IsAt c.share.new.self after r)) whole (c.share.ensures.stands after run joined)

pub returns-in-None-clause-stands : goal.returns-in-None-clause-stands
returns-in-None-clause-stands c = λ s hosts at.
    let e = c.args.self.now in
    let host = c.args.host in
    let joined = at_is c.in_ok-join.ensures (at_joined e s hosts host c.requires.few at) in
    subst (λ (r : Run). IsAt c.join.new.self (with_hosts (hosts ++ host ∷ []) s) r) (joined_none e s hosts host c.requires.few at c.in-None.ensures) joined
