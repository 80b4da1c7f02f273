use Rattle.std.proofs.Common.{◌≡◌, refl, sym, ap, ◌∙◌, arith, length}
use Rattle.mip_history.specs.Homes.{first_below, lives_at}
use Rattle.mip_afresh.proofs.ResidentLaws.{none_more, first_of}
use Rattle.mip_afresh.proofs.telling.Telling.resident.Goals as goal

pub loop-node-init : goal.loop-node-init
loop-node-init c = refl

pub returns-then-branch : goal.returns-then-branch
returns-then-branch c =
    let t = c.args.self.now in
    sym (first_of (lives_at t.setup t.run c.args.address.0) c.loop-node.node c.loop-node.invariant (sym c.in_ok-lives_at.ensures ∙ c.if-branch.true) (length t.setup.hosts)
    (let less = c.loop-node-test.true in let count = c.count-node-end.ensures in omega (arith, less, count)))

pub loop-node-preserved : goal.loop-node-preserved
loop-node-preserved c =
    let t = c.args.self.now in
    none_more (lives_at t.setup t.run c.args.address.0) c.loop-node.node c.loop-node.invariant (sym c.in_ok-lives_at.ensures ∙ c.if-branch.false)

pub returns : goal.returns
returns c =
    let t = c.args.self.now in
    let test = c.loop-node-test.false in
    let end = c.loop-node.auto.node-end in
    let count = c.count-node-end.ensures in
    let last : length t.setup.hosts ≡ c.loop-node.node = omega (arith, test, end, count) in
    sym (ap (first_below (lives_at t.setup t.run c.args.address.0)) last ∙ c.loop-node.invariant)
