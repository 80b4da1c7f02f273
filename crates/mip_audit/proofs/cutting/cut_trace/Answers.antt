use Rattle.std.proofs.Common.{List, ℕ, sym, ◌∙◌, subst}
use Rattle.mip_audit.proofs.CutLaws.{uncut, cut_on, cut_here, uncut_text, IsCutHere}
use Rattle.mip_audit.proofs.cutting.cut_trace.Goals as goal

pub loop-line-init : goal.loop-line-init
loop-line-init c = uncut c.args.given.now

pub loop-line-preserved : goal.loop-line-preserved
loop-line-preserved c = cut_on c.args.given.now c.loop-line.rest.now c.in-Some.line.now c.in-Some.more.now c.loop-line.invariant c.in-Some.ensures.lines (sym c.is_trace.ensures ∙ c.if-is_trace.false)

pub returns-then-is_trace-clause-exact : goal.returns-then-is_trace-clause-exact
returns-then-is_trace-clause-exact c =
    let h = cut_here c.args.given.now c.loop-line.rest.now c.in-Some.line.now c.in-Some.more.now c.loop-line.invariant c.in-Some.ensures.lines (sym c.is_trace.ensures ∙ c.if-is_trace.true) in
    (subst (λ (l : List ℕ). IsCutHere c.args.given.now l c.in-Some.more.now) (sym c.split_at.ensures.front) h).exact

pub returns-then-is_trace-clause-whole : goal.returns-then-is_trace-clause-whole
returns-then-is_trace-clause-whole c =
    let h = cut_here c.args.given.now c.loop-line.rest.now c.in-Some.line.now c.in-Some.more.now c.loop-line.invariant c.in-Some.ensures.lines (sym c.is_trace.ensures ∙ c.if-is_trace.true) in
    (subst (λ (l : List ℕ). IsCutHere c.args.given.now l c.in-Some.more.now) (sym c.split_at.ensures.front) h).whole

pub returns-clause-exact : goal.returns-clause-exact
returns-clause-exact c = uncut_text c.args.given.now c.loop-line.rest.now c.loop-line.invariant c.in_default.ensures.lines
