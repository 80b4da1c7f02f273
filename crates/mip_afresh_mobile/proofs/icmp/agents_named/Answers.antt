use Rattle.std.proofs.Common.{ℕ, List, [], ◌∷◌, ◌++◌, ◌≤◌, length, sym, ap, ◌∙◌, arith}
use Rattle.std.specs.Prelude.{drop}
use Rattle.std.proofs.lemmas.List.{append_assoc}
use Rattle.mip_words.specs.declared.address.Address.{Address}
use Rattle.mip_rules_mobile.specs.IcmpRules.{agents_named}
use Rattle.mip_afresh_mobile.proofs.Named.{named-next}
use Rattle.mip_afresh_mobile.proofs.icmp.agents_named.Goals as goal

pub loop-rest-preserved : goal.loop-rest-preserved
loop-rest-preserved c =
    let agents = c.loop-rest.agents.items in
    let rest = c.loop-rest.rest.now in
    let more = agents_named (drop 16 rest) in
    let long : 16 ≤ length rest = let test = c.loop-rest-test.true in omega (arith, test) in
    ap (λ (l : List ℕ). c.push.new.self.items ++ agents_named l) c.split_at.ensures.back
    ∙ ap (λ (l : List Address). l ++ more) c.in_ok-push.ensures.items
    ∙ append_assoc agents (c.at.result ∷ []) more
    ∙ ap (λ (a : Address). agents ++ a ∷ more) c.at.ensures
    ∙ ap (λ (l : List Address). agents ++ l) (sym (named-next rest long))
    ∙ c.loop-rest.invariant
