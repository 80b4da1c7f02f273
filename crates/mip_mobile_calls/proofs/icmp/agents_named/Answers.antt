use Rattle.std.proofs.Common.{sym, ap, ◌∙◌, List, [], ◌∷◌, ◌++◌}
use Rattle.mip_words.specs.declared.address.Address.{Address}
use Rattle.mip_rules_mobile.specs.IcmpRules.{addresses_of}
use Rattle.mip_mobile_calls.proofs.Named.{addresses_next}
use Rattle.mip_mobile_calls.proofs.icmp.agents_named.Goals as goal

pub loop-place-preserved : goal.loop-place-preserved
loop-place-preserved c =
    let bytes = c.args.bytes.now in
    let place = c.loop-place.place in
    c.in_ok-push.ensures.ok
    ∙ ap (λ (l : List Address). l ++ c.at.result ∷ []) c.loop-place.invariant
    ∙ ap (λ (a : Address). addresses_of place bytes ++ a ∷ []) c.at.ensures
    ∙ sym (addresses_next place bytes)
