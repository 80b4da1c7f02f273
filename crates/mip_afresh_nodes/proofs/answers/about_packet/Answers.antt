use Rattle.std.proofs.Common.{◌≡◌, ℕ, sym, ap, subst, ◌∙◌}
use Rattle.std.proofs.lemmas.Result.{IfOk-weaker}
use Rattle.mip_words.specs.declared.moment.Moment.{Moment}
use Rattle.mip_ipv6.specs.Reading.{packet_of}
use Rattle.mip_rules_correspondent.specs.declared.identity.Identity.{Identity}
use Rattle.mip_rules_correspondent.specs.Calls.{Take}
use Rattle.mip_rules_correspondent.specs.Steps.{answers_of}
use Rattle.mip_rules_correspondent.specs.Doing.{transition_of}
use Rattle.mip_afresh_rules.specs.Keeping.{IsKeptFor}
use Rattle.mip_afresh_nodes.specs.Members.{identity_at, known_at, moment_at}
use Rattle.mip_afresh_nodes.proofs.answers.about_packet.Goals as goal

pub returns : goal.returns
returns c = λ shield.
    let v = c.args.standing.now in
    let k = known_at v in
    let call = Take c.args.number shield c.args.packet.now in
    let late : c.in_ok-now.now.moment.0 ≡ moment_at v = ap (λ (m : Moment). m.0) c.in_ok-now.ensures ∙ c.now.ensures ∙ ap moment_at c.standing.view_is in
    IfOk-weaker c.take.result _ _
    (λ a is. is
    ∙ ap (λ (me : Identity). answers_of (transition_of me k c.in_ok-now.now.moment.0 call).steps) (c.in_ok-me.ensures ∙ ap identity_at c.standing.view_is)
    ∙ ap (λ (at : ℕ). answers_of (transition_of (identity_at v) k at call).steps) late)
    (c.take.ensures k shield (subst (λ (at : ℕ). IsKeptFor c.in_ok-kept.kept k.cache at (packet_of c.args.packet.now)) (sym late) c.in_ok-kept.ensures))
