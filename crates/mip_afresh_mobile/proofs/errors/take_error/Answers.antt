use Rattle.std.proofs.Common.{Bool, ap, ◌∙◌, ◌==◌, ◌&&◌, if◌then◌else◌}
use Rattle.std.specs.Prelude.{Option, ℕ}
use Rattle.mip_words.specs.declared.address.Address.{Address}
use Rattle.mip_words.specs.declared.why.Why.TheVariants as whys
use Rattle.mip_rules_mobile.specs.HomeQuestions.{home_of}
use Rattle.mip_rules_mobile.specs.RowQuestions.{bound_row_of}
use Rattle.mip_rules_mobile.specs.PeerRules.{loses, takes_error}
use Rattle.mip_rules_mobile.specs.Steps.{Drops}
use Rattle.mip_rules_mobile.specs.Transitions.{Transition, noted}
use Rattle.mip_afresh_mobile.proofs.Turned.{shows-seen, found, asked}
use Rattle.mip_afresh_mobile.proofs.errors.take_error.Goals as goal

pub returns : goal.returns
unfolding takes_error
returns c = λ t shows.
    let turn = c.args.turn.now in
    let peer = c.args.peer in
    let of = λ (own : Address). (c.args.status == 1) && (c.args.home.0 == own.0) in
    let rule : Bool → Option ℕ → Transition = λ counts row. if counts then loses c.args.number row peer t else noted (Drops c.args.number whys.Error) t in
    let bound = bound_row_of t.known t.now peer in
    asked c.lose_if.result c.lose_if.new.turn (λ counts. rule counts bound) c.is_of_binding-counts.result (of (home_of t.known))
    (c.is_of_binding-counts.ensures ∙ ap of (c.home.ensures t.known (shows-seen turn t shows)))
    (asked c.lose_if.result c.lose_if.new.turn (λ row. rule c.is_of_binding-counts.result row) c.bound_row_of-row.result bound
    (found turn t (λ k now. bound_row_of k now peer) c.bound_row_of-row.result c.bound_row_of-row.ensures shows)
    (c.lose_if.ensures t shows))
