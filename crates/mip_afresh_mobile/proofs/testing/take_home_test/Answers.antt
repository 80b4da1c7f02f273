use Rattle.std.proofs.Common.{Bool, sym, ap, ◌∙◌, if◌then◌else◌}
use Rattle.std.specs.Prelude.{Option, ℕ}
use Rattle.mip_words.specs.declared.why.Why.TheVariants as whys
use Rattle.mip_rules_mobile.specs.declared.attachment.Attachment.{Attachment}
use Rattle.mip_rules_mobile.specs.RowQuestions.{row_of}
use Rattle.mip_rules_mobile.specs.PeerRules.{comes_right, test_at, home_row, keeps_home, takes_home_test}
use Rattle.mip_rules_mobile.specs.Steps.{Drops}
use Rattle.mip_rules_mobile.specs.Transitions.{Transition, noted}
use Rattle.mip_afresh_mobile.proofs.Turned.{shows-now, shows-seen, asked}
use Rattle.mip_afresh_mobile.proofs.testing.take_home_test.Goals as goal

pub returns : goal.returns
unfolding takes_home_test
returns c = λ t shows.
    let turn = c.args.turn.now in
    let number = c.args.handed.now.number in
    let peer = c.args.peer in
    let seen = shows-seen turn t shows in
    let test = λ (at : ℕ). test_at at c.args.index c.args.token.0 in
    let rule : ℕ → Bool → Option ℕ → Transition = λ at right row. if right then keeps_home number peer c.args.cookie (test at) row t else noted (Drops number whys.Cookie) t in
    let right = comes_right t.known.standing (c.args.handed.now.tunnelled) in
    let row = λ (at : ℕ) (o : Option ℕ). home_row t.known peer c.args.cookie (test at) o in
    let result = c.keep_home_if.result in
    let new = c.keep_home_if.new.turn in
    asked result new (λ at. rule at right (row at (row_of t.known peer))) turn.now.0 t.now (sym (shows-now turn t shows))
    (asked result new (λ b. rule turn.now.0 b (row turn.now.0 (row_of t.known peer))) c.comes_right-right.result right
    (c.comes_right-right.ensures ∙ ap (λ (s : Attachment). comes_right s (c.args.handed.now.tunnelled)) (c.standing.ensures t.known seen))
    (asked result new (λ o. rule turn.now.0 c.comes_right-right.result o) c.home_row-row.result (row turn.now.0 (row_of t.known peer))
    (c.home_row-row.ensures t (test turn.now.0) shows ∙ ap (row turn.now.0) (c.row_of.ensures t.known seen))
    (c.keep_home_if.ensures t shows)))
