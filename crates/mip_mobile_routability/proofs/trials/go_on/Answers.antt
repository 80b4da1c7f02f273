use Rattle.std.proofs.Common.{◌≡◌, Bool, rules, sym, subst}
use Rattle.std.specs.Prelude.{Option, Some}
use Rattle.mip_words.specs.declared.token.Cookie.{Cookie}
use Rattle.mip_bulist.specs.declared.any.Any.{Any}
use Rattle.mip_bulist.specs.declared.any.Any.TheVariants.{Probing}
use Rattle.mip_rules_mobile.specs.Known.{Known}
use Rattle.mip_rules_mobile.specs.RowQuestions.{trial_of}
use Rattle.mip_rules_mobile.specs.Trials.{lacks_home, lacks_careof}
use Rattle.mip_rules_mobile.specs.TrialRules.{waits, asks_home, asks_careof, asks_again, goes_on}
use Rattle.mip_mobile_context.specs.Seen.{Shows}
use Rattle.mip_mobile_context.proofs.Noted.{shows-known}
use Rattle.mip_mobile_routability.proofs.trials.go_on.Goals as goal

pub returns-in_ok-ask_again-in-Some-Probing : goal.returns-in_ok-ask_again-in-Some-Probing
unfolding asks_again
returns-in_ok-ask_again-in-Some-Probing c = λ t shows.
    let d = c.args.context.now in
    let u = c.in-Some-Probing.trial in
    let m = c.of-missing.result in
    let is : trial_of d.known c.args.at.row ≡ Some (Probing u) = search rules in
    let rule = λ (h : Bool) (hc : Cookie) (x : Bool) (xc : Cookie). waits c.args.at.row c.args.wait (asks_careof x d.known.standing c.args.at.peer xc.0 (asks_home h c.args.at.peer hc.0 t)) in
    let waited = c.wait_row.ensures _ (c.in_ok-ask_again-in-Some-Probing.ensures t shows) in
    subst (λ (o : Option Any). Shows c.wait_row.new.self (goes_on o c.args.at.row c.args.at.peer c.args.wait t)) (sym is)
    (subst (λ (k : Known). Shows c.wait_row.new.self (waits c.args.at.row c.args.wait (asks_careof (lacks_careof u) k.standing c.args.at.peer u.state.careof_cookie.0 (asks_home (lacks_home u) c.args.at.peer u.state.home_cookie.0 t))))
    (sym (shows-known d t shows))
    (subst (λ (xc : Cookie). Shows c.wait_row.new.self (rule (lacks_home u) u.state.home_cookie (lacks_careof u) xc)) c.of-missing.ensures.careof_cookie
    (subst (λ (x : Bool). Shows c.wait_row.new.self (rule (lacks_home u) u.state.home_cookie x m.careof_cookie)) c.of-missing.ensures.careof
    (subst (λ (hc : Cookie). Shows c.wait_row.new.self (rule (lacks_home u) hc m.careof m.careof_cookie)) c.of-missing.ensures.home_cookie
    (subst (λ (h : Bool). Shows c.wait_row.new.self (rule h m.home_cookie m.careof m.careof_cookie)) c.of-missing.ensures.home waited)))))
