use Rattle.std.proofs.Common.{sym, subst}
use Rattle.mip_words.specs.declared.token.Cookie.{Cookie}
use Rattle.mip_bulist.specs.declared.aim.Aim.TheVariants.{Bind}
use Rattle.mip_rules_mobile.specs.Trials.{Start}
use Rattle.mip_rules_mobile.specs.Sendings.{AsksHome, AsksCareof}
use Rattle.mip_rules_mobile.specs.Steps.{Sends, Tries}
use Rattle.mip_rules_mobile.specs.Known.{Known}
use Rattle.mip_rules_mobile.specs.RowQuestions.{first_cookie, second_cookie}
use Rattle.mip_rules_mobile.specs.OutRules.{goes_out}
use Rattle.mip_rules_mobile.specs.TrialRules.{waits}
use Rattle.mip_rules_mobile.specs.Transitions.{noted}
use Rattle.mip_mobile_context.specs.Seen.{Shows}
use Rattle.mip_mobile_context.proofs.Noted.{shows-known}
use Rattle.mip_mobile_routability.proofs.trials.start_binding.Goals as goal

pub returns : goal.returns
returns c = λ t shows.
    let row = c.args.at.row in
    let peer = c.args.at.peer in
    let careof = c.args.careof in
    let starts_by = λ (home other : Cookie). waits row 1000 (noted (Sends (AsksCareof careof peer other.0)) (goes_out (AsksHome peer home.0) (noted (Tries row (Start (Bind careof) home other)) t))) in
    let asked = c.in_ok-ask_home.ensures _ (c.start_trial.ensures t shows) in
    subst (λ (k : Known). Shows c.wait_row.new.self (starts_by (first_cookie k) (second_cookie k))) (sym (shows-known c.args.context.now t shows))
    (subst (λ (h : Cookie). Shows c.wait_row.new.self (starts_by h (second_cookie c.args.context.now.known))) c.first_cookie-home.ensures
    (subst (λ (o : Cookie). Shows c.wait_row.new.self (starts_by c.first_cookie-home.result o)) c.second_cookie-other.ensures
    (c.wait_row.ensures _ (c.in_ok-ask_careof.ensures _ asked))))
