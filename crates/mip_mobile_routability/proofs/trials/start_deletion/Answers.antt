use Rattle.std.proofs.Common.{sym, subst}
use Rattle.mip_words.specs.declared.token.Cookie.{Cookie}
use Rattle.mip_bulist.specs.declared.aim.Aim.TheVariants.{Delete}
use Rattle.mip_rules_mobile.specs.Trials.{Start}
use Rattle.mip_rules_mobile.specs.Sendings.{AsksHome}
use Rattle.mip_rules_mobile.specs.Steps.{Tries}
use Rattle.mip_rules_mobile.specs.Known.{Known}
use Rattle.mip_rules_mobile.specs.RowQuestions.{first_cookie}
use Rattle.mip_rules_mobile.specs.OutRules.{goes_out}
use Rattle.mip_rules_mobile.specs.TrialRules.{waits}
use Rattle.mip_rules_mobile.specs.Transitions.{noted}
use Rattle.mip_mobile_context.specs.Seen.{Shows}
use Rattle.mip_mobile_context.proofs.Noted.{shows-known}
use Rattle.mip_mobile_routability.proofs.trials.start_deletion.Goals as goal

pub returns : goal.returns
returns c = λ t shows.
    let row = c.args.at.row in
    let peer = c.args.at.peer in
    let asked = c.in_ok-ask_home.ensures _ (c.start_trial.ensures t shows) in
    subst (λ (k : Known). Shows c.wait_row.new.self (waits row 1000 (goes_out (AsksHome peer (first_cookie k).0) (noted (Tries row (Start Delete (first_cookie k) (first_cookie k))) t))))
    (sym (shows-known c.args.context.now t shows))
    (subst (λ (h : Cookie). Shows c.wait_row.new.self (waits row 1000 (goes_out (AsksHome peer h.0) (noted (Tries row (Start Delete h h)) t))))
    c.first_cookie-home.ensures (c.wait_row.ensures _ asked))
