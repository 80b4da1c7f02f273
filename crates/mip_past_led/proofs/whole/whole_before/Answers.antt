use Rattle.std.proofs.Common.{◌≡◌, ℕ, suc, ◌+◌, ◌<◌, ◌≤◌, Bool, List, length, sym, ap, ◌∙◌, subst, arith}
use Rattle.std.specs.Prelude.{if◌then◌else◌}
use Rattle.mip_entries.specs.declared.entry.Entry.{Entry}
use Rattle.mip_schedule.specs.Schedules.{content}
use Rattle.mip_history.specs.Setup.{setup_of}
use Rattle.mip_past.specs.Places.{place_at}
use Rattle.mip_past_led.specs.Whole.{whole_of}
use Rattle.mip_past_led.proofs.WholeLaws.{reached, passed}
use Rattle.mip_past_led.proofs.whole.whole_before.Goals as goal
use Rattle.mip_afresh.specs.Tellings.{TellingSeen}

pub returns-then-len-place-clause-is : goal.returns-then-len-place-clause-is
returns-then-len-place-clause-is c =
    let s = content c.args.schedule.now in
    let k = c.loop-run.count in
    let after = c.step.new.self in
    let more : after.next ≡ c.loop-run.run.next + 1 =
    c.in_ok-step.ensures.more ∙ ap (λ (b : Bool). if b then c.loop-run.run.next + 1 else c.loop-run.run.next) c.if-branch.true in
    let counted : after.next ≡ suc k = omega (arith, more, c.loop-run.invariant.count) in
    let long : length after.telling.run.past ≡ place_at (setup_of s) s.events after.next =
    ap (λ (t : TellingSeen). length t.run.past) c.in_ok-step.ensures.stands.is in
    let here : place_at (setup_of s) s.events after.next ≡ place_at (setup_of s) s.events (suc k) = ap (place_at (setup_of s) s.events) counted in
    let given : length c.history.result.now ≡ length after.telling.run.past = ap (λ (l : List Entry). length l) c.history.ensures in
    let beyond : c.args.place < place_at (setup_of s) s.events (suc k) = omega (arith, c.if-len-place.true, c.len.ensures, given, long, here) in
    let within : k ≤ length s.events = omega (arith, c.in_ok-step.ensures.stands.within, counted) in
    sym (passed (setup_of s) s.events c.args.place (length s.events) k within beyond ∙ reached (setup_of s) s.events c.args.place k c.loop-run.invariant.before)

pub returns-clause-is : goal.returns-clause-is
returns-clause-is c =
    let s = content c.args.schedule.now in
    let k = c.loop-run.count in
    let all : k ≡ length s.events = sym c.loop-run.invariant.count ∙ c.in_ok-step.ensures.end c.if-branch.false in
    sym (ap (whole_of (setup_of s) s.events c.args.place) (sym all) ∙ reached (setup_of s) s.events c.args.place k c.loop-run.invariant.before)
