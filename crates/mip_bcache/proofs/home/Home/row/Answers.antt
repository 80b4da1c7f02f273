use Rattle.std.proofs.Common.{ℕ, ◌+◌, ◌<◌, sym, ap, subst, ◌∙◌, arith}
use Rattle.std.specs.Prelude.{option_copied}
use Rattle.mip_bcache.specs.Seen.{rows_of_home}
use Rattle.mip_bcache.specs.Table.{live_in, rows_seen}
use Rattle.mip_bcache.proofs.Numbers.{HasPassed, begun, pass_some, pass_none, pass_here, pass_end}
use Rattle.mip_bcache.proofs.home.Home.row.Goals.{in-Some+else-place-eq0, in-None}
use Rattle.mip_bcache.proofs.home.Home.row.Goals as goal

pub loop-number-init : goal.loop-number-init
loop-number-init c = record { within = omega arith; has = begun (rows_seen c.args.self.now) c.args.place.now }

pub loop-number-preserved : goal.loop-number-preserved
loop-number-preserved c =
    let rs = live_in c.args.self.now in
    let whole = rows_of_home (rows_seen c.args.self.now) in
    let less : c.loop-number.number < 8 = let few = c.requires.few in let test = c.loop-number-test.true in omega arith in
    let has : HasPassed rs whole (c.loop-number.number + 1) c.match-under.place c.args.place.now = elim c.match-under.branch [
      | in-Some+else-place-eq0 w ↦
          subst (λ (place : ℕ). HasPassed rs whole (c.loop-number.number + 1) place c.args.place.now) (sym w.place-is)
          (pass_some rs whole c.loop-number.number c.loop-number.place c.args.place.now w.in-Some.row.now less (sym c.under.ensures ∙ ap option_copied w.in-Some.is) w.if-place-eq0.false c.loop-number.invariant.has)
      | in-None w ↦
          subst (λ (place : ℕ). HasPassed rs whole (c.loop-number.number + 1) place c.args.place.now) (sym w.place-is)
          (pass_none rs whole c.loop-number.number c.loop-number.place c.args.place.now less (sym c.under.ensures ∙ ap option_copied w.in-None.is) c.loop-number.invariant.has)
    ] in
    record { within = let test = c.loop-number-test.true in omega arith; has = has }

pub returns-then-place-eq0-clause-found : goal.returns-then-place-eq0-clause-found
returns-then-place-eq0-clause-found c =
    let less : c.loop-number.number < 8 = let few = c.requires.few in let test = c.loop-number-test.true in omega arith in
    pass_here (live_in c.args.self.now) (rows_of_home (rows_seen c.args.self.now)) c.loop-number.number c.loop-number.place c.args.place.now c.in-Some.row.now less (sym c.under.ensures ∙ ap option_copied c.in-Some.is) c.if-place-eq0.true c.loop-number.invariant.has

pub returns-clause-found : goal.returns-clause-found
returns-clause-found c =
    (pass_end (live_in c.args.self.now) (rows_of_home (rows_seen c.args.self.now)) c.args.numbers c.loop-number.number c.loop-number.place c.args.place.now c.requires.below c.loop-number-test.false c.loop-number.invariant.has).0

pub returns-clause-passed : goal.returns-clause-passed
returns-clause-passed c = λ none.
    (pass_end (live_in c.args.self.now) (rows_of_home (rows_seen c.args.self.now)) c.args.numbers c.loop-number.number c.loop-number.place c.args.place.now c.requires.below c.loop-number-test.false c.loop-number.invariant.has).1
