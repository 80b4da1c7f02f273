use Rattle.std.proofs.Common.{◌≡◌, ◌+◌, ◌<◌, ◌^◌, length, sym, ap, subst, arith}
use Rattle.std.specs.Prelude.{Ok}
use Rattle.mip_schedule.specs.Contents.{Content, holding}
use Rattle.mip_schedule.specs.Reading.{reading}
use Rattle.mip_schedule.specs.Spelling.{spelling}
use Rattle.mip_schedule.proofs.AcceptedLaws.{read_is, held_is}
use Rattle.mip_make.specs.Made.{made}
use Rattle.mip_make.proofs.MadeLaws.{made_read, made_lines}
use Rattle.mip_make.proofs.making.make.Goals as goal

pub invariant_of-result : goal.invariant_of-result
invariant_of-result c =
    let seed = c.args.seed.now in
    let whole : holding 1 seed (record { 0 = 0 }) c.in_ok-declarations.declarations c.in_ok-events.events ≡ made seed c.args.count =
    λ i. record { version = 1; seed = seed; start = record { 0 = 0 }; declarations = c.in_ok-declarations.ensures i; events = c.in_ok-events.ensures i } in
    let e = subst (λ (x : Content). reading (spelling x) ≡ Ok x) (sym whole) (made_read seed c.args.count (omega arith) (λ i. omega (arith, c.fits-seed i)) c.requires) in
    let same = held_is _ _ e in
    record {
      accepted = read_is _ _ e;
      same_version = ap (λ x. x.version) same;
      same_seed = ap (λ x. x.seed) same;
      same_start = ap (λ x. x.start) same;
      same_declarations = ap (λ x. x.declarations) same;
      same_events = ap (λ x. x.events) same;
      few_lines = subst (λ (x : Content). length x.declarations + length x.events + 5 < 2 ^ 32) (sym whole) (made_lines seed c.args.count c.requires);
    }
