use Rattle.std.proofs.Common.{sym, subst, ◌≤◌}
use Rattle.mip_bcache.specs.Seen.{CacheSeen}
use Rattle.mip_rules_correspondent.specs.Seen.{CorrespondentSeen}
use Rattle.mip_correspondent.specs.Soundness.{IsSound}
use Rattle.mip_correspondent.specs.Showing.{Fits}
use Rattle.mip_correspondent.proofs.Rows.{kept_sound}
use Rattle.mip_correspondent.proofs.correspondent.Correspondent.commit_call.Goals as goal

pub invariant_of-self : goal.invariant_of-self
invariant_of-self c =
    let inside = c.self.inside in
    let later = subst (λ (s : CorrespondentSeen). s.known.last.0 ≤ c.args.now.0) (sym c.self.view_is) c.requires.timely.later in
    let fits = subst (λ (s : CorrespondentSeen). Fits c.args.now.0 s.known.cache c.args.kept) (sym c.self.view_is) c.requires.fits in
    subst (λ (cache : CacheSeen). IsSound (record { identity = inside.identity; known = record { last = c.args.now; cache = cache } })) (sym c.keep.ensures)
    (kept_sound inside.identity inside.known c.args.now.0 c.args.kept c.self.invariant later fits)
