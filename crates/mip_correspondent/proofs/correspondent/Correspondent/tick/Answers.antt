use Rattle.std.proofs.Common.{◌≡◌, ℕ, ap, sym, subst, ◌∙◌}
use Rattle.mip_bcache.specs.Seen.{CacheSeen, expired}
use Rattle.mip_rules_correspondent.specs.Calls as calls
use Rattle.mip_rules_correspondent.specs.declared.known.Known.{Known}
use Rattle.mip_rules_correspondent.specs.Transitions.{Stands, with_transition}
use Rattle.mip_rules_correspondent.specs.Seen.{CorrespondentSeen, transition_at}
use Rattle.mip_rules_correspondent.proofs.Calls.{call-stands}
use Rattle.mip_correspondent.specs.Soundness.{IsSound}
use Rattle.mip_correspondent.specs.Showing.{left}
use Rattle.mip_correspondent.proofs.Rows.{ticked_sound}
use Rattle.mip_correspondent.proofs.CallTransitions.{ticked-known}
use Rattle.mip_correspondent.proofs.correspondent.Correspondent.tick.Goals as goal

pub invariant_of-self : goal.invariant_of-self
invariant_of-self c =
    let inside = c.self.inside in
    subst (λ (cache : CacheSeen). IsSound (record { identity = inside.identity; known = record { last = c.args.now; cache = cache } })) (sym c.give_up-given_up.ensures.homes)
    (ticked_sound inside.identity inside.known c.args.now.0 c.self.invariant)

-- what is known afterwards
leaves : (inside old : CorrespondentSeen) (now : ℕ) (cache : CacheSeen) → inside ≡ old → cache ≡ expired now inside.known.cache → left now cache ≡ (transition_at old now calls.Tick).known
leaves inside old now cache same rows =
    ap (left now) (rows ∙ ap (λ (s : CorrespondentSeen). expired now s.known.cache) same) ∙ sym (ticked-known old.identity old.known now)

pub returns-clause-after : goal.returns-clause-after
returns-clause-after c =
    ap (λ (k : Known). record { identity = c.self.inside.identity; known = k }) (leaves (record { identity = c.self.inside.identity; known = c.self.inside.known }) c.args.self.now c.args.now.0 c.give_up-given_up.new.self c.self.view_is c.give_up-given_up.ensures.homes)
    ∙ ap (λ (s : CorrespondentSeen). record { identity = s.identity; known = (transition_at c.args.self.now c.args.now.0 calls.Tick).known }) c.self.view_is

pub returns-clause-stands : goal.returns-clause-stands
returns-clause-stands c = λ room numbers past stands.
    let s = c.args.self.now in
    subst (λ (k : Known). Stands room numbers (with_transition past (transition_at s c.args.now.0 calls.Tick)) k)
    (sym (leaves (record { identity = c.self.inside.identity; known = c.self.inside.known }) s c.args.now.0 c.give_up-given_up.new.self c.self.view_is c.give_up-given_up.ensures.homes)) (call-stands room numbers past s.known c.args.now.0 s.identity calls.Tick stands)
