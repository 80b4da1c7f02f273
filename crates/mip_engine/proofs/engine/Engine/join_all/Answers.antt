use Rattle.std.proofs.Common.{◌≡◌, ◌∙◌, List, ◌++◌, ◌∷◌, [], length, refl, sym, ap, subst, arith}
use Rattle.std.proofs.lemmas.List.{append_assoc, append-nil}
use Rattle.mip_history.specs.Setup.{Host}
use Rattle.mip_history.specs.Permitted.{opened}
use Rattle.mip_engine.specs.Joining.{ArePlaced}
use Rattle.mip_engine.specs.Openings.{with_hosts}
use Rattle.mip_engine.specs.Standing.{IsAt}
use Rattle.mip_engine.proofs.QuietLaws.{at_is}
use Rattle.mip_engine.proofs.OpenLaws.{at_new}
use Rattle.mip_engine.proofs.JoinLaws.{setup_at, joins_few, is_placed, joins_free, joins_share}
use Rattle.mip_engine.proofs.engine.Engine.join_all.Goals as goal

nothing_left : (xs : List Host) → length xs ≡ 0 → xs ≡ []
nothing_left [] e = refl
nothing_left (x ∷ xs) e = absurd cc

pub loop-host-init : goal.loop-host-init
loop-host-init c = record { runs = λ s is. at_is is (at_new s); kept = refl; split = sym c.into_iter-host-iterator.ensures.into_iter_gives.0 }

pub join_and_share-requires-clause-few : goal.join_and_share-requires-clause-few
join_and_share-requires-clause-few c =
    let s = setup_at c.args.self.now c.args.hosts.items in
    let front = c.loop-host.yielded in
    let rest = c.next.new.self.rest.items in
    let whole : c.args.hosts.items ≡ front ++ c.in-Some.host ∷ rest = c.loop-host.invariant.split ∙ ap (λ (l : List Host). front ++ l) c.in-Some.ensures.steps.0 in
    joins_few c.loop-host.self s front rest c.in-Some.host (subst (λ (l : List Host). ArePlaced s.links l) whole c.requires.placed) (c.loop-host.invariant.runs s c.requires.new)

pub join_and_share-requires-clause-fit : goal.join_and_share-requires-clause-fit
join_and_share-requires-clause-fit c =
    let s = setup_at c.args.self.now c.args.hosts.items in
    let front = c.loop-host.yielded in
    let rest = c.next.new.self.rest.items in
    let whole : c.args.hosts.items ≡ front ++ c.in-Some.host ∷ rest = c.loop-host.invariant.split ∙ ap (λ (l : List Host). front ++ l) c.in-Some.ensures.steps.0 in
    (is_placed c.loop-host.self s front rest c.in-Some.host (subst (λ (l : List Host). ArePlaced s.links l) whole c.requires.placed) (c.loop-host.invariant.runs s c.requires.new)).fit

pub join_and_share-requires-clause-free : goal.join_and_share-requires-clause-free
join_and_share-requires-clause-free c =
    let s = setup_at c.args.self.now c.args.hosts.items in
    let front = c.loop-host.yielded in
    let rest = c.next.new.self.rest.items in
    let whole : c.args.hosts.items ≡ front ++ c.in-Some.host ∷ rest = c.loop-host.invariant.split ∙ ap (λ (l : List Host). front ++ l) c.in-Some.ensures.steps.0 in
    joins_free c.loop-host.self s front rest c.in-Some.host (subst (λ (l : List Host). ArePlaced s.links l) whole c.requires.placed) (c.loop-host.invariant.runs s c.requires.new)

pub join_and_share-requires-clause-share : goal.join_and_share-requires-clause-share
join_and_share-requires-clause-share c =
    let s = setup_at c.args.self.now c.args.hosts.items in
    let front = c.loop-host.yielded in
    let rest = c.next.new.self.rest.items in
    let whole : c.args.hosts.items ≡ front ++ c.in-Some.host ∷ rest = c.loop-host.invariant.split ∙ ap (λ (l : List Host). front ++ l) c.in-Some.ensures.steps.0 in
    joins_share c.loop-host.self s front rest c.in-Some.host (subst (λ (l : List Host). ArePlaced s.links l) whole c.requires.placed) (c.loop-host.invariant.runs s c.requires.new)

pub loop-host-preserved : goal.loop-host-preserved
loop-host-preserved c =
    let front = c.loop-host.yielded in
    let rest = c.next.new.self.rest.items in
    record {
      runs = λ s is. c.in_ok-join_and_share.ensures.stands s front (c.loop-host.invariant.runs s is);
      kept = c.in_ok-join_and_share.ensures.kept ∙ c.loop-host.invariant.kept;
      split = c.loop-host.invariant.split ∙ ap (λ (l : List Host). front ++ l) c.in-Some.ensures.steps.0 ∙ sym (append_assoc front (c.in-Some.host ∷ []) rest);
    }

pub returns-clause-stands : goal.returns-clause-stands
returns-clause-stands c = λ s hosts is.
    let none : c.loop-host.host-iterator.rest.items ≡ [] = nothing_left c.loop-host.host-iterator.rest.items (omega (arith, c.loop-host.host-iterator.rest.ok.0, c.in-None.ensures.steps.0)) in
    let all : c.loop-host.yielded ≡ s.hosts = sym (append-nil c.loop-host.yielded) ∙ ap (λ (l : List Host). c.loop-host.yielded ++ l) (sym none) ∙ sym c.loop-host.invariant.split ∙ sym hosts in
    subst (λ (hs : List Host). IsAt c.loop-host.self (with_hosts hs s) (opened (with_hosts hs s))) all (c.loop-host.invariant.runs s is)
