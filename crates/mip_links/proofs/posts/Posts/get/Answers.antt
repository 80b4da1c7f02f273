use Rattle.std.proofs.Common.{rules, ◌≡◌, ◌≤◌, ℕ, List, length, ap, sym, subst, ◌∙◌}
use Rattle.std.specs.Prelude.{slice_get, Some, None}
use Rattle.mip_links.specs.Table.{Post}
use Rattle.mip_links.specs.Kept.{end_before}
use Rattle.mip_links.proofs.PostLaws.{fits, found, absent, looked_at}
use Rattle.mip_links.proofs.posts.Posts.get.Goals as goal

pub part-requires-clause-some : goal.part-requires-clause-some
part-requires-clause-some c =
    let is : slice_get c.self.inside.list.items c.args.number ≡ Some c.in-Some.post = search rules in
    let begin : c.start_of-start.result ≡ end_before c.self.inside.list.items c.args.number = search rules in
    (fits c.self.inside.bytes.items c.self.inside.shields c.self.inside.list.items c.args.number c.start_of-start.result c.in-Some.post c.self.invariant is begin).0

pub part-requires-clause-within : goal.part-requires-clause-within
part-requires-clause-within c =
    let is : slice_get c.self.inside.list.items c.args.number ≡ Some c.in-Some.post = search rules in
    let begin : c.start_of-start.result ≡ end_before c.self.inside.list.items c.args.number = search rules in
    subst (λ (l : List ℕ). c.in-Some.post.end ≤ length l) (sym c.deref-in-Some-2.ensures.value)
    (fits c.self.inside.bytes.items c.self.inside.shields c.self.inside.list.items c.args.number c.start_of-start.result c.in-Some.post c.self.invariant is begin).1

pub returns-in-Some-clause-found : goal.returns-in-Some-clause-found
returns-in-Some-clause-found c =
    let is : slice_get c.self.inside.list.items c.args.number ≡ Some c.in-Some.post = search rules in
    let begin : c.start_of-start.result ≡ end_before c.self.inside.list.items c.args.number = search rules in
    looked_at c.deref-in-Some-2.result.now c.self.inside.shields c.start_of-start.result c.in-Some.post c.flight.result c.part.result c.flight.ensures.from c.flight.ensures.shield c.part.ensures.is
    ∙ rw c.deref-in-Some-2.ensures.value (found c.self.inside.bytes.items c.self.inside.shields c.self.inside.list.items c.args.number c.start_of-start.result c.in-Some.post is begin)
    ∙ ap (λ (l : List Post). slice_get l c.args.number) c.self.view_is

pub returns-in-None-clause-found : goal.returns-in-None-clause-found
returns-in-None-clause-found c =
    let is : slice_get c.self.inside.list.items c.args.number ≡ None = search rules in
    absent c.self.inside.bytes.items c.self.inside.shields c.self.inside.list.items c.args.number is ∙ ap (λ (l : List Post). slice_get l c.args.number) c.self.view_is
