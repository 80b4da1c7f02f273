use Rattle.std.proofs.Common.{rules, ◌∙◌, ap, ◌++◌, ◌∷◌, [], List}
use Rattle.mip_links.specs.Table.{Post}
use Rattle.mip_links.proofs.PostLaws.{on_err, one_more, one_kept, same_kept, same_posts}
use Rattle.mip_links.proofs.posts.Posts.push.Goals as goal

pub invariant_of-self-in_err-flight : goal.invariant_of-self-in_err-flight
invariant_of-self-in_err-flight c =
    rw c.reserve.ensures.items (same_kept c.self.inside.bytes.items c.self.inside.shields c.keep.new.self 0 c.self.inside.list.items c.keep.ensures.left c.self.invariant)

pub returns-in_err-flight-clause-err : goal.returns-in_err-flight-clause-err
returns-in_err-flight-clause-err c =
    on_err c.from_residual-in_err-flight.result (rw c.reserve.ensures.items (same_posts c.self.inside.bytes.items c.self.inside.shields c.keep.new.self 0 c.self.inside.list.items c.keep.ensures.left c.self.invariant ∙ c.self.view_is))

pub invariant_of-self-in_err-extend_from_slice : goal.invariant_of-self-in_err-extend_from_slice
invariant_of-self-in_err-extend_from_slice c =
    rw c.reserve.ensures.items (rw c.in_err-extend_from_slice.ensures.items (same_kept c.self.inside.bytes.items c.self.inside.shields c.keep.new.self 0 c.self.inside.list.items c.keep.ensures.left c.self.invariant))

pub returns-in_err-extend_from_slice-clause-err : goal.returns-in_err-extend_from_slice-clause-err
returns-in_err-extend_from_slice-clause-err c =
    on_err c.from_residual-in_err-extend_from_slice.result (rw c.reserve.ensures.items (rw c.in_err-extend_from_slice.ensures.items (same_posts c.self.inside.bytes.items c.self.inside.shields c.keep.new.self 0 c.self.inside.list.items c.keep.ensures.left c.self.invariant ∙ c.self.view_is)))

pub invariant_of-self-2 : goal.invariant_of-self-2
invariant_of-self-2 c =
    rw c.push_reserved.ensures.items (rw c.reserve.ensures.items (rw c.in_ok-extend_from_slice.ensures.items
    (one_kept c.self.inside.bytes.items c.args.packet.now c.self.inside.shields c.keep.new.self 0 c.self.inside.list.items _ c.keep.ensures.left c.self.invariant c.requires (search rules) (search rules))))

pub returns-clause-ok : goal.returns-clause-ok
returns-clause-ok c =
    rw c.push_reserved.ensures.items (rw c.reserve.ensures.items (rw c.in_ok-extend_from_slice.ensures.items
    (one_more c.self.inside.bytes.items c.args.packet.now c.self.inside.shields c.keep.new.self 0 c.self.inside.list.items _ c.args.from.0 c.args.shield c.keep.ensures.left c.self.invariant (search rules) c.in_ok-flight.ensures.from c.in_ok-flight.ensures.shield
    ∙ ap (λ (l : List Post). l ++ record { from = c.args.from.0; shield = c.args.shield; packet = c.args.packet.now } ∷ []) c.self.view_is)))
