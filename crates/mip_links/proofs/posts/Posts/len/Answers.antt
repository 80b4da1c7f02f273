use Rattle.std.proofs.Common.{rules, ◌≡◌, ◌∙◌, sym, ap, length, List}
use Rattle.std.specs.Vec.{vec_len}
use Rattle.mip_links.specs.Table.{Post}
use Rattle.mip_links.proofs.PostLaws.{count}
use Rattle.mip_links.proofs.posts.Posts.len.Goals as goal

pub returns : goal.returns
returns c =
    let same = count c.self.inside.bytes.items c.self.inside.shields 0 c.self.inside.list.items in
    let counted : vec_len c.self.inside.list ≡ length c.self.inside.list.items = search rules in
    c.len.ensures ∙ counted ∙ sym same ∙ ap (λ (l : List Post). length l) c.self.view_is
