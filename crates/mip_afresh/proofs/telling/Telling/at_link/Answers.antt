use Rattle.std.proofs.Common.{◌≡◌, ℕ, Bool, false, not, ◌&&◌, nat_lt, sym, ap, ◌∙◌}
use Rattle.std.specs.Prelude.{Option, if◌then◌else◌, ◌==◌}
use Rattle.mip_words.specs.declared.why.Why.TheVariants.{Hop}
use Rattle.mip_ipv6.specs.Tunnel.{hop_of}
use Rattle.mip_links.specs.Table as table
use Rattle.mip_links.specs.Table.{Asked, destination_in, at_holder}
use Rattle.mip_history.specs.Questions.{asked_in, holder_in}
use Rattle.mip_afresh.proofs.telling.Telling.at_link.Goals as goal

pub returns : goal.returns
returns c =
    let past = c.args.self.now.run.past in
    let post = c.args.post.now in
    let q : Asked = asked_in c.args.self.now.setup past in
    let fresh : (not (c.args.link.0 == post.from.0) && nat_lt (hop_of post.packet) 2) ≡ false = sym c.is_spent.ensures ∙ c.if-is_spent.false in
    c.at_holder.ensures
    ∙ ap (λ (o : Option ℕ). at_holder q post.shield o) (c.holder.ensures ∙ ap (holder_in past) (c.destination_in-destination.ensures ∙ ap destination_in c.bytes.ensures))
    ∙ sym (ap (λ (b : Bool). if b then table.Fate.Gone Hop else at_holder q post.shield (holder_in past (destination_in post.packet))) fresh)
