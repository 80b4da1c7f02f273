use Rattle.std.proofs.Common.{◌≡◌, ap, ◌∙◌, arith}
use Rattle.mip_make.specs.Counting.{counts_of}
use Rattle.mip_make.proofs.CountingLaws.{summary_is}
use Rattle.mip_make.proofs.tally.Tally.text.Goals as goal

pub returns : goal.returns
returns c =
    let h = c.args.self.now in
    let counts = c.self.inside.counts in
    let are : counts ≡ counts_of h = c.self.invariant ∙ ap counts_of c.self.view_is in
    rw (c.in_ok-put_words.ensures, c.in_ok-put_count-2.ensures, c.in_ok-put_count.ensures, c.new-out.ensures)
    (summary_is c.args.events h counts are (λ e. omega (arith, e, c.if-self.false)))
