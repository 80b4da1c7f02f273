use Rattle.mip_make.specs.Counting.{counts_of}
use Rattle.mip_make.specs.declared.word.Word.TheVariants.{Sent, Handed, Up, Accepted, Denied, Dropped, Forged}
use Rattle.mip_make.proofs.CountingLaws.{entries_more, word_more}
use Rattle.mip_make.proofs.counts.Counts.with.Goals as goal

pub returns : goal.returns
unfolding counts_of
returns c = λ h are i.
    let old = c.args.self in
    let es = c.args.entries.now in
    record {
      entries = entries_more old h es c.raised.result are c.raised.ensures i;
      sent = word_more old h es Sent c.count.result c.raised-2.result are c.count.ensures c.raised-2.ensures i;
      handed = word_more old h es Handed c.count-2.result c.raised-3.result are c.count-2.ensures c.raised-3.ensures i;
      up = word_more old h es Up c.count-3.result c.raised-4.result are c.count-3.ensures c.raised-4.ensures i;
      accepted = word_more old h es Accepted c.count-4.result c.raised-5.result are c.count-4.ensures c.raised-5.ensures i;
      denied = word_more old h es Denied c.count-5.result c.raised-6.result are c.count-5.ensures c.raised-6.ensures i;
      dropped = word_more old h es Dropped c.count-6.result c.raised-7.result are c.count-6.ensures c.raised-7.ensures i;
      forged = word_more old h es Forged c.count-7.result c.raised-8.result are c.count-7.ensures c.raised-8.ensures i;
    }
