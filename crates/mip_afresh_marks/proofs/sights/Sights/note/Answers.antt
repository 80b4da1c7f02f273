use Rattle.std.proofs.Common.{sym, ap, ◌∙◌}
use Rattle.std.specs.Prelude.{Some, None, option_map}
use Rattle.mip_afresh_marks.specs.Sighting.{post_of}
use Rattle.mip_afresh_marks.proofs.Standing.{stands_more}
use Rattle.mip_afresh_marks.proofs.sights.Sights.note.Goals as goal
use Rattle.std.proofs.lemmas.List.{append-nil}

pub returns-in_ok-push-in-Some : goal.returns-in_ok-push-in-Some
returns-in_ok-push-in-Some c = λ past is next.
    stands_more c.args.self.now (record { seen = c.push.new.self; posts = c.push-in-Some.new.self }) past c.args.entry.now c.in_ok-sight.sight (Some c.in-Some.post) is next
    c.in_ok-push.ensures.items c.in_ok-push-in-Some.ensures.items c.in_ok-sight.ensures (ap (option_map post_of) (sym c.in-Some.is) ∙ c.in_ok-post.ensures)

pub returns-in-None : goal.returns-in-None
returns-in-None c = λ past is next.
    stands_more c.args.self.now (record { seen = c.push.new.self; posts = c.args.self.now.posts }) past c.args.entry.now c.in_ok-sight.sight None is next
    c.in_ok-push.ensures.items (sym (append-nil c.args.self.now.posts.items)) c.in_ok-sight.ensures (ap (option_map post_of) (sym c.in-None.is) ∙ c.in_ok-post.ensures)
