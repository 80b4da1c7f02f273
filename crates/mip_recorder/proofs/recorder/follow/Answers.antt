use Rattle.std.proofs.Common.{◌≡◌, ◌∷◌, [], ◌++◌, ◌∙◌, sym, subst, refl, ℕ, List, true, false}
use Rattle.std.specs.Prelude.{Option, Some, None, is_some}
use Rattle.mip_words.specs.declared.token.Token.{Token}
use Rattle.mip_provenance_index.specs.Stands.{number_posted, IsHeard}
use Rattle.mip_recorder.specs.Watched.{IsWatched}
use Rattle.mip_recorder.proofs.Watching.{is_next, is_heard, watched_on, watched_more}
use Rattle.mip_recorder.proofs.recorder.follow.Goals as goal

posted_none : (o : Option ℕ) → is_some o ≡ false → o ≡ None
posted_none None is = refl
posted_none (Some n) is = absurd cc

posted_some : (o : Option ℕ) → is_some o ≡ true → (n : ℕ) × (o ≡ Some n)
posted_some None is = absurd cc
posted_some (Some n) is = (n, refl)

pub returns-in_ok-push : goal.returns-in_ok-push
returns-in_ok-push c = λ past is next.
    let w = c.args.watch.now in
    let kept = c.args.tokens.now in
    let e = c.args.entry.now in
    let heard = c.heard-heard.ensures in
    let bytes = subst (IsHeard past e) (sym heard) (is_heard w past kept is e next) in
    let stands = c.in_ok-token.ensures.stands past is.stands (is_next w past kept is e next) bytes in
    let posts = posted_some (number_posted e) (sym c.is_posting.ensures ∙ c.if-is_posting.true) in
    let more = watched_more w past kept is e next posts.0 posts.1 c.note.new.self c.in_ok-token.token stands c.in_ok-token.ensures.token in
    subst (λ (l : List (Option Token)). IsWatched c.note.new.self (past ++ e ∷ []) l) (sym c.in_ok-push.ensures) more

pub returns-else-is_posting : goal.returns-else-is_posting
returns-else-is_posting c = λ past is next.
    let w = c.args.watch.now in
    let kept = c.args.tokens.now in
    let e = c.args.entry.now in
    let heard = c.heard-heard.ensures in
    let bytes = subst (IsHeard past e) (sym heard) (is_heard w past kept is e next) in
    let stands = c.in_ok-token.ensures.stands past is.stands (is_next w past kept is e next) bytes in
    let posts = posted_none (number_posted e) (sym c.is_posting.ensures ∙ c.if-is_posting.false) in
    watched_on w past kept is e next c.note.new.self stands posts
