-- A packet that was posted stays as it was posted.
use Rattle.std.proofs.Common.{◌≡◌, ℕ, zero, suc, List, [], ◌∷◌, ◌++◌, sym, ap, ◌∙◌}
use Rattle.std.specs.Prelude.{Some, slice_get}
use Rattle.std.proofs.lemmas.List.{append_assoc, append-nil}
use Rattle.mip_links.specs.Table.{Post}
use Rattle.mip_schedule.specs.declared.event.Event.{Event}
use Rattle.mip_history.specs.Setup.{Setup}
use Rattle.mip_history.specs.Runs.{Run}
use Rattle.mip_history.proofs.Effects.{Effect, notes-it, enters, goes, learns}
use Rattle.mip_history.proofs.Folds.{schedule_effects}
use Rattle.mip_law_delivery.specs.Stretches.{run_on}

-- these packets were posted first
record Posted (front : List Post) (run : Run) : Type 0 where
  rest : List Post
  whole : run.posts ≡ front ++ rest

posted_effect : (s : Setup) (front : List Post) (a b : Run) → Effect s a b → Posted front a → Posted front b
posted_effect s front _ _ (notes-it run e seen) b = record { rest = b.rest; whole = b.whole }
posted_effect s front _ _ (enters run post e is) b =
    record { rest = b.rest ++ post ∷ []; whole = ap (λ (l : List Post). l ++ post ∷ []) b.whole ∙ append_assoc front b.rest (post ∷ []) }
posted_effect s front _ _ (goes run k) b = record { rest = b.rest; whole = b.whole }
posted_effect s front _ _ (learns run next past posts flying) b = record { rest = b.rest; whole = posts ∙ b.whole }

posted_all : (s : Setup) (front : List Post) (run : Run) (events : List Event) → Posted front run → Posted front (run_on s run events)
posted_all s front run events b =
    schedule_effects s (Posted front) (posted_effect s front) (λ run m early b. record { rest = b.rest; whole = b.whole }) (λ run node b. record { rest = b.rest; whole = b.whole }) run events b

get_front : {X : Type 0} (xs ys : List X) (k : ℕ) (x : X) → slice_get xs k ≡ Some x → slice_get (xs ++ ys) k ≡ Some x
get_front [] ys k x is = absurd cc
get_front (y ∷ xs) ys zero x is = is
get_front (y ∷ xs) ys (suc k) x is = get_front xs ys k x is

pub post_stays : (s : Setup) (run : Run) (events : List Event) (k : ℕ) (post : Post) → slice_get run.posts k ≡ Some post → slice_get (run_on s run events).posts k ≡ Some post
post_stays s run events k post is =
    let b : Posted run.posts (run_on s run events) = posted_all s run.posts run events (record { rest = []; whole = sym (append-nil run.posts) }) in
    ap (λ (l : List Post). slice_get l k) b.whole ∙ get_front run.posts b.rest k post is
