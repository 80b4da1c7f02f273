-- What becomes of a packet that is taken from the network.
use Rattle.std.proofs.Common.{◌≡◌, ◌≢◌, ℕ, ◌<◌, List, length, Bool, true, false, refl, sym, ap, ◌∙◌}
use Rattle.std.specs.Prelude.{Option, Some, None, option_map, slice_get, slice_index_or, if◌then◌else◌}
use Rattle.std.proofs.lemmas.Option.{slice_get_within}
use Rattle.mip_links.specs.Table.{Fate, fate_of, Post, Asked, link_of, destination_in, delivery, in_pool}
use Rattle.mip_links.specs.Nets.{left}
use Rattle.mip_links.specs.Table.Fate.{Idle}
use Rattle.mip_entries.specs.declared.entry.Entry.TheVariants.{Idle as Stays}
use Rattle.mip_history.specs.Setup.{Setup}
use Rattle.mip_history.specs.Runs.{Run, note, without}
use Rattle.mip_history.specs.Questions.{asked_in}
use Rattle.mip_history.specs.Delivery.{other_link, arrival_link, became, arrived, delivered}
use Rattle.mip_engine.specs.Engines.{EngineSeen, with_net}
use Rattle.mip_engine.specs.Arrivals.{ArrivalSeen, arrival_of, arrival_seen}
use Rattle.mip_engine.specs.Standing.{IsAt}
use Rattle.mip_engine.specs.declared.arrival.Arrival.{Arrival}
use Rattle.mip_engine.proofs.PostingLaws.{at_left}
use Rattle.mip_engine.proofs.ItemLaws.{map_some, map_none}

-- a packet of the pool is one that was posted
in_pool_posted : (b : Bool) (o : Option Post) (post : Post) → (if b then o else None) ≡ Some post → o ≡ Some post
in_pool_posted true o post e = e
in_pool_posted false o post e = absurd cc

abbrev pub lifted : ℕ → Bool → Run → Run
lifted k keep run = if keep then run else without k run

module _ (e : EngineSeen) (s : Setup) (run : Run) (k : ℕ) (keep : Bool) (at : IsAt e s run) where
  pub at_lifted : IsAt (with_net (if keep then e.net else left e.net k) e) s (lifted k keep run)
  at_lifted = by keep
    where
      by : (b : Bool) → IsAt (with_net (if b then e.net else left e.net k) e) s (lifted k b run)
      by true = at
      by false = at_left e s run k at

  pub pool_is : in_pool e.net.flying e.net.posts k ≡ in_pool run.flying run.posts k
  pool_is = ap (λ (fs : List Bool). in_pool fs e.net.posts k) at.flying ∙ ap (λ (ps : List Post). in_pool run.flying ps k) at.posts

  -- it was not there
  pub delivered_none : option_map (arrival_of e.net) (in_pool e.net.flying e.net.posts k) ≡ None → delivered s run k keep ≡ note Stays (lifted k keep run)
  unfolding delivered
  delivered_none none = ap (arrived s k (lifted k keep run)) (sym pool_is ∙ map_none (arrival_of e.net) (in_pool e.net.flying e.net.posts k) none)

-- or it came somewhere
pub record IsCome (e : EngineSeen) (k : ℕ) (a : Arrival) : Type 0 where
  pub post : Post
  pub pooled : in_pool e.net.flying e.net.posts k ≡ Some post
  pub is : arrival_of e.net post ≡ arrival_seen a
  pub posted : slice_get e.net.posts k ≡ Some post
  pub shield : a.shield ≡ post.shield

pub comes : (e : EngineSeen) (k : ℕ) (a : Arrival) → Some (arrival_seen a) ≡ option_map (arrival_of e.net) (in_pool e.net.flying e.net.posts k) → IsCome e k a
comes e k a found =
    let some = map_some (arrival_of e.net) (in_pool e.net.flying e.net.posts k) (arrival_seen a) (sym found) in
    record {
      post = some.0;
      pooled = some.1;
      is = some.2;
      posted = in_pool_posted (slice_index_or e.net.flying k false) (slice_get e.net.posts k) some.0 some.1;
      shield = ap (λ (x : ArrivalSeen). x.shield) (sym some.2);
    }

-- it was posted, whether it is kept or not
pub still_posted : (e : EngineSeen) (k : ℕ) (keep : Bool) → slice_get (with_net (if keep then e.net else left e.net k) e).net.posts k ≡ slice_get e.net.posts k
still_posted e k true = refl
still_posted e k false = refl

pub became_is : (e : EngineSeen) (s : Setup) (run : Run) (k : ℕ) (keep : Bool) → IsAt e s run → (a : Arrival) (come : IsCome e k a)
    → became s k come.post (option_map (λ l. l.0) a.link) (lifted k keep run) (fate_of a.delivery) ≡ delivered s run k keep
unfolding delivered
became_is e s run k keep at a come =
    let post = come.post in
    ap (λ (l : Option ℕ). became s k post l (lifted k keep run) (fate_of a.delivery))
    (ap (λ (x : ArrivalSeen). x.link) (sym come.is) ∙ ap (λ (q : Asked). other_link (link_of q.links (destination_in post.packet)) post.from) at.asked)
    ∙ ap (λ (d : Fate). became s k post (arrival_link s post) (lifted k keep run) d)
    (ap (λ (x : ArrivalSeen). x.delivery) (sym come.is) ∙ ap (λ (q : Asked). delivery q (Some post)) at.asked ∙ asked keep post)
    ∙ ap (arrived s k (lifted k keep run)) (sym (sym (pool_is e s run k keep at) ∙ come.pooled))
  where
    asked : (b : Bool) (post : Post) → delivery (asked_in s run.past) (Some post) ≡ delivery (asked_in s (lifted k b run).past) (Some post)
    asked true post = refl
    asked false post = refl

-- what does not stay idle was posted
pub come_posted : (q : Asked) (flying : List Bool) (posts : List Post) (k : ℕ) → delivery q (in_pool flying posts k) ≢ Idle → k < length posts
come_posted q flying posts k come = by (slice_index_or flying k false) (slice_get posts k) refl come
  where
    by : (b : Bool) (o : Option Post) → slice_get posts k ≡ o → delivery q (if b then o else None) ≢ Idle → k < length posts
    by true (Some post) is come = slice_get_within posts k post is
    by true None is come = absurd (come refl)
    by false o is come = absurd (come refl)
