-- A packet that was delivered in a stretch of a run: one event handed it over, and what it left stands in the stretch.
use Rattle.std.proofs.Common.{◌≡◌, ℕ, ◌<◌, ◌≤◌, List, [], ◌∷◌, ◌++◌, Bool, true, false, length, refl, sym, ap, ◌∙◌, subst, arith, length-append}
use Rattle.std.specs.Prelude.{Option, Some, None, Ok, Contains, if◌then◌else◌, slice_get, slice_index_or}
use Rattle.std.proofs.lemmas.List.{append_assoc}
use Rattle.mip_ipv6.specs.Packet.{Packet}
use Rattle.mip_ipv6.specs.Reading.{packet_of}
use Rattle.mip_entries.specs.declared.entry.Entry.{Entry}
use Rattle.mip_entries.specs.declared.entry.Entry.TheVariants as entries
use Rattle.mip_entries.specs.Completed.{node_id}
use Rattle.mip_links.specs.Table.{Post, link_of, in_pool}
use Rattle.mip_schedule.specs.declared.event.Event.{Event}
use Rattle.mip_history.specs.Setup.{Setup}
use Rattle.mip_history.specs.Runs.{Run, note, without}
use Rattle.mip_history.specs.Questions.{holder_in}
use Rattle.mip_history.specs.Calls.{Take}
use Rattle.mip_history.specs.Nodes.{acts}
use Rattle.mip_history.specs.Delivery.{handed_over, overheard_at, handed, arrival_link, arrived, delivered}
use Rattle.mip_history.specs.Bound.{packet_in}
use Rattle.mip_history.specs.Permitted.{happens, run_of}
use Rattle.mip_history.proofs.Numbers.{posted_is, run_numbers}
use Rattle.mip_law_delivery.specs.Stretches.{run_on, left_by}
use Rattle.mip_law_delivery.specs.StretchesLaws.{IsSingle, AreSingle}
use Rattle.mip_law_delivery.specs.Answers.{IsReached, IsDelivered}
use Rattle.mip_law_delivery.specs.AnswersLaws.{Delivers}
use Rattle.mip_law_delivery.proofs.Reaching.{is_reach, any_may, any_stand, reach_mild, Calm, reached_false, reached_by}
use Rattle.mip_law_delivery.proofs.Growing.{post_stays}
use Rattle.mip_law_delivery.proofs.Lasting.{run_append, past_begins, left_is}
use Rattle.mip_law_delivery.proofs.Delivering.{IsBeside, heard_beside, handed_beside, delivered_to}

-- an item at its place
pub contains_at : {X : Type 0} (front : List X) (x : X) (rest : List X) → Contains (front ++ x ∷ rest) x
contains_at {X = X} front x rest = (length front, omega (arith, length-append front (x ∷ rest)), at front)
  where
    at : (front : List X) → slice_index_or (front ++ x ∷ rest) (length front) x ≡ x
    at [] = refl
    at (y ∷ front) = at front

-- an entry that a run left behind another one
pub record Leaves (from run : Run) (e : Entry) : Type 0 where
  pub front : List Entry
  pub rest : List Entry
  pub whole : run.past ≡ from.past ++ (front ++ e ∷ rest)

pub leaves_in : (s : Setup) (run : Run) (events : List Event) (e : Entry) → Leaves run (run_on s run events) e → Contains (left_by s run events) e
leaves_in s run events e l = subst (λ (es : List Entry). Contains es e) (sym (left_is s run events (l.front ++ e ∷ l.rest) l.whole)) (contains_at l.front e l.rest)

-- what one event left stands in what they all left
pub leaves_all : (s : Setup) (from : Run) (before : List Event) (event : Event) (after : List Event) (e : Entry)
    → Leaves (run_on s from before) (happens s (run_on s from before) event) e → Leaves from (run_on s from (before ++ event ∷ after)) e
leaves_all s from before event after e l =
    let run : Run = run_on s from before in
    let next : Run = happens s run event in
    let a = past_begins s from before in
    let b = past_begins s next after in
    let entry_behind : (l.front ++ e ∷ l.rest) ++ b.rest ≡ l.front ++ e ∷ (l.rest ++ b.rest) = append_assoc l.front (e ∷ l.rest) b.rest in
    record {
      front = a.rest ++ l.front;
      rest = l.rest ++ b.rest;
      whole =
          ap (λ (r : Run). r.past) (run_append s from before (event ∷ after))
          ∙ b.whole
          ∙ ap (λ (es : List Entry). es ++ b.rest) (l.whole ∙ ap (λ (es : List Entry). es ++ (l.front ++ e ∷ l.rest)) a.whole ∙ append_assoc from.past a.rest (l.front ++ e ∷ l.rest))
          ∙ append_assoc from.past (a.rest ++ (l.front ++ e ∷ l.rest)) b.rest
          ∙ ap (λ (es : List Entry). from.past ++ es)
          (append_assoc a.rest (l.front ++ e ∷ l.rest) b.rest ∙ ap (λ (es : List Entry). a.rest ++ es) entry_behind ∙ sym (append_assoc a.rest l.front (e ∷ (l.rest ++ b.rest))));
    }

-- a node was handed packet k by one of these events
pub record HandedIn (s : Setup) (from : Run) (events : List Event) (k : ℕ) (post : Post) (n : ℕ) : Type 0 where
  pub before : List Event
  pub event : Event
  pub after : List Event
  pub place : events ≡ before ++ event ∷ after
  pub beside : Run
  pub is_beside : IsBeside (run_on s from before) beside
  pub link : Option ℕ
  pub told : Leaves (run_on s from before) beside (entries.Handed k (node_id n))
  pub is : happens s (run_on s from before) event ≡ acts s n (Take k post.shield (handed_over post.packet link)) beside

pub single_at : (before : List Event) (event : Event) (after : List Event) → AreSingle (before ++ event ∷ after) → IsSingle event
single_at [] event after all = all.0
single_at (e ∷ before) event after all = single_at before event after all.1

-- what a packet finds wherever it is delivered in a stretch: its destination is on a link, and this node holds it
abbrev pub FindsHolder : Setup → Run → List Event → ℕ → ℕ → Type 0
FindsHolder s from events address n =
    (before : List Event) (event : Event) (after : List Event) → events ≡ before ++ event ∷ after → (l : ℕ) × (link_of s.links address ≡ Some l) × (holder_in (run_on s from before).past address ≡ Some n)

module _ (s : Setup) (from : Run) (events : List Event) (single : AreSingle events) (k : ℕ) (post : Post) (posted : slice_get (run_on s from events).posts k ≡ Some post) where
  -- a packet in the pool of an earlier run is the one that was posted
  same_post : (before : List Event) (event : Event) (after : List Event) → events ≡ before ++ event ∷ after → (other : Post) → slice_get (run_on s from before).posts k ≡ Some other → other ≡ post
  same_post before event after place other there =
      let run : Run = run_on s from before in
      let stays : slice_get (run_on s run (event ∷ after)).posts k ≡ Some other = post_stays s run (event ∷ after) k other there in
      let whole : run_on s from events ≡ run_on s run (event ∷ after) = ap (run_on s from) place ∙ run_append s from before (event ∷ after) in
      some_same other post (sym stays ∙ ap (λ (r : Run). slice_get r.posts k) (sym whole) ∙ posted)
    where
      some_same : (a b : Post) → (let o : Option Post = Some a in o) ≡ Some b → a ≡ b
      some_same a b e = cc

  pooled : (flies : Bool) (posts : List Post) (other : Post) → (if flies then slice_get posts k else None) ≡ Some other → slice_get posts k ≡ Some other
  pooled true posts other is = is
  pooled false posts other is = absurd cc

  module _ (p : Packet) (n : ℕ) (bare : post.shield ≡ None) (read : packet_of post.packet ≡ Ok p) (finds : FindsHolder s from events p.head.destination.0 n) (few : n < 32) (hop : 2 ≤ p.head.hop) where
    handed_by : (before : List Event) (event : Event) (after : List Event) → events ≡ before ++ event ∷ after → (keep : Bool) → happens s (run_on s from before) event ≡ delivered s (run_on s from before) k keep
        → in_pool (run_on s from before).flying (run_on s from before).posts k ≡ Some post → HandedIn s from events k post n
    unfolding handed
    handed_by before event after place keep is pool =
        let run : Run = run_on s from before in
        let found = finds before event after place in
        let link : Option ℕ = arrival_link s post in
        let heard : Run = overheard_at s post k link (if keep then run else without k run) in
        let b = heard_beside s post k link keep run in
        record {
          before = before;
          event = event;
          after = after;
          place = place;
          beside = note (entries.Handed k (node_id n)) heard;
          is_beside = handed_beside k n run heard b;
          link = link;
          told = record { front = b.es; rest = []; whole = ap (λ (l : List Entry). l ++ entries.Handed k (node_id n) ∷ []) b.past ∙ append_assoc run.past b.es (entries.Handed k (node_id n) ∷ []) };
          is = is ∙ delivered_to s run k keep post p found.0 n pool bare read found.1 found.2 few hop;
        }

    -- one that is not in the pool changes nothing
    idle_run : (run : Run) (keep : Bool) → in_pool run.flying run.posts k ≡ None → Calm s (is_reach k) any_may any_stand (reach_mild s k) run.past (delivered s run k keep)
    unfolding delivered
    idle_run run keep none = subst (λ (o : Option Post). Calm s (is_reach k) any_may any_stand (reach_mild s k) run.past (arrived s k (if keep then run else without k run) o)) (sym none) (by keep)
      where
        by : (b : Bool) → Calm s (is_reach k) any_may any_stand (reach_mild s k) run.past (note entries.Idle (if b then run else without k run))
        by true = record { rest = entries.Idle ∷ []; whole = refl; calm = refl; stands = tt }
        by false = record { rest = entries.Idle ∷ []; whole = refl; calm = refl; stands = tt }

    -- a packet that was delivered was handed to the node that holds its destination
    pub handed_in : IsDelivered s from events k → HandedIn s from events k post n
    handed_in d =
        let one_left = d.one in
        let run : Run = run_on s from one_left.before in
        let reached : IsReached (left_by s run (one_left.event ∷ [])) k = subst (λ (es : List Entry). IsReached es k) one_left.is d.reached in
        let alone : IsSingle one_left.event = single_at one_left.before one_left.event one_left.after (subst AreSingle one_left.place single) in
        by one_left.before one_left.event one_left.after one_left.place (reached_by s run k one_left.event alone reached) reached
      where
        by : (before : List Event) (event : Event) (after : List Event) → events ≡ before ++ event ∷ after → Delivers s (run_on s from before) event k
            → IsReached (left_by s (run_on s from before) (event ∷ [])) k → HandedIn s from events k post n
        by before event after place del reached = at (in_pool run.flying run.posts k) refl
          where
            run : Run
            run = run_on s from before

            at : (o : Option Post) → in_pool run.flying run.posts k ≡ o → HandedIn s from events k post n
            at None none = absurd (reached_false s run k (happens s run event) (subst (λ (r : Run). Calm s (is_reach k) any_may any_stand (reach_mild s k) run.past r) (sym del.is) (idle_run run del.keep none)) reached)
            at (Some other) found =
                let same = same_post before event after place other (pooled (slice_index_or run.flying k false) run.posts other found) in
                handed_by before event after place del.keep del.is (found ∙ ap (λ (x : Post). Some x) same)

-- in a run a packet is found by its number, as it was posted
pub packet_found : (s : Setup) (events : List Event) (k : ℕ) (post : Post) → slice_get (run_of s events).posts k ≡ Some post → packet_in (run_of s events).past k ≡ Some post.packet
packet_found s events k post posted = posted_is s (run_of s events) k post (run_numbers s events) posted
