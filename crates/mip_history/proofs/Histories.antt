-- What is known of every permitted history.
use Rattle.std.proofs.Common.{false, ◌≡◌, ℕ, ◌+◌, ◌<◌, ◌≤◌, List, [], ◌∷◌, ◌++◌, length, Bool, true, ap, ◌∙◌, subst, arith}
use Rattle.std.specs.Prelude.{Option, Some, option_map, slice_get}
use Rattle.std.specs.List.{sum_by}
use Rattle.mip_words.specs.declared.address.Address.{Address}
use Rattle.mip_words.specs.declared.moment.Moment.{Moment}
use Rattle.mip_words.specs.declared.ids.NodeId.{NodeId}
use Rattle.mip_words.specs.declared.ids.LinkId.{LinkId}
use Rattle.mip_words.specs.EachAfter.{EachAfter}
use Rattle.mip_words.proofs.EachLaws.{each_at}
use Rattle.mip_binding.specs.Acceptance.{Acceptance}
use Rattle.mip_binding.specs.Held.{held, holds, floor, is_full}
use Rattle.mip_entries.specs.declared.entry.Entry.{Entry}
use Rattle.mip_entries.specs.declared.entry.Entry.TheVariants as entries
use Rattle.mip_schedule.specs.Contents.{Content}
use Rattle.mip_schedule.specs.declared.event.Event.{Event}
use Rattle.mip_rules_correspondent.specs.declared.known.Known.{Known}
use Rattle.mip_rules_correspondent.specs.Steps.{Step}
use Rattle.mip_rules_correspondent.specs.Questions.{known, held_of, holds_for, floor_of, is_full_for}
use Rattle.mip_rules_correspondent.specs.Seen.{CorrespondentSeen}
use Rattle.mip_rules_mobile.specs.Questions.{part_room}
use Rattle.mip_rules_mobile.proofs.PartLives.{part_is}
use Rattle.mip_entries.specs.Stamped.{Stamped}
use Rattle.mip_rules_correspondent.proofs.Acceptances.{held-answers, holds-answers, floor-answers, full-answers}
use Rattle.mip_history.specs.Setup.{Setup, setup_of}
use Rattle.mip_history.specs.SetupLaws.{is_correspondent_host}
use Rattle.mip_history.specs.Setup.Kind.{Correspondent, Mobile}
use Rattle.mip_history.specs.Runs.{Run, past_at, mobile_past_at}
use Rattle.mip_history.specs.Questions.{moment_in, life_in, holder_in}
use Rattle.mip_history.specs.ClaimsLaws.{is_free_for}
use Rattle.mip_history.specs.Knowing.{known_in, now_in, secrets_in, mobile_known_in}
use Rattle.mip_history.specs.KnowingLaws.{part_in}
use Rattle.mip_history.specs.Permitted.{opening_claims, run_of, permitted}
use Rattle.mip_history.specs.Passing.{waited_by, restarted_by}
use Rattle.mip_history.specs.Bound.{accepted_by, held_in, held_under_in, packet_in, is_accepted, HasAccepted, IsBound, IsBoundUnder}
use Rattle.mip_history.specs.BoundLaws.{packets_of}
use Rattle.mip_history.specs.Shields.{is_shielded_in}
use Rattle.mip_history.specs.ShieldsLaws.{IsHeardBare}
use Rattle.mip_history.proofs.Runs.{Meets, IsPast}
use Rattle.mip_history.proofs.Numbered.{IsNumbered, packet_numbered}
use Rattle.mip_history.proofs.Events.{run_passes}
use Rattle.mip_history.proofs.Numbers.{run_numbers}
use Rattle.mip_history.proofs.Shields.{heard_bare}
use Rattle.mip_history.proofs.Bindings.{held_is_bound, under_is_bound}

-- a fact of each entry holds of a front
each-front : (P : List Entry → Entry → Type 0) (front xs ys : List Entry) → EachAfter P front (xs ++ ys) → EachAfter P front xs
each-front P front [] ys each = tt
each-front P front (x ∷ xs) ys each = (each.0, each-front P (front ++ x ∷ []) xs ys each.1)

pub permitted_each : (c : Content) → EachAfter (Meets (setup_of c)) [] (permitted c)
unfolding permitted
permitted_each c = (run_passes (setup_of c) c.events).run.kept

meets_at : (c : Content) (before : List Entry) (e : Entry) (after : List Entry) → permitted c ≡ before ++ e ∷ after → Meets (setup_of c) before e
meets_at c before e after whole =
    each_at (Meets (setup_of c)) [] before e after (subst (λ (l : List Entry). EachAfter (Meets (setup_of c)) [] l) whole (permitted_each c))

pub permitted_numbered : (c : Content) → EachAfter (IsNumbered (setup_of c)) [] (permitted c)
unfolding permitted
permitted_numbered c = (run_numbers (setup_of c) c.events).each

numbered_at : (c : Content) (before : List Entry) (e : Entry) (after : List Entry) → permitted c ≡ before ++ e ∷ after → IsNumbered (setup_of c) before e
numbered_at c before e after whole =
    each_at (IsNumbered (setup_of c)) [] before e after (subst (λ (l : List Entry). EachAfter (IsNumbered (setup_of c)) [] l) whole (permitted_numbered c))

pub permitted_heard_bare : (c : Content) (before : List Entry) (number outsider : ℕ) (after : List Entry) → permitted c ≡ before ++ entries.Heard number outsider ∷ after → is_shielded_in before number ≡ Some false
unfolding permitted
permitted_heard_bare c before number outsider after whole =
    each_at IsHeardBare [] before (entries.Heard number outsider) after (subst (λ (l : List Entry). EachAfter IsHeardBare [] l) whole (heard_bare (setup_of c) c.events))

pub permitted_held : (c : Content) (before after : List Entry) (n home careof : ℕ) → permitted c ≡ before ++ after → held_in (setup_of c) before n home ≡ Some careof
    → IsBound (setup_of c) before n home careof
permitted_held c before after n home careof whole held =
    held_is_bound (setup_of c) before (each-front (Meets (setup_of c)) [] before after (subst (λ (l : List Entry). EachAfter (Meets (setup_of c)) [] l) whole (permitted_each c))) n home careof held

pub permitted_under : (c : Content) (before after : List Entry) (n home number careof : ℕ) → permitted c ≡ before ++ after → held_under_in (setup_of c) before n home number ≡ Some careof
    → IsBoundUnder (setup_of c) before n home number careof
permitted_under c before after n home number careof whole held =
    under_is_bound (setup_of c) before (each-front (Meets (setup_of c)) [] before after (subst (λ (l : List Entry). EachAfter (Meets (setup_of c)) [] l) whole (permitted_each c))) n home careof number held

pub permitted_accepted : (c : Content) (before : List Entry) (e : Entry) (after : List Entry) → permitted c ≡ before ++ e ∷ after → is_accepted e ≡ true → HasAccepted (setup_of c) before e
permitted_accepted c before e after whole accepted = by e accepted (meets_at c before e after whole)
  where
    by : (e : Entry) → is_accepted e ≡ true → Meets (setup_of c) before e → HasAccepted (setup_of c) before e
    by (entries.Accepted node number home binding careof sequence end i j) accepted is = is
    by _ accepted is = absurd cc

pub permitted_at : (c : Content) (before : List Entry) (moment : Moment) (after : List Entry) → permitted c ≡ before ++ entries.At moment ∷ after → moment_in (setup_of c).start before ≤ moment.0
permitted_at c before moment after whole = meets_at c before (entries.At moment) after whole

pub permitted_sent : (c : Content) (before : List Entry) (number : ℕ) (node : NodeId) (shielded : Bool) (packet : List ℕ) (after : List Entry)
    → permitted c ≡ before ++ entries.Sent number node shielded packet ∷ after → number ≡ length (packets_of before)
permitted_sent c before number node shielded packet after whole = numbered_at c before (entries.Sent number node shielded packet) after whole

pub permitted_injected : (c : Content) (before : List Entry) (number outsider : ℕ) (link : LinkId) (packet : List ℕ) (after : List Entry)
    → permitted c ≡ before ++ entries.Injected number outsider link packet ∷ after → number ≡ length (packets_of before)
permitted_injected c before number outsider link packet after whole = numbered_at c before (entries.Injected number outsider link packet) after whole

pub permitted_found : (c : Content) (k : ℕ) → packet_in (permitted c) k ≡ slice_get (packets_of (permitted c)) k
permitted_found c k = packet_numbered (setup_of c) (permitted c) k (permitted_numbered c)

pub permitted_waited : (c : Content) → moment_in (setup_of c).start (permitted c) ≡ c.start.0 + sum_by waited_by c.events
unfolding permitted
permitted_waited c = (run_passes (setup_of c) c.events).moment

pub permitted_lives : (c : Content) (n : ℕ) → life_in (permitted c) n ≡ sum_by (restarted_by n) c.events
unfolding permitted
permitted_lives c n = (run_passes (setup_of c) c.events).life n ∙ omega arith

-- packets are heard and handed over when they have been posted
pub permitted_heard : (c : Content) (before : List Entry) (number outsider : ℕ) (after : List Entry) → permitted c ≡ before ++ entries.Heard number outsider ∷ after → number < length (packets_of before)
permitted_heard c before number outsider after whole = numbered_at c before (entries.Heard number outsider) after whole

pub permitted_handed : (c : Content) (before : List Entry) (number : ℕ) (node : NodeId) (after : List Entry) → permitted c ≡ before ++ entries.Handed number node ∷ after → number < length (packets_of before)
permitted_handed c before number node after whole = numbered_at c before (entries.Handed number node) after whole

-- addresses are claimed when they are free
pub permitted_claimed : (c : Content) (before : List Entry) (who : ℕ) (link : LinkId) (address : Address) (after : List Entry) → permitted c ≡ before ++ entries.Claimed who link address ∷ after
    → length (opening_claims (setup_of c)) ≤ length before → is_free_for (holder_in before address.0) who ≡ true
permitted_claimed c before who link address after whole behind = numbered_at c before (entries.Claimed who link address) after whole behind

pub permitted_released : (c : Content) (before : List Entry) (who : ℕ) (link : LinkId) (address : Address) (after : List Entry) → permitted c ≡ before ++ entries.Released who link address ∷ after
    → holder_in before address.0 ≡ Some who
permitted_released c before who link address after whole = numbered_at c before (entries.Released who link address) after whole

pub permitted_taken : (c : Content) (before : List Entry) (who : ℕ) (link : LinkId) (address : Address) (holder : ℕ) (after : List Entry) → permitted c ≡ before ++ entries.Taken who link address holder ∷ after
    → holder_in before address.0 ≡ Some holder
permitted_taken c before who link address holder after whole = numbered_at c before (entries.Taken who link address holder) after whole

-- what a node keeps
module _ (s : Setup) (events : List Event) (n : ℕ) (own : Address) (room : ℕ) (home : Address) (is : slice_get s.hosts n ≡ Some (record { address = own; kind = Correspondent room })) where
  abbrev run : Run
  run = run_of s events

  past_is : IsPast s (run_of s events).past (past_at (run_of s events) n) n
  past_is = (run_passes s events).run.pasts n (ap is_correspondent_host is)

  pub run_held : option_map (λ a. a.0) (held_of (known_in s (run_of s events) n room) (now_in s (run_of s events)) home) ≡ held_in s (run_of s events).past n home.0
  run_held =
      held-answers room s.numbers (past_at run n) past_is.rises (now_in s run) home past_is.early
      ∙ ap (λ (xs : List Acceptance). held xs home.0 (now_in s run)) past_is.accepted

  pub run_holds : (careof : Address) → holds_for (known_in s (run_of s events) n room) (now_in s (run_of s events)) home careof
      ≡ holds (accepted_by s.start (run_of s events).past n) home.0 (now_in s (run_of s events)) careof.0
  run_holds careof =
      holds-answers room s.numbers (past_at run n) past_is.rises (now_in s run) home past_is.early careof
      ∙ ap (λ (xs : List Acceptance). holds xs home.0 (now_in s run) careof.0) past_is.accepted

  pub run_floor : floor_of (known_in s (run_of s events) n room) (now_in s (run_of s events)) home ≡ floor (accepted_by s.start (run_of s events).past n) home.0 (now_in s (run_of s events))
  run_floor =
      floor-answers room s.numbers (past_at run n) past_is.rises (now_in s run) home past_is.early
      ∙ ap (λ (xs : List Acceptance). floor xs home.0 (now_in s run)) past_is.accepted

  pub run_full : is_full_for (known_in s (run_of s events) n room) (now_in s (run_of s events)) home ≡ is_full room (accepted_by s.start (run_of s events).past n) home.0 (now_in s (run_of s events))
  run_full =
      full-answers room s.numbers (past_at run n) past_is.rises (now_in s run) home past_is.early
      ∙ ap (λ (xs : List Acceptance). is_full room xs home.0 (now_in s run)) past_is.accepted

-- and what the correspondent part of a mobile keeps
module _ (s : Setup) (events : List Event) (n : ℕ) (own : Address) (agent : Option Address) (home : Address) (is : slice_get s.hosts n ≡ Some (record { address = own; kind = Mobile agent })) where
  abbrev after : Run
  after = run_of s events

  abbrev life : List (Stamped Step)
  life = (part_in s (run_of s events) n own).past

  life_is : IsPast s (run_of s events).past (part_in s (run_of s events) n own).past n
  life_is = ((run_passes s events).run.parts n own agent is).past

  part_known : (mobile_known_in s (run_of s events) n own agent).part.known ≡ known part_room s.numbers (part_in s (run_of s events) n own).past
  part_known = ap (λ (c : CorrespondentSeen). c.known) (part_is own agent s.numbers (secrets_in s n 0) (mobile_past_at after n))

  pub part_held : option_map (λ a. a.0) (held_of (mobile_known_in s (run_of s events) n own agent).part.known (now_in s (run_of s events)) home) ≡ held_in s (run_of s events).past n home.0
  part_held =
      ap (λ (k : Known). option_map (λ (a : Address). a.0) (held_of k (now_in s after) home)) part_known
      ∙ held-answers part_room s.numbers life life_is.rises (now_in s after) home life_is.early
      ∙ ap (λ (xs : List Acceptance). held xs home.0 (now_in s after)) life_is.accepted

  pub part_holds : (careof : Address) → holds_for (mobile_known_in s (run_of s events) n own agent).part.known (now_in s (run_of s events)) home careof
      ≡ holds (accepted_by s.start (run_of s events).past n) home.0 (now_in s (run_of s events)) careof.0
  part_holds careof =
      ap (λ (k : Known). holds_for k (now_in s after) home careof) part_known
      ∙ holds-answers part_room s.numbers life life_is.rises (now_in s after) home life_is.early careof
      ∙ ap (λ (xs : List Acceptance). holds xs home.0 (now_in s after) careof.0) life_is.accepted

  pub part_floor : floor_of (mobile_known_in s (run_of s events) n own agent).part.known (now_in s (run_of s events)) home ≡ floor (accepted_by s.start (run_of s events).past n) home.0 (now_in s (run_of s events))
  part_floor =
      ap (λ (k : Known). floor_of k (now_in s after) home) part_known
      ∙ floor-answers part_room s.numbers life life_is.rises (now_in s after) home life_is.early
      ∙ ap (λ (xs : List Acceptance). floor xs home.0 (now_in s after)) life_is.accepted

  pub part_full : is_full_for (mobile_known_in s (run_of s events) n own agent).part.known (now_in s (run_of s events)) home
      ≡ is_full part_room (accepted_by s.start (run_of s events).past n) home.0 (now_in s (run_of s events))
  part_full =
      ap (λ (k : Known). is_full_for k (now_in s after) home) part_known
      ∙ full-answers part_room s.numbers life life_is.rises (now_in s after) home life_is.early
      ∙ ap (λ (xs : List Acceptance). is_full part_room xs home.0 (now_in s after)) life_is.accepted
