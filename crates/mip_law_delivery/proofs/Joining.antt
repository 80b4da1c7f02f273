-- The legs of the way of data joined: what is delivered in a stretch is handed up there, by two answers at most.
use Rattle.std.proofs.Common.{◌≡◌, ◌≢◌, ℕ, suc, ◌-◌, ◌<◌, ◌≤◌, ◌^◌, List, [], ◌∷◌, ◌++◌, false, length, refl, sym, ap, ◌∙◌, subst, arith}
use Rattle.std.specs.Prelude.{Some, None, unwrap_or, Contains, slice_get}
use Rattle.std.proofs.lemmas.List.{append_assoc}
use Rattle.mip_words.specs.declared.address.Address.{Address}
use Rattle.mip_ipv6.specs.Packet.{Packet}
use Rattle.mip_entries.specs.declared.entry.Entry.{Entry}
use Rattle.mip_entries.specs.declared.entry.Entry.TheVariants as entries
use Rattle.mip_entries.specs.Completed.{node_id}
use Rattle.mip_ipv6.specs.Tunnel.{encapsulated}
use Rattle.mip_links.specs.Table.{Post}
use Rattle.mip_schedule.specs.declared.event.Event.{Event}
use Rattle.mip_history.specs.Setup.{Setup}
use Rattle.mip_history.specs.Runs.{Run}
use Rattle.mip_history.specs.Calls.{Take}
use Rattle.mip_history.specs.Knowing.{link_or_first}
use Rattle.mip_history.specs.Nodes.{acts}
use Rattle.mip_history.specs.Delivery.{handed_over}
use Rattle.mip_history.specs.Bound.{packet_in}
use Rattle.mip_history.specs.Permitted.{happens, run_of}
use Rattle.mip_law_delivery.specs.Stretches.{run_on, left_by}
use Rattle.mip_law_delivery.specs.StretchesLaws.{AreSingle}
use Rattle.mip_law_delivery.specs.Answers.{HasData, IsAnswer, DescendsBy}
use Rattle.mip_law_delivery.specs.Reached.{IsHandedUp, IsAllDelivered}
use Rattle.mip_law_delivery.proofs.Growing.{post_stays}
use Rattle.mip_law_delivery.proofs.Lasting.{run_append, run_of_append}
use Rattle.mip_law_delivery.proofs.Delivering.{LeavesFirst, LeavesPost}
use Rattle.mip_law_delivery.proofs.Carrying.{Way, data_on, Carries, Tunnels, carried_over, tunnelled_over, carries_into, has_carried, has_tunnelled}
use Rattle.mip_law_delivery.proofs.Happening.{Leaves, leaves_in, leaves_all, HandedIn, FindsHolder, handed_in, packet_found}
use Rattle.mip_law_delivery.proofs.Ends.{TakesStraight, TakesTunnelled, Catches, PassesOn}

get_last : {X : Type 0} (xs : List X) (x : X) → slice_get (xs ++ x ∷ []) (length xs) ≡ Some x
get_last [] x = refl
get_last (y ∷ xs) x = get_last xs x

abbrev pub bare : ℕ → List ℕ → Post
bare link packet = record { from = link; shield = None; packet = packet }

module _ (s : Setup) (firsts more : List Event) (single : AreSingle more) where
  abbrev from : Run
  from = run_of s firsts

  abbrev final : Run
  final = run_on s from more

  -- something is so wherever a packet is delivered in the stretch
  abbrev pub EachFront : (Run → Type 0) → Type 0
  EachFront P = (before : List Event) (event : Event) (after : List Event) → more ≡ before ++ event ∷ after → P (run_on s from before)

  -- what is left behind a node's transition is left in the stretch
  first_left : (k n : ℕ) (post : Post) (h : HandedIn s from more k post n) (e : Entry) → LeavesFirst h.beside (acts s n (Take k post.shield (handed_over post.packet h.link)) h.beside) e
      → Leaves (run_on s from h.before) (happens s (run_on s from h.before) h.event) e
  first_left k n post h e l = record {
    front = h.is_beside.es;
    rest = l.rest;
    whole =
        ap (λ (r : Run). r.past) h.is ∙ l.whole ∙ ap (λ (es : List Entry). es ++ e ∷ l.rest) h.is_beside.past
        ∙ append_assoc (let r : Run = run_on s from h.before in r.past) h.is_beside.es (e ∷ l.rest);
  }

  handed_left : (k n : ℕ) (post : Post) (h : HandedIn s from more k post n) (e : Entry) → LeavesFirst h.beside (acts s n (Take k post.shield (handed_over post.packet h.link)) h.beside) e
      → Leaves (run_on s from h.before) (happens s (run_on s from h.before) h.event) (entries.Handed k (node_id n))
  handed_left k n post h e l =
      let told = h.told in
      record {
        front = told.front;
        rest = told.rest ++ e ∷ l.rest;
        whole =
            ap (λ (r : Run). r.past) h.is ∙ l.whole ∙ ap (λ (es : List Entry). es ++ e ∷ l.rest) told.whole
            ∙ append_assoc (let r : Run = run_on s from h.before in r.past) (told.front ++ entries.Handed k (node_id n) ∷ told.rest) (e ∷ l.rest)
            ∙ ap (λ (es : List Entry). (let r : Run = run_on s from h.before in r.past) ++ es) (append_assoc told.front (entries.Handed k (node_id n) ∷ told.rest) (e ∷ l.rest));
      }

  found_in : (k : ℕ) (post : Post) → slice_get final.posts k ≡ Some post → packet_in final.past k ≡ Some post.packet
  found_in k post posted =
      let same = run_of_append s firsts more in
      ap (λ (r : Run). packet_in r.past k) (sym same) ∙ packet_found s (firsts ++ more) k post (ap (λ (r : Run). slice_get r.posts k) same ∙ posted)

  -- a packet sent in answer to another one
  record Answers (k fl : ℕ) (packet : List ℕ) : Type 0 where
    j : ℕ
    posted : slice_get final.posts j ≡ Some (bare fl packet)
    answer : (proto : ℕ) (payload : List ℕ) → HasData final.past k proto payload → HasData final.past j proto payload → IsAnswer s from more k j

  answers_by : (k n fl : ℕ) (post : Post) (packet : List ℕ) (h : HandedIn s from more k post n) → LeavesPost s n fl h.beside packet (acts s n (Take k post.shield (handed_over post.packet h.link)) h.beside)
      → Answers k fl packet
  answers_by k n fl post packet h l =
      let run : Run = run_on s from h.before in
      let next : Run = happens s run h.event in
      let j : ℕ = length h.beside.posts in
      let first = l.first in
      let e : Entry = entries.Sent j (node_id n) false packet in
      let there : slice_get next.posts j ≡ Some (bare fl packet) =
      ap (λ (r : Run). slice_get r.posts j) h.is ∙ ap (λ (ps : List Post). slice_get ps j) l.posts ∙ get_last h.beside.posts (bare fl packet) in
      let whole : final ≡ run_on s next h.after = ap (run_on s from) h.place ∙ run_append s from h.before (h.event ∷ h.after) in
      record {
        j = j;
        posted = ap (λ (r : Run). slice_get r.posts j) whole ∙ post_stays s next h.after j (bare fl packet) there;
        answer = λ proto payload given same. record {
          entries = left_by s run (h.event ∷ []);
          one = record { before = h.before; event = h.event; after = h.after; place = h.place; is = refl };
          node = node_id n;
          handed = leaves_in s run (h.event ∷ []) (entries.Handed k (node_id n)) (handed_left k n post h e first);
          shielded = false;
          packet = packet;
          sent = leaves_in s run (h.event ∷ []) e (first_left k n post h e first);
          proto = proto;
          payload = payload;
          given = given;
          same = same;
        };
      }

  module _ (w : Way) (plain : w.proto ≢ 41) (y : ℕ) (few : y < 32) where
    abbrev source : Address
    source = unwrap_or w.home w.source

    abbrev destination : Address
    destination = unwrap_or w.route w.destination

    -- it is handed up, by so many answers at most
    pub record ArrivesBy (most k : ℕ) : Type 0 where
      pub answers : ℕ
      pub few_answers : answers ≤ most
      pub last : ℕ
      pub descends : DescendsBy answers s from more k last
      pub handed_up : Contains (left_by s from more) (entries.Up (node_id y) last source destination w.proto w.payload)

    here : (k : ℕ) (fl : ℕ) (bytes : List ℕ) (h : HandedIn s from more k (bare fl bytes) y)
        → LeavesFirst h.beside (acts s y (Take k None (handed_over bytes h.link)) h.beside) (entries.Up (node_id y) k source destination w.proto w.payload) → ArrivesBy 0 k
    here k fl bytes h l =
        let e : Entry = entries.Up (node_id y) k source destination w.proto w.payload in
        let all : Leaves from (run_on s from (h.before ++ h.event ∷ h.after)) e = leaves_all s from h.before h.event h.after e (first_left k y (bare fl bytes) h e l) in
        record {
          answers = 0;
          few_answers = omega arith;
          last = k;
          descends = refl;
          handed_up = leaves_in s from more e (subst (λ (es : List Event). Leaves from (run_on s from es) e) (sym h.place) all);
        }

    later : (most k j : ℕ) → IsAnswer s from more k j → ArrivesBy most j → ArrivesBy (suc most) k
    later most k j answer a =
        record { answers = suc a.answers; few_answers = omega (arith, a.few_answers); last = a.last; descends = (j, answer, a.descends); handed_up = a.handed_up }

    descendants : (k j : ℕ) → IsAnswer s from more k j → IsAllDelivered s from more k → IsAllDelivered s from more j
    descendants k j answer all n i descends = all (suc n) i (j, answer, descends)

    -- data that comes straight
    module _ (finds : FindsHolder s from more w.destination.0 y) (takes : EachFront (λ run. TakesStraight s run y w)) where
      pub straight_arrives : (k fl hop : ℕ) (bytes : List ℕ) → slice_get final.posts k ≡ Some (bare fl bytes) → Carries w hop bytes → 2 ≤ hop → IsAllDelivered s from more k → ArrivesBy 0 k
      straight_arrives k fl hop bytes posted c many all =
          let h = handed_in s from more single k (bare fl bytes) posted (data_on w hop) y refl c.read finds few many (all 0 k refl) in
          let over = carried_over w hop bytes h.link c in
          here k fl bytes h (takes h.before h.event h.after h.place h.beside h.is_beside k over.left (handed_over bytes h.link) over.carries)

    -- data out of a tunnel
    module _ (entry exit : Address) (finds : FindsHolder s from more exit.0 y) (takes : EachFront (λ run. TakesTunnelled s run y entry exit w)) where
      tunnelled_arrives : (k fl hop : ℕ) (bytes : List ℕ) → slice_get final.posts k ≡ Some (bare fl bytes) → (t : Tunnels entry exit w hop bytes) → 2 ≤ t.outer → IsAllDelivered s from more k → ArrivesBy 0 k
      tunnelled_arrives k fl hop bytes posted t many all =
          let outer : Packet = record { head = record { source = entry; destination = exit; hop = t.outer; class = 0; flow = 0; route = None; home = None; proto = 41 }; body = t.inner } in
          let h = handed_in s from more single k (bare fl bytes) posted outer y refl t.read finds few many (all 0 k refl) in
          here k fl bytes h (takes h.before h.event h.after h.place h.beside h.is_beside k hop (handed_over bytes h.link) (tunnelled_over entry exit w hop bytes h.link t))

      -- data that an agent puts into the tunnel
      pub caught_arrives : (g : ℕ) → g < 32 → entry.0 < 2 ^ 128 → exit.0 < 2 ^ 128 → FindsHolder s from more w.destination.0 g → EachFront (λ run. Catches s run g entry exit w)
          → (k fl hop : ℕ) (bytes : List ℕ) → slice_get final.posts k ≡ Some (bare fl bytes) → Carries w hop bytes → 3 ≤ hop → IsAllDelivered s from more k → ArrivesBy 1 k
      caught_arrives g small first second holds catches k fl hop bytes posted c many all =
          let h = handed_in s from more single k (bare fl bytes) posted (data_on w hop) g refl c.read holds small (omega (arith, many)) (all 0 k refl) in
          let over = carried_over w hop bytes h.link c in
          let caught = catches h.before h.event h.after h.place h.beside h.is_beside k over.left (handed_over bytes h.link) over.carries (omega (arith, many, over.near)) in
          let packet : List ℕ = encapsulated entry exit (handed_over bytes h.link) in
          let a = answers_by k g (link_or_first s entry.0) (bare fl bytes) packet h caught in
          let t = carries_into entry exit w over.left (handed_over bytes h.link) first second over.carries in
          let answer : IsAnswer s from more k a.j =
          a.answer w.proto w.payload (has_carried final.past k w hop bytes (found_in k (bare fl bytes) posted) plain c)
          (has_tunnelled final.past a.j entry exit w (over.left - 1) packet (found_in a.j (bare (link_or_first s entry.0) packet) a.posted) plain t) in
          later 0 k a.j answer
          (tunnelled_arrives a.j (link_or_first s entry.0) (over.left - 1) packet a.posted t (omega arith) (descendants k a.j answer all))

    -- data that an agent takes out of a tunnel, and that arrives where the agent sends it on
    pub passed_arrives : (a : ℕ) (own careof : Address) (most : ℕ) → a < 32 → FindsHolder s from more own.0 a → EachFront (λ run. PassesOn s run a own careof w)
        → ((k fl hop : ℕ) (bytes : List ℕ) → slice_get final.posts k ≡ Some (bare fl bytes) → Carries w hop bytes → 3 ≤ hop → IsAllDelivered s from more k → ArrivesBy most k)
        → (k fl hop : ℕ) (bytes : List ℕ) → slice_get final.posts k ≡ Some (bare fl bytes) → (t : Tunnels careof own w hop bytes) → 2 ≤ t.outer → 3 ≤ hop → IsAllDelivered s from more k → ArrivesBy (suc most) k
    passed_arrives a own careof most small holds passes arrives k fl hop bytes posted t outer many all =
        let p : Packet = record { head = record { source = careof; destination = own; hop = t.outer; class = 0; flow = 0; route = None; home = None; proto = 41 }; body = t.inner } in
        let h = handed_in s from more single k (bare fl bytes) posted p a refl t.read holds small outer (all 0 k refl) in
        let over = tunnelled_over careof own w hop bytes h.link t in
        let passed = passes h.before h.event h.after h.place h.beside h.is_beside k hop (handed_over bytes h.link) over in
        let x = answers_by k a (link_or_first s own.0) (bare fl bytes) over.inner h passed in
        let answer : IsAnswer s from more k x.j =
        x.answer w.proto w.payload (has_tunnelled final.past k careof own w hop bytes (found_in k (bare fl bytes) posted) plain t)
        (has_carried final.past x.j w hop over.inner (found_in x.j (bare (link_or_first s own.0) over.inner) x.posted) plain over.inside) in
        later most k x.j answer (arrives x.j (link_or_first s own.0) hop over.inner x.posted over.inside many (descendants k x.j answer all))

    -- what the theorem says
    pub handed_up_is : (k : ℕ) (own to : Address) → source ≡ own → destination ≡ to → ArrivesBy 2 k → IsHandedUp s from more k y own to w.proto w.payload
    handed_up_is k own to first second a = record {
      answers = a.answers;
      few = a.few_answers;
      last = a.last;
      descends = a.descends;
      handed_up = subst (λ (x : Address). Contains (left_by s from more) (entries.Up (node_id y) a.last x to w.proto w.payload)) first
          (subst (λ (x : Address). Contains (left_by s from more) (entries.Up (node_id y) a.last source x w.proto w.payload)) second a.handed_up);
    }

    pub within : (few_answers most k : ℕ) → few_answers ≤ most → ArrivesBy few_answers k → ArrivesBy most k
    within n most k le a = record { answers = a.answers; few_answers = omega (arith, le, a.few_answers); last = a.last; descends = a.descends; handed_up = a.handed_up }
