-- What an event makes of a run is a list of changes of eleven kinds, each with what its event allows.
use Rattle.std.proofs.Common.{◌≡◌, ℕ, zero, suc, ◌+◌, ◌<◌, ◌≤◌, List, [], ◌∷◌, ◌++◌, Bool, true, false, length, max, ◌⊎◌, inl, inr, refl, sym, ap, ◌∙◌, subst, arith}
use Rattle.std.specs.Prelude.{fold, map, not, Option, Some, None, unwrap_or, is_some, ◌==◌, ◌&&◌, nat_lt, if◌then◌else◌, slice_get, slice_index_or, slice_set}
use Rattle.std.specs.List.{AllByRecursion}
use Rattle.std.proofs.lemmas.Bool.{cond_both, and_parts, eqb-true}
use Rattle.std.proofs.lemmas.Bool.Decides.{nat_tests}
use Rattle.std.proofs.lemmas.List.{append_assoc, append-nil}
use Rattle.std.proofs.lemmas.List.Sums.{fold-append}
use Rattle.std.proofs.lemmas.Option.{slice_get_within}
use Rattle.mip_words.specs.declared.address.Address.{Address}
use Rattle.mip_words.specs.declared.ids.LinkId.{LinkId}
use Rattle.mip_words.specs.declared.ids.NodeId.{NodeId}
use Rattle.mip_words.specs.declared.shield.Shield.{Shield}
use Rattle.mip_words.specs.declared.why.Why.TheVariants.{Shield as NotForIt, Hop}
use Rattle.mip_nonce.specs.Secrets.{Life}
use Rattle.mip_bcache.specs.Seen as caches
use Rattle.mip_entries.specs.declared.entry.Entry.{Entry}
use Rattle.mip_entries.specs.declared.entry.Entry.TheVariants as entries
use Rattle.mip_entries.specs.Completed.{node_id}
use Rattle.mip_rules_agent.specs.declared.home_row.HomeRow.{HomeRow}
use Rattle.mip_rules_agent.specs.Questions.{rows_at}
use Rattle.mip_schedule.specs.declared.event.Event.{Event}
use Rattle.mip_schedule.specs.declared.event.Event.TheVariants.{Wait, Move, Advertise, Payload, Inject, Probe, Bind, Tell, Listen, Deaf, Squat, Yield, Deliver, Repeat, Lose, Carry, Restart, Refresh, Plan, Ask, Show, Settle}
use Rattle.mip_links.specs.Table.{Fate, Post, link_of, is_node, is_address, held_by, at_holder, at_link, destination_in, delivery, in_pool, outsider_of, holder_outside}
use Rattle.mip_ipv6.specs.Tunnel.{hop_of}
use Rattle.mip_links.specs.Nets.{lowest_of}
use Rattle.mip_links.specs.Table.Fate.{Idle, Gone, Outsider, Node}
use Rattle.mip_history.specs.Setup.{Setup, Host, Kind, is_mobile_host}
use Rattle.mip_history.specs.Setup.Kind.{Correspondent, Agent, Mobile}
use Rattle.mip_history.specs.Runs.{Run, note, notes, entered, without, agent_past_at}
use Rattle.mip_history.specs.Questions.{moment_says, holder_in, declared_in, hears_in, life_in, moved_says, asked_in}
use Rattle.mip_history.specs.Calls as calls
use Rattle.mip_history.specs.Calls.{Call, Take}
use Rattle.mip_history.specs.Claims.{link_id, claims}
use Rattle.mip_history.specs.Homes.{gives_up}
use Rattle.mip_history.specs.Knowing.{now_in, secrets_in, known_in, agent_known_in, mobile_known_in}
use Rattle.mip_history.specs.Nodes.{acts, row_entry, home_entry, rows_by_kind, rows_shown, shown}
use Rattle.mip_history.specs.Posting.{heards, is_other, overheard}
use Rattle.mip_history.specs.Delivery.{handed_over, overheard_at, hears_there, handed, is_no_holder, became, arrival_link, arrived, delivered, carried_one, carried}
use Rattle.mip_history.specs.Outsiders.{injected, injected_if, probe_packet, update_packet, test_packet}
use Rattle.mip_history.specs.Waiting.{Waiting, due_of, earliest, comes_to, is_due, ticks_one, ticked, works, works_on, works_until, waited}
use Rattle.mip_history.specs.Advertising.{Router, router_by_host, router_at, hears_of_router, hears_of_node, hears_of_first, hears_of_all, agents_hear, is_link, roams_by_kind, roams_by_host, roams_on, mobile_told, mobiles_told}
use Rattle.mip_history.specs.Restarting.{homes_left, reborn_by_kind, reborn_by_host, restarted}
use Rattle.mip_history.specs.Settled.{is_settled}
use Rattle.mip_history.specs.Permitted.{lost, moves, moves_if, happens}
use Rattle.mip_history.proofs.Keeping.{IsHanded, IsThere, emptied, emptied_by_host, keeps_gives_up}
use Rattle.mip_history.proofs.Effects.{IsBare, get_last, now_acts}

-- an event by which time goes on
abbrev pub IsWait : Event → Type 0
IsWait (Wait ms) = Unit {0}
IsWait _ = ⊥

-- an event by which a node begins its next life
abbrev pub is_restart : Event → Bool
is_restart (Restart node) = true
is_restart _ = false

pub alive : (event : Event) (node : NodeId) → event ≡ Restart node → is_restart event ≡ false → ⊥
alive event node so none = absurd (let both : true ≡ false = sym (ap is_restart so) ∙ none in cc)

-- an event that delivers packet k; `carry` delivers what flies
abbrev pub Delivers : Event → ℕ → Type 0
Delivers (Deliver number) k = number ≡ k
Delivers (Repeat number) k = number ≡ k
Delivers (Carry count) k = Unit {0}
Delivers _ k = ⊥

-- an event by which an outsider posts a packet on a link
abbrev pub Injects : Event → ℕ → LinkId → Type 0
Injects (Inject outsider on packet) o link = (outsider ≡ o) × (on ≡ link)
Injects (Probe outsider on careof source peer cookie) o link = (outsider ≡ o) × (on ≡ link)
Injects (Bind outsider on ends sequence lifetime kh kc number) o link = (outsider ≡ o) × (on ≡ link)
Injects (Tell outsider on kt kp) o link = (outsider ≡ o) × (on ≡ link)
Injects _ o link = ⊥

-- what becomes of packet k, which the event delivers, by the history as it stood when it came
pub record IsFate (s : Setup) (event : Event) (run : Run) (k : ℕ) (fate : Fate) : Type 0 where
  pub delivers : Delivers event k
  pub post : Post
  pub posted : slice_get run.posts k ≡ Some post
  pub front : List Entry
  pub heard : List Entry
  pub whole : run.past ≡ front ++ heard
  pub comes : delivery (asked_in s front) (Some post) ≡ fate

-- an outsider hears packet k, which has no shield: on its link, or as the holder of its destination
pub record IsHeard (s : Setup) (event : Event) (run : Run) (k o : ℕ) : Type 0 where
  pub bare : IsBare run k
  pub by : (o < s.outsiders) ⊎ ((who : ℕ) × IsFate s event run k (Outsider who) × (o ≡ outsider_of who))

-- an entry that no node leaves, and that tells of no claim, no time and no life
abbrev pub IsLeft : Setup → Event → Run → Entry → Type 0
IsLeft s event run entries.Idle = Unit {0}
IsLeft s event run (entries.Heard k o) = IsHeard s event run k o
IsLeft s event run (entries.Handed k node) = IsFate s event run k (Node node.0)
IsLeft s event run (entries.Gone k why) = IsFate s event run k (Gone why)
IsLeft s event run (entries.Lost k) = event ≡ Lose k
IsLeft s event run (entries.Listening o link) = event ≡ Listen o link
IsLeft s event run (entries.Deafened o link) = event ≡ Deaf o link
IsLeft s event run (entries.Settled a b is) = event ≡ Settle a b
IsLeft s event run (entries.Advertised node link router) = (event ≡ Advertise link) × (node.0 < length s.hosts)
IsLeft s event run (entries.Row node home number careof sequence end kept) = (event ≡ Show node) × (node.0 < length s.hosts)
IsLeft s event run _ = ⊥

-- the event by which a node is called so, and what it is called with
abbrev pub IsBy : Setup → Event → Run → ℕ → Call → Type 0
IsBy s event run n (Take k shield packet) = Delivers event k × IsHanded run n k shield packet
IsBy s event run n (calls.Send to proto payload) = event ≡ Payload (node_id n) to proto payload
IsBy s event run n (calls.Refresh home) = event ≡ Refresh (node_id n) home
IsBy s event run n calls.Tick = IsWait event
IsBy s event run n (calls.Plan valid preferred) = event ≡ Plan (node_id n) valid preferred
IsBy s event run n (calls.Hear agent preference life) = (link : LinkId) × (event ≡ Advertise link)
IsBy s event run n (calls.Attach prefix) = (link : LinkId) × (event ≡ Advertise link) × IsThere s run n prefix
IsBy s event run n calls.Ask = event ≡ Ask (node_id n)
IsBy s event run n calls.Leave = ⊥
IsBy s event run n (calls.Restart secrets) = ⊥

-- an agent that has just begun its life
pub record IsBornAgent (s : Setup) (run : Run) (n : ℕ) : Type 0 where
  pub own : Address
  pub preference : ℕ
  pub life : ℕ
  pub room : ℕ
  pub serves : List Address
  pub host : slice_get s.hosts n ≡ Some (record { address = own; kind = Agent preference life room serves })
  pub empty : agent_past_at run n ≡ []

pub data Change (s : Setup) (event : Event) : Run → Run → Type 0 where
  left : (run : Run) (e : Entry) → IsLeft s event run e → Change s event run (note e run)
  comes : (run : Run) (m : ℕ) → IsWait event → now_in s run ≤ m → Change s event run (note (entries.At (record { 0 = m })) run)
  injects : (run : Run) (o : ℕ) (link : LinkId) (packet : List ℕ) → Injects event o link
      → Change s event run (entered (record { from = link.0; shield = None; packet = packet }) (note (entries.Injected (length run.posts) o link packet) run))
  drops : (run : Run) (k : ℕ) → Change s event run (without k run)
  squats : (run : Run) (o : ℕ) (address : Address) → event ≡ Squat o address → Change s event run (claims s (holder_outside o) address run)
  yields : (run : Run) (o : ℕ) (address : Address) → event ≡ Yield o address → Change s event run (gives_up s (holder_outside o) address run)
  acted : (run : Run) (n : ℕ) (call : Call) → IsBy s event run n call → Change s event run (acts s n call run)
  moved : (run : Run) (node : NodeId) (link : Option LinkId) → event ≡ Move node link → is_mobile_host (slice_get s.hosts node.0) ≡ true → Change s event run (moves s run node.0 link)
  reborn : (run : Run) (node : NodeId) → event ≡ Restart node → is_mobile_host (slice_get s.hosts node.0) ≡ false → Change s event run (note (entries.Restarted node) (emptied s node.0 run))
  gives : (run : Run) (node : NodeId) (address : Address) → event ≡ Restart node → IsBornAgent s run node.0 → Change s event run (gives_up s node.0 address run)
  renewed : (run : Run) (node : NodeId) (secrets : Life) → event ≡ Restart node → is_mobile_host (slice_get s.hosts node.0) ≡ true
      → secrets ≡ secrets_in s node.0 (life_in (run.past ++ entries.Restarted node ∷ []) node.0)
      → Change s event run (acts s node.0 (calls.Restart secrets) (note (entries.Restarted node) run))

pub data Changes (s : Setup) (event : Event) (a : Run) : Run → Type 0 where
  unchanged : Changes s event a a
  more : (b c : Run) → Changes s event a b → Change s event b c → Changes s event a c

-- an advertisement moves nobody
roams_told : (s : Setup) (run : Run) (link n : ℕ) (node : NodeId) (on : LinkId) (router : Option Address) → roams_on s (note (entries.Advertised node on router) run) link n ≡ roams_on s run link n
roams_told s run link n node on router = by (slice_get s.hosts n)
  where
    by : (o : Option Host) → roams_by_host s (note (entries.Advertised node on router) run) link n o ≡ roams_by_host s run link n o
    by None = refl
    by (Some host) = of_kind host.address host.kind
      where
        of_kind : (own : Address) (kind : Kind) → roams_by_kind s (note (entries.Advertised node on router) run) link n own kind ≡ roams_by_kind s run link n own kind
        of_kind own (Correspondent room) = refl
        of_kind own (Agent preference life room serves) = refl
        of_kind own (Mobile agent) =
            ap (λ (o : Option ℕ). is_link o link)
            (fold-append (λ (o : Option ℕ) (e : Entry). unwrap_or (moved_says n e) o) (link_of s.links own.0) run.past (entries.Advertised node on router ∷ []))

pool_posted : (flies : Bool) (posts : List Post) (k : ℕ) (post : Post) → (if flies then slice_get posts k else None) ≡ Some post → slice_get posts k ≡ Some post
pool_posted true posts k post e = e
pool_posted false posts k post e = absurd cc

-- a node with this number
router_within : (s : Setup) (link n : ℕ) (r : Router) → router_at s link n ≡ Some r → n < length s.hosts
router_within s link n r is = by (slice_get s.hosts n) refl is
  where
    by : (o : Option Host) → slice_get s.hosts n ≡ o → router_by_host s link o ≡ Some r → n < length s.hosts
    by None none e = absurd cc
    by (Some host) here e = slice_get_within s.hosts n host here

roams_within : (s : Setup) (run : Run) (link n : ℕ) → roams_on s run link n ≡ true → n < length s.hosts
roams_within s run link n is = by (slice_get s.hosts n) refl is
  where
    by : (o : Option Host) → slice_get s.hosts n ≡ o → roams_by_host s run link n o ≡ true → n < length s.hosts
    by None none e = absurd cc
    by (Some host) here e = slice_get_within s.hosts n host here

-- no moment of due work is later than the target
later : (a b : ℕ) → a ≤ max a b
later a b = omega arith

not_later : (target due : ℕ) → nat_lt target due ≡ false → due ≤ target
not_later target due test = grind (arith, nat_tests, test)

pub comes_now : (s : Setup) (m : ℕ) (w : Waiting) → now_in s (comes_to s m w).run ≡ m
comes_now s m w = by (w.told && (now_in s w.run == m)) refl
  where
    by : (b : Bool) → (w.told && (now_in s w.run == m)) ≡ b → now_in s (let x : Waiting = (if b then w else record { run = note (entries.At (record { 0 = m })) w.run; told = true }) in x.run) ≡ m
    by true test = eqb-true (now_in s w.run) m (and_parts w.told (now_in s w.run == m) test).1
    by false test = fold-append (λ (at : ℕ) (x : Entry). unwrap_or (moment_says x) at) s.start w.run.past (entries.At (record { 0 = m }) ∷ [])

ticks_now : (s : Setup) (n : ℕ) (run : Run) → now_in s (ticks_one s n run) ≡ now_in s run
ticks_now s n run = by (is_due (due_of s run n) (now_in s run))
  where
    by : (b : Bool) → now_in s (if b then acts s n calls.Tick run else run) ≡ now_in s run
    by true = now_acts s n calls.Tick run
    by false = refl

ticked_now : (s : Setup) (n : ℕ) (run : Run) → now_in s (ticked s n run) ≡ now_in s run
unfolding ticked
ticked_now s zero run = refl
ticked_now s (suc n) run = ticks_now s n (ticked s n run) ∙ ticked_now s n run

works_early : (s : Setup) (due target : ℕ) (w : Waiting) → now_in s w.run ≤ target → due ≤ target → now_in s (works s due w).run ≤ target
works_early s due target w early within =
    subst (λ (t : ℕ). t ≤ target) (sym (ticked_now s (length s.hosts) (comes_to s (max (now_in s w.run) due) w).run))
    (subst (λ (t : ℕ). t ≤ target) (sym (comes_now s (max (now_in s w.run) due) w)) (both (now_in s w.run) due early within))
  where
    both : (a b : ℕ) → a ≤ target → b ≤ target → max a b ≤ target
    both a b one two = omega (arith, one, two)

-- only a packet without a shield comes to an outsider
outsider_bare : (s : Setup) (past : List Entry) (post : Post) (who : ℕ) → delivery (asked_in s past) (Some post) ≡ Outsider who → post.shield ≡ None
outsider_bare s past post who is = on (link_of s.links (destination_in post.packet)) is
  where
    held : (shield : Option Shield) (by : ℕ) (named : Option Address) → held_by shield by named ≡ Outsider who → shield ≡ None
    held None by named e = refl
    held (Some shield) by named e = cond_both (is_node by && is_address named shield.to) (Node by) (Gone NotForIt) (λ (f : Fate). f ≡ Outsider who → Some shield ≡ None) (λ yes f. absurd cc) (λ no f. absurd cc) e

    at : (o : Option ℕ) → at_holder (asked_in s past) post.shield o ≡ Outsider who → post.shield ≡ None
    at None e = absurd cc
    at (Some by) e = held post.shield by (declared_in past by) e

    on : (link : Option ℕ) → at_link (asked_in s past) post link ≡ Outsider who → post.shield ≡ None
    on None e = absurd cc
    on (Some link) e =
        cond_both (not (link == post.from) && nat_lt (hop_of post.packet) 2) (Gone Hop) (at_holder (asked_in s past) post.shield (holder_in past (destination_in post.packet)))
        (λ (f : Fate). f ≡ Outsider who → post.shield ≡ None) (λ used f. absurd cc) (λ fresh f. at (holder_in past (destination_in post.packet)) f) e

-- the past of an agent that has just begun its life is empty, and stays so as it gives up homes
set_empty : {X : Type 0} (pasts : List (List X)) (n : ℕ) → slice_index_or (slice_set pasts n []) n [] ≡ []
set_empty [] n = refl
set_empty (past ∷ pasts) zero = refl
set_empty (past ∷ pasts) (suc n) = set_empty pasts n

gives_born : (s : Setup) (run : Run) (n : ℕ) (address : Address) → IsBornAgent s run n → IsBornAgent s (gives_up s n address run) n
gives_born s run n address is = record {
  own = is.own;
  preference = is.preference;
  life = is.life;
  room = is.room;
  serves = is.serves;
  host = is.host;
  empty = keeps_gives_up s (λ (r : Run). agent_past_at r n ≡ []) (λ r e quiet empty. empty) n address run is.empty;
}

-- what each change keeps, an event keeps
module _ (s : Setup) (event : Event) (P : Run → Type 0) (step : (a b : Run) → Change s event a b → P a → P b) where
  leaves : (e : Entry) (run : Run) → IsLeft s event run e → P run → P (note e run)
  leaves e run is p = step run (note e run) (left run e is) p

  either : (b : Bool) (x y : Entry) (run : Run) → IsLeft s event run x → IsLeft s event run y → P run → P (note (if b then x else y) run)
  either true x y run one two p = leaves x run one p
  either false x y run one two p = leaves y run two p

  called : (n : ℕ) (call : Call) (run : Run) → IsBy s event run n call → P run → P (acts s n call run)
  called n call run is p = step run (acts s n call run) (acted run n call is) p

  -- outsiders hear packet k
  module _ (k : ℕ) (post : Post) where
    -- where the fate of k was found, the run has only more of what outsiders heard
    record Since (from run : Run) : Type 0 where
      heard : List Entry
      whole : run.past ≡ from.past ++ heard
      posts : run.posts ≡ from.posts
      p : P run

    since_heard : (from run : Run) (o : ℕ) → slice_get from.posts k ≡ Some post → post.shield ≡ None → o < s.outsiders → Since from run → Since from (note (entries.Heard k o) run)
    since_heard from run o posted bare within since = record {
      heard = since.heard ++ entries.Heard k o ∷ [];
      whole = ap (λ (l : List Entry). l ++ entries.Heard k o ∷ []) since.whole ∙ append_assoc from.past since.heard (entries.Heard k o ∷ []);
      posts = since.posts;
      p = leaves (entries.Heard k o) run
          (record { bare = record { post = post; posted = ap (λ (l : List Post). slice_get l k) since.posts ∙ posted; bare = bare }; by = inl within }) since.p;
    }

    since_heards : (from : Run) (hears : ℕ → Bool) (o : ℕ) → slice_get from.posts k ≡ Some post → post.shield ≡ None → o ≤ s.outsiders → P from → Since from (notes (heards hears k o) from)
    since_heards from hears zero posted bare within p =
        record { heard = []; whole = refl; posts = refl; p = subst (λ (l : List Entry). P (record from { past = l })) (sym (append-nil from.past)) p }
    since_heards from hears (suc o) posted bare within p = by (since_heards from hears o posted bare (omega (arith, within)) p) (hears o)
      where
        by : Since from (notes (heards hears k o) from) → (b : Bool) → Since from (notes (heards hears k o ++ (if b then entries.Heard k o ∷ [] else [])) from)
        by before true =
            subst (λ (l : List Entry). Since from (record from { past = l })) (append_assoc from.past (heards hears k o) (entries.Heard k o ∷ []))
            (since_heard from (notes (heards hears k o) from) o posted bare (omega (arith, within)) before)
        by before false = subst (λ (l : List Entry). Since from (notes l from)) (sym (append-nil (heards hears k o))) before

    since_overheard : (link : ℕ) (by : Option ℕ) (run : Run) → slice_get run.posts k ≡ Some post → P run → Since run (overheard s link post.shield by k run)
    since_overheard link by run posted p = at post.shield refl
      where
        hears : ℕ → Bool
        hears o = is_other by o && hears_in run.past o link

        at : (shield : Option Shield) → post.shield ≡ shield → Since run (if is_some shield then run else notes (heards hears k s.outsiders) run)
        at (Some shield) is = record { heard = []; whole = sym (append-nil run.past); posts = refl; p = p }
        at None is = since_heards run hears s.outsiders posted is (omega arith) p

    since_there : (link : Option ℕ) (run : Run) → slice_get run.posts k ≡ Some post → P run → Since run (overheard_at s post k link run)
    since_there None run posted p = record { heard = []; whole = sym (append-nil run.past); posts = refl; p = p }
    since_there (Some link) run posted p = since_overheard link None run posted p

    fate_since : (from run : Run) (fate : Fate) → Delivers event k → slice_get from.posts k ≡ Some post → delivery (asked_in s from.past) (Some post) ≡ fate → Since from run → IsFate s event run k fate
    fate_since from run fate delivers posted is since = record {
      delivers = delivers;
      post = post;
      posted = ap (λ (l : List Post). slice_get l k) since.posts ∙ posted;
      front = from.past;
      heard = since.heard;
      whole = since.whole;
      comes = is;
    }

    walk_became : (link : Option ℕ) (run : Run) → Delivers event k → slice_get run.posts k ≡ Some post → (d : Fate) → delivery (asked_in s run.past) (Some post) ≡ d → P run → P (became s k post link run d)
    unfolding handed
    walk_became link run delivers posted Idle is p = leaves entries.Idle run tt p
    walk_became link run delivers posted (Gone why) is p = by (is_no_holder why)
      where
        by : (b : Bool) → P (note (entries.Gone k why) (if b then overheard_at s post k link run else run))
        by true =
            let since : Since run (overheard_at s post k link run) = since_there link run posted p in
            leaves (entries.Gone k why) (overheard_at s post k link run) (fate_since run (overheard_at s post k link run) (Gone why) delivers posted is since) since.p
        by false =
            leaves (entries.Gone k why) run
            (record { delivers = delivers; post = post; posted = posted; front = run.past; heard = []; whole = sym (append-nil run.past); comes = is }) p
    walk_became link run delivers posted (Outsider who) is p = by (hears_there over (outsider_of who) link)
      where
        over : Run
        over = overheard_at s post k link run

        since : Since run (overheard_at s post k link run)
        since = since_there link run posted p

        by : (b : Bool) → P (if b then overheard_at s post k link run else note (entries.Heard k (outsider_of who)) (overheard_at s post k link run))
        by true = since.p
        by false =
            leaves (entries.Heard k (outsider_of who)) (overheard_at s post k link run)
            (record {
              bare = record { post = post; posted = ap (λ (l : List Post). slice_get l k) since.posts ∙ posted; bare = outsider_bare s run.past post who is };
              by = inr (who, fate_since run (overheard_at s post k link run) (Outsider who) delivers posted is since, refl);
            }) since.p
    walk_became link run delivers posted (Node n) is p =
        let over : Run = overheard_at s post k link run in
        let since : Since run (overheard_at s post k link run) = since_there link run posted p in
        let next : Run = note (entries.Handed k (node_id n)) over in
        called n (Take k post.shield (handed_over post.packet link)) next
        (delivers, record { earlier = over.past; told = refl; post = post; link = link; posted = ap (λ (l : List Post). slice_get l k) since.posts ∙ posted; under = refl; as_posted = refl })
        (leaves (entries.Handed k (node_id n)) over (fate_since run over (Node n) delivers posted is since) since.p)

  walk_arrived : (k : ℕ) (run : Run) → Delivers event k → (o : Option Post) → ((post : Post) → o ≡ Some post → slice_get run.posts k ≡ Some post) → P run → P (arrived s k run o)
  walk_arrived k run delivers None posted p = leaves entries.Idle run tt p
  walk_arrived k run delivers (Some post) posted p =
      walk_became k post (arrival_link s post) run delivers (posted post refl) (delivery (asked_in s run.past) (Some post)) refl p

  walk_delivered : (run : Run) (k : ℕ) (keep : Bool) → Delivers event k → P run → P (delivered s run k keep)
  unfolding delivered
  walk_delivered run k true delivers p = walk_arrived k run delivers (in_pool run.flying run.posts k) (pool_posted (slice_index_or run.flying k false) run.posts k) p
  walk_delivered run k false delivers p =
      walk_arrived k (without k run) delivers (in_pool run.flying run.posts k) (pool_posted (slice_index_or run.flying k false) run.posts k) (step run (without k run) (drops run k) p)

  walk_carried_one : ((k : ℕ) → Delivers event k) → (run : Run) (o : Option ℕ) → P run → P (carried_one s run o)
  walk_carried_one all run None p = p
  walk_carried_one all run (Some k) p = walk_delivered run k false (all k) p

  walk_carried : ((k : ℕ) → Delivers event k) → (run : Run) (n : ℕ) → P run → P (carried s run n)
  unfolding carried
  walk_carried all run zero p = p
  walk_carried all run (suc n) p = walk_carried_one all (carried s run n) (lowest_of (carried s run n).flying) (walk_carried all run n p)

  -- time goes on
  module _ (wait : IsWait event) where
    walk_comes : (m : ℕ) (w : Waiting) → now_in s w.run ≤ m → P w.run → P (comes_to s m w).run
    walk_comes m w early p = by (w.told && (now_in s w.run == m))
      where
        by : (b : Bool) → P (let x : Waiting = (if b then w else record { run = note (entries.At (record { 0 = m })) w.run; told = true }) in x.run)
        by true = p
        by false = step w.run _ (comes w.run m wait early) p

    walk_ticks_one : (n : ℕ) (run : Run) → P run → P (ticks_one s n run)
    walk_ticks_one n run p = by (is_due (due_of s run n) (now_in s run))
      where
        by : (b : Bool) → P (if b then acts s n calls.Tick run else run)
        by true = called n calls.Tick run wait p
        by false = p

    walk_ticked : (n : ℕ) (run : Run) → P run → P (ticked s n run)
    unfolding ticked
    walk_ticked zero run p = p
    walk_ticked (suc n) run p = walk_ticks_one n (ticked s n run) (walk_ticked n run p)

    walk_works : (due : ℕ) (w : Waiting) → P w.run → P (works s due w).run
    walk_works due w p =
        walk_ticked (length s.hosts) (comes_to s (max (now_in s w.run) due) w).run (walk_comes (max (now_in s w.run) due) w (later (now_in s w.run) due) p)

    -- at no moment later than the target
    module _ (target : ℕ) where
      abbrev Within : Run → Type 0
      Within run = P run × (now_in s run ≤ target)

      walk_works_on : (going : Waiting → Waiting) → ((w : Waiting) → Within w.run → Within (going w).run) → (o : Option ℕ) (w : Waiting) → Within w.run → Within (works_on going s target o w).run
      walk_works_on going go None w p = p
      walk_works_on going go (Some due) w p = by (nat_lt target due) refl
        where
          by : (b : Bool) → nat_lt target due ≡ b → Within (let x : Waiting = (if b then w else going (works s due w)) in x.run)
          by true test = p
          by false test = go (works s due w) (walk_works due w p.0, works_early s due target w p.1 (not_later target due test))

      walk_works_until : (n : ℕ) (w : Waiting) → Within w.run → Within (works_until s target n w).run
      unfolding works_until
      walk_works_until zero w p = p
      walk_works_until (suc n) w p = walk_works_on (works_until s target n) (walk_works_until n) (earliest (due_of s w.run) (length s.hosts)) w p

    walk_waited : (run : Run) (ms : ℕ) → P run → P (waited s run ms)
    unfolding waited
    walk_waited run ms p =
        let target : ℕ = now_in s run + ms in
        let first : Waiting = record { run = run; told = false } in
        let there : Within target (works_until s target (suc ms) first).run = walk_works_until target (suc ms) first (p, omega arith) in
        walk_comes target (works_until s target (suc ms) first) there.1 there.0

  -- routers advertise themselves
  module _ (link : LinkId) (so : event ≡ Advertise link) where
    walk_of_router : (g : ℕ) (run : Run) (o : Option Router) → g < length s.hosts → P run → P (hears_of_router s link.0 g run o)
    walk_of_router g run None within p = p
    walk_of_router g run (Some r) within p =
        called g (calls.Hear r.address r.preference r.life) (note (entries.Advertised (node_id g) link (Some r.address)) run) (link, so)
        (leaves (entries.Advertised (node_id g) link (Some r.address)) run (so, within) p)

    walk_of_node : (g other : ℕ) (run : Run) → g < length s.hosts → P run → P (hears_of_node s link.0 g other run)
    walk_of_node g other run within p = by (other == g)
      where
        by : (b : Bool) → P (if b then run else hears_of_router s link.0 g run (router_at s link.0 other))
        by true = p
        by false = walk_of_router g run (router_at s link.0 other) within p

    walk_of_first : (g n : ℕ) (run : Run) → g < length s.hosts → P run → P (hears_of_first s link.0 g n run)
    unfolding hears_of_first
    walk_of_first g zero run within p = p
    walk_of_first g (suc n) run within p = walk_of_node g n (hears_of_first s link.0 g n run) within (walk_of_first g n run within p)

    walk_of_all : (g : ℕ) (run : Run) (o : Option Router) → router_at s link.0 g ≡ o → P run → P (hears_of_all s link.0 g run o)
    walk_of_all g run None is p = p
    walk_of_all g run (Some r) is p = walk_of_first g (length s.hosts) run (router_within s link.0 g r is) p

    walk_agents : (n : ℕ) (run : Run) → P run → P (agents_hear s link.0 n run)
    unfolding agents_hear
    walk_agents zero run p = p
    walk_agents (suc n) run p = walk_of_all n (agents_hear s link.0 n run) (router_at s link.0 n) refl (walk_agents n run p)

    walk_mobile : (n : ℕ) (run : Run) → P run → P (mobile_told s link.0 n run)
    walk_mobile n run p = by (roams_on s run link.0 n) refl
      where
        by : (b : Bool) → roams_on s run link.0 n ≡ b
            → P (if b then acts s n (calls.Attach (slice_index_or s.links link.0 0)) (note (entries.Advertised (node_id n) (link_id link.0) None) run) else run)
        by true there =
            called n (calls.Attach (slice_index_or s.links link.0 0)) (note (entries.Advertised (node_id n) link None) run)
            (link, so, record { link = link.0; stands = roams_told s run link.0 n (node_id n) link None ∙ there; of_link = refl })
            (leaves (entries.Advertised (node_id n) link None) run (so, roams_within s run link.0 n there) p)
        by false there = p

    walk_mobiles : (n : ℕ) (run : Run) → P run → P (mobiles_told s link.0 n run)
    unfolding mobiles_told
    walk_mobiles zero run p = p
    walk_mobiles (suc n) run p = walk_mobile n (mobiles_told s link.0 n run) (walk_mobiles n run p)

  -- a node begins its next life
  module _ (node : NodeId) (so : event ≡ Restart node) where
    walk_homes : (rows : List HomeRow) (run : Run) → IsBornAgent s run node.0 → P run → P (homes_left s node.0 rows run)
    unfolding homes_left
    walk_homes [] run is p = p
    walk_homes (r ∷ rows) run is p = walk_homes rows (gives_up s node.0 r.home run) (gives_born s run node.0 r.home is) (step run (gives_up s node.0 r.home run) (gives run node r.home so is) p)

    walk_reborn : (run : Run) (o : Option Host) → slice_get s.hosts node.0 ≡ o → is_mobile_host o ≡ false → P run → P (note (entries.Restarted node) (emptied_by_host node.0 run o))
    walk_reborn run o is unmoved p =
        subst (λ (o : Option Host). P (note (entries.Restarted node) (emptied_by_host node.0 run o))) is
        (step run (note (entries.Restarted node) (emptied s node.0 run)) (reborn run node so (ap is_mobile_host is ∙ unmoved)) p)

    walk_restarted : (run : Run) → P run → P (restarted s run node.0)
    unfolding restarted
    walk_restarted run p = by (slice_get s.hosts node.0) refl
      where
        of_kind : (own : Address) (kind : Kind) → slice_get s.hosts node.0 ≡ Some (record { address = own; kind = kind }) → P (reborn_by_kind s node.0 run kind)
        of_kind own (Correspondent room) is = walk_reborn run _ is refl p
        of_kind own (Agent preference life room serves) is =
            walk_homes (rows_at (now_in s run) (agent_known_in run node.0 serves).homes) _
            (record { own = own; preference = preference; life = life; room = room; serves = serves; host = is; empty = set_empty run.agent_pasts node.0 }) (walk_reborn run _ is refl p)
        of_kind own (Mobile agent) is =
            let next : Run = note (entries.Restarted node) run in
            step run _ (renewed run node (secrets_in s node.0 (life_in next.past node.0)) so (ap is_mobile_host is) refl) p

        by : (o : Option Host) → slice_get s.hosts node.0 ≡ o → P (reborn_by_host s node.0 run o)
        by None is = walk_reborn run None is refl p
        by (Some host) is = of_kind host.address host.kind is

  -- an outsider posts a packet
  walk_injected : (o : ℕ) (link : LinkId) (packet : List ℕ) (run : Run) → Injects event o link → P run → P (injected s run o link.0 packet)
  walk_injected o link packet run is p =
      let post : Post = record { from = link.0; shield = None; packet = packet } in
      let next : Run = entered post (note (entries.Injected (length run.posts) o link packet) run) in
      let since : Since (length run.posts) post next (injected s run o link.0 packet) =
      since_overheard (length run.posts) post link.0 (Some o) next (get_last run.posts post) (step run next (injects run o link packet is) p) in
      since.p

  walk_injected_if : (o : ℕ) (link : LinkId) (packet : Option (List ℕ)) (run : Run) → Injects event o link → P run → P (injected_if s run o link.0 packet)
  walk_injected_if o link None run is p = leaves entries.Idle run tt p
  walk_injected_if o link (Some packet) run is p = walk_injected o link packet run is p

  -- the rows of a node are shown
  module _ (node : NodeId) (so : event ≡ Show node) (within : node.0 < length s.hosts) where
    walk_rows : {X : Type 0} (f : X → Entry) → ((x : X) (run : Run) → IsLeft s event run (f x)) → (xs : List X) (run : Run) → P run → P (notes (map f xs) run)
    walk_rows f is [] run p = subst (λ (l : List Entry). P (record run { past = l })) (sym (append-nil run.past)) p
    walk_rows f is (x ∷ xs) run p =
        subst (λ (l : List Entry). P (record run { past = l })) (append_assoc run.past (f x ∷ []) (map f xs)) (walk_rows f is xs (note (f x) run) (leaves (f x) run (is x run) p))

    walk_kind : (own : Address) (run : Run) (kind : Kind) → P run → P (notes (rows_by_kind s node.0 own run kind) run)
    walk_kind own run (Correspondent room) p = walk_rows (row_entry node.0) (λ x r. (so, within)) (caches.rows_at (known_in s run node.0 room).cache (now_in s run)) run p
    walk_kind own run (Agent preference life room serves) p = walk_rows (home_entry node.0) (λ x r. (so, within)) (rows_at (now_in s run) (agent_known_in run node.0 serves).homes) run p
    walk_kind own run (Mobile agent) p = walk_rows (row_entry node.0) (λ x r. (so, within)) (caches.rows_at (mobile_known_in s run node.0 own agent).part.known.cache (now_in s run)) run p

  walk_shown : (node : NodeId) → event ≡ Show node → (run : Run) → P run → P (shown s node.0 run)
  walk_shown node so run p = by (slice_get s.hosts node.0) refl
    where
      by : (o : Option Host) → slice_get s.hosts node.0 ≡ o → P (rows_shown s node.0 run o)
      by None is = leaves entries.Idle run tt p
      by (Some host) is = walk_kind node so (slice_get_within s.hosts node.0 host is) host.address run host.kind p

  walk_lost : (run : Run) (k : ℕ) → event ≡ Lose k → P run → P (lost run k)
  unfolding lost
  walk_lost run k so p = either (slice_index_or run.flying k false) (entries.Lost k) entries.Idle (without k run) so tt (step run (without k run) (drops run k) p)

  walk_moves : (node : NodeId) (link : Option LinkId) (run : Run) → event ≡ Move node link → P run → P (moves_if s run node.0 link)
  walk_moves node link run so p = by (is_mobile_host (slice_get s.hosts node.0)) refl
    where
      by : (b : Bool) → is_mobile_host (slice_get s.hosts node.0) ≡ b → P (if b then moves s run node.0 link else note entries.Idle run)
      by true is = step run (moves s run node.0 link) (moved run node link so is) p
      by false is = leaves entries.Idle run tt p

-- what each change of an event keeps, the event keeps
pub happens_keeps : (s : Setup) (P : Run → Type 0) (run : Run) (event : Event) → ((a b : Run) → Change s event a b → P a → P b) → P run → P (happens s run event)
happens_keeps s P run (Wait ms) step p = walk_waited s (Wait ms) P step tt run ms p
happens_keeps s P run (Move node link) step p = walk_moves s (Move node link) P step node link run refl p
happens_keeps s P run (Advertise link) step p =
    walk_mobiles s (Advertise link) P step link refl (length s.hosts) (agents_hear s link.0 (length s.hosts) run)
    (walk_agents s (Advertise link) P step link refl (length s.hosts) run p)
happens_keeps s P run (Payload node to proto payload) step p = called s (Payload node to proto payload) P step node.0 (calls.Send to proto payload) run refl p
happens_keeps s P run (Inject o link packet) step p = walk_injected s (Inject o link packet) P step o link packet run (refl, refl) p
happens_keeps s P run (Probe o link careof source peer cookie) step p =
    walk_injected s (Probe o link careof source peer cookie) P step o link (probe_packet careof source peer cookie.0) run (refl, refl) p
happens_keeps s P run (Bind o link ends sequence lifetime kh kc number) step p =
    walk_injected_if s (Bind o link ends sequence lifetime kh kc number) P step o link
    (update_packet (record { source = ends.source; peer = ends.peer; home = ends.home; careof = ends.careof; sequence = sequence; lifetime = lifetime; number = number }) run.posts kh kc) run (refl, refl) p
happens_keeps s P run (Tell o link kt kp) step p = walk_injected_if s (Tell o link kt kp) P step o link (test_packet run.posts kt kp) run (refl, refl) p
happens_keeps s P run (Listen o link) step p = either s (Listen o link) P step (hears_in run.past o link.0) entries.Idle (entries.Listening o (link_id link.0)) run tt refl p
happens_keeps s P run (Deaf o link) step p = either s (Deaf o link) P step (hears_in run.past o link.0) (entries.Deafened o (link_id link.0)) entries.Idle run refl tt p
happens_keeps s P run (Squat o address) step p = step run _ (squats run o address refl) p
happens_keeps s P run (Yield o address) step p = step run _ (yields run o address refl) p
happens_keeps s P run (Deliver k) step p = walk_delivered s (Deliver k) P step run k false refl p
happens_keeps s P run (Repeat k) step p = walk_delivered s (Repeat k) P step run k true refl p
happens_keeps s P run (Lose k) step p = walk_lost s (Lose k) P step run k refl p
happens_keeps s P run (Carry count) step p = walk_carried s (Carry count) P step (λ k. tt) run count p
happens_keeps s P run (Restart node) step p = walk_restarted s (Restart node) P step node refl run p
happens_keeps s P run (Refresh node home) step p = called s (Refresh node home) P step node.0 (calls.Refresh home) run refl p
happens_keeps s P run (Plan node valid preferred) step p = called s (Plan node valid preferred) P step node.0 (calls.Plan valid preferred) run refl p
happens_keeps s P run (Ask node) step p = called s (Ask node) P step node.0 calls.Ask run refl p
happens_keeps s P run (Show node) step p = walk_shown s (Show node) P step node refl run p
happens_keeps s P run (Settle a b) step p = leaves s (Settle a b) P step (entries.Settled a b (is_settled s.start run.past a.0 b.0)) run refl p

-- so each event is a list of changes
pub happens_changes : (s : Setup) (run : Run) (event : Event) → Changes s event run (happens s run event)
happens_changes s run event = happens_keeps s (Changes s event run) run event (λ a b change so. more a b so change) unchanged

-- and what each change keeps, at the events that meet N, a schedule of such events keeps
pub schedule_keeps : (s : Setup) (P : Run → Type 0) (N : Event → Type 0) → ((event : Event) → N event → (a b : Run) → Change s event a b → P a → P b)
    → (run : Run) (events : List Event) → AllByRecursion N events → P run → P (fold (λ run event. happens s run event) run events)
schedule_keeps s P N step run [] all p = p
schedule_keeps s P N step run (event ∷ events) all p = schedule_keeps s P N step (happens s run event) events all.1 (happens_keeps s P run event (step event all.0) p)

-- any schedule
pub all_keep : (s : Setup) (P : Run → Type 0) → ((event : Event) (a b : Run) → Change s event a b → P a → P b)
    → (run : Run) (events : List Event) → P run → P (fold (λ run event. happens s run event) run events)
all_keep s P step run [] p = p
all_keep s P step run (event ∷ events) p = all_keep s P step (happens s run event) events (happens_keeps s P run event (step event) p)
