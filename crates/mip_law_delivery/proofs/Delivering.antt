-- A packet that is delivered: a node that holds its destination is handed it, and what it does about it follows.
use Rattle.std.proofs.Common.{◌≡◌, ℕ, zero, suc, ◌<◌, ◌≤◌, List, [], ◌∷◌, ◌++◌, Bool, true, false, length, refl, sym, ap, ◌∙◌, subst, arith}
use Rattle.std.specs.Prelude.{fold, Option, Some, None, unwrap_or, is_some, Ok, not, ◌==◌, ◌&&◌, ◌||◌, nat_lt, if◌then◌else◌, slice_get, slice_index_or}
use Rattle.std.specs.List.{list_any}
use Rattle.std.proofs.lemmas.List.{append_assoc, append-nil}
use Rattle.std.proofs.lemmas.List.Folds.{list_any-append}
use Rattle.std.proofs.lemmas.List.Sums.{fold-append}
use Rattle.std.proofs.lemmas.Bool.{or_parts, cond-true, cond-false}
use Rattle.std.proofs.lemmas.Bool.Decides.{nat_tests}
use Rattle.mip_words.specs.declared.address.Address.{Address}
use Rattle.mip_words.specs.declared.shield.Shield.{Shield}
use Rattle.mip_ipv6.specs.Packet.{Packet, source_of, destination_of}
use Rattle.mip_ipv6.specs.Reading.{packet_of}
use Rattle.mip_ipv6.proofs.Packets.{packet_takes}
use Rattle.mip_entries.specs.declared.answer.Answer.{Answer}
use Rattle.mip_entries.specs.declared.answer.Answer.TheVariants.{Send}
use Rattle.mip_entries.specs.declared.entry.Entry.{Entry}
use Rattle.mip_entries.specs.declared.entry.Entry.TheVariants as entries
use Rattle.mip_entries.specs.Completed.{node_id}
use Rattle.mip_entries.specs.Stamped.{Stamped}
use Rattle.mip_ipv6.specs.Tunnel.{hop_of}
use Rattle.mip_outside.specs.declared.claim.Claim.{Claim}
use Rattle.mip_links.specs.Table.{Post, Asked, link_of, destination_in, at_holder, at_link, in_pool}
use Rattle.mip_links.specs.Table.Fate.{Node}
use Rattle.mip_rules_correspondent.specs.Steps as part_steps
use Rattle.mip_rules_correspondent.specs.declared.identity.Identity.{Identity}
use Rattle.mip_rules_correspondent.specs.declared.known.Known as parts
use Rattle.mip_rules_correspondent.specs.Calls as part_calls
use Rattle.mip_rules_correspondent.specs.Questions as part_questions
use Rattle.mip_rules_correspondent.specs.Transitions as part_transitions
use Rattle.mip_rules_correspondent.specs.Doing as part_doing
use Rattle.mip_rules_agent.specs.Steps as agent_steps
use Rattle.mip_rules_agent.specs.Known as agents
use Rattle.mip_rules_agent.specs.Calls as agent_calls
use Rattle.mip_rules_agent.specs.Calls.{claim_for}
use Rattle.mip_rules_agent.specs.Questions as agent_questions
use Rattle.mip_rules_agent.specs.Transitions as agent_transitions
use Rattle.mip_rules_agent.specs.Doing as agent_doing
use Rattle.mip_rules_mobile.specs.Steps as mobile_steps
use Rattle.mip_rules_mobile.specs.Known as mobiles
use Rattle.mip_rules_mobile.specs.Calls as mobile_calls
use Rattle.mip_rules_mobile.specs.Questions as mobile_questions
use Rattle.mip_rules_mobile.specs.Transitions as mobile_transitions
use Rattle.mip_rules_mobile.specs.Doing as mobile_doing
use Rattle.mip_history.specs.Setup.{Setup, Host}
use Rattle.mip_history.specs.Setup.Kind.{Correspondent, Agent, Mobile}
use Rattle.mip_history.specs.Runs.{Run, note, notes, entered, without, past_at, agent_past_at, mobile_past_at, with_past, with_agent_past, with_mobile_past}
use Rattle.mip_history.specs.Questions.{moment_says, restarts, life_in, holder_in, asked_in, hears_in}
use Rattle.mip_history.specs.Calls.{Take}
use Rattle.mip_history.specs.Knowing.{link_or_first, now_in, secrets_in, identity_in, known_in, agent_of, agent_known_in, mobile_known_in, stands_on, around_in}
use Rattle.mip_history.specs.Posting.{heards, is_other}
use Rattle.mip_history.specs.Nodes.{answered, by_host, acts}
use Rattle.mip_history.specs.Delivery.{overheard_at, handed, became, arrival_link, arrived, delivered}
use Rattle.mip_law_delivery.specs.Legs.{up, BeginsWith}
use Rattle.mip_law_delivery.proofs.Reaching.{any_may, any_stand, Calm, all_may, answers_calm, none_bad}

-- the destination and the hop limit of a packet that was read stand in its bytes
pub head_read : (bytes : List ℕ) (p : Packet) → packet_of bytes ≡ Ok p → (destination_in bytes ≡ p.head.destination.0) × (hop_of bytes ≡ p.head.hop)
head_read bytes p is = let spelled = packet_takes bytes p is in (ap (λ (a : Address). a.0) spelled.destination, spelled.hop)

-- entries that tell of more than who heard a packet or was handed it
abbrev pub is_talk : Entry → Bool
is_talk (entries.Heard number outsider) = false
is_talk (entries.Handed number node) = false
is_talk _ = true

-- a run went on, and a packet was heard and handed over alone
pub record IsBeside (from run : Run) : Type 0 where
  pub es : List Entry
  pub past : run.past ≡ from.past ++ es
  pub quiet : list_any is_talk es ≡ false
  pub pasts : run.pasts ≡ from.pasts
  pub agents : run.agent_pasts ≡ from.agent_pasts
  pub mobiles : run.mobile_pasts ≡ from.mobile_pasts
  pub posts : run.posts ≡ from.posts

heards_quiet : (hears : ℕ → Bool) (k o : ℕ) → list_any is_talk (heards hears k o) ≡ false
heards_quiet hears k zero = refl
heards_quiet hears k (suc o) =
    list_any-append is_talk (heards hears k o) (if hears o then entries.Heard k o ∷ [] else [])
    ∙ ap (λ (b : Bool). b || list_any is_talk (if hears o then entries.Heard k o ∷ [] else [])) (heards_quiet hears k o)
    ∙ by (hears o)
  where
    by : (b : Bool) → (false || list_any is_talk (if b then entries.Heard k o ∷ [] else [])) ≡ false
    by true = refl
    by false = refl

beside_same : (run : Run) → IsBeside run run
beside_same run = record { es = []; past = sym (append-nil run.past); quiet = refl; pasts = refl; agents = refl; mobiles = refl; posts = refl }

overheard_beside : (s : Setup) (post : Post) (k : ℕ) (link : Option ℕ) (run : Run) → IsBeside run (overheard_at s post k link run)
overheard_beside s post k None run = beside_same run
overheard_beside s post k (Some link) run = at (is_some post.shield)
  where
    hears : ℕ → Bool
    hears o = is_other None o && hears_in run.past o link

    at : (b : Bool) → IsBeside run (if b then run else notes (heards hears k s.outsiders) run)
    at true = beside_same run
    at false = record { es = heards hears k s.outsiders; past = refl; quiet = heards_quiet hears k s.outsiders; pasts = refl; agents = refl; mobiles = refl; posts = refl }

-- a packet that leaves the pool, or stays there, is heard
pub heard_beside : (s : Setup) (post : Post) (k : ℕ) (link : Option ℕ) (keep : Bool) (run : Run) → IsBeside run (overheard_at s post k link (if keep then run else without k run))
heard_beside s post k link true run = overheard_beside s post k link run
heard_beside s post k link false run =
    let b = overheard_beside s post k link (without k run) in
    record { es = b.es; past = b.past; quiet = b.quiet; pasts = b.pasts; agents = b.agents; mobiles = b.mobiles; posts = b.posts }

-- before its answers to a packet, a node and its run are as they were
pub handed_beside : (k n : ℕ) (from heard : Run) → IsBeside from heard → IsBeside from (note (entries.Handed k (node_id n)) heard)
handed_beside k n from heard b = record {
  es = b.es ++ entries.Handed k (node_id n) ∷ [];
  past = ap (λ (l : List Entry). l ++ entries.Handed k (node_id n) ∷ []) b.past ∙ append_assoc from.past b.es (entries.Handed k (node_id n) ∷ []);
  quiet = list_any-append is_talk b.es (entries.Handed k (node_id n) ∷ []) ∙ ap (λ (x : Bool). x || false) b.quiet;
  pasts = b.pasts;
  agents = b.agents;
  mobiles = b.mobiles;
  posts = b.posts;
}

fold_quiet : {S : Type 0} (f : S → Entry → S) → ((x : S) (e : Entry) → is_talk e ≡ false → f x e ≡ x) → (x : S) (es : List Entry) → list_any is_talk es ≡ false → fold f x es ≡ x
fold_quiet f same x [] quiet = refl
fold_quiet {S = S} f same x (e ∷ es) quiet =
    let parts = or_parts (is_talk e) (list_any is_talk es) quiet in
    ap (λ (y : S). fold f y es) (same x e parts.0) ∙ fold_quiet f same x es parts.1

moment_quiet : (at : ℕ) (e : Entry) → is_talk e ≡ false → unwrap_or (moment_says e) at ≡ at
moment_quiet at (entries.At moment) quiet = absurd cc
moment_quiet at _ quiet = refl

life_quiet : (n count : ℕ) (e : Entry) → is_talk e ≡ false → restarts n count e ≡ count
life_quiet n count (entries.Restarted node) quiet = absurd cc
life_quiet n count _ quiet = refl

module _ (s : Setup) (from run : Run) (beside : IsBeside from run) where
  pub now_beside : now_in s run ≡ now_in s from
  now_beside =
      ap (λ (l : List Entry). fold (λ (at : ℕ) (e : Entry). unwrap_or (moment_says e) at) s.start l) beside.past
      ∙ fold-append (λ (at : ℕ) (e : Entry). unwrap_or (moment_says e) at) s.start from.past beside.es
      ∙ fold_quiet (λ (at : ℕ) (e : Entry). unwrap_or (moment_says e) at) moment_quiet (now_in s from) beside.es beside.quiet

  life_beside : (n : ℕ) → life_in run.past n ≡ life_in from.past n
  life_beside n =
      ap (λ (l : List Entry). life_in l n) beside.past ∙ fold-append (restarts n) 0 from.past beside.es ∙ fold_quiet (restarts n) (life_quiet n) (life_in from.past n) beside.es beside.quiet

  -- a transition of a node is what it would have been
  module _ (n : ℕ) (own : Address) where
    correspondent_beside : (room : ℕ) (c : part_calls.Call)
        → part_doing.transition_of (identity_in s run n own room) (known_in s run n room) (now_in s run) c ≡ part_doing.transition_of (identity_in s from n own room) (known_in s from n room) (now_in s from) c
    correspondent_beside room c =
        by (ap (λ (life : ℕ). let x : Identity = record { own = own; secrets = secrets_in s n life; room = room } in x) (life_beside n))
        (ap (λ (l : List (List (Stamped part_steps.Step))). part_questions.known room s.numbers (slice_index_or l n [])) beside.pasts) now_beside
      where
        by : {me you : Identity} {k l : parts.Known} {t u : ℕ} → me ≡ you → k ≡ l → t ≡ u → part_doing.transition_of me k t c ≡ part_doing.transition_of you l u c
        by a b d = cc

    agent_beside : (preference life room : ℕ) (serves : List Address) (c : agent_calls.Call)
        → agent_doing.transition_of (agent_of own preference life room) (agent_known_in run n serves) (now_in s run) c
        ≡ agent_doing.transition_of (agent_of own preference life room) (agent_known_in from n serves) (now_in s from) c
    agent_beside preference life room serves c =
        by (ap (λ (l : List (List (Stamped agent_steps.Step))). agent_questions.known serves (slice_index_or l n [])) beside.agents) now_beside
      where
        by : {k l : agents.Known} {t u : ℕ} → k ≡ l → t ≡ u → agent_doing.transition_of (agent_of own preference life room) k t c ≡ agent_doing.transition_of (agent_of own preference life room) l u c
        by a b = cc

    mobile_beside : (agent : Option Address) (c : mobile_calls.Call)
        → mobile_doing.transition_of (mobile_known_in s run n own agent) (now_in s run) c ≡ mobile_doing.transition_of (mobile_known_in s from n own agent) (now_in s from) c
    mobile_beside agent c =
        by (ap (λ (l : List (List (Stamped mobile_steps.Step))). mobile_questions.known own agent s.numbers (secrets_in s n 0) (slice_index_or l n [])) beside.mobiles) now_beside
      where
        by : {k l : mobiles.Known} {t u : ℕ} → k ≡ l → t ≡ u → mobile_doing.transition_of k t c ≡ mobile_doing.transition_of l u c
        by a b = cc

-- the first entry that a run leaves behind another one
pub record LeavesFirst (from run : Run) (e : Entry) : Type 0 where
  pub rest : List Entry
  pub whole : run.past ≡ from.past ++ e ∷ rest

-- the entry of data that node n hands up
abbrev pub up_entry : ℕ → ℕ → Packet → Entry
up_entry n number p = entries.Up (node_id n) number (source_of p.head) (destination_of p.head) p.head.proto p.body

module _ (s : Setup) (n from : ℕ) (run : Run) where
  -- answers that begin by handing up
  up_left : (number : ℕ) (p : Packet) (answers : List Answer) → BeginsWith (up number p) answers → LeavesFirst run (answered s n from run answers) (up_entry n number p)
  unfolding answered
  up_left number p answers begins =
      subst (λ (l : List Answer). LeavesFirst run (answered s n from run l) (up_entry n number p)) (sym begins.is)
      (let next : Run = note (up_entry n number p) run in
      let c : Calm s (λ (e : Entry). false) any_may any_stand (none_bad s) next.past (answered s n from next begins.rest) =
      answers_calm s (λ (e : Entry). false) any_may any_stand (none_bad s) next.past n from next begins.rest (all_may any_may n (λ address. tt) begins.rest) (record { rest = []; whole = sym (append-nil next.past); calm = refl; stands = tt }) in
      record { rest = c.rest; whole = c.whole ∙ append_assoc run.past (up_entry n number p ∷ []) c.rest })

  -- one packet is sent
  pub record LeavesPost (packet : List ℕ) (after : Run) : Type 0 where
    pub first : LeavesFirst run after (entries.Sent (length run.posts) (node_id n) false packet)
    pub posts : after.posts ≡ run.posts ++ record { from = from; shield = None; packet = packet } ∷ []

  pub send_left : (packet : List ℕ) (answers : List Answer) → answers ≡ Send None packet ∷ [] → LeavesPost packet (answered s n from run answers)
  unfolding answered
  send_left packet answers is =
      subst (λ (l : List Answer). LeavesPost packet (answered s n from run l)) (sym is)
      (let e : Entry = entries.Sent (length run.posts) (node_id n) false packet in
      let post : Post = record { from = from; shield = None; packet = packet } in
      let hears : ℕ → Bool = λ o. is_other None o && hears_in (entered post (note e run)).past o from in
      let rest : List Entry = heards hears (length run.posts) s.outsiders in
      record { first = record { rest = rest; whole = append_assoc run.past (e ∷ []) rest }; posts = refl })

-- a node takes a packet that was handed to it
module _ (s : Setup) (from run : Run) (beside : IsBeside from run) (n : ℕ) (own : Address) (number : ℕ) (shield : Option Shield) (bytes : List ℕ) where
  abbrev taken : Run
  taken = acts s n (Take number shield bytes) run

  pub correspondent_hands_up : (room : ℕ) (p : Packet) → slice_get s.hosts n ≡ Some (record { address = own; kind = Correspondent room })
      → BeginsWith (up number p) (part_steps.answers_of (part_doing.transition_of (identity_in s from n own room) (known_in s from n room) (now_in s from) (part_calls.Take number shield bytes)).steps)
      → LeavesFirst run taken (up_entry n number p)
  correspondent_hands_up room p host begins =
      let transition : part_transitions.Transition = part_doing.transition_of (identity_in s run n own room) (known_in s run n room) (now_in s run) (part_calls.Take number shield bytes) in
      let next : Run = with_past n (part_transitions.with_transition (past_at run n) transition) run in
      let same = correspondent_beside s from run beside n own room (part_calls.Take number shield bytes) in
      let left = up_left s n (link_or_first s own.0) next number p (part_steps.answers_of transition.steps)
      (subst (λ (t : part_transitions.Transition). BeginsWith (up number p) (part_steps.answers_of t.steps)) (sym same) begins) in
      subst (λ (o : Option Host). LeavesFirst run (by_host s n (Take number shield bytes) run o) (up_entry n number p)) (sym host) (record { rest = left.rest; whole = left.whole })

  pub mobile_hands_up : (agent : Option Address) (p : Packet) → slice_get s.hosts n ≡ Some (record { address = own; kind = Mobile agent })
      → BeginsWith (up number p) (mobile_steps.answers_of (mobile_doing.transition_of (mobile_known_in s from n own agent) (now_in s from) (mobile_calls.Take number shield bytes)).steps)
      → LeavesFirst run taken (up_entry n number p)
  mobile_hands_up agent p host begins =
      let transition : mobile_transitions.Transition = mobile_doing.transition_of (mobile_known_in s run n own agent) (now_in s run) (mobile_calls.Take number shield bytes) in
      let next : Run = with_mobile_past n (mobile_transitions.with_transition (mobile_past_at run n) transition) run in
      let same = mobile_beside s from run beside n own agent (mobile_calls.Take number shield bytes) in
      let left = up_left s n (unwrap_or (stands_on s run n own) 0) next number p (mobile_steps.answers_of transition.steps)
      (subst (λ (t : mobile_transitions.Transition). BeginsWith (up number p) (mobile_steps.answers_of t.steps)) (sym same) begins) in
      subst (λ (o : Option Host). LeavesFirst run (by_host s n (Take number shield bytes) run o) (up_entry n number p)) (sym host) (record { rest = left.rest; whole = left.whole })

  pub agent_sends : (preference life room : ℕ) (serves : List Address) (packet : List ℕ) → slice_get s.hosts n ≡ Some (record { address = own; kind = Agent preference life room serves })
      → ((claim : Claim) → agent_steps.answers_of (agent_doing.transition_of (agent_of own preference life room) (agent_known_in from n serves) (now_in s from) (agent_calls.Take number shield bytes claim)).steps ≡ Send None packet ∷ [])
      → LeavesPost s n (link_or_first s own.0) run packet taken
  agent_sends preference life room serves packet host sends =
      let call : agent_calls.Call = agent_calls.Take number shield bytes (claim_for (around_in run n None) bytes) in
      let transition : agent_transitions.Transition = agent_doing.transition_of (agent_of own preference life room) (agent_known_in run n serves) (now_in s run) call in
      let next : Run = with_agent_past n (agent_transitions.with_transition (agent_past_at run n) transition) run in
      let same = agent_beside s from run beside n own preference life room serves call in
      let left = send_left s n (link_or_first s own.0) next packet (agent_steps.answers_of transition.steps)
      (ap (λ (t : agent_transitions.Transition). agent_steps.answers_of t.steps) same ∙ sends (claim_for (around_in run n None) bytes)) in
      subst (λ (o : Option Host). LeavesPost s n (link_or_first s own.0) run packet (by_host s n (Take number shield bytes) run o)) (sym host)
      (record { first = record { rest = left.first.rest; whole = left.first.whole }; posts = left.posts })

-- where a node holds the destination of a packet that is not shielded, it is handed the packet
pub delivered_to : (s : Setup) (run : Run) (k : ℕ) (keep : Bool) (post : Post) (p : Packet) (l n : ℕ) → in_pool run.flying run.posts k ≡ Some post → post.shield ≡ None → packet_of post.packet ≡ Ok p
    → link_of s.links p.head.destination.0 ≡ Some l → holder_in run.past p.head.destination.0 ≡ Some n → n < 32 → 2 ≤ p.head.hop
    → delivered s run k keep ≡ handed s k post n (arrival_link s post) (overheard_at s post k (arrival_link s post) (if keep then run else without k run))
unfolding delivered
delivered_to s run k keep post p l n pool bare read link holder few hop = ap (arrived s k (if keep then run else without k run)) pool ∙ by keep
  where
    head : (destination_in post.packet ≡ p.head.destination.0) × (hop_of post.packet ≡ p.head.hop)
    head = head_read post.packet p read

    q : Asked
    q = asked_in s run.past

    many : nat_lt (hop_of post.packet) 2 ≡ false
    many = let e = head.1 in grind (arith, nat_tests, e, hop)

    and_false : (a b : Bool) → b ≡ false → (a && b) ≡ false
    and_false true b e = e
    and_false false b e = refl

    is : at_link q post (link_of s.links (destination_in post.packet)) ≡ Node n
    is =
        ap (at_link q post) (ap (link_of s.links) head.0 ∙ link)
        ∙ cond-false (not (l == post.from) && nat_lt (hop_of post.packet) 2) _ _ (and_false (not (l == post.from)) _ many)
        ∙ ap (λ (shield : Option Shield). at_holder q shield (holder_in run.past (destination_in post.packet))) bare
        ∙ ap (at_holder q None) (ap (holder_in run.past) head.0 ∙ holder)
        ∙ cond-true (nat_lt n 32) _ _ (grind (arith, nat_tests, few))

    by : (b : Bool) → arrived s k (if b then run else without k run) (Some post) ≡ handed s k post n (arrival_link s post) (overheard_at s post k (arrival_link s post) (if b then run else without k run))
    by true = ap (became s k post (arrival_link s post) run) is
    by false = ap (became s k post (arrival_link s post) (without k run)) is
