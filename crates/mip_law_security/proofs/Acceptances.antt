-- What an event leaves of an acceptance of a packet by a mobile: nothing, but where it hands the packet to the mobile, which then has a
-- tunnel packet from its agent under a shield.
use Rattle.std.proofs.Common.{◌≡◌, ◌≢◌, ℕ, List, [], Bool, true, false, ◌⊎◌, inl, inr, length, refl, sym, ap, ◌∙◌, subst}
use Rattle.std.specs.Prelude.{drop, Option, Some, None, Ok, if◌then◌else◌, slice_get, slice_index_or}
use Rattle.std.specs.List.{list_any}
use Rattle.std.proofs.lemmas.List.{append-nil, drop_at}
use Rattle.std.proofs.lemmas.Bool.{cases_eq}
use Rattle.mip_words.specs.declared.address.Address.{Address}
use Rattle.mip_words.specs.declared.why.Why.{Why}
use Rattle.mip_ipv6.specs.Packet.{Packet}
use Rattle.mip_ipv6.specs.Reading.{packet_of}
use Rattle.mip_ipv6.specs.Tunnel.{lowered_packet}
use Rattle.mip_ipv6.specs.TunnelLaws.{lowered_if_read}
use Rattle.mip_ipv6.proofs.Tunnels.{packet_of_lowered}
use Rattle.mip_entries.specs.declared.entry.Entry.{Entry}
use Rattle.mip_entries.specs.declared.entry.Entry.TheVariants as entries
use Rattle.mip_entries.specs.Completed.{node_id}
use Rattle.mip_entries.specs.Stamped.{Stamped}
use Rattle.mip_schedule.specs.declared.event.Event.{Event}
use Rattle.mip_schedule.specs.declared.event.Event.TheVariants.{Deliver, Repeat, Carry}
use Rattle.mip_links.specs.Table.{Fate, Post, delivery, holder_outside, outsider_of}
use Rattle.mip_links.specs.Table.Fate.{Idle, Gone, Outsider, Node}
use Rattle.mip_links.specs.Nets.{lowest_of}
use Rattle.mip_rules_mobile.specs.Calls as mobiles
use Rattle.mip_rules_mobile.specs.Known.{Known}
use Rattle.mip_rules_mobile.specs.Steps.{Step, answers_of}
use Rattle.mip_rules_mobile.specs.Questions as mobile_questions
use Rattle.mip_rules_mobile.specs.Doing.{transition_of}
use Rattle.mip_history.specs.Setup.{Setup, Host}
use Rattle.mip_history.specs.Setup.Kind.{Mobile}
use Rattle.mip_history.specs.Runs.{Run, note, entered, without}
use Rattle.mip_history.specs.Questions.{asked_in}
use Rattle.mip_history.specs.Calls as calls
use Rattle.mip_history.specs.Calls.{Call, Take}
use Rattle.mip_history.specs.Knowing.{now_in, secrets_in, mobile_known_in}
use Rattle.mip_history.specs.Nodes.{by_host, acts}
use Rattle.mip_history.specs.Delivery.{handed_over, overheard_at, hears_there, held_by_outsider, is_no_holder, handed, became, arrival_link, arrived, delivered, carried_one, carried}
use Rattle.mip_history.specs.Permitted.{happens}
use Rattle.mip_history.proofs.Keeping.{keeps_overheard, keeps_gives_up}
use Rattle.mip_history.proofs.Changes.{Delivers, IsLeft, IsBy, Change, left, comes, injects, drops, squats, yields, acted, moved, reborn, gives, renewed, happens_keeps}
use Rattle.mip_history.proofs.Folds.{emptied_past}
use Rattle.mip_law_delivery.specs.StretchesLaws.{IsSingle}
use Rattle.mip_law_delivery.proofs.Delivering.{IsBeside, heard_beside, handed_beside, now_beside}
use Rattle.mip_law_security.specs.Tunnelled.{is_acceptance_of, IsOfAgent}
use Rattle.mip_law_security.proofs.Tunnelled.{is_accepted, accepts, accepted_of_agent}
use Rattle.mip_law_security.proofs.Accepted.{HandsOver, TellsNone, with_one, with_idle, same_past, claims_none, quiet_mild, answers_none, all_shown_none, acts_none}

-- a packet that comes to another link is read as it was, but for its hop limit
over_link : (bytes : List ℕ) (link : Option ℕ) (outer : Packet) → packet_of bytes ≡ Ok outer → (q : Packet) × (packet_of (handed_over bytes link) ≡ Ok q) × (q.head.source ≡ outer.head.source) × (q.head.proto ≡ outer.head.proto) × (q.body ≡ outer.body)
over_link bytes None outer read = (outer, read, refl, refl, refl)
over_link bytes (Some link) outer read = (lowered_packet outer, packet_of_lowered bytes ∙ ap lowered_if_read read, refl, refl, refl)

module _ (s : Setup) (n k : ℕ) (own : Address) (agent : Option Address) (host : slice_get s.hosts n ≡ Some (record { address = own; kind = Mobile agent })) (run : Run) where
  abbrev T : Run → Type 0
  T = TellsNone s n k run.past

  start : T run
  start = record { rest = []; whole = sym (append-nil run.past); none = refl }

  -- an event that does not deliver packet k
  module _ (event : Event) (other : Delivers event k → ⊥) where
    left_plain : (r : Run) (e : Entry) → IsLeft s event r e → is_accepted e ≡ false
    left_plain r (entries.Accepted node number home binding careof sequence end i j) is = absurd is
    left_plain r _ is = refl

    called : (r : Run) (x : ℕ) (call : Call) → IsBy s event r x call → HandsOver s n k call → ⊥
    called r x (Take number shield packet) is same = other (subst (Delivers event) same is.0)
    called r x _ is over = over

    change_none : (a b : Run) → Change s event a b → T a → T b
    change_none _ _ (left r e is) t = with_one s n k run.past e r (left_plain r e is) t
    change_none _ _ (comes r m wait early) t = with_one s n k run.past (entries.At (record { 0 = m })) r refl t
    change_none _ _ (injects r o link packet is) t =
        let e : Entry = entries.Injected (length r.posts) o link packet in
        same_past s n k run.past (note e r) (entered (record { from = link.0; shield = None; packet = packet }) (note e r)) refl (with_one s n k run.past e r refl t)
    change_none _ _ (drops r j) t = same_past s n k run.past r (without j r) refl t
    change_none _ _ (squats r o address so) t = claims_none s n k run.past (holder_outside o) address r t
    change_none _ _ (yields r o address so) t = keeps_gives_up s T (with_idle s n k run.past) (holder_outside o) address r t
    change_none _ _ (acted r x call is) t = acts_none s n k run.past own agent host x call r (λ same. called r x call is) t
    change_none _ _ (moved r node link so is) t =
        with_one s n k run.past (entries.Moved node link) (acts s node.0 calls.Leave r) refl (acts_none s n k run.past own agent host node.0 calls.Leave r (λ same over. over) t)
    change_none _ _ (reborn r node so is) t = with_one s n k run.past (entries.Restarted node) _ refl (same_past s n k run.past r _ (emptied_past s node.0 r) t)
    change_none _ _ (gives r node address so is) t = keeps_gives_up s T (with_idle s n k run.past) node.0 address r t
    change_none _ _ (renewed r node secrets so is life) t =
        acts_none s n k run.past own agent host node.0 (calls.Restart secrets) (note (entries.Restarted node) r) (λ same over. over) (with_one s n k run.past (entries.Restarted node) r refl t)

    event_none : T (happens s run event)
    event_none = happens_keeps s T run event change_none start

  -- packet k is delivered
  module _ (post : Post) (posted : slice_get run.posts k ≡ Some post) (outer : Packet) (read : packet_of post.packet ≡ Ok outer) (tunnel : outer.head.proto ≡ 41) where
    abbrev Right : Type 0
    Right = IsOfAgent (mobile_known_in s run n own agent) (now_in s run) post.shield outer

    abbrev known_of : Run → Known
    known_of r = mobile_known_in s r n own agent

    -- the mobile is handed it
    taken : (r : Run) → IsBeside run r → (link : Option ℕ) → T r → T (acts s n (Take k post.shield (handed_over post.packet link)) r) ⊎ Right
    taken r beside link t = by (list_any accepts (transition_of (known_of r) (now_in s r) (mobiles.Take k post.shield (handed_over post.packet link))).steps) refl
      where
        q : (p : Packet) × (packet_of (handed_over post.packet link) ≡ Ok p) × (p.head.source ≡ outer.head.source) × (p.head.proto ≡ outer.head.proto) × (p.body ≡ outer.body)
        q = over_link post.packet link outer read

        same_known : known_of r ≡ known_of run
        same_known = ap (λ (l : List (List (Stamped Step))). mobile_questions.known own agent s.numbers (secrets_in s n 0) (slice_index_or l n [])) beside.mobiles

        of_agent : IsOfAgent (known_of r) (now_in s r) post.shield q.0 → Right
        of_agent x =
            subst (λ (now : ℕ). IsOfAgent (known_of run) now post.shield outer) (now_beside s run r beside)
            (subst (λ (kn : Known). IsOfAgent kn (now_in s r) post.shield outer) same_known
            (record {
              agent = x.agent;
              of = x.of;
              from = ap (λ (a : Address). a.0) (sym q.2) ∙ x.from;
              shielded = x.shielded;
              packet = x.packet;
              inside = ap packet_of (sym q.4) ∙ x.inside;
              mobility = x.mobility;
            }))

        by : (b : Bool) → list_any accepts (transition_of (known_of r) (now_in s r) (mobiles.Take k post.shield (handed_over post.packet link))).steps ≡ b → T (acts s n (Take k post.shield (handed_over post.packet link)) r) ⊎ Right
        by true so = inr (of_agent (accepted_of_agent (known_of r) (now_in s r) k post.shield (handed_over post.packet link) q.0 q.1 (q.3 ∙ tunnel) so))
        by false quiet =
            inl (subst (λ (o : Option Host). T (by_host s n (Take k post.shield (handed_over post.packet link)) r o)) (sym host)
            (answers_none s n k run.past n _ _ _
            (quiet_mild s n k n (answers_of (transition_of (known_of r) (now_in s r) (mobiles.Take k post.shield (handed_over post.packet link))).steps)
            (all_shown_none (transition_of (known_of r) (now_in s r) (mobiles.Take k post.shield (handed_over post.packet link))).steps quiet))
            (same_past s n k run.past r _ refl t)))

    module _ (keep : Bool) where
      abbrev from : Run
      from = if keep then run else without k run

      from_none : (b : Bool) → T (if b then run else without k run)
      from_none true = start
      from_none false = same_past s n k run.past run (without k run) refl start

      heard_none : (link : Option ℕ) → T (overheard_at s post k link (if keep then run else without k run))
      heard_none None = from_none keep
      heard_none (Some link) = keeps_overheard s T (with_idle s n k run.past) link post.shield None k (if keep then run else without k run) (from_none keep)

      node_none : (x : ℕ) (link : Option ℕ) → T (handed s k post x link (overheard_at s post k link (if keep then run else without k run))) ⊎ Right
      unfolding handed
      node_none x link = by (cases_eq n x)
        where
          heard : Run
          heard = overheard_at s post k link (if keep then run else without k run)

          told : (y : ℕ) → T (note (entries.Handed k (node_id y)) (overheard_at s post k link (if keep then run else without k run)))
          told y = with_one s n k run.past (entries.Handed k (node_id y)) (overheard_at s post k link (if keep then run else without k run)) refl (heard_none link)

          mine : T (acts s n (Take k post.shield (handed_over post.packet link)) (note (entries.Handed k (node_id n)) (overheard_at s post k link (if keep then run else without k run)))) ⊎ Right
          mine = taken (note (entries.Handed k (node_id n)) (overheard_at s post k link (if keep then run else without k run)))
              (handed_beside k n run (overheard_at s post k link (if keep then run else without k run)) (heard_beside s post k link keep run)) link (told n)

          by : (n ≡ x) ⊎ (n ≢ x) → T (acts s x (Take k post.shield (handed_over post.packet link)) (note (entries.Handed k (node_id x)) (overheard_at s post k link (if keep then run else without k run)))) ⊎ Right
          by (inl same) =
              subst (λ (y : ℕ). T (acts s y (Take k post.shield (handed_over post.packet link)) (note (entries.Handed k (node_id y)) (overheard_at s post k link (if keep then run else without k run)))) ⊎ Right) same mine
          by (inr apart) =
              inl (acts_none s n k run.past own agent host x (Take k post.shield (handed_over post.packet link))
              (note (entries.Handed k (node_id x)) (overheard_at s post k link (if keep then run else without k run))) (λ same over. apart same) (told x))

      outside_none : (o : ℕ) (link : Option ℕ) → T (held_by_outsider (overheard_at s post k link (if keep then run else without k run)) k o link)
      outside_none o link = by (hears_there (overheard_at s post k link (if keep then run else without k run)) o link)
        where
          by : (b : Bool) → T (if b then overheard_at s post k link (if keep then run else without k run) else note (entries.Heard k o) (overheard_at s post k link (if keep then run else without k run)))
          by true = heard_none link
          by false = with_one s n k run.past (entries.Heard k o) (overheard_at s post k link (if keep then run else without k run)) refl (heard_none link)

      gone_none : (why : Why) (link : Option ℕ) → T (note (entries.Gone k why) (if is_no_holder why then overheard_at s post k link (if keep then run else without k run) else (if keep then run else without k run)))
      gone_none why link = by (is_no_holder why)
        where
          by : (b : Bool) → T (note (entries.Gone k why) (if b then overheard_at s post k link (if keep then run else without k run) else (if keep then run else without k run)))
          by true = with_one s n k run.past (entries.Gone k why) (overheard_at s post k link (if keep then run else without k run)) refl (heard_none link)
          by false = with_one s n k run.past (entries.Gone k why) (if keep then run else without k run) refl (from_none keep)

      became_none : (link : Option ℕ) (fate : Fate) → T (became s k post link (if keep then run else without k run) fate) ⊎ Right
      became_none link Idle = inl (with_one s n k run.past entries.Idle (if keep then run else without k run) refl (from_none keep))
      became_none link (Gone why) = inl (gone_none why link)
      became_none link (Outsider by) = inl (outside_none (outsider_of by) link)
      became_none link (Node x) = node_none x link

      delivered_none : T (delivered s run k keep) ⊎ Right
      unfolding delivered
      delivered_none = by (slice_index_or run.flying k false)
        where
          at : (o : Option Post) → (let x : Option Post = Some post in o ≡ x) ⊎ (o ≡ None) → T (arrived s k (if keep then run else without k run) o) ⊎ Right
          at o (inl is) =
              subst (λ (x : Option Post). T (arrived s k (if keep then run else without k run) x) ⊎ Right) (sym is)
              (became_none (arrival_link s post) (delivery (asked_in s (let r : Run = (if keep then run else without k run) in r.past)) (Some post)))
          at o (inr is) =
              subst (λ (x : Option Post). T (arrived s k (if keep then run else without k run) x) ⊎ Right) (sym is)
              (inl (with_one s n k run.past entries.Idle (if keep then run else without k run) refl (from_none keep)))

          by : (b : Bool) → T (arrived s k (if keep then run else without k run) (if b then slice_get run.posts k else None)) ⊎ Right
          by true = at (slice_get run.posts k) (inl posted)
          by false = at None (inr refl)

    -- so an event that leaves such an acceptance
    abbrev Told : Run → Type 0
    Told next = list_any (is_acceptance_of n k) (drop (length run.past) next.past) ≡ true

    finish : (next : Run) → T next → Told next → Right
    finish next t told = absurd (both (list_any (is_acceptance_of n k) (drop (length run.past) next.past)) told
        (ap (λ (l : List Entry). list_any (is_acceptance_of n k) (drop (length run.past) l)) t.whole ∙ ap (list_any (is_acceptance_of n k)) (drop_at run.past t.rest (length run.past) refl) ∙ t.none))
      where
        both : (b : Bool) → b ≡ true → b ≡ false → ⊥
        both true is isnt = absurd cc
        both false is isnt = absurd cc

    settle : (keep : Bool) → Told (delivered s run k keep) → Right
    settle keep told = by (delivered_none keep)
      where
        by : T (delivered s run k keep) ⊎ Right → Right
        by (inl t) = finish (delivered s run k keep) t told
        by (inr right) = right

    delivering : (j : ℕ) (keep : Bool) → T (delivered s run j keep) ⊎ (j ≡ k) → Told (delivered s run j keep) → Right
    delivering j keep (inl t) told = finish (delivered s run j keep) t told
    delivering j keep (inr same) told = settle keep (subst (λ (i : ℕ). Told (delivered s run i keep)) same told)

    once : (j : ℕ) → T (delivered s run j false) ⊎ (j ≡ k)
    once j = by (cases_eq j k)
      where
        by : (j ≡ k) ⊎ (j ≢ k) → T (delivered s run j false) ⊎ (j ≡ k)
        by (inl same) = inr same
        by (inr apart) = inl (event_none (Deliver j) apart)

    again : (j : ℕ) → T (delivered s run j true) ⊎ (j ≡ k)
    again j = by (cases_eq j k)
      where
        by : (j ≡ k) ⊎ (j ≢ k) → T (delivered s run j true) ⊎ (j ≡ k)
        by (inl same) = inr same
        by (inr apart) = inl (event_none (Repeat j) apart)

    carrying : (o : Option ℕ) → Told (carried_one s run o) → Right
    carrying None told = finish run start told
    carrying (Some j) told = delivering j false (once j) told

    one_carried : Told (carried s run 1) → Right
    unfolding carried
    one_carried told = carrying (lowest_of run.flying) told

    pub event_of_agent : (event : Event) → IsSingle event → Told (happens s run event) → Right
    event_of_agent (Deliver j) single told = delivering j false (once j) told
    event_of_agent (Repeat j) single told = delivering j true (again j) told
    event_of_agent (Carry count) single told = one_carried (subst (λ (c : ℕ). Told (carried s run c)) single told)
    event_of_agent event single told = finish (happens s run event) (event_none event (λ delivers. delivers)) told
