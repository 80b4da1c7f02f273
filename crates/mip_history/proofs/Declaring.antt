-- Whatever happens in a run leaves entries of what is declared: claims, packets, what nodes do.
use Rattle.std.proofs.Common.{◌≡◌, ℕ, zero, suc, ◌+◌, ◌<◌, ◌≤◌, List, [], ◌∷◌, Bool, true, false, length, inl, inr, refl, ◌∙◌, arith}
use Rattle.std.specs.Prelude.{fold, map, Option, Some, None, unwrap_or, is_some, not, ◌==◌, ◌&&◌, nat_lt, if◌then◌else◌, slice_get}
use Rattle.std.specs.List.{AllByRecursion}
use Rattle.std.proofs.lemmas.Bool.{cond_both}
use Rattle.std.proofs.lemmas.Bool.Decides.{nat_tests}
use Rattle.std.proofs.lemmas.Option.{slice_get_within}
use Rattle.mip_words.specs.declared.address.Address.{Address}
use Rattle.mip_words.specs.declared.shield.Shield.{Shield}
use Rattle.mip_words.specs.declared.why.Why.TheVariants.{Shield as NotForIt}
use Rattle.mip_words.specs.Last.{or_else}
use Rattle.mip_entries.specs.declared.answer.Answer.{Answer}
use Rattle.mip_entries.specs.declared.answer.Answer.TheVariants.{Send, Note}
use Rattle.mip_entries.specs.declared.entry.Entry.{Entry}
use Rattle.mip_entries.specs.declared.entry.Entry.TheVariants as entries
use Rattle.mip_entries.specs.Completed.{node_id, named}
use Rattle.mip_entries.specs.Reasons.{is_gone_why}
use Rattle.mip_provenance.specs.declared.accepted_update.AcceptedUpdate.{AcceptedUpdate}
use Rattle.mip_provenance.specs.declared.mark.Mark.{Mark}
use Rattle.mip_provenance.specs.declared.mark.Mark.TheVariants as marks
use Rattle.mip_provenance.specs.Entries.{update_accepted, mark_entry}
use Rattle.mip_provenance.specs.Marks.{mark_in}
use Rattle.mip_rules_correspondent.specs.Steps as correspondents
use Rattle.mip_rules_correspondent.specs.Calls as correspondent_calls
use Rattle.mip_rules_correspondent.specs.Doing as correspondent_doing
use Rattle.mip_rules_correspondent.proofs.Answers as correspondent_answers
use Rattle.mip_rules_agent.specs.Steps as agents
use Rattle.mip_rules_agent.specs.Calls as agent_calls
use Rattle.mip_rules_agent.specs.Doing as agent_doing
use Rattle.mip_rules_agent.proofs.Answers as agent_answers
use Rattle.mip_rules_mobile.specs.Steps as mobiles
use Rattle.mip_rules_mobile.specs.Calls as mobile_calls
use Rattle.mip_rules_mobile.specs.Doing as mobile_doing
use Rattle.mip_schedule.specs.Lawful.{IsLink, IsNode}
use Rattle.mip_symbols.specs.Places.{members}
use Rattle.mip_symbols.specs.declared.declaration.Declaration.{Declaration}
use Rattle.mip_symbols.specs.declared.places.Sort.TheVariants as sorts
use Rattle.mip_links.specs.Table.{Fate, Post, Asked, link_from, link_of, is_node, is_address, held_by, at_holder, at_link, delivery, outsider_of, destination_in}
use Rattle.mip_links.specs.Nets.{is_held_by}
use Rattle.mip_links.specs.Table.Fate.{Idle, Gone, Outsider, Node}
use Rattle.mip_ipv6.specs.Tunnel.{hop_of}
use Rattle.mip_history.specs.Setup.{Setup, Host, Kind}
use Rattle.mip_history.specs.Setup.Kind.{Correspondent, Agent, Mobile}
use Rattle.mip_history.specs.Runs.{Run, note, notes, entered}
use Rattle.mip_history.specs.Questions.{holder_says, holder_in, hears_in, asked_in}
use Rattle.mip_history.specs.Calls.{Call, for_correspondent, for_agent, for_mobile}
use Rattle.mip_history.specs.Knowing.{link_or_first, now_in, identity_in, known_in, agent_of, agent_known_in, mobile_known_in, stands_on, around_in}
use Rattle.mip_history.specs.Claims.{link_id, claim_entry, claimed_on, claims}
use Rattle.mip_history.specs.Homes.{lives_at, first_below, resident, passes_to, left_on, given_up_on, gives_up}
use Rattle.mip_history.specs.Posting.{heards, is_other, overheard, posted}
use Rattle.mip_history.specs.Nodes.{marks_of, marked, left_by, answered_one, answered, asks, by_kind, by_host, acts}
use Rattle.mip_history.specs.Naming.{IsWho, IsDeclared}
use Rattle.mip_history.proofs.Reasons.{HasReason, HasReasons, part_reasons, agent_reasons, mobile_reasons, all_append, HasCause, mark_cause}

-- a setup has what these declarations say: so many links, nodes and outsiders, no more nodes than there may be, and a link where
-- there is a node
pub record IsOf (ds : List Declaration) (s : Setup) : Type 0 where
  pub links : length (members sorts.Link ds) ≡ length s.links
  pub nodes : length (members sorts.Node ds) ≡ length s.hosts
  pub outsiders : length (members sorts.Outsider ds) ≡ s.outsiders
  pub few : length s.hosts ≤ 32
  pub linked : 0 < length s.hosts → 0 < length s.links

-- a link that is found
link_within : (n : ℕ) (links : List ℕ) (prefix l : ℕ) → link_from n links prefix ≡ Some l → l < n + length links
link_within n [] prefix l = λ e. absurd cc
link_within n (p ∷ links) prefix l =
    cond_both (p == prefix) _ _ (λ (o : Option ℕ). o ≡ Some l → l < n + suc (length links)) (λ here e. let same : n ≡ l = cc in omega arith) (λ other e.
    let more = link_within (suc n) links prefix l e in omega arith)

module _ (ds : List Declaration) (s : Setup) (of : IsOf ds s) where
  -- the entries so far are of what is declared
  abbrev pub P : Run → Type 0
  P run = AllByRecursion (IsDeclared ds) run.past

  pub d-notes : (es : List Entry) (run : Run) → AllByRecursion (IsDeclared ds) es → P run → P (notes es run)
  d-notes es run all p = all_append (IsDeclared ds) run.past es p all

  pub d-note : (e : Entry) (run : Run) → IsDeclared ds e → P run → P (note e run)
  d-note e run is p = d-notes (e ∷ []) run (is, tt) p

  pub d-idle : (run : Run) → P run → P (note entries.Idle run)
  d-idle run p = d-note entries.Idle run tt p

  pub link_is : (address l : ℕ) → link_of s.links address ≡ Some l → IsLink ds (link_id l)
  link_is address l e = let within = link_within 0 s.links _ l e in omega (arith, of.links, within)

  pub node_is : (n : ℕ) → n < length s.hosts → IsNode ds (node_id n)
  node_is n within = omega (arith, of.nodes, within)

  -- who holds an address
  abbrev IfWho : Option ℕ → Type 0
  IfWho None = Unit {0}
  IfWho (Some who) = IsWho ds who

  says_who : (address : ℕ) (o : Option ℕ) (e : Entry) → IsDeclared ds e → IfWho o → IfWho (unwrap_or (holder_says address e) o)
  says_who address o (entries.Claimed who link claimed) is h = by (address == claimed.0)
    where
      by : (b : Bool) → IfWho (unwrap_or (if b then Some (Some who) else None) o)
      by true = is.0
      by false = h
  says_who address o (entries.Released who link released) is h = by (address == released.0)
    where
      by : (b : Bool) → IfWho (unwrap_or (if b then Some None else None) o)
      by true = tt
      by false = h
  says_who address o _ is h = h

  fold_who : (address : ℕ) (o : Option ℕ) (es : List Entry) → AllByRecursion (IsDeclared ds) es → IfWho o → IfWho (fold (λ x e. unwrap_or (holder_says address e) x) o es)
  fold_who address o [] all h = h
  fold_who address o (e ∷ es) all h = fold_who address (unwrap_or (holder_says address e) o) es all.1 (says_who address o e all.0 h)

  pub holder_is : (run : Run) (address : ℕ) → P run → IfWho (holder_in run.past address)
  holder_is run address p = fold_who address None run.past p tt

  -- somebody claims an address, or gives it up
  pub d-claims : (who : ℕ) (address : Address) (run : Run) → IsWho ds who → P run → P (claims s who address run)
  d-claims who address run is p = by (link_of s.links address.0) refl
    where
      entry_is : (link : ℕ) → IsLink ds (link_id link) → (o : Option ℕ) → IfWho o → IsDeclared ds (claim_entry who address link o)
      entry_is link there None h = (is, there)
      entry_is link there (Some other) h =
          cond_both (other == who) (entries.Claimed who (link_id link) address) (entries.Taken who (link_id link) address other) (IsDeclared ds) (λ same. (is, there)) (λ apart. (is, there, h))

      by : (o : Option ℕ) → link_of s.links address.0 ≡ o → P (claimed_on who address run o)
      by None e = d-idle run p
      by (Some link) e = d-note (claim_entry who address link (holder_in run.past address.0)) run (entry_is link (link_is address.0 link e) (holder_in run.past address.0) (holder_is run address.0 p)) p

  below_is : (is : ℕ → Bool) (n m : ℕ) → first_below is n ≡ Some m → m < n
  below_is is zero m e = absurd cc
  below_is is (suc n) m e = by (first_below is n) refl (below_is is n) e
    where
      here : (b : Bool) → (if b then Some n else None) ≡ Some m → m < suc n
      here true e = let same : n ≡ m = cc in omega arith
      here false e = absurd cc

      by : (o : Option ℕ) → first_below is n ≡ o → ((k : ℕ) → first_below is n ≡ Some k → k < n) → or_else o (if is n then Some n else None) ≡ Some m → m < suc n
      by None none before e = here (is n) e
      by (Some k) found before e = let less = before m (found ∙ e) in omega arith

  pub d-gives_up : (who : ℕ) (address : Address) (run : Run) → IsWho ds who → P run → P (gives_up s who address run)
  d-gives_up who address run is p = by (link_of s.links address.0) refl
    where
      passes : (link : ℕ) → IsLink ds (link_id link) → (r : Run) → P r → (o : Option ℕ) → resident s run address.0 ≡ o → P (passes_to who address link r o)
      passes link there r q None e = q
      passes link there r q (Some m) e =
          cond_both (m == who) r (note (entries.Claimed m (link_id link) address) r) P (λ same. q)
          (λ apart. d-note (entries.Claimed m (link_id link) address) r (inl (node_is m (below_is (lives_at s run address.0) (length s.hosts) m e)), there) q)

      left : (link : ℕ) → IsLink ds (link_id link) → P (left_on s who address link run)
      left link there =
          passes link there (note (entries.Released who (link_id link) address) run) (d-note (entries.Released who (link_id link) address) run (is, there) p) (resident s run address.0) refl

      by : (o : Option ℕ) → link_of s.links address.0 ≡ o → P (given_up_on s who address run o)
      by None e = d-idle run p
      by (Some link) e =
          cond_both (is_held_by (holder_in run.past address.0) who) _ _ P (λ held. left link (link_is address.0 link e)) (λ other. d-idle run p)

  -- outsiders hear
  heards_are : (hears : ℕ → Bool) (k o : ℕ) → o ≤ s.outsiders → AllByRecursion (IsDeclared ds) (heards hears k o)
  heards_are hears k zero within = tt
  heards_are hears k (suc o) within =
      all_append (IsDeclared ds) (heards hears k o) (if hears o then entries.Heard k o ∷ [] else []) (heards_are hears k o (omega (arith, within)))
      (cond_both (hears o) (entries.Heard k o ∷ []) [] (AllByRecursion (IsDeclared ds)) (λ yes. (omega (arith, within, of.outsiders), tt)) (λ no. tt))

  pub d-overheard : (link : ℕ) (shield : Option Shield) (by : Option ℕ) (k : ℕ) (run : Run) → P run → P (overheard s link shield by k run)
  d-overheard link shield by k run p =
      let hears : ℕ → Bool = λ o. is_other by o && hears_in run.past o link in
      cond_both (is_some shield) run (notes (heards hears k s.outsiders) run) P (λ shielded. p) (λ bare. d-notes (heards hears k s.outsiders) run (heards_are hears k s.outsiders (omega arith)) p)

  pub d-posted : (post : Post) (by : Option ℕ) (e : Entry) (run : Run) → IsDeclared ds e → P run → P (posted s post by e run)
  d-posted post by e run is p = d-overheard post.from post.shield by (length run.posts) (entered post (note e run)) (d-note e run is p)

  -- an entry of a node
  mark_is : (m : Mark) → HasCause m → IsDeclared ds (mark_entry m)
  mark_is (marks.Origin hot cot update) cause = tt
  mark_is (marks.Forged why) cause = cause

  marks_are : (past : List Entry) (o : Option AcceptedUpdate) → AllByRecursion (IsDeclared ds) (marks_of past o)
  marks_are past None = tt
  marks_are past (Some a) = (mark_is (mark_in past a) (mark_cause past a), tt)

  d-marked : (e : Entry) (run : Run) → IsDeclared ds e → P run → P (marked e run)
  d-marked e run is p = d-notes (e ∷ marks_of run.past (update_accepted e)) run (is, marks_are run.past (update_accepted e)) p

  -- one that is no claim
  abbrev IsPlain : Entry → Type 0
  IsPlain (entries.Claimed who link address) = ⊥
  IsPlain (entries.Taken who link address holder) = ⊥
  IsPlain (entries.Released who link address) = ⊥
  IsPlain _ = Unit {0}

  named_is : (n k : ℕ) (e : Entry) → n < length s.hosts → IsPlain e → HasReason e → IsDeclared ds (named n 0 k e)
  named_is n k (entries.Claimed who on address) within plain reason = absurd plain
  named_is n k (entries.Released who on address) within plain reason = absurd plain
  named_is n k (entries.Taken who on address holder) within plain reason = absurd plain
  named_is n k (entries.Unsent node why) within plain reason = (node_is n within, reason)
  named_is n k (entries.Dropped node number why) within plain reason = (node_is n within, reason)
  named_is n k (entries.At a) within plain reason = tt
  named_is n k (entries.Moved a b) within plain reason = tt
  named_is n k (entries.Advertised a b c) within plain reason = tt
  named_is n k (entries.Listening a b) within plain reason = tt
  named_is n k (entries.Deafened a b) within plain reason = tt
  named_is n k (entries.Sent a b c d) within plain reason = tt
  named_is n k (entries.Injected a b c d) within plain reason = tt
  named_is n k (entries.Heard a b) within plain reason = tt
  named_is n k (entries.Handed a b) within plain reason = tt
  named_is n k (entries.Gone a b) within plain reason = tt
  named_is n k (entries.Lost a) within plain reason = tt
  named_is n k entries.Idle within plain reason = tt
  named_is n k (entries.Origin a b c) within plain reason = tt
  named_is n k (entries.Forged a) within plain reason = tt
  named_is n k (entries.Settled a b c) within plain reason = tt
  named_is n k _ within plain reason = node_is n within

  d-left : (n : ℕ) (run : Run) (e : Entry) → n < length s.hosts → HasReason e → P run → P (left_by s n run e)
  d-left n run (entries.Claimed who link address) within reason p = d-claims n address run (inl (node_is n within)) p
  d-left n run (entries.Taken who link address holder) within reason p = d-claims n address run (inl (node_is n within)) p
  d-left n run (entries.Released who link address) within reason p = d-gives_up n address run (inl (node_is n within)) p
  d-left n run (entries.Restarted node) within reason p = p
  d-left n run e within reason p = d-marked (named n 0 (length run.posts) e) run (named_is n (length run.posts) e within tt reason) p

  pub d-answered : (n from : ℕ) (run : Run) (answers : List Answer) → n < length s.hosts → AllByRecursion HasReasons answers → P run → P (answered s n from run answers)
  unfolding answered
  d-answered n from run [] within all p = p
  d-answered n from run (Send shield packet ∷ answers) within all p =
      let next : Run = answered_one s n from run (Send shield packet) in
      d-answered n from next answers within all.1
      (d-posted (record { from = from; shield = shield; packet = packet }) None (entries.Sent (length run.posts) (node_id n) (is_some shield) packet) run (node_is n within) p)
  d-answered n from run (Note e ∷ answers) within all p = d-answered n from (left_by s n run e) answers within all.1 (d-left n run e within all.0 p)

  -- a call
  d-asks : {C : Type 0} (does : C → Run → Run) (call : Option C) (run : Run) → P run → ((c : C) → P (does c run)) → P (asks does call run)
  d-asks does None run p go = d-idle run p
  d-asks does (Some call) run p go = go call

  d-by_kind : (n : ℕ) (own : Address) (call : Call) (run : Run) → n < length s.hosts → P run → (kind : Kind) → P (by_kind s n own call run kind)
  d-by_kind n own call run within p (Correspondent room) =
      d-asks _ (for_correspondent call) run p
      (λ (c : correspondent_calls.Call).
      let t = correspondent_doing.transition_of (identity_in s run n own room) (known_in s run n room) (now_in s run) c in
      d-answered n (link_or_first s own.0) _ (correspondents.answers_of t.steps) within
      (part_reasons (correspondents.answers_of t.steps) (correspondent_answers.call-whole (identity_in s run n own room) (known_in s run n room) (now_in s run) c)) p)
  d-by_kind n own call run within p (Agent preference life room serves) =
      d-asks _ (for_agent (around_in run n None) call) run p
      (λ (c : agent_calls.Call).
      let t = agent_doing.transition_of (agent_of own preference life room) (agent_known_in run n serves) (now_in s run) c in
      d-answered n (link_or_first s own.0) _ (agents.answers_of t.steps) within
      (agent_reasons (agents.answers_of t.steps) (agent_answers.call-whole (agent_of own preference life room) (agent_known_in run n serves) (now_in s run) c)) p)
  d-by_kind n own call run within p (Mobile agent) =
      d-asks _ (for_mobile (around_in run n (Some own.0)) own call) run p
      (λ (c : mobile_calls.Call).
      let k = mobile_known_in s run n own agent in
      d-answered n (unwrap_or (stands_on s run n own) 0) _ (mobiles.answers_of (let t = mobile_doing.transition_of k (now_in s run) c in t.steps)) within (mobile_reasons k (now_in s run) c) p)

  pub d-acts : (n : ℕ) (call : Call) (run : Run) → P run → P (acts s n call run)
  d-acts n call run p = by (slice_get s.hosts n) refl
    where
      by : (o : Option Host) → slice_get s.hosts n ≡ o → P (by_host s n call run o)
      by None e = d-idle run p
      by (Some host) e = d-by_kind n host.address call run (slice_get_within s.hosts n host e) p host.kind

  -- where a packet goes
  abbrev pub IsRight : Fate → Type 0
  IsRight Idle = Unit {0}
  IsRight (Gone why) = is_gone_why why ≡ true
  IsRight (Outsider by) = outsider_of by < s.outsiders
  IsRight (Node by) = by < length s.hosts

  who_node : (by : ℕ) → IsWho ds by → nat_lt by 32 ≡ true → by < length s.hosts
  who_node by (inl node) small = omega (arith, of.nodes, node)
  who_node by (inr (o, within, same)) small = absurd (let less : by < 32 = grind (arith, nat_tests, small) in omega (arith, same, less))

  who_outsider : (by : ℕ) → IsWho ds by → nat_lt by 32 ≡ false → outsider_of by < s.outsiders
  who_outsider by (inl node) big = absurd (let more : 32 ≤ by = grind (arith, nat_tests, big) in omega (arith, of.nodes, of.few, node, more))
  who_outsider by (inr (o, within, same)) big = omega (arith, of.outsiders, within, same)

  held_right : (shield : Option Shield) (by : ℕ) (declared : Option Address) → IsWho ds by → IsRight (held_by shield by declared)
  held_right None by declared is = cond_both (is_node by) (Node by) (Outsider by) IsRight (λ node. who_node by is node) (λ other. who_outsider by is other)
  held_right (Some shield) by declared is = split (is_node by) refl
    where
      inner : (b : Bool) → is_node by ≡ true → IsRight (if b then Node by else Gone NotForIt)
      inner true node = who_node by is node
      inner false node = refl

      split : (b : Bool) → is_node by ≡ b → IsRight (if b && is_address declared shield.to then Node by else Gone NotForIt)
      split true node = inner (is_address declared shield.to) node
      split false node = refl

  pub delivery_right : (run : Run) (o : Option Post) → P run → IsRight (delivery (asked_in s run.past) o)
  delivery_right run None p = tt
  delivery_right run (Some post) p = by (link_of s.links (destination_in post.packet))
    where
      q : Asked
      q = asked_in s run.past

      at : (o : Option ℕ) → IfWho o → IsRight (at_holder q post.shield o)
      at None is = refl
      at (Some who) is = held_right post.shield who (q.declared who) is

      by : (link : Option ℕ) → IsRight (at_link q post link)
      by None = refl
      by (Some link) =
          cond_both (not (link == post.from) && nat_lt (hop_of post.packet) 2) _ _ IsRight (λ used. refl)
          (λ fresh. at (holder_in run.past (destination_in post.packet)) (holder_is run (destination_in post.packet) p))

  -- rows that are shown
  pub all_map : {X : Type 0} (f : X → Entry) (xs : List X) → ((x : X) → IsDeclared ds (f x)) → AllByRecursion (IsDeclared ds) (map f xs)
  all_map f [] is = tt
  all_map f (x ∷ xs) is = (is x, all_map f xs is)
