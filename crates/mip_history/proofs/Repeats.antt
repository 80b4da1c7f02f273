-- An update is accepted again only where the sequences of its home have gone round since.
use Rattle.std.proofs.Common.{◌≡◌, ℕ, ◌+◌, ◌*◌, ◌<◌, ◌≤◌, List, [], ◌∷◌, ◌++◌, false, true, refl, sym, ap, ◌∙◌, subst, arith}
use Rattle.std.specs.Prelude.{fold, Option, Some}
use Rattle.std.specs.List.{list_any, sum_by, AllByRecursion}
use Rattle.std.proofs.lemmas.List.{append_assoc}
use Rattle.std.proofs.lemmas.List.Sums.{fold-append}
use Rattle.std.proofs.lemmas.List.Folds.{fold_stays}
use Rattle.mip_words.specs.Sequence.{is_after}
use Rattle.mip_words.specs.declared.address.Address.{Address}
use Rattle.mip_words.specs.declared.ids.NodeId.{NodeId}
use Rattle.mip_words.specs.EachAfter.{EachAfter}
use Rattle.mip_words.specs.Last.{or_else}
use Rattle.mip_ipv6.specs.Packet.{Packet}
use Rattle.mip_mobhdr.specs.declared.indices.Indices.{Indices}
use Rattle.mip_reception.specs.Says.{UpdateIdentity, carried, says}
use Rattle.mip_reception.specs.Says.Carried.{Update}
use Rattle.mip_reception.proofs.Sayings.{carried_plain, carried_opened}
use Rattle.mip_history.specs.Bound.{Itself, Within}
use Rattle.mip_rules_mobile.proofs.Checks.{opened-reads}
use Rattle.mip_binding.specs.Held.{floor}
use Rattle.mip_bcache.specs.declared.accepted.Accepted.{Accepted}
use Rattle.mip_entries.specs.declared.entry.Entry.{Entry}
use Rattle.mip_entries.specs.Completed.{node_id}
use Rattle.mip_schedule.specs.Contents.{Content}
use Rattle.mip_rules_correspondent.specs.Soundness.{IsNonce}
use Rattle.mip_history.specs.Setup.{Setup, Kind, setup_of}
use Rattle.mip_history.specs.Setup.Kind.{Correspondent, Agent, Mobile}
use Rattle.mip_history.specs.Questions.{moment_in}
use Rattle.mip_history.specs.Permitted.{permitted}
use Rattle.mip_history.specs.Passing.{waited_by}
use Rattle.mip_history.specs.Bound.{accepted_by, packet_told, packet_in, accepted_entry, is_restart_of, IsReadBy, IsAccepted, HasAccepted}
use Rattle.mip_history.specs.Again.{CarriesUpdate, IsRepeat, advanced}
use Rattle.mip_history.proofs.Runs.{Meets}
use Rattle.mip_history.proofs.Bindings.{each_rest}
use Rattle.mip_history.proofs.Histories.{permitted_each, permitted_accepted, permitted_waited}
use Rattle.mip_history.proofs.Rounds.{last_in, gone_round}
use Rattle.mip_history.proofs.Moments.{IsNotBefore, rises_from, same_nonce}
use Rattle.mip_history.proofs.Kept.{last_stands}
use Rattle.mip_history.proofs.SameUpdates.{AsksSame, asks_same}

-- the earlier items meet what they should, too
each_front : {X : Type 0} (P : List X → X → Type 0) (front xs ys : List X) → EachAfter P front (xs ++ ys) → EachAfter P front xs
each_front P front [] ys each = tt
each_front P front (x ∷ xs) ys each = (each.0, each_front P (front ++ x ∷ []) xs ys each.1)

-- a packet that was posted stays the one of its number
packet_stays : (k : ℕ) (front es : List Entry) (bytes : List ℕ) → packet_in front k ≡ Some bytes → packet_in (front ++ es) k ≡ Some bytes
packet_stays k front es bytes posted =
    fold-append (λ (o : Option (List ℕ)) (e : Entry). or_else o (packet_told k e)) _ front es
    ∙ ap (λ (o : Option (List ℕ)). fold (λ (o : Option (List ℕ)) (e : Entry). or_else o (packet_told k e)) o es) posted
    ∙ fold_stays (λ (o : Option (List ℕ)) (e : Entry). or_else o (packet_told k e)) (Some bytes) (λ e. refl) es

-- what stands behind an acceptance, by its entry
record Stood (s : Setup) (past : List Entry) (n k : ℕ) (home : Address) (sequence : ℕ) : Type 0 where
  binding : ℕ
  accepted : Accepted
  of_sequence : accepted.sequence ≡ sequence
  stands : IsAccepted s past n k home binding accepted

stood : (s : Setup) (past : List Entry) (n k : ℕ) (home : Address) (binding : ℕ) (a : Accepted) → HasAccepted s past (accepted_entry n k home binding a) → Stood s past n k home a.sequence
stood s past n k home binding a has =
    let e = has.is in
    let nodes : node_id has.node ≡ node_id n = cc in
    record {
      binding = has.binding;
      accepted = has.accepted;
      of_sequence = cc;
      stands = moved (ap (λ (x : NodeId). x.0) nodes) (cc) (cc) has.stands;
    }
  where
    moved : {m l : ℕ} {h : Address} {b : ℕ} {x : Accepted} → m ≡ n → l ≡ k → h ≡ home → IsAccepted s past m l h b x → IsAccepted s past n k home b x
    moved {m} {l} {h} {b} {x} em el eh stands =
        subst (λ (y : Address). IsAccepted s past n k y b x) eh
        (subst (λ (y : ℕ). IsAccepted s past n y h b x) el
        (subst (λ (y : ℕ). IsAccepted s past y l h b x) em stands))

packet_is : (x y : List ℕ) → Some x ≡ Some y → x ≡ y
packet_is x y e = cc

-- the packet of an acceptance is the one that carries the update in the whole history
same_packet : (s : Setup) (front es : List Entry) (n k : ℕ) (home : Address) (binding : ℕ) (a : Accepted) (key : UpdateIdentity) (is : IsAccepted s front n k home binding a) (u : CarriesUpdate (front ++ es) k key) → u.packet ≡ is.bytes
same_packet s front es n k home binding a key is u = packet_is u.packet is.bytes (sym u.posted ∙ packet_stays k front es is.bytes is.posted)

-- what is read of a packet says what the packet carries
read_says : (kind : Kind) (past : List Entry) (k : ℕ) (bytes : List ℕ) (p : Packet) → p.head.proto ≡ 135 → IsReadBy kind past k bytes p → carried bytes ≡ says p
read_says (Correspondent room) past k bytes p mobility read = carried_plain bytes p read (λ t. omega (arith, mobility))
read_says (Agent preference life room serves) past k bytes p mobility read = absurd read
read_says (Mobile agent) past k bytes p mobility (Itself read) = carried_plain bytes p read (λ t. omega (arith, mobility))
read_says (Mobile agent) past k bytes p mobility (Within outer read opens shielded) =
    carried_opened bytes outer p outer.head.source read opens
    ∙ carried_plain outer.body p (opened-reads outer.head.source outer p opens) (λ t. omega (arith, mobility))

accepted_says : (s : Setup) (front es : List Entry) (n k : ℕ) (home : Address) (binding : ℕ) (a : Accepted) (key : UpdateIdentity) (is : IsAccepted s front n k home binding a) → CarriesUpdate (front ++ es) k key → says is.packet ≡ Update key
accepted_says s front es n k home binding a key is u =
    sym (read_says is.kind front k is.bytes is.packet is.mobility is.read)
    ∙ ap carried (sym (same_packet s front es n k home binding a key is u))
    ∙ u.says

module _ (c : Content) (short : sum_by waited_by c.events ≤ 36000000) (before between after : List Entry) (n k l : ℕ) (home : Address) (x y : ℕ) (a b : Accepted)
    (whole : permitted c ≡ before ++ accepted_entry n k home x a ∷ between ++ accepted_entry n l home y b ∷ after) (alive : list_any (is_restart_of n) between ≡ false) (again : IsRepeat (permitted c) k l) where
  abbrev s : Setup
  s = setup_of c

  abbrev middle : List Entry
  middle = before ++ accepted_entry n k home x a ∷ between

  abbrev later : List Entry
  later = accepted_entry n l home y b ∷ after

  abbrev since : List Entry
  since = between ++ later

  from_first : permitted c ≡ before ++ accepted_entry n k home x a ∷ since
  from_first = whole ∙ append_assoc before (accepted_entry n k home x a ∷ between) later

  first : Stood s before n k home a.sequence
  first = stood s before n k home x a (permitted_accepted c before (accepted_entry n k home x a) since from_first refl)

  second : Stood s middle n l home b.sequence
  second = stood s middle n l home y b (permitted_accepted c middle (accepted_entry n l home y b) after whole refl)

  carries_first : CarriesUpdate (before ++ accepted_entry n k home x a ∷ since) k again.key
  carries_first = subst (λ (p : List Entry). CarriesUpdate p k again.key) from_first again.first

  carries_second : CarriesUpdate (middle ++ later) l again.key
  carries_second = subst (λ (p : List Entry). CarriesUpdate p l again.key) whole again.second

  -- both ask the same
  same : AsksSame first.stands.registration second.stands.registration
  same =
      asks_same first.stands.packet second.stands.packet again.key
      (accepted_says s before (accepted_entry n k home x a ∷ since) n k home first.binding first.accepted again.key first.stands carries_first)
      (accepted_says s middle later n l home second.binding second.accepted again.key second.stands carries_second)
      first.stands.registration first.stands.asks second.stands.registration second.stands.asks

  -- the moments rise from the start to the end
  each : EachAfter (Meets s) [] (middle ++ later)
  each = subst (λ (p : List Entry). EachAfter (Meets s) [] p) whole (permitted_each c)

  each_middle : EachAfter (Meets s) [] middle
  each_middle = each_front (Meets s) [] middle later each

  rises : AllByRecursion (IsNotBefore (moment_in s.start before)) (accepted_entry n k home x a ∷ between) × (moment_in s.start before ≤ moment_in s.start middle)
  rises = rises_from s (moment_in s.start before) before (accepted_entry n k home x a ∷ between) (each_rest (Meets s) [] before (accepted_entry n k home x a ∷ between) each_middle) (omega arith)

  after_start : s.start ≤ moment_in s.start before
  after_start = (rises_from s s.start [] before (each_front (Meets s) [] before (accepted_entry n k home x a ∷ between) each_middle) (omega arith)).1

  before_end : moment_in s.start middle ≤ moment_in s.start (permitted c)
  before_end = subst (λ (p : List Entry). moment_in s.start middle ≤ moment_in s.start p) (sym whole)
      (rises_from s (moment_in s.start middle) middle later (each_rest (Meets s) [] middle later each) (omega arith)).1

  within : moment_in s.start middle ≤ moment_in s.start before + 36000000
  within = omega (arith, permitted_waited c, after_start, before_end, short)

  -- the nonce of the home token is one
  near : moment_in s.start middle < moment_in s.start before + 240000
  near =
      let f = first.stands.sound.genuine in
      let g = second.stands.sound.genuine in
      let named : Some f.indices ≡ Some g.indices = sym f.named ∙ same.nonces ∙ g.named in
      let one : f.indices ≡ g.indices = cc in
      same_nonce (moment_in s.start before) (moment_in s.start middle) f.indices.home first.accepted.home_nonce second.accepted.home_nonce
      f.home_nonce
      (subst (λ (i : Indices). IsNonce (moment_in s.start middle) i.home second.accepted.home_nonce) (sym one) g.home_nonce)
      rises.1 within

  kept : floor (accepted_by s.start middle n) home.0 (moment_in s.start middle) ≡ Some (last_in n home.0 a.sequence between)
  kept = last_stands s.start n k home x before between a (moment_in s.start middle) near alive rises.0.1

  sequence_is : second.stands.registration.sequence ≡ b.sequence
  sequence_is = sym second.stands.sound.of_sequence ∙ second.of_sequence

  pub permitted_repeats : (rounds : ℕ) × (0 < rounds) × (advanced n home.0 a.sequence (between ++ accepted_entry n l home y b ∷ []) ≡ rounds * 65536)
  permitted_repeats =
      gone_round n l home y a.sequence between b
      (sym sequence_is ∙ sym same.sequence ∙ sym first.stands.sound.of_sequence ∙ first.of_sequence)
      (subst (λ (q : ℕ). is_after q (last_in n home.0 a.sequence between) ≡ true) sequence_is (second.stands.sound.newer _ kept))
