-- Where the packets of a mobile leave from.
use Rattle.std.proofs.Common.{◌≡◌, ℕ, ◌+◌, ◌*◌, ◌^◌, List, [], ◌∷◌, ◌++◌, length, take, drop, Bool, true, false, refl, sym, ap, ◌∙◌, subst, arith, length-append}
use Rattle.std.specs.Prelude.{fold, Option, Some, None, is_some, unwrap_or, ◌==◌, if◌then◌else◌}
use Rattle.std.proofs.Math.Seq.{take-append_seam, drop-append_seam}
use Rattle.std.proofs.lemmas.Bool.{eqb-false, cond_both}
use Rattle.std.proofs.lemmas.List.{append_assoc}
use Rattle.mip_words.specs.Numbers.{number_bytes}
use Rattle.mip_words.specs.Addresses.{address_bytes}
use Rattle.mip_words.specs.declared.address.Address.{Address}
use Rattle.mip_words.proofs.Fields.{length-number_bytes}
use Rattle.mip_ipv6.specs.declared.head.Head.{Head}
use Rattle.mip_ipv6.specs.Packet.{Packet}
use Rattle.mip_ipv6.specs.Spelling.{behind_bytes, fixed_bytes, packet_bytes, first_number, second_number}
use Rattle.mip_mobhdr.specs.Said.{Said}
use Rattle.mip_reception.specs.Packets.{data_packet, message_packet}
use Rattle.mip_reception.specs.Authenticated.{authenticated_packet}
use Rattle.mip_ipv6.specs.Tunnel.{encapsulated}
use Rattle.mip_nonce.specs.Secrets.{Life}
use Rattle.mip_entries.specs.Stamped.{Stamped}
use Rattle.mip_rules_mobile.specs.declared.attachment.Attachment.{Attachment}
use Rattle.mip_rules_mobile.specs.declared.attachment.Attachment.TheVariants.{Detached, AtHome, Away}
use Rattle.mip_rules_mobile.specs.Calls.{Call}
use Rattle.mip_rules_mobile.specs.Sendings.{Sending, FromHome, ByTunnel, AsksCareof, RegistersHome, DeregistersHome, SendsData, Discovers, Solicits, PeerUpdate, inner_packet, registration_packet, deregistration_packet, data_head, discovery_packet, solicitation_packet, packet_of_sending, update_bytes, update_packet}
use Rattle.mip_rules_mobile.specs.Steps.{Step, Called, Parts, Notes, Sends, Unsends, Drops, Claims, Releases, FindsTaken, Arrives, Detaches}
use Rattle.mip_rules_mobile.specs.Known.{Known}
use Rattle.mip_rules_mobile.specs.HomeQuestions.{home_of, standing_at, standing_after}
use Rattle.mip_rules_mobile.specs.Questions.{after, fresh, known}
use Rattle.mip_rules_mobile.specs.TrialRules.{source_for}
use Rattle.mip_rules_mobile.specs.Doing.{transition_of}
use Rattle.mip_rules_mobile.specs.Fitting.{IsSentBy, IsUpdateOf}
use Rattle.mip_rules_mobile.specs.Answering.{EachAnswer, source_bytes, LeavesFrom, LeavesRight, IsApart, IsElsewhere}
use Rattle.mip_rules_mobile.proofs.Fits.{call-fits}
use Rattle.mip_rules_mobile.proofs.Answers.{each-answer}
use Rattle.mip_rules_mobile.proofs.Told.{home-kept}

-- the source stands behind the first eight bytes
source-at : (front source rest : List ℕ) → length front ≡ 8 → length source ≡ 16 → source_bytes (front ++ (source ++ rest)) ≡ source
source-at front source rest eight sixteen =
    ap (take 16) (ap (λ (n : ℕ). drop n (front ++ (source ++ rest))) (sym eight) ∙ drop-append_seam front (source ++ rest))
    ∙ ap (λ (n : ℕ). take n (source ++ rest)) (sym sixteen)
    ∙ take-append_seam source rest

packet-source : (p : Packet) → source_bytes (packet_bytes p) ≡ address_bytes p.head.source
unfolding packet_bytes fixed_bytes
packet-source p =
    let word : List ℕ = number_bytes 4 (6 * 2 ^ 28 + p.head.class * 2 ^ 20 + p.head.flow) in
    let size : List ℕ = number_bytes 2 (length (behind_bytes p)) in
    let next : ℕ = first_number p.head.route (second_number p.head.home p.head.proto) in
    let source : List ℕ = address_bytes p.head.source in
    let ends : List ℕ = source ++ address_bytes p.head.destination in
    let rest : List ℕ = address_bytes p.head.destination ++ behind_bytes p in
    let tail : ends ++ behind_bytes p ≡ source ++ rest = append_assoc source (address_bytes p.head.destination) (behind_bytes p) in
    let left : (word ++ (size ++ (next ∷ p.head.hop ∷ ends))) ++ behind_bytes p ≡ word ++ (size ++ (next ∷ p.head.hop ∷ (source ++ rest))) =
    append_assoc word (size ++ (next ∷ p.head.hop ∷ ends)) (behind_bytes p)
    ∙ ap (λ (l : List ℕ). word ++ l) (append_assoc size (next ∷ p.head.hop ∷ ends) (behind_bytes p))
    ∙ ap (λ (l : List ℕ). word ++ (size ++ (next ∷ p.head.hop ∷ l))) tail in
    let front : List ℕ = word ++ (size ++ (next ∷ p.head.hop ∷ [])) in
    let right : front ++ (source ++ rest) ≡ word ++ (size ++ (next ∷ p.head.hop ∷ (source ++ rest))) =
    append_assoc word (size ++ (next ∷ p.head.hop ∷ [])) (source ++ rest)
    ∙ ap (λ (l : List ℕ). word ++ l) (append_assoc size (next ∷ p.head.hop ∷ []) (source ++ rest)) in
    let eight : length front ≡ 8 = omega (
      arith,
      length-append word (size ++ (next ∷ p.head.hop ∷ [])),
      length-append size (next ∷ p.head.hop ∷ []),
      length-number_bytes 4 (6 * 2 ^ 28 + p.head.class * 2 ^ 20 + p.head.flow),
      length-number_bytes 2 (length (behind_bytes p)),
    ) in
    ap source_bytes (left ∙ sym right) ∙ source-at front source rest eight (length-number_bytes 16 p.head.source.0)

data-source : (head : Head) (body : List ℕ) → source_bytes (data_packet head body) ≡ address_bytes head.source
unfolding data_packet
data-source head body = packet-source _

message-source : (head : Head) (m : Said) → source_bytes (message_packet head m) ≡ address_bytes head.source
unfolding message_packet
message-source head m = packet-source _

authenticated-source : (head : Head) (kbm : List ℕ) (careof peer : Address) (m : Said) → source_bytes (authenticated_packet head kbm careof peer m) ≡ address_bytes head.source
unfolding authenticated_packet
authenticated-source head kbm careof peer m = message-source _ _

tunnel-source : (entry exit : Address) (packet : List ℕ) → source_bytes (encapsulated entry exit packet) ≡ address_bytes entry
unfolding encapsulated
tunnel-source entry exit packet = packet-source _

-- from where it stands
module _ (k : Known) (elsewhere : IsElsewhere k) where
  from-away : (careof : Address) (packet : List ℕ) → k.standing ≡ Away careof → source_bytes packet ≡ address_bytes careof → LeavesFrom k.standing (home_of k) packet
  from-away careof packet here is =
      subst (λ (s : Attachment). LeavesFrom s (home_of k) packet) (sym here) (subst (λ (s : Attachment). IsApart s (home_of k)) here elsewhere, is)

  from-home : (packet : List ℕ) → k.standing ≡ AtHome → LeavesFrom k.standing (home_of k) packet
  from-home packet here = subst (λ (s : Attachment). LeavesFrom s (home_of k) packet) (sym here) tt

  sending-leaves : (c : Call) (now : ℕ) (x : Sending) → IsSentBy c now k x → LeavesFrom k.standing (home_of k) (packet_of_sending x)
  unfolding registration_packet deregistration_packet discovery_packet solicitation_packet
  sending-leaves c now (FromHome home inner) is = from-home (inner_packet home inner) is.0.0
  sending-leaves c now (ByTunnel home careof agent inner) is = from-away careof _ is.0.0 (tunnel-source careof agent _)
  sending-leaves c now (AsksCareof careof peer cookie) is = from-away careof _ is (message-source _ _)
  sending-leaves c now (RegistersHome home careof agent sequence) is = from-away careof _ is.0 (message-source _ _)
  sending-leaves c now (DeregistersHome home agent sequence) is = from-home _ is.0
  sending-leaves c now (SendsData home careof to None proto payload) is = from-away careof _ is.0.0 (data-source (data_head home careof to proto None) payload)
  sending-leaves c now (SendsData home careof to (Some held) proto payload) is = from-away careof _ is.0.0 (data-source (data_head home careof to proto (Some held)) payload)
  sending-leaves c now (Discovers home careof identifier) is = from-away careof _ is.0 (data-source _ _)
  sending-leaves c now (Solicits home careof agent identifier) is = from-away careof _ is.0 (data-source _ _)

  update-source : (u : PeerUpdate) → source_bytes (update_packet u) ≡ address_bytes u.source
  unfolding update_packet
  update-source u = by (is_some u.made.careof)
    where
      by : (binds : Bool) → source_bytes (update_bytes u binds) ≡ address_bytes u.source
      by true = authenticated-source _ _ _ _ _
      by false = authenticated-source _ _ _ _ _

  update-leaves : (now row : ℕ) (u : PeerUpdate) → IsUpdateOf now k row u → LeavesFrom k.standing (home_of k) (update_packet u)
  update-leaves now row u is = by k.standing refl is.source
    where
      away : (careof : Address) (binds : Bool) → k.standing ≡ Away careof → (if binds then Some careof else None) ≡ Some u.source → LeavesFrom k.standing (home_of k) (update_packet u)
      away careof true here from = from-away careof (update_packet u) here (update-source u ∙ ap (λ (a : Option Address). address_bytes (unwrap_or a careof)) (sym from))
      away careof false here from = absurd cc

      by : (s : Attachment) → k.standing ≡ s → source_for s (home_of k) u.made ≡ Some u.source → LeavesFrom k.standing (home_of k) (update_packet u)
      by Detached here from = absurd cc
      by AtHome here from = from-home (update_packet u) here
      by (Away careof) here from = away careof (is_some u.made.careof) here from

-- away is elsewhere, after each step
apart-at : (home address : Address) → IsApart (standing_at home address) home
apart-at home address =
    cond_both (address.0 == home.0) _ _ (λ (s : Attachment). IsApart s home) (λ is. tt) (λ other. eqb-false address.0 home.0 other)

apart-kept : (home : Address) (k : Known) (step : Step) → home_of k ≡ home → IsApart k.standing home → IsApart (standing_after k step) home
apart-kept home k (Called call) same was = was
apart-kept home k (Parts call) same was = was
apart-kept home k (Notes entry) same was = was
apart-kept home k (Sends sending) same was = was
apart-kept home k (Unsends why) same was = was
apart-kept home k (Drops number why) same was = was
apart-kept home k (Claims address) same was = was
apart-kept home k (Releases address) same was = was
apart-kept home k (FindsTaken address holder) same was = tt
apart-kept home k (Arrives address) same was = subst (λ (h : Address). IsApart (standing_at h address) home) (sym same) (apart-at home address)
apart-kept home k Detaches same was = tt
apart-kept home k _ same was = was

elsewhere-kept : (k : Known) (s : Stamped Step) → IsElsewhere k → IsElsewhere (after k s)
unfolding after
elsewhere-kept k s was = subst (λ (h : Address). IsApart (standing_after k s.step) h) (sym (home-kept k s)) (apart-kept (home_of k) k s.step refl was)

-- wherever it is away it is elsewhere, after every past
elsewhere-along : (k : Known) (past : List (Stamped Step)) → IsElsewhere k → IsElsewhere (fold after k past)
elsewhere-along k [] is = is
elsewhere-along k (s ∷ past) is = elsewhere-along (after k s) past (elsewhere-kept k s is)

pub past-elsewhere : (home : Address) (declared : Option Address) (numbers : ℕ) (secrets : Life) (past : List (Stamped Step)) → IsElsewhere (known home declared numbers secrets past)
unfolding known
past-elsewhere home declared numbers secrets past = elsewhere-along (fresh home declared numbers secrets) past tt

pub call-leaves : (k : Known) (now : ℕ) (c : Call) → IsElsewhere k → EachAnswer LeavesRight now k (transition_of k now c).steps
call-leaves k now c is =
    each-answer LeavesRight IsElsewhere c now (λ k step i. elsewhere-kept k (record { at = now; step = step }) i) (λ k e is. tt)
    (λ k x i is. sending-leaves k i c now x is) (λ k row u i is. update-leaves k i now row u is)
    k (transition_of k now c).steps is (call-fits k now c)
