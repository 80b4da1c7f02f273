-- An acceptance in a permitted history that is not forged has its origin.
use Rattle.std.proofs.Common.{◌≡◌, ℕ, ◌+◌, ◌/◌, ◌%◌, ◌<◌, ◌≤◌, List, [], ◌∷◌, ◌++◌, refl, sym, ap, ◌∙◌, subst, true, arith}
use Rattle.std.specs.Prelude.{fold, Option, Some, None, option_map, slice_get}
use Rattle.std.specs.List.{sum_by}
use Rattle.mip_words.specs.declared.address.Address.{Address}
use Rattle.mip_words.specs.declared.ids.NodeId.{NodeId}
use Rattle.mip_words.specs.EachAfter.{EachAfter}
use Rattle.mip_words.proofs.EachLaws.{each_at}
use Rattle.mip_mobhdr.specs.declared.indices.Indices.{Indices}
use Rattle.mip_reception.specs.declared.registration.Registration.{Registration}
use Rattle.mip_rules_correspondent.specs.Soundness.{IsCareofNonce}
use Rattle.mip_nonce.specs.Secrets.{Life, kcn_of, nonce_of}
use Rattle.mip_nonce.specs.Window.{current_of, index_of, IsValidAt}
use Rattle.mip_tokens.specs.Token.{token_of}
use Rattle.mip_packets.specs.Says.{Test, carried}
use Rattle.mip_bcache.specs.declared.accepted.Accepted.{Accepted}
use Rattle.mip_entries.specs.declared.entry.Entry.{Entry}
use Rattle.mip_entries.specs.declared.entry.Entry.TheVariants as entries
use Rattle.mip_schedule.specs.Contents.{Content}
use Rattle.mip_provenance.specs.declared.accepted_update.AcceptedUpdate.{AcceptedUpdate}
use Rattle.mip_provenance.specs.declared.mark.Mark.TheVariants.{Origin}
use Rattle.mip_provenance.specs.declared.maker.Maker.{Maker}
use Rattle.mip_provenance.specs.Entries as marks
use Rattle.mip_provenance.specs.Entries.{update_accepted}
use Rattle.mip_provenance.specs.Marks.{mark_in}
use Rattle.mip_provenance.specs.Origins.{WasSent, HasCareof, HasOrigin}
use Rattle.mip_provenance.proofs.ListLaws.{each_before}
use Rattle.mip_provenance.proofs.Originating.{origin_stands}
use Rattle.mip_history.specs.Setup.{Setup, Host, Kind, part_room, setup_of}
use Rattle.mip_history.specs.Setup.Kind.{Correspondent, Agent, Mobile}
use Rattle.mip_history.specs.Questions.{moment_in, restarts}
use Rattle.mip_history.specs.Passing.{waited_by}
use Rattle.mip_history.specs.Permitted.{permitted}
use Rattle.mip_history.specs.Bound.{IsAccepted, HasAccepted, accepted_entry, is_accepted}
use Rattle.mip_history.proofs.Runs.{Meets}
use Rattle.mip_history.proofs.Numbered.{IsNumbered}
use Rattle.mip_history.proofs.Bindings.{each_rest}
use Rattle.mip_history.proofs.Moments.{rises_from}
use Rattle.mip_history.proofs.Histories.{permitted_each, permitted_numbered, permitted_accepted, permitted_waited}
use Rattle.mip_law_origin.specs.OwnTests.{IsOwnTest}
use Rattle.mip_law_origin.specs.OwnHistories.{life_of}
use Rattle.mip_law_origin.specs.OwnHistoriesLaws.{kind_at, IsRightFrom, IsOwnEntry, ArePlain}
use Rattle.mip_law_origin.specs.Origins.{token_in_life, IsCareofToken, IsOriginOf}
use Rattle.mip_law_origin.proofs.Histories.{own_permitted}
use Rattle.mip_law_origin.proofs.Lawful.{lawful_sights}

-- lives are counted alike
life_alike : (past : List Entry) (n count : ℕ) → fold (marks.restarts n) count past ≡ fold (restarts n) count past
life_alike [] n count = refl
life_alike (e ∷ past) n count = ap (λ (c : ℕ). fold (marks.restarts n) c past) (by e) ∙ life_alike past n (restarts n count e)
  where
    by : (e : Entry) → marks.restarts n count e ≡ restarts n count e
    by (entries.Restarted node) = refl
    by _ = refl

-- two numbers with the same end that are not far apart
one_number : (now then_ i : ℕ) → i ≤ now → now < i + 8 → then_ ≤ now → now ≤ then_ + 1201 → then_ % 65536 ≡ i % 65536 → then_ ≡ i
one_number now then_ i a b c d same = omega arith

same_number : (now then_ i : ℕ) → IsValidAt now i → then_ ≤ now → now ≤ then_ + 36000000 → index_of (current_of then_) ≡ index_of i → current_of then_ ≡ i
same_number now then_ i valid up near same = one_number (now / 30000) (then_ / 30000) i valid.0 valid.1 (omega arith) (omega arith) same

the : (a b : ℕ) → Some a ≡ Some b → a ≡ b
the a b e = cc

-- whatever is right of what node n sends, a test in it is its own
abbrev AreTested : Setup → ℕ → Type 0
AreTested s n = (front : List Entry) (packet : List ℕ) → IsRightFrom s front n packet (kind_at s n) → IsOwnTest (life_of s front n) (moment_in s.start front) (carried packet)

accepted_tests : (s : Setup) (n : ℕ) (own : Address) (kind : Kind) (room : ℕ) → slice_get s.hosts n ≡ Some (record { address = own; kind = kind }) → part_room kind ≡ Some room → AreTested s n
accepted_tests s n own kind room host_is has front packet right =
    by kind has (subst (IsRightFrom s front n packet) (ap (option_map (λ (h : Host). h.kind)) host_is) right)
  where
    by : (kind : Kind) → part_room kind ≡ Some room → IsRightFrom s front n packet (Some kind) → IsOwnTest (life_of s front n) (moment_in s.start front) (carried packet)
    by (Correspondent room') has right = right
    by (Agent preference life room' serves) has right = absurd cc
    by (Mobile agent) has right = right

module _ (s : Setup) (past : List Entry) (each : EachAfter (Meets s) [] past) (own : EachAfter (IsOwnEntry s) [] past) (short : moment_in s.start past ≤ s.start + 36000000) where
  -- the token of a test that was sent in this life is that of the nonce which its index names at the end of the history
  sent_is : (node : NodeId) (number kind index : ℕ) (token : List ℕ) (address : Address) (i : ℕ) → WasSent past node number kind index token address
      → AreTested s node.0 → IsValidAt (moment_in s.start past) i → index ≡ index_of i → token ≡ token_in_life s past node.0 kind address i
  sent_is node number kind index token address i sent tested valid named =
      let e : Entry = entries.Sent number node sent.shielded sent.packet in
      let then_ : ℕ = moment_in s.start sent.earlier in
      let right : IsRightFrom s sent.earlier node.0 sent.packet (kind_at s node.0) =
      each_at (IsOwnEntry s) [] sent.earlier e sent.later (subst (λ (l : List Entry). EachAfter (IsOwnEntry s) [] l) sent.whole own) in
      let owned : IsOwnTest (life_of s sent.earlier node.0) then_ (carried sent.packet) = tested sent.earlier sent.packet right in
      let told : IsOwnTest (life_of s sent.earlier node.0) then_ (Test kind index token address) = subst (IsOwnTest (life_of s sent.earlier node.0) then_) sent.says owned in
      let split : EachAfter (Meets s) [] (sent.earlier ++ e ∷ sent.later) = subst (λ (l : List Entry). EachAfter (Meets s) [] l) sent.whole each in
      let front : EachAfter (Meets s) [] sent.earlier = each_before (Meets s) [] sent.earlier (e ∷ sent.later) split in
      let started : s.start ≤ then_ = (rises_from s s.start [] sent.earlier front (omega arith)).1 in
      let up : then_ ≤ moment_in s.start past =
      subst (λ (l : List Entry). then_ ≤ moment_in s.start l) (sym sent.whole) (rises_from s then_ sent.earlier (e ∷ sent.later) (each_rest (Meets s) [] sent.earlier (e ∷ sent.later) split) (omega arith)).1 in
      let number_is : current_of then_ ≡ i = same_number (moment_in s.start past) then_ i valid up (omega (arith, short, started)) (sym told.0 ∙ named) in
      let life_is : life_of s sent.earlier node.0 ≡ life_of s past node.0 =
      ap (λ (n : ℕ). let l : Life = record { seed = s.seed; node = node.0; life = n } in l)
      (sym (life_alike sent.earlier node.0 0) ∙ sent.this_life ∙ life_alike past node.0 0) in
      told.1
      ∙ ap (λ (l : Life). token_of kind (kcn_of l) address (nonce_of l (current_of then_))) life_is
      ∙ ap (λ (n : ℕ). token_of kind (kcn_of (life_of s past node.0)) address (nonce_of (life_of s past node.0) n)) number_is

  -- the care-of token, where the binding does not end
  careof_is : (a : AcceptedUpdate) (earlier : List Entry) (maker : Maker) (index : Option ℕ) (token : Option (List ℕ)) (cot : Option ℕ) (nonce : Option ℕ) → HasCareof past a earlier maker index token cot
      → AreTested s a.node.0 → index ≡ option_map index_of nonce → ((j : ℕ) → nonce ≡ Some j → IsValidAt (moment_in s.start past) j) → IsCareofToken s past a.node.0 a.careof nonce token
  careof_is a earlier maker (Some index) (Some token) (Some cot) (Some j) has tested named valid =
      sent_is a.node cot 1 index token a.careof j has.0 tested (valid j refl) (the index (index_of j) named)
  careof_is a earlier maker None None None None has tested named valid = tt
  careof_is a earlier maker (Some index) token cot None has tested named valid = absurd cc
  careof_is a earlier maker None token cot (Some j) has tested named valid = absurd cc
  careof_is a earlier maker (Some index) None cot (Some j) has tested named valid = absurd has
  careof_is a earlier maker (Some index) (Some token) None (Some j) has tested named valid = absurd has
  careof_is a earlier maker None (Some token) cot None has tested named valid = absurd has
  careof_is a earlier maker None None (Some cot) None has tested named valid = absurd has

-- an accepted update as its entry tells it
abbrev update_of : ℕ → ℕ → Address → Accepted → AcceptedUpdate
update_of n k home accepted = record {
  node = record { 0 = n };
  number = k;
  home = home;
  careof = accepted.careof;
  home_index = index_of accepted.home_nonce;
  careof_index = option_map index_of accepted.careof_nonce;
}

same_update : (x y : AcceptedUpdate) → Some x ≡ Some y → x ≡ y
same_update x y e = cc

-- the care-of nonce was valid, unless the binding ends
careof_valid : (now : ℕ) (r : Registration) (indices : Indices) (nonce : Option ℕ) → IsCareofNonce now r indices nonce → (j : ℕ) → nonce ≡ Some j → IsValidAt now j
careof_valid now r indices None is j e = absurd cc
careof_valid now r indices (Some k) is j e = subst (IsValidAt now) (number_same k j e) is.1.0
  where
    number_same : (k j : ℕ) → Some k ≡ Some j → k ≡ j
    number_same k j e = cc

is_acceptance : (e : Entry) (a : AcceptedUpdate) → update_accepted e ≡ Some a → is_accepted e ≡ true
is_acceptance (entries.Accepted node number home binding careof sequence end i j) a told = refl
is_acceptance _ a told = absurd cc

-- the origin of one acceptance
origin_at : (s : Setup) (past : List Entry) (n k : ℕ) (home : Address) (binding : ℕ) (accepted : Accepted) (hot : ℕ) (cot : Option ℕ) (update : ℕ)
    → EachAfter (Meets s) [] past → EachAfter (IsNumbered s) [] past → EachAfter (IsOwnEntry s) [] past → moment_in s.start past ≤ s.start + 36000000 → IsAccepted s past n k home binding accepted
    → mark_in past (update_of n k home accepted) ≡ Origin hot cot update
    → IsOriginOf s past (accepted_entry n k home binding accepted) (update_of n k home accepted) hot cot update
origin_at s past n k home binding accepted hot cot update each numbered own short stands mark =
    let a : AcceptedUpdate = update_of n k home accepted in
    let origin : HasOrigin past a hot cot update = origin_stands past a hot cot update (lawful_sights past s numbered own) mark in
    let genuine = stands.sound.genuine in
    let tested : AreTested s n = accepted_tests s n stands.own stands.kind stands.room stands.is_host stands.has_room in
    record {
      binding = binding;
      accepted = accepted;
      is = refl;
      stands = stands;
      origin = origin;
      home_token = sent_is s past each own short a.node hot 0 a.home_index origin.home_token home accepted.home_nonce origin.home_sent tested genuine.home_nonce.0 refl;
      careof_token = careof_is s past each own short a origin.earlier origin.maker a.careof_index origin.careof_token cot accepted.careof_nonce origin.careof tested refl
          (careof_valid (moment_in s.start past) stands.registration genuine.indices accepted.careof_nonce genuine.careof_nonce);
    }

-- each acceptance of a permitted history, whoever accepts
pub permitted_stands : (c : Content) → ArePlain c → (before : List Entry) (e : Entry) (after : List Entry) → permitted c ≡ before ++ e ∷ after
    → (a : AcceptedUpdate) (hot : ℕ) (cot : Option ℕ) (update : ℕ) → mark_in before a ≡ Origin hot cot update → HasOrigin before a hot cot update
permitted_stands c plain before e after whole a hot cot update mark =
    let s = setup_of c in
    let numbered : EachAfter (IsNumbered s) [] before = each_before (IsNumbered s) [] before (e ∷ after) (subst (λ (l : List Entry). EachAfter (IsNumbered s) [] l) whole (permitted_numbered c)) in
    let own : EachAfter (IsOwnEntry s) [] before = each_before (IsOwnEntry s) [] before (e ∷ after) (subst (λ (l : List Entry). EachAfter (IsOwnEntry s) [] l) whole (own_permitted c plain)) in
    origin_stands before a hot cot update (lawful_sights before s numbered own) mark

-- and those tokens are the ones of the nonces that were valid
pub permitted_origin : (c : Content) → ArePlain c → sum_by waited_by c.events ≤ 36000000 → (before : List Entry) (e : Entry) (after : List Entry) → permitted c ≡ before ++ e ∷ after
    → (a : AcceptedUpdate) → update_accepted e ≡ Some a → (hot : ℕ) (cot : Option ℕ) (update : ℕ) → mark_in before a ≡ Origin hot cot update
    → IsOriginOf (setup_of c) before e a hot cot update
permitted_origin c plain short before e after whole a told hot cot update mark =
    let s = setup_of c in
    let split : EachAfter (Meets s) [] (before ++ e ∷ after) = subst (λ (l : List Entry). EachAfter (Meets s) [] l) whole (permitted_each c) in
    let each : EachAfter (Meets s) [] before = each_before (Meets s) [] before (e ∷ after) split in
    let numbered : EachAfter (IsNumbered s) [] before = each_before (IsNumbered s) [] before (e ∷ after) (subst (λ (l : List Entry). EachAfter (IsNumbered s) [] l) whole (permitted_numbered c)) in
    let own : EachAfter (IsOwnEntry s) [] before = each_before (IsOwnEntry s) [] before (e ∷ after) (subst (λ (l : List Entry). EachAfter (IsOwnEntry s) [] l) whole (own_permitted c plain)) in
    let ended : moment_in s.start before ≤ moment_in s.start (permitted c) =
    subst (λ (l : List Entry). moment_in s.start before ≤ moment_in s.start l) (sym whole)
    (rises_from s (moment_in s.start before) before (e ∷ after) (each_rest (Meets s) [] before (e ∷ after) split) (omega arith)).1 in
    let within : moment_in s.start before ≤ s.start + 36000000 = omega (arith, ended, permitted_waited c, short) in
    by each numbered own within (permitted_accepted c before e after whole (is_acceptance e a told))
  where
    by : EachAfter (Meets (setup_of c)) [] before → EachAfter (IsNumbered (setup_of c)) [] before → EachAfter (IsOwnEntry (setup_of c)) [] before → moment_in (setup_of c).start before ≤ (setup_of c).start + 36000000
        → HasAccepted (setup_of c) before e → IsOriginOf (setup_of c) before e a hot cot update
    by each numbered own within h =
        let u : AcceptedUpdate = update_of h.node h.number h.home h.accepted in
        let same : u ≡ a = same_update u a (sym (ap update_accepted h.is) ∙ told) in
        let here : IsOriginOf (setup_of c) before (accepted_entry h.node h.number h.home h.binding h.accepted) u hot cot update =
        origin_at (setup_of c) before h.node h.number h.home h.binding h.accepted hot cot update each numbered own within h.stands (ap (mark_in before) same ∙ mark) in
        subst (λ (x : Entry). IsOriginOf (setup_of c) before x a hot cot update) (sym h.is)
        (subst (λ (v : AcceptedUpdate). IsOriginOf (setup_of c) before (accepted_entry h.node h.number h.home h.binding h.accepted) v hot cot update) same here)
