-- An event that is read names what is declared and routable addresses, and its numbers and bytes stay within their
-- bounds.
use Rattle.std.proofs.Common.{◌≡◌, ℕ, ◌<◌, ◌≤◌, List, [], ◌∷◌, length, sym, ◌∙◌, subst, arith}
use Rattle.std.specs.Prelude.{Bool, true, false, Option, Some, None, Result, Ok, codes, ⊤}
use Rattle.std.specs.Str.{bytes_eq}
use Rattle.std.proofs.lemmas.Bool.{cond_both}
use Rattle.mip_words.specs.Addresses.{is_routable}
use Rattle.mip_words.specs.Steps.{◌>>=◌}
use Rattle.mip_words.specs.declared.address.Address.{Address}
use Rattle.mip_words.specs.declared.ids.LinkId.{LinkId}
use Rattle.mip_words.specs.declared.ids.NodeId.{NodeId}
use Rattle.mip_words.proofs.StepLaws.{bind_ok, ok_is}
use Rattle.mip_lines.specs.HexFields.{address_in}
use Rattle.mip_lines.specs.Rows.{row1, row2, row3, row4, row6}
use Rattle.mip_lines.proofs.HexFieldLaws.{hex_field-spelled}
use Rattle.mip_schedule.specs.BindParts.{bind_ends, bind_numbers, number_named}
use Rattle.mip_schedule.specs.EventRows.{update_ends, wait_row, move_row, advertise_row, data_row, inject_row, probe_row, plain_bind_row, numbered_bind_row, tell_row, listen_row, deaf_row, squat_row, yield_row, carry_row, restart_row, refresh_row, plan_row, ask_row, show_row, settle_row, node_fields, packet_fields, outsider_fields, event_fields}
use Rattle.mip_symbols.specs.Kinds as kinds
use Rattle.mip_symbols.specs.Kinds.{to_host, address, bytes, place, link, node, outsider, some_link}
use Rattle.mip_schedule.specs.Lawful.{IsLink, IsNode, IsOutsider, IsLinkIfAny, IsHost, IsWithin}
use Rattle.mip_symbols.specs.Places.{members}
use Rattle.mip_schedule.specs.Spelling.{event_text}
use Rattle.mip_schedule.specs.Versions.{numbers_in}
use Rattle.mip_symbols.specs.declared.declaration.Declaration.{Declaration}
use Rattle.mip_schedule.specs.declared.update_ends.UpdateEnds.{UpdateEnds}
use Rattle.mip_schedule.specs.declared.event.Event.{Event}
use Rattle.mip_schedule.specs.declared.event.Event.TheVariants as events
use Rattle.mip_symbols.specs.declared.places.Sort.{Sort}
use Rattle.mip_symbols.specs.declared.places.Sort.TheVariants as sorts
use Rattle.mip_symbols.specs.declared.reason.Reason.{Reason}
use Rattle.mip_symbols.specs.declared.reason.Reason.TheVariants as reasons
use Rattle.mip_schedule.proofs.BindLaws.{plain_split, numbered_split}
use Rattle.mip_symbols.proofs.KindLaws.{number-within, option_is}
use Rattle.mip_symbols.proofs.PlaceLaws.{place_within}

-- what a reading of a field accepts keeps to Q
abbrev Keeps : {A : Type 0} → (List ℕ → Result A Reason) → (A → Type 0) → Type 0
Keeps {A} read Q = (f : List ℕ) (a : A) → read f ≡ Ok a → Q a

-- kinds of field
any-keeps : {A : Type 0} (read : List ℕ → Result A Reason) → Keeps read (λ a. ⊤)
any-keeps read f a e = tt

most-keeps : (low high : ℕ) → Keeps (kinds.number low high) (λ n. n ≤ high)
most-keeps low high f n e = (number-within low high f n e).1

routable : (o : Option Address) (a : Address) → to_host o ≡ Ok a → IsHost a
routable None a = λ e. absurd cc
routable (Some b) a =
    cond_both (is_routable b.0) _ _ (λ (r : Result Address Reason). r ≡ Ok a → IsHost a)
    (λ test e. subst IsHost (ok_is b a e) test)
    (λ _ e. absurd cc)

address-keeps : Keeps kinds.address IsHost
unfolding address
address-keeps f a e = routable (address_in f) a e

bytes-keeps : (most : ℕ) → Keeps (kinds.bytes most) (λ b. length b ≤ most)
unfolding bytes
bytes-keeps most f b e = (hex_field-spelled most f b (option_is _ _ _ e)).size

place-keeps : (sort : Sort) (ds : List Declaration) → Keeps (kinds.place sort ds) (λ p. p < length (members sort ds))
unfolding place
place-keeps sort ds f p e = place_within sort f ds p (option_is _ _ _ e)

link-keeps : (ds : List Declaration) → Keeps (kinds.link ds) (IsLink ds)
unfolding link
link-keeps ds f l e =
    let x = bind_ok (kinds.place sorts.Link ds f) (λ p. Ok (record { 0 = p })) l e in
    subst (IsLink ds) (ok_is _ l x.2) (place-keeps sorts.Link ds f x.0 x.1)

sort-keeps : (sort : Sort) (ds : List Declaration) → Keeps (kinds.node sort ds) (λ n. n.0 < length (members sort ds))
unfolding node
sort-keeps sort ds f n e =
    let x = bind_ok (kinds.place sort ds f) (λ p. Ok (record { 0 = p })) n e in
    subst (λ (m : NodeId). m.0 < length (members sort ds)) (ok_is _ n x.2) (place-keeps sort ds f x.0 x.1)

node-keeps : (ds : List Declaration) → Keeps (kinds.node sorts.Node ds) (IsNode ds)
node-keeps ds = sort-keeps sorts.Node ds

agent-keeps : (ds : List Declaration) → Keeps (kinds.node sorts.Agent ds) (IsNode ds)
unfolding members
agent-keeps ds = sort-keeps sorts.Agent ds

mobile-keeps : (ds : List Declaration) → Keeps (kinds.node sorts.Mobile ds) (IsNode ds)
unfolding members
mobile-keeps ds = sort-keeps sorts.Mobile ds

sender-keeps : (ds : List Declaration) → Keeps (kinds.node sorts.Host ds) (IsNode ds)
unfolding members
sender-keeps ds = sort-keeps sorts.Host ds

outsider-keeps : (ds : List Declaration) → Keeps (kinds.outsider ds) (IsOutsider ds)
unfolding outsider
outsider-keeps ds = place-keeps sorts.Outsider ds

some_link-keeps : (ds : List Declaration) → Keeps (kinds.some_link ds) (IsLinkIfAny ds)
unfolding some_link
some_link-keeps ds f o =
    cond_both (bytes_eq f (codes "-")) _ _ (λ (r : Result (Option LinkId) Reason). r ≡ Ok o → IsLinkIfAny ds o)
    (λ _ e. subst (IsLinkIfAny ds) (ok_is None o e) tt)
    (λ _ e.
    let x = bind_ok (kinds.link ds f) (λ y. Ok (Some y)) o e in
    subst (IsLinkIfAny ds) (ok_is (Some x.0) o x.2) (link-keeps ds f x.0 x.1))

-- a first field that was read
kept : {A X : Type 0} {r : List ℕ → Result A Reason} {Q : A → Type 0} → Keeps r Q → (f : List ℕ) (k : A → Result X Reason) (x : X) (P : Type 0)
    → (r f >>= k) ≡ Ok x → ((a : A) → Q a → k a ≡ Ok x → P) → P
kept {r = r} s f k x P is more = let p = bind_ok (r f) k x is in more p.0 (s f p.0 p.1) p.2

-- rows of fields
row1-keeps : {A1 X : Type 0} (e : Reason) (P : X → Type 0) {k1 : List ℕ → Result A1 Reason} {Q1 : A1 → Type 0} {to : A1 → X}
    → Keeps k1 Q1
    → ((a1 : A1) → Q1 a1 → P (to a1))
    → (c1 : List ℕ) (x : X) → row1 e k1 to (c1 ∷ []) ≡ Ok x → P x
row1-keeps e P {to = to} s1 whole c1 x is =
    kept s1 c1 (λ a1. Ok (to a1)) x (P x) is (λ a1 q1 is1.
    subst P (ok_is (to a1) x is1) (whole a1 q1))

row2-keeps : {A1 A2 X : Type 0} (e : Reason) (P : X → Type 0)
    {k1 : List ℕ → Result A1 Reason} {Q1 : A1 → Type 0} {k2 : List ℕ → Result A2 Reason} {Q2 : A2 → Type 0} {to : A1 → A2 → X}
    → Keeps k1 Q1 → Keeps k2 Q2
    → ((a1 : A1) (a2 : A2) → Q1 a1 → Q2 a2 → P (to a1 a2))
    → (c1 c2 : List ℕ) (x : X) → row2 e k1 k2 to (c1 ∷ c2 ∷ []) ≡ Ok x → P x
row2-keeps e P {k2 = k2} {to = to} s1 s2 whole c1 c2 x is =
    kept s1 c1 (λ a1. k2 c2 >>= (λ a2. Ok (to a1 a2))) x (P x) is (λ a1 q1 is1.
    kept s2 c2 (λ a2. Ok (to a1 a2)) x (P x) is1 (λ a2 q2 is2.
    subst P (ok_is (to a1 a2) x is2) (whole a1 a2 q1 q2)))

row3-keeps : {A1 A2 A3 X : Type 0} (e : Reason) (P : X → Type 0)
    {k1 : List ℕ → Result A1 Reason} {Q1 : A1 → Type 0} {k2 : List ℕ → Result A2 Reason} {Q2 : A2 → Type 0} {k3 : List ℕ → Result A3 Reason} {Q3 : A3 → Type 0}
    {to : A1 → A2 → A3 → X}
    → Keeps k1 Q1 → Keeps k2 Q2 → Keeps k3 Q3
    → ((a1 : A1) (a2 : A2) (a3 : A3) → Q1 a1 → Q2 a2 → Q3 a3 → P (to a1 a2 a3))
    → (c1 c2 c3 : List ℕ) (x : X) → row3 e k1 k2 k3 to (c1 ∷ c2 ∷ c3 ∷ []) ≡ Ok x → P x
row3-keeps e P {k2 = k2} {k3 = k3} {to = to} s1 s2 s3 whole c1 c2 c3 x is =
    kept s1 c1 (λ a1. k2 c2 >>= (λ a2. k3 c3 >>= (λ a3. Ok (to a1 a2 a3)))) x (P x) is (λ a1 q1 is1.
    row2-keeps e P s2 s3 (λ a2 a3 q2 q3. whole a1 a2 a3 q1 q2 q3) c2 c3 x is1)

row4-keeps : {A1 A2 A3 A4 X : Type 0} (e : Reason) (P : X → Type 0)
    {k1 : List ℕ → Result A1 Reason} {Q1 : A1 → Type 0} {k2 : List ℕ → Result A2 Reason} {Q2 : A2 → Type 0}
    {k3 : List ℕ → Result A3 Reason} {Q3 : A3 → Type 0} {k4 : List ℕ → Result A4 Reason} {Q4 : A4 → Type 0}
    {to : A1 → A2 → A3 → A4 → X}
    → Keeps k1 Q1 → Keeps k2 Q2 → Keeps k3 Q3 → Keeps k4 Q4
    → ((a1 : A1) (a2 : A2) (a3 : A3) (a4 : A4) → Q1 a1 → Q2 a2 → Q3 a3 → Q4 a4 → P (to a1 a2 a3 a4))
    → (c1 c2 c3 c4 : List ℕ) (x : X) → row4 e k1 k2 k3 k4 to (c1 ∷ c2 ∷ c3 ∷ c4 ∷ []) ≡ Ok x → P x
row4-keeps e P {k2 = k2} {k3 = k3} {k4 = k4} {to = to} s1 s2 s3 s4 whole c1 c2 c3 c4 x is =
    kept s1 c1 (λ a1. k2 c2 >>= (λ a2. k3 c3 >>= (λ a3. k4 c4 >>= (λ a4. Ok (to a1 a2 a3 a4))))) x (P x) is (λ a1 q1 is1.
    row3-keeps e P s2 s3 s4 (λ a2 a3 a4 q2 q3 q4. whole a1 a2 a3 a4 q1 q2 q3 q4) c2 c3 c4 x is1)

row5-keeps : {A1 A2 A3 A4 A5 X : Type 0} (P : X → Type 0)
    {k1 : List ℕ → Result A1 Reason} {Q1 : A1 → Type 0} {k2 : List ℕ → Result A2 Reason} {Q2 : A2 → Type 0}
    {k3 : List ℕ → Result A3 Reason} {Q3 : A3 → Type 0} {k4 : List ℕ → Result A4 Reason} {Q4 : A4 → Type 0}
    {k5 : List ℕ → Result A5 Reason} {Q5 : A5 → Type 0}
    {to : A1 → A2 → A3 → A4 → A5 → X}
    → Keeps k1 Q1 → Keeps k2 Q2 → Keeps k3 Q3 → Keeps k4 Q4 → Keeps k5 Q5
    → ((a1 : A1) (a2 : A2) (a3 : A3) (a4 : A4) (a5 : A5) → Q1 a1 → Q2 a2 → Q3 a3 → Q4 a4 → Q5 a5 → P (to a1 a2 a3 a4 a5))
    → (c1 c2 c3 c4 c5 : List ℕ) (x : X) → (k1 c1 >>= (λ a1. k2 c2 >>= (λ a2. k3 c3 >>= (λ a3. k4 c4 >>= (λ a4. k5 c5 >>= (λ a5. Ok (to a1 a2 a3 a4 a5))))))) ≡ Ok x → P x
row5-keeps P {k2 = k2} {k3 = k3} {k4 = k4} {k5 = k5} {to = to} s1 s2 s3 s4 s5 whole c1 c2 c3 c4 c5 x is =
    kept s1 c1 (λ a1. k2 c2 >>= (λ a2. k3 c3 >>= (λ a3. k4 c4 >>= (λ a4. k5 c5 >>= (λ a5. Ok (to a1 a2 a3 a4 a5)))))) x (P x) is (λ a1 q1 is1.
    row4-keeps reasons.Form P s2 s3 s4 s5 (λ a2 a3 a4 a5 q2 q3 q4 q5. whole a1 a2 a3 a4 a5 q1 q2 q3 q4 q5) c2 c3 c4 c5 x is1)

row6-keeps : {A1 A2 A3 A4 A5 A6 X : Type 0} (e : Reason) (P : X → Type 0)
    {k1 : List ℕ → Result A1 Reason} {Q1 : A1 → Type 0} {k2 : List ℕ → Result A2 Reason} {Q2 : A2 → Type 0}
    {k3 : List ℕ → Result A3 Reason} {Q3 : A3 → Type 0} {k4 : List ℕ → Result A4 Reason} {Q4 : A4 → Type 0}
    {k5 : List ℕ → Result A5 Reason} {Q5 : A5 → Type 0} {k6 : List ℕ → Result A6 Reason} {Q6 : A6 → Type 0}
    {to : A1 → A2 → A3 → A4 → A5 → A6 → X}
    → Keeps k1 Q1 → Keeps k2 Q2 → Keeps k3 Q3 → Keeps k4 Q4 → Keeps k5 Q5 → Keeps k6 Q6
    → ((a1 : A1) (a2 : A2) (a3 : A3) (a4 : A4) (a5 : A5) (a6 : A6) → Q1 a1 → Q2 a2 → Q3 a3 → Q4 a4 → Q5 a5 → Q6 a6 → P (to a1 a2 a3 a4 a5 a6))
    → (c1 c2 c3 c4 c5 c6 : List ℕ) (x : X) → row6 e k1 k2 k3 k4 k5 k6 to (c1 ∷ c2 ∷ c3 ∷ c4 ∷ c5 ∷ c6 ∷ []) ≡ Ok x → P x
row6-keeps e P {k2 = k2} {k3 = k3} {k4 = k4} {k5 = k5} {k6 = k6} {to = to} s1 s2 s3 s4 s5 s6 whole c1 c2 c3 c4 c5 c6 x is =
    kept s1 c1 (λ a1. k2 c2 >>= (λ a2. k3 c3 >>= (λ a3. k4 c4 >>= (λ a4. k5 c5 >>= (λ a5. k6 c6 >>= (λ a6. Ok (to a1 a2 a3 a4 a5 a6))))))) x (P x) is (λ a1 q1 is1.
    kept s2 c2 (λ a2. k3 c3 >>= (λ a3. k4 c4 >>= (λ a4. k5 c5 >>= (λ a5. k6 c6 >>= (λ a6. Ok (to a1 a2 a3 a4 a5 a6)))))) x (P x) is1 (λ a2 q2 is2.
    row4-keeps e P s3 s4 s5 s6 (λ a3 a4 a5 a6 q3 q4 q5 q6. whole a1 a2 a3 a4 a5 a6 q1 q2 q3 q4 q5 q6) c3 c4 c5 c6 x is2))

-- lines of events
abbrev Within : Bool → List Declaration → List (List ℕ) → (List (List ℕ) → Result Event Reason) → Type 0
Within numbered ds fields row = (x : Event) → row fields ≡ Ok x → IsWithin numbered ds x

-- the ends of an update are routable
abbrev AreHosts : UpdateEnds → Type 0
AreHosts e = IsHost e.source × IsHost e.peer × IsHost e.home × IsHost e.careof

module _ (numbered : Bool) (ds : List Declaration) where
  wait-within : (f : List ℕ) → Within numbered ds (f ∷ []) (wait_row ds)
  unfolding wait_row
  wait-within = row1-keeps reasons.Form (IsWithin numbered ds) (most-keeps 1 600000) (λ a q. q)

  move-within : (f g : List ℕ) → Within numbered ds (f ∷ g ∷ []) (move_row ds)
  unfolding move_row
  move-within = row2-keeps reasons.Form (IsWithin numbered ds) (mobile-keeps ds) (some_link-keeps ds) (λ a b p q. (p, q))

  advertise-within : (f : List ℕ) → Within numbered ds (f ∷ []) (advertise_row ds)
  unfolding advertise_row
  advertise-within = row1-keeps reasons.Form (IsWithin numbered ds) (link-keeps ds) (λ a q. q)

  data-within : (f g h i : List ℕ) → Within numbered ds (f ∷ g ∷ h ∷ i ∷ []) (data_row ds)
  unfolding data_row
  data-within = row4-keeps reasons.Form (IsWithin numbered ds) (sender-keeps ds) address-keeps (any-keeps (kinds.number 0 255)) (bytes-keeps 512) (λ a b c d p q r s. (p, q, s))

  inject-within : (f g h : List ℕ) → Within numbered ds (f ∷ g ∷ h ∷ []) (inject_row ds)
  unfolding inject_row
  inject-within = row3-keeps reasons.Form (IsWithin numbered ds) (outsider-keeps ds) (link-keeps ds) (bytes-keeps 2048) (λ a b c p q r. (p, q, r))

  probe-within : (f g h i j k : List ℕ) → Within numbered ds (f ∷ g ∷ h ∷ i ∷ j ∷ k ∷ []) (probe_row ds)
  unfolding probe_row
  probe-within = row6-keeps reasons.Form (IsWithin numbered ds) (outsider-keeps ds) (link-keeps ds) (any-keeps kinds.careof) address-keeps address-keeps (any-keeps kinds.cookie) (λ a b c d e f p q r s t u. (p, q, s, t))

  -- the parts of an update
  update-within : (c1 c2 c3 c4 c5 c6 c7 c8 c9 c10 : List ℕ) (named : Option (List ℕ)) → Keeps (λ _. number_named named) (λ n. n < numbers_in numbered)
      → (x : Event) → (kinds.outsider ds c1 >>= (λ o. kinds.link ds c2 >>= (λ l. bind_ends c3 c4 c5 c6 >>= (λ n. bind_numbers o l n c7 c8 c9 c10 named)))) ≡ Ok x
      → IsWithin numbered ds x
  unfolding bind_ends bind_numbers
  update-within c1 c2 c3 c4 c5 c6 c7 c8 c9 c10 named few x e =
      let o = bind_ok (kinds.outsider ds c1) (λ o. kinds.link ds c2 >>= (λ l. bind_ends c3 c4 c5 c6 >>= (λ n. bind_numbers o l n c7 c8 c9 c10 named))) x e in
      let l = bind_ok (kinds.link ds c2) (λ l. bind_ends c3 c4 c5 c6 >>= (λ n. bind_numbers o.0 l n c7 c8 c9 c10 named)) x o.2 in
      let n = bind_ok (bind_ends c3 c4 c5 c6) (λ n. bind_numbers o.0 l.0 n c7 c8 c9 c10 named) x l.2 in
      let are : AreHosts n.0 = row4-keeps reasons.Form AreHosts {to = update_ends} address-keeps address-keeps address-keeps address-keeps (λ s p h c q1 q2 q3 q4. (q1, q2, q3, q4)) c3 c4 c5 c6 n.0 n.1 in
      row5-keeps (IsWithin numbered ds) {to = λ q t k j m. events.Bind o.0 l.0 n.0 q t k j m}
      (any-keeps (kinds.number 0 65535)) (any-keeps (kinds.number 0 65535)) (any-keeps (kinds.number 0 4294967295)) (any-keeps kinds.some_packet) few
      (λ q t k j m _ _ _ _ small. (outsider-keeps ds c1 o.0 o.1, link-keeps ds c2 l.0 l.1, are.0, are.1, are.2, are.3, small)) c7 c8 c9 c10 [] x n.2

  tell-within : (f g h i : List ℕ) → Within numbered ds (f ∷ g ∷ h ∷ i ∷ []) (tell_row ds)
  unfolding tell_row
  tell-within = row4-keeps reasons.Form (IsWithin numbered ds) (outsider-keeps ds) (link-keeps ds) (any-keeps (kinds.number 0 4294967295)) (any-keeps (kinds.number 0 4294967295)) (λ a b c d p q r s. (p, q))

  listen-within : (f g : List ℕ) → Within numbered ds (f ∷ g ∷ []) (listen_row ds)
  unfolding listen_row
  listen-within = row2-keeps reasons.Form (IsWithin numbered ds) (outsider-keeps ds) (link-keeps ds) (λ a b p q. (p, q))

  deaf-within : (f g : List ℕ) → Within numbered ds (f ∷ g ∷ []) (deaf_row ds)
  unfolding deaf_row
  deaf-within = row2-keeps reasons.Form (IsWithin numbered ds) (outsider-keeps ds) (link-keeps ds) (λ a b p q. (p, q))

  squat-within : (f g : List ℕ) → Within numbered ds (f ∷ g ∷ []) (squat_row ds)
  unfolding squat_row
  squat-within = row2-keeps reasons.Form (IsWithin numbered ds) (outsider-keeps ds) address-keeps (λ a b p q. (p, q))

  yield-within : (f g : List ℕ) → Within numbered ds (f ∷ g ∷ []) (yield_row ds)
  unfolding yield_row
  yield-within = row2-keeps reasons.Form (IsWithin numbered ds) (outsider-keeps ds) address-keeps (λ a b p q. (p, q))

  carry-within : (f : List ℕ) → Within numbered ds (f ∷ []) (carry_row ds)
  unfolding carry_row
  carry-within = row1-keeps reasons.Form (IsWithin numbered ds) (most-keeps 1 1000) (λ a q. q)

  restart-within : (f : List ℕ) → Within numbered ds (f ∷ []) (restart_row ds)
  unfolding restart_row
  restart-within = row1-keeps reasons.Form (IsWithin numbered ds) (node-keeps ds) (λ a q. q)

  refresh-within : (f g : List ℕ) → Within numbered ds (f ∷ g ∷ []) (refresh_row ds)
  unfolding refresh_row
  refresh-within = row2-keeps reasons.Form (IsWithin numbered ds) (sender-keeps ds) address-keeps (λ a b p q. (p, q))

  plan-within : (f g h : List ℕ) → Within numbered ds (f ∷ g ∷ h ∷ []) (plan_row ds)
  unfolding plan_row
  plan-within = row3-keeps reasons.Form (IsWithin numbered ds) (agent-keeps ds) (any-keeps (kinds.number 0 4294967295)) (any-keeps (kinds.number 0 4294967295)) (λ a b c p q r. p)

  ask-within : (f : List ℕ) → Within numbered ds (f ∷ []) (ask_row ds)
  unfolding ask_row
  ask-within = row1-keeps reasons.Form (IsWithin numbered ds) (mobile-keeps ds) (λ a q. q)

  show-within : (f : List ℕ) → Within numbered ds (f ∷ []) (show_row ds)
  unfolding show_row
  show-within = row1-keeps reasons.Form (IsWithin numbered ds) (node-keeps ds) (λ a q. q)

  settle-within : (f g : List ℕ) → Within numbered ds (f ∷ g ∷ []) (settle_row ds)
  unfolding settle_row
  settle-within = row2-keeps reasons.Form (IsWithin numbered ds) (sender-keeps ds) (sender-keeps ds) (λ a b p q. (p, q))

plain-within : (ds : List Declaration) (c1 c2 c3 c4 c5 c6 c7 c8 c9 c10 : List ℕ) → Within false ds (c1 ∷ c2 ∷ c3 ∷ c4 ∷ c5 ∷ c6 ∷ c7 ∷ c8 ∷ c9 ∷ c10 ∷ []) (plain_bind_row ds)
plain-within ds c1 c2 c3 c4 c5 c6 c7 c8 c9 c10 x e =
    update-within false ds c1 c2 c3 c4 c5 c6 c7 c8 c9 c10 None (λ _ n is. subst (λ (m : ℕ). m < 1) (ok_is 0 n is) (omega arith)) x (sym (plain_split ds c1 c2 c3 c4 c5 c6 c7 c8 c9 c10) ∙ e)

numbered-within : (ds : List Declaration) (c1 c2 c3 c4 c5 c6 c7 c8 c9 c10 c11 : List ℕ)
    → Within true ds (c1 ∷ c2 ∷ c3 ∷ c4 ∷ c5 ∷ c6 ∷ c7 ∷ c8 ∷ c9 ∷ c10 ∷ c11 ∷ []) (numbered_bind_row ds)
numbered-within ds c1 c2 c3 c4 c5 c6 c7 c8 c9 c10 c11 x e =
    update-within true ds c1 c2 c3 c4 c5 c6 c7 c8 c9 c10 (Some c11) (λ _ n is. omega (arith, most-keeps 0 7 c11 n is)) x (sym (numbered_split ds c1 c2 c3 c4 c5 c6 c7 c8 c9 c10 c11) ∙ e)

-- an event whose line is read is within its bounds
pub event-within : (numbered : Bool) (ds : List Declaration) (x : Event) → event_fields numbered ds (event_text numbered ds x) ≡ Ok x → IsWithin numbered ds x
unfolding event_fields outsider_fields packet_fields node_fields
event-within numbered ds (events.Wait a) e = wait-within numbered ds _ _ e
event-within numbered ds (events.Move a b) e = move-within numbered ds _ _ _ e
event-within numbered ds (events.Advertise a) e = advertise-within numbered ds _ _ e
event-within numbered ds (events.Payload a b c d) e = data-within numbered ds _ _ _ _ _ e
event-within numbered ds (events.Inject a b c) e = inject-within numbered ds _ _ _ _ e
event-within numbered ds (events.Probe a b c d x f) e = probe-within numbered ds _ _ _ _ _ _ _ e
event-within true ds (events.Bind a b c d f g h i) e = numbered-within ds _ _ _ _ _ _ _ _ _ _ _ _ e
event-within false ds (events.Bind a b c d f g h i) e = plain-within ds _ _ _ _ _ _ _ _ _ _ _ e
event-within numbered ds (events.Tell a b c d) e = tell-within numbered ds _ _ _ _ _ e
event-within numbered ds (events.Listen a b) e = listen-within numbered ds _ _ _ e
event-within numbered ds (events.Deaf a b) e = deaf-within numbered ds _ _ _ e
event-within numbered ds (events.Squat a b) e = squat-within numbered ds _ _ _ e
event-within numbered ds (events.Yield a b) e = yield-within numbered ds _ _ _ e
event-within numbered ds (events.Deliver a) e = tt
event-within numbered ds (events.Repeat a) e = tt
event-within numbered ds (events.Lose a) e = tt
event-within numbered ds (events.Carry a) e = carry-within numbered ds _ _ e
event-within numbered ds (events.Restart a) e = restart-within numbered ds _ _ e
event-within numbered ds (events.Refresh a b) e = refresh-within numbered ds _ _ _ e
event-within numbered ds (events.Plan a b c) e = plan-within numbered ds _ _ _ _ e
event-within numbered ds (events.Ask a) e = ask-within numbered ds _ _ e
event-within numbered ds (events.Show a) e = show-within numbered ds _ _ e
event-within numbered ds (events.Settle a b) e = settle-within numbered ds _ _ _ e
