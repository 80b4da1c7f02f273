-- The sights of a permitted history, and of each front of it, are lawful.
use Rattle.std.proofs.Common.{◌≡◌, ℕ, ◌<◌, List, [], ◌∷◌, ◌++◌, Bool, true, false, length, refl, sym, ap, ◌∙◌, subst, arith}
use Rattle.std.specs.Prelude.{map, Option, Some, None, IfSome, option_map, ◌||◌, ◌==◌, if◌then◌else◌, get_or, slice_get}
use Rattle.std.specs.Str.{bytes_eq}
use Rattle.std.specs.List.{list_any}
use Rattle.std.specs.Option.{option_or, option_and_then}
use Rattle.std.proofs.lemmas.Bool.{or_left, or_right, and_from, eqb-true, eq-eqb}
use Rattle.std.proofs.lemmas.List.{append_assoc, map-append}
use Rattle.std.proofs.lemmas.Option.{slice_get-get_or, slice_get_past}
use Rattle.mip_words.specs.EachAfter.{EachAfter}
use Rattle.mip_words.specs.declared.token.Token.{Token}
use Rattle.mip_words.proofs.EachLaws.{each_at}
use Rattle.mip_packets.specs.Says.{Carried, Test, Update, Other, carried}
use Rattle.mip_entries.specs.declared.entry.Entry.{Entry}
use Rattle.mip_entries.specs.declared.entry.Entry.TheVariants as entries
use Rattle.mip_entries.specs.Completed.{node_id}
use Rattle.mip_provenance.specs.Lists.{first_some}
use Rattle.mip_provenance.specs.Entries.{packet_told, packet_in}
use Rattle.mip_provenance.specs.Sights.Sight.{Sent, Handed}
use Rattle.mip_provenance.specs.Sights.{Sight, token_in, token_at, sight, sights}
use Rattle.mip_provenance.specs.ReachedLaws.{says_token, carries, is_handed}
use Rattle.mip_provenance.specs.Names.{is_agent}
use Rattle.mip_provenance.specs.Firsts.{is_post}
use Rattle.mip_provenance.specs.Laws.{WasPosted, IsLawful, AreLawful}
use Rattle.mip_provenance.proofs.ListLaws.{each_before, fold_first}
use Rattle.mip_provenance.proofs.Tokens.{bytes_same}
use Rattle.mip_provenance.proofs.Plain.{packet_first}
use Rattle.mip_history.specs.Setup.{Setup, Kind}
use Rattle.mip_history.specs.Setup.Kind.{Agent}
use Rattle.mip_history.specs.Bound as bound
use Rattle.mip_history.specs.BoundLaws.{packets_of}
use Rattle.mip_history.proofs.Numbered.{IsNumbered, packet_numbered}
use Rattle.mip_law_origin.specs.OwnHistoriesLaws.{kind_at, is_agent_kind, HasCome, IsRightFrom, IsOwnEntry}

-- the packets of a history are found alike
told_alike : (k : ℕ) (e : Entry) → bound.packet_told k e ≡ packet_told k e
told_alike k (entries.Sent number node shielded packet) = refl
told_alike k _ = refl

first_alike : (k : ℕ) (es : List Entry) → first_some (bound.packet_told k) es ≡ first_some (packet_told k) es
first_alike k [] = refl
first_alike k (e ∷ es) =
    ap (λ (o : Option (List ℕ)). option_or o (first_some (bound.packet_told k) es)) (told_alike k e)
    ∙ ap (λ (o : Option (List ℕ)). option_or (packet_told k e) o) (first_alike k es)

pub packet_alike : (k : ℕ) (es : List Entry) → bound.packet_in es k ≡ packet_in es k
packet_alike k es = fold_first (bound.packet_told k) None es ∙ first_alike k es ∙ sym (packet_first k es)

-- the first packet of a number stays the first
first_append : (k : ℕ) (front rest : List Entry) (bytes : List ℕ) → first_some (packet_told k) front ≡ Some bytes → first_some (packet_told k) (front ++ rest) ≡ Some bytes
first_append k [] rest bytes found = absurd cc
first_append k (e ∷ front) rest bytes found = by (packet_told k e) (first_append k front rest bytes) found
  where
    by : (o : Option (List ℕ)) → (first_some (packet_told k) front ≡ Some bytes → first_some (packet_told k) (front ++ rest) ≡ Some bytes)
        → option_or o (first_some (packet_told k) front) ≡ Some bytes → option_or o (first_some (packet_told k) (front ++ rest)) ≡ Some bytes
    by (Some x) again found = found
    by None again found = again found

token_says : (c : Carried) (t : List ℕ) → token_in c ≡ Some t → says_token t c ≡ true
token_says (Test kind index u destination) t e = bytes_same u t (let same : u ≡ t = cc in same)
token_says (Update key) t e = absurd cc
token_says Other t e = absurd cc

none_of : (b : Bool) (x : List ℕ) → (let o : Option (List ℕ) = (if b then Some x else None) in o) ≡ None → b ≡ false
none_of true x e = absurd cc
none_of false x e = refl

if_some : (b : Bool) (x y : List ℕ) → (let o : Option (List ℕ) = (if b then Some x else None) in o) ≡ Some y → x ≡ y
if_some true x y e = cc
if_some false x y e = absurd cc

module _ (past : List Entry) where
  abbrev seen : List Entry → List Sight
  seen front = map (sight past) front

  -- who posts a test carries its token
  told_carries : (k : ℕ) (e : Entry) (bytes t : List ℕ) → packet_told k e ≡ Some bytes → token_in (carried bytes) ≡ Some t → carries t (sight past e) ≡ true
  told_carries k (entries.Sent number node shielded packet) bytes t told token =
      token_says (carried packet) t (ap (λ (b : List ℕ). token_in (carried b)) (if_some (number == k) packet bytes told) ∙ token)
  told_carries k (entries.Injected number outsider link packet) bytes t told token =
      token_says (carried packet) t (ap (λ (b : List ℕ). token_in (carried b)) (if_some (number == k) packet bytes told) ∙ token)
  told_carries k _ bytes t told token = absurd cc

  posted_carries : (k : ℕ) (front : List Entry) (bytes t : List ℕ) → first_some (packet_told k) front ≡ Some bytes → token_in (carried bytes) ≡ Some t → list_any (carries t) (seen front) ≡ true
  posted_carries k [] bytes t found token = absurd cc
  posted_carries k (e ∷ front) bytes t found token = by (packet_told k e) refl (λ f. posted_carries k front bytes t f token) found
    where
      by : (o : Option (List ℕ)) → packet_told k e ≡ o → (first_some (packet_told k) front ≡ Some bytes → list_any (carries t) (seen front) ≡ true)
          → option_or o (first_some (packet_told k) front) ≡ Some bytes → list_any (carries t) (seen (e ∷ front)) ≡ true
      by (Some x) told again found = or_left (carries t (sight past e)) (list_any (carries t) (seen front)) (told_carries k e bytes t (told ∙ found) token)
      by None told again found = or_right (carries t (sight past e)) (list_any (carries t) (seen front)) (again found)

  -- who registered a home is an agent
  agents_are : (s : Setup) (node : ℕ) (f front : List Entry) → EachAfter (IsOwnEntry s) f front → list_any (is_agent node) (seen front) ≡ true → is_agent_kind (kind_at s node) ≡ true
  agents_are s node f [] own any = absurd cc
  agents_are s node f (e ∷ front) own any = by e own.0 any (agents_are s node (f ++ e ∷ []) front own.1)
    where
      at : (n : ℕ) (b : Bool) → (n == node) ≡ b → is_agent_kind (kind_at s n) ≡ true → (b || list_any (is_agent node) (seen front)) ≡ true
          → (list_any (is_agent node) (seen front) ≡ true → is_agent_kind (kind_at s node) ≡ true) → is_agent_kind (kind_at s node) ≡ true
      at n true same owned any more = subst (λ (m : ℕ). is_agent_kind (kind_at s m) ≡ true) (eqb-true n node same) owned
      at n false same owned any more = more any

      by : (e : Entry) → IsOwnEntry s f e → (is_agent node (sight past e) || list_any (is_agent node) (seen front)) ≡ true
          → (list_any (is_agent node) (seen front) ≡ true → is_agent_kind (kind_at s node) ≡ true) → is_agent_kind (kind_at s node) ≡ true
      by (entries.Home n home careof sequence end) owned any more = at n.0 (n.0 == node) refl owned any more
      by _ owned any more = more any

  -- an agent sends a test only if it was handed to it
  agent_sends : (s : Setup) (front : List Entry) (n : ℕ) (packet : List ℕ) (o : Option Kind) → is_agent_kind o ≡ true → IsRightFrom s front n packet o → IfSome (token_in (carried packet)) (HasCome front n)
  agent_sends s front n packet (Some (Agent preference life room serves)) is right = right
  agent_sends s front n packet _ is right = absurd cc

  -- a number that no packet has is not posted
  not_posted : (k : ℕ) (e : Entry) → packet_told k e ≡ None → is_post k (sight past e) ≡ false
  not_posted k (entries.Sent number node shielded packet) none = none_of (number == k) packet none
  not_posted k (entries.Injected number outsider link packet) none = none_of (number == k) packet none
  not_posted k _ none = refl

  none_posted : (k : ℕ) (front : List Entry) → first_some (packet_told k) front ≡ None → list_any (is_post k) (seen front) ≡ false
  none_posted k [] none = refl
  none_posted k (e ∷ front) none = by (packet_told k e) refl (none_posted k front) none
    where
      by : (o : Option (List ℕ)) → packet_told k e ≡ o → (first_some (packet_told k) front ≡ None → list_any (is_post k) (seen front) ≡ false)
          → option_or o (first_some (packet_told k) front) ≡ None → list_any (is_post k) (seen (e ∷ front)) ≡ false
      by None told more none = ap (λ (b : Bool). b || list_any (is_post k) (seen front)) (not_posted k e told) ∙ more none
      by (Some x) told more none = absurd cc

  any_middle : (p : Sight → Bool) (before : List Sight) (x : Sight) (after : List Sight) → p x ≡ true → list_any p (before ++ x ∷ after) ≡ true
  any_middle p [] x after is = or_left (p x) (list_any p after) is
  any_middle p (y ∷ before) x after is = or_right (p y) (list_any p (before ++ x ∷ after)) (any_middle p before x after is)

  module _ (s : Setup) (each : EachAfter (IsNumbered s) [] past) (own : EachAfter (IsOwnEntry s) [] past) where
    met_before : (front rest : List Entry) → past ≡ front ++ rest → EachAfter (IsNumbered s) [] front
    met_before front rest whole = each_before (IsNumbered s) [] front rest (subst (λ (l : List Entry). EachAfter (IsNumbered s) [] l) whole each)

    -- the first packet with a number is found there
    first_is : (front rest : List Entry) → past ≡ front ++ rest → (number : ℕ) (o : Option (List ℕ)) → slice_get (packets_of front) number ≡ o → first_some (packet_told number) front ≡ o
    first_is front rest whole number o got =
        sym (packet_first number front) ∙ sym (packet_alike number front) ∙ packet_numbered s front number (met_before front rest whole) ∙ got

    found_later : (front rest : List Entry) → past ≡ front ++ rest → (number : ℕ) (bytes : List ℕ) → first_some (packet_told number) front ≡ Some bytes → packet_in past number ≡ Some bytes
    found_later front rest whole number bytes there =
        ap (λ (l : List Entry). packet_in l number) whole ∙ packet_first number (front ++ rest) ∙ first_append number front rest bytes there

    -- a packet that was posted in front
    posted_before : (front rest : List Entry) → past ≡ front ++ rest → (number : ℕ) → number < length (packets_of front) → WasPosted (seen front) (token_at past number)
    posted_before front rest whole number inside =
        let bytes : List ℕ = get_or (packets_of front) number [] in
        let there : first_some (packet_told number) front ≡ Some bytes = first_is front rest whole number (Some bytes) (slice_get-get_or (packets_of front) number [] inside) in
        subst (λ (o : Option (List ℕ)). WasPosted (seen front) (option_and_then (λ b. token_in (carried b)) o)) (sym (found_later front rest whole number bytes there)) (by bytes there (token_in (carried bytes)) refl)
      where
        by : (bytes : List ℕ) → first_some (packet_told number) front ≡ Some bytes → (o : Option (List ℕ)) → token_in (carried bytes) ≡ o → WasPosted (seen front) o
        by bytes there None token = tt
        by bytes there (Some t) token = posted_carries number front bytes t there token

    -- a test that came to a node was posted, and is seen to come
    come_carries : (front rest : List Entry) → past ≡ front ++ rest → (n : ℕ) (t : List ℕ) → HasCome front n t → list_any (carries t) (seen front) ≡ true
    come_carries front rest whole n t c = posted_carries c.number front c.bytes t (first_is front rest whole c.number (Some c.bytes) c.posted) c.says

    come_handed : (front rest : List Entry) → past ≡ front ++ rest → (n : ℕ) (t : List ℕ) → HasCome front n t → list_any (is_handed n t) (seen front) ≡ true
    come_handed front rest whole n t c =
        let here : token_at past c.number ≡ Some t =
        ap (λ (o : Option (List ℕ)). option_and_then (λ b. token_in (carried b)) o)
        (found_later front rest whole c.number c.bytes (first_is front rest whole c.number (Some c.bytes) c.posted)) ∙ c.says in
        let is : is_handed n t (Handed n (token_at past c.number)) ≡ true =
        ap (λ (o : Option (List ℕ)). is_handed n t (Handed n o)) here ∙ and_from (n == n) (bytes_eq t t) (eq-eqb n n refl) (bytes_same t t refl) in
        ap (λ (l : List Entry). list_any (is_handed n t) (seen l)) c.whole
        ∙ ap (list_any (is_handed n t)) (map-append (sight past) c.before (entries.Handed c.number (node_id n) ∷ c.after))
        ∙ any_middle (is_handed n t) (seen c.before) (Handed n (token_at past c.number)) (seen c.after) is

    if_come_handed : (front rest : List Entry) → past ≡ front ++ rest → (n : ℕ) (o : Option Token) → IfSome o (λ t. HasCome front n t.0) → IfSome (option_map (λ t. t.0) o) (λ q. list_any (is_handed n q) (seen front) ≡ true)
    if_come_handed front rest whole n None come = tt
    if_come_handed front rest whole n (Some t) come = come_handed front rest whole n t.0 come

    own_before : (front rest : List Entry) → past ≡ front ++ rest → EachAfter (IsOwnEntry s) [] front
    own_before front rest whole = each_before (IsOwnEntry s) [] front rest (subst (λ (l : List Entry). EachAfter (IsOwnEntry s) [] l) whole own)

    law_here : (front rest : List Entry) (e : Entry) → past ≡ front ++ rest → IsNumbered s front e → IsOwnEntry s front e → IsLawful (seen front) (sight past e)
    law_here front rest (entries.Sent number node shielded packet) whole meets owned = by (carried packet) refl
      where
        by : (c : Carried) → carried packet ≡ c → IsLawful (seen front) (Sent number node.0 c)
        by (Test kind index token destination) is = λ agent.
            let came : IfSome (token_in (carried packet)) (HasCome front node.0) =
            agent_sends s front node.0 packet (kind_at s node.0) (agents_are s node.0 [] front (own_before front rest whole) agent) owned in
            come_carries front rest whole node.0 token (subst (λ (c : Carried). IfSome (token_in c) (HasCome front node.0)) is came)
        by (Update key) is = tt
        by Other is = tt
    law_here front rest (entries.Heard number outsider) whole meets owned = posted_before front rest whole number meets
    law_here front rest (entries.Handed number node) whole meets owned = posted_before front rest whole number meets
    law_here front rest (entries.Made node peer number home careof) whole meets owned = record {
      unposted = none_posted number front (first_is front rest whole number None (slice_get_past (packets_of front) number (omega (arith, owned.next))));
      home_came = come_handed front rest whole node.0 home.0 owned.home_came;
      careof_came = if_come_handed front rest whole node.0 careof owned.careof_came;
    }
    law_here front rest _ whole meets owned = tt

    lawful_from : (front rest : List Entry) → past ≡ front ++ rest → EachAfter IsLawful (seen front) (seen rest)
    lawful_from front [] whole = tt
    lawful_from front (e ∷ rest) whole =
        let next : past ≡ (front ++ e ∷ []) ++ rest = whole ∙ sym (append_assoc front (e ∷ []) rest) in (
          law_here front (e ∷ rest) e whole
              (each_at (IsNumbered s) [] front e rest (subst (λ (l : List Entry). EachAfter (IsNumbered s) [] l) whole each))
              (each_at (IsOwnEntry s) [] front e rest (subst (λ (l : List Entry). EachAfter (IsOwnEntry s) [] l) whole own)),
          subst (λ (l : List Sight). EachAfter IsLawful l (seen rest)) (map-append (sight past) front (e ∷ [])) (lawful_from (front ++ e ∷ []) rest next),
        )

    pub lawful_sights : AreLawful (sights past)
    unfolding sights
    lawful_sights = lawful_from [] past refl
