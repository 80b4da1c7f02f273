-- What is traced on sights stands among the entries of the history.
use Rattle.std.proofs.Common.{◌≡◌, ℕ, List, [], ◌∷◌, ◌++◌, Bool, true, false, refl, sym, ap, ◌∙◌, subst}
use Rattle.std.specs.Prelude.{map, Option, Some, None, ◌&&◌, ◌==◌, if◌then◌else◌, option_map}
use Rattle.std.specs.List.{list_any, find, filter_map}
use Rattle.std.specs.Option.{option_map_or, option_and_then}
use Rattle.std.specs.Str.{bytes_eq}
use Rattle.std.proofs.lemmas.Bool.{and_parts, and_from, or_parts, eq-eqb, eqb-true, false≢true}
use Rattle.std.proofs.lemmas.List.Folds.{list_any-append}
use Rattle.std.proofs.lemmas.List.{map-append}
use Rattle.mip_words.specs.declared.address.Address.{Address}
use Rattle.mip_words.specs.declared.ids.NodeId.{NodeId}
use Rattle.mip_words.proofs.LastLaws.{first_of_any}
use Rattle.mip_packets.specs.Says.{Carried, UpdateIdentity, carried}
use Rattle.mip_packets.specs.Says.Carried.{Test, Update, Other}
use Rattle.mip_entries.specs.declared.entry.Entry.{Entry}
use Rattle.mip_entries.specs.declared.entry.Entry.TheVariants as entries
use Rattle.mip_provenance.specs.declared.maker.Maker.{Maker}
use Rattle.mip_provenance.specs.declared.maker.Maker.TheVariants.{Node, Outsider}
use Rattle.mip_provenance.specs.Lists.{first_some, until, along}
use Rattle.mip_provenance.specs.Entries.{packet_told, packet_in, life_in}
use Rattle.mip_provenance.specs.Sights.{Sight, token_in, token_at, sight, sights}
use Rattle.mip_provenance.specs.Sights.Sight.{Sent, Heard, Handed}
use Rattle.mip_provenance.specs.ReachedLaws.{reaches, has_reached}
use Rattle.mip_provenance.specs.Names.{Name, Naming, is_agent, life_at, naming, namings, same_name, is_own}
use Rattle.mip_provenance.specs.Firsts.{Post, post_with, post_at, is_post, number_of, key_in, key_at, same_key, carries_key, first_update}
use Rattle.mip_provenance.specs.Origins.{IsTest, IsFirstOf, reaching, HasReached, WasSent}
use Rattle.mip_provenance.proofs.ListLaws.{first_some-found, until_at, along_here, along_found, least_passes, least_least, map_split}
use Rattle.mip_provenance.proofs.Tokens.{same_bytes, bytes_same}
use Rattle.mip_provenance.proofs.Plain.{lives_same, posts_same, packet_first, carries_of_key, key_of_carries, poster_step, is_post-some, unposted, number_member, key_same, same_self}

-- the first packet of an update among the entries, and the sights of those before it
pub record FirstStands (past : List Entry) (key : UpdateIdentity) (update : ℕ) (maker : Maker) : Type 0 where
  pub earlier : List Entry
  pub front : until (is_post update) (sights past) ≡ map (sight past) earlier
  pub first : IsFirstOf past key update maker earlier

pub key_of_test : (seen : List Sight) (key : UpdateIdentity) (k : ℕ) → carries_key seen key k ≡ true → key_at seen k ≡ Some key
key_of_test seen key k e = by (key_at seen k) refl e
  where
    by : (o : Option UpdateIdentity) → key_at seen k ≡ o → option_map_or (same_key key) o false ≡ true → key_at seen k ≡ Some key
    by None is e = absurd cc
    by (Some x) is e = is ∙ ap Some (sym (key_same key x e))

pub test_of_key : (seen : List Sight) (key : UpdateIdentity) (k : ℕ) → key_at seen k ≡ Some key → carries_key seen key k ≡ true
test_of_key seen key k e = ap (λ (o : Option UpdateIdentity). option_map_or (same_key key) o false) e ∙ same_self key

pub post_of_key : (seen : List Sight) (key : UpdateIdentity) (k : ℕ) → key_at seen k ≡ Some key → list_any (λ x. x == k) (filter_map number_of seen) ≡ true
post_of_key seen key k e = by (post_at seen k) refl e
  where
    by : (o : Option Post) → post_at seen k ≡ o → key_at seen k ≡ Some key → list_any (λ x. x == k) (filter_map number_of seen) ≡ true
    by None is e = absurd (let none : key_at seen k ≡ None = ap (λ (o : Option Post). option_and_then (λ p. key_in p.carried) o) is in cc)
    by (Some p) is e = number_member k seen p is

pub first_stands : (past : List Entry) (key : UpdateIdentity) (update : ℕ) (post : Post) → first_update (sights past) key ≡ Some update → post_at (sights past) update ≡ Some post
    → FirstStands past key update post.maker
unfolding sights first_update
first_stands past key update post e is =
    let s = first_some-found (post_with update) (sights past) post is in
    let m = map_split (sight past) past s.before s.here s.after s.whole in
    record {
      earlier = m.front;
      front = ap (until (is_post update)) s.whole ∙ until_at (is_post update) s.before s.here s.after (unposted update s.before s.none_before) (is_post-some update s.here post s.says_it) ∙ m.of_front;
      first = record {
        entry = m.item;
        later = m.rest;
        whole = m.whole;
        posts = poster_step past update m.item post (ap (post_with update) (sym m.of_item) ∙ s.says_it);
        unposted = none m.front (sym (posts_same past update m.front) ∙ ap (λ (o : Option Post). option_map (λ p. p.carried) o) (ap (first_some (post_with update)) (sym m.of_front) ∙ s.none_before));
        carries = carries_of_key past update key (key_of_test (sights past) key update (least_passes (carries_key (sights past) key) None (filter_map number_of (sights past)) update (λ b none. absurd cc) e));
        least = λ k c.
            let at : key_at (sights past) k ≡ Some key = key_of_carries past k key c in
            least_least (carries_key (sights past) key) None (filter_map number_of (sights past)) update k e (post_of_key (sights past) key k at) (test_of_key (sights past) key k at);
      };
    }
  where
    none : (es : List Entry) → option_map carried (first_some (packet_told update) es) ≡ None → packet_in es update ≡ None
    none es e = packet_first update es ∙ by (first_some (packet_told update) es) e
      where
        by : (o : Option (List ℕ)) → option_map carried o ≡ None → o ≡ None
        by None e = refl
        by (Some x) e = absurd cc

at_place : (front rest : List Entry) (x y : Entry) → x ≡ y → front ++ x ∷ rest ≡ front ++ y ∷ rest
at_place front rest x y e = ap (λ (z : Entry). front ++ z ∷ rest) e

same_node : (a b : NodeId) → (a.0 == b.0) ≡ true → a ≡ b
same_node a b e = ap (λ (n : ℕ). (let i : NodeId = record { 0 = n } in i)) (eqb-true a.0 b.0 e)

-- an entry by which a token came to somebody
record Came (past : List Entry) (maker : Maker) (token : List ℕ) (e : Entry) : Type 0 where
  number : ℕ
  is : e ≡ reaching maker number
  test : IsTest past number token

test_at : (past : List Entry) (k : ℕ) (t token : List ℕ) → token_at past k ≡ Some t → t ≡ token → IsTest past k token
test_at past k t token e same = by (packet_in past k) refl e
  where
    said : (packet : List ℕ) → packet_in past k ≡ Some packet → (c : Carried) → carried packet ≡ c → token_in c ≡ Some t → IsTest past k token
    said packet posted (Test kind index x address) is e =
        let first : x ≡ t = cc in
        record { packet = packet; posted = posted; kind = kind; index = index; address = address; says = is ∙ ap (λ (y : List ℕ). Test kind index y address) (first ∙ same) }
    said packet posted (Update key) is e = absurd cc
    said packet posted Other is e = absurd cc

    by : (o : Option (List ℕ)) → packet_in past k ≡ o → option_and_then (λ bytes. token_in (carried bytes)) o ≡ Some t → IsTest past k token
    by None is e = absurd cc
    by (Some packet) is e = said packet is (carried packet) refl e

came : (past : List Entry) (maker : Maker) (token : List ℕ) (e : Entry) → reaches maker token (sight past e) ≡ true → Came past maker token e
came past (Node node) token (entries.Handed number n) passes = by (token_at past number) refl passes
  where
    by : (o : Option (List ℕ)) → token_at past number ≡ o → reaches (Node node) token (Handed n.0 o) ≡ true → Came past (Node node) token (entries.Handed number n)
    by None is passes = absurd (false≢true (and_parts (n.0 == node.0) false passes).1)
    by (Some t) is passes =
        let parts = and_parts (n.0 == node.0) (bytes_eq t token) passes in
        record { number = number; is = ap (λ (m : NodeId). entries.Handed number m) (same_node n node parts.0); test = test_at past number t token is (same_bytes t token parts.1) }
came past (Outsider outsider) token (entries.Heard number o) passes = by (token_at past number) refl passes
  where
    by : (x : Option (List ℕ)) → token_at past number ≡ x → reaches (Outsider outsider) token (Heard o x) ≡ true → Came past (Outsider outsider) token (entries.Heard number o)
    by None is passes = absurd (false≢true (and_parts (o == outsider) false passes).1)
    by (Some t) is passes =
        let parts = and_parts (o == outsider) (bytes_eq t token) passes in
        record { number = number; is = ap (λ (m : ℕ). entries.Heard number m) (eqb-true o outsider parts.0); test = test_at past number t token is (same_bytes t token parts.1) }
came past (Node node) token _ passes = absurd (false≢true passes)
came past (Outsider outsider) token _ passes = absurd (false≢true passes)

pub reached_stands : (past earlier : List Entry) (maker : Maker) (token : List ℕ) → has_reached maker token (map (sight past) earlier) ≡ true → HasReached past earlier maker token
reached_stands past earlier maker token e =
    let s = first_of_any (reaches maker token) (map (sight past) earlier) e in
    let m = map_split (sight past) earlier s.before s.here s.after s.whole in
    let c = came past maker token m.item (ap (reaches maker token) (sym m.of_item) ∙ s.passes) in
    record {
      number = c.number;
      before = m.front;
      after = m.rest;
      whole = m.whole ∙ at_place m.front m.rest m.item (reaching maker c.number) c.is;
      test = c.test;
    }

-- the name of a token in a history
abbrev pub name_in : List Entry → NodeId → ℕ → ℕ → Address → Name
name_in past node kind index address = record { node = node.0; life = life_at node.0 (sights past); kind = kind; address = address; index = index }

same_address : (a b : Address) → (a.0 == b.0) ≡ true → a ≡ b
same_address a b e = ap (λ (n : ℕ). (let i : Address = record { 0 = n } in i)) (eqb-true a.0 b.0 e)

same_test : (k l i j : ℕ) (t u : List ℕ) (d a : Address) → k ≡ l → i ≡ j → t ≡ u → d ≡ a → Test k i t d ≡ Test l j u a
same_test k l i j t u d a e f g h = cc

-- an entry that names a token
record Named (past front : List Entry) (node : NodeId) (kind index : ℕ) (token : List ℕ) (address : Address) (n : Naming) (e : Entry) : Type 0 where
  shielded : Bool
  packet : List ℕ
  is : e ≡ entries.Sent n.number node shielded packet
  says : carried packet ≡ Test kind index token address
  no_agent : list_any (is_agent node.0) (map (sight past) front) ≡ false
  life : life_at node.0 (map (sight past) front) ≡ life_at node.0 (sights past)

named : (past front : List Entry) (node : NodeId) (kind index : ℕ) (token : List ℕ) (address : Address) (n : Naming) (e : Entry)
    → naming (map (sight past) front) (sight past e) ≡ Some n → is_own token (name_in past node kind index address) n ≡ true → Named past front node kind index token address n e
named past front node kind index token address n (entries.Sent number m shielded packet) says own = by (carried packet) refl says
  where
    at : (kind' index' : ℕ) (t : List ℕ) (d : Address) → carried packet ≡ Test kind' index' t d → (b : Bool) → list_any (is_agent m.0) (map (sight past) front) ≡ b
        → (if b then None else Some (record { number = number; token = t; name = record { node = m.0; life = life_at m.0 (map (sight past) front); kind = kind'; address = d; index = index' } })) ≡ Some n
        → Named past front node kind index token address n (entries.Sent number m shielded packet)
    at kind' index' t d is true agent says = absurd cc
    at kind' index' t d is false agent says =
        let here : Name = record { node = m.0; life = life_at m.0 (map (sight past) front); kind = kind'; address = d; index = index' } in
        let made : Naming = record { number = number; token = t; name = here } in
        let same : made ≡ n = cc in
        let last : ℕ = life_at node.0 (sights past) in
        let parts = and_parts (bytes_eq t token) (same_name here (name_in past node kind index address)) (ap (is_own token (name_in past node kind index address)) same ∙ own) in
        let four = and_parts (m.0 == node.0 && here.life == last && kind' == kind && d.0 == address.0) (index' == index) parts.1 in
        let three = and_parts (m.0 == node.0 && here.life == last && kind' == kind) (d.0 == address.0) four.0 in
        let two = and_parts (m.0 == node.0 && here.life == last) (kind' == kind) three.0 in
        let one = and_parts (m.0 == node.0) (here.life == last) two.0 in
        let nodes : m ≡ node = same_node m node one.0 in
        let lives : life_at m.0 (map (sight past) front) ≡ life_at node.0 (sights past) = eqb-true here.life last one.1 in
        record {
          shielded = shielded;
          packet = packet;
          is = ap (λ (x : Naming). entries.Sent x.number m shielded packet) same ∙ ap (λ (x : NodeId). entries.Sent n.number x shielded packet) nodes;
          says = is ∙ same_test kind' kind index' index t token d address (eqb-true kind' kind two.1) (eqb-true index' index four.1) (same_bytes t token parts.0) (same_address d address three.1);
          no_agent = subst (λ (x : NodeId). list_any (is_agent x.0) (map (sight past) front) ≡ false) nodes agent;
          life = subst (λ (x : NodeId). life_at x.0 (map (sight past) front) ≡ life_at node.0 (sights past)) nodes lives;
        }

    by : (c : Carried) → carried packet ≡ c → naming (map (sight past) front) (Sent number m.0 c) ≡ Some n → Named past front node kind index token address n (entries.Sent number m shielded packet)
    by (Test kind' index' t d) is says = at kind' index' t d is (list_any (is_agent m.0) (map (sight past) front)) refl says
    by (Update key) is says = absurd cc
    by Other is says = absurd cc
named past front node kind index token address n _ says own = absurd cc

-- no earlier packet of this life says the same
none_sent : (past front before : List Entry) (node : NodeId) (kind index : ℕ) (token : List ℕ) (address : Address) (k : ℕ) (hidden : Bool) (other : List ℕ) (after : List Entry)
    → list_any (is_own token (name_in past node kind index address)) (along naming [] (map (sight past) front)) ≡ false
    → list_any (is_agent node.0) (map (sight past) front) ≡ false
    → front ≡ before ++ entries.Sent k node hidden other ∷ after
    → life_in before node.0 ≡ life_in past node.0
    → carried other ≡ Test kind index token address
    → ⊥
unfolding sights
none_sent past front before node kind index token address k hidden other after none no_agent whole life says =
    let name : Name = name_in past node kind index address in
    let cut : map (sight past) front ≡ map (sight past) before ++ Sent k node.0 (carried other) ∷ map (sight past) after =
    ap (map (sight past)) whole ∙ map-append (sight past) before (entries.Sent k node hidden other ∷ after) in
    let quiet : list_any (is_agent node.0) (map (sight past) before) ≡ false =
    (or_parts (list_any (is_agent node.0) (map (sight past) before)) (list_any (is_agent node.0) (Sent k node.0 (carried other) ∷ map (sight past) after))
    (sym (list_any-append (is_agent node.0) (map (sight past) before) (Sent k node.0 (carried other) ∷ map (sight past) after)) ∙ ap (list_any (is_agent node.0)) (sym cut) ∙ no_agent)).0 in
    let n : Naming = record { number = k; token = token; name = record { node = node.0; life = life_at node.0 (map (sight past) before); kind = kind; address = address; index = index } } in
    let names : naming (map (sight past) before) (Sent k node.0 (carried other)) ≡ Some n =
    ap (λ (c : Carried). naming (map (sight past) before) (Sent k node.0 c)) says ∙ ap (λ (b : Bool). if b then None else Some n) quiet in
    let lives : life_at node.0 (map (sight past) before) ≡ life_at node.0 (map (sight past) past) =
    lives_same past node.0 0 before ∙ life ∙ sym (lives_same past node.0 0 past) in
    let own : is_own token name n ≡ true =
    and_from (bytes_eq token token) (same_name n.name name) (bytes_same token token refl)
    (and_from (node.0 == node.0 && n.name.life == name.life && kind == kind && address.0 == address.0) (index == index)
    (and_from (node.0 == node.0 && n.name.life == name.life && kind == kind) (address.0 == address.0)
    (and_from (node.0 == node.0 && n.name.life == name.life) (kind == kind)
    (and_from (node.0 == node.0) (n.name.life == name.life) (eq-eqb node.0 node.0 refl) (eq-eqb n.name.life name.life lives))
    (eq-eqb kind kind refl))
    (eq-eqb address.0 address.0 refl))
    (eq-eqb index index refl)) in
    false≢true (sym none ∙ ap (λ (l : List Sight). list_any (is_own token name) (along naming [] l)) cut
    ∙ along_here naming (is_own token name) (map (sight past) before) (Sent k node.0 (carried other)) (map (sight past) after) n names own)

pub sent_stands : (past : List Entry) (node : NodeId) (kind index : ℕ) (token : List ℕ) (address : Address) (n : Naming)
    → find (is_own token (name_in past node kind index address)) (namings (sights past)) ≡ Some n → WasSent past node n.number kind index token address
unfolding sights
sent_stands past node kind index token address n e =
    let s = along_found naming (is_own token (name_in past node kind index address)) [] (map (sight past) past) n e in
    let m = map_split (sight past) past s.before s.here s.after s.whole in
    let d = named past m.front node kind index token address n m.item
    (ap (λ (l : List Sight). naming l (sight past m.item)) (sym m.of_front) ∙ ap (naming s.before) (sym m.of_item) ∙ s.says_it) s.passes in
    record {
      earlier = m.front;
      shielded = d.shielded;
      packet = d.packet;
      later = m.rest;
      whole = m.whole ∙ at_place m.front m.rest m.item (entries.Sent n.number node d.shielded d.packet) d.is;
      this_life = sym (lives_same past node.0 0 m.front) ∙ d.life ∙ lives_same past node.0 0 past;
      says = d.says;
      first = λ before k hidden other after.
          none_sent past m.front before node kind index token address k hidden other after (ap (λ (l : List Sight). list_any (is_own token (name_in past node kind index address)) (along naming [] l)) (sym m.of_front) ∙ s.none_before) d.no_agent;
    }
