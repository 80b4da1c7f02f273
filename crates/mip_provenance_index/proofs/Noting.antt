-- An index stands for a history and one more entry.
use Rattle.std.proofs.Common.{◌≡◌, ℕ, List, [], ◌∷◌, ◌++◌, length, Bool, true, false, refl, sym, ap, ◌∙◌, subst, arith}
use Rattle.std.specs.Prelude.{Option, Some, None, ◌||◌, option_map}
use Rattle.std.specs.List.{list_any, filter_map, cons_option}
use Rattle.std.specs.Option.{option_or, option_map_or}
use Rattle.std.specs.Str.{bytes_eq}
use Rattle.std.proofs.lemmas.List.{append-nil}
use Rattle.std.proofs.lemmas.List.Sums.{fold-append}
use Rattle.mip_words.specs.declared.address.Address.{Address}
use Rattle.mip_words.specs.declared.ids.NodeId.{NodeId}
use Rattle.mip_words.specs.declared.token.Token.{Token}
use Rattle.mip_words.specs.Last.{or_else}
use Rattle.mip_packets.specs.Says.{UpdateIdentity}
use Rattle.mip_entries.specs.declared.entry.Entry.{Entry}
use Rattle.mip_entries.specs.declared.entry.Entry.TheVariants as entries
use Rattle.mip_provenance.specs.Lists.{first_some, along}
use Rattle.mip_provenance.specs.Entries.{claims, declared_in}
use Rattle.mip_provenance.specs.Sights.{Sight, token_at, sight}
use Rattle.mip_provenance.specs.Sights.Sight.{Heard, Handed, Quiet}
use Rattle.mip_provenance.specs.Reached.{is_heard, values}
use Rattle.mip_provenance.specs.Names.{Naming, naming, namings}
use Rattle.mip_provenance.specs.Firsts.{number_of, first_update}
use Rattle.mip_provenance.specs.Pairs.{made_with}
use Rattle.mip_provenance.specs.Causes.{early, is_early}
use Rattle.mip_provenance_index.specs.declared.arrival.Arrival.{Arrival}
use Rattle.mip_provenance_index.specs.declared.first.First.{First}
use Rattle.mip_provenance_index.specs.declared.heard.Heard.{Heard as TheHeard}
use Rattle.mip_provenance.specs.declared.known.Known.{Known}
use Rattle.mip_provenance_index.specs.declared.sight.Sight.{Sight as Seen}
use Rattle.mip_provenance_index.specs.declared.sight.Sight.TheVariants as seen
use Rattle.mip_provenance_index.specs.declared.provenance_index.ProvenanceIndex.{ProvenanceIndex}
use Rattle.mip_provenance_index.specs.Sights.{sight_of, token_posted, token_sighted, glimpse, is_mute, seen_behind, seen_in}
use Rattle.mip_provenance_index.specs.Nodes.{stranger, known_at, known_step}
use Rattle.mip_provenance_index.specs.Names.{kept_of, named_at, kept_at, naming_known, kept_step}
use Rattle.mip_provenance_index.specs.Heard.{has_come, heard_by, arrivals_new}
use Rattle.mip_provenance_index.specs.Early.{is_used, early_known}
use Rattle.mip_provenance_index.specs.Made.{made_at}
use Rattle.mip_provenance_index.specs.Updates.{AreOf, update_at, update_posted, look_step, at_step}
use Rattle.mip_provenance_index.specs.Addresses.{address_at}
use Rattle.mip_provenance_index.specs.Stands.{numbers, IsNumber, AreNumberedFrom, known_of, IsKept, AreAlike, IsFirstAtIf, UpdatesStand, StandsFor, number_posted, IsNext, IsHeard}
use Rattle.mip_provenance_index.proofs.Steps.{any_more, along_one, known_more, naming_same, heard_values, early_same, early_more, made_more}
use Rattle.mip_provenance_index.proofs.Kept.{names_more}
use Rattle.mip_provenance_index.proofs.Numbers.{numbered_more}
use Rattle.mip_provenance_index.proofs.Updating.{updates_more}

-- what each index is after one more sight
pub record Noted (w v : ProvenanceIndex) (found : Seen) (e : Entry) : Type 0 where
  pub names : (t : List ℕ) → kept_at v.names t ≡ kept_step t (naming_known (known_at w.nodes) (sight_of found)) (kept_at w.names t)
  pub early : (t : List ℕ) → is_used v.early t ≡ (is_used w.early t || option_map_or (bytes_eq t) (early_known (has_come w.heard) (sight_of found)) false)
  pub keys : (look : UpdateIdentity → Option First) → AreOf w.updates look → AreOf v.updates (look_step (length w.heard.list.items) (update_posted (sight_of found)) look)
  pub numbers : (look : UpdateIdentity → Option First) → AreOf w.updates look → (k : ℕ) → update_at v.updates k ≡ at_step (length w.heard.list.items) (update_posted (sight_of found)) look (update_at w.updates) k
  pub made : (n k : ℕ) → made_at v.made n k ≡ option_or (made_at w.made n k) (made_with n k (sight_of found))
  pub heard : (o : ℕ) (t : List ℕ) → has_come v.heard o t ≡ (has_come w.heard o t || is_heard o t (sight_of found))
  pub list : v.heard.list.items ≡ w.heard.list.items ++ arrivals_new (has_come w.heard) found
  pub nodes : (n : ℕ) → known_at v.nodes n ≡ known_step n (sight_of found) (known_at w.nodes n)
  pub addresses : (n : ℕ) → address_at v.addresses n ≡ or_else (address_at w.addresses n) (claims n e)

-- packets are numbered by the same entries
number_same : (past : List Entry) (e : Entry) → number_of (sight past e) ≡ number_posted e
number_same past (entries.Sent number node shielded packet) = refl
number_same past (entries.Injected number outsider link packet) = refl
number_same past _ = refl

numbers_same : (front es : List Entry) → numbers (along seen_behind front es) ≡ filter_map number_posted es
numbers_same front [] = refl
numbers_same front (e ∷ es) =
    ap (λ (o : Option ℕ). cons_option o (numbers (along seen_behind (front ++ e ∷ []) es))) (number_same front e)
    ∙ ap (λ (l : List ℕ). cons_option (number_posted e) l) (numbers_same (front ++ e ∷ []) es)

-- an entry is seen as it stands behind those before it
sight_told : (past : List Entry) (e : Entry) (packet : Option (List ℕ)) → IsHeard past e packet → ((number : ℕ) (node : NodeId) → e ≡ entries.Handed number node → ⊥) → glimpse packet e ≡ sight past e
sight_told past (entries.Heard number outsider) packet is other = ap (Heard outsider) is
sight_told past (entries.Handed number node) packet is other = absurd (other number node refl)
sight_told past _ packet is other = refl

seen_more : (past : List Entry) (e : Entry) → seen_in (past ++ e ∷ []) ≡ seen_in past ++ sight past e ∷ []
unfolding seen_in
seen_more past e = along_one seen_behind past e

-- the token of what an entry posts, by its sight
pub posted_token : (token : Option (List ℕ)) (e : Entry) → token_sighted (glimpse token e) ≡ token_posted e
posted_token token (entries.Sent number node shielded packet) = refl
posted_token token (entries.Injected number outsider link packet) = refl
posted_token token _ = refl

-- the record over a list of sights, so that it can be moved from one to another
record Standing (w : ProvenanceIndex) (past : List Entry) (ss : List Sight) : Type 0 where
  numbered : AreNumberedFrom 0 ss
  addresses : (n : ℕ) → address_at w.addresses n ≡ declared_in past n
  nodes : (n : ℕ) → known_at w.nodes n ≡ known_of n ss
  names : (t : List ℕ) → IsKept (namings ss) t (kept_at w.names t)
  heard : (o : ℕ) (t : List ℕ) → has_come w.heard o t ≡ list_any (is_heard o t) ss
  values : (o : ℕ) → AreAlike (heard_by o w.heard.list.items) (values o ss)
  early : (t : List ℕ) → is_used w.early t ≡ is_early ss t
  made : (n k : ℕ) → made_at w.made n k ≡ first_some (made_with n k) ss
  updates : UpdatesStand w.updates w.heard.list.items ss

standing_more : (w v : ProvenanceIndex) (past : List Entry) (e : Entry) (found : Seen) → StandsFor w past → IsNumber (number_of (sight_of found)) (length (numbers (seen_in past))) → Noted w v found e
    → Standing v (past ++ e ∷ []) (seen_in past ++ sight_of found ∷ [])
standing_more w v past e found old next is =
    let ss : List Sight = seen_in past in
    let s : Sight = sight_of found in
    record {
      numbered = numbered_more 0 ss s old.numbered (subst (IsNumber (number_of s)) (omega arith) next);
      addresses = λ n.
          is.addresses n ∙ ap (λ (o : Option Address). or_else o (claims n e)) (old.addresses n)
          ∙ sym (fold-append (λ (o : Option Address) (x : Entry). or_else o (claims n x)) None past (e ∷ []));
      nodes = λ n. is.nodes n ∙ ap (known_step n s) (old.nodes n) ∙ known_more n ss s;
      names = λ t.
          subst (λ (l : List Naming). IsKept l t (kept_at v.names t)) (sym (along_one naming ss s))
          (subst (IsKept (namings ss ++ cons_option (naming ss s) []) t) (ap (λ (m : Option Naming). kept_step t m (kept_at w.names t)) (sym (naming_same (known_at w.nodes) ss s old.nodes)) ∙ sym (is.names t))
          (names_more (namings ss) t (naming ss s) (kept_at w.names t) (old.names t)));
      heard = λ o t. is.heard o t ∙ ap (λ (b : Bool). b || is_heard o t s) (old.heard o t) ∙ any_more (is_heard o t) ss s;
      values = λ o.
          subst (λ (l : List Arrival). AreAlike (heard_by o l) (values o (ss ++ s ∷ []))) (sym is.list)
          (heard_values (has_come w.heard) w.heard.list.items ss found o old.heard (old.values o));
      early = λ t.
          is.early t
          ∙ ap (λ (o : Option (List ℕ)). is_used w.early t || option_map_or (bytes_eq t) o false) (early_same (has_come w.heard) ss s old.heard)
          ∙ ap (λ (b : Bool). b || option_map_or (bytes_eq t) (early ss s) false) (old.early t)
          ∙ early_more ss s t;
      made = λ n k. is.made n k ∙ ap (λ (o : Option _). option_or o (made_with n k s)) (old.made n k) ∙ made_more ss s n k;
      updates =
          subst (λ (l : List Arrival). UpdatesStand v.updates l (ss ++ s ∷ [])) (sym is.list)
          (updates_more w.heard.list.items (arrivals_new (has_come w.heard) found) ss s old.numbered next old.values w.updates v.updates old.updates is.keys is.numbers);
    }

stands_seen : (w v : ProvenanceIndex) (past : List Entry) (e : Entry) (found : Seen) → StandsFor w past → IsNext past e → sight_of found ≡ sight past e → Noted w v found e → StandsFor v (past ++ e ∷ [])
unfolding seen_in
stands_seen w v past e found old next same is =
    let number : number_of (sight_of found) ≡ number_posted e = ap number_of same ∙ number_same past e in
    let whole : seen_in past ++ sight_of found ∷ [] ≡ seen_in (past ++ e ∷ []) = ap (λ (x : Sight). seen_in past ++ x ∷ []) same ∙ sym (seen_more past e) in
    let counted : IsNumber (number_of (sight_of found)) (length (numbers (seen_in past))) =
    subst (λ (o : Option ℕ). IsNumber o (length (numbers (seen_in past)))) (sym number)
    (subst (λ (l : List ℕ). IsNumber (number_posted e) (length l)) (sym (numbers_same [] past)) next) in
    let s : Standing v (past ++ e ∷ []) (seen_in (past ++ e ∷ [])) = subst (Standing v (past ++ e ∷ [])) whole (standing_more w v past e found old counted is) in
    record {
      numbered = s.numbered;
      addresses = s.addresses;
      nodes = s.nodes;
      names = s.names;
      heard = s.heard;
      values = s.values;
      early = s.early;
      made = s.made;
      updates = s.updates;
    }

-- what was handed over changes no index, whatever it says
handed_any : (w v : ProvenanceIndex) (e : Entry) (found : Seen) (n : ℕ) (node : NodeId) (token : Option Token) → sight_of found ≡ Handed n None → Noted w v found e → Noted w v (seen.Handed node token) e
handed_any w v e (seen.Handed m x) n node token same is = record {
  names = is.names;
  early = is.early;
  keys = is.keys;
  numbers = is.numbers;
  made = is.made;
  heard = is.heard;
  list = is.list;
  nodes = is.nodes;
  addresses = is.addresses;
}
handed_any w v e _ n node token same is = absurd cc

-- a token of these bytes
token_with : List ℕ → Token
token_with t = record { 0 = t }

pub stands_more : (w v : ProvenanceIndex) (past : List Entry) (e : Entry) (found : Seen) (packet : Option (List ℕ)) → StandsFor w past → IsNext past e → IsHeard past e packet
    → sight_of found ≡ glimpse packet e → Noted w v found e → StandsFor v (past ++ e ∷ [])
unfolding token_with
stands_more w v past (entries.Handed number node) found packet old next bytes told is =
    stands_seen w v past (entries.Handed number node) (seen.Handed node (option_map token_with (token_at past number))) old next
    (ap (Handed node.0) (by (token_at past number)))
    (handed_any w v (entries.Handed number node) found node.0 node (option_map token_with (token_at past number)) told is)
  where
    by : (o : Option (List ℕ)) → option_map (λ (t : Token). t.0) (option_map token_with o) ≡ o
    by None = refl
    by (Some t) = refl
stands_more w v past e found packet old next bytes told is =
    stands_seen w v past e found old next (told ∙ sight_told past e packet bytes (λ number node handed. absurd cc)) is

-- an entry that tells nothing changes no index
abbrev sight_muted : Entry → Seen
sight_muted (entries.Handed number node) = seen.Handed node None
sight_muted _ = seen.Quiet

none_or : (b : Bool) → b ≡ (b || false)
none_or true = refl
none_or false = refl

none_more : {A : Type 0} (o : Option A) → o ≡ option_or o None
none_more None = refl
none_more (Some x) = refl

none_else : {A : Type 0} (o : Option A) → o ≡ or_else o None
none_else None = refl
none_else (Some x) = refl

same_known : (n : ℕ) (k : Known) → k ≡ known_step n Quiet k
same_known n k = λ i. record { is_agent = none_or k.is_agent i; life = k.life }

noted_mute : (w : ProvenanceIndex) (e : Entry) → is_mute e ≡ true → Noted w w (sight_muted e) e
noted_mute w (entries.Sent number node shielded packet) is = absurd cc
noted_mute w (entries.Injected number outsider link packet) is = absurd cc
noted_mute w (entries.Heard number outsider) is = absurd cc
noted_mute w (entries.Home node home careof sequence end) is = absurd cc
noted_mute w (entries.Made node peer number home careof) is = absurd cc
noted_mute w (entries.Restarted node) is = absurd cc
noted_mute w (entries.Claimed who link address) is = absurd cc
noted_mute w _ is = record {
  names = λ t. refl;
  early = λ t. none_or (is_used w.early t);
  keys = λ look are. are;
  numbers = λ look are k. refl;
  made = λ n k. none_more (made_at w.made n k);
  heard = λ o t. none_or (has_come w.heard o t);
  list = sym (append-nil w.heard.list.items);
  nodes = λ n. same_known n (known_at w.nodes n);
  addresses = λ n. none_else (address_at w.addresses n);
}

told_mute : (packet : Option (List ℕ)) (e : Entry) → is_mute e ≡ true → sight_of (sight_muted e) ≡ glimpse packet e
told_mute packet (entries.Sent number node shielded bytes) is = absurd cc
told_mute packet (entries.Injected number outsider link bytes) is = absurd cc
told_mute packet (entries.Heard number outsider) is = absurd cc
told_mute packet (entries.Home node home careof sequence end) is = absurd cc
told_mute packet (entries.Made node peer number home careof) is = absurd cc
told_mute packet (entries.Restarted node) is = absurd cc
told_mute packet _ is = refl

pub token_mute : (e : Entry) → is_mute e ≡ true → None ≡ token_posted e
token_mute (entries.Sent number node shielded bytes) is = absurd cc
token_mute (entries.Injected number outsider link bytes) is = absurd cc
token_mute _ is = refl

pub stands_mute : (w : ProvenanceIndex) (past : List Entry) (e : Entry) (packet : Option (List ℕ)) → is_mute e ≡ true → StandsFor w past → IsNext past e → IsHeard past e packet → StandsFor w (past ++ e ∷ [])
stands_mute w past e packet is old next bytes = stands_more w w past e (sight_muted e) packet old next bytes (told_mute packet e is) (noted_mute w e is)

-- what an outsider hears changes nothing but the tokens that came
stands_heard : (w : ProvenanceIndex) (h : TheHeard) (past : List Entry) (number outsider : ℕ) (token : Option Token)
    → ((o : ℕ) (t : List ℕ) → has_come h o t ≡ (has_come w.heard o t || is_heard o t (sight_of (seen.Heard outsider token))))
    → h.list.items ≡ w.heard.list.items ++ arrivals_new (has_come w.heard) (seen.Heard outsider token)
    → StandsFor w past → IsNext past (entries.Heard number outsider) → IsHeard past (entries.Heard number outsider) (option_map (λ (t : Token). t.0) token)
    → StandsFor (record w { heard = h }) (past ++ entries.Heard number outsider ∷ [])
stands_heard w h past number outsider token known list old next bytes =
    stands_more w (record w { heard = h }) past (entries.Heard number outsider) (seen.Heard outsider token) (option_map (λ (t : Token). t.0) token) old next bytes refl
    (record {
      names = λ t. refl;
      early = λ t. none_or (is_used w.early t);
      keys = λ look are. are;
      numbers = λ look are k. refl;
      made = λ n k. none_more (made_at w.made n k);
      heard = known;
      list = list;
      nodes = λ n. same_known n (known_at w.nodes n);
      addresses = λ n. none_else (address_at w.addresses n);
    })

pub stands_hearing : (w : ProvenanceIndex) (h : TheHeard) (past : List Entry) (e : Entry) (number outsider : ℕ) (token : Option Token) → e ≡ entries.Heard number outsider
    → ((o : ℕ) (t : List ℕ) → has_come h o t ≡ (has_come w.heard o t || is_heard o t (sight_of (seen.Heard outsider token))))
    → h.list.items ≡ w.heard.list.items ++ arrivals_new (has_come w.heard) (seen.Heard outsider token)
    → StandsFor w past → IsNext past e → IsHeard past e (option_map (λ (t : Token). t.0) token) → StandsFor (record w { heard = h }) (past ++ e ∷ [])
stands_hearing w h past e number outsider token is known list old next bytes =
    subst (λ (x : Entry). StandsFor (record w { heard = h }) (past ++ x ∷ [])) (sym is)
    (stands_heard w h past number outsider token known list old (subst (IsNext past) is next)
    (subst (λ (x : Entry). IsHeard past x (option_map (λ (t : Token). t.0) token)) is bytes))

-- a new index
pub stands_new : (w : ProvenanceIndex) → ((n : ℕ) → address_at w.addresses n ≡ None) → ((n : ℕ) → known_at w.nodes n ≡ stranger) → ((t : List ℕ) → named_at w.names t ≡ None)
    → ((o : ℕ) (t : List ℕ) → has_come w.heard o t ≡ false) → w.heard.list.items ≡ [] → ((t : List ℕ) → is_used w.early t ≡ false) → ((n k : ℕ) → made_at w.made n k ≡ None)
    → AreOf w.updates (λ _. None) → ((k : ℕ) → update_at w.updates k ≡ None) → StandsFor w []
unfolding seen_in first_update
stands_new w addresses nodes names heard list early made keys numbers = record {
  numbered = tt;
  addresses = addresses;
  nodes = nodes;
  names = λ t. subst (IsKept [] t) (sym (ap (λ (o : Option _). option_map kept_of o) (names t))) refl;
  heard = heard;
  values = λ o says. ap (λ (l : List Arrival). first_some says (heard_by o l)) list;
  early = early;
  made = made;
  updates = record {
    look = λ _. None;
    are = keys;
    keys = λ key. refl;
    numbers = λ k. subst (IsFirstAtIf w.heard.list.items [] k) (sym (numbers k)) refl;
  };
}
