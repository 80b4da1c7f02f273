-- Nodes join, each with its address, before the first event.
use Rattle.std.proofs.Common.{◌≡◌, ℕ, zero, suc, ◌+◌, ◌<◌, List, [], ◌∷◌, ◌++◌, length, replicate, Bool, true, false, refl, sym, ap, ◌∙◌, subst, arith}
use Rattle.std.proofs.Math.Path.{fun_ext}
use Rattle.std.proofs.lemmas.List.{length_push, append_assoc, append-nil, length-map}
use Rattle.std.specs.Prelude.{fold, Option, Some, None, option_map, slice_get, slice_index_or, unwrap_or, map, ◌&&◌, nat_lt, if◌then◌else◌}
use Rattle.std.proofs.lemmas.List.Sums.{fold-append}
use Rattle.mip_words.specs.declared.address.Address.{Address}
use Rattle.mip_entries.specs.Stamped.{Stamped}
use Rattle.mip_entries.specs.declared.entry.Entry.{Entry}
use Rattle.mip_entries.specs.declared.entry.Entry.TheVariants.{Claimed}
use Rattle.mip_links.specs.Table.{Asked, link_of}
use Rattle.mip_links.specs.Nets.{hears_of, spot, declared_of, claimed}
use Rattle.mip_words.specs.Asked.{asked}
use Rattle.mip_rules_correspondent.specs.Steps.{Step}
use Rattle.mip_rules_correspondent.specs.declared.known.Known.{Known}
use Rattle.mip_rules_agent.specs.Steps as agents
use Rattle.mip_rules_agent.specs.Known as agent_known
use Rattle.mip_rules_mobile.specs.Steps as mobiles
use Rattle.mip_rules_mobile.specs.Known as mobile_known
use Rattle.mip_history.specs.Setup.{Setup, Host, Kind}
use Rattle.mip_history.specs.Setup.Kind.{Correspondent as OfCorrespondent, Agent as OfAgent, Mobile as OfMobile}
use Rattle.mip_history.specs.Runs.{Run, note, past_at, agent_past_at, mobile_past_at}
use Rattle.mip_history.specs.Questions.{life_in, restarts, moved_says, spot_in, asked_in, hears_in, moment_in}
use Rattle.mip_history.specs.Knowing.{secrets_in, known_in}
use Rattle.mip_rules_correspondent.specs.Questions.{known}
use Rattle.mip_rules_agent.specs.Questions as agent_questions
use Rattle.mip_rules_mobile.specs.Questions as mobile_questions
use Rattle.mip_history.specs.Permitted.{claimed_entry, claims_of, claims_from, is_first_agent, anycast_at, opened}
use Rattle.mip_roles.specs.declared.role.Role.{Role}
use Rattle.mip_roles.specs.declared.role.Role.TheVariants.{Correspondent, Agent, Mobile}
use Rattle.mip_roles.specs.Nodes.{NodeSeen, new_node}
use Rattle.mip_roles.specs.Roles.{new_role}
use Rattle.mip_roles.proofs.RoleLaws.{known_first, agent_known_first, mobile_known_first}
use Rattle.mip_engine.specs.Engines.{EngineSeen, new_engine, joined, with_entry, with_net}
use Rattle.mip_engine.specs.Openings.{with_hosts}
use Rattle.mip_engine.specs.Standing.{IsAt, role_in, node_in}
use Rattle.mip_engine.specs.Numbering.{IsNumbered}
use Rattle.mip_engine.proofs.NumberLaws.{numbered_none}
use Rattle.mip_engine.proofs.ClaimLaws.{at_claimed}

none_first : (n by : ℕ) → declared_of (replicate n None) by ≡ None
none_first zero by = refl
none_first (suc n) zero = refl
none_first (suc n) (suc by) = none_first n by

none_hears : (n i : ℕ) → slice_index_or (replicate n false) i false ≡ false
none_hears zero i = refl
none_hears (suc n) zero = refl
none_hears (suc n) (suc i) = none_hears n i

long : {X : Type 0} (n : ℕ) (x : X) → length (replicate n x) ≡ n
long zero x = refl
long (suc n) x = ap suc (long n x)

deaf : (o l : ℕ) → hears_of (replicate 256 false) o l ≡ false
deaf o l = by (nat_lt o 8 && nat_lt l 32)
  where
    by : (b : Bool) → (if b then slice_index_or (replicate 256 false) (spot o l) false else false) ≡ false
    by true = none_hears 256 (spot o l)
    by false = refl

-- nothing has happened, and there is no node
pub at_new : (s : Setup) → IsAt (new_engine s.seed s.start s.links s.outsiders s.numbers) (with_hosts [] s) (opened (with_hosts [] s))
at_new s =
    let firsts : declared_of (replicate 40 None) ≡ (λ (by : ℕ). None) = fun_ext (λ (by : ℕ). none_first 40 by) in
    record {
      seed = refl;
      asked = ap (λ (f : ℕ → Option Address). asked_with f) firsts;
      hears = fun_ext (λ (o : ℕ). fun_ext (λ (l : ℕ). deaf o l));
      posts = refl;
      flying = refl;
      spots = long {X = Bool} 256 false;
      firsts = long {X = Option Address} 40 None;
      nodes = λ n. refl;
      count = refl;
      pasts = refl;
      agent_pasts = refl;
      mobile_pasts = refl;
      outsiders = refl;
      numbers = refl;
      now = refl;
      history = refl;
      numbered = numbered_none;
    }
  where
    asked_with : (ℕ → Option Address) → Asked
    asked_with f = record { links = s.links; holder = λ a. None; declared = f }

-- one node more
claims_push : (links : List ℕ) (before hosts : List Host) (h : Host) → claims_from links before (hosts ++ h ∷ []) ≡ claims_from links before hosts ++ claims_of links (before ++ hosts) h
claims_push links before [] h = append-nil (claims_of links before h) ∙ ap (λ (l : List Host). claims_of links l h) (sym (append-nil before))
claims_push links before (x ∷ hosts) h =
    ap (λ (l : List Entry). claims_of links before x ++ l) (claims_push links (before ++ x ∷ []) hosts h ∙ ap (λ (l : List Host). claims_from links (before ++ x ∷ []) hosts ++ claims_of links l h) (append_assoc before (x ∷ []) hosts))
    ∙ sym (append_assoc (claims_of links before x) (claims_from links (before ++ x ∷ []) hosts) (claims_of links (before ++ x ∷ hosts) h))

-- claims say nothing of lives and of links where somebody stands
claims_still : {X : Type 0} (f : X → Entry → X) → ((x : X) (who : ℕ) (link : _) (a : Address) → f x (Claimed who link a) ≡ x) → (x : X) (links : List ℕ) (before hosts : List Host) → fold f x (claims_from links before hosts) ≡ x
claims_still f same x links before [] = refl
claims_still f same x links before (h ∷ hosts) =
    fold-append f x (claims_of links before h) (claims_from links (before ++ h ∷ []) hosts)
    ∙ ap (λ y. fold f y (claims_from links (before ++ h ∷ []) hosts)) (by (is_first_agent links before h.address h.kind))
    ∙ claims_still f same x links (before ++ h ∷ []) hosts
  where
    by : (b : Bool) → fold f x (claimed_entry links (length before) h.address ∷ (if b then claimed_entry links (length before) (anycast_at h.address) ∷ [] else [])) ≡ x
    by true = ap (λ y. f y (claimed_entry links (length before) (anycast_at h.address))) (same x _ _ _) ∙ same x _ _ _
    by false = same x _ _ _

no_past : {X : Type 0} (hosts : List Host) (m : ℕ) → slice_index_or (map (λ (host : Host). let l : List X = [] in l) hosts) m [] ≡ []
no_past [] m = refl
no_past (h ∷ hosts) zero = refl
no_past (h ∷ hosts) (suc m) = no_past hosts m

-- a node with nothing behind it
node_first : (s : Setup) (run : Run) (m : ℕ) (h : Host) → life_in run.past m ≡ 0 → ((home : Option ℕ) → spot_in home run.past m ≡ home)
    → past_at run m ≡ [] → agent_past_at run m ≡ [] → mobile_past_at run m ≡ [] → node_in s run m h ≡ new_node s.seed s.numbers m (link_of s.links h.address.0) h
node_first s run m h life spot past agent mobile = made (life_in run.past m) (spot_in (link_of s.links h.address.0) run.past m) (role_in s run m h.address h.kind) life (spot (link_of s.links h.address.0)) (by h.address h.kind)
  where
    made : (l : ℕ) (o : Option ℕ) (r : Role) → l ≡ 0 → o ≡ link_of s.links h.address.0 → r ≡ new_role s.seed s.numbers m 0 h.address h.kind
        → ◌≡◌ {A = NodeSeen} (record { host = h; life = l; spot = o; role = r }) (new_node s.seed s.numbers m (link_of s.links h.address.0) h)
    made l o r e f g = cc

    by : (own : Address) (kind : Kind) → role_in s run m own kind ≡ new_role s.seed s.numbers m 0 own kind
    by own (OfCorrespondent room) =
        ap (λ (l : ℕ). Correspondent (record { identity = record { own = own; secrets = secrets_in s m l; room = room }; known = known_in s run m room })) life
        ∙ ap (λ (k : Known). Correspondent (record { identity = record { own = own; secrets = secrets_in s m 0; room = room }; known = k })) (ap (known room s.numbers) past ∙ known_first room s.numbers)
    by own (OfAgent preference seconds room serves) =
        ap (λ (k : agent_known.Known). Agent (record { identity = record { own = own; preference = preference; life = seconds; room = room }; known = k })) (ap (agent_questions.known serves) agent ∙ agent_known_first serves)
    by own (OfMobile declared) = ap (λ (k : mobile_known.Known). Mobile k) (ap (mobile_questions.known own declared s.numbers (secrets_in s m 0)) mobile ∙ mobile_known_first own declared s.numbers (secrets_in s m 0))

push_nodes : {A B : Type 0} (xs : List A) (ys : List B) (f : ℕ → B → A) (x : A) (y : B) → ((m : ℕ) → slice_get xs m ≡ option_map (f m) (slice_get ys m)) → x ≡ f (length ys) y
    → (m : ℕ) → slice_get (xs ++ x ∷ []) m ≡ option_map (f m) (slice_get (ys ++ y ∷ []) m)
push_nodes {A = A} [] [] f x y each last zero = ap (λ (z : A). Some z) last
push_nodes [] [] f x y each last (suc m) = refl
push_nodes [] (z ∷ ys) f x y each last m = absurd (cc (each 0))
push_nodes (z ∷ xs) [] f x y each last m = absurd (cc (each 0))
push_nodes (z ∷ xs) (w ∷ ys) f x y each last zero = each 0
push_nodes (z ∷ xs) (w ∷ ys) f x y each last (suc m) = push_nodes xs ys (λ n. f (suc n)) x y (λ n. each (suc n)) last m

module _ (e : EngineSeen) (s : Setup) (hosts : List Host) (host : Host) (small : length e.nodes < 32)
    (at : IsAt e (with_hosts hosts s) (opened (with_hosts hosts s))) where
  abbrev before : Setup
  before = with_hosts hosts s

  abbrev after : Setup
  after = with_hosts (hosts ++ host ∷ []) s

  n_is : length e.nodes ≡ length hosts
  n_is = at.count

  abbrev claim : Entry
  claim = Claimed (length e.nodes) (record { 0 = unwrap_or (link_of e.net.links host.address.0) 0 }) host.address

  claim_is : claim ≡ claimed_entry s.links (length hosts) host.address
  claim_is =
      ap (λ (n : ℕ). Claimed n (record { 0 = unwrap_or (link_of e.net.links host.address.0) 0 }) host.address) n_is
      ∙ ap (λ (q : Asked). Claimed (length hosts) (record { 0 = unwrap_or (link_of q.links host.address.0) 0 }) host.address) at.asked

  -- the run in which the node has its own address, and no other yet
  abbrev pub arrived : Run
  arrived = record (opened after) { past = (opened before).past ++ claimed_entry s.links (length hosts) host.address ∷ [] }

  claims : IsAt (with_entry claim (with_net (claimed e.net (length e.nodes) host.address) e)) before (note claim (opened before))
  claims = at_claimed e before (opened before) (length e.nodes) (unwrap_or (link_of e.net.links host.address.0) 0) host.address (omega arith) at

  past_is : (note claim (opened before)).past ≡ arrived.past
  past_is = ap (λ (x : Entry). (opened before).past ++ x ∷ []) claim_is

  abbrev node : ℕ → Host → NodeSeen
  node m h = new_node s.seed s.numbers m (link_of s.links h.address.0) h

  lives : (run : Run) → (more : List Entry) → run.past ≡ (opened before).past ++ more → ((m : ℕ) → fold (restarts m) 0 more ≡ 0) → (m : ℕ) → life_in run.past m ≡ 0
  lives run more is none m =
      ap (λ (l : List Entry). life_in l m) is ∙ fold-append (restarts m) 0 (opened before).past more
      ∙ ap (λ (n : ℕ). fold (restarts m) n more) (claims_still (restarts m) (λ x who link a. refl) 0 s.links [] hosts) ∙ none m

  spots : (run : Run) → (more : List Entry) → run.past ≡ (opened before).past ++ more → ((m : ℕ) (home : Option ℕ) → asked (moved_says m) home more ≡ home) → (m : ℕ) (home : Option ℕ) → spot_in home run.past m ≡ home
  spots run more is none m home =
      ap (λ (l : List Entry). spot_in home l m) is ∙ fold-append (λ (o : Option ℕ) (x : Entry). unwrap_or (moved_says m x) o) home (opened before).past more
      ∙ ap (λ (o : Option ℕ). asked (moved_says m) o more) (claims_still (λ (o : Option ℕ) (x : Entry). unwrap_or (moved_says m x) o) (λ x who link a. refl) home s.links [] hosts) ∙ none m home

  were : (m : ℕ) → slice_get e.nodes m ≡ option_map (node m) (slice_get hosts m)
  were m = at.nodes m ∙ by (slice_get hosts m)
    where
      by : (o : Option Host) → option_map (node_in before (opened before) m) o ≡ option_map (node m) o
      by None = refl
      by (Some h) = ap (λ (c : NodeSeen). Some c) (node_first before (opened before) m h
          (lives (opened before) [] (sym (append-nil (opened before).past)) (λ k. refl) m)
          (spots (opened before) [] (sym (append-nil (opened before).past)) (λ k home. refl) m)
          (no_past hosts m) (no_past hosts m) (no_past hosts m))

  new_is : new_node e.seed e.numbers (length e.nodes) (link_of e.net.links host.address.0) host ≡ node (length hosts) host
  new_is =
      ap (λ (n : ℕ). new_node e.seed e.numbers n (link_of e.net.links host.address.0) host) n_is
      ∙ ap (λ (seed : List ℕ). new_node seed e.numbers (length hosts) (link_of e.net.links host.address.0) host) at.seed
      ∙ ap (λ (numbers : ℕ). new_node s.seed numbers (length hosts) (link_of e.net.links host.address.0) host) at.numbers
      ∙ ap (λ (q : Asked). new_node s.seed s.numbers (length hosts) (link_of q.links host.address.0) host) at.asked

  are : (m : ℕ) → slice_get (e.nodes ++ new_node e.seed e.numbers (length e.nodes) (link_of e.net.links host.address.0) host ∷ []) m ≡ option_map (node_in after arrived m) (slice_get (hosts ++ host ∷ []) m)
  are m =
      push_nodes e.nodes hosts node (new_node e.seed e.numbers (length e.nodes) (link_of e.net.links host.address.0) host) host were new_is m ∙ by (slice_get (hosts ++ host ∷ []) m)
    where
      by : (o : Option Host) → option_map (node m) o ≡ option_map (node_in after arrived m) o
      by None = refl
      by (Some h) = ap (λ (c : NodeSeen). Some c) (sym (node_first after arrived m h
          (lives arrived (claimed_entry s.links (length hosts) host.address ∷ []) refl (λ k. refl) m)
          (spots arrived (claimed_entry s.links (length hosts) host.address ∷ []) refl (λ k home. refl) m)
          (no_past (hosts ++ host ∷ []) m) (no_past (hosts ++ host ∷ []) m) (no_past (hosts ++ host ∷ []) m)))

  pub at_joined : IsAt (joined host e) after arrived
  at_joined = record {
    seed = at.seed;
    asked = claims.asked ∙ ap (λ (past : List Entry). asked_in after past) past_is;
    hears = claims.hears ∙ ap hears_in past_is;
    posts = at.posts;
    flying = at.flying;
    spots = at.spots;
    firsts = claims.firsts;
    nodes = are;
    count = length_push e.nodes (new_node e.seed e.numbers (length e.nodes) (link_of e.net.links host.address.0) host) ∙ ap (λ (n : ℕ). n + 1) n_is ∙ sym (length_push hosts host);
    pasts = length-map (hosts ++ host ∷ []) (λ (h : Host). let l : List (Stamped Step) = [] in l);
    agent_pasts = length-map (hosts ++ host ∷ []) (λ (h : Host). let l : List (Stamped agents.Step) = [] in l);
    mobile_pasts = length-map (hosts ++ host ∷ []) (λ (h : Host). let l : List (Stamped mobiles.Step) = [] in l);
    outsiders = at.outsiders;
    numbers = at.numbers;
    now = claims.now ∙ ap (λ (past : List Entry). moment_in s.start past) past_is;
    history = claims.history ∙ past_is;
    numbered = subst (λ (past : List Entry). IsNumbered [] past) past_is claims.numbered;
  }

  -- with the anycast address, if it is the first agent of its link, the node has what it is to have
  pub opened_next : (b : Bool) → is_first_agent s.links hosts host.address host.kind ≡ b
      → (if b then note (claimed_entry s.links (length hosts) (anycast_at host.address)) arrived else arrived) ≡ opened after
  opened_next true is = ap (λ (l : List Entry). record (opened after) { past = l }) (append_assoc (opened before).past (claimed_entry s.links (length hosts) host.address ∷ []) (claimed_entry s.links (length hosts) (anycast_at host.address) ∷ [])
      ∙ ap (λ (b : Bool). (opened before).past ++ claimed_entry s.links (length hosts) host.address ∷ (if b then claimed_entry s.links (length hosts) (anycast_at host.address) ∷ [] else [])) (sym is) ∙ sym (claims_push s.links [] hosts host))
  opened_next false is = ap (λ (l : List Entry). record (opened after) { past = l })
      (ap (λ (b : Bool). (opened before).past ++ claimed_entry s.links (length hosts) host.address ∷ (if b then claimed_entry s.links (length hosts) (anycast_at host.address) ∷ [] else [])) (sym is) ∙ sym (claims_push s.links [] hosts host))
