-- Outsiders hear what has no shield.
use Rattle.std.proofs.Common.{◌≡◌, ◌≢◌, ℕ, zero, suc, ◌<◌, List, [], ◌∷◌, ◌++◌, Bool, true, false, ◌⊎◌, inl, inr, length, refl, sym, ap, ◌∙◌, subst, arith}
use Rattle.std.specs.Prelude.{fold, Option, Some, None, Ok, not, unwrap_or, is_some, ◌==◌, ◌&&◌, nat_lt, if◌then◌else◌}
use Rattle.std.proofs.lemmas.List.{append_assoc, append-nil}
use Rattle.std.proofs.lemmas.List.Sums.{fold-append}
use Rattle.std.proofs.lemmas.Bool.{cases_eq, eqb-true, ltb-true}
use Rattle.mip_words.specs.declared.address.Address.{Address}
use Rattle.mip_words.specs.declared.shield.Shield.{Shield}
use Rattle.mip_words.specs.declared.why.Why.TheVariants.{Hop, NoHolder}
use Rattle.mip_words.specs.Holders.{first_outsider}
use Rattle.mip_ipv6.specs.Packet.{Packet}
use Rattle.mip_ipv6.specs.Reading.{packet_of}
use Rattle.mip_ipv6.specs.Tunnel.{hop_of}
use Rattle.mip_ipv6.proofs.Packets.{packet_takes}
use Rattle.mip_entries.specs.declared.answer.Answer.TheVariants.{Send}
use Rattle.mip_entries.specs.declared.entry.Entry.{Entry}
use Rattle.mip_entries.specs.declared.entry.Entry.TheVariants as entries
use Rattle.mip_entries.specs.Completed.{node_id}
use Rattle.mip_links.specs.Table.{Fate, Post, link_of, destination_in, is_node, at_holder, at_link, delivery, holder_outside, outsider_of}
use Rattle.mip_links.specs.Table.Fate.{Gone, Outsider, Node}
use Rattle.mip_history.specs.Setup.{Setup}
use Rattle.mip_history.specs.Runs.{Run, note, notes, entered, without}
use Rattle.mip_history.specs.Questions.{listen_says, hears_in, holder_in, asked_in}
use Rattle.mip_history.specs.Calls.{Take}
use Rattle.mip_history.specs.Claims.{link_id}
use Rattle.mip_history.specs.Nodes.{answered_one}
use Rattle.mip_history.specs.Posting.{heards, is_other}
use Rattle.mip_history.specs.Delivery.{other_link, arrival_link, handed_over, overheard_at, hears_there, held_by_outsider, handed, became, arrived, delivered}
use Rattle.mip_history.specs.Outsiders.{injected}
use Rattle.mip_history.proofs.Effects.{h-acts}
use Rattle.mip_history.proofs.Fronts.{Begins, begins_effect}
use Rattle.mip_law_security.specs.Overhearing.{HasHeard, IsUnderWay}

-- one of those that hear is among what is heard
record Among (k o : ℕ) (all : List Entry) : Type 0 where
  first : List Entry
  rest : List Entry
  whole : all ≡ first ++ entries.Heard k o ∷ rest

among : (hears : ℕ → Bool) (k n o : ℕ) → o < n → hears o ≡ true → Among k o (heards hears k n)
among hears k zero o below does = absurd (omega (arith, below))
among hears k (suc n) o below does = by (cases_eq o n) (λ less. among hears k n o less does)
  where
    last : Bool → List Entry
    last b = if b then entries.Heard k n ∷ [] else []

    by : (o ≡ n) ⊎ (o ≢ n) → (o < n → Among k o (heards hears k n)) → Among k o (heards hears k n ++ last (hears n))
    by (inl same) lower =
        subst (λ (m : ℕ). Among k m (heards hears k n ++ last (hears n))) (sym same)
        (record { first = heards hears k n; rest = []; whole = ap (λ (b : Bool). heards hears k n ++ last b) (ap hears (sym same) ∙ does) })
    by (inr apart) lower =
        let a : Among k o (heards hears k n) = lower (omega (arith, below, apart)) in
        record {
          first = a.first;
          rest = a.rest ++ last (hears n);
          whole = ap (λ (l : List Entry). l ++ last (hears n)) a.whole ∙ append_assoc a.first (entries.Heard k o ∷ a.rest) (last (hears n));
        }

-- what was heard stays heard
more : (before middle after : Run) (k o : ℕ) → HasHeard before middle k o → Begins middle.past after → HasHeard before after k o
more before middle after k o h b = record {
  first = h.first;
  rest = h.rest ++ b.rest;
  whole = b.whole ∙ ap (λ (l : List Entry). l ++ b.rest) h.whole ∙ append_assoc before.past (h.first ++ entries.Heard k o ∷ h.rest) b.rest
      ∙ ap (λ (l : List Entry). before.past ++ l) (append_assoc h.first (entries.Heard k o ∷ h.rest) b.rest);
}

-- who listens on a link is not changed by a post, nor by what is heard
listens_on : (past es : List Entry) (o link : ℕ) → ((l : Bool) → fold (λ (s : Bool) (x : Entry). unwrap_or (listen_says o link x) s) l es ≡ l) → hears_in (past ++ es) o link ≡ hears_in past o link
listens_on past es o link same = fold-append (λ (s : Bool) (x : Entry). unwrap_or (listen_says o link x) s) false past es ∙ same (hears_in past o link)

-- behind a post that nobody shields those hear that listen on its link
module _ (s : Setup) (run : Run) (post : Post) (e : Entry) (by : Option ℕ) (link o : ℕ) (inside : o < s.outsiders) where
  abbrev next : Run
  next = entered post (note e run)

  hearing : is_other by o ≡ true → hears_in next.past o link ≡ true → HasHeard run (notes (heards (λ (x : ℕ). is_other by x && hears_in next.past x link) (length run.posts) s.outsiders) next) (length run.posts) o
  hearing other listens =
      let hears : ℕ → Bool = λ x. is_other by x && hears_in next.past x link in
      let does : hears o ≡ true = ap (λ (b : Bool). b && hears_in next.past o link) other ∙ listens in
      let a : Among (length run.posts) o (heards hears (length run.posts) s.outsiders) = among hears (length run.posts) s.outsiders o inside does in
      record {
        first = e ∷ a.first;
        rest = a.rest;
        whole = append_assoc run.past (e ∷ []) (heards hears (length run.posts) s.outsiders) ∙ ap (λ (l : List Entry). run.past ++ e ∷ l) a.whole;
      }

pub sent_heard : (s : Setup) (n link : ℕ) (run : Run) (packet : List ℕ) (o : ℕ) → o < s.outsiders → hears_in run.past o link ≡ true → HasHeard run (answered_one s n link run (Send None packet)) (length run.posts) o
sent_heard s n link run packet o inside listens =
    hearing s run (record { from = link; shield = None; packet = packet }) (entries.Sent (length run.posts) (node_id n) false packet) None link o inside refl
    (listens_on run.past (entries.Sent (length run.posts) (node_id n) false packet ∷ []) o link (λ l. refl) ∙ listens)

pub injected_heard : (s : Setup) (by link : ℕ) (run : Run) (packet : List ℕ) (o : ℕ) → o < s.outsiders → o ≢ by → hears_in run.past o link ≡ true → HasHeard run (injected s run by link packet) (length run.posts) o
injected_heard s by link run packet o inside other listens =
    hearing s run (record { from = link; shield = None; packet = packet }) (entries.Injected (length run.posts) by (link_id link) packet) (Some by) link o inside (apart (by == o) refl)
    (listens_on run.past (entries.Injected (length run.posts) by (link_id link) packet ∷ []) o link (λ l. refl) ∙ listens)
  where
    apart : (b : Bool) → (by == o) ≡ b → not b ≡ true
    apart true same = absurd (other (sym (eqb-true by o same)))
    apart false unlike = refl

-- what is heard tells of nobody who listens
silent_heards : (hears : ℕ → Bool) (k n o link : ℕ) (l : Bool) → fold (λ (s : Bool) (x : Entry). unwrap_or (listen_says o link x) s) l (heards hears k n) ≡ l
silent_heards hears k zero o link l = refl
silent_heards hears k (suc n) o link l =
    fold-append (λ (s : Bool) (x : Entry). unwrap_or (listen_says o link x) s) l (heards hears k n) (if hears n then entries.Heard k n ∷ [] else [])
    ∙ one (hears n) (fold (λ (s : Bool) (x : Entry). unwrap_or (listen_says o link x) s) l (heards hears k n)) ∙ silent_heards hears k n o link l
  where
    one : (b : Bool) (m : Bool) → fold (λ (s : Bool) (x : Entry). unwrap_or (listen_says o link x) s) m (if b then entries.Heard k n ∷ [] else []) ≡ m
    one true m = refl
    one false m = refl

-- the destination and the hop limit of a packet that was read stand in its bytes
head_read : (bytes : List ℕ) (p : Packet) → packet_of bytes ≡ Ok p → (destination_in bytes ≡ p.head.destination.0) × (hop_of bytes ≡ p.head.hop)
head_read bytes p is = let spelled = packet_takes bytes p is in (ap (λ (a : Address). a.0) spelled.destination, spelled.hop)

module _ (s : Setup) (run : Run) (k l : ℕ) (p : Packet) (post : Post) (u : IsUnderWay s run k l p post) where
  -- the run in which it arrives
  abbrev from : Bool → Run
  from keep = if keep then run else without k run

  from_past : (keep : Bool) → (let r : Run = (if keep then run else without k run) in r.past) ≡ run.past
  from_past true = refl
  from_past false = refl

  abbrev bare : Post
  bare = record { from = post.from; shield = None; packet = post.packet }

  linked : link_of s.links (destination_in post.packet) ≡ Some l
  linked = ap (link_of s.links) (head_read post.packet p u.read).0 ∙ u.linked

  -- its hop limit lets it come
  hops : (not (l == post.from) && nat_lt (hop_of post.packet) 2) ≡ false
  hops = by (l == post.from) (nat_lt (hop_of post.packet) 2) refl refl
    where
      by : (here low : Bool) → (l == post.from) ≡ here → nat_lt (hop_of post.packet) 2 ≡ low → (not here && low) ≡ false
      by true low is few = refl
      by false false is few = refl
      by false true is few =
          absurd (let apart : l ≢ post.from = λ same. (let both : true ≡ false = sym (ap (λ (n : ℕ). n == post.from) same ∙ itself post.from) ∙ is in cc) in
          let less = ltb-true (hop_of post.packet) 2 few in let hop = (head_read post.packet p u.read).1 in let two = u.comes apart in omega (arith, less, hop, two))
        where
          itself : (n : ℕ) → (n == n) ≡ true
          itself n = grind (arith)

  -- what becomes of it
  fate_is : (past : List Entry) → delivery (asked_in s past) (Some post) ≡ at_holder (asked_in s past) None (holder_in past p.head.destination.0)
  fate_is past =
      ap (at_link (asked_in s past) post) linked
      ∙ ap (λ (b : Bool). let f : Fate = (if b then Gone Hop else at_holder (asked_in s past) post.shield (holder_in past (destination_in post.packet))) in f) hops
      ∙ ap (λ (o : Option Shield). at_holder (asked_in s past) o (holder_in past (destination_in post.packet))) u.bare
      ∙ ap (λ (d : ℕ). at_holder (asked_in s past) None (holder_in past d)) (head_read post.packet p u.read).0

  -- it is delivered
  abbrev goes_as : Run → Fate → Run
  goes_as r fate = became s k post (arrival_link s post) r fate

  delivered_is : (keep : Bool) (fate : Fate) → delivery (asked_in s run.past) (Some post) ≡ fate → delivered s run k keep ≡ goes_as (if keep then run else without k run) fate
  unfolding delivered
  delivered_is keep fate is =
      ap (arrived s k (if keep then run else without k run)) u.pooled
      ∙ ap (λ (f : Fate). goes_as (if keep then run else without k run) f) (ap (λ (past : List Entry). delivery (asked_in s past) (Some post)) (from_past keep) ∙ is)

  -- on another link than its own it is heard there
  module _ (r : Run) (same : r.past ≡ run.past) (o : ℕ) (inside : o < s.outsiders) where
    abbrev hears : ℕ → ℕ → Bool
    hears link x = is_other None x && hears_in r.past x link

    heard_on : (link : ℕ) → hears_in run.past o link ≡ true → HasHeard run (overheard_at s post k (Some link) r) k o
    heard_on link listens =
        subst (λ (shield : Option Shield). HasHeard run (if is_some shield then r else notes (heards (hears link) k s.outsiders) r) k o) (sym u.bare)
        (let does : hears link o ≡ true = ap (λ (past : List Entry). hears_in past o link) same ∙ listens in
        let a : Among k o (heards (hears link) k s.outsiders) = among (hears link) k s.outsiders o inside does in
        record { first = a.first; rest = a.rest; whole = ap (λ (past : List Entry). past ++ heards (hears link) k s.outsiders) same ∙ ap (λ (es : List Entry). run.past ++ es) a.whole })

    -- behind that, what its holder does
    abbrev heard : Option ℕ → Run
    heard link = overheard_at s post k link r

    handed_begins : (n : ℕ) (link : Option ℕ) → Begins (heard link).past (handed s k post n link (heard link))
    unfolding handed
    handed_begins n link =
        let base : Run = note (entries.Handed k (node_id n)) (heard link) in
        h-acts s (Begins (heard link).past) (begins_effect s (heard link).past) n (Take k post.shield (handed_over post.packet link)) base (record { rest = entries.Handed k (node_id n) ∷ []; whole = refl })

    outside_begins : (by : ℕ) (link : Option ℕ) → Begins (heard link).past (held_by_outsider (heard link) k by link)
    outside_begins by link = at (hears_there (heard link) by link)
      where
        at : (b : Bool) → Begins (heard link).past (if b then heard link else note (entries.Heard k by) (heard link))
        at true = record { rest = []; whole = sym (append-nil (heard link).past) }
        at false = record { rest = entries.Heard k by ∷ []; whole = refl }

    -- whoever holds its destination, and where nobody does
    arrives_heard : (past : List Entry) (holder : Option ℕ) → hears_in run.past o l ≡ true → HasHeard run (became s k post (Some l) r (at_holder (asked_in s past) None holder)) k o
    arrives_heard past None listens = gone
      where
        gone : HasHeard run (note (entries.Gone k NoHolder) (heard (Some l))) k o
        gone = more run (heard (Some l)) (note (entries.Gone k NoHolder) (heard (Some l))) k o (heard_on l listens) (record { rest = entries.Gone k NoHolder ∷ []; whole = refl })
    arrives_heard past (Some by) listens = of (is_node by)
      where
        of : (b : Bool) → HasHeard run (became s k post (Some l) r (if b then Node by else Outsider by)) k o
        of true = more run (heard (Some l)) (handed s k post by (Some l) (heard (Some l))) k o (heard_on l listens) (handed_begins by (Some l))
        of false = more run (heard (Some l)) (held_by_outsider (heard (Some l)) k (outsider_of by) (Some l)) k o (heard_on l listens) (outside_begins (outsider_of by) (Some l))

    -- an outsider that holds it hears it in any case
    holder_heard : (link : Option ℕ) → HasHeard run (held_by_outsider (heard link) k o link) k o
    holder_heard None = record { first = []; rest = []; whole = ap (λ (past : List Entry). past ++ entries.Heard k o ∷ []) same }
    holder_heard (Some link) = at (hears_in run.past o link) refl
      where
        listens_there : hears_in (heard (Some link)).past o link ≡ hears_in run.past o link
        listens_there =
            subst (λ (shield : Option Shield). hears_in (let x : Run = (if is_some shield then r else notes (heards (hears link) k s.outsiders) r) in x).past o link ≡ hears_in run.past o link) (sym u.bare)
            (listens_on r.past (heards (hears link) k s.outsiders) o link (silent_heards (hears link) k s.outsiders o link) ∙ ap (λ (past : List Entry). hears_in past o link) same)

        front : Begins run.past (heard (Some link))
        front =
            subst (λ (shield : Option Shield). Begins run.past (if is_some shield then r else notes (heards (hears link) k s.outsiders) r)) (sym u.bare)
            (record { rest = heards (hears link) k s.outsiders; whole = ap (λ (past : List Entry). past ++ heards (hears link) k s.outsiders) same })

        at : (b : Bool) → hears_in run.past o link ≡ b → HasHeard run (held_by_outsider (heard (Some link)) k o (Some link)) k o
        at true listens = more run (heard (Some link)) (held_by_outsider (heard (Some link)) k o (Some link)) k o (heard_on link listens) (outside_begins o (Some link))
        at false deaf =
            subst (λ (b : Bool). HasHeard run (if b then heard (Some link) else note (entries.Heard k o) (heard (Some link))) k o) (sym (listens_there ∙ deaf))
            (record { first = front.rest; rest = []; whole = ap (λ (past : List Entry). past ++ entries.Heard k o ∷ []) front.whole ∙ append_assoc run.past front.rest (entries.Heard k o ∷ []) })

  pub arriving_heard : (keep : Bool) (o : ℕ) → o < s.outsiders → l ≢ post.from → hears_in run.past o l ≡ true → HasHeard run (delivered s run k keep) k o
  arriving_heard keep o inside apart listens =
      subst (λ (r : Run). HasHeard run r k o) (sym (delivered_is keep (at_holder (asked_in s run.past) None (holder_in run.past p.head.destination.0)) (fate_is run.past)))
      (subst (λ (link : Option ℕ). HasHeard run (became s k post link (if keep then run else without k run) (at_holder (asked_in s run.past) None (holder_in run.past p.head.destination.0))) k o) (sym other)
      (arrives_heard (if keep then run else without k run) (from_past keep) o inside run.past (holder_in run.past p.head.destination.0) listens))
    where
      unlike : (b : Bool) → (l == post.from) ≡ b → (let x : Option ℕ = (if b then None else Some l) in x) ≡ Some l
      unlike true same = absurd (apart (eqb-true l post.from same))
      unlike false is = refl

      other : arrival_link s post ≡ Some l
      other = ap (λ (x : Option ℕ). other_link x post.from) linked ∙ unlike (l == post.from) refl

  pub holding_heard : (keep : Bool) (o : ℕ) → o < s.outsiders → holder_in run.past p.head.destination.0 ≡ Some (holder_outside o) → HasHeard run (delivered s run k keep) k o
  holding_heard keep o inside holds =
      subst (λ (r : Run). HasHeard run r k o) (sym (delivered_is keep (Outsider (holder_outside o)) (fate_is run.past ∙ ap (at_holder (asked_in s run.past) None) holds ∙ outside)))
      (subst (λ (n : ℕ). HasHeard run (held_by_outsider (overheard_at s post k (arrival_link s post) (if keep then run else without k run)) k n (arrival_link s post)) k o) (sym back)
      (holder_heard (if keep then run else without k run) (from_past keep) o inside (arrival_link s post)))
    where
      back : outsider_of (holder_outside o) ≡ o
      back = omega arith

      outside : at_holder (asked_in s run.past) None (Some (holder_outside o)) ≡ Outsider (holder_outside o)
      outside = by (is_node (holder_outside o)) refl
        where
          by : (b : Bool) → is_node (holder_outside o) ≡ b → (if b then Node (holder_outside o) else Outsider (holder_outside o)) ≡ Outsider (holder_outside o)
          by true few = absurd (let less = ltb-true (holder_outside o) first_outsider few in omega (arith, less))
          by false many = refl
