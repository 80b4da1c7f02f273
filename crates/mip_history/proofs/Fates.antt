-- A node that is handed a packet is the one that its shield names, by the first address that it claimed.
use Rattle.std.proofs.Common.{◌≡◌, ℕ, List, [], ◌∷◌, true, refl, ap, ◌∙◌, subst}
use Rattle.std.specs.Prelude.{fold, not, Option, Some, None, ◌==◌, ◌&&◌, nat_lt}
use Rattle.std.proofs.lemmas.Bool.{cond_both, and_parts, eqb-true}
use Rattle.std.proofs.lemmas.List.Sums.{fold-append}
use Rattle.mip_words.specs.Last.{or_else}
use Rattle.mip_words.specs.declared.address.Address.{Address}
use Rattle.mip_words.specs.declared.ids.NodeId.{NodeId}
use Rattle.mip_words.specs.declared.shield.Shield.{Shield}
use Rattle.mip_words.specs.declared.why.Why.TheVariants.{Shield as NotForIt, Hop}
use Rattle.mip_entries.specs.declared.entry.Entry.{Entry}
use Rattle.mip_schedule.specs.declared.event.Event.{Event}
use Rattle.mip_links.specs.Table.{Fate, Post, link_of, is_node, is_address, held_by, at_holder, at_link, destination_in, delivery}
use Rattle.mip_links.specs.Table.Fate.{Gone, Node}
use Rattle.mip_ipv6.specs.Tunnel.{hop_of}
use Rattle.mip_history.specs.Setup.{Setup}
use Rattle.mip_history.specs.Runs.{Run}
use Rattle.mip_history.specs.Questions.{holder_in, claims, declared_in, asked_in}
use Rattle.mip_history.proofs.Changes.{IsFate}

named_is : (named : Option Address) (a : Address) → is_address named a ≡ true → named ≡ Some a
named_is None a e = absurd cc
named_is (Some b) a e = ap (λ (n : ℕ). let x : Address = record { 0 = n } in Some x) (eqb-true b.0 a.0 e)

node_named : (s : Setup) (past : List Entry) (post : Post) (who : ℕ) → delivery (asked_in s past) (Some post) ≡ Node who → (shield : Shield) → post.shield ≡ Some shield → declared_in past who ≡ Some shield.to
node_named s past post who is shield under = on (link_of s.links (destination_in post.packet)) is
  where
    held : (o : Option Shield) (by : ℕ) → held_by o by (declared_in past by) ≡ Node who → o ≡ Some shield → declared_in past who ≡ Some shield.to
    held None by e same = absurd cc
    held (Some x) by e same =
        cond_both (is_node by && is_address (declared_in past by) x.to) (Node by) (Gone NotForIt) (λ (f : Fate). f ≡ Node who → declared_in past who ≡ Some shield.to)
        (λ yes f.
        let mine : by ≡ who = cc in
        let one : x ≡ shield = cc in
        let parts = and_parts (is_node by) (is_address (declared_in past by) x.to) yes in
        subst (λ (n : ℕ). declared_in past n ≡ Some shield.to) mine (named_is (declared_in past by) x.to parts.1 ∙ ap (λ (y : Shield). Some y.to) one))
        (λ no f. absurd cc) e

    at : (o : Option ℕ) → at_holder (asked_in s past) post.shield o ≡ Node who → declared_in past who ≡ Some shield.to
    at None e = absurd cc
    at (Some by) e = held post.shield by e under

    on : (link : Option ℕ) → at_link (asked_in s past) post link ≡ Node who → declared_in past who ≡ Some shield.to
    on None e = absurd cc
    on (Some link) e =
        cond_both (not (link == post.from) && nat_lt (hop_of post.packet) 2) (Gone Hop) (at_holder (asked_in s past) post.shield (holder_in past (destination_in post.packet)))
        (λ (f : Fate). f ≡ Node who → declared_in past who ≡ Some shield.to) (λ used f. absurd cc) (λ fresh f. at (holder_in past (destination_in post.packet)) f) e

declared_keeps : (by : ℕ) (a : Address) (es : List Entry) → fold (λ o e. or_else o (claims by e)) (Some a) es ≡ Some a
declared_keeps by a [] = refl
declared_keeps by a (e ∷ es) = declared_keeps by a es

pub fate_named : (s : Setup) (event : Event) (run : Run) (k : ℕ) (node : NodeId) → (is : IsFate s event run k (Node node.0)) → (shield : Shield) → is.post.shield ≡ Some shield → declared_in run.past node.0 ≡ Some shield.to
fate_named s event run k node is shield under =
    ap (λ (l : List Entry). declared_in l node.0) is.whole
    ∙ fold-append (λ (o : Option Address) (e : Entry). or_else o (claims node.0 e)) None is.front is.heard
    ∙ ap (λ (o : Option Address). fold (λ (o : Option Address) (e : Entry). or_else o (claims node.0 e)) o is.heard) (node_named s is.front is.post node.0 is.comes shield under)
    ∙ declared_keeps node.0 shield.to is.heard
