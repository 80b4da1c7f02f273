-- The steps of a turn in their order, and what a datagram leaves.
use Rattle.std.proofs.Common.{◌≡◌, ℕ, List, [], ◌∷◌, ◌++◌, true, false, cond, refl, sym, ap, ◌∙◌, append_assoc, append-nil, inl, inr}
use Rattle.std.specs.Prelude.{Bool, ◌==◌, ◌≢◌, ◌⊎◌, Option, Some, None, fold, is_some}
use Rattle.std.proofs.lemmas.Bool.{cond-true, cond-false, eq-eqb, eqb-true}
use Rattle.std.proofs.lemmas.Bool.Decides.{eqb_tells}
use Rattle.mip_words.specs.declared.address.Address.{Address}
use Rattle.mip_words.specs.declared.shield.Shield.{Shield}
use Rattle.mip_words.specs.declared.ids.NodeId.{NodeId}
use Rattle.mip_entries.specs.declared.answer.Answer.{Answer}
use Rattle.mip_entries.specs.declared.answer.Answer.TheVariants.{Send, Note}
use Rattle.mip_entries.specs.declared.entry.Entry.{Entry}
use Rattle.mip_entries.specs.declared.entry.Entry.TheVariants.{Handed, Sent}
use Rattle.mip_outside.specs.declared.put.Put.{Put}
use Rattle.mip_outside.specs.declared.put.Put.TheVariants as puts
use Rattle.mip_frames.specs.Framing.{Framed, frame_of, ends_at, if_for, framed_in}
use Rattle.mip_frames.specs.Routing.{put_for}
use Rattle.mip_history.specs.Calls as calls
use Rattle.mip_history.specs.Calls.{Call, Tick}
use Rattle.mip_config.specs.declared.payload.Payload.{Payload}
use Rattle.mip_config.specs.Configs.{Content}
use Rattle.mip_config.specs.Facts.{address_of}
use Rattle.mip_node.specs.Roles.{answers_at, has_due}
use Rattle.mip_node.specs.Nodes.{Running, Serving, serving, begun, counted, after_put, put_on, answered_one, answered, asked_at}
use Rattle.mip_node.specs.Turns.{Seen, worked, paid_one, paid, before, noting, told_of_router, given, advertised_to, taken, handed, heard, received, turned}
use Rattle.mip_node.specs.TurnsLaws.{DoesDue, Pays, PaysAll, ActsFirst, Leaves}

differs : (a b : ℕ) → a ≢ b → (a == b) ≡ false
differs a b apart = by (eqb_tells a b)
  where
    by : (((a == b) ≡ true) × (a ≡ b)) ⊎ (((a == b) ≡ false) × (a ≢ b)) → (a == b) ≡ false
    by (inl same) = absurd (apart same.1)
    by (inr other) = other.0

works : (c : Content) (now : ℕ) (s : Serving) → DoesDue c now s (worked c now s)
unfolding worked
works c now s = record {
  due = λ e. cond-true (has_due s.node.role now) (asked_at c now Tick s) s e;
  idle = λ e. cond-false (has_due s.node.role now) (asked_at c now Tick s) s e;
}

pays : (c : Content) (turn now : ℕ) (s : Serving) (p : Payload) → Pays c turn now p s (paid_one c turn now s p)
unfolding paid_one
pays c turn now s p = record {
  its = λ e. cond-true (p.turn == turn) (asked_at c now (calls.Send p.to p.proto p.payload) s) s (eq-eqb p.turn turn e);
  other = λ e. cond-false (p.turn == turn) (asked_at c now (calls.Send p.to p.proto p.payload) s) s (differs p.turn turn e);
}

pays_all : (c : Content) (turn now : ℕ) (ps : List Payload) (s : Serving) → PaysAll c turn now ps s (fold (paid_one c turn now) s ps)
unfolding PaysAll
pays_all c turn now [] s = refl
pays_all c turn now (p ∷ ps) s = (paid_one c turn now s p, (pays c turn now s p, pays_all c turn now ps (paid_one c turn now s p)))

pub acts_first : (c : Content) (turn now : ℕ) (s : Serving) → ActsFirst c turn now s (before c turn now s)
unfolding before paid
acts_first c turn now s =
    let begins : Serving = serving (begun now s.node) s.sent in
    record { worked = worked c now begins; works = works c now begins; pays = pays_all c turn now c.payloads (worked c now begins) }

pub then_nothing : (c : Content) (turn now : ℕ) (s : Serving) → turned c turn (now, None) s ≡ before c turn now s
unfolding turned received
then_nothing c turn now s = refl

-- ---- entries only come behind those before

abbrev Adds : (first last : Serving) → Type 0
Adds first last = (more : List Entry) × (last.node.entries ≡ first.node.entries ++ more)

adds_on : (a b d : Serving) → Adds a b → Adds b d → Adds a d
adds_on a b d first next = (
  first.0 ++ next.0,
  next.1 ∙ ap (λ (l : List Entry). l ++ next.0) first.1 ∙ append_assoc a.node.entries first.0 next.0,
)

adds_none : (s : Serving) → Adds s s
adds_none s = ([], sym (append-nil s.node.entries))

after-adds : (by : NodeId) (put : Put) (shielded : Bool) (packet : List ℕ) (n : Running) → (more : List Entry) × ((after_put by put shielded packet n).entries ≡ n.entries ++ more)
unfolding after_put
after-adds by puts.Sent shielded packet n = (_, refl)
after-adds by puts.NoRoute shielded packet n = (_, refl)
after-adds by puts.Oversize shielded packet n = (_, refl)

put-adds : (c : Content) (shield : Option Shield) (packet : List ℕ) (s : Serving) → Adds s (put_on c shield packet s)
unfolding put_on
put-adds c shield packet s = after-adds c.node (put_for c.routes c.fallback shield packet) (is_some shield) packet s.node

one-adds : (c : Content) (s : Serving) (a : Answer) → Adds s (answered_one c s a)
unfolding answered_one
one-adds c s (Send shield packet) = put-adds c shield packet s
one-adds c s (Note entry) = (_, refl)

all-add : (c : Content) (answers : List Answer) (s : Serving) → Adds s (fold (answered_one c) s answers)
all-add c [] s = adds_none s
all-add c (a ∷ answers) s = adds_on s (answered_one c s a) (fold (answered_one c) (answered_one c s a) answers) (one-adds c s a) (all-add c answers (answered_one c s a))

asked-adds : (c : Content) (now : ℕ) (call : Call) (s : Serving) → Adds s (asked_at c now call s)
unfolding asked_at answered
asked-adds c now call s = all-add c (answers_at s.node.role now call) _

told-adds : (c : Content) (now prefix : ℕ) (s : Serving) → Adds s (told_of_router c now prefix s)
told-adds c now prefix s = adds_on s (noting _ s) (told_of_router c now prefix s) (_, refl) (asked-adds c now (calls.Attach prefix) (noting _ s))

given-adds : (c : Content) (now number : ℕ) (frame : Framed) (prefix : Option ℕ) (s : Serving) → Adds s (given c now number frame prefix s)
given-adds c now number frame None s = asked-adds c now (calls.Take number frame.shield frame.packet) s
given-adds c now number frame (Some prefix) s = told-adds c now prefix s

handed-leaves : (c : Content) (now number : ℕ) (frame : Option Framed) (s : Serving) → Leaves c number frame s.node.entries (handed c now number frame s).node.entries
unfolding taken
handed-leaves c now number None s = refl
handed-leaves c now number (Some frame) s =
    let over : Serving = noting (Handed number c.node) s in
    let more = given-adds c now number frame (advertised_to c frame) over in
    (more.0, more.1 ∙ append_assoc s.node.entries (Handed number c.node ∷ []) more.0)

pub leaves : (c : Content) (turn now : ℕ) (datagram : List ℕ) (s : Serving)
    → Leaves c (before c turn now s).node.next (framed_in (address_of c.role) datagram) (before c turn now s).node.entries (turned c turn (now, Some datagram) s).node.entries
unfolding turned received heard
leaves c turn now datagram s =
    let b : Serving = before c turn now s in
    handed-leaves c now b.node.next (framed_in (address_of c.role) datagram) (serving (counted b.node) b.sent)

-- ---- shields

-- a frame that is for the node and under a shield is under one that ends at its address
pub ends_here : (own : Address) (datagram : List ℕ) (frame : Framed) (shield : Shield) → framed_in own datagram ≡ Some frame → frame.shield ≡ Some shield → shield.to.0 ≡ own.0
ends_here own datagram frame shield found under = by (frame_of datagram) found
  where
    by_end : (g : Framed) (here : Bool) → ends_at own g.shield ≡ here → cond here (Some g) None ≡ Some frame → shield.to.0 ≡ own.0
    by_end g false test e = absurd cc
    by_end g true test e =
        let same : g ≡ frame = cc in
        let its : g.shield ≡ Some shield = ap (λ (f : Framed). f.shield) same ∙ under in
        eqb-true shield.to.0 own.0 (sym (ap (ends_at own) its) ∙ test)

    by : (f : Option Framed) → if_for own f ≡ Some frame → shield.to.0 ≡ own.0
    by None e = absurd cc
    by (Some g) e = by_end g (ends_at own g.shield) refl e
