-- What a node does does not depend on what its link had sent before.
use Rattle.std.proofs.Common.{◌≡◌, ℕ, ◌+◌, List, [], ◌∷◌, ◌++◌, Bool, true, false, refl, subst, ◌∙◌, ap}
use Rattle.std.specs.Prelude.{fold, None, Some, Option, ◌==◌, if◌then◌else◌}
use Rattle.mip_entries.specs.declared.answer.Answer.{Answer}
use Rattle.mip_entries.specs.declared.answer.Answer.TheVariants.{Send, Note}
use Rattle.mip_frames.specs.Framing.{Framed, framed_in}
use Rattle.mip_history.specs.Calls as calls
use Rattle.mip_history.specs.Calls.{Call, Tick}
use Rattle.mip_trace.specs.Lines.{trace_text}
use Rattle.mip_config.specs.declared.payload.Payload.{Payload}
use Rattle.mip_config.specs.Configs.{Content}
use Rattle.mip_config.specs.Facts.{address_of}
use Rattle.mip_node.specs.Roles.{answers_at, role_after, has_due}
use Rattle.mip_node.specs.Nodes.{Running, Datagrams, Serving, serving, counted, with_role, begun, put_on, answered_one, answered, asked_at}
use Rattle.mip_node.specs.Turns.{Seen, World, worked, paid_one, paid, before, given, taken, advertised_to, handed, heard, received, turned, turned_once, first_world, run}
use Rattle.mip_node.specs.Runs.{node_text}

-- two servings whose nodes are the same
Same : Serving → Serving → Type 0
Same s t = s.node ≡ t.node

-- a step makes the same of the same node
abbrev IsApart : (Serving → Serving) → Type 0
IsApart f = (n : Running) (a b : Datagrams) → (f (serving n a)).node ≡ (f (serving n b)).node

same-on : (f : Serving → Serving) → IsApart f → (s t : Serving) → s.node ≡ t.node → (f s).node ≡ (f t).node
same-on f apart s t is =
    let P : Running → Type 0 = λ n. (f (serving s.node s.sent)).node ≡ (f (serving n t.sent)).node in
    subst P is (apart s.node s.sent t.sent)

one-apart : (c : Content) (a : Answer) → IsApart (λ s. answered_one c s a)
unfolding answered_one put_on
one-apart c (Send shield packet) n a b = refl
one-apart c (Note entry) n a b = refl

fold-same : {A : Type 0} (f : Serving → A → Serving) → ((x : A) → IsApart (λ s. f s x)) → (xs : List A) (s t : Serving) → s.node ≡ t.node → (fold f s xs).node ≡ (fold f t xs).node
fold-same f each [] s t is = is
fold-same f each (x ∷ xs) s t is = fold-same f each xs (f s x) (f t x) (same-on (λ u. f u x) (each x) s t is)

asked-apart : (c : Content) (now : ℕ) (call : Call) → IsApart (asked_at c now call)
unfolding asked_at answered
asked-apart c now call n a b =
    fold-same (answered_one c) (one-apart c) (answers_at n.role now call) (serving (with_role (role_after n.role now call) n) a) (serving (with_role (role_after n.role now call) n) b) refl

worked-apart : (c : Content) (now : ℕ) → IsApart (worked c now)
unfolding worked
worked-apart c now n a b = by (has_due n.role now)
  where
    by : (due : Bool) → (if due then asked_at c now Tick (serving n a) else serving n a).node ≡ (if due then asked_at c now Tick (serving n b) else serving n b).node
    by true = asked-apart c now Tick n a b
    by false = refl

paid-one-apart : (c : Content) (turn now : ℕ) (p : Payload) → IsApart (λ s. paid_one c turn now s p)
unfolding paid_one
paid-one-apart c turn now p n a b = by (p.turn == turn)
  where
    ask : Serving → Serving
    ask s = asked_at c now (calls.Send p.to p.proto p.payload) s

    by : (its : Bool) → (if its then asked_at c now (calls.Send p.to p.proto p.payload) (serving n a) else serving n a).node
        ≡ (if its then asked_at c now (calls.Send p.to p.proto p.payload) (serving n b) else serving n b).node
    by true = asked-apart c now (calls.Send p.to p.proto p.payload) n a b
    by false = refl

before-apart : (c : Content) (turn now : ℕ) → IsApart (before c turn now)
unfolding before paid
before-apart c turn now n a b =
    fold-same (paid_one c turn now) (paid-one-apart c turn now) c.payloads (worked c now (serving (begun now n) a)) (worked c now (serving (begun now n) b)) (worked-apart c now (begun now n) a b)

given-apart : (c : Content) (now number : ℕ) (frame : Framed) (prefix : Option ℕ) → IsApart (given c now number frame prefix)
given-apart c now number frame None n a b = asked-apart c now (calls.Take number frame.shield frame.packet) n a b
given-apart c now number frame (Some prefix) n a b = asked-apart c now (calls.Attach prefix) _ a b

handed-apart : (c : Content) (now number : ℕ) (frame : Option Framed) → IsApart (handed c now number frame)
unfolding taken
handed-apart c now number None n a b = refl
handed-apart c now number (Some frame) n a b = given-apart c now number frame (advertised_to c frame) _ a b

received-apart : (c : Content) (now : ℕ) (item : Option (List ℕ)) → IsApart (received c now item)
unfolding received heard
received-apart c now None n a b = refl
received-apart c now (Some datagram) n a b = handed-apart c now n.next (framed_in (address_of c.role) datagram) (counted n) a b

turned-apart : (c : Content) (turn : ℕ) (seen : Seen) → IsApart (turned c turn seen)
unfolding turned
turned-apart c turn seen n a b =
    same-on (received c seen.0 seen.1) (received-apart c seen.0 seen.1) (before c turn seen.0 (serving n a)) (before c turn seen.0 (serving n b)) (before-apart c turn seen.0 n a b)

record SameWorld (w v : World) : Type 0 where
  turns : w.turns ≡ v.turns
  node : w.serving.node ≡ v.serving.node
  text : w.text ≡ v.text

once-same : (c : Content) (seen : Seen) (w v : World) → SameWorld w v → SameWorld (turned_once c w seen) (turned_once c v seen)
unfolding turned_once
once-same c seen w v same =
    let at : (turned c (w.turns + 1) seen w.serving).node ≡ (turned c (w.turns + 1) seen v.serving).node = same-on (turned c (w.turns + 1) seen) (turned-apart c (w.turns + 1) seen) w.serving v.serving same.node in
    let turns : w.turns + 1 ≡ v.turns + 1 = ap (λ (k : ℕ). k + 1) same.turns in
    let node : (turned c (w.turns + 1) seen w.serving).node ≡ (turned c (v.turns + 1) seen v.serving).node = at ∙ ap (λ (k : ℕ). (turned c k seen v.serving).node) turns in
    record {
      turns = turns;
      node = node;
      text = ap (λ (l : List ℕ). l ++ trace_text None (turned c (w.turns + 1) seen w.serving).node.entries) same.text ∙ ap (λ (n : Running). v.text ++ trace_text None n.entries) node;
    }

all-same : (c : Content) (seen : List Seen) (w v : World) → SameWorld w v → SameWorld (fold (turned_once c) w seen) (fold (turned_once c) v seen)
all-same c [] w v same = same
all-same c (x ∷ seen) w v same = all-same c seen (turned_once c w x) (turned_once c v x) (once-same c x w v same)

-- the text is that of a link that tells nothing
pub text_apart : (c : Content) (seen : List Seen) (sent : Datagrams) → (run c seen sent).text ≡ node_text c seen
unfolding run node_text
text_apart c seen sent = (all-same c seen (first_world c sent) (first_world c None) (record { turns = refl; node = refl; text = refl })).text
