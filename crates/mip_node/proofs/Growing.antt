-- What a link sent only grows in a turn.
use Rattle.std.proofs.Common.{◌≡◌, ℕ, ◌+◌, ◌<◌, List, [], ◌∷◌, ◌++◌, length, get_or, take, drop, Bool, true, false, refl, sym, subst, ◌∙◌, ap, inl, inr}
use Rattle.std.specs.Prelude.{fold, option_map, None, Some, Option, nat_lt, ◌==◌, if◌then◌else◌, ◌⊎◌, Result, Ok, Err, OnErr}
use Rattle.std.proofs.lemmas.List.{append-nil, append_assoc, take-append-drop, take_more, length_push}
use Rattle.std.proofs.lemmas.List.Sums.{fold-append, fold_push}
use Rattle.mip_words.specs.declared.shield.Shield.{Shield}
use Rattle.mip_entries.specs.declared.answer.Answer.{Answer}
use Rattle.mip_entries.specs.declared.answer.Answer.TheVariants.{Send, Note}
use Rattle.mip_frames.specs.Framing.{Framed, frame_bytes, framed_in}
use Rattle.mip_frames.specs.Routing.{port_of, with_frame}
use Rattle.mip_history.specs.Calls as calls
use Rattle.mip_history.specs.Calls.{Call, Tick}
use Rattle.mip_config.specs.declared.payload.Payload.{Payload}
use Rattle.mip_config.specs.Configs.{Content}
use Rattle.mip_config.specs.Facts.{address_of}
use Rattle.mip_node.specs.Roles.{answers_at, role_after, has_due}
use Rattle.mip_node.specs.Nodes.{Running, Datagrams, Serving, serving, counted, with_role, begun, put_on, answered_one, answered, asked_at}
use Rattle.mip_node.specs.Turns.{worked, paid_one, paid, before, told_of_router, given, advertised_to, taken, handed, heard, received}
use Rattle.mip_node.specs.Faults.{Grew, Between}

-- what holds anyhow, or follows from what holds, after an error
pub err_any : {A E P : Type 0} (r : Result A E) → P → OnErr r P
err_any (Ok x) p = tt
err_any (Err e) p = p

pub err_on : {A E P Q : Type 0} (r : Result A E) → (P → Q) → OnErr r P → OnErr r Q
err_on (Ok x) step p = tt
err_on (Err e) step p = step p

pub grew_not : (a : Datagrams) → Grew a a
grew_not None = record { more = []; is = refl }
grew_not (Some xs) = record { more = []; is = ap (λ (l : List (ℕ × List ℕ)). Some l) (sym (append-nil xs)) }

-- nothing was sent yet
pub not_yet : (first last : Datagrams) → Grew first last → Between first first last
not_yet first last until = record { since = grew_not first; until = until }

onto-onto : (a : Datagrams) (xs ys : List (ℕ × List ℕ)) → option_map (λ items. items ++ ys) (option_map (λ items. items ++ xs) a) ≡ option_map (λ items. items ++ (xs ++ ys)) a
onto-onto None xs ys = refl
onto-onto (Some zs) xs ys = ap (λ (l : List (ℕ × List ℕ)). Some l) (append_assoc zs xs ys)

pub grew_on : (a b c : Datagrams) → Grew a b → Grew b c → Grew a c
grew_on a b c first next = record {
  more = first.more ++ next.more;
  is = next.is ∙ ap (option_map (λ items. items ++ next.more)) first.is ∙ onto-onto a first.more next.more;
}

framed-on : (port : Option ℕ) (frame : List ℕ) (a : Datagrams) → Grew a (option_map (with_frame port frame) a)
framed-on None frame None = record { more = []; is = refl }
framed-on (Some port) frame None = record { more = []; is = refl }
framed-on None frame (Some xs) = grew_not (Some xs)
framed-on (Some port) frame (Some xs) = by (nat_lt 4096 (length frame))
  where
    by : (long : Bool) → Grew (Some xs) (Some (if long then xs else xs ++ (port, frame) ∷ []))
    by true = grew_not (Some xs)
    by false = record { more = (port, frame) ∷ []; is = refl }

put-grew : (c : Content) (shield : Option Shield) (packet : List ℕ) (s : Serving) → Grew s.sent (put_on c shield packet s).sent
unfolding put_on
put-grew c shield packet s = framed-on (port_of c.routes c.fallback packet) (frame_bytes shield packet) s.sent

one-grew : (c : Content) (s : Serving) (a : Answer) → Grew s.sent (answered_one c s a).sent
unfolding answered_one
one-grew c s (Send shield packet) = put-grew c shield packet s
one-grew c s (Note entry) = grew_not s.sent

fold-grew : {A : Type 0} (f : Serving → A → Serving) → ((s : Serving) (a : A) → Grew s.sent (f s a).sent) → (xs : List A) (s : Serving) → Grew s.sent (fold f s xs).sent
fold-grew f each [] s = grew_not s.sent
fold-grew f each (x ∷ xs) s = grew_on s.sent (f s x).sent (fold f (f s x) xs).sent (each s x) (fold-grew f each xs (f s x))

-- after a front of a list of steps, so much was sent of what all of them send
front-between : {A : Type 0} (f : Serving → A → Serving) → ((s : Serving) (a : A) → Grew s.sent (f s a).sent) → (xs : List A) (count : ℕ) (s : Serving)
    → Between s.sent (fold f s (take count xs)).sent (fold f s xs).sent
front-between {A = A} f each xs count s = record {
  since = fold-grew f each (take count xs) s;
  until = subst (λ (t : Serving). Grew (fold f s (take count xs)).sent t.sent)
      (sym (fold-append f s (take count xs) (drop count xs)) ∙ ap (λ (l : List A). fold f s l) (take-append-drop count xs))
      (fold-grew f each (drop count xs) (fold f s (take count xs)));
}

answered-grew : (c : Content) (answers : List Answer) (s : Serving) → Grew s.sent (answered c answers s).sent
unfolding answered
answered-grew c answers s = fold-grew (answered_one c) (one-grew c) answers s

pub asked_grew : (c : Content) (now : ℕ) (call : Call) (s : Serving) → Grew s.sent (asked_at c now call s).sent
unfolding asked_at
asked_grew c now call s = answered-grew c (answers_at s.node.role now call) _

-- the answers so far are the first of all, and stay so with the next one
pub first_more : (all : List Answer) (xs : List Answer) (a : Answer) → take (length xs) all ≡ xs → (length xs < length all) × (a ≡ get_or all (length xs) a)
    → take (length (xs ++ a ∷ [])) all ≡ xs ++ a ∷ []
first_more all xs a first yielded =
    ap (λ (n : ℕ). take n all) (length_push xs a) ∙ take_more all (length xs) a yielded.0 ∙ ap (λ (l : List Answer). l ++ get_or all (length xs) a ∷ []) first ∙ ap (λ (b : Answer). xs ++ b ∷ []) (sym yielded.1)

-- after so many answers the next one was not carried out, or its packet was sent
pub stopped_at : (c : Content) (all xs : List Answer) (a : Answer) (s t : Serving) (sent : Datagrams)
    → take (length xs) all ≡ xs → (length xs < length all) × (a ≡ get_or all (length xs) a) → t ≡ fold (answered_one c) s xs
    → (sent ≡ t.sent) ⊎ (sent ≡ (answered_one c t a).sent)
    → (count : ℕ) × (sent ≡ (answered c (take count all) s).sent)
unfolding answered
stopped_at c all xs a s t sent first yielded done (inl is) =
    let f : Serving → Answer → Serving = answered_one c in
    (length xs, is ∙ ap (λ (u : Serving). u.sent) done ∙ sym (ap (λ (l : List Answer). (fold f s l).sent) first))
stopped_at c all xs a s t sent first yielded done (inr is) =
    let f : Serving → Answer → Serving = answered_one c in (
      length (xs ++ a ∷ []),
      is ∙ ap (λ (u : Serving). (f u a).sent) done ∙ sym (ap (λ (u : Serving). u.sent) (fold_push f s xs a))
          ∙ sym (ap (λ (l : List Answer). (fold f s l).sent) (first_more all xs a first yielded)),
    )

-- so many answers of a call were carried out
pub asked_between : (c : Content) (now : ℕ) (call : Call) (node after : Running) (first sent : Datagrams) (answers : List Answer)
    → answers ≡ answers_at node.role now call → after ≡ with_role (role_after node.role now call) node
    → ((count : ℕ) × (sent ≡ (answered c (take count answers) (serving after first)).sent))
    → Between first sent (asked_at c now call (serving node first)).sent
unfolding asked_at answered
asked_between c now call node after first sent answers is_all is_after cut =
    let f : Serving → Answer → Serving = answered_one c in
    let front : Between first (fold f (serving after first) (take cut.0 answers)).sent (fold f (serving after first) answers).sent =
    front-between f (one-grew c) answers cut.0 (serving after first) in
    let mine : Between first sent (fold f (serving after first) answers).sent = subst (λ (d : Datagrams). Between first d (fold f (serving after first) answers).sent) (sym cut.1) front in
    let with_all : Between first sent (fold f (serving after first) (answers_at node.role now call)).sent =
    subst (λ (l : List Answer). Between first sent (fold f (serving after first) l).sent) is_all mine in
    subst (λ (n : Running). Between first sent (fold f (serving n first) (answers_at node.role now call)).sent) is_after with_all

worked-grew : (c : Content) (now : ℕ) (s : Serving) → Grew s.sent (worked c now s).sent
unfolding worked
worked-grew c now s = by (has_due s.node.role now)
  where
    by : (due : Bool) → Grew s.sent (if due then asked_at c now Tick s else s).sent
    by true = asked_grew c now Tick s
    by false = grew_not s.sent

pub paid_one_grew : (c : Content) (turn now : ℕ) (s : Serving) (p : Payload) → Grew s.sent (paid_one c turn now s p).sent
unfolding paid_one
paid_one_grew c turn now s p = by (p.turn == turn)
  where
    by : (its : Bool) → Grew s.sent (if its then asked_at c now (calls.Send p.to p.proto p.payload) s else s).sent
    by true = asked_grew c now (calls.Send p.to p.proto p.payload) s
    by false = grew_not s.sent

paid-grew : (c : Content) (turn now : ℕ) (ps : List Payload) (s : Serving) → Grew s.sent (paid c turn now ps s).sent
unfolding paid
paid-grew c turn now ps s = fold-grew (paid_one c turn now) (paid_one_grew c turn now) ps s

-- one payload more
pub paid_more : (c : Content) (turn now : ℕ) (ps items : List Payload) (i : ℕ) (p : Payload) (s t : Serving) → items ≡ ps → i < length items → p ≡ get_or items i p
    → t ≡ fold (paid_one c turn now) s (take i ps) → paid_one c turn now t p ≡ fold (paid_one c turn now) s (take (i + 1) ps)
paid_more c turn now ps items i p s t all inside item so =
    let f : Serving → Payload → Serving = paid_one c turn now in
    let within : i < length ps = subst (λ (l : List Payload). i < length l) all inside in
    let is : p ≡ get_or ps i p = subst (λ (l : List Payload). p ≡ get_or l i p) all item in
    ap (f t) is ∙ ap (λ (x : Serving). f x (get_or ps i p)) so ∙ sym (fold_push f s (take i ps) (get_or ps i p)) ∙ sym (ap (λ (l : List Payload). fold f s l) (take_more ps i p within))

-- in the payload at a place
pub paid_between : (c : Content) (turn now : ℕ) (ps items : List Payload) (i : ℕ) (p : Payload) (s t : Serving) (sent : Datagrams) → items ≡ ps → i < length items → p ≡ get_or items i p
    → t ≡ fold (paid_one c turn now) s (take i ps) → Between t.sent sent (paid_one c turn now t p).sent → Between s.sent sent (paid c turn now ps s).sent
unfolding paid
paid_between c turn now ps items i p s t sent all inside item so cut =
    let f : Serving → Payload → Serving = paid_one c turn now in
    let before : Grew s.sent t.sent = subst (λ (x : Serving). Grew s.sent x.sent) (sym so) (fold-grew f (paid_one_grew c turn now) (take i ps) s) in
    let next : fold f s (take (i + 1) ps) ≡ f t p = sym (paid_more c turn now ps items i p s t all inside item so) in
    let last : Between s.sent (fold f s (take (i + 1) ps)).sent (fold f s ps).sent = front-between f (paid_one_grew c turn now) ps (i + 1) s in
    let after : Grew (f t p).sent (fold f s ps).sent = subst (λ (x : Serving). Grew x.sent (fold f s ps).sent) next last.until in
    record {
      since = grew_on s.sent t.sent sent before cut.since;
      until = grew_on sent (f t p).sent (fold f s ps).sent cut.until after;
    }

pub before_grew : (c : Content) (turn now : ℕ) (s : Serving) → Grew s.sent (before c turn now s).sent
unfolding before
before_grew c turn now s =
    let w : Serving = worked c now (serving (begun now s.node) s.sent) in
    grew_on s.sent w.sent (paid c turn now c.payloads w).sent (worked-grew c now (serving (begun now s.node) s.sent)) (paid-grew c turn now c.payloads w)

-- in due work
pub worked_between : (c : Content) (turn now : ℕ) (node n : Running) (first sent : Datagrams) → n ≡ begun now node
    → Between first sent (worked c now (serving n first)).sent → Between first sent (before c turn now (serving node first)).sent
unfolding before
worked_between c turn now node n first sent begin cut =
    let w : Serving = worked c now (serving (begun now node) first) in
    let mine : Between first sent w.sent = subst (λ (m : Running). Between first sent (worked c now (serving m first)).sent) begin cut in
    record { since = mine.since; until = grew_on sent w.sent (paid c turn now c.payloads w).sent mine.until (paid-grew c turn now c.payloads w) }

-- in a payload
pub paying_between : (c : Content) (turn now : ℕ) (node n : Running) (first : Datagrams) (w : Serving) (sent : Datagrams) → n ≡ begun now node → w ≡ worked c now (serving n first)
    → Between w.sent sent (paid c turn now c.payloads w).sent → Between first sent (before c turn now (serving node first)).sent
unfolding before
paying_between c turn now node n first w sent begin is cut =
    let v : Serving = worked c now (serving (begun now node) first) in
    let same : w ≡ v = is ∙ ap (λ (m : Running). worked c now (serving m first)) begin in
    let mine : Between v.sent sent (paid c turn now c.payloads v).sent = subst (λ (x : Serving). Between x.sent sent (paid c turn now c.payloads x).sent) same cut in
    record { since = grew_on first v.sent sent (worked-grew c now (serving (begun now node) first)) mine.since; until = mine.until }

pub told_grew : (c : Content) (now prefix : ℕ) (s : Serving) → Grew s.sent (told_of_router c now prefix s).sent
told_grew c now prefix s = asked_grew c now (calls.Attach prefix) _

given-grew : (c : Content) (now number : ℕ) (frame : Framed) (prefix : Option ℕ) (s : Serving) → Grew s.sent (given c now number frame prefix s).sent
given-grew c now number frame None s = asked_grew c now (calls.Take number frame.shield frame.packet) s
given-grew c now number frame (Some prefix) s = told_grew c now prefix s

pub taken_grew : (c : Content) (now number : ℕ) (frame : Framed) (s : Serving) → Grew s.sent (taken c now number frame s).sent
unfolding taken
taken_grew c now number frame s = given-grew c now number frame (advertised_to c frame) _

handed-grew : (c : Content) (now number : ℕ) (frame : Option Framed) (s : Serving) → Grew s.sent (handed c now number frame s).sent
handed-grew c now number None s = grew_not s.sent
handed-grew c now number (Some frame) s = taken_grew c now number frame s

pub received_grew : (c : Content) (now : ℕ) (item : Option (List ℕ)) (s : Serving) → Grew s.sent (received c now item s).sent
unfolding received heard
received_grew c now None s = grew_not s.sent
received_grew c now (Some datagram) s = handed-grew c now s.node.next (framed_in (address_of c.role) datagram) (serving (counted s.node) s.sent)
