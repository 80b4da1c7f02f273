-- Calls one after another.
use Rattle.std.proofs.Common.{◌≡◌, ℕ, ◌-◌, zero, suc, ◌+◌, ◌<◌, ◌≤◌, List, [], ◌∷◌, ◌++◌, length, take, true, refl, sym, ap, ◌∙◌, subst, arith, length-append, append_assoc, append-nil, inl, inr}
use Rattle.std.specs.Prelude.{Option, Some, None, Result, Ok, Err, option_map, slice_get, OnOk, OnErr, replicate}
use Rattle.std.specs.List.{flat_map}
use Rattle.std.proofs.Math.Seq.{take-append-add}
use Rattle.std.proofs.lemmas.List.{map-append, take-append-le, replicate-append-replicate}
use Rattle.std.proofs.lemmas.Grind.{flat_map-append}
use Rattle.mip_outside.specs.LinkCalls.{called, fault_of, granted}
use Rattle.mip_outside.specs.declared.asked.Asked.{Asked}
use Rattle.mip_outside.specs.declared.asked.Asked.TheVariants.{Listen, Send, Receive}
use Rattle.mip_outside.specs.declared.link_call.LinkCall.{LinkCall}
use Rattle.mip_outside.specs.declared.put_fault.PutFault.{PutFault}
use Rattle.mip_outside.specs.declared.put_fault.PutFault.TheVariants.{Failed, Memory}
use Rattle.mip_hub.specs.Calls.{Call, Listens, Sends, Receives, sent_by, sent_on, asked_by, LinkState, link_state, made_on, asked_on, is_link, IsCutAt, IsEndedBy, Stops, Goes}

abbrev Known : Type 0
Known = Option (List (ℕ × List ℕ))

nothing_sent : (known : Known) → known ≡ sent_on [] known
unfolding sent_on
nothing_sent None = refl
nothing_sent (Some items) = ap (λ (l : List (ℕ × List ℕ)). Some l) (sym (append-nil items))

sent_more : (xs ys : List Call) (known : Known) → sent_on ys (sent_on xs known) ≡ sent_on (xs ++ ys) known
unfolding sent_on
sent_more xs ys None = refl
sent_more xs ys (Some items) =
    ap (λ (l : List (ℕ × List ℕ)). Some l) (append_assoc items (flat_map sent_by xs) (flat_map sent_by ys) ∙ ap (λ (l : List (ℕ × List ℕ)). items ++ l) (sym (flat_map-append sent_by xs ys)))

granted_more : (xs ys : List Asked) → granted xs ++ granted ys ≡ granted (xs ++ ys)
unfolding granted
granted_more xs ys = sym (map-append (λ a. called a None) xs ys)

no_calls : (calls : List LinkCall) → calls ≡ calls ++ granted []
unfolding granted
no_calls calls = sym (append-nil calls)

calls_more : (xs ys : List Call) (calls : List LinkCall) → (calls ++ granted (flat_map asked_by xs)) ++ granted (flat_map asked_by ys) ≡ calls ++ granted (flat_map asked_by (xs ++ ys))
calls_more xs ys calls =
    append_assoc calls (granted (flat_map asked_by xs)) (granted (flat_map asked_by ys))
    ∙ ap (λ (l : List LinkCall). calls ++ l) (granted_more (flat_map asked_by xs) (flat_map asked_by ys) ∙ ap granted (sym (flat_map-append asked_by xs ys)))

pub both : {s t : Known} {c d : List LinkCall} → s ≡ t → c ≡ d → link_state s c ≡ link_state t d
both e f = cc

pub nothing_made : (link : LinkState) → link ≡ made_on [] link
unfolding made_on
nothing_made link = both (nothing_sent link.sent) (no_calls link.calls)

pub nothing_asked : (link : LinkState) → link ≡ asked_on [] link
nothing_asked link = both refl (sym (append-nil link.calls))

pub same_link : (after before : LinkState) → after ≡ before → after ≡ made_on [] before
same_link after before e = e ∙ nothing_made before

pub made_twice : (xs ys : List Call) (link : LinkState) → made_on ys (made_on xs link) ≡ made_on (xs ++ ys) link
unfolding made_on
made_twice xs ys link = both (sent_more xs ys link.sent) (calls_more xs ys link.calls)

-- a call that sends nothing was refused before any other was made
pub refused_first : (known sent : Known) (calls calls1 last : List LinkCall) → sent ≡ known → calls1 ≡ calls ++ last
    → link_state sent calls1 ≡ asked_on last (made_on [] (link_state known calls))
unfolding made_on
refused_first known sent calls calls1 last same is =
    both (same ∙ nothing_sent known) (is ∙ ap (λ (l : List LinkCall). l ++ last) (no_calls calls))

-- no call was made, and memory ran out
pub stays : (calls : List Call) (before after : LinkState) → after ≡ before → Stops Memory calls before after
stays calls before after e = record {
  count = 0;
  cut = omega arith;
  last = [];
  ended = inl refl;
  left = e ∙ nothing_made before ∙ nothing_asked (made_on [] before);
}

-- one datagram was sent, or the call failed
pub sends : {U : Type 0} (port : ℕ) (datagram : List ℕ) (r : Result U PutFault) (sent sent1 : Known) (calls calls1 : List LinkCall)
    → OnOk r (sent1 ≡ option_map (λ items. items ++ (port, datagram) ∷ []) sent) → OnErr r (sent1 ≡ sent) → calls1 ≡ calls ++ called Send (fault_of r) ∷ []
    → Goes (Sends port datagram ∷ []) r (link_state sent calls) (link_state sent1 calls1)
unfolding made_on sent_on granted
sends port datagram (Ok u) sent sent1 calls calls1 ok err is = both ok is
sends port datagram (Err Failed) sent sent1 calls calls1 ok err is =
    record { count = 0; cut = refl; last = called Send (Some Failed) ∷ []; ended = refl; left = refused_first sent sent1 calls calls1 _ err is }
sends port datagram (Err Memory) sent sent1 calls calls1 ok err is =
    record { count = 0; cut = omega arith; last = called Send (Some Memory) ∷ []; ended = inr refl; left = refused_first sent sent1 calls calls1 _ err is }

-- a port was listened on
pub listened : (port : ℕ) (sent sent1 : Known) (calls calls1 : List LinkCall) → sent1 ≡ sent → calls1 ≡ calls ++ called Listen None ∷ []
    → link_state sent1 calls1 ≡ made_on (Listens port ∷ []) (link_state sent calls)
unfolding made_on sent_on granted
listened port sent sent1 calls calls1 same is = both (same ∙ nothing_sent sent) is

-- it was waited for a datagram
pub received : (sent sent1 : Known) (calls calls1 : List LinkCall) → sent1 ≡ sent → calls1 ≡ calls ++ called Receive None ∷ []
    → link_state sent1 calls1 ≡ made_on (Receives ∷ []) (link_state sent calls)
unfolding made_on sent_on granted
received sent sent1 calls calls1 same is = both (same ∙ nothing_sent sent) is

-- the link was to be waited on, and failed
pub deaf : (calls : List Call) (sent sent1 : Known) (calls0 calls1 : List LinkCall) → sent1 ≡ sent → calls1 ≡ calls0 ++ called Receive (Some Failed) ∷ []
    → Stops Failed (Receives ∷ calls) (link_state sent calls0) (link_state sent1 calls1)
deaf calls sent sent1 calls0 calls1 same is =
    record { count = 0; cut = refl; last = called Receive (Some Failed) ∷ []; ended = refl; left = refused_first sent sent1 calls0 calls1 _ same is }

pub get_behind : {X : Type 0} (xs ys : List X) (k n : ℕ) → n ≡ length xs + k → slice_get (xs ++ ys) n ≡ slice_get ys k
get_behind [] ys k n e = let same : n ≡ k = omega (arith, e) in ap (slice_get ys) same
get_behind (x ∷ xs) ys k zero e = absurd (omega (arith, e))
get_behind (x ∷ xs) ys k (suc n) e = get_behind xs ys k n (omega (arith, e))

get_front : {X : Type 0} (xs ys : List X) (n : ℕ) → n < length xs → slice_get (xs ++ ys) n ≡ slice_get xs n
get_front [] ys n inside = absurd (omega arith)
get_front (x ∷ xs) ys zero inside = refl
get_front (x ∷ xs) ys (suc n) inside = get_front xs ys n (omega arith)

link_within : (calls : List Call) (n : ℕ) → is_link (slice_get calls n) ≡ true → n < length calls
link_within [] n e = absurd cc
link_within (x ∷ xs) zero e = omega arith
link_within (x ∷ xs) (suc n) e = let below = link_within xs n e in omega (arith, below)

cut_on : (fault : PutFault) (xs ys : List Call) (count : ℕ) → IsCutAt fault ys count → IsCutAt fault (xs ++ ys) (length xs + count)
cut_on Failed xs ys count cut = ap is_link (get_behind xs ys count (length xs + count) refl) ∙ cut
cut_on Memory xs ys count cut = omega (arith, length-append xs ys, cut)

pub cut_within : (fault : PutFault) (calls : List Call) (count : ℕ) → IsCutAt fault calls count → count ≤ length calls
cut_within Failed calls count cut = let below = link_within calls count cut in omega (arith, below)
cut_within Memory calls count cut = cut

pub cut_off : (fault : PutFault) (xs ys : List Call) (count : ℕ) → IsCutAt fault xs count → IsCutAt fault (xs ++ ys) count
cut_off Failed xs ys count cut = ap is_link (get_front xs ys count (link_within xs count cut)) ∙ cut
cut_off Memory xs ys count cut = omega (arith, length-append xs ys, cut)

ended_on : (fault : PutFault) (xs ys : List Call) (count : ℕ) (last : List LinkCall) → IsEndedBy fault (slice_get ys count) last
    → IsEndedBy fault (slice_get (xs ++ ys) (length xs + count)) last
ended_on fault xs ys count last ended = subst (λ (c : Option Call). IsEndedBy fault c last) (sym (get_behind xs ys count (length xs + count) refl)) ended

-- memory ran out in front of a call, or in it
pub lost_off : (xs ys : List Call) (count : ℕ) (last : List LinkCall) → IsEndedBy Memory (slice_get xs count) last → IsEndedBy Memory (slice_get (xs ++ ys) count) last
lost_off [] ys count last (inl none) = inl none
lost_off [] ys count last (inr none) = inl none
lost_off (x ∷ xs) ys zero last ended = ended
lost_off (x ∷ xs) ys (suc n) last ended = lost_off xs ys n last ended

pub ended_off : (fault : PutFault) (xs ys : List Call) (count : ℕ) (last : List LinkCall) → IsCutAt fault xs count → IsEndedBy fault (slice_get xs count) last
    → IsEndedBy fault (slice_get (xs ++ ys) count) last
ended_off Failed xs ys count last cut ended = subst (λ (c : Option Call). IsEndedBy Failed c last) (sym (get_front xs ys count (link_within xs count cut))) ended
ended_off Memory xs ys count last cut ended = lost_off xs ys count last ended

-- more calls behind those that were made
pub goes_on : {U : Type 0} (xs ys : List Call) (r : Result U PutFault) (before mid after : LinkState) → mid ≡ made_on xs before → Goes ys r mid after → Goes (xs ++ ys) r before after
goes_on xs ys (Ok u) before mid after is goes = goes ∙ ap (made_on ys) is ∙ made_twice xs ys before
goes_on xs ys (Err fault) before mid after is goes = record {
  count = length xs + goes.count;
  cut = cut_on fault xs ys goes.count goes.cut;
  last = goes.last;
  ended = ended_on fault xs ys goes.count goes.last goes.ended;
  left = goes.left
      ∙ ap (asked_on goes.last)
      (ap (made_on (take goes.count ys)) is ∙ made_twice xs (take goes.count ys) before ∙ ap (λ (c : List Call). made_on c before) (sym (take-append-add xs ys goes.count)));
}

-- calls behind one that failed are not made
pub goes_off : (xs ys : List Call) (fault : PutFault) (before after : LinkState) → Stops fault xs before after → Stops fault (xs ++ ys) before after
goes_off xs ys fault before after goes = record {
  count = goes.count;
  cut = cut_off fault xs ys goes.count goes.cut;
  last = goes.last;
  ended = ended_off fault xs ys goes.count goes.last goes.cut goes.ended;
  left = goes.left ∙ ap (λ (c : List Call). asked_on goes.last (made_on c before)) (sym (take-append-le goes.count xs ys (cut_within fault xs goes.count goes.cut)));
}

-- one call more, that failed: none of those behind it is made
pub stops_in : (xs one rest whole : List Call) (fault : PutFault) (before mid after : LinkState) → whole ≡ xs ++ (one ++ rest) → mid ≡ made_on xs before → Stops fault one mid after → Stops fault whole before after
stops_in xs one rest whole fault before mid after is made goes =
    subst (λ (c : List Call). Stops fault c before after) (sym is)
    (goes_on {U = Unit {0}} xs (one ++ rest) (Err fault) before mid after made (goes_off one rest fault mid after goes))

-- one call more
pub made_more : (xs one : List Call) (before mid after : LinkState) → mid ≡ made_on xs before → after ≡ made_on one mid → after ≡ made_on (xs ++ one) before
made_more xs one before mid after made next = next ∙ ap (made_on one) made ∙ made_twice xs one before

-- copies
pub one_copy : (n : ℕ) (call : Call) → replicate n call ++ call ∷ [] ≡ replicate (n + 1) call
one_copy n call = replicate-append-replicate n 1 call

pub copies_split : (i n : ℕ) (call : Call) → i < n → replicate n call ≡ replicate i call ++ ((call ∷ []) ++ replicate (n - (i + 1)) call)
copies_split i n call below =
    let whole : i + (1 + (n - (i + 1))) ≡ n = omega (arith, below) in
    sym (ap (λ (m : ℕ). replicate m call) whole) ∙ sym (replicate-append-replicate i (1 + (n - (i + 1))) call)
    ∙ ap (λ (c : List Call). replicate i call ++ c) (sym (replicate-append-replicate 1 (n - (i + 1)) call))

-- one text more
pub texts_more : {X : Type 0} (f : X → List ℕ) (n : ℕ) (x : X) (first before after : List ℕ) → before ≡ first ++ flat_map f (replicate n x) → after ≡ before ++ f x
    → after ≡ first ++ flat_map f (replicate (n + 1) x)
texts_more f n x first before after is next =
    next ∙ ap (λ (l : List ℕ). l ++ f x) is ∙ append_assoc first (flat_map f (replicate n x)) (f x)
    ∙ ap (λ (l : List ℕ). first ++ l)
    (ap (λ (l : List ℕ). flat_map f (replicate n x) ++ l) (sym (append-nil (f x))) ∙ sym (flat_map-append f (replicate n x) (x ∷ [])) ∙ ap (flat_map f) (replicate-append-replicate n 1 x))
