-- What a table keeps, and what it answers for the claims of a history.
use Rattle.std.proofs.Common.{◌≡◌, ◌⊎◌, ℕ, Bool, true, false, eqb, List, [], ◌∷◌, ◌++◌, inl, inr, refl, sym, ap, ◌∙◌, subst, arith}
use Rattle.std.specs.Prelude.{fold, ◌==◌, ◌&&◌, if◌then◌else◌, Option, Some, None, unwrap_or, option_map, Result, Ok, Err, OnOk}
use Rattle.std.specs.BTreeMap.{is_at}
use Rattle.std.specs.List.{flat_map}
use Rattle.std.specs.Option.{option_to_list}
use Rattle.std.proofs.lemmas.Bool.{cases_Bool, eqb-true, eqb-false, eq-eqb, ne_eqb}
use Rattle.std.proofs.lemmas.Bool.Decides.{nat_tests}
use Rattle.std.proofs.lemmas.List.{append_assoc, append-nil}
use Rattle.mip_words.specs.declared.address.Address.{Address}
use Rattle.mip_words.specs.declared.ids.LinkId.{LinkId}
use Rattle.mip_words.specs.Last.{or_else, last_where}
use Rattle.mip_words.proofs.LastLaws.{last_where-push}
use Rattle.mip_entries.specs.declared.entry.Entry.{Entry}
use Rattle.mip_entries.specs.declared.entry.Entry.TheVariants as entries
use Rattle.mip_proxynd.specs.declared.claim.Claim.{Claim}
use Rattle.mip_proxynd.specs.declared.neighbour_entry.NeighbourEntry.{NeighbourEntry}
use Rattle.mip_proxynd.specs.declared.neighbour.Neighbour.{Neighbour}
use Rattle.mip_proxynd.specs.Adverts.{layer_of, advert, heard_of, adverts_heard}
use Rattle.mip_proxynd.specs.Claims.{claim_says, claim_in}
use Rattle.mip_proxynd.specs.Fields.{is_group, target_of}
use Rattle.mip_proxynd.specs.Options.{first_of}
use Rattle.mip_proxynd.specs.Tables.{Heard, is_about, kept_in, told, tellings, is_over, kept_of, holder_of, TableRows, pair_cmp, kept_at, IsTable}
use Rattle.mip_proxynd.specs.TablesLaws.{kept_after}

-- the test of a map's key is the test of its numbers
pub pair_is : (l a m b : ℕ) → is_at (pair_cmp (l, a)) (m, b) ≡ (l == m && a == b)
pair_is l a m b = grind (arith, nat_tests)

flat_map-more : {X Y : Type 0} (f : X → List Y) (xs ys : List X) → flat_map f (xs ++ ys) ≡ flat_map f xs ++ flat_map f ys
flat_map-more f [] ys = refl
flat_map-more f (x ∷ xs) ys = ap (λ l. f x ++ l) (flat_map-more f xs ys) ∙ sym (append_assoc (f x) (flat_map f xs) (flat_map f ys))

first_of-push : {X : Type 0} (xs : List X) (x : X) → first_of (xs ++ x ∷ []) ≡ or_else (first_of xs) (Some x)
first_of-push [] x = refl
first_of-push (y ∷ ys) x = refl

-- one telling more
pub kept-push : (ts : List NeighbourEntry) (k : NeighbourEntry) → kept_of (ts ++ k ∷ []) ≡ kept_after k (kept_of ts)
kept-push ts k = rw (last_where-push is_over ts k, first_of-push ts k) (by (last_where is_over ts) (first_of ts))
  where
    by : (last first : Option NeighbourEntry) → or_else (if k.over then Some k else last) (or_else first (Some k)) ≡ kept_after k (or_else last first)
    by None None = elim k.over as (λ b. or_else (if b then Some k else None) (Some k) ≡ Some k) [ true ↦ refl | false ↦ refl ]
    by None (Some f) = elim k.over as (λ b. or_else (if b then Some k else None) (Some f) ≡ (if b then Some k else Some f)) [ true ↦ refl | false ↦ refl ]
    by (Some l) f = elim k.over as (λ b. or_else (if b then Some k else Some l) (or_else f (Some k)) ≡ (if b then Some k else Some l)) [ true ↦ refl | false ↦ refl ]

tellings-push : (link address : ℕ) (heard : List Heard) (h : Heard) → tellings link address (heard ++ h ∷ []) ≡ tellings link address heard ++ option_to_list (told link address h)
tellings-push link address heard h =
    flat_map-more (λ x. option_to_list (told link address x)) heard (h ∷ []) ∙ ap (λ l. tellings link address heard ++ l) (append-nil (option_to_list (told link address h)))

-- a message that says nothing of the address
pub quiet-push : (link address : ℕ) (heard : List Heard) (h : Heard) → told link address h ≡ None → kept_of (tellings link address (heard ++ h ∷ [])) ≡ kept_of (tellings link address heard)
quiet-push link address heard h none = rw (tellings-push link address heard h, none) (ap kept_of (append-nil (tellings link address heard)))

-- a message that says something of it
pub told-push : (link address : ℕ) (heard : List Heard) (h : Heard) (k : NeighbourEntry) → told link address h ≡ Some k → kept_of (tellings link address (heard ++ h ∷ [])) ≡ kept_after k (kept_of (tellings link address heard))
told-push link address heard h k some = rw (tellings-push link address heard h, some) (kept-push (tellings link address heard) k)

abbrev heard_on : ℕ → Neighbour → Heard
heard_on link m = record { link = link; message = m }

-- a table hears an advertisement with a link-layer address
pub heard-kept : (old new : TableRows) (heard : List Heard) (link : ℕ) (m : Neighbour) (k : NeighbourEntry) → kept_in m ≡ Some k
    → ((l a : ℕ) → kept_at new l a ≡ (if link == l && (target_of m).0 == a then kept_after k (kept_at old l a) else kept_at old l a))
    → IsTable old heard → IsTable new (heard ++ heard_on link m ∷ [])
heard-kept old new heard link m k says e is = λ l a. e l a ∙ by l a (cases_Bool (is_about l a (heard_on link m)))
  where
    by : (l a : ℕ) → (is_about l a (heard_on link m) ≡ true) ⊎ (is_about l a (heard_on link m) ≡ false)
        → (if is_about l a (heard_on link m) then kept_after k (kept_at old l a) else kept_at old l a) ≡ kept_of (tellings l a (heard ++ heard_on link m ∷ []))
    by l a (inl test) =
        let some : told l a (heard_on link m) ≡ Some k = rw test says in
        rw test (ap (kept_after k) (is l a) ∙ sym (told-push l a heard (heard_on link m) k some))
    by l a (inr test) =
        let none : told l a (heard_on link m) ≡ None = rw test refl in
        rw test (is l a ∙ sym (quiet-push l a heard (heard_on link m) none))

pub on_ok : {A B : Type 0} {X E : Type 0} (r : Result X E) → (A → B) → OnOk r A → OnOk r B
on_ok (Ok x) f a = f a
on_ok (Err e) f a = tt

-- and anything else
pub heard-quiet : (rows : TableRows) (heard : List Heard) (link : ℕ) (m : Neighbour) → kept_in m ≡ None → IsTable rows heard → IsTable rows (heard ++ heard_on link m ∷ [])
heard-quiet rows heard link m says is = λ l a. is l a ∙ sym (quiet-push l a heard (heard_on link m) (none l a (cases_Bool (is_about l a (heard_on link m)))))
  where
    none : (l a : ℕ) → (is_about l a (heard_on link m) ≡ true) ⊎ (is_about l a (heard_on link m) ≡ false) → told l a (heard_on link m) ≡ None
    none l a (inl test) = rw test says
    none l a (inr test) = rw test refl

-- ---- the claims of a history

fold-push : {S X : Type 0} (f : S → X → S) (d : S) (xs : List X) (x : X) → fold f d (xs ++ x ∷ []) ≡ f (fold f d xs) x
fold-push f d [] x = refl
fold-push f d (y ∷ ys) x = fold-push f (f d y) ys x

claim-push : (a : ℕ) (past : List Entry) (e : Entry) → claim_in (past ++ e ∷ []) a ≡ unwrap_or (claim_says a e) (claim_in past a)
claim-push a past e = fold-push (λ s x. unwrap_or (claim_says a x) s) None past e

heard-push : (past : List Entry) (e : Entry) → adverts_heard (past ++ e ∷ []) ≡ adverts_heard past ++ heard_of e
heard-push past e = flat_map-more heard_of past (e ∷ []) ∙ ap (λ l. adverts_heard past ++ l) (append-nil (heard_of e))

-- what is heard of the claim that stands has its holder's link-layer address
abbrev Answers : Address → List Entry → Type 0
Answers a past = (c : Claim) → claim_in past a.0 ≡ Some c → holder_of c.link.0 a.0 (adverts_heard past) ≡ Some (layer_of c.who)

-- an entry that says nothing of the address
quiet-entry : (a : Address) (past : List Entry) (e : Entry) → claim_says a.0 e ≡ None
    → ((l : ℕ) → kept_of (tellings l a.0 (adverts_heard past ++ heard_of e)) ≡ kept_of (tellings l a.0 (adverts_heard past)))
    → Answers a past → Answers a (past ++ e ∷ [])
quiet-entry a past e says same so_far c stands =
    let before : claim_in past a.0 ≡ Some c = sym (claim-push a.0 past e ∙ ap (λ (o : Option (Option Claim)). unwrap_or o (claim_in past a.0)) says) ∙ stands in
    rw (heard-push past e, same c.link.0) (so_far c before)

unheard : (a : Address) (past : List Entry) (l : ℕ) → kept_of (tellings l a.0 (adverts_heard past ++ [])) ≡ kept_of (tellings l a.0 (adverts_heard past))
unheard a past l = ap (λ h. kept_of (tellings l a.0 h)) (append-nil (adverts_heard past))

abbrev claim_of : ℕ → LinkId → Address → Claim
claim_of who link address = record { link = link; address = address; who = who }

some_claim : (x y : Claim) → Some x ≡ Some y → x ≡ y
some_claim x y e = cc

-- what is kept of a claim
abbrev over_of : ℕ → NeighbourEntry
over_of who = record { layer = layer_of who; over = true }

away : (k : NeighbourEntry) (t : Bool) → (if t && false then Some k else None) ≡ None
away k true = refl
away k false = refl

-- the claim itself
claimed-entry : (a : Address) → is_group a ≡ false → (past : List Entry) (who : ℕ) (link : LinkId) (b : Address) → a.0 ≡ b.0 → Answers a (past ++ entries.Claimed who link b ∷ [])
claimed-entry a single past who link b same c stands =
    let e = entries.Claimed who link b in
    let test : eqb a.0 b.0 ≡ true = eq-eqb a.0 b.0 same in
    let says : claim_says a.0 e ≡ Some (Some (claim_of who link b)) = rw test refl in
    let now : Some (claim_of who link b) ≡ Some c = sym (claim-push a.0 past e ∙ ap (λ (o : Option (Option Claim)). unwrap_or o (claim_in past a.0)) says) ∙ stands in
    let alone : is_group b ≡ false = ap (λ (n : ℕ). is_group (record { 0 = n })) (sym same) ∙ single in
    let h : Heard = heard_on link.0 (advert who b) in
    let heard : heard_of e ≡ h ∷ [] = rw alone refl in
    let about : is_about link.0 a.0 h ≡ true = rw (eq-eqb link.0 link.0 refl, eq-eqb b.0 a.0 (sym same)) refl in
    let some : told link.0 a.0 h ≡ Some (over_of who) = rw about refl in
    let kept = told-push link.0 a.0 (adverts_heard past) h (over_of who) some in
    subst (λ (x : Claim). holder_of x.link.0 a.0 (adverts_heard (past ++ e ∷ [])) ≡ Some (layer_of x.who)) (some_claim (claim_of who link b) c now)
    (rw (heard-push past e, heard, kept) (by (kept_of (tellings link.0 a.0 (adverts_heard past)))))
  where
    by : (o : Option NeighbourEntry) → option_map (λ (k : NeighbourEntry). k.layer) (kept_after (over_of who) o) ≡ Some (layer_of who)
    by None = refl
    by (Some k) = refl

-- a claim of another address
other-entry : (a : Address) (past : List Entry) (who : ℕ) (link : LinkId) (b : Address) → eqb a.0 b.0 ≡ false → Answers a past → Answers a (past ++ entries.Claimed who link b ∷ [])
other-entry a past who link b other =
    quiet-entry a past (entries.Claimed who link b) (rw other refl) (λ l. by l (cases_Bool (is_group b)))
  where
    by : (l : ℕ) → (is_group b ≡ true) ⊎ (is_group b ≡ false) → kept_of (tellings l a.0 (adverts_heard past ++ heard_of (entries.Claimed who link b))) ≡ kept_of (tellings l a.0 (adverts_heard past))
    by l (inl group) = rw group (unheard a past l)
    by l (inr alone) =
        let h : Heard = heard_on link.0 (advert who b) in
        let apart : eqb b.0 a.0 ≡ false = ne_eqb b.0 a.0 (λ e. eqb-false a.0 b.0 other (sym e)) in
        let none : told l a.0 h ≡ None = rw apart (away (over_of who) (eqb link.0 l)) in
        rw alone (quiet-push l a.0 (adverts_heard past) h none)

released-entry : (a : Address) (past : List Entry) (who : ℕ) (link : LinkId) (b : Address) → Answers a past → Answers a (past ++ entries.Released who link b ∷ [])
released-entry a past who link b so_far =
    elim (cases_Bool (eqb a.0 b.0)) as (λ _. Answers a (past ++ entries.Released who link b ∷ [])) [
      | inl test ↦ (λ c stands.
          let says : claim_says a.0 (entries.Released who link b) ≡ Some None = rw test refl in
          let now : None ≡ Some c = sym (claim-push a.0 past (entries.Released who link b) ∙ ap (λ (o : Option (Option Claim)). unwrap_or o (claim_in past a.0)) says) ∙ stands in
          absurd cc)
      | inr test ↦ quiet-entry a past (entries.Released who link b) (rw test refl) (unheard a past) so_far
    ]

entry-answers : (a : Address) → is_group a ≡ false → (past : List Entry) (e : Entry) → Answers a past → Answers a (past ++ e ∷ [])
entry-answers a single past (entries.Claimed who link b) so_far =
    elim (cases_Bool (eqb a.0 b.0)) as (λ _. Answers a (past ++ entries.Claimed who link b ∷ [])) [
      | inl test ↦ claimed-entry a single past who link b (eqb-true a.0 b.0 test)
      | inr test ↦ other-entry a past who link b test so_far
    ]
entry-answers a single past (entries.Released who link b) so_far = released-entry a past who link b so_far
entry-answers a single past (entries.At p) so_far = quiet-entry a past (entries.At p) refl (unheard a past) so_far
entry-answers a single past (entries.Moved p q) so_far = quiet-entry a past (entries.Moved p q) refl (unheard a past) so_far
entry-answers a single past (entries.Advertised p q r) so_far = quiet-entry a past (entries.Advertised p q r) refl (unheard a past) so_far
entry-answers a single past (entries.Taken p q r s) so_far = quiet-entry a past (entries.Taken p q r s) refl (unheard a past) so_far
entry-answers a single past (entries.Listening p q) so_far = quiet-entry a past (entries.Listening p q) refl (unheard a past) so_far
entry-answers a single past (entries.Deafened p q) so_far = quiet-entry a past (entries.Deafened p q) refl (unheard a past) so_far
entry-answers a single past (entries.Careof p q) so_far = quiet-entry a past (entries.Careof p q) refl (unheard a past) so_far
entry-answers a single past (entries.Sent p q r s) so_far = quiet-entry a past (entries.Sent p q r s) refl (unheard a past) so_far
entry-answers a single past (entries.Injected p q r s) so_far = quiet-entry a past (entries.Injected p q r s) refl (unheard a past) so_far
entry-answers a single past (entries.Heard p q) so_far = quiet-entry a past (entries.Heard p q) refl (unheard a past) so_far
entry-answers a single past (entries.Handed p q) so_far = quiet-entry a past (entries.Handed p q) refl (unheard a past) so_far
entry-answers a single past (entries.Gone p q) so_far = quiet-entry a past (entries.Gone p q) refl (unheard a past) so_far
entry-answers a single past (entries.Lost p) so_far = quiet-entry a past (entries.Lost p) refl (unheard a past) so_far
entry-answers a single past entries.Idle so_far = quiet-entry a past entries.Idle refl (unheard a past) so_far
entry-answers a single past (entries.Home p q r s t) so_far = quiet-entry a past (entries.Home p q r s t) refl (unheard a past) so_far
entry-answers a single past (entries.Registered p q r) so_far = quiet-entry a past (entries.Registered p q r) refl (unheard a past) so_far
entry-answers a single past (entries.Unregistered p q) so_far = quiet-entry a past (entries.Unregistered p q) refl (unheard a past) so_far
entry-answers a single past (entries.Refused p q) so_far = quiet-entry a past (entries.Refused p q) refl (unheard a past) so_far
entry-answers a single past (entries.Chosen p q) so_far = quiet-entry a past (entries.Chosen p q) refl (unheard a past) so_far
entry-answers a single past (entries.Prefixes p q r) so_far = quiet-entry a past (entries.Prefixes p q r) refl (unheard a past) so_far
entry-answers a single past (entries.Made p q r s t) so_far = quiet-entry a past (entries.Made p q r s t) refl (unheard a past) so_far
entry-answers a single past (entries.Bound p q r) so_far = quiet-entry a past (entries.Bound p q r) refl (unheard a past) so_far
entry-answers a single past (entries.Unbound p q) so_far = quiet-entry a past (entries.Unbound p q) refl (unheard a past) so_far
entry-answers a single past (entries.Accepted p q r s t u v w x) so_far = quiet-entry a past (entries.Accepted p q r s t u v w x) refl (unheard a past) so_far
entry-answers a single past (entries.Origin p q r) so_far = quiet-entry a past (entries.Origin p q r) refl (unheard a past) so_far
entry-answers a single past (entries.Forged p) so_far = quiet-entry a past (entries.Forged p) refl (unheard a past) so_far
entry-answers a single past (entries.Denied p q r) so_far = quiet-entry a past (entries.Denied p q r) refl (unheard a past) so_far
entry-answers a single past (entries.Dropped p q r) so_far = quiet-entry a past (entries.Dropped p q r) refl (unheard a past) so_far
entry-answers a single past (entries.Up p q r s t u) so_far = quiet-entry a past (entries.Up p q r s t u) refl (unheard a past) so_far
entry-answers a single past (entries.Unsent p q) so_far = quiet-entry a past (entries.Unsent p q) refl (unheard a past) so_far
entry-answers a single past (entries.Restarted p) so_far = quiet-entry a past (entries.Restarted p) refl (unheard a past) so_far
entry-answers a single past (entries.Row p q r s t u v) so_far = quiet-entry a past (entries.Row p q r s t u v) refl (unheard a past) so_far
entry-answers a single past (entries.Settled p q r) so_far = quiet-entry a past (entries.Settled p q r) refl (unheard a past) so_far

all-answers : (a : Address) → is_group a ≡ false → (past h : List Entry) → Answers a past → Answers a (past ++ h)
all-answers a single past [] so_far = subst (Answers a) (sym (append-nil past)) so_far
all-answers a single past (e ∷ h) so_far =
    subst (Answers a) (append_assoc past (e ∷ []) h) (all-answers a single (past ++ e ∷ []) h (entry-answers a single past e so_far))

-- a table that hears the advertisements of a history answers for each claim that stands
pub claim_answers : (a : Address) → is_group a ≡ false → (h : List Entry) → Answers a h
claim_answers a single h = all-answers a single [] h (λ c stands. absurd cc)
