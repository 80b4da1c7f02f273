-- The rows behind a history rise by address, and each has a claim of its own address or none.
use Rattle.std.proofs.Common.{◌≡◌, ◌⊎◌, ℕ, ◌<◌, false, List, [], ◌∷◌, ◌++◌, inl, inr, refl, subst, arith}
use Rattle.std.specs.Prelude.{IfSome, Option, Some, None}
use Rattle.std.specs.BTreeMap.{insert_entry}
use Rattle.std.specs.List.{AllByRecursion}
use Rattle.std.specs.Ordering.{nat_cmp}
use Rattle.std.specs.declared.cmp.Ordering.TheVariants.{Less, Equal, Greater}
use Rattle.std.proofs.lemmas.Bool.{cases_Bool, cases_order, eq-eqb, ne_eqb, lt-ltb, le-ltb}
use Rattle.mip_words.specs.declared.address.Address.{Address}
use Rattle.mip_entries.specs.declared.entry.Entry.{Entry}
use Rattle.mip_entries.specs.declared.entry.Entry.TheVariants as entries
use Rattle.mip_proxynd.specs.declared.claim.Claim.{Claim}
use Rattle.mip_proxynd.specs.Claims.{Rows, with_row, rows_after, rows_in}
use Rattle.mip_proxynd.specs.ClaimsLaws.{IsOwn, Rise}
use Rattle.mip_proxynd.specs.Fields.{is_group}

-- how two numbers compare
abbrev Compares : ℕ → ℕ → Type 0
Compares a b = ((nat_cmp a b ≡ Less) × (a < b)) ⊎ (((nat_cmp a b ≡ Equal) × (a ≡ b)) ⊎ ((nat_cmp a b ≡ Greater) × (b < a)))

compares : (a b : ℕ) → Compares a b
compares a b =
    elim (cases_order a b) as (λ _. Compares a b) [
      | inl same ↦ inr (inl (rw (le-ltb a b (omega (arith, same)), eq-eqb a b same) refl, same))
      | inr (inl below) ↦ inl (rw (lt-ltb a b below) refl, below)
      | inr (inr above) ↦ inr (inr (rw (le-ltb a b (omega (arith, above)), ne_eqb a b (λ e. omega arith)) refl, above))
    ]

-- what is so of each row, and of the one that is put
all-insert : (P : ℕ → Option Claim → Type 0) (rows : Rows) (a : ℕ) (v : Option Claim) → AllByRecursion (λ r. P r.0 r.1) rows → P a v → AllByRecursion (λ r. P r.0 r.1) (insert_entry nat_cmp rows a v)
all-insert P [] a v all one = (one, tt)
all-insert P (r ∷ rows) a v all one =
    elim (compares a r.0) as (λ _. AllByRecursion (λ r. P r.0 r.1) (insert_entry nat_cmp (r ∷ rows) a v)) [
      | inl below ↦ rw below.0 (one, all)
      | inr (inl same) ↦ rw same.0 (subst (λ (k : ℕ). P k v) same.1 one, all.1)
      | inr (inr above) ↦ rw above.0 (all.0, all-insert P rows a v all.1 one)
    ]

all-above : (low high : ℕ) (rows : Rows) → low < high → AllByRecursion (λ r. high < r.0) rows → AllByRecursion (λ r. low < r.0) rows
all-above low high [] below all = tt
all-above low high (r ∷ rows) below all = (omega (arith, below, all.0), all-above low high rows below all.1)

rise-insert : (rows : Rows) (a : ℕ) (v : Option Claim) → Rise rows → Rise (insert_entry nat_cmp rows a v)
rise-insert [] a v is = (tt, tt)
rise-insert (r ∷ rows) a v is =
    elim (compares a r.0) as (λ _. Rise (insert_entry nat_cmp (r ∷ rows) a v)) [
      | inl below ↦ rw below.0 ((below.1, all-above a r.0 rows below.1 is.0), is)
      | inr (inl same) ↦ rw same.0 is
      | inr (inr above) ↦ rw above.0 (all-insert (λ k w. r.0 < k) rows a v is.0 above.1, rise-insert rows a v is.1)
    ]

-- what each put keeps is so of the rows behind each entry
abbrev Keeps : (Rows → Type 0) → Type 0
Keeps K = (rows : Rows) (address : Address) (v : Option Claim) → is_group address ≡ false → IfSome v (λ claim. claim.address.0 ≡ address.0) → K rows → K (insert_entry nat_cmp rows address.0 v)

put-kept : (K : Rows → Type 0) → Keeps K → (rows : Rows) (address : Address) (v : Option Claim) → IfSome v (λ claim. claim.address.0 ≡ address.0) → K rows → K (with_row rows address v)
put-kept K put rows address v own is =
    elim (cases_Bool (is_group address)) as (λ _. K (with_row rows address v)) [
      | inl group ↦ rw group is
      | inr alone ↦ rw alone (put rows address v alone own is)
    ]

entry-kept : (K : Rows → Type 0) → Keeps K → (rows : Rows) (e : Entry) → K rows → K (rows_after rows e)
entry-kept K put rows (entries.Claimed who link address) is = put-kept K put rows address (Some (record { link = link; address = address; who = who })) refl is
entry-kept K put rows (entries.Released who link address) is = put-kept K put rows address None tt is
entry-kept K put rows (entries.At p) is = is
entry-kept K put rows (entries.Moved p q) is = is
entry-kept K put rows (entries.Advertised p q r) is = is
entry-kept K put rows (entries.Taken p q r s) is = is
entry-kept K put rows (entries.Listening p q) is = is
entry-kept K put rows (entries.Deafened p q) is = is
entry-kept K put rows (entries.Careof p q) is = is
entry-kept K put rows (entries.Sent p q r s) is = is
entry-kept K put rows (entries.Injected p q r s) is = is
entry-kept K put rows (entries.Heard p q) is = is
entry-kept K put rows (entries.Handed p q) is = is
entry-kept K put rows (entries.Gone p q) is = is
entry-kept K put rows (entries.Lost p) is = is
entry-kept K put rows entries.Idle is = is
entry-kept K put rows (entries.Home p q r s t) is = is
entry-kept K put rows (entries.Registered p q r) is = is
entry-kept K put rows (entries.Unregistered p q) is = is
entry-kept K put rows (entries.Refused p q) is = is
entry-kept K put rows (entries.Chosen p q) is = is
entry-kept K put rows (entries.Prefixes p q r) is = is
entry-kept K put rows (entries.Made p q r s t) is = is
entry-kept K put rows (entries.Bound p q r) is = is
entry-kept K put rows (entries.Unbound p q) is = is
entry-kept K put rows (entries.Accepted p q r s t u v w x) is = is
entry-kept K put rows (entries.Origin p q r) is = is
entry-kept K put rows (entries.Forged p) is = is
entry-kept K put rows (entries.Denied p q r) is = is
entry-kept K put rows (entries.Dropped p q r) is = is
entry-kept K put rows (entries.Up p q r s t u) is = is
entry-kept K put rows (entries.Unsent p q) is = is
entry-kept K put rows (entries.Restarted p) is = is
entry-kept K put rows (entries.Row p q r s t u v) is = is
entry-kept K put rows (entries.Settled p q r) is = is

history-kept : (K : Rows → Type 0) → Keeps K → (rows : Rows) (h : List Entry) → K rows → K (rows_in rows h)
history-kept K put rows [] is = is
history-kept K put rows (e ∷ h) is = history-kept K put (rows_after rows e) h (entry-kept K put rows e is)

pub rows_rise : (h : List Entry) → Rise (rows_in [] h)
rows_rise h = history-kept Rise (λ rows address v alone own is. rise-insert rows address.0 v is) [] h tt

pub rows_are_own : (h : List Entry) → AllByRecursion IsOwn (rows_in [] h)
rows_are_own h = history-kept (λ rows. AllByRecursion IsOwn rows) (λ rows address v alone own is. all-insert (λ k w. IsOwn (k, w)) rows address.0 v is (alone, own)) [] h tt

-- a history in two pieces
pub rows_more : (rows : Rows) (xs ys : List Entry) → rows_in rows (xs ++ ys) ≡ rows_in (rows_in rows xs) ys
rows_more rows [] ys = refl
rows_more rows (x ∷ xs) ys = rows_more (rows_after rows x) xs ys
