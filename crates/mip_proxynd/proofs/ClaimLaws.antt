-- What the rows behind a history say of an address is what its last claimed or released entry says.
use Rattle.std.proofs.Common.{◌≡◌, ℕ, Bool, true, false, eqb, List, [], ◌∷◌, inl, inr, refl, ap, ◌∙◌, arith}
use Rattle.std.specs.Prelude.{◌==◌, if◌then◌else◌, Option, Some, None, unwrap_or}
use Rattle.std.specs.BTreeMap.{insert_entry, is_at}
use Rattle.std.specs.Map.{lookup}
use Rattle.std.specs.Ordering.{nat_cmp}
use Rattle.std.proofs.lemmas.Bool.{cases_Bool, ne_eqb}
use Rattle.std.proofs.lemmas.Bool.Decides.{nat_tests}
use Rattle.mip_words.specs.declared.address.Address.{Address}
use Rattle.mip_words.specs.Asked.{asked}
use Rattle.mip_entries.specs.declared.entry.Entry.{Entry}
use Rattle.mip_entries.specs.declared.entry.Entry.TheVariants as entries
use Rattle.mip_proxynd.specs.declared.claim.Claim.{Claim}
use Rattle.mip_proxynd.specs.Fields.{is_group}
use Rattle.mip_proxynd.specs.Claims.{claim_says, claim_in, Rows, row_of, with_row, rows_after, rows_in}

-- what is found at a number after a row was put
lookup-put : (rows : Rows) (a : ℕ) (v : Option Claim) (b : ℕ) → lookup (is_at (nat_cmp b)) (insert_entry nat_cmp rows a v) ≡ (if b == a then Some v else lookup (is_at (nat_cmp b)) rows)
lookup-put [] a v b = grind (arith, nat_tests)
lookup-put (r ∷ rows) a v b = grind (arith, nat_tests, lookup-put rows a v b)

row-put : (rows : Rows) (address : Address) (v : Option Claim) (b : ℕ) → is_group address ≡ false → row_of (with_row rows address v) b ≡ unwrap_or (if b == address.0 then Some v else None) (row_of rows b)
row-put rows address v b single = rw (single, lookup-put rows address.0 v b) (by (b == address.0))
  where
    by : (t : Bool) → unwrap_or (if t then Some v else lookup (is_at (nat_cmp b)) rows) None ≡ unwrap_or (if t then Some v else None) (row_of rows b)
    by true = refl
    by false = refl

-- a row of another address
row-group : (rows : Rows) (address : Address) (v : Option Claim) (b : Address) → is_group b ≡ false → is_group address ≡ true → row_of (with_row rows address v) b.0 ≡ unwrap_or (if b.0 == address.0 then Some v else None) (row_of rows b.0)
row-group rows address v b single group =
    let other : eqb b.0 address.0 ≡ false = ne_eqb b.0 address.0 (λ same. absurd (apart same)) in
    rw (group, other) refl
  where
    apart : b.0 ≡ address.0 → ⊥
    apart same = let both : is_group b ≡ true = ap (λ (n : ℕ). is_group (record { 0 = n })) same ∙ group in absurd cc

row-step : (rows : Rows) (address : Address) (v : Option Claim) (b : Address) → is_group b ≡ false → row_of (with_row rows address v) b.0 ≡ unwrap_or (if b.0 == address.0 then Some v else None) (row_of rows b.0)
row-step rows address v b single =
    elim (cases_Bool (is_group address)) [
      | inl group ↦ row-group rows address v b single group
      | inr other ↦ row-put rows address v b.0 other
    ]

entry-step : (rows : Rows) (e : Entry) (b : Address) → is_group b ≡ false → row_of (rows_after rows e) b.0 ≡ unwrap_or (claim_says b.0 e) (row_of rows b.0)
entry-step rows (entries.Claimed who link address) b single = row-step rows address (Some (record { link = link; address = address; who = who })) b single
entry-step rows (entries.Released who link address) b single = row-step rows address None b single
entry-step rows (entries.At p) b single = refl
entry-step rows (entries.Moved p q) b single = refl
entry-step rows (entries.Advertised p q r) b single = refl
entry-step rows (entries.Taken p q r s) b single = refl
entry-step rows (entries.Listening p q) b single = refl
entry-step rows (entries.Deafened p q) b single = refl
entry-step rows (entries.Careof p q) b single = refl
entry-step rows (entries.Sent p q r s) b single = refl
entry-step rows (entries.Injected p q r s) b single = refl
entry-step rows (entries.Heard p q) b single = refl
entry-step rows (entries.Handed p q) b single = refl
entry-step rows (entries.Gone p q) b single = refl
entry-step rows (entries.Lost p) b single = refl
entry-step rows entries.Idle b single = refl
entry-step rows (entries.Home p q r s t) b single = refl
entry-step rows (entries.Registered p q r) b single = refl
entry-step rows (entries.Unregistered p q) b single = refl
entry-step rows (entries.Refused p q) b single = refl
entry-step rows (entries.Chosen p q) b single = refl
entry-step rows (entries.Prefixes p q r) b single = refl
entry-step rows (entries.Made p q r s t) b single = refl
entry-step rows (entries.Bound p q r) b single = refl
entry-step rows (entries.Unbound p q) b single = refl
entry-step rows (entries.Accepted p q r s t u v w x) b single = refl
entry-step rows (entries.Origin p q r) b single = refl
entry-step rows (entries.Forged p) b single = refl
entry-step rows (entries.Denied p q r) b single = refl
entry-step rows (entries.Dropped p q r) b single = refl
entry-step rows (entries.Up p q r s t u) b single = refl
entry-step rows (entries.Unsent p q) b single = refl
entry-step rows (entries.Restarted p) b single = refl
entry-step rows (entries.Row p q r s t u v) b single = refl
entry-step rows (entries.Settled p q r) b single = refl

history-step : (rows : Rows) (h : List Entry) (b : Address) → is_group b ≡ false → row_of (rows_in rows h) b.0 ≡ asked (claim_says b.0) (row_of rows b.0) h
history-step rows [] b single = refl
history-step rows (e ∷ h) b single =
    history-step (rows_after rows e) h b single ∙ ap (λ (s : Option Claim). asked (claim_says b.0) s h) (entry-step rows e b single)

-- from the first entry on
pub row_is_claim : (h : List Entry) (b : Address) → is_group b ≡ false → row_of (rows_in [] h) b.0 ≡ claim_in h b.0
row_is_claim h b single = history-step [] h b single
