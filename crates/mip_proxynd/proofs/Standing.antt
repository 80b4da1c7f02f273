-- Each claim is advertised in the text, and each that stands at its end is told there, of whomever and on whichever link.
use Rattle.std.proofs.Common.{◌≡◌, ℕ, zero, suc, ◌<◌, List, [], ◌∷◌, ◌++◌, Bool, true, false, length, inl, inr, refl, sym, ap, ◌∙◌, subst, arith, nat_cmp}
use Rattle.std.specs.Prelude.{Option, Some, None, unwrap_or, if◌then◌else◌}
use Rattle.std.specs.Map.{lookup}
use Rattle.std.specs.BTreeMap.{is_at}
use Rattle.std.proofs.lemmas.List.{append_assoc}
use Rattle.std.proofs.lemmas.Grind.{flat_map-append}
use Rattle.std.proofs.lemmas.Map.Entries.{lookup_head, lookup_tail}
use Rattle.std.proofs.lemmas.Bool.{cases_eq, eq-eqb}
use Rattle.mip_words.specs.declared.address.Address.{Address}
use Rattle.mip_words.specs.declared.ids.LinkId.{LinkId}
use Rattle.mip_symbols.specs.Places.{members}
use Rattle.mip_symbols.specs.declared.declaration.Declaration.{Declaration}
use Rattle.mip_symbols.specs.declared.places.Sort.TheVariants as sorts
use Rattle.mip_entries.specs.declared.entry.Entry.{Entry}
use Rattle.mip_entries.specs.declared.entry.Entry.TheVariants.{Claimed}
use Rattle.mip_proxynd.specs.declared.claim.Claim.{Claim}
use Rattle.mip_proxynd.specs.Claims.{Rows, row_of, rows_in, claim_in}
use Rattle.mip_proxynd.specs.Fields.{is_group}
use Rattle.mip_proxynd.specs.Text.{advert_line, advert_of, adverts, holds_line, holds_of, holds_on, holds_upto, holds, asked_text, end_text, claims_text}
use Rattle.mip_proxynd.specs.TextLaws.{StandsIn}
use Rattle.mip_proxynd.proofs.ClaimLaws.{row_is_claim}

-- a line of one part of a text stands in the whole
before_more : (line text more : List ℕ) → StandsIn line text → StandsIn line (text ++ more)
before_more line text more s = record {
  front = s.front;
  rest = s.rest ++ more;
  whole = ap (λ (l : List ℕ). l ++ more) s.whole ∙ append_assoc s.front (line ++ s.rest) more ∙ ap (λ (l : List ℕ). s.front ++ l) (append_assoc line s.rest more);
}

behind_more : (line more text : List ℕ) → StandsIn line text → StandsIn line (more ++ text)
behind_more line more text s = record {
  front = more ++ s.front;
  rest = s.rest;
  whole = ap (λ (l : List ℕ). more ++ l) s.whole ∙ sym (append_assoc more s.front (line ++ s.rest));
}

-- the advertisement of a claim
advertised : (ds : List Declaration) (before : List Entry) (who : ℕ) (link : LinkId) (address : Address) (after : List Entry) → is_group address ≡ false
    → StandsIn (advert_line ds (record { link = link; address = address; who = who })) (adverts ds (before ++ Claimed who link address ∷ after))
advertised ds before who link address after single =
    let line : List ℕ = advert_line ds (record { link = link; address = address; who = who }) in
    record {
      front = adverts ds before;
      rest = adverts ds after;
      whole =
          flat_map-append (advert_of ds) before (Claimed who link address ∷ after)
          ∙ ap (λ (b : Bool). adverts ds before ++ ((if b then [] else line) ++ adverts ds after)) single;
    }

pub advert_stands : (ds : List Declaration) (before : List Entry) (who : ℕ) (link : LinkId) (address : Address) (after : List Entry) (ask : Option Address) → is_group address ≡ false
    → StandsIn (advert_line ds (record { link = link; address = address; who = who })) (claims_text ds (before ++ Claimed who link address ∷ after) ask)
advert_stands ds before who link address after ask single =
    before_more _ _ (end_text ds (rows_in [] (before ++ Claimed who link address ∷ after)) ask) (advertised ds before who link address after single)

-- the claim of a row is told among those of its link
module _ (ds : List Declaration) (c : Claim) where
  told_first : (o : Option Claim) → o ≡ Some c → (more : List ℕ) → StandsIn (holds_line ds c) (holds_of ds c.link.0 o ++ more)
  told_first o is more = record {
    front = [];
    rest = more;
    whole =
        ap (λ (x : Option Claim). holds_of ds c.link.0 x ++ more) is
        ∙ ap (λ (b : Bool). (if b then holds_line ds c else []) ++ more) (eq-eqb c.link.0 c.link.0 refl);
  }

  some_is : (o : Option Claim) → (let x : Option (Option Claim) = Some o in x) ≡ Some (Some c) → o ≡ Some c
  some_is o e = cc

  told_in : (test : ℕ → Bool) (rows : Rows) → lookup test rows ≡ Some (Some c) → StandsIn (holds_line ds c) (holds_on ds rows c.link.0)
  told_in test [] e = absurd cc
  told_in test (row ∷ rows) e = by (test row.0) refl (told_in test rows)
    where
      by : (b : Bool) → test row.0 ≡ b → (lookup test rows ≡ Some (Some c) → StandsIn (holds_line ds c) (holds_on ds rows c.link.0)) → StandsIn (holds_line ds c) (holds_on ds (row ∷ rows) c.link.0)
      by true is more = told_first row.1 (some_is row.1 (sym (lookup_head test row rows is) ∙ e)) (holds_on ds rows c.link.0)
      by false is more = behind_more (holds_line ds c) (holds_of ds c.link.0 row.1) (holds_on ds rows c.link.0) (more (sym (lookup_tail test row rows is) ∙ e))

  told_upto : (rows : Rows) (n : ℕ) → c.link.0 < n → StandsIn (holds_line ds c) (holds_on ds rows c.link.0) → StandsIn (holds_line ds c) (holds_upto ds rows n)
  told_upto rows zero inside s = absurd (omega (arith, inside))
  told_upto rows (suc n) inside s = elim (cases_eq c.link.0 n) as (λ _. StandsIn (holds_line ds c) (holds_upto ds rows (suc n))) [
    | inl e ↦ behind_more (holds_line ds c) (holds_upto ds rows n) (holds_on ds rows n) (subst (λ (k : ℕ). StandsIn (holds_line ds c) (holds_on ds rows k)) e s)
    | inr other ↦ before_more (holds_line ds c) (holds_upto ds rows n) (holds_on ds rows n) (told_upto rows n (omega (arith, inside, other)) s)
  ]

  row_found : (rows : Rows) (a : ℕ) → row_of rows a ≡ Some c → StandsIn (holds_line ds c) (holds_on ds rows c.link.0)
  row_found rows a e = by (lookup (is_at (nat_cmp a)) rows) refl e
    where
      by : (o : Option (Option Claim)) → lookup (is_at (nat_cmp a)) rows ≡ o → unwrap_or o None ≡ Some c → StandsIn (holds_line ds c) (holds_on ds rows c.link.0)
      by None is e = absurd cc
      by (Some x) is e = told_in (is_at (nat_cmp a)) rows (is ∙ ap (λ (o : Option Claim). Some o) e)

pub holds_stands : (ds : List Declaration) (history : List Entry) (a : Address) (c : Claim) (ask : Option Address) → is_group a ≡ false → claim_in history a.0 ≡ Some c
    → c.link.0 < length (members sorts.Link ds) → StandsIn (holds_line ds c) (claims_text ds history ask)
unfolding holds
holds_stands ds history a c ask single stands inside =
    behind_more (holds_line ds c) (adverts ds history) (end_text ds (rows_in [] history) ask)
    (before_more (holds_line ds c) (holds ds (rows_in [] history)) (asked_text ds (rows_in [] history) ask)
    (told_upto ds c (rows_in [] history) (length (members sorts.Link ds)) inside (row_found ds c (rows_in [] history) a.0 (row_is_claim history a single ∙ stands))))
