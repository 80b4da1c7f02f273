-- What is written spells these options, and ends at a multiple of 8.
use Rattle.std.proofs.Common.{◌≡◌, ℕ, zero, suc, ◌+◌, ◌-◌, ◌%◌, ◌^◌, ◌<◌, ◌≤◌, List, [], ◌∷◌, ◌++◌, length, refl, sym, ap, subst, ◌∙◌, arith, length-append}
use Rattle.std.proofs.lemmas.List.{append_assoc, append-nil, length-replicate}
use Rattle.std.proofs.Math.Nat.{mod-lt}
use Rattle.std.specs.Prelude.{Option, Some, None, replicate}
use Rattle.std.specs.List.{flat_map}
use Rattle.mip_words.specs.declared.address.Address.{Address}
use Rattle.mip_mobhdr.specs.declared.indices.Indices.{Indices}
use Rattle.mip_mobhdr.specs.OptionValues.{Values, nothing}
use Rattle.mip_mobhdr.specs.OptionValuesLaws.{IsInRange}
use Rattle.mip_mobhdr.specs.OptionSpelling.{Item, item_bytes, IsSkipped, IsNext, IsRun, IsSpelled}
use Rattle.mip_mobhdr.specs.OptionSpelling.Item.{Pad, Advice, Alternate, Nonces, Number, Authorization, Skipped}
use Rattle.mip_mobhdr.specs.OptionWriting.{gap, padding, aligned, with_advice, with_nonces, with_number, with_alternate, with_authorization, closed, canonical, AppendsOptions}
use Rattle.mip_mobhdr.proofs.PaddingLaws.{length_padding}

-- what was appended, before whatever stands behind
record Appended (v m : Values) (old new : List ℕ) : Type 0 where
  items : List Item
  bytes : new ≡ old ++ flat_map item_bytes items
  run : (behind : List Item) (w : Values) → IsRun m behind w → IsRun v (items ++ behind) w

-- what was appended at the end
record Ended (v w : Values) (old new : List ℕ) : Type 0 where
  items : List Item
  bytes : new ≡ old ++ flat_map item_bytes items
  run : IsRun v items w

flat_map_both : (xs ys : List Item) → flat_map item_bytes (xs ++ ys) ≡ flat_map item_bytes xs ++ flat_map item_bytes ys
flat_map_both [] ys = refl
flat_map_both (x ∷ xs) ys =
    ap (λ (l : List ℕ). item_bytes x ++ l) (flat_map_both xs ys)
    ∙ sym (append_assoc (item_bytes x) (flat_map item_bytes xs) (flat_map item_bytes ys))

-- the items of a gap
abbrev pad_items : ℕ → List Item
pad_items zero = []
pad_items (suc zero) = Pad ∷ []
pad_items (suc (suc k)) = Skipped 1 (replicate k 0) ∷ []

pad_bytes : (n : ℕ) → padding n ≡ flat_map item_bytes (pad_items n)
unfolding padding
pad_bytes zero = refl
pad_bytes (suc zero) = refl
pad_bytes (suc (suc k)) = rw (length-replicate {A = ℕ} k 0, append-nil {A = ℕ} (replicate k 0)) refl

is_pad : (k : ℕ) → k < 256 → IsSkipped 1 (replicate k 0)
is_pad k small = record {
  type_fits = omega arith;
  size_fits = omega (arith, length-replicate {A = ℕ} k 0);
  not_pad = λ e. absurd cc;
  not_advice = λ e. absurd cc;
  not_alternate = λ e. absurd cc;
  not_nonces = λ e. absurd cc;
  not_authorization = λ e. absurd cc;
}

pad_run : (n : ℕ) → n < 258 → (v : Values) (behind : List Item) (w : Values) → IsRun v behind w → IsRun v (pad_items n ++ behind) w
pad_run zero small v behind w run = run
pad_run (suc zero) small v behind w run = (v, refl, run)
pad_run (suc (suc k)) small v behind w run = (v, (is_pad k (omega arith), (λ e. absurd cc), refl), run)

gap_small : (n r place : ℕ) → 0 < n → gap n r place < n
unfolding gap
gap_small n r place some = mod-lt (n + r - place % n) some

-- a gap and an item
item_bytes_behind : (area : List ℕ) (g : ℕ) (item : Item) → area ++ padding g ++ item_bytes item ≡ area ++ flat_map item_bytes (pad_items g ++ item ∷ [])
item_bytes_behind area g item =
    append_assoc area (padding g) (item_bytes item)
    ∙ ap (λ (l : List ℕ). area ++ (l ++ item_bytes item)) (pad_bytes g)
    ∙ ap (λ (l : List ℕ). area ++ (flat_map item_bytes (pad_items g) ++ l)) (sym (append-nil (item_bytes item)))
    ∙ ap (λ (l : List ℕ). area ++ l) (sym (flat_map_both (pad_items g) (item ∷ [])))

one_item : (start n r : ℕ) (item : Item) (v m : Values) (area : List ℕ) → 0 < n → n ≤ 8 → ((more : List Item) → IsNext v item more m) → Appended v m area (aligned start n r item area)
unfolding aligned
one_item start n r item v m area some small next =
    let g = gap n r (start + length area) in
    let low : g < 258 = omega (arith, small, gap_small n r (start + length area) some) in
    record {
      items = pad_items g ++ item ∷ [];
      bytes = item_bytes_behind area g item;
      run = λ behind w run. subst (λ (l : List Item). IsRun v l w) (sym (append_assoc (pad_items g) (item ∷ []) behind)) (pad_run g low v (item ∷ behind) w (m, next behind, run));
    }

no_item : (v : Values) (area : List ℕ) → Appended v v area area
no_item v area = record { items = []; bytes = sym (append-nil area); run = λ behind w run. run }

abbrev five : Option ℕ → Option Address → Option Indices → Option ℕ → Option (List ℕ) → Values
five a b c n d = record { advice = a; alternate = b; nonces = c; number = n; authorization = d }

advice_step : (start : ℕ) (a : Option ℕ) (area : List ℕ) → ((units : ℕ) → a ≡ Some units → units < 2 ^ 16) → Appended nothing (five a None None None None) area (with_advice start a area)
unfolding with_advice
advice_step start None area fits = no_item nothing area
advice_step start (Some units) area fits = one_item start 2 0 (Advice units) nothing _ area (omega arith) (omega arith) (λ more. (fits units refl, refl, refl))

nonces_step : (start : ℕ) (a : Option ℕ) (c : Option Indices) (area : List ℕ) → ((i : Indices) → c ≡ Some i → (i.home < 2 ^ 16) × (i.careof < 2 ^ 16)) → Appended (five a None None None None) (five a None c None None) area (with_nonces start c area)
unfolding with_nonces
nonces_step start a None area fits = no_item _ area
nonces_step start a (Some i) area fits = one_item start 2 0 (Nonces i) (five a None None None None) _ area (omega arith) (omega arith) (λ more. ((fits i refl).0, (fits i refl).1, refl, refl))

number_step : (start : ℕ) (a : Option ℕ) (c : Option Indices) (n : Option ℕ) (area : List ℕ) → ((number : ℕ) → n ≡ Some number → number < 8) → Appended (five a None c None None) (five a None c n None) area (with_number start n area)
unfolding with_number
number_step start a c None area fits = no_item _ area
number_step start a c (Some number) area fits = one_item start 2 0 (Number number) (five a None c None None) _ area (omega arith) (omega arith) (λ more. (fits number refl, refl, refl))

alternate_step : (start : ℕ) (a : Option ℕ) (b : Option Address) (c : Option Indices) (n : Option ℕ) (area : List ℕ) → ((address : Address) → b ≡ Some address → address.0 < 2 ^ 128) → Appended (five a None c n None) (five a b c n None) area (with_alternate start b area)
unfolding with_alternate
alternate_step start a None c n area fits = no_item _ area
alternate_step start a (Some address) c n area fits = one_item start 8 6 (Alternate address) (five a None c n None) _ area (omega arith) (omega arith) (λ more. (fits address refl, refl, refl))

-- an authorization ends at a multiple of 8
no_gap : (place : ℕ) → gap 8 0 (place + gap 8 2 place + 14) ≡ 0
unfolding gap
no_gap place = omega arith

end_step : (start : ℕ) (a : Option ℕ) (b : Option Address) (c : Option Indices) (n : Option ℕ) (d : Option (List ℕ)) (area : List ℕ) → ((bytes : List ℕ) → d ≡ Some bytes → length bytes ≡ 12) → Ended (five a b c n None) (five a b c n d) area (closed start (with_authorization start d area))
unfolding with_authorization aligned closed padding
end_step start a b c n None area fits =
    let g = gap 8 0 (start + length area) in
    let low : g < 258 = omega (arith, gap_small 8 0 (start + length area) (omega arith)) in
    let v = five a b c n None in
    record {
      items = pad_items g ++ [];
      bytes = ap (λ (l : List ℕ). area ++ l) (pad_bytes g ∙ ap (flat_map item_bytes) (sym (append-nil (pad_items g))));
      run = pad_run g low v [] v refl;
    }
end_step start a b c n (Some bytes) area fits =
    let g = gap 8 2 (start + length area) in
    let low : g < 258 = omega (arith, gap_small 8 2 (start + length area) (omega arith)) in
    let item = Authorization bytes in
    let new = area ++ padding g ++ item_bytes item in
    let long : start + length new ≡ start + length area + g + 14 = omega (arith, length-append (area ++ padding g) (item_bytes item), length-append area (padding g), length_padding g, fits bytes refl) in
    let none : gap 8 0 (start + length new) ≡ 0 = ap (gap 8 0) long ∙ no_gap (start + length area) in
    let end : new ++ padding (gap 8 0 (start + length new)) ≡ new = ap (λ (n : ℕ). new ++ padding n) none ∙ append-nil new in
    record {
      items = pad_items g ++ item ∷ [];
      bytes = end ∙ item_bytes_behind area g item;
      run = pad_run g low (five a b c n None) (item ∷ []) (five a b c n (Some bytes)) (five a b c n (Some bytes), (fits bytes refl, refl, refl, refl), refl);
    }

-- five steps one after another
joined : (xs ys ns zs us : List Item) (a b c d e : List ℕ) → a ≡ flat_map item_bytes xs → b ≡ a ++ flat_map item_bytes ys → c ≡ b ++ flat_map item_bytes ns → d ≡ c ++ flat_map item_bytes zs → e ≡ d ++ flat_map item_bytes us → e ≡ flat_map item_bytes (xs ++ (ys ++ (ns ++ (zs ++ us))))
joined xs ys ns zs us a b c d e one two three four five =
    rw (five, four, three, two, one, flat_map_both xs (ys ++ (ns ++ (zs ++ us))), flat_map_both ys (ns ++ (zs ++ us)), flat_map_both ns (zs ++ us), flat_map_both zs us) (simp append_assoc)

-- what is written spells these options
pub canonical_spelled : (start : ℕ) (v : Values) → IsInRange v → IsSpelled v (canonical start v)
unfolding canonical
canonical_spelled start v fits =
    let one = advice_step start v.advice [] fits.advice_fits in
    let area1 = with_advice start v.advice [] in
    let two = nonces_step start v.advice v.nonces area1 fits.nonces_fit in
    let area2 = with_nonces start v.nonces area1 in
    let three = number_step start v.advice v.nonces v.number area2 fits.number_fits in
    let area3 = with_number start v.number area2 in
    let next = alternate_step start v.advice v.alternate v.nonces v.number area3 fits.alternate_fits in
    let area4 = with_alternate start v.alternate area3 in
    let end = end_step start v.advice v.alternate v.nonces v.number v.authorization area4 fits.authorization_fits in
    let run = one.run _ _ (two.run _ _ (three.run _ _ (next.run _ _ end.run))) in
    (one.items ++ (two.items ++ (three.items ++ (next.items ++ end.items))), run, joined one.items two.items three.items next.items end.items area1 area2 area3 area4 _ one.bytes two.bytes three.bytes next.bytes end.bytes)

closed_whole : (start : ℕ) (area : List ℕ) → (start + length (closed start area)) % 8 ≡ 0
unfolding closed gap
closed_whole start area =
    let g = gap 8 0 (start + length area) in
    let long : length (area ++ padding g) ≡ length area + g = length-append area (padding g) ∙ ap (λ (n : ℕ). length area + n) (length_padding g) in
    omega (arith, long)

-- it ends at a multiple of 8
pub canonical_whole : (start : ℕ) (v : Values) → (start + length (canonical start v)) % 8 ≡ 0
unfolding canonical
canonical_whole start v =
    closed_whole start (with_authorization start v.authorization (with_alternate start v.alternate (with_number start v.number (with_nonces start v.nonces (with_advice start v.advice [])))))

-- what a writer owes for the bytes that it appended
pub appends_options : (start : ℕ) (v : Values) (old new area : List ℕ) → new ≡ old ++ area → area ≡ canonical start v → IsInRange v → AppendsOptions v old new
appends_options start v old new area appended is fits = (area, appended, subst (IsSpelled v) (sym is) (canonical_spelled start v fits))

pub appends_whole : (v : Values) (old new area : List ℕ) → new ≡ old ++ area → area ≡ canonical (length old) v → length new % 8 ≡ 0
appends_whole v old new area appended is =
    let size : length new ≡ length old + length (canonical (length old) v) = ap length appended ∙ length-append old area ∙ ap (λ (l : List ℕ). length old + length l) is in
    ap (λ (n : ℕ). n % 8) size ∙ canonical_whole (length old) v
