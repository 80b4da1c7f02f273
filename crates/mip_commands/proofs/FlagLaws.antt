-- Words that begin with a hyphen are none of the forms.
use Rattle.std.proofs.Common.{◌≡◌, ◌∙◌, ◌&&◌, ◌||◌, ◌<◌, ◌≤◌, ℕ, ◌*◌, ◌==◌, Bool, true, false, refl, sym, ap, subst, arith, cond, List, [], ◌∷◌, length, Option, Some, None, option_map, true≢false, nat_le, codes}
use Rattle.std.specs.Prelude.{decimal}
use Rattle.std.specs.List.{list_any}
use Rattle.std.specs.Char.{digit_value}
use Rattle.std.specs.Str.{bytes_eq}
use Rattle.std.specs.Str.Parse.{AllDigits, digits_value}
use Rattle.std.proofs.lemmas.Bool.{eqb-true, leb-true}
use Rattle.std.proofs.lemmas.Fmt.{decimal_is_IsNumeral}
use Rattle.std.proofs.lemmas.Slice.Eq.{bytes_eq-Decides}
use Rattle.mip_words.specs.Hex.{unhex, unhex_exact}
use Rattle.mip_words.specs.Addresses.{address_if, address_read}
use Rattle.mip_lines.specs.Decimals.{number_in}
use Rattle.mip_commands.specs.Forms.{is_flag}
use Rattle.mip_commands.specs.Commands.{address_in, alone, asking, command_named, command_of, count_in, draft_of, drafted, if_address, seed_in, turned}
use Rattle.mip_commands.specs.declared.command.Command.{Command}
use Rattle.mip_commands.specs.declared.command.Command.TheVariants.{Replay, Decode, Audit, Make, Sum, Node, Hub}
use Rattle.mip_commands.specs.declared.draft.Draft.{Draft}

no_name : (name : List ℕ) → is_flag name ≡ true → (rest : List (List ℕ)) → command_named name rest ≡ None
no_name [] flag rest = absurd (true≢false (sym flag))
no_name (c ∷ tail) flag rest = rw (eqb-true c 45 flag) refl

no_bytes : (rest : List ℕ) → unhex (45 ∷ rest) ≡ None
no_bytes [] = refl
no_bytes (d ∷ rest) = refl

-- no digits are those of bytes
no_digits : (n : ℕ) (word : List ℕ) → is_flag word ≡ true → unhex_exact n word ≡ None
no_digits n [] flag = absurd (true≢false (sym flag))
no_digits n (c ∷ rest) flag = subst (λ x. unhex_exact n (x ∷ rest) ≡ None) (sym (eqb-true c 45 flag)) (none_of (length (45 ∷ rest) == 2 * n) (no_bytes rest))
  where
    none_of : (b : Bool) → unhex (45 ∷ rest) ≡ None → cond b (unhex (45 ∷ rest)) None ≡ None
    none_of false e = refl
    none_of true e = e

no_address : (word : List ℕ) → is_flag word ≡ true → address_in word ≡ None
unfolding address_in address_read
no_address word flag = ap (λ bytes. if_address (address_if bytes)) (no_digits 16 word flag)

-- a number that is spelled begins with a digit
not_spelled : (rest : List ℕ) (most n : ℕ) → most < 2000000 → n ≤ most → decimal n ≡ 45 ∷ rest → ⊥
not_spelled rest most n small few spelled =
    let digits : AllDigits 10 (45 ∷ rest) = subst (AllDigits 10) spelled (decimal_is_IsNumeral n (omega arith)).0.1 in
    let first : digit_value 45 < 10 = digits.0 in
    absurd (omega (arith, first))

no_number : (most : ℕ) → most < 2000000 → (word : List ℕ) → is_flag word ≡ true → number_in 1 most word ≡ None
unfolding number_in
no_number most small [] flag = absurd (true≢false (sym flag))
no_number most small (c ∷ rest) flag = subst (λ x. number_in 1 most (x ∷ rest) ≡ None) (sym (eqb-true c 45 flag)) (by (bytes_eq (decimal n) (45 ∷ rest)) (nat_le 1 n) (nat_le n most) refl refl)
  where
    n : ℕ
    n = digits_value 10 (45 ∷ rest)

    by : (same from to : Bool) → bytes_eq (decimal n) (45 ∷ rest) ≡ same → nat_le n most ≡ to → cond (same && (from && to)) (Some n) None ≡ None
    by false from to _ _ = refl
    by true false to _ _ = refl
    by true true false _ _ = refl
    by true true true same to = absurd (not_spelled rest most n small (leb-true n most to) ((bytes_eq-Decides (decimal n) (45 ∷ rest)).0 same))

-- ---- the arguments

only_word : (word : List ℕ) → (is_flag word || false) ≡ true → is_flag word ≡ true
only_word word flag = go (is_flag word) flag
  where
    go : (b : Bool) → (b || false) ≡ true → b ≡ true
    go true e = refl
    go false e = e

none_alone : (command : Command) (rest : List (List ℕ)) → list_any is_flag rest ≡ true → alone command rest ≡ None
none_alone command [] flag = absurd (true≢false (sym flag))
none_alone command (word ∷ rest) flag = refl

none_asking : (rest : List (List ℕ)) → list_any is_flag rest ≡ true → asking rest ≡ None
none_asking [] flag = absurd (true≢false (sym flag))
none_asking (word ∷ []) flag = ap (option_map _) (no_address word (only_word word flag))
none_asking (word ∷ next ∷ rest) flag = refl

none_turned : (command : ℕ → Command) (rest : List (List ℕ)) → list_any is_flag rest ≡ true → turned command rest ≡ None
none_turned command [] flag = refl
none_turned command (word ∷ []) flag = ap (option_map command) (no_number 1000000 (omega arith) word (only_word word flag))
none_turned command (word ∷ next ∷ rest) flag = refl

no_draft : (seed count : List ℕ) → (is_flag seed || (is_flag count || false)) ≡ true → draft_of (seed_in seed) (count_in count) ≡ None
no_draft seed count flag = by (is_flag seed) (is_flag count) refl refl flag
  where
    without_count : (s : Option (List ℕ)) → draft_of s None ≡ None
    without_count None = refl
    without_count (Some s) = refl

    by : (s n : Bool) → is_flag seed ≡ s → is_flag count ≡ n → (s || (n || false)) ≡ true → draft_of (seed_in seed) (count_in count) ≡ None
    by true n is_seed _ _ = ap (λ s. draft_of s (count_in count)) (no_digits 32 seed is_seed)
    by false true _ is_count _ = ap (draft_of (seed_in seed)) (no_number 20000 (omega arith) count is_count) ∙ without_count (seed_in seed)
    by false false _ _ none = absurd (true≢false (sym none))

none_drafted : (command : Draft → Command) (rest : List (List ℕ)) → list_any is_flag rest ≡ true → drafted command rest ≡ None
none_drafted command [] flag = refl
none_drafted command (word ∷ []) flag = refl
none_drafted command (seed ∷ count ∷ []) flag = ap (option_map command) (no_draft seed count flag)
none_drafted command (seed ∷ count ∷ next ∷ rest) flag = refl

or_none : (b : Bool) (x y : Option Command) → x ≡ None → y ≡ None → cond b x y ≡ None
or_none true x y first second = first
or_none false x y first second = second

no_rest : (name : List ℕ) (rest : List (List ℕ)) → list_any is_flag rest ≡ true → command_named name rest ≡ None
no_rest name rest flag =
    or_none (bytes_eq name (codes "replay")) _ _ (none_alone Replay rest flag)
    (or_none (bytes_eq name (codes "decode")) _ _ (none_alone Decode rest flag)
    (or_none (bytes_eq name (codes "claims")) _ _ (none_asking rest flag)
    (or_none (bytes_eq name (codes "audit")) _ _ (none_alone Audit rest flag)
    (or_none (bytes_eq name (codes "make")) _ _ (none_drafted (λ d. Make d) rest flag)
    (or_none (bytes_eq name (codes "sum")) _ _ (none_drafted (λ d. Sum d) rest flag)
    (or_none (bytes_eq name (codes "node")) _ _ (none_turned (λ n. Node n) rest flag)
    (or_none (bytes_eq name (codes "hub")) _ _ (none_turned (λ n. Hub n) rest flag) refl)))))))

-- words of which one is a flag are none of the forms
pub no_command : (words : List (List ℕ)) → list_any is_flag words ≡ true → command_of words ≡ None
no_command [] flag = absurd (true≢false (sym flag))
no_command (name ∷ rest) flag = by (is_flag name) refl flag
  where
    by : (b : Bool) → is_flag name ≡ b → (b || list_any is_flag rest) ≡ true → command_named name rest ≡ None
    by true is _ = no_name name is rest
    by false _ left = no_rest name rest left
