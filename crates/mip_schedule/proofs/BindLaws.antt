-- The line of an update, in its parts.
use Rattle.std.proofs.Common.{◌≡◌, ℕ, ◌<◌, ◌≤◌, List, [], ◌∷◌, length, get_or, refl, ap, ◌∙◌, arith}
use Rattle.std.specs.Prelude.{Some, None, Result, Ok, Err}
use Rattle.std.specs.Borrow.{Bor}
use Rattle.mip_words.specs.Steps.{◌>>=◌}
use Rattle.mip_words.specs.declared.address.Address.{Address}
use Rattle.mip_words.specs.declared.ids.LinkId.{LinkId}
use Rattle.mip_lines.specs.Cutting.{texts}
use Rattle.mip_schedule.specs.BindParts.{bind_ends, bind_numbers}
use Rattle.mip_schedule.specs.DeclarationRows.{u16}
use Rattle.mip_schedule.specs.EventRows.{u32, binding_number, update_ends, plain_bind_row, numbered_bind_row}
use Rattle.mip_symbols.specs.Kinds as kinds
use Rattle.mip_symbols.specs.declared.declaration.Declaration.{Declaration}
use Rattle.mip_schedule.specs.declared.event.Event.TheVariants as events
use Rattle.mip_symbols.specs.declared.reason.Reason.{Reason}

pub plain_split : (ds : List Declaration) (c1 c2 c3 c4 c5 c6 c7 c8 c9 c10 : List ℕ)
    → plain_bind_row ds (c1 ∷ c2 ∷ c3 ∷ c4 ∷ c5 ∷ c6 ∷ c7 ∷ c8 ∷ c9 ∷ c10 ∷ [])
    ≡ (kinds.outsider ds c1 >>= (λ o. kinds.link ds c2 >>= (λ l. bind_ends c3 c4 c5 c6 >>= (λ e. bind_numbers o l e c7 c8 c9 c10 None))))
unfolding plain_bind_row bind_ends bind_numbers
plain_split ds c1 c2 c3 c4 c5 c6 c7 c8 c9 c10 = by (kinds.outsider ds c1) (kinds.link ds c2) (kinds.address c3) (kinds.address c4) (kinds.address c5) (kinds.address c6)
  where
    by : (o : Result ℕ Reason) (l : Result LinkId Reason) (s p h c : Result Address Reason)
        → (o >>= (λ a. l >>= (λ b. s >>= (λ x. p >>= (λ y. h >>= (λ z. c >>= (λ w. u16 c7 >>= (λ q. u16 c8 >>= (λ t. u32 c9 >>= (λ k. kinds.some_packet c10 >>= (λ j. Ok (events.Bind a b (update_ends x y z w) q t k j 0))))))))))))
        ≡ (o >>= (λ a. l >>= (λ b. (s >>= (λ x. p >>= (λ y. h >>= (λ z. c >>= (λ w. Ok (update_ends x y z w))))))
        >>= (λ e. u16 c7 >>= (λ q. u16 c8 >>= (λ t. u32 c9 >>= (λ k. kinds.some_packet c10 >>= (λ j. Ok (events.Bind a b e q t k j 0)))))))))
    by (Err r) l s p h c = refl
    by (Ok a) (Err r) s p h c = refl
    by (Ok a) (Ok b) (Err r) p h c = refl
    by (Ok a) (Ok b) (Ok x) (Err r) h c = refl
    by (Ok a) (Ok b) (Ok x) (Ok y) (Err r) c = refl
    by (Ok a) (Ok b) (Ok x) (Ok y) (Ok z) (Err r) = refl
    by (Ok a) (Ok b) (Ok x) (Ok y) (Ok z) (Ok w) = refl

pub numbered_split : (ds : List Declaration) (c1 c2 c3 c4 c5 c6 c7 c8 c9 c10 c11 : List ℕ)
    → numbered_bind_row ds (c1 ∷ c2 ∷ c3 ∷ c4 ∷ c5 ∷ c6 ∷ c7 ∷ c8 ∷ c9 ∷ c10 ∷ c11 ∷ [])
    ≡ (kinds.outsider ds c1 >>= (λ o. kinds.link ds c2 >>= (λ l. bind_ends c3 c4 c5 c6 >>= (λ e. bind_numbers o l e c7 c8 c9 c10 (Some c11)))))
unfolding numbered_bind_row bind_ends bind_numbers
numbered_split ds c1 c2 c3 c4 c5 c6 c7 c8 c9 c10 c11 = by (kinds.outsider ds c1) (kinds.link ds c2) (kinds.address c3) (kinds.address c4) (kinds.address c5) (kinds.address c6)
  where
    by : (o : Result ℕ Reason) (l : Result LinkId Reason) (s p h c : Result Address Reason)
        → (o >>= (λ a. l >>= (λ b. s >>= (λ x. p >>= (λ y. h >>= (λ z. c >>= (λ w. u16 c7 >>= (λ q. u16 c8 >>= (λ t. u32 c9 >>= (λ k. kinds.some_packet c10 >>= (λ j. binding_number c11 >>= (λ n. Ok (events.Bind a b (update_ends x y z w) q t k j n)))))))))))))
        ≡ (o >>= (λ a. l >>= (λ b. (s >>= (λ x. p >>= (λ y. h >>= (λ z. c >>= (λ w. Ok (update_ends x y z w))))))
        >>= (λ e. u16 c7 >>= (λ q. u16 c8 >>= (λ t. u32 c9 >>= (λ k. kinds.some_packet c10 >>= (λ j. binding_number c11 >>= (λ n. Ok (events.Bind a b e q t k j n))))))))))
    by (Err r) l s p h c = refl
    by (Ok a) (Err r) s p h c = refl
    by (Ok a) (Ok b) (Err r) p h c = refl
    by (Ok a) (Ok b) (Ok x) (Err r) h c = refl
    by (Ok a) (Ok b) (Ok x) (Ok y) (Err r) c = refl
    by (Ok a) (Ok b) (Ok x) (Ok y) (Ok z) (Err r) = refl
    by (Ok a) (Ok b) (Ok x) (Ok y) (Ok z) (Ok w) = refl

abbrev pub nowhere : Bor (List ℕ)
nowhere = record { ref_ptr = (0, 0); now = [] }

-- the text of the field at a place
abbrev pub field : List (Bor (List ℕ)) → ℕ → List ℕ
field fields i = (get_or fields i nowhere).now

-- ten fields, one by one
ten : (fs : List (Bor (List ℕ))) → 10 ≤ length fs → length fs < 11
    → texts fs ≡ field fs 0 ∷ field fs 1 ∷ field fs 2 ∷ field fs 3 ∷ field fs 4 ∷ field fs 5 ∷ field fs 6 ∷ field fs 7 ∷ field fs 8 ∷ field fs 9 ∷ []
ten [] long short = absurd (omega arith)
ten (a ∷ []) long short = absurd (omega arith)
ten (a ∷ b ∷ []) long short = absurd (omega arith)
ten (a ∷ b ∷ c ∷ []) long short = absurd (omega arith)
ten (a ∷ b ∷ c ∷ d ∷ []) long short = absurd (omega arith)
ten (a ∷ b ∷ c ∷ d ∷ e ∷ []) long short = absurd (omega arith)
ten (a ∷ b ∷ c ∷ d ∷ e ∷ f ∷ []) long short = absurd (omega arith)
ten (a ∷ b ∷ c ∷ d ∷ e ∷ f ∷ g ∷ []) long short = absurd (omega arith)
ten (a ∷ b ∷ c ∷ d ∷ e ∷ f ∷ g ∷ h ∷ []) long short = absurd (omega arith)
ten (a ∷ b ∷ c ∷ d ∷ e ∷ f ∷ g ∷ h ∷ i ∷ []) long short = absurd (omega arith)
ten (a ∷ b ∷ c ∷ d ∷ e ∷ f ∷ g ∷ h ∷ i ∷ j ∷ []) long short = refl
ten (a ∷ b ∷ c ∷ d ∷ e ∷ f ∷ g ∷ h ∷ i ∷ j ∷ k ∷ more) long short = absurd (omega arith)

-- eleven fields, one by one
eleven : (fs : List (Bor (List ℕ))) → 11 ≤ length fs → length fs < 12
    → texts fs ≡ field fs 0 ∷ field fs 1 ∷ field fs 2 ∷ field fs 3 ∷ field fs 4 ∷ field fs 5 ∷ field fs 6 ∷ field fs 7 ∷ field fs 8 ∷ field fs 9 ∷ field fs 10 ∷ []
eleven [] long short = absurd (omega arith)
eleven (a ∷ []) long short = absurd (omega arith)
eleven (a ∷ b ∷ []) long short = absurd (omega arith)
eleven (a ∷ b ∷ c ∷ []) long short = absurd (omega arith)
eleven (a ∷ b ∷ c ∷ d ∷ []) long short = absurd (omega arith)
eleven (a ∷ b ∷ c ∷ d ∷ e ∷ []) long short = absurd (omega arith)
eleven (a ∷ b ∷ c ∷ d ∷ e ∷ f ∷ []) long short = absurd (omega arith)
eleven (a ∷ b ∷ c ∷ d ∷ e ∷ f ∷ g ∷ []) long short = absurd (omega arith)
eleven (a ∷ b ∷ c ∷ d ∷ e ∷ f ∷ g ∷ h ∷ []) long short = absurd (omega arith)
eleven (a ∷ b ∷ c ∷ d ∷ e ∷ f ∷ g ∷ h ∷ i ∷ []) long short = absurd (omega arith)
eleven (a ∷ b ∷ c ∷ d ∷ e ∷ f ∷ g ∷ h ∷ i ∷ j ∷ []) long short = absurd (omega arith)
eleven (a ∷ b ∷ c ∷ d ∷ e ∷ f ∷ g ∷ h ∷ i ∷ j ∷ k ∷ []) long short = refl
eleven (a ∷ b ∷ c ∷ d ∷ e ∷ f ∷ g ∷ h ∷ i ∷ j ∷ k ∷ l ∷ more) long short = absurd (omega arith)

pub plain_parts : (ds : List Declaration) (fs : List (Bor (List ℕ))) → 10 ≤ length fs → length fs < 11
    → plain_bind_row ds (texts fs)
    ≡ (kinds.outsider ds (field fs 0) >>= (λ o. kinds.link ds (field fs 1) >>= (λ l. bind_ends (field fs 2) (field fs 3) (field fs 4) (field fs 5) >>= (λ e. bind_numbers o l e (field fs 6) (field fs 7) (field fs 8) (field fs 9) None))))
plain_parts ds fs long short =
    ap (plain_bind_row ds) (ten fs long short) ∙ plain_split ds (field fs 0) (field fs 1) (field fs 2) (field fs 3) (field fs 4) (field fs 5) (field fs 6) (field fs 7) (field fs 8) (field fs 9)

pub numbered_parts : (ds : List Declaration) (fs : List (Bor (List ℕ))) → 11 ≤ length fs → length fs < 12
    → numbered_bind_row ds (texts fs)
    ≡ (kinds.outsider ds (field fs 0) >>= (λ o. kinds.link ds (field fs 1) >>= (λ l. bind_ends (field fs 2) (field fs 3) (field fs 4) (field fs 5) >>= (λ e. bind_numbers o l e (field fs 6) (field fs 7) (field fs 8) (field fs 9) (Some (field fs 10))))))
numbered_parts ds fs long short =
    ap (numbered_bind_row ds) (eleven fs long short) ∙ numbered_split ds (field fs 0) (field fs 1) (field fs 2) (field fs 3) (field fs 4) (field fs 5) (field fs 6) (field fs 7) (field fs 8) (field fs 9) (field fs 10)
