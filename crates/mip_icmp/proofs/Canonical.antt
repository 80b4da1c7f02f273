-- The canonical spelling is one that is read, to the message that was written.
use Rattle.std.proofs.Common.{◌≡◌, ℕ, ◌^◌, ◌<◌, ◌≤◌, Bool, true, false, List, [], ◌∷◌, ◌++◌, length, Option, Some, None, Result, Ok, Err, IsTrue, refl, sym, ap, subst, ◌∙◌, arith, length-append, lit≤}
use Rattle.std.specs.Prelude.{slice_index, IfOk, OnOk}
use Rattle.std.proofs.lemmas.Bool.{eqb-true}
use Rattle.std.proofs.lemmas.List.{append-nil}
use Rattle.mip_words.specs.Numbers.{number_at, number_bytes}
use Rattle.mip_words.specs.Addresses.{address_bytes}
use Rattle.mip_words.specs.declared.address.Address.{Address}
use Rattle.mip_words.specs.declared.memory.Memory.{Memory}
use Rattle.mip_words.proofs.Fields.{number_at-number_bytes}
use Rattle.mip_ipv6.specs.Sum.{is_right_sum, checksum_of, with_number_at}
use Rattle.mip_icmp.specs.declared.prefix_info.PrefixInfo.{PrefixInfo}
use Rattle.mip_icmp.specs.declared.agent_info.AgentInfo.{AgentInfo}
use Rattle.mip_icmp.specs.declared.options.IcmpSet.{IcmpSet}
use Rattle.mip_icmp.specs.Fields.{least_size, is_agent_flag}
use Rattle.mip_icmp.specs.Options.{prefix_at, interval_at, agent_at, preferred_among, IsOption, IsArea}
use Rattle.mip_icmp.specs.Said.{Said, Parameter, Advertisement, DiscoverAsk, DiscoverReply, PrefixAsk, PrefixReply}
use Rattle.mip_icmp.specs.Reading.{icmp_of}
use Rattle.mip_icmp.specs.Spelling.{type_of, IsFields, IsIcmp, prefix_bytes, interval_bytes, agent_bytes, set_bytes, agent_flag, unsummed, icmp_bytes, IsWritable}
use Rattle.mip_icmp.specs.SpellingLaws.{FitsPrefix, FitsAgent, FitsSet, Fits}
use Rattle.mip_icmp.proofs.Choices.{preferred_one}
use Rattle.mip_icmp.proofs.Messages.{icmp_again}

-- ---- sizes

prefix_size : (p : Option PrefixInfo) → length (prefix_bytes p) ≤ 32
unfolding number_bytes
prefix_size None = lit≤ tt
prefix_size (Some p) = lit≤ tt

interval_size : (i : Option ℕ) → length (interval_bytes i) ≤ 8
unfolding number_bytes
interval_size None = lit≤ tt
interval_size (Some n) = lit≤ tt

agent_size : (a : Option AgentInfo) → length (agent_bytes a) ≤ 8
unfolding number_bytes
agent_size None = lit≤ tt
agent_size (Some a) = lit≤ tt

set_size : (set : IcmpSet) → length (set_bytes set) ≤ 48
unfolding set_bytes
set_size set =
    omega (arith, prefix_size set.prefix, interval_size set.interval, agent_size set.agent, length-append (prefix_bytes set.prefix) (interval_bytes set.interval ++ agent_bytes set.agent), length-append (interval_bytes set.interval) (agent_bytes set.agent))

pub unsummed_size : (m : Said) → IsWritable m → length (unsummed m) ≤ 65535
unfolding unsummed number_bytes
unsummed_size (Parameter pointer quoted) fits = omega (arith, fits)
unsummed_size (Advertisement hop agent life options) fits = omega (arith, set_size options)
unsummed_size (DiscoverAsk identifier) fits = lit≤ tt
unsummed_size (DiscoverReply identifier agents) fits = omega (arith, fits.0)
unsummed_size (PrefixAsk identifier) fits = lit≤ tt
unsummed_size (PrefixReply identifier options) fits = omega (arith, set_size options)

pub unsummed_long : (m : Said) → 8 ≤ length (unsummed m)
unfolding unsummed number_bytes
unsummed_long (Parameter pointer quoted) = omega arith
unsummed_long (Advertisement hop agent life options) = omega arith
unsummed_long (DiscoverAsk identifier) = lit≤ tt
unsummed_long (DiscoverReply identifier agents) = omega arith
unsummed_long (PrefixAsk identifier) = lit≤ tt
unsummed_long (PrefixReply identifier options) = omega arith

-- ---- options

-- a prefix with these numbers
abbrev made : PrefixInfo → ℕ → ℕ → ℕ → PrefixInfo
made p valid preferred address = record { length = p.length; flags = p.flags; valid = valid; preferred = preferred; address = record { 0 = address } }

prefix_again : (p : PrefixInfo) → FitsPrefix p → prefix_at (prefix_bytes (Some p)) ≡ p
unfolding number_at number_bytes
prefix_again p fits =
    let bytes = prefix_bytes (Some p) in
    let valid : number_at 4 4 bytes ≡ p.valid = number_at-number_bytes 4 p.valid (number_bytes 4 p.preferred ++ (0 ∷ 0 ∷ 0 ∷ 0 ∷ address_bytes p.address)) fits.valid in
    let preferred : number_at 4 8 bytes ≡ p.preferred = number_at-number_bytes 4 p.preferred (0 ∷ 0 ∷ 0 ∷ 0 ∷ address_bytes p.address) fits.preferred in
    let address : number_at 16 16 bytes ≡ p.address.0 = number_at-number_bytes 16 p.address.0 [] fits.address in
    ap (λ (v : ℕ). made p v (number_at 4 8 bytes) (number_at 16 16 bytes)) valid ∙ ap (λ (w : ℕ). made p p.valid w (number_at 16 16 bytes)) preferred ∙ ap (λ (a : ℕ). made p p.valid p.preferred a) address

interval_again : (n : ℕ) → n < 2 ^ 32 → interval_at (interval_bytes (Some n)) ≡ n
unfolding number_at number_bytes
interval_again n fits = number_at-number_bytes 4 n [] fits

agent_again : (a : AgentInfo) → FitsAgent a → agent_at (agent_bytes (Some a)) ≡ a
unfolding number_at number_bytes
agent_again a fits =
    let bytes = agent_bytes (Some a) in
    let preference : number_at 2 4 bytes ≡ a.preference = number_at-number_bytes 2 a.preference (number_bytes 2 a.life) fits.preference in
    let life : number_at 2 6 bytes ≡ a.life = number_at-number_bytes 2 a.life [] fits.life in
    let of_two : ℕ → ℕ → AgentInfo = λ p l. record { preference = p; life = l } in
    ap (λ (p : ℕ). of_two p (number_at 2 6 bytes)) preference ∙ ap (λ (l : ℕ). of_two a.preference l) life

prefix_option : (p : PrefixInfo) → IsOption (prefix_bytes (Some p))
unfolding number_bytes
prefix_option p = record { units = refl; whole = refl }

interval_option : (n : ℕ) → IsOption (interval_bytes (Some n))
unfolding number_bytes
interval_option n = record { units = refl; whole = refl }

agent_option : (a : AgentInfo) → IsOption (agent_bytes (Some a))
unfolding number_bytes
agent_option a = record { units = refl; whole = refl }

abbrev set_of_three : Option PrefixInfo → Option ℕ → Option AgentInfo → IcmpSet
set_of_three p i a = record { prefix = p; interval = i; agent = a }

same_set : (p q : Option PrefixInfo) (i j : Option ℕ) (a b : Option AgentInfo) → p ≡ q → i ≡ j → a ≡ b → set_of_three p i a ≡ set_of_three q j b
same_set p q i j a b pq ij ab = rw (pq, ij, ab) refl

one_prefix : (p : PrefixInfo) → FitsPrefix p → preferred_among (prefix_at (prefix_bytes (Some p)) ∷ []) ≡ Some p
one_prefix p fits = ap (λ (x : PrefixInfo). preferred_among (x ∷ [])) (prefix_again p fits) ∙ preferred_one (Some p)

-- as an option
abbrev some_number : ℕ → Option ℕ
some_number n = Some n

abbrev some_agent : AgentInfo → Option AgentInfo
some_agent a = Some a

one_interval : (n : ℕ) → n < 2 ^ 32 → some_number (interval_at (interval_bytes (Some n))) ≡ some_number n
one_interval n fits = ap some_number (interval_again n fits)

one_agent : (a : AgentInfo) → FitsAgent a → some_agent (agent_at (agent_bytes (Some a))) ≡ some_agent a
one_agent a fits = ap some_agent (agent_again a fits)

-- the options of a set, each where it is present, are an area that says this set
set_spelled : (p : Option PrefixInfo) (i : Option ℕ) (a : Option AgentInfo) → FitsSet (set_of_three p i a) → IsArea (set_of_three p i a) (set_bytes (set_of_three p i a))
unfolding set_bytes
set_spelled None None None fits = ([], tt, refl, refl)
set_spelled None None (Some a) fits =
    let x = agent_bytes (Some a) in
    (x ∷ [], (agent_option a, tt), sym (append-nil x), same_set _ None _ None _ (Some a) refl refl (one_agent a fits.agent))
set_spelled None (Some n) None fits =
    let x = interval_bytes (Some n) in
    (x ∷ [], (interval_option n, tt), refl, same_set _ None _ (Some n) _ None refl (one_interval n fits.interval) refl)
set_spelled None (Some n) (Some a) fits =
    let x = interval_bytes (Some n) in
    let y = agent_bytes (Some a) in
    (x ∷ y ∷ [], (interval_option n, (agent_option a, tt)), ap (λ (l : List ℕ). x ++ l) (sym (append-nil y)), same_set _ None _ (Some n) _ (Some a) refl (one_interval n fits.interval) (one_agent a fits.agent))
set_spelled (Some p) None None fits =
    let x = prefix_bytes (Some p) in
    (x ∷ [], (prefix_option p, tt), refl, same_set _ (Some p) _ None _ None (one_prefix p fits.prefix) refl refl)
set_spelled (Some p) None (Some a) fits =
    let x = prefix_bytes (Some p) in
    let y = agent_bytes (Some a) in
    (x ∷ y ∷ [], (prefix_option p, (agent_option a, tt)), ap (λ (l : List ℕ). x ++ l) (sym (append-nil y)), same_set _ (Some p) _ None _ (Some a) (one_prefix p fits.prefix) refl (one_agent a fits.agent))
set_spelled (Some p) (Some n) None fits =
    let x = prefix_bytes (Some p) in
    let y = interval_bytes (Some n) in
    (x ∷ y ∷ [], (prefix_option p, (interval_option n, tt)), refl, same_set _ (Some p) _ (Some n) _ None (one_prefix p fits.prefix) (one_interval n fits.interval) refl)
set_spelled (Some p) (Some n) (Some a) fits =
    let x = prefix_bytes (Some p) in
    let y = interval_bytes (Some n) in
    let z = agent_bytes (Some a) in
    (x ∷ y ∷ z ∷ [], (prefix_option p, (interval_option n, (agent_option a, tt))), ap (λ (l : List ℕ). x ++ (y ++ l)) (sym (append-nil z)), same_set _ (Some p) _ (Some n) _ (Some a) (one_prefix p fits.prefix) (one_interval n fits.interval) (one_agent a fits.agent))

-- ---- messages

flag_again : (agent : Bool) → is_agent_flag (agent_flag agent) ≡ agent
flag_again true = refl
flag_again false = refl

-- the fields stand at their places, whatever the checksum
fields_spelled : (m : Said) (sum : ℕ) → Fits m → IsWritable m → IsFields m (with_number_at 2 sum (unsummed m))
unfolding unsummed number_at number_bytes
fields_spelled (Parameter pointer quoted) sum fits may = (number_at-number_bytes 4 pointer quoted fits, refl)
fields_spelled (Advertisement hop agent life options) sum fits may =
    (refl, flag_again agent, number_at-number_bytes 2 life (0 ∷ 0 ∷ 0 ∷ 0 ∷ 0 ∷ 0 ∷ 0 ∷ 0 ∷ set_bytes options) fits.0, set_spelled options.prefix options.interval options.agent fits.1)
fields_spelled (DiscoverAsk identifier) sum fits may = number_at-number_bytes 2 identifier (0 ∷ 0 ∷ []) fits
fields_spelled (DiscoverReply identifier agents) sum fits may = (number_at-number_bytes 2 identifier (0 ∷ 0 ∷ agents) fits, refl, may.1)
fields_spelled (PrefixAsk identifier) sum fits may = number_at-number_bytes 2 identifier (0 ∷ 0 ∷ []) fits
fields_spelled (PrefixReply identifier options) sum fits may =
    (number_at-number_bytes 2 identifier (0 ∷ 0 ∷ set_bytes options) fits.0, set_spelled options.prefix options.interval options.agent fits.1)

-- type, code and length, whatever the checksum
record HasFront (m : Said) (body : List ℕ) : Type 0 where
  type : slice_index body 0 ≡ type_of m
  code : slice_index body 1 ≡ 0
  long : least_size (type_of m) ≤ length body

front_spelled : (m : Said) (sum : ℕ) → HasFront m (with_number_at 2 sum (unsummed m))
unfolding unsummed number_bytes
front_spelled (Parameter pointer quoted) sum = record { type = refl; code = refl; long = omega arith }
front_spelled (Advertisement hop agent life options) sum = record { type = refl; code = refl; long = omega arith }
front_spelled (DiscoverAsk identifier) sum = record { type = refl; code = refl; long = lit≤ tt }
front_spelled (DiscoverReply identifier agents) sum = record { type = refl; code = refl; long = omega arith }
front_spelled (PrefixAsk identifier) sum = record { type = refl; code = refl; long = lit≤ tt }
front_spelled (PrefixReply identifier options) sum = record { type = refl; code = refl; long = omega arith }

-- the canonical spelling is one spelling of the message
pub canonical_is : (source destination : Address) (m : Said) → Fits m → IsWritable m → is_right_sum source destination 58 (icmp_bytes source destination m) ≡ true → IsIcmp source destination m (icmp_bytes source destination m)
unfolding icmp_bytes
canonical_is source destination m fits may right =
    let sum = checksum_of source destination 58 (unsummed m) 2 in
    let front = front_spelled m sum in
    record { long = front.long; sum = eqb-true _ 0 right; type = front.type; code = front.code; fields = fields_spelled m sum fits may }

pub is_spelled : (source destination : Address) (m : Said) (r : Result (List ℕ) Memory) → IsWritable m → IfOk r (λ b. b ≡ icmp_bytes source destination m) → IfOk r (λ b. IsTrue (is_right_sum source destination 58 b)) → OnOk r (Fits m) → IfOk r (IsIcmp source destination m)
is_spelled source destination m (Ok b) may is right fits =
    let sum : is_right_sum source destination 58 (icmp_bytes source destination m) ≡ true = ap (is_right_sum source destination 58) (sym is) ∙ right in
    subst (IsIcmp source destination m) (sym is) (canonical_is source destination m fits may sum)
is_spelled source destination m (Err e) may is right fits = tt

pub is_back : (source destination : Address) (m : Said) (r : Result (List ℕ) Memory) → IfOk r (IsIcmp source destination m) → IfOk r (λ b. icmp_of source destination b ≡ Ok m)
is_back source destination m (Ok b) is = icmp_again source destination b m is
is_back source destination m (Err e) is = tt
