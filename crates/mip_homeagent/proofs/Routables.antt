-- A home that is registered is routable.
use Rattle.std.proofs.Common.{◌≡◌, ℕ, List, [], ◌∷◌, true, refl, subst, arith}
use Rattle.std.specs.Prelude.{Option, Some, None, IfSome, option_map}
use Rattle.std.specs.Option.{option_and_then}
use Rattle.std.specs.List.{AllByRecursion}
use Rattle.mip_words.specs.Addresses.{is_routable}
use Rattle.mip_words.specs.declared.address.Address.{Address}
use Rattle.mip_binding.specs.Rows.{find_by}
use Rattle.mip_binding.proofs.RowLaws.{all-find}
use Rattle.mip_rules_agent.specs.declared.home_binding.HomeBinding.{HomeBinding}
use Rattle.mip_rules_agent.specs.declared.served.Served.{Served}
use Rattle.mip_rules_agent.specs.Known.{Known}
use Rattle.mip_rules_agent.specs.Questions.{key_of, served_at, if_standing, careof_at}
use Rattle.mip_homeagent.specs.Soundness.{IsRoutable}

pub find_key : (k : ℕ) (xs : List Served) (s : Served) → find_by key_of k xs ≡ Some s → key_of s ≡ k
find_key k [] s e = absurd cc
find_key k (x ∷ xs) s e = grind (arith, find_key k xs s, e)

pub careof_routable : (k : Known) (now : ℕ) (home : Address) (o : Option Address) → AllByRecursion IsRoutable k.homes → o ≡ careof_at k now home → IfSome o (λ _. is_routable home.0 ≡ true)
careof_routable k now home None all e = tt
careof_routable k now home (Some a) all e = by (served_at k home) refl e
  where
    by : (o : Option Served) → served_at k home ≡ o → Some a ≡ option_map (λ (b : HomeBinding). b.careof) (if_standing home now (option_and_then (λ (s : Served). s.binding) o)) → is_routable home.0 ≡ true
    by None is e = absurd cc
    by (Some s) is e = subst (λ (n : ℕ). is_routable n ≡ true) (find_key home.0 k.homes s is) (all-find IsRoutable key_of home.0 k.homes s all is)
