-- Data arrives by three packets at most.
use Rattle.std.proofs.Common.{◌≡◌, ℕ, zero, suc, ◌≤◌, List, sym, subst, arith}
use Rattle.mip_words.specs.declared.address.Address.{Address}
use Rattle.mip_schedule.specs.Contents.{Content}
use Rattle.mip_schedule.specs.declared.event.Event.{Event}
use Rattle.mip_history.specs.Setup.{Setup, setup_of}
use Rattle.mip_history.specs.Runs.{Run}
use Rattle.mip_law_delivery.specs.Orderly.{IsOrderly}
use Rattle.mip_law_delivery.specs.Answers.{IsAnswer, DescendsBy}
use Rattle.mip_law_delivery.specs.Reached.{IsHandedUp}
use Rattle.mip_law_delivery.proofs.Tunnelled.{each_reaches}
use Rattle.mip_law_security.specs.Chains.{IsOfThree, Itself, Answer, AnswerToAnswer, ComesOfThree, EachComesOfThree}

module _ (s : Setup) (run : Run) (events : List Event) where
  last_is : (first middle last : ℕ) → IsAnswer s run events first middle → last ≡ middle → IsAnswer s run events first last
  last_is first middle last answer same = subst (λ (j : ℕ). IsAnswer s run events first j) (sym same) answer

  chain_of : (answers first last : ℕ) → answers ≤ 2 → DescendsBy answers s run events first last → IsOfThree s run events first last
  chain_of zero first last few d = Itself d
  chain_of (suc zero) first last few d = Answer (last_is first d.0 last d.1 d.2)
  chain_of (suc (suc zero)) first last few d = AnswerToAnswer d.0 d.1 (last_is d.0 d.2.0 last d.2.1 d.2.2)
  chain_of (suc (suc (suc n))) first last few d = absurd (omega (arith, few))

  pub comes_of_three : (first y : ℕ) (source destination : Address) (proto : ℕ) (payload : List ℕ) → IsHandedUp s run events first y source destination proto payload
      → ComesOfThree s run events first y source destination proto payload
  comes_of_three first y source destination proto payload h = record { last = h.last; chain = chain_of h.answers first h.last h.few h.descends; handed_up = h.handed_up }

pub each_comes_of_three : (content : Content) (events : List Event) → IsOrderly (setup_of content) → EachComesOfThree (setup_of content) events
each_comes_of_three content events orderly = λ before more rest x y own to proto payload place sendable ends quiet all.
    comes_of_three (setup_of content) _ more _ y own to proto payload ((each_reaches content events orderly before more rest x y own to proto payload place sendable ends).arrives quiet all)
