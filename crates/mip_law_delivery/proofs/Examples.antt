-- What the laws of a run ask can be met: two correspondents on one link, before anything happened.
use Rattle.std.proofs.Common.{◌≡◌, ◌≢◌, ℕ, zero, suc, ◌<◌, ◌^◌, List, [], ◌∷◌, Bool, true, false, inl, refl, ap, ◌∙◌, subst, arith}
use Rattle.std.specs.Prelude.{◌/◌, ◌%◌, Some, is_some, ◌||◌, slice_get}
use Rattle.std.specs.List.{list_any, list_all}
use Rattle.std.proofs.lemmas.Bool.{and_parts}
use Rattle.mip_words.specs.Addresses.{is_routable}
use Rattle.mip_words.specs.declared.address.Address.{Address}
use Rattle.mip_binding.specs.Held.{held}
use Rattle.mip_entries.specs.declared.entry.Entry.{Entry}
use Rattle.mip_entries.specs.declared.entry.Entry.TheVariants as entries
use Rattle.mip_links.specs.Table.{link_of}
use Rattle.mip_rules_agent.specs.Rules.{anycast_of}
use Rattle.mip_history.specs.Setup.{Setup, Host}
use Rattle.mip_history.specs.Setup.Kind.{Correspondent, Agent}
use Rattle.mip_history.specs.Runs.{Run}
use Rattle.mip_history.specs.Bound.{accepted_by}
use Rattle.mip_history.specs.Registered.{is_agent_host}
use Rattle.mip_history.specs.Settled.{any_below, any_node, is_settled}
use Rattle.mip_history.specs.Permitted.{run_of}
use Rattle.mip_law_delivery.specs.Orderly.{IsOrderly}
use Rattle.mip_law_delivery.specs.Quiet.{Circle, is_loud, circle_of, IsQuiet}
use Rattle.mip_law_delivery.specs.Reached.{sending, is_heard, IsPayload, AreSettledEnds}
use Rattle.mip_law_delivery.specs.ReachedLaws.{SendsStraight}
use Rattle.mip_law_delivery.proofs.Leaving.{correspondent_leaves}

abbrev pub own : Address
own = record { 0 = 18446744073709551626 }

abbrev pub to : Address
to = record { 0 = 18446744073709551627 }

abbrev pub host : Address → Host
host a = record { address = a; kind = Correspondent 4 }

abbrev pub s : Setup
s = record { seed = []; start = 0; links = 1 ∷ []; hosts = host own ∷ host to ∷ []; outsiders = 0; numbers = 1 }

abbrev pub run : Run
run = run_of s []

-- what both nodes have, each has
each : (P : Host → Type 0) → P (host own) → P (host to) → (n : ℕ) (h : Host) → slice_get s.hosts n ≡ Some h → P h
each P p q zero h is = subst P (let e : host own ≡ h = cc in e) p
each P p q (suc zero) h is = subst P (let e : host to ≡ h = cc in e) q
each P p q (suc (suc n)) h is = absurd cc

prefixes : (l prefix : ℕ) → slice_get s.links l ≡ Some prefix → prefix < 2 ^ 64
prefixes zero prefix is = let e : 1 ≡ prefix = cc in omega (arith, e)
prefixes (suc l) prefix is = absurd cc

differ : (m n : ℕ) (a b : Host) → slice_get s.hosts m ≡ Some a → slice_get s.hosts n ≡ Some b → a.address.0 ≡ b.address.0 → m ≡ n
differ zero zero a b p q same = refl
differ (suc zero) (suc zero) a b p q same = refl
differ zero (suc zero) a b p q same =
    absurd (let e : host own ≡ a = cc in let f : host to ≡ b = cc in omega (arith, ap (λ (h : Host). h.address.0) e, ap (λ (h : Host). h.address.0) f, same))
differ (suc zero) zero a b p q same =
    absurd (let e : host to ≡ a = cc in let f : host own ≡ b = cc in omega (arith, ap (λ (h : Host). h.address.0) e, ap (λ (h : Host). h.address.0) f, same))
differ (suc (suc m)) n a b p q same = absurd cc
differ m (suc (suc n)) a b p q same = absurd cc

-- both addresses are of one prefix, and lie before its home-agents anycast address
abbrev IsOne : Host → Type 0
IsOne h = (h.address.0 / 2 ^ 64 ≡ 1) × (h.address.0 % 2 ^ 64 < 12)

unlike : (a b : Host) → IsOne a → IsOne b → a.address.0 ≢ anycast_of b.address
unlike a b p q same = omega (arith, p.1, same)

-- neither node is an agent
not_agent : (n : ℕ) (a : Address) (preference life room : ℕ) (serves : List Address) → slice_get s.hosts n ≡ Some (record { address = a; kind = Agent preference life room serves }) → ⊥
not_agent zero a preference life room serves is = let both : false ≡ true = ap is_agent_host is in cc
not_agent (suc zero) a preference life room serves is = let both : false ≡ true = ap is_agent_host is in cc
not_agent (suc (suc n)) a preference life room serves is = let both : false ≡ true = ap is_agent_host is in cc

pub orderly : IsOrderly s
orderly = record {
  few = omega arith;
  prefixes = prefixes;
  routable = each (λ h. is_routable h.address.0 ≡ true) refl refl;
  linked = each (λ h. is_some (link_of s.links h.address.0) ≡ true) refl refl;
  differ = differ;
  unlike = λ m n a b p q. unlike a b (each IsOne (refl, omega arith) (refl, omega arith) m a p) (each IsOne (refl, omega arith) (refl, omega arith) n b q);
  unserved = λ n a preference life room serves is. absurd (not_agent n a preference life room serves is);
}

pub settled : is_settled 0 run.past 0 1 ≡ true
unfolding is_settled any_node any_below held accepted_by
settled = refl

pub ends : AreSettledEnds s run 0 1 own to
ends = record { sender = refl; receiver = refl; source = refl; destination = refl; settled = settled }

pub payload : IsPayload 17 []
payload = record { of_data = refl; body = refl; short = omega arith }

pub straight : SendsStraight s run 0 own to
straight = inl refl

-- who hears a packet is nobody's concern
heard_quiet : (c : Circle) (es : List Entry) → list_all is_heard es ≡ true → list_any (is_loud c) es ≡ false
heard_quiet c [] all = refl
heard_quiet c (e ∷ es) all =
    let parts = and_parts (is_heard e) (list_all is_heard es) all in ap (λ (b : Bool). b || list_any (is_loud c) es) (at e parts.0) ∙ heard_quiet c es parts.1
  where
    at : (e : Entry) → is_heard e ≡ true → is_loud c e ≡ false
    at (entries.Heard number outsider) is = refl
    at _ is = absurd cc

pub quiet : IsQuiet s run (sending 0 to 17 [] ∷ []) 0 1
quiet =
    let one = correspondent_leaves s run 0 own to 17 [] 4 refl in
    record {
      settled = settled;
      silent = ap (list_any (is_loud (circle_of run.past 0 1))) one.is ∙ heard_quiet (circle_of run.past 0 1) one.rest one.heard;
      lasting = refl;
    }
