-- What a correspondent keeps of what bytes ask, and what it holds for a home.
use Rattle.std.proofs.Common.{◌≡◌, ℕ, List, refl, sym, ap, ◌∙◌, subst}
use Rattle.std.specs.Prelude.{Option, Some, None, Result, Ok, Err}
use Rattle.mip_words.specs.declared.address.Address.{Address}
use Rattle.mip_ipv6.specs.declared.not_packet.NotPacket.{NotPacket}
use Rattle.mip_ipv6.specs.Packet.{Packet}
use Rattle.mip_binding.specs.Acceptance.{Acceptance}
use Rattle.mip_binding.specs.Held.{held}
use Rattle.mip_bcache.specs.Seen.{CacheSeen}
use Rattle.mip_rules_correspondent.specs.Questions.{held_of}
use Rattle.mip_rules_correspondent.proofs.Acceptances.{held-answers}
use Rattle.mip_history.specs.Setup.{Setup}
use Rattle.mip_history.specs.SetupLaws.{is_correspondent_host}
use Rattle.mip_history.specs.Runs.{Run, past_at}
use Rattle.mip_history.specs.RunsLaws.{IsRun}
use Rattle.mip_history.specs.Knowing.{now_in}
use Rattle.mip_history.specs.Bound.{accepted_by}
use Rattle.mip_afresh_rules.specs.declared.kept.Kept.{Kept}
use Rattle.mip_afresh_rules.specs.declared.subject.Subject.{Subject}
use Rattle.mip_afresh_rules.specs.Keeping.{IsKept, IsKeptFor, subject_in}
use Rattle.mip_afresh_bindings.specs.Homes.{address_seen}
use Rattle.mip_afresh_bindings.specs.Keeping.{kept_among}
use Rattle.mip_afresh_bindings.proofs.KeptLaws.{run_kept}
use Rattle.mip_afresh_nodes.specs.declared.member.Member.{Member}
use Rattle.mip_afresh_nodes.specs.Members.{IsMember, known_to}

-- by what it accepted
pub member_kept : (s : Setup) (run : Run) (m : Member) (subject : Subject) (numbers now : ℕ) (xs : List Acceptance) (kept : Kept) → IsRun s run → IsMember s m
    → numbers ≡ s.numbers → now ≡ now_in s run → xs ≡ accepted_by s.start run.past m.node.0 → kept ≡ kept_among m.room numbers xs now subject
    → IsKept kept (known_to s run m).cache (now_in s run) subject.source subject.home
member_kept s run m subject numbers now xs kept is host many late took e =
    subst (λ (k : Kept). IsKept k (known_to s run m).cache (now_in s run) subject.source subject.home)
    (sym (e ∙ ap (λ (n : ℕ). kept_among m.room n xs now subject) many
    ∙ ap (λ (l : List Acceptance). kept_among m.room s.numbers l now subject) took
    ∙ ap (λ (n : ℕ). kept_among m.room s.numbers (accepted_by s.start run.past m.node.0) n subject) late))
    (run_kept s run m.node.0 m.own m.room subject is host)

-- bytes ask of their packet
pub kept_some : (kept : Kept) (cache : CacheSeen) (now : ℕ) (subject : Subject) (r : Result Packet NotPacket) → Some subject ≡ subject_in r
    → IsKept kept cache now subject.source subject.home → IsKeptFor kept cache now r
kept_some kept cache now subject (Ok p) e is =
    let same : subject ≡ record { source = p.head.source; home = p.head.home } = cc in
    subst (λ (x : Subject). IsKept kept cache now x.source x.home) same is
kept_some kept cache now subject (Err fault) e is = tt

pub kept_none : (kept : Kept) (cache : CacheSeen) (now : ℕ) (r : Result Packet NotPacket) → ◌≡◌ {A = Option Subject} None (subject_in r) → IsKeptFor kept cache now r
kept_none kept cache now (Ok p) e = absurd cc
kept_none kept cache now (Err fault) e = tt

-- an address is the one that has its number
pub same_address : (o p : Option Address) → address_seen o ≡ address_seen p → o ≡ p
same_address None None e = refl
same_address None (Some p) e = absurd cc
same_address (Some o) None e = absurd cc
same_address (Some o) (Some p) e =
    let number : o.0 ≡ p.0 = cc in
    ap (λ (n : ℕ). let x : Address = record { 0 = n } in Some x) number

pub member_holds : (s : Setup) (run : Run) (m : Member) (home : Address) (now : ℕ) (xs : List Acceptance) (o : Option Address) → IsRun s run → IsMember s m
    → now ≡ now_in s run → xs ≡ accepted_by s.start run.past m.node.0 → address_seen o ≡ held xs home.0 now → o ≡ held_of (known_to s run m) (now_in s run) home
member_holds s run m home now xs o is host late took e =
    let p = is.pasts m.node.0 (ap is_correspondent_host host) in
    same_address o (held_of (known_to s run m) (now_in s run) home)
    (e
    ∙ ap (λ (l : List Acceptance). held l home.0 now) (took ∙ sym p.accepted)
    ∙ ap (held _ home.0) late
    ∙ sym (held-answers m.room s.numbers (past_at run m.node.0) p.rises (now_in s run) home p.early))
