-- An update is judged by what the transition leaves of its home, and what is accepted fits into the cache.
use Rattle.std.proofs.Common.{◌≡◌, ℕ, ◌<◌, List, true, false, sym, ap, ◌∙◌, subst}
use Rattle.std.specs.Prelude.{Option}
use Rattle.mip_words.specs.Addresses.{is_routable}
use Rattle.mip_words.specs.declared.address.Address.{Address}
use Rattle.mip_nonce.specs.Secrets.{Life}
use Rattle.mip_entries.specs.declared.answer.Answer.{Answer}
use Rattle.mip_bcache.specs.Seen.{CacheSeen, has_no_room}
use Rattle.mip_rules_correspondent.specs.declared.identity.Identity.{Identity}
use Rattle.mip_rules_correspondent.specs.declared.known.Known.{Known}
use Rattle.mip_reception.specs.declared.registration.Registration.{Registration}
use Rattle.mip_rules_correspondent.specs.declared.verdict.Verdict.{Verdict}
use Rattle.mip_rules_correspondent.specs.declared.verdict.Verdict.TheVariants.{Refuse, Deny, Accept}
use Rattle.mip_rules_correspondent.specs.Rules.{bench}
use Rattle.mip_rules_correspondent.specs.Transitions.{Transition}
use Rattle.mip_rules_correspondent.specs.Verdicts.{verdict}
use Rattle.mip_verdict.specs.Benches.{bench_at}
use Rattle.mip_rules_correspondent.proofs.VerdictLaws.{sound, number_among_them, number_at_home}
use Rattle.mip_correspondent.specs.declared.accepted_binding.AcceptedBinding.{AcceptedBinding}
use Rattle.mip_correspondent.specs.Showing.{left, Shows, kept_of, Fits}
use Rattle.mip_correspondent.proofs.ShowingLaws.{shows-now, shows-known}

pub bench-shown : (me : Identity) (r : Registration) (now : ℕ) (cache : CacheSeen) (answers : List Answer) (t : Transition) → Shows now cache answers t → bench me t.known t.now r ≡ bench_at me.own me.secrets now cache r
bench-shown me r now cache answers t s =
    ap (λ (k : Known). bench me k t.now r) (shows-known now cache answers t s)
    ∙ ap (λ (n : ℕ). bench me (left now cache) n r) (shows-now now cache answers t s)

pub kept-fits : (own : Address) (secrets : Life) (now : ℕ) (cache : CacheSeen) (r : Registration) (message : List ℕ) (v : Verdict) (kept : Option AcceptedBinding) → v ≡ verdict (bench_at own secrets now cache r) r message → kept ≡ kept_of v → Fits now cache kept
kept-fits own secrets now cache r message (Refuse why) kept is e = subst (Fits now cache) (sym e) tt
kept-fits own secrets now cache r message (Deny status last kbm) kept is e = subst (Fits now cache) (sym e) tt
kept-fits own secrets now cache r message (Accept home number accepted granted kbm) kept is e =
    let s = sound (bench_at own secrets now cache r) r message home number accepted granted kbm (sym is) in
    subst (Fits now cache) (sym e) (record {
      room = subst (λ (h : Address). has_no_room cache h.0 now ≡ false) (sym s.of_home) s.room;
      routable = subst (λ (h : Address). is_routable h.0 ≡ true) (sym s.of_home) s.genuine.home_routable;
      number = λ some. subst (λ (n : ℕ). n < cache.numbers) (sym s.of_number) (number_among_them cache.numbers r (λ none. some (s.of_number ∙ none)));
      deletion = λ home_is. s.of_number ∙ number_at_home cache.numbers r (ap (λ (a : Address). a.0) (sym s.of_careof) ∙ home_is ∙ ap (λ (a : Address). a.0) s.of_home);
    })
