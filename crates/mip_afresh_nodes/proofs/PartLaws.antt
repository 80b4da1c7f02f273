-- What the correspondent part of a mobile keeps and shows, by what the mobile accepted in its present life.
use Rattle.std.proofs.Common.{◌≡◌, ℕ, ◌<◌, ◌≤◌, ◌^◌, List, [], ◌∷◌, length, refl, sym, ap, ◌∙◌, subst, get_or-set_same}
use Rattle.std.specs.Prelude.{Option, Some, None, map, option_map}
use Rattle.mip_words.specs.declared.address.Address.{Address}
use Rattle.mip_nonce.specs.Secrets.{Life}
use Rattle.mip_binding.specs.Acceptance.{Acceptance}
use Rattle.mip_binding.specs.Held.{held}
use Rattle.mip_bcache.specs.Seen.{CacheSeen}
use Rattle.mip_entries.specs.Stamped.{Stamped}
use Rattle.mip_rules_correspondent.specs.Seen.{CorrespondentSeen}
use Rattle.mip_rules_correspondent.specs.declared.known.Known.{Known}
use Rattle.mip_rules_correspondent.specs.Questions as part_questions
use Rattle.mip_rules_correspondent.specs.Questions.{held_of}
use Rattle.mip_rules_correspondent.proofs.Acceptances.{held-answers}
use Rattle.mip_rules_mobile.specs.Steps.{Step}
use Rattle.mip_rules_mobile.specs.Questions.{part_room}
use Rattle.mip_rules_mobile.specs.PartLaws.{PartLife, part_life}
use Rattle.mip_rules_mobile.proofs.PartLives.{part_is}
use Rattle.mip_history.specs.Setup.{Setup}
use Rattle.mip_history.specs.Runs.{Run, with_mobile_past}
use Rattle.mip_history.specs.RunsLaws.{IsRun, IsPast}
use Rattle.mip_history.specs.Knowing.{now_in, secrets_in}
use Rattle.mip_history.specs.Bound.{accepted_by}
use Rattle.mip_afresh_rules.specs.declared.subject.Subject.{Subject}
use Rattle.mip_afresh_rules.specs.Keeping.{IsKept}
use Rattle.mip_afresh_bindings.specs.declared.acceptance.Acceptance as found
use Rattle.mip_afresh_bindings.specs.Accepted.{acceptance_seen}
use Rattle.mip_afresh_bindings.specs.Homes.{address_seen}
use Rattle.mip_afresh_bindings.specs.Keeping.{kept_among}
use Rattle.mip_afresh_bindings.proofs.KeptLaws.{kept_known}
use Rattle.mip_afresh_mobile.specs.Nodes as of_mobile
use Rattle.mip_afresh_mobile.specs.Nodes.{NodeSeen, AreAccepted}
use Rattle.mip_afresh.specs.Roles.{IsMobile}
use Rattle.mip_afresh_nodes.proofs.KeepingLaws.{same_address}

module _ (s : Setup) (run : Run) (n : ℕ) (m : NodeSeen) (is : IsMobile s n m) (inside : n < length run.mobile_pasts) (r : IsRun s (with_mobile_past n m.past run)) (now : ℕ) (at : now ≡ now_in s run) where
  abbrev life : PartLife
  life = part_life m.home m.numbers m.secrets m.past

  -- what it did in its present life is what the history has of it
  lived : IsPast s run.past life.past n
  lived =
      subst (λ (k : ℕ). IsPast s run.past (part_life m.home k m.secrets m.past).past n) (sym is.numbers)
      (subst (λ (l : Life). IsPast s run.past (part_life m.home s.numbers l m.past).past n) (sym is.secrets)
      (subst (λ (p : List (Stamped Step)). IsPast s run.past (part_life m.home s.numbers (secrets_in s n 0) p).past n) (get_or-set_same run.mobile_pasts n m.past [] inside)
      (let part = r.parts n m.home m.declared is.host in part.past)))

  part_known : (of_mobile.known_to m).part.known ≡ part_questions.known part_room m.numbers life.past
  part_known = ap (λ (c : CorrespondentSeen). c.known) (part_is m.home m.declared m.numbers m.secrets m.past)

  pub part_accepted : (xs : List found.Acceptance) → map acceptance_seen xs ≡ accepted_by s.start run.past n → AreAccepted m.numbers now xs (of_mobile.known_to m).part.known.cache
  part_accepted xs took source home =
      let subject : Subject = record { source = source; home = home } in
      subst (λ (k : Known). IsKept (kept_among part_room m.numbers (map acceptance_seen xs) now subject) k.cache now source home) (sym part_known)
      (subst (λ (t : ℕ). IsKept (kept_among part_room m.numbers (map acceptance_seen xs) t subject) (part_questions.known part_room m.numbers life.past).cache t source home) (sym at)
      (subst (λ (l : List Acceptance). IsKept (kept_among part_room m.numbers l (now_in s run) subject) (part_questions.known part_room m.numbers life.past).cache (now_in s run) source home) (let p = lived in p.accepted ∙ sym took)
      (let p = lived in kept_known part_room m.numbers life.past (now_in s run) subject p.rises p.early)))

  pub part_holds : (home : Address) (o : Option Address) → address_seen o ≡ held (accepted_by s.start run.past n) home.0 (now_in s run) → o ≡ held_of (of_mobile.known_to m).part.known now home
  part_holds home o e =
      let p = lived in
      same_address o (held_of (part_questions.known part_room m.numbers life.past) (now_in s run) home)
      (e ∙ ap (λ (l : List Acceptance). held l home.0 (now_in s run)) (sym p.accepted) ∙ sym (held-answers part_room m.numbers life.past p.rises (now_in s run) home p.early))
      ∙ ap (λ (t : ℕ). held_of (part_questions.known part_room m.numbers life.past) t home) (sym at)
      ∙ ap (λ (k : Known). held_of k now home) (sym part_known)
