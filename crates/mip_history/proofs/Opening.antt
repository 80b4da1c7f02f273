-- Before the first event nodes hold their addresses, and nothing else is said.
use Rattle.std.proofs.Common.{◌≡◌, ℕ, zero, suc, List, [], ◌∷◌, ◌++◌, Bool, true, false, length, refl, sym, ◌∙◌, subst}
use Rattle.std.specs.Prelude.{map, slice_index_or, if◌then◌else◌}
use Rattle.std.specs.List.{list_any}
use Rattle.std.proofs.lemmas.List.{length-map}
use Rattle.std.proofs.lemmas.List.Folds.{list_any-append}
use Rattle.std.proofs.lemmas.Bool.{or_from}
use Rattle.mip_words.specs.declared.address.Address.{Address}
use Rattle.mip_words.specs.declared.ids.LinkId.{LinkId}
use Rattle.mip_entries.specs.declared.entry.Entry.{Entry}
use Rattle.mip_entries.specs.declared.entry.Entry.TheVariants as entries
use Rattle.mip_entries.specs.Stamped.{Stamped}
use Rattle.mip_rules_correspondent.specs.Steps.{Step}
use Rattle.mip_rules_correspondent.specs.Pasts.{accepted_in}
use Rattle.mip_rules_agent.specs.Steps as agents
use Rattle.mip_rules_mobile.specs.Steps as mobiles
use Rattle.mip_rules_mobile.specs.PartLaws.{part_life}
use Rattle.mip_history.specs.Setup.{Setup, Host}
use Rattle.mip_history.specs.Runs.{Run}
use Rattle.mip_history.specs.Knowing.{secrets_in}
use Rattle.mip_history.specs.Permitted.{is_first_agent, anycast_at, claimed_entry, claims_of, claims_from, opening_claims, opened}
use Rattle.mip_history.specs.Bound.{accepted_by}
use Rattle.mip_history.proofs.Quiet.{is_told}
use Rattle.mip_history.proofs.Runs.{IsPast, IsPart, IsRun, IsQuiet, quiet_notes}

-- another entry than a claim
abbrev pub is_other : Entry → Bool
is_other (entries.Claimed who link address) = false
is_other _ = true

-- what is so of no claim is so of no opening claim
module _ (p : Entry → Bool) (none : (who : ℕ) (link : LinkId) (address : Address) → p (entries.Claimed who link address) ≡ false) where
  host_none : (links : List ℕ) (before : List Host) (host : Host) → list_any p (claims_of links before host) ≡ false
  host_none links before host = by (is_first_agent links before host.address host.kind)
    where
      by : (b : Bool) → list_any p (claimed_entry links (length before) host.address ∷ (if b then claimed_entry links (length before) (anycast_at host.address) ∷ [] else [])) ≡ false
      by true = or_from (p _) _ (none _ _ _) (or_from (p _) false (none _ _ _) refl)
      by false = or_from (p _) false (none _ _ _) refl

  pub claims_none : (links : List ℕ) (before hosts : List Host) → list_any p (claims_from links before hosts) ≡ false
  claims_none links before [] = refl
  claims_none links before (host ∷ hosts) =
      list_any-append p (claims_of links before host) (claims_from links (before ++ host ∷ []) hosts)
      ∙ or_from (list_any p (claims_of links before host)) (list_any p (claims_from links (before ++ host ∷ []) hosts))
      (host_none links before host) (claims_none links (before ++ host ∷ []) hosts)

-- before these claims nothing has happened
no_past : (hosts : List Host) (n : ℕ) → slice_index_or (map (λ (host : Host). let l : List (Stamped Step) = [] in l) hosts) n [] ≡ []
no_past [] n = refl
no_past (host ∷ hosts) zero = refl
no_past (host ∷ hosts) (suc n) = no_past hosts n

pub no_mobile_past : (hosts : List Host) (n : ℕ) → slice_index_or (map (λ (host : Host). let l : List (Stamped mobiles.Step) = [] in l) hosts) n [] ≡ []
no_mobile_past [] n = refl
no_mobile_past (host ∷ hosts) zero = refl
no_mobile_past (host ∷ hosts) (suc n) = no_mobile_past hosts n

abbrev pub nothing : Setup → Run
nothing s = record {
  past = [];
  pasts = map (λ host. []) s.hosts;
  agent_pasts = map (λ host. []) s.hosts;
  mobile_pasts = map (λ host. []) s.hosts;
  posts = [];
  flying = [];
}

pub nothing_is : (s : Setup) → IsRun s (nothing s)
unfolding accepted_in accepted_by part_life
nothing_is s = record {
  nodes = length-map s.hosts (λ (host : Host). let l : List (Stamped Step) = [] in l);
  agents = length-map s.hosts (λ (host : Host). let l : List (Stamped agents.Step) = [] in l);
  mobiles = length-map s.hosts (λ (host : Host). let l : List (Stamped mobiles.Step) = [] in l);
  kept = tt;
  pasts = λ n mine. subst (λ (l : List (Stamped Step)). IsPast s [] l n) (sym (no_past s.hosts n)) (record { accepted = refl; rises = tt; early = tt });
  parts = λ n home agent host.
      subst (λ (l : List (Stamped mobiles.Step)). IsPart s [] (part_life home s.numbers (secrets_in s n 0) l) n) (sym (no_mobile_past s.hosts n))
      (record { secrets = refl; past = record { accepted = refl; rises = tt; early = tt } });
}

pub quiet_opened : (s : Setup) → IsQuiet s (nothing s) (opened s)
quiet_opened s = quiet_notes s (opening_claims s) (nothing s) (claims_none is_told (λ who link address. refl) s.links [] s.hosts)
