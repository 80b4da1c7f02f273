-- Laws and invariants of Part: only proofs stand on them.
use Rattle.std.specs.Prelude.{◌≡◌, ℕ, List, [], ◌∷◌, fold, Bool, true, false, Option, option_map}
use Rattle.std.specs.List.{list_any}
use Rattle.mip_words.specs.declared.address.Address.{Address}
use Rattle.mip_words.specs.declared.shield.Shield.{Shield}
use Rattle.mip_ipv6.specs.Packet.{Packet}
use Rattle.mip_nonce.specs.Secrets.{Life}
use Rattle.mip_nonce.specs.Window.{index_of}
use Rattle.mip_rules_correspondent.specs.Cache.{Accepted}
use Rattle.mip_entries.specs.declared.entry.Entry.{Entry}
use Rattle.mip_entries.specs.declared.entry.Entry.TheVariants as entries
use Rattle.mip_entries.specs.Stamped.{Stamped}
use Rattle.mip_rules_correspondent.specs.Calls as parts
use Rattle.mip_rules_correspondent.specs.Steps as part_steps
use Rattle.mip_rules_correspondent.specs.StepsLaws as part_steps_laws
use Rattle.mip_rules_correspondent.specs.Transitions.{with_transition}
use Rattle.mip_rules_correspondent.specs.Questions as part_questions
use Rattle.mip_rules_correspondent.specs.Seen.{CorrespondentSeen, transition_at}
use Rattle.mip_rules_correspondent.specs.Taken.{IsUpdateParted}
use Rattle.mip_rules_mobile.specs.Calls.{Call, Take, Restart}
use Rattle.mip_rules_mobile.specs.Steps.{Step, Called, Parts, Notes, Restarts, myself}
use Rattle.mip_rules_mobile.specs.Known.{Known}
use Rattle.mip_rules_mobile.specs.Questions.{part_room}
use Rattle.mip_rules_mobile.specs.Coming.{Came}

-- the secrets that the part has since the mobile last restarted, and what it did since
pub record PartLife : Type 0 where
  pub secrets : Life
  pub past : List (Stamped part_steps.Step)

-- the correspondent that it is
abbrev pub part_of : Address → (numbers : ℕ) → PartLife → CorrespondentSeen
part_of home numbers p = record {
  identity = record { own = home; secrets = p.secrets; room = part_room };
  known = part_questions.known part_room numbers p.past;
}

-- a call of the part is a transition of it; a restart begins it anew
abbrev pub part_goes_on : Address → (numbers : ℕ) → PartLife → ℕ → Step → PartLife
part_goes_on home numbers p at (Parts call) = record { secrets = p.secrets; past = with_transition p.past (transition_at (part_of home numbers p) at call) }
part_goes_on home numbers p at (Restarts secrets) = record { secrets = secrets; past = [] }
part_goes_on home numbers p at _ = p

abbrev pub new_part : Life → PartLife
new_part secrets = record { secrets = secrets; past = [] }

-- the part of a mobile with this past
unfoldable pub part_life : Address → (numbers : ℕ) → Life → List (Stamped Step) → PartLife
part_life home numbers secrets past = fold (λ (p : PartLife) (s : Stamped Step). part_goes_on home numbers p s.at s.step) (new_part secrets) past

-- the entry of an update that the part accepted, as the mobile leaves it
abbrev pub accepted_note : ℕ → Address → ℕ → Accepted → Entry
accepted_note number home binding a =
    entries.Accepted myself number home binding a.careof a.sequence a.end (index_of a.home_nonce) (option_map index_of a.careof_nonce)

abbrev pub tells_of_acceptance : Entry → Bool
tells_of_acceptance (entries.Accepted node number home binding careof sequence end i j) = true
tells_of_acceptance _ = false

-- a step that is something to the part: it is called, it begins anew, or the mobile tells that it accepted an update
abbrev pub concerns_part : Step → Bool
concerns_part (Parts call) = true
concerns_part (Restarts secrets) = true
concerns_part (Notes entry) = tells_of_acceptance entry
concerns_part _ = false

-- the part accepts the update in the packet that was handed to the mobile in this call, or in one within its tunnel, which then
-- comes from its agent and under a shield; and the mobile tells so at once
pub record IsPartTaken (k : Known) (now : ℕ) (c : Call) (steps : List Step) : Type 0 where
  pub number : ℕ
  pub shield : Option Shield
  pub bytes : List ℕ
  pub call : c ≡ Take number shield bytes
  pub packet : Packet
  pub tunnelled : Bool
  pub came : Came k now tunnelled shield bytes packet
  pub taken : IsUpdateParted k.part.identity k.part.known now number packet (transition_at k.part now (parts.Part number packet)).steps
  pub rest : List Step
  pub steps_are : steps ≡ Called c ∷ Parts (parts.Part number packet) ∷ Notes (accepted_note number taken.home taken.binding taken.accepted) ∷ rest
  pub none : list_any concerns_part rest ≡ false

-- what a call of the mobile is to its part, unless it is a restart: nothing; a call of it, in which it accepts nothing; or one
-- in which it accepts an update
pub data IsPartTransition (k : Known) (now : ℕ) (c : Call) (steps : List Step) : Type 0 where
  Silent : list_any concerns_part steps ≡ false → IsPartTransition k now c steps
  Asked : (call : parts.Call) (rest : List Step) → steps ≡ Called c ∷ Parts call ∷ rest → list_any concerns_part rest ≡ false
      → list_any part_steps_laws.is_acceptance (transition_at k.part now call).steps ≡ false → IsPartTransition k now c steps
  Accepting : IsPartTaken k now c steps → IsPartTransition k now c steps

abbrev pub is_restart : Call → Bool
is_restart (Restart secrets) = true
is_restart _ = false

-- a restart begins the part anew, and then is nothing to it
pub record IsPartReborn (secrets : Life) (steps : List Step) : Type 0 where
  pub rest : List Step
  pub steps_are : steps ≡ Called (Restart secrets) ∷ Restarts secrets ∷ rest
  pub none : list_any concerns_part rest ≡ false
