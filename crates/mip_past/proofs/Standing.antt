-- Where a mobile stands follows from the address that it uses, since nobody is away at home.
use Rattle.std.proofs.Common.{◌≡◌, ℕ, Bool, refl, ap, subst}
use Rattle.std.specs.Prelude.{Option, if◌then◌else◌}
use Rattle.std.proofs.lemmas.Bool.{eq-eqb, ne_eqb}
use Rattle.mip_words.specs.declared.address.Address.{Address}
use Rattle.mip_rules_mobile.specs.Answering.{IsApart}
use Rattle.mip_rules_mobile.specs.declared.attachment.Attachment.{Attachment}
use Rattle.mip_rules_mobile.specs.declared.attachment.Attachment.TheVariants.{Detached, AtHome, Away}
use Rattle.mip_rules_mobile.proofs.Shielding.{past-home}
use Rattle.mip_rules_mobile.proofs.Sources.{past-elsewhere}
use Rattle.mip_history.specs.Setup.{Setup}
use Rattle.mip_history.specs.Runs.{Run, mobile_past_at}
use Rattle.mip_history.specs.Knowing.{secrets_in, mobile_known_in}
use Rattle.mip_history.specs.Found.{address_of}
use Rattle.mip_past.specs.Asking.{standing_by}

stands : (own : Address) (st : Attachment) → IsApart st own → standing_by own (address_of own st) ≡ st
stands own Detached apart = refl
stands own AtHome apart = ap (λ (b : Bool). if b then AtHome else Away own) (eq-eqb own.0 own.0 refl)
stands own (Away careof) apart = ap (λ (b : Bool). if b then AtHome else Away careof) (ne_eqb careof.0 own.0 apart)

pub standing_is : (s : Setup) (run : Run) (n : ℕ) (own : Address) (agent : Option Address)
    → standing_by own (address_of own (mobile_known_in s run n own agent).standing) ≡ (mobile_known_in s run n own agent).standing
standing_is s run n own agent =
    stands own (mobile_known_in s run n own agent).standing
    (subst (λ (h : Address). IsApart (mobile_known_in s run n own agent).standing h) (past-home own agent s.numbers (secrets_in s n 0) (mobile_past_at run n))
    (past-elsewhere own agent s.numbers (secrets_in s n 0) (mobile_past_at run n)))
