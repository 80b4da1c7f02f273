-- What a call of the correspondent part leaves of a context.
use Rattle.std.proofs.Common.{◌≡◌, ◌≤◌, sym, ap, ◌∙◌, subst, true}
use Rattle.mip_words.specs.Addresses.{is_routable}
use Rattle.mip_words.specs.declared.address.Address.{Address}
use Rattle.mip_rules_correspondent.specs.declared.identity.Identity.{Identity}
use Rattle.mip_rules_correspondent.specs.Seen.{CorrespondentSeen}
use Rattle.mip_mobile_context.specs.Seen.{ContextSeen, IsSound}

pub part-sound : (d : ContextSeen) (address : Address) (p : CorrespondentSeen) → IsSound d address → p.identity ≡ d.known.part.identity → p.known.last.0 ≤ d.moment
    → IsSound (record d { known = record d.known { part = p } }) address
part-sound d address p sound same later = record {
  own = sound.own ∙ sym (ap (λ (i : Identity). i.own) same);
  early = sound.early;
  later = later;
  home = subst (λ (i : Identity). is_routable i.own.0 ≡ true) (sym same) sound.home;
  mine = sound.mine;
  sent = sound.sent;
  registered = sound.registered;
}
