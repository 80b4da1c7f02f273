-- What steady steps keep, sending from the home address keeps.
use Rattle.std.proofs.Common.{◌≡◌, ℕ, List, [], ◌∷◌, refl, sym, subst}
use Rattle.std.specs.Prelude.{Option, Some, None}
use Rattle.std.specs.List.{AllByRecursion}
use Rattle.mip_words.specs.declared.address.Address.{Address}
use Rattle.mip_words.specs.declared.why.Why.TheVariants as whys
use Rattle.mip_entries.specs.declared.answer.Answer.{Answer}
use Rattle.mip_entries.specs.declared.answer.Answer.TheVariants.{Send, Note}
use Rattle.mip_reception.specs.declared.reply.Reply.{Reply}
use Rattle.mip_reception.specs.Replies.{reply_packet}
use Rattle.mip_rules_correspondent.specs.declared.identity.Identity.{Identity}
use Rattle.mip_rules_correspondent.specs.Calls as parts
use Rattle.mip_rules_correspondent.specs.Sendings.{SendsReply}
use Rattle.mip_rules_mobile.specs.declared.attachment.Attachment.{Attachment}
use Rattle.mip_rules_mobile.specs.declared.attachment.Attachment.TheVariants.{Detached, AtHome, Away}
use Rattle.mip_rules_mobile.specs.Calls.{Call}
use Rattle.mip_rules_mobile.specs.Sendings.{Inner, OfPart, FromHome, ByTunnel}
use Rattle.mip_rules_mobile.specs.Steps.{Parts, Notes, Sends, Unsends}
use Rattle.mip_rules_mobile.specs.HomeQuestions.{home_of, registered_agent}
use Rattle.mip_rules_mobile.specs.Transitions.{Transition, noted}
use Rattle.mip_rules_mobile.specs.OutRules.{tunnels, goes_from, goes_out, passes_all, part_answers, asks_part, goes_back, replies}
use Rattle.mip_rules_mobile.specs.Fitting.{IsAsked, IsOfPart, IsInner}
use Rattle.mip_rules_mobile.proofs.Steady.{Goes, Askings, Notings, Stays, stays-asked, stays-told, staying, stays-here}
use Rattle.mip_rules_mobile.proofs.PartAnswers.{IsPartAnswer, part-answers}

module _ (c : Call) (P : Transition → Type 0) (more : Goes c P) where
  pub every-goes_out : (inner : Inner) (t : Transition) → IsInner c t.known.part.identity t.now inner → P t → P (goes_out inner t)
  unfolding goes_out
  every-goes_out inner t is p = by t.known.standing refl
    where
      away : (careof : Address) (agent : Option Address) → t.known.standing ≡ Away careof → P (tunnels careof inner agent t)
      away careof None here = more (Unsends whys.Unregistered) t refl refl p
      away careof (Some agent) here = more (Sends (ByTunnel (home_of t.known) careof agent inner)) t refl ((here, refl), is) p

      by : (s : Attachment) → t.known.standing ≡ s → P (goes_from s inner t)
      by Detached here = more (Unsends whys.Detached) t refl refl p
      by AtHome here = more (Sends (FromHome (home_of t.known) inner)) t refl ((here, refl), is) p
      by (Away careof) here = away careof (registered_agent t.known t.now) here

-- sending from the home address moves nothing
pub out-stays : (c : Call) (s : Attachment) (me : Identity) (now : ℕ) (inner : Inner) (t : Transition) → IsInner c t.known.part.identity t.now inner → Stays s me now t → Stays s me now (goes_out inner t)
out-stays c s me now inner t is stays = every-goes_out c (Stays s me now) (staying c s me now) inner t is stays

-- a packet of the part is one at the transition too
pub of-part : (c : Call) (s : Attachment) (me : Identity) (now : ℕ) (packet : List ℕ) (t : Transition) → Stays s me now t → IsOfPart c me now packet → IsOfPart c t.known.part.identity t.now packet
of-part c s me now packet t stays is =
    subst (λ (n : ℕ). IsOfPart c t.known.part.identity n packet) (sym stays.moment)
    (subst (λ (i : Identity). IsOfPart c i now packet) (sym stays.identity) is)

module _ (c : Call) (P : Transition → Type 0) (more : Goes c P) (asks : Askings P) (notes : Notings P) where
  every-passes : (s : Attachment) (me : Identity) (now : ℕ) (answers : List Answer) → AllByRecursion (IsPartAnswer c me now) answers → (t : Transition) → Stays s me now t → P t → P (passes_all answers t)
  unfolding passes_all
  every-passes s me now [] all t stays p = p
  every-passes s me now (Send shield packet ∷ answers) all t stays p =
      let is = of-part c s me now packet t stays all.0 in
      every-passes s me now answers all.1 (goes_out (OfPart packet) t) (out-stays c s me now (OfPart packet) t is stays)
      (every-goes_out c P more (OfPart packet) t is p)
  every-passes s me now (Note entry ∷ answers) all t stays p =
      every-passes s me now answers all.1 (noted (Notes entry) t) (stays-told s me now entry t stays)
      (notes entry t all.0 p)

  pub every-asks_part : (call : parts.Call) → IsAsked c call → (t : Transition) → P t → P (asks_part call t)
  unfolding asks_part
  every-asks_part call asked t p =
      every-passes t.known.standing t.known.part.identity t.now (part_answers t call)
      (part-answers c t.known.part.identity t.known.part.known t.now call asked) (noted (Parts call) t)
      (stays-asked t.known.standing t.known.part.identity t.now call t (stays-here t)) (asks call t p)

module _ (c : Call) (P : Transition → Type 0) (more : Goes c P) where
  pub every-replies : (source : Address) (bytes : List ℕ) (reply : Reply) (t : Transition) → P t → P (replies source bytes reply t)
  unfolding replies
  every-replies source bytes reply t p = by (reply_packet (home_of t.known) source bytes reply) refl
    where
      by : (o : Option (List ℕ)) → reply_packet (home_of t.known) source bytes reply ≡ o → P (goes_back o t)
      by None is = p
      by (Some packet) is = every-goes_out c P more (OfPart packet) t (record { call = parts.Tick; asked = tt; sending = SendsReply source bytes reply; is = is }) p
