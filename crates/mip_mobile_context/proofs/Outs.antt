-- Sending from the home address, by what the context knows.
use Rattle.std.proofs.Common.{◌≡◌, ℕ, List, [], ◌∷◌, ◌++◌, refl, sym, ap, ◌∙◌}
use Rattle.std.specs.Prelude.{Option, Some}
use Rattle.mip_words.specs.declared.address.Address.{Address}
use Rattle.mip_entries.specs.declared.answer.Answer.{Answer}
use Rattle.mip_reception.specs.declared.reply.Reply.{Reply}
use Rattle.mip_reception.specs.Replies.{reply_packet}
use Rattle.mip_rules_correspondent.specs.Calls as parts
use Rattle.mip_rules_correspondent.specs.Steps.{answers_of}
use Rattle.mip_rules_correspondent.specs.Seen.{transition_at}
use Rattle.mip_rules_mobile.specs.declared.attachment.Attachment.{Attachment}
use Rattle.mip_rules_mobile.specs.declared.attachment.Attachment.TheVariants.{AtHome}
use Rattle.mip_rules_mobile.specs.Sendings.{Inner, FromHome, ByTunnel}
use Rattle.mip_rules_mobile.specs.Steps.{Sends, Parts}
use Rattle.mip_rules_mobile.specs.Known.{Known}
use Rattle.mip_rules_mobile.specs.HomeQuestions.{home_of, registered_agent}
use Rattle.mip_rules_mobile.specs.OutRules.{tunnels, goes_from, goes_out, passes_on, passes_all, asks_part, goes_back, replies}
use Rattle.mip_rules_mobile.specs.Transitions.{Transition, noted}

pub tunnels-by : (careof : Address) (inner : Inner) (t : Transition) (k : Known) (now : ℕ) (o : Option Address) → t.known ≡ k → t.now ≡ now → registered_agent k now ≡ o
    → tunnels careof inner o t ≡ tunnels careof inner (registered_agent t.known t.now) t
tunnels-by careof inner t k now o known moment agent =
    ap (λ (x : Option Address). tunnels careof inner x t)
    (sym agent ∙ ap (λ (l : Known). registered_agent l now) (sym known) ∙ ap (λ (n : ℕ). registered_agent t.known n) (sym moment))

pub tunnels-some : (careof agent : Address) (inner : Inner) (t : Transition) (k : Known) (now : ℕ) → t.known ≡ k → t.now ≡ now → registered_agent k now ≡ Some agent
    → noted (Sends (ByTunnel (home_of k) careof agent inner)) t ≡ tunnels careof inner (registered_agent t.known t.now) t
tunnels-some careof agent inner t k now known moment is =
    ap (λ (l : Known). noted (Sends (ByTunnel (home_of l) careof agent inner)) t) (sym known) ∙ tunnels-by careof inner t k now (Some agent) known moment is

pub goes-by : (inner : Inner) (t : Transition) (k : Known) (s : Attachment) → t.known ≡ k → k.standing ≡ s → goes_from s inner t ≡ goes_out inner t
unfolding goes_out
goes-by inner t k s known standing = ap (λ (x : Attachment). goes_from x inner t) (sym standing ∙ ap (λ (l : Known). l.standing) (sym known))

pub goes-home : (inner : Inner) (t : Transition) (k : Known) → t.known ≡ k → k.standing ≡ AtHome → noted (Sends (FromHome (home_of k) inner)) t ≡ goes_out inner t
goes-home inner t k known standing =
    ap (λ (l : Known). noted (Sends (FromHome (home_of l) inner)) t) (sym known) ∙ goes-by inner t k AtHome known standing

-- an answer more
pub passes-push : (answers : List Answer) (a : Answer) (t : Transition) → passes_all (answers ++ a ∷ []) t ≡ passes_on a (passes_all answers t)
unfolding passes_all
passes-push [] a t = refl
passes-push (x ∷ answers) a t = passes-push answers a (passes_on x t)

-- the answers of the correspondent part, by what the context knows
pub asks-by : (call : parts.Call) (t : Transition) (k : Known) (now : ℕ) (answers : List Answer) → t.known ≡ k → t.now ≡ now → answers ≡ answers_of (transition_at k.part now call).steps
    → passes_all answers (noted (Parts call) t) ≡ asks_part call t
unfolding asks_part
asks-by call t k now answers known moment is =
    ap (λ (l : List Answer). passes_all l (noted (Parts call) t))
    (is
    ∙ ap (λ (l : Known). answers_of (transition_at l.part now call).steps) (sym known)
    ∙ ap (λ (n : ℕ). answers_of (transition_at t.known.part n call).steps) (sym moment))

-- what goes back, by what the context knows
pub replies-by : (source : Address) (packet : List ℕ) (reply : Reply) (t : Transition) (k : Known) (o : Option (List ℕ)) → t.known ≡ k → o ≡ reply_packet (home_of k) source packet reply
    → goes_back o t ≡ replies source packet reply t
unfolding replies
replies-by source packet reply t k o known is =
    ap (λ (x : Option (List ℕ)). goes_back x t) (is ∙ ap (λ (l : Known). reply_packet (home_of l) source packet reply) (sym known))
