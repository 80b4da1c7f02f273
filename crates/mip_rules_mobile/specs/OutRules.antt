-- How a mobile sends from its home address, and what becomes of the answers of its correspondent part.
-- RFC 6275 sections 11.3.1 and 11.3.2
use Rattle.std.specs.Prelude.{ℕ, List, [], ◌∷◌, Option, Some, None}
use Rattle.mip_words.specs.declared.address.Address.{Address}
use Rattle.mip_words.specs.declared.why.Why.TheVariants as whys
use Rattle.mip_entries.specs.declared.answer.Answer.{Answer}
use Rattle.mip_entries.specs.declared.answer.Answer.TheVariants.{Send, Note}
use Rattle.mip_reception.specs.declared.reply.Reply.{Reply}
use Rattle.mip_reception.specs.Replies.{reply_packet}
use Rattle.mip_rules_correspondent.specs.Calls as parts
use Rattle.mip_rules_correspondent.specs.Steps as part_steps
use Rattle.mip_rules_correspondent.specs.Seen.{transition_at}
use Rattle.mip_rules_mobile.specs.declared.attachment.Attachment.{Attachment}
use Rattle.mip_rules_mobile.specs.declared.attachment.Attachment.TheVariants.{Detached, AtHome, Away}
use Rattle.mip_rules_mobile.specs.Sendings.{Inner, OfPart, FromHome, ByTunnel}
use Rattle.mip_rules_mobile.specs.Steps.{Parts, Notes, Sends, Unsends}
use Rattle.mip_rules_mobile.specs.HomeQuestions.{home_of, registered_agent}
use Rattle.mip_rules_mobile.specs.Transitions.{Transition, noted}

-- away: through the tunnel to the agent of the registration; not while unregistered
abbrev pub tunnels : Address → Inner → Option Address → Transition → Transition
tunnels careof inner None t = noted (Unsends whys.Unregistered) t
tunnels careof inner (Some agent) t = noted (Sends (ByTunnel (home_of t.known) careof agent inner)) t

abbrev pub goes_from : Attachment → Inner → Transition → Transition
goes_from Detached inner t = noted (Unsends whys.Detached) t
goes_from AtHome inner t = noted (Sends (FromHome (home_of t.known) inner)) t
goes_from (Away careof) inner t = tunnels careof inner (registered_agent t.known t.now) t

-- a packet from the home address
unfoldable pub goes_out : Inner → Transition → Transition
goes_out inner t = goes_from t.known.standing inner t

-- the correspondent part sends from the home address; its entries are the mobile's
abbrev pub passes_on : Answer → Transition → Transition
passes_on (Send shield packet) t = goes_out (OfPart packet) t
passes_on (Note entry) t = noted (Notes entry) t

unfoldable pub passes_all : List Answer → Transition → Transition
passes_all [] t = t
passes_all (a ∷ answers) t = passes_all answers (passes_on a t)

-- what the correspondent part answers
abbrev pub part_answers : Transition → parts.Call → List Answer
part_answers t call = part_steps.answers_of (transition_at t.known.part t.now call).steps

-- the correspondent part is called
unfoldable pub asks_part : parts.Call → Transition → Transition
asks_part call t = passes_all (part_answers t call) (noted (Parts call) t)

-- what goes back to the source of a refused packet
abbrev pub goes_back : Option (List ℕ) → Transition → Transition
goes_back None t = t
goes_back (Some packet) t = goes_out (OfPart packet) t

unfoldable pub replies : (source : Address) (packet : List ℕ) → Reply → Transition → Transition
replies source packet reply t = goes_back (reply_packet (home_of t.known) source packet reply) t
