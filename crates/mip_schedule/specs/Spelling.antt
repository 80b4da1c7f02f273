-- How a schedule is spelled.
use Rattle.std.specs.Prelude.{ℕ, List, [], ◌∷◌, ◌++◌, Bool, true, false, codes, decimal, map}
use Rattle.mip_words.specs.Hex.{hex_of}
use Rattle.mip_words.specs.declared.address.Address.{Address}
use Rattle.mip_words.specs.declared.ids.LinkId.{LinkId}
use Rattle.mip_words.specs.declared.moment.Moment.{Moment}
use Rattle.mip_words.specs.declared.token.Cookie.{Cookie}
use Rattle.mip_lines.specs.HexFields.{address_hex, number_hex, hex_text}
use Rattle.mip_lines.specs.Lines.{lines_text}
use Rattle.mip_schedule.specs.Contents.{Content}
use Rattle.mip_schedule.specs.Versions.{is_numbered}
use Rattle.mip_symbols.specs.Names.{name_bytes}
use Rattle.mip_symbols.specs.Spelled.{link_text, node_text, outsider_text, or_word, careof_text}
use Rattle.mip_symbols.specs.declared.declaration.Declaration.{Declaration}
use Rattle.mip_symbols.specs.declared.declaration.Declaration.TheVariants as declare
use Rattle.mip_schedule.specs.declared.event.Event.{Event}
use Rattle.mip_schedule.specs.declared.event.Event.TheVariants as events

-- the line of a declaration after these
abbrev pub declaration_text : List Declaration → Declaration → List (List ℕ)
declaration_text ds (declare.Link n p) = codes "link" ∷ name_bytes n ∷ number_hex 8 p.0 ∷ []
declaration_text ds (declare.Agent n l a p t r) = codes "agent" ∷ name_bytes n ∷ link_text ds l ∷ address_hex a ∷ decimal p ∷ decimal t ∷ decimal r ∷ []
declaration_text ds (declare.Correspondent n l a r) = codes "correspondent" ∷ name_bytes n ∷ link_text ds l ∷ address_hex a ∷ decimal r ∷ []
declaration_text ds (declare.Mobile n l a g) = codes "mobile" ∷ name_bytes n ∷ link_text ds l ∷ address_hex a ∷ or_word (codes "find") (node_text ds) g ∷ []
declaration_text ds (declare.Serve g m) = codes "serve" ∷ node_text ds g ∷ node_text ds m ∷ []
declaration_text ds (declare.Outsider n) = codes "outsider" ∷ name_bytes n ∷ []

-- the lines of declarations that stand after these
abbrev pub declaration_rows : List Declaration → List Declaration → List (List (List ℕ))
declaration_rows before [] = []
declaration_rows before (d ∷ ds) = declaration_text before d ∷ declaration_rows (before ++ d ∷ []) ds

-- the line of a home or care-of test init, by the word for which it is
abbrev pub probe_text : List Declaration → ℕ → LinkId → List ℕ → Address → Address → Cookie → List (List ℕ)
probe_text ds o l which source peer cookie = codes "probe" ∷ outsider_text ds o ∷ link_text ds l ∷ which ∷ address_hex source ∷ address_hex peer ∷ number_hex 8 cookie.0 ∷ []

-- the binding number of an update, in the line that names it
abbrev pub number_fields : Bool → ℕ → List (List ℕ)
number_fields true number = decimal number ∷ []
number_fields false number = []

-- the line of an event; updates name their binding numbers, or do not
abbrev pub event_text : Bool → List Declaration → Event → List (List ℕ)
event_text numbered ds (events.Wait a) = codes "wait" ∷ decimal a ∷ []
event_text numbered ds (events.Move a b) = codes "move" ∷ node_text ds a ∷ or_word (codes "-") (link_text ds) b ∷ []
event_text numbered ds (events.Advertise a) = codes "advertise" ∷ link_text ds a ∷ []
event_text numbered ds (events.Payload a b c d) = codes "data" ∷ node_text ds a ∷ address_hex b ∷ decimal c ∷ hex_text d ∷ []
event_text numbered ds (events.Inject a b c) = codes "inject" ∷ outsider_text ds a ∷ link_text ds b ∷ hex_text c ∷ []
event_text numbered ds (events.Probe a b c d e f) = probe_text ds a b (careof_text c) d e f
event_text numbered ds (events.Bind a b c d e f g h) = codes "bind" ∷ outsider_text ds a ∷ link_text ds b ∷ address_hex c.source ∷ address_hex c.peer ∷ address_hex c.home ∷ address_hex c.careof ∷ decimal d ∷ decimal e ∷ decimal f ∷ or_word (codes "-") decimal g ∷ number_fields numbered h
event_text numbered ds (events.Tell a b c d) = codes "tell" ∷ outsider_text ds a ∷ link_text ds b ∷ decimal c ∷ decimal d ∷ []
event_text numbered ds (events.Listen a b) = codes "listen" ∷ outsider_text ds a ∷ link_text ds b ∷ []
event_text numbered ds (events.Deaf a b) = codes "deaf" ∷ outsider_text ds a ∷ link_text ds b ∷ []
event_text numbered ds (events.Squat a b) = codes "squat" ∷ outsider_text ds a ∷ address_hex b ∷ []
event_text numbered ds (events.Yield a b) = codes "yield" ∷ outsider_text ds a ∷ address_hex b ∷ []
event_text numbered ds (events.Deliver a) = codes "deliver" ∷ decimal a ∷ []
event_text numbered ds (events.Repeat a) = codes "repeat" ∷ decimal a ∷ []
event_text numbered ds (events.Lose a) = codes "lose" ∷ decimal a ∷ []
event_text numbered ds (events.Carry a) = codes "carry" ∷ decimal a ∷ []
event_text numbered ds (events.Restart a) = codes "restart" ∷ node_text ds a ∷ []
event_text numbered ds (events.Refresh a b) = codes "refresh" ∷ node_text ds a ∷ address_hex b ∷ []
event_text numbered ds (events.Plan a b c) = codes "plan" ∷ node_text ds a ∷ decimal b ∷ decimal c ∷ []
event_text numbered ds (events.Ask a) = codes "ask" ∷ node_text ds a ∷ []
event_text numbered ds (events.Show a) = codes "show" ∷ node_text ds a ∷ []
event_text numbered ds (events.Settle a b) = codes "settle" ∷ node_text ds a ∷ node_text ds b ∷ []

abbrev pub head_rows : ℕ → List ℕ → Moment → List (List (List ℕ))
head_rows version seed start = (codes "mip" ∷ decimal version ∷ []) ∷ (codes "seed" ∷ hex_of seed ∷ []) ∷ (codes "start" ∷ decimal start.0 ∷ []) ∷ []

abbrev pub run_row : List (List ℕ)
run_row = codes "run" ∷ []

abbrev pub schedule_rows : Content → List (List (List ℕ))
schedule_rows s = head_rows s.version s.seed s.start ++ (declaration_rows [] s.declarations ++ (run_row ∷ map (event_text (is_numbered s.version) s.declarations) s.events))

-- the text of a schedule
unfoldable pub spelling : Content → List ℕ
spelling s = lines_text (schedule_rows s)
