-- The lines of a mobile that is led along to a place. RFC 6275 sections 11.1, 11.4.1, 11.6.2, 11.7.1 and 11.7.2
use Rattle.std.specs.Prelude.{ℕ, List, [], ◌∷◌, ◌++◌, Option, Some, None, is_some, slice_get, codes, decimal}
use Rattle.mip_words.specs.Hex.{hex_of}
use Rattle.mip_words.specs.declared.address.Address.{Address}
use Rattle.mip_words.specs.declared.moment.Moment.{Moment}
use Rattle.mip_words.specs.declared.token.Cookie.{Cookie}
use Rattle.mip_lines.specs.HexFields.{address_hex, number_hex}
use Rattle.mip_lines.specs.Lines.{line_text}
use Rattle.mip_symbols.specs.Spelled.{or_word}
use Rattle.mip_rules_mobile.specs.declared.numbering.Numbering.{Numbering}
use Rattle.mip_rules_mobile.specs.HomeQuestions.{next_to}
use Rattle.mip_rules_mobile.specs.Known.{Known}
use Rattle.mip_past_led.specs.declared.cookies.Cookies.{Cookies}
use Rattle.mip_past_led.specs.declared.due.Due.{Due}
use Rattle.mip_past_led.specs.declared.kept.KeptTest.{KeptTest}
use Rattle.mip_past_led.specs.declared.kept.Kept.{Kept}
use Rattle.mip_past_led.specs.declared.task.Task.{Task}
use Rattle.mip_past_led.specs.declared.task.Task.TheVariants.{Resend, Renew, End, HomeResend, HomeRenew, HomeEnd, Discover}
use Rattle.mip_past_led.specs.declared.trial_state.TrialState.{TrialState}
use Rattle.mip_past_led.specs.declared.trial_state.TrialState.TheVariants.{Idle, Probing, Proved, Pending, Bound}
use Rattle.mip_past_led.specs.Questions.{Rows, peers_of, row_with, state_with, cookies_with, kept_with, next_to_peer, agents_of, due_work_of}
use Rattle.mip_past_text.specs.Answers.{number_answer, yes_or_no, line_if}

-- `QUESTION NODE ADDRESS ANSWER`
abbrev pub asked_line : (question node : List ℕ) → Address → (answer : List ℕ) → List ℕ
asked_line question node address answer = line_text (question ∷ node ∷ address_hex address ∷ answer ∷ [])

abbrev pub state_word : TrialState → List ℕ
state_word Idle = codes "idle"
state_word Probing = codes "probing"
state_word Proved = codes "proved"
state_word Pending = codes "pending"
state_word Bound = codes "bound"

-- the cookies that the tests of a peer have to return, where one is waited for
abbrev pub cookie_text : Cookie → List ℕ
cookie_text cookie = number_hex 8 cookie.0

abbrev pub cookies_line : (node : List ℕ) → Address → Option Cookies → List ℕ
cookies_line node peer None = []
cookies_line node peer (Some c) =
    line_text (codes "cookies" ∷ node ∷ address_hex peer ∷ cookie_text c.home ∷ or_word (codes "-") cookie_text c.careof ∷ [])

-- the index and the token of a test that is kept, a line each
abbrev pub kept_line : (node : List ℕ) → Address → (which : List ℕ) → Option KeptTest → List ℕ
kept_line node peer which None = []
kept_line node peer which (Some t) = line_text (codes "kept" ∷ node ∷ address_hex peer ∷ which ∷ decimal t.index ∷ hex_of t.token.0 ∷ [])

abbrev pub kept_lines : (node : List ℕ) → Address → Kept → List ℕ
kept_lines node peer kept = kept_line node peer (codes "home") kept.home ++ kept_line node peer (codes "careof") kept.careof

-- what is asked about a peer that has a row
abbrev pub tests_lines : (node : List ℕ) → Rows → Address → List ℕ
tests_lines node rows peer = cookies_line node peer (cookies_with rows peer) ++ kept_lines node peer (kept_with rows peer)

abbrev pub peer_lines : (node : List ℕ) → Rows → Address → List ℕ
peer_lines node rows peer =
    asked_line (codes "peer") node peer (number_answer (row_with rows peer))
    ++ (asked_line (codes "trial") node peer (state_word (state_with rows peer))
    ++ (tests_lines node rows peer
    ++ asked_line (codes "next-update") node peer (decimal (next_to_peer rows peer))))

unfoldable pub peers_lines : (node : List ℕ) → Rows → List Address → List ℕ
peers_lines node rows [] = []
peers_lines node rows (peer ∷ peers) = peer_lines node rows peer ++ peers_lines node rows peers

-- the sequence of the next home registration with each agent
abbrev pub agent_line : (node : List ℕ) → List Numbering → Address → List ℕ
agent_line node numberings agent = asked_line (codes "next-registration") node agent (decimal (next_to agent numberings))

unfoldable pub agents_lines : (node : List ℕ) → List Numbering → List Address → List ℕ
agents_lines node numberings [] = []
agents_lines node numberings (agent ∷ agents) = agent_line node numberings agent ++ agents_lines node numberings agents

-- the work ahead, a line each, and the peer that it is about
abbrev pub task_word : Task → List ℕ
task_word Resend = codes "resend"
task_word Renew = codes "renew"
task_word End = codes "end"
task_word HomeResend = codes "home-resend"
task_word HomeRenew = codes "home-renew"
task_word HomeEnd = codes "home-end"
task_word Discover = codes "discover"

abbrev pub task_line : (node : List ℕ) → Moment → (task : List ℕ) → Option Address → List ℕ
task_line node at task None = line_text (codes "work" ∷ node ∷ decimal at.0 ∷ task ∷ [])
task_line node at task (Some peer) = line_text (codes "work" ∷ node ∷ decimal at.0 ∷ task ∷ address_hex peer ∷ [])

abbrev pub work_line : (node : List ℕ) → Due → List ℕ
work_line node due = task_line node due.at (task_word due.task) due.peer

unfoldable pub work_lines : (node : List ℕ) → List Due → List ℕ
work_lines node [] = []
work_lines node (due ∷ more) = work_line node due ++ work_lines node more

-- the agents that were found, the one that is chosen next, and whether a discovery is under way
unfoldable pub found_lines : (node : List ℕ) → List Address → List ℕ
found_lines node [] = []
found_lines node (agent ∷ agents) = line_if (codes "found") node (Some agent) ++ found_lines node agents

abbrev pub discovering_line : (node : List ℕ) → Known → List ℕ
discovering_line node k = line_text (codes "discovering" ∷ node ∷ yes_or_no (is_some k.discovery) ∷ [])

abbrev pub finding_lines : (node : List ℕ) → Known → List ℕ
finding_lines node k = found_lines node k.found ++ (line_if (codes "next-found") node (slice_get k.found k.tried) ++ discovering_line node k)

-- all of a mobile; another node has none
abbrev pub mobile_lines : (node : List ℕ) → Known → List ℕ
mobile_lines node k =
    peers_lines node k.list.rows (peers_of k.list.rows)
    ++ (agents_lines node k.numberings (agents_of k.numberings) ++ (work_lines node (due_work_of k.list) ++ finding_lines node k))

abbrev pub led_text : (node : List ℕ) → Option Known → List ℕ
led_text node None = []
led_text node (Some k) = mobile_lines node k
