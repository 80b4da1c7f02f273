-- The answers of a node: the run goes on by entries that are right where each answer is.
use Rattle.std.proofs.Common.{◌≡◌, ℕ, List, [], ◌∷◌, ◌++◌, true, length, refl, sym, ap, ◌∙◌, subst}
use Rattle.std.specs.Prelude.{Option, Some, None, IfSome, is_some}
use Rattle.std.specs.List.{AllByRecursion}
use Rattle.std.proofs.lemmas.List.{length-map}
use Rattle.mip_nonce.specs.Secrets.{Life}
use Rattle.mip_packets.specs.Says.{carried}
use Rattle.mip_entries.specs.declared.answer.Answer.{Answer}
use Rattle.mip_entries.specs.declared.answer.Answer.TheVariants.{Send, Note}
use Rattle.mip_entries.specs.declared.entry.Entry.{Entry}
use Rattle.mip_entries.specs.declared.entry.Entry.TheVariants as entries
use Rattle.mip_entries.specs.Completed.{node_id}
use Rattle.mip_links.specs.Table.{Post}
use Rattle.mip_provenance.specs.Sights.{token_in}
use Rattle.mip_history.specs.Setup.{Setup, Kind}
use Rattle.mip_history.specs.Setup.Kind.{Correspondent, Agent, Mobile}
use Rattle.mip_history.specs.Runs.{Run}
use Rattle.mip_history.specs.Questions.{moment_in}
use Rattle.mip_history.specs.Nodes.{left_by, answered_one, answered}
use Rattle.mip_history.specs.BoundLaws.{packets_of}
use Rattle.mip_law_origin.specs.OwnTests.{IsOwnTest}
use Rattle.mip_law_origin.specs.OwnHistories.{life_of}
use Rattle.mip_law_origin.specs.OwnHistoriesLaws.{kind_at, is_agent_kind, HasCome, IsRightFrom}
use Rattle.mip_law_origin.proofs.Coming.{come_more, if_come_more, token_come_more}
use Rattle.mip_law_origin.proofs.Adding.{IsGood, Adds, adds_moment, adds_life, adds_same, adds_then, adds_marked}
use Rattle.mip_law_origin.proofs.Posting.{adds_posted, adds_claims, adds_gives_up}

module _ (s : Setup) (Q : Type 0) where
  -- only agents register homes, and the tokens of an update were handed over
  abbrev pub IsNoted : List Entry → ℕ → Entry → Type 0
  IsNoted front n (entries.Home node home careof sequence end) = is_agent_kind (kind_at s n) ≡ true
  IsNoted front n (entries.Made node peer number home careof) = HasCome front n home.0 × IfSome careof (λ t. HasCome front n t.0)
  IsNoted front n _ = Unit {0}

  -- an answer of node n behind these entries is right
  abbrev pub IsRight : List Entry → ℕ → Answer → Type 0
  IsRight front n (Send shield packet) = Q → IsRightFrom s front n packet (kind_at s n)
  IsRight front n (Note entry) = IsNoted front n entry

  -- so it stays as the run goes on
  from_more : (a b : Run) (n : ℕ) (packet : List ℕ) (o : Option Kind) → Adds s Q a b → IsRightFrom s a.past n packet o → IsRightFrom s b.past n packet o
  from_more a b n packet (Some (Correspondent room)) adds right =
      subst (λ (l : Life). IsOwnTest l (moment_in s.start b.past) (carried packet)) (sym (adds_life s Q a b n adds))
      (subst (λ (t : ℕ). IsOwnTest (life_of s a.past n) t (carried packet)) (sym (adds_moment s Q a b adds)) right)
  from_more a b n packet (Some (Agent preference life room serves)) adds right =
      subst (λ (l : List Entry). IfSome (token_in (carried packet)) (HasCome l n)) (sym adds.whole) (if_come_more a.past adds.es n (token_in (carried packet)) right)
  from_more a b n packet (Some (Mobile agent)) adds right =
      subst (λ (l : Life). IsOwnTest l (moment_in s.start b.past) (carried packet)) (sym (adds_life s Q a b n adds))
      (subst (λ (t : ℕ). IsOwnTest (life_of s a.past n) t (carried packet)) (sym (adds_moment s Q a b adds)) right)
  from_more a b n packet None adds right = tt

  noted_more : (front es : List Entry) (n : ℕ) (e : Entry) → IsNoted front n e → IsNoted (front ++ es) n e
  noted_more front es n (entries.Home node home careof sequence end) noted = noted
  noted_more front es n (entries.Made node peer number home careof) noted = (come_more front es n home.0 noted.0, token_come_more front es n careof noted.1)
  noted_more front es n _ noted = tt

  right_more : (a b : Run) (n : ℕ) (answer : Answer) → Adds s Q a b → IsRight a.past n answer → IsRight b.past n answer
  right_more a b n (Send shield packet) adds right = λ q. from_more a b n packet (kind_at s n) adds (right q)
  right_more a b n (Note entry) adds right = subst (λ (l : List Entry). IsNoted l n entry) (sym adds.whole) (noted_more a.past adds.es n entry right)

  all_right_more : (a b : Run) (n : ℕ) (answers : List Answer) → Adds s Q a b → AllByRecursion (IsRight a.past n) answers → AllByRecursion (IsRight b.past n) answers
  all_right_more a b n [] adds right = tt
  all_right_more a b n (answer ∷ answers) adds right = (right_more a b n answer adds right.0, all_right_more a b n answers adds right.1)

  -- an entry of a node is left
  count : (run : Run) → IsGood run → length run.posts ≡ length (packets_of run.past)
  count run good = sym (length-map run.posts (λ (p : Post). p.packet)) ∙ ap (λ (l : List (List ℕ)). length l) (sym good.packets)

  adds_left : (n : ℕ) (e : Entry) (run : Run) → IsGood run → IsNoted run.past n e → Adds s Q run (left_by s n run e)
  adds_left n (entries.Claimed who link address) run good noted = adds_claims s Q n address run good
  adds_left n (entries.Taken who link address holder) run good noted = adds_claims s Q n address run good
  adds_left n (entries.Released who link address) run good noted = adds_gives_up s Q n address run good
  adds_left n (entries.Restarted node) run good noted = adds_same s Q run run refl refl good
  adds_left n (entries.Home node home careof sequence end) run good noted =
      adds_marked s Q (entries.Home (node_id n) home careof sequence end) run good (λ q. noted) refl refl
  adds_left n (entries.Made node peer number home careof) run good noted =
      adds_marked s Q (entries.Made (node_id n) peer (length run.posts) home careof) run good
      (λ q. record { next = count run good; home_came = noted.0; careof_came = noted.1 }) refl refl
  adds_left n (entries.Careof node address) run good noted = adds_marked s Q (entries.Careof (node_id n) address) run good (λ q. tt) refl refl
  adds_left n (entries.Registered node agent end) run good noted = adds_marked s Q (entries.Registered (node_id n) agent end) run good (λ q. tt) refl refl
  adds_left n (entries.Unregistered node agent) run good noted = adds_marked s Q (entries.Unregistered (node_id n) agent) run good (λ q. tt) refl refl
  adds_left n (entries.Refused node status) run good noted = adds_marked s Q (entries.Refused (node_id n) status) run good (λ q. tt) refl refl
  adds_left n (entries.Chosen node agent) run good noted = adds_marked s Q (entries.Chosen (node_id n) agent) run good (λ q. tt) refl refl
  adds_left n (entries.Prefixes node valid preferred) run good noted = adds_marked s Q (entries.Prefixes (node_id n) valid preferred) run good (λ q. tt) refl refl
  adds_left n (entries.Bound node peer end) run good noted = adds_marked s Q (entries.Bound (node_id n) peer end) run good (λ q. tt) refl refl
  adds_left n (entries.Unbound node peer) run good noted = adds_marked s Q (entries.Unbound (node_id n) peer) run good (λ q. tt) refl refl
  adds_left n (entries.Accepted node number home binding careof sequence end i j) run good noted =
      adds_marked s Q (entries.Accepted (node_id n) number home binding careof sequence end i j) run good (λ q. tt) refl refl
  adds_left n (entries.Denied node number status) run good noted = adds_marked s Q (entries.Denied (node_id n) number status) run good (λ q. tt) refl refl
  adds_left n (entries.Dropped node number why) run good noted = adds_marked s Q (entries.Dropped (node_id n) number why) run good (λ q. tt) refl refl
  adds_left n (entries.Up node number source destination proto payload) run good noted =
      adds_marked s Q (entries.Up (node_id n) number source destination proto payload) run good (λ q. tt) refl refl
  adds_left n (entries.Unsent node why) run good noted = adds_marked s Q (entries.Unsent (node_id n) why) run good (λ q. tt) refl refl
  adds_left n (entries.Row node home binding careof sequence end kept) run good noted =
      adds_marked s Q (entries.Row (node_id n) home binding careof sequence end kept) run good (λ q. tt) refl refl
  adds_left n _ run good noted = adds_marked s Q entries.Idle run good (λ q. tt) refl refl

  adds_answer : (n from : ℕ) (answer : Answer) (run : Run) → IsGood run → IsRight run.past n answer → Adds s Q run (answered_one s n from run answer)
  adds_answer n from (Send shield packet) run good right =
      adds_posted s Q (record { from = from; shield = shield; packet = packet }) None (entries.Sent (length run.posts) (node_id n) (is_some shield) packet) run good refl right refl refl
  adds_answer n from (Note entry) run good right = adds_left n entry run good right

  pub adds_answers : (n from : ℕ) (answers : List Answer) (run : Run) → IsGood run → AllByRecursion (IsRight run.past n) answers → Adds s Q run (answered s n from run answers)
  unfolding answered
  adds_answers n from [] run good right = adds_same s Q run run refl refl good
  adds_answers n from (answer ∷ answers) run good right =
      let next : Run = answered_one s n from run answer in
      let one : Adds s Q run next = adds_answer n from answer run good right.0 in
      adds_then s Q run next (answered s n from next answers) one
      (adds_answers n from answers next one.good (all_right_more run next n answers one right.1))
