-- What sending leaves in a run: that one packet was sent, and who heard it.
use Rattle.std.proofs.Common.{◌≡◌, ℕ, zero, suc, List, [], ◌∷◌, ◌++◌, length, drop, Bool, true, false, refl, sym, ap, ◌∙◌, subst}
use Rattle.std.specs.Prelude.{◌&&◌, if◌then◌else◌, Option, Some, None, is_some, slice_get, unwrap_or}
use Rattle.std.specs.List.{list_all}
use Rattle.std.proofs.lemmas.List.{append_assoc}
use Rattle.std.proofs.lemmas.List.Folds.{list_all-append}
use Rattle.mip_words.specs.declared.address.Address.{Address}
use Rattle.mip_words.specs.declared.shield.Shield.{Shield}
use Rattle.mip_entries.specs.declared.answer.Answer.{Answer}
use Rattle.mip_entries.specs.declared.answer.Answer.TheVariants.{Send}
use Rattle.mip_entries.specs.declared.entry.Entry.{Entry}
use Rattle.mip_entries.specs.declared.entry.Entry.TheVariants.{Sent, Heard}
use Rattle.mip_entries.specs.Completed.{node_id}
use Rattle.mip_links.specs.Table.{Post}
use Rattle.mip_rules_correspondent.specs.Calls as part_calls
use Rattle.mip_rules_correspondent.specs.Transitions as part_transitions
use Rattle.mip_rules_correspondent.specs.Doing as part_doing
use Rattle.mip_rules_mobile.specs.declared.attachment.Attachment.{Attachment}
use Rattle.mip_rules_mobile.specs.declared.attachment.Attachment.TheVariants.{Detached, AtHome, Away}
use Rattle.mip_rules_mobile.specs.Known.{Known}
use Rattle.mip_rules_mobile.specs.Calls as mobile_calls
use Rattle.mip_rules_mobile.specs.Steps.{answers_of}
use Rattle.mip_rules_mobile.specs.HomeQuestions.{registered_agent}
use Rattle.mip_rules_mobile.specs.RowQuestions.{bound_row_of}
use Rattle.mip_rules_mobile.specs.Transitions as mobile_transitions
use Rattle.mip_rules_mobile.specs.Doing.{transition_of}
use Rattle.mip_history.specs.Setup.{Setup, Host}
use Rattle.mip_history.specs.Setup.Kind.{Correspondent, Mobile}
use Rattle.mip_history.specs.Runs.{Run, note, notes, entered, past_at, mobile_past_at, with_past, with_mobile_past}
use Rattle.mip_history.specs.Questions.{hears_in}
use Rattle.mip_history.specs.Calls as calls
use Rattle.mip_history.specs.Knowing.{link_or_first, now_in, identity_in, known_in, mobile_known_in, stands_on}
use Rattle.mip_history.specs.Posting.{heards, is_other}
use Rattle.mip_history.specs.Nodes.{answered, by_host}
use Rattle.mip_law_delivery.specs.Legs.{sends_from, can_send}
use Rattle.mip_law_delivery.specs.Stretches.{left_by}
use Rattle.mip_law_delivery.specs.Reached.{sending, is_heard, SendsOne}
use Rattle.mip_law_delivery.proofs.Sending.{sent_by_correspondent, sent_at_home, sent_bound, sent_into_tunnel}

pub drop_front : (xs ys : List Entry) → drop (length xs) (xs ++ ys) ≡ ys
drop_front [] ys = refl
drop_front (x ∷ xs) ys = drop_front xs ys

all_heard : (hears : ℕ → Bool) (k o : ℕ) → list_all is_heard (heards hears k o) ≡ true
all_heard hears k zero = refl
all_heard hears k (suc o) =
    list_all-append is_heard (heards hears k o) (if hears o then Heard k o ∷ [] else [])
    ∙ ap (λ (b : Bool). b && list_all is_heard (if hears o then Heard k o ∷ [] else [])) (all_heard hears k o)
    ∙ by (hears o)
  where
    by : (b : Bool) → (true && list_all is_heard (if b then Heard k o ∷ [] else [])) ≡ true
    by true = refl
    by false = refl

module _ (s : Setup) (n from : ℕ) (run : Run) where
  one_sent : (shield : Option Shield) (packet : List ℕ) → SendsOne (drop (length run.past) (answered s n from run (Send shield packet ∷ [])).past) (length run.posts) n
  unfolding answered
  one_sent shield packet = at (is_some shield)
    where
      sent : Entry
      sent = Sent (length run.posts) (node_id n) (is_some shield) packet

      post : Post
      post = record { from = from; shield = shield; packet = packet }

      behind : Run
      behind = entered post (note sent run)

      hears : ℕ → Bool
      hears o = is_other None o && hears_in behind.past o from

      rest : List Entry
      rest = heards hears (length run.posts) s.outsiders

      at : (b : Bool) → SendsOne (drop (length run.past) (if b then behind else notes rest behind).past) (length run.posts) n
      at true = record { shielded = is_some shield; packet = packet; rest = []; is = drop_front run.past (sent ∷ []); heard = refl }
      at false = record {
        shielded = is_some shield;
        packet = packet;
        rest = rest;
        is = ap (λ (l : List Entry). drop (length run.past) l) (append_assoc run.past (sent ∷ []) rest) ∙ drop_front run.past (sent ∷ rest);
        heard = all_heard hears (length run.posts) s.outsiders;
      }

-- one packet is sent, and nothing else is done
record IsOneSend (answers : List Answer) : Type 0 where
  shield : Option Shield
  packet : List ℕ
  is : answers ≡ Send shield packet ∷ []

one_send : {answers : List Answer} {shield : Option Shield} {packet : List ℕ} → answers ≡ Send shield packet ∷ [] → IsOneSend answers
one_send {answers} {shield} {packet} is = record { shield = shield; packet = packet; is = is }

mobile_sends : (k : Known) (now : ℕ) (to : Address) (proto : ℕ) (payload : List ℕ) → can_send k now ≡ true → IsOneSend (answers_of (transition_of k now (mobile_calls.Send to proto payload)).steps)
mobile_sends k now to proto payload can = by k.standing (registered_agent k now) (bound_row_of k now to) refl refl refl can
  where
    by : (here : Attachment) (agent : Option Address) (row : Option ℕ) → k.standing ≡ here → registered_agent k now ≡ agent → bound_row_of k now to ≡ row → sends_from here agent ≡ true
        → IsOneSend (answers_of (transition_of k now (mobile_calls.Send to proto payload)).steps)
    by Detached agent row a b c can = absurd cc
    by AtHome agent row a b c can = one_send (sent_at_home k now to proto payload a)
    by (Away careof) None row a b c can = absurd cc
    by (Away careof) (Some agent) (Some row) a b c can = one_send (sent_bound k now to proto payload careof row a c)
    by (Away careof) (Some agent) None a b c can = one_send (sent_into_tunnel k now to proto payload careof agent a b c)

module _ (s : Setup) (run : Run) (n : ℕ) (own to : Address) (proto : ℕ) (payload : List ℕ) where
  abbrev call : calls.Call
  call = calls.Send to proto payload

  abbrev Leaves : Option Host → Type 0
  Leaves host = SendsOne (drop (length run.past) (by_host s n call run host).past) (length run.posts) n

  pub correspondent_leaves : (room : ℕ) → slice_get s.hosts n ≡ Some (record { address = own; kind = Correspondent room }) → SendsOne (left_by s run (sending n to proto payload ∷ [])) (length run.posts) n
  correspondent_leaves room host =
      let transition : part_transitions.Transition = part_doing.transition_of (identity_in s run n own room) (known_in s run n room) (now_in s run) (part_calls.Send to proto payload) in
      let behind : Run = with_past n (part_transitions.with_transition (past_at run n) transition) run in
      subst Leaves (sym host)
      (subst (λ (l : List Answer). SendsOne (drop (length run.past) (answered s n (link_or_first s own.0) behind l).past) (length run.posts) n)
      (sym (sent_by_correspondent (identity_in s run n own room) (known_in s run n room) (now_in s run) to proto payload))
      (one_sent s n (link_or_first s own.0) behind None _))

  pub mobile_leaves : (agent : Option Address) → slice_get s.hosts n ≡ Some (record { address = own; kind = Mobile agent }) → can_send (mobile_known_in s run n own agent) (now_in s run) ≡ true
      → SendsOne (left_by s run (sending n to proto payload ∷ [])) (length run.posts) n
  mobile_leaves agent host can =
      let transition : mobile_transitions.Transition = transition_of (mobile_known_in s run n own agent) (now_in s run) (mobile_calls.Send to proto payload) in
      let behind : Run = with_mobile_past n (mobile_transitions.with_transition (mobile_past_at run n) transition) run in
      let one = mobile_sends (mobile_known_in s run n own agent) (now_in s run) to proto payload can in
      subst Leaves (sym host)
      (subst (λ (l : List Answer). SendsOne (drop (length run.past) (answered s n (unwrap_or (stands_on s run n own) 0) behind l).past) (length run.posts) n)
      (sym one.is)
      (one_sent s n (unwrap_or (stands_on s run n own) 0) behind one.shield one.packet))
