-- A run goes on by entries that are right.
use Rattle.std.proofs.Common.{◌≡◌, ℕ, List, [], ◌∷◌, ◌++◌, Bool, true, false, length, refl, sym, ap, ◌∙◌, subst}
use Rattle.std.specs.Prelude.{fold, map, slice_get, slice_index_or, Option, Some, None, unwrap_or, ◌||◌, if◌then◌else◌}
use Rattle.std.specs.List.{list_any, cons_option}
use Rattle.std.proofs.lemmas.List.{append_assoc, append-nil}
use Rattle.std.proofs.lemmas.List.Elements.{filter_map-append}
use Rattle.std.proofs.lemmas.List.Sums.{fold-append}
use Rattle.std.proofs.lemmas.List.Folds.{list_any-append}
use Rattle.std.proofs.lemmas.Bool.{or_parts}
use Rattle.mip_words.specs.EachAfter.{EachAfter}
use Rattle.mip_words.proofs.EachLaws.{each-append}
use Rattle.mip_words.specs.declared.address.Address.{Address}
use Rattle.mip_nonce.specs.Secrets.{Life}
use Rattle.mip_entries.specs.declared.entry.Entry.{Entry}
use Rattle.mip_entries.specs.declared.entry.Entry.TheVariants as entries
use Rattle.mip_entries.specs.Stamped.{Stamped}
use Rattle.mip_links.specs.Table.{Post}
use Rattle.mip_rules_mobile.specs.Steps as mobile_steps
use Rattle.mip_rules_mobile.specs.PartLaws.{PartLife, part_life}
use Rattle.mip_provenance.specs.declared.accepted_update.AcceptedUpdate.{AcceptedUpdate}
use Rattle.mip_provenance.specs.declared.mark.Mark.{Mark}
use Rattle.mip_provenance.specs.declared.mark.Mark.TheVariants.{Origin, Forged}
use Rattle.mip_provenance.specs.Entries.{update_accepted, mark_entry}
use Rattle.mip_provenance.specs.Marks.{mark_in}
use Rattle.mip_history.specs.Setup.{Setup}
use Rattle.mip_history.specs.Setup.Kind.{Mobile}
use Rattle.mip_history.specs.Runs.{Run, note, notes, mobile_past_at}
use Rattle.mip_history.specs.Questions.{moment_says, moment_in, restarts, life_in}
use Rattle.mip_history.specs.Knowing.{secrets_in}
use Rattle.mip_history.specs.KnowingLaws.{part_in}
use Rattle.mip_history.specs.Nodes.{marks_of, marked}
use Rattle.mip_history.specs.BoundLaws.{packet_posted, packets_of}
use Rattle.mip_law_origin.specs.MarkedLaws.{IsFollowed, EachIsFollowed}
use Rattle.mip_law_origin.specs.OwnHistories.{life_of}
use Rattle.mip_law_origin.specs.OwnHistoriesLaws.{IsOwnEntry}
use Rattle.mip_law_origin.proofs.Coming.{AreGiven, all_given_more}
use Rattle.mip_law_origin.proofs.Following.{is_busy, followed_idle, followed-append}

abbrev pub is_timed : Entry → Bool
is_timed (entries.At moment) = true
is_timed (entries.Restarted node) = true
is_timed _ = false

untimed : (e : Entry) → is_busy e ≡ false → is_timed e ≡ false
untimed (entries.At moment) idle = absurd cc
untimed (entries.Restarted node) idle = absurd cc
untimed _ idle = refl

unposted : (e : Entry) → is_busy e ≡ false → packet_posted e ≡ None
unposted (entries.Sent number node shielded packet) idle = absurd cc
unposted (entries.Injected number outsider link packet) idle = absurd cc
unposted _ idle = refl

own_idle : (s : Setup) (front : List Entry) (e : Entry) → is_busy e ≡ false → IsOwnEntry s front e
own_idle s front (entries.Sent number node shielded packet) idle = absurd cc
own_idle s front (entries.Home node home careof sequence end) idle = absurd cc
own_idle s front (entries.Made node peer number home careof) idle = absurd cc
own_idle s front _ idle = tt

moment_same : (at : ℕ) (e : Entry) → is_timed e ≡ false → unwrap_or (moment_says e) at ≡ at
moment_same at (entries.At moment) steady = absurd cc
moment_same at _ steady = refl

life_same : (n count : ℕ) (e : Entry) → is_timed e ≡ false → restarts n count e ≡ count
life_same n count (entries.Restarted node) steady = absurd cc
life_same n count _ steady = refl

-- what none of the entries changes
fold_same : {S : Type 0} (f : S → Entry → S) → ((x : S) (e : Entry) → is_timed e ≡ false → f x e ≡ x) → (x : S) (es : List Entry) → list_any is_timed es ≡ false → fold f x es ≡ x
fold_same f same x [] steady = refl
fold_same {S = S} f same x (e ∷ es) steady =
    let parts = or_parts (is_timed e) (list_any is_timed es) steady in
    ap (λ (y : S). fold f y es) (same x e parts.0) ∙ fold_same f same x es parts.1

pub no_packets : (es : List Entry) → list_any is_busy es ≡ false → packets_of es ≡ []
no_packets [] idle = refl
no_packets (e ∷ es) idle =
    let parts = or_parts (is_busy e) (list_any is_busy es) idle in
    ap (λ (o : Option (List ℕ)). cons_option o (packets_of es)) (unposted e parts.0) ∙ no_packets es parts.1

pub all_untimed : (es : List Entry) → list_any is_busy es ≡ false → list_any is_timed es ≡ false
all_untimed [] idle = refl
all_untimed (e ∷ es) idle =
    let parts = or_parts (is_busy e) (list_any is_busy es) idle in
    ap (λ (x : Bool). x || list_any is_timed es) (untimed e parts.0) ∙ all_untimed es parts.1

pub each_idle : (s : Setup) (front es : List Entry) → list_any is_busy es ≡ false → EachAfter (IsOwnEntry s) front es
each_idle s front [] idle = tt
each_idle s front (e ∷ es) idle =
    let parts = or_parts (is_busy e) (list_any is_busy es) idle in
    (own_idle s front e parts.0, each_idle s (front ++ e ∷ []) es parts.1)

-- the packets of the history are those that were posted, and what the trials of mobiles were given was handed to them
pub record IsGood (run : Run) : Type 0 where
  pub packets : packets_of run.past ≡ map (λ (p : Post). p.packet) run.posts
  pub mobiles : (n : ℕ) → AreGiven run.past n (mobile_past_at run n)

-- entries that post no packet
pub good_notes : (es : List Entry) (run : Run) → packets_of es ≡ [] → IsGood run → IsGood (notes es run)
good_notes es run none good = record {
  packets =
      filter_map-append packet_posted run.past es
      ∙ ap (λ (l : List (List ℕ)). packets_of run.past ++ l) none
      ∙ append-nil (packets_of run.past)
      ∙ good.packets;
  mobiles = λ n. all_given_more run.past es n (mobile_past_at run n) (good.mobiles n);
}

mark_own : (s : Setup) (front : List Entry) (m : Mark) → IsOwnEntry s front (mark_entry m)
mark_own s front (Origin hot cot update) = tt
mark_own s front (Forged cause) = tt

mark_followed : (front : List Entry) (m : Mark) → IsFollowed front (update_accepted (mark_entry m)) []
mark_followed front (Origin hot cot update) = tt
mark_followed front (Forged cause) = tt

mark_steady : (m : Mark) → is_timed (mark_entry m) ≡ false
mark_steady (Origin hot cot update) = refl
mark_steady (Forged cause) = refl

mark_unposted : (m : Mark) → packet_posted (mark_entry m) ≡ None
mark_unposted (Origin hot cot update) = refl
mark_unposted (Forged cause) = refl

-- each node has its place among the pasts of mobiles, and the correspondent part of each mobile the secrets of the mobile's present life
abbrev pub HaveSecrets : Setup → Run → Type 0
HaveSecrets s run = (length run.mobile_pasts ≡ length s.hosts)
    × ((n : ℕ) (home : Address) (agent : Option Address) → slice_get s.hosts n ≡ Some (record { address = home; kind = Mobile agent }) → (part_in s run n home).secrets ≡ life_of s run.past n)

-- so they do where neither lives nor mobiles go on
pub secrets_stay : (s : Setup) (a b : Run) → b.mobile_pasts ≡ a.mobile_pasts → ((n : ℕ) → life_of s b.past n ≡ life_of s a.past n) → HaveSecrets s a → HaveSecrets s b
secrets_stay s a b same lives have = (
  ap (λ (l : List (List (Stamped mobile_steps.Step))). length l) same ∙ have.0,
  λ n home agent host.
      ap (λ (l : List (List (Stamped mobile_steps.Step))). let p : PartLife = part_life home s.numbers (secrets_in s n 0) (slice_index_or l n []) in p.secrets) same
      ∙ have.1 n home agent host
      ∙ sym (lives n),
)

-- entries that restart nobody leave lives as they were
pub untimed_life : (s : Setup) (front es : List Entry) (n : ℕ) → list_any is_timed es ≡ false → life_of s (front ++ es) n ≡ life_of s front n
untimed_life s front es n steady =
    ap (λ (l : ℕ). let x : Life = record { seed = s.seed; node = n; life = l } in x)
    (fold-append (restarts n) 0 front es ∙ fold_same (restarts n) (life_same n) (life_in front n) es steady)

module _ (s : Setup) (Q : Type 0) where
  -- a run goes on by entries that are right, if Q holds, and no time passes
  pub record Adds (a b : Run) : Type 0 where
    pub es : List Entry
    pub whole : b.past ≡ a.past ++ es
    pub own : Q → HaveSecrets s a → EachAfter (IsOwnEntry s) a.past es
    pub secrets : HaveSecrets s a → HaveSecrets s b
    pub followed : EachIsFollowed a.past es
    pub steady : list_any is_timed es ≡ false
    pub good : IsGood b

  pub adds_moment : (a b : Run) → Adds a b → moment_in s.start b.past ≡ moment_in s.start a.past
  adds_moment a b adds =
      ap (moment_in s.start) adds.whole
      ∙ fold-append (λ (at : ℕ) (e : Entry). unwrap_or (moment_says e) at) s.start a.past adds.es
      ∙ fold_same (λ (at : ℕ) (e : Entry). unwrap_or (moment_says e) at) moment_same (moment_in s.start a.past) adds.es adds.steady

  pub adds_life : (a b : Run) (n : ℕ) → Adds a b → life_of s b.past n ≡ life_of s a.past n
  adds_life a b n adds =
      ap (λ (l : ℕ). let x : Life = record { seed = s.seed; node = n; life = l } in x)
      (ap (λ (past : List Entry). life_in past n) adds.whole ∙ fold-append (restarts n) 0 a.past adds.es ∙ fold_same (restarts n) (life_same n) (life_in a.past n) adds.es adds.steady)

  -- a run whose history stands
  pub adds_none : (a b : Run) → b.past ≡ a.past → (HaveSecrets s a → HaveSecrets s b) → IsGood b → Adds a b
  adds_none a b e secrets good = record { es = []; whole = e ∙ sym (append-nil a.past); own = λ q h. tt; secrets = secrets; followed = tt; steady = refl; good = good }

  pub adds_same : (a b : Run) → b.past ≡ a.past → b.mobile_pasts ≡ a.mobile_pasts → IsGood b → Adds a b
  adds_same a b e same good = adds_none a b e (secrets_stay s a b same (λ n. ap (λ (past : List Entry). life_of s past n) e)) good

  pub adds_then : (a b c : Run) → Adds a b → Adds b c → Adds a c
  adds_then a b c p q = record {
    es = p.es ++ q.es;
    whole = q.whole ∙ ap (λ (l : List Entry). l ++ q.es) p.whole ∙ append_assoc a.past p.es q.es;
    own = λ x h. each-append (IsOwnEntry s) a.past p.es q.es (p.own x h) (subst (λ (l : List Entry). EachAfter (IsOwnEntry s) l q.es) p.whole (q.own x (p.secrets h)));
    secrets = λ h. q.secrets (p.secrets h);
    followed = followed-append a.past p.es q.es p.followed (subst (λ (l : List Entry). EachIsFollowed l q.es) p.whole q.followed);
    steady = list_any-append is_timed p.es q.es ∙ ap (λ (x : Bool). x || list_any is_timed q.es) p.steady ∙ q.steady;
    good = q.good;
  }

  pub adds_notes : (es : List Entry) (run : Run) → list_any is_busy es ≡ false → IsGood run → Adds run (notes es run)
  adds_notes es run idle good = record {
    es = es;
    whole = refl;
    own = λ q h. each_idle s run.past es idle;
    secrets = secrets_stay s run (notes es run) refl (λ n. untimed_life s run.past es n (all_untimed es idle));
    followed = followed_idle run.past es idle;
    steady = all_untimed es idle;
    good = good_notes es run (no_packets es idle) good;
  }

  pub adds_one : (e : Entry) (run : Run) → is_busy e ≡ false → IsGood run → Adds run (note e run)
  adds_one e run idle good = adds_notes (e ∷ []) run (ap (λ (x : Bool). x || false) idle) good

  pub adds_either : (b : Bool) (x y : Entry) (run : Run) → is_busy x ≡ false → is_busy y ≡ false → IsGood run → Adds run (note (if b then x else y) run)
  adds_either true x y run p q good = adds_one x run p good
  adds_either false x y run p q good = adds_one y run q good

  -- an entry, and behind it the mark of what it accepts
  pub adds_marked : (e : Entry) (run : Run) → IsGood run → (Q → IsOwnEntry s run.past e) → is_timed e ≡ false → packet_posted e ≡ None → Adds run (marked e run)
  adds_marked e run good own steady silent = by (update_accepted e) refl
    where
      by : (o : Option AcceptedUpdate) → update_accepted e ≡ o → Adds run (notes (e ∷ marks_of run.past o) run)
      by None is = record {
        es = e ∷ [];
        whole = refl;
        own = λ q h. (own q, tt);
        secrets = secrets_stay s run (note e run) refl (λ n. untimed_life s run.past (e ∷ []) n (ap (λ (x : Bool). x || false) steady));
        followed = (subst (λ (o : Option AcceptedUpdate). IsFollowed run.past o []) (sym is) tt, tt);
        steady = ap (λ (x : Bool). x || false) steady;
        good = good_notes (e ∷ []) run (ap (λ (o : Option (List ℕ)). cons_option o []) silent) good;
      }
      by (Some a) is = record {
        es = e ∷ mark_entry (mark_in run.past a) ∷ [];
        whole = refl;
        own = λ q h. (own q, (mark_own s (run.past ++ e ∷ []) (mark_in run.past a), tt));
        secrets = secrets_stay s run (notes (e ∷ mark_entry (mark_in run.past a) ∷ []) run) refl
            (λ n. untimed_life s run.past (e ∷ mark_entry (mark_in run.past a) ∷ []) n
            (ap (λ (x : Bool). x || list_any is_timed (mark_entry (mark_in run.past a) ∷ [])) steady ∙ ap (λ (x : Bool). x || false) (mark_steady (mark_in run.past a))));
        followed = (
          subst (λ (o : Option AcceptedUpdate). IsFollowed run.past o (mark_entry (mark_in run.past a) ∷ [])) (sym is) ([], refl),
          (mark_followed (run.past ++ e ∷ []) (mark_in run.past a), tt),
        );
        steady = ap (λ (x : Bool). x || list_any is_timed (mark_entry (mark_in run.past a) ∷ [])) steady ∙ ap (λ (x : Bool). x || false) (mark_steady (mark_in run.past a));
        good = good_notes (e ∷ mark_entry (mark_in run.past a) ∷ []) run
            (ap (λ (o : Option (List ℕ)). cons_option o (packets_of (mark_entry (mark_in run.past a) ∷ []))) silent
            ∙ ap (λ (o : Option (List ℕ)). cons_option o []) (mark_unposted (mark_in run.past a))) good;
      }
