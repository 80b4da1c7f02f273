-- Packets enter the pool and leave it, and outsiders hear them.
use Rattle.std.proofs.Common.{◌≡◌, ◌∙◌, ℕ, ◌<◌, zero, suc, List, [], ◌∷◌, ◌++◌, length, Bool, true, false, refl, sym, ap, subst}
use Rattle.std.proofs.Math.Path.{fun_ext}
use Rattle.std.proofs.lemmas.List.{append_assoc, append-nil}
use Rattle.std.specs.Prelude.{Option, Some, None, slice_set, slice_index_or, if◌then◌else◌, ◌&&◌}
use Rattle.std.specs.List.{AllByRecursion}
use Rattle.mip_words.specs.declared.address.Address.{Address}
use Rattle.mip_words.specs.declared.shield.Shield.{Shield}
use Rattle.mip_words.specs.declared.ids.LinkId.{LinkId}
use Rattle.mip_words.specs.declared.ids.NodeId.{NodeId}
use Rattle.mip_words.specs.declared.why.Why.{Why}
use Rattle.mip_words.specs.declared.moment.Moment.{Moment}
use Rattle.mip_entries.specs.declared.entry.Entry.{Entry}
use Rattle.mip_entries.specs.declared.entry.Entry.TheVariants.{Heard, Sent, Injected, Idle, Lost, Gone, Handed, Row, Claimed, Taken, Released, Restarted}
use Rattle.mip_entries.specs.Completed.{named}
use Rattle.mip_links.specs.Table.{Post}
use Rattle.mip_links.specs.Nets.{posted, left}
use Rattle.mip_history.specs.Setup.{Setup}
use Rattle.mip_history.specs.Runs.{Run, note, notes, entered, without}
use Rattle.mip_history.specs.Questions.{hears_in}
use Rattle.mip_history.specs.Posting.{heards, is_other, overheard}
use Rattle.mip_history.specs.Permitted.{lost}
use Rattle.mip_history.specs.Nodes.{left_by, marked}
use Rattle.mip_engine.specs.Engines.{EngineSeen, with_entry, with_entries, with_net, ears_of, heard_by}
use Rattle.mip_engine.specs.Standing.{IsAt}
use Rattle.mip_engine.specs.Groups.{is_plain}
use Rattle.mip_provenance_index.specs.Stands.{number_posted}
use Rattle.mip_roles.specs.RolesLaws.{is_apart}
use Rattle.mip_recorder.specs.Packets.{bytes_posted}
use Rattle.mip_engine.specs.Quiet.{IsSilent, IsQuiet}
use Rattle.mip_engine.proofs.NumberLaws.{numbered_posted}
use Rattle.mip_engine.proofs.QuietLaws.{at_note, at_reached, quiet_by, silent_by, asked-same, hears-same, nodes-same, now-same, history-same}

pub quiet_idle : IsQuiet Idle
quiet_idle = quiet_by Idle refl refl

pub silent_heard : (k o : ℕ) → IsSilent (Heard k o)
silent_heard k o = silent_by (Heard k o) refl

pub silent_sent : (k : ℕ) (node : NodeId) (shielded : Bool) (packet : List ℕ) → IsSilent (Sent k node shielded packet)
silent_sent k node shielded packet = silent_by (Sent k node shielded packet) refl

pub silent_injected : (k o : ℕ) (link : LinkId) (packet : List ℕ) → IsSilent (Injected k o link packet)
silent_injected k o link packet = silent_by (Injected k o link packet) refl

pub quiet_lost : (k : ℕ) → IsQuiet (Lost k)
quiet_lost k = quiet_by (Lost k) refl refl

pub quiet_gone : (k : ℕ) (why : Why) → IsQuiet (Gone k why)
quiet_gone k why = quiet_by (Gone k why) refl refl

pub silent_handed : (k : ℕ) (node : NodeId) → IsSilent (Handed k node)
silent_handed k node = silent_by (Handed k node) refl

pub quiet_row : (node : NodeId) (home : Address) (binding : ℕ) (careof : Address) (sequence : ℕ) (end kept : Moment) → IsQuiet (Row node home binding careof sequence end kept)
quiet_row node home binding careof sequence end kept = quiet_by (Row node home binding careof sequence end kept) refl refl

-- a packet leaves the pool
pub at_left : (e : EngineSeen) (s : Setup) (run : Run) (k : ℕ) → IsAt e s run → IsAt (with_net (left e.net k) e) s (without k run)
at_left e s run k at = record {
  seed = at.seed;
  asked = at.asked;
  hears = at.hears;
  posts = at.posts;
  flying = ap (λ (fs : List Bool). slice_set fs k false) at.flying;
  spots = at.spots;
  firsts = at.firsts;
  nodes = at.nodes;
  count = at.count;
  pasts = at.pasts;
  agent_pasts = at.agent_pasts;
  mobile_pasts = at.mobile_pasts;
  outsiders = at.outsiders;
  numbers = at.numbers;
  now = at.now;
  history = at.history;
  numbered = at.numbered;
}

-- no entries
pub with_none : (e : EngineSeen) → with_entries [] e ≡ e
with_none e = ap (λ (h : List Entry). record { seed = e.seed; net = e.net; nodes = e.nodes; outsiders = e.outsiders; numbers = e.numbers; moment = e.moment; past = h; told = e.told }) (append-nil e.past)

pub notes_none : (run : Run) → notes [] run ≡ run
notes_none run = ap (λ (h : List Entry). record { past = h; pasts = run.pasts; agent_pasts = run.agent_pasts; mobile_pasts = run.mobile_pasts; posts = run.posts; flying = run.flying }) (append-nil run.past)

-- entries behind entries
pub with_more : (xs ys : List Entry) (e : EngineSeen) → with_entries ys (with_entries xs e) ≡ with_entries (xs ++ ys) e
with_more xs ys e = ap (λ (h : List Entry). record { seed = e.seed; net = e.net; nodes = e.nodes; outsiders = e.outsiders; numbers = e.numbers; moment = e.moment; past = h; told = e.told }) (append_assoc e.past xs ys)

pub notes_more : (xs ys : List Entry) (run : Run) → notes ys (notes xs run) ≡ notes (xs ++ ys) run
notes_more xs ys run = ap (λ (h : List Entry). record { past = h; pasts = run.pasts; agent_pasts = run.agent_pasts; mobile_pasts = run.mobile_pasts; posts = run.posts; flying = run.flying }) (append_assoc run.past xs ys)

-- the `heard` of so many outsiders
pub at_heards : (hears : ℕ → Bool) (k o : ℕ) (e : EngineSeen) (s : Setup) (run : Run) → k < length run.posts → IsAt e s run → IsAt (with_entries (heards hears k o) e) s (notes (heards hears k o) run)
at_heards hears k zero e s run inside at =
    subst (λ (x : EngineSeen). IsAt x s (notes [] run)) (sym (with_none e)) (subst (λ (r : Run). IsAt e s r) (sym (notes_none run)) at)
at_heards hears k (suc o) e s run inside at = by (hears o) (at_heards hears k o e s run inside at)
  where
    by : (b : Bool) → IsAt (with_entries (heards hears k o) e) s (notes (heards hears k o) run)
        → IsAt (with_entries (heards hears k o ++ (if b then Heard k o ∷ [] else [])) e) s (notes (heards hears k o ++ (if b then Heard k o ∷ [] else [])) run)
    by true so_far =
        subst (λ (x : EngineSeen). IsAt x s (notes (heards hears k o ++ Heard k o ∷ []) run)) (with_more (heards hears k o) (Heard k o ∷ []) e)
        (subst (λ (r : Run). IsAt (with_entry (Heard k o) (with_entries (heards hears k o) e)) s r) (notes_more (heards hears k o) (Heard k o ∷ []) run)
        (at_reached (with_entries (heards hears k o) e) s (notes (heards hears k o) run) (Heard k o) k (silent_heard k o) refl refl inside so_far))
    by false so_far =
        subst (λ (xs : List Entry). IsAt (with_entries xs e) s (notes xs run)) (sym (append-nil (heards hears k o))) so_far

-- outsiders hear a packet
pub at_overheard : (shield : Option Shield) (by : Option ℕ) (link k : ℕ) (e : EngineSeen) (s : Setup) (run : Run) → k < length run.posts → IsAt e s run
    → IsAt (heard_by shield by link k e) s (overheard s link shield by k run)
at_overheard (Some shield) by link k e s run inside at = at
at_overheard None by link k e s run inside at =
    let ears : ears_of e by link ≡ (λ (o : ℕ). is_other by o && hears_in run.past o link) =
    fun_ext (λ (o : ℕ). ap (λ (f : ℕ → ℕ → Bool). is_other by o && f o link) at.hears) in
    subst (λ (f : ℕ → Bool). IsAt (with_entries (heards (ears_of e by link) k e.outsiders) e) s (notes (heards f k s.outsiders) run)) ears
    (subst (λ (n : ℕ). IsAt (with_entries (heards (ears_of e by link) k e.outsiders) e) s (notes (heards (ears_of e by link) k n) run)) at.outsiders
    (at_heards (ears_of e by link) k e.outsiders e s run inside at))

-- a packet is lost
pub at_lost : (e : EngineSeen) (s : Setup) (run : Run) (k : ℕ) → IsAt e s run
    → IsAt (with_entry (if slice_index_or e.net.flying k false then Lost k else Idle) (with_net (left e.net k) e)) s (lost run k)
unfolding lost
at_lost e s run k at =
    subst (λ (fs : List Bool). IsAt (with_entry (if slice_index_or e.net.flying k false then Lost k else Idle) (with_net (left e.net k) e)) s (note (if slice_index_or fs k false then Lost k else Idle) (without k run))) at.flying
    (at_note (with_net (left e.net k) e) s (without k run) (if slice_index_or e.net.flying k false then Lost k else Idle) (by (slice_index_or e.net.flying k false)) (at_left e s run k at))
  where
    by : (b : Bool) → IsQuiet (if b then Lost k else Idle)
    by true = quiet_lost k
    by false = quiet_idle

-- one outsider more
pub heard_more : (hears : ℕ → Bool) (k o : ℕ) (e : EngineSeen)
    → with_entries (if hears o then Heard k o ∷ [] else []) (with_entries (heards hears k o) e) ≡ with_entries (heards hears k (suc o)) e
heard_more hears k o e = with_more (heards hears k o) (if hears o then Heard k o ∷ [] else []) e

-- a packet is posted, and its entry left
pub at_posting : (e : EngineSeen) (s : Setup) (run : Run) (post : Post) (x : Entry) → IsSilent x → number_posted x ≡ Some (length run.posts) → bytes_posted x ≡ Some post.packet → IsAt e s run
    → IsAt (with_entry x (with_net (posted e.net post) e)) s (entered post (note x run))
at_posting e s run post x silent number bytes at = record {
  seed = at.seed;
  asked = at.asked ∙ sym (asked-same s run.past x silent.claim);
  hears = at.hears ∙ sym (hears-same run.past x silent.listening);
  posts = ap (λ (ps : List Post). ps ++ post ∷ []) at.posts;
  flying = ap (λ (fs : List Bool). fs ++ true ∷ []) at.flying;
  spots = at.spots;
  firsts = at.firsts;
  nodes = nodes-same e s run x silent.timeless.unmoved at;
  count = at.count;
  pasts = at.pasts;
  agent_pasts = at.agent_pasts;
  mobile_pasts = at.mobile_pasts;
  outsiders = at.outsiders;
  numbers = at.numbers;
  now = now-same e s run x silent.timeless at;
  history = history-same e s run x at;
  numbered = numbered_posted run.posts run.past x post number bytes at.numbered;
}

-- entries that say nothing
pub at_quiets : (xs : List Entry) (e : EngineSeen) (s : Setup) (run : Run) → AllByRecursion IsQuiet xs → IsAt e s run → IsAt (with_entries xs e) s (notes xs run)
at_quiets [] e s run quiet at =
    subst (λ (x : EngineSeen). IsAt x s (notes [] run)) (sym (with_none e)) (subst (λ (r : Run). IsAt e s r) (sym (notes_none run)) at)
at_quiets (x ∷ xs) e s run quiet at =
    subst (λ (y : EngineSeen). IsAt y s (notes (x ∷ xs) run)) (with_more (x ∷ []) xs e)
    (subst (λ (r : Run). IsAt (with_entries xs (with_entry x e)) s r) (notes_more (x ∷ []) xs run)
    (at_quiets xs (with_entry x e) s (note x run) quiet.1 (at_note e s run x quiet.0 at)))

-- an entry of a node that claims nothing, with the node's number
pub quiet_named : (n l k : ℕ) (x : Entry) → is_plain x ≡ true → is_apart x ≡ true → IsQuiet (named n l k x)
quiet_named n l k (Claimed who link address) plain apart = absurd cc
quiet_named n l k (Taken who link address holder) plain apart = absurd cc
quiet_named n l k (Released who link address) plain apart = absurd cc
quiet_named n l k (Restarted node) plain apart = absurd cc
quiet_named n l k (Sent number node shielded packet) plain apart = absurd cc
quiet_named n l k (Injected number outsider link packet) plain apart = absurd cc
quiet_named n l k (Heard number outsider) plain apart = absurd cc
quiet_named n l k (Handed number node) plain apart = absurd cc
quiet_named n l k x plain apart = quiet_by (named n l k x) refl refl

-- such an entry is left as it is
pub left_plain : (s : Setup) (n : ℕ) (run : Run) (x : Entry) → is_plain x ≡ true → left_by s n run x ≡ marked (named n 0 (length run.posts) x) run
left_plain s n run (Claimed who link address) plain = absurd cc
left_plain s n run (Taken who link address holder) plain = absurd cc
left_plain s n run (Released who link address) plain = absurd cc
left_plain s n run (Restarted node) plain = absurd cc
left_plain s n run _ plain = refl
