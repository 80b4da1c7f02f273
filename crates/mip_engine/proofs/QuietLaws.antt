-- Entries that say nothing to the questions of a run, and what they leave as it was.
use Rattle.std.proofs.Common.{◌≡◌, ℕ, ◌<◌, length, List, [], ◌∷◌, ◌++◌, Bool, true, false, refl, sym, ap, ◌∙◌, subst}
use Rattle.std.proofs.Math.Path.{fun_ext}
use Rattle.std.proofs.lemmas.List.{take_more}
use Rattle.std.proofs.lemmas.Option.{slice_get_within, get_or_from_slice_get}
use Rattle.std.proofs.lemmas.Result.{on_ok_weaker}
use Rattle.std.proofs.lemmas.List.Sums.{fold-append}
use Rattle.std.specs.Prelude.{Option, Some, None, unwrap_or, option_map, slice_get, take, Result, OnOk, ◌+◌}
use Rattle.mip_words.specs.declared.address.Address.{Address}
use Rattle.mip_words.specs.Last.{or_else}
use Rattle.mip_entries.specs.declared.entry.Entry.{Entry}
use Rattle.mip_entries.specs.declared.entry.Entry.TheVariants.{At, Moved, Claimed, Released, Listening, Deafened, Restarted}
use Rattle.mip_history.specs.Setup.{Setup, Host, Kind}
use Rattle.mip_history.specs.Setup.Kind.{Correspondent as OfCorrespondent, Agent as OfAgent, Mobile as OfMobile}
use Rattle.mip_history.specs.Runs.{Run, note}
use Rattle.mip_links.specs.Table.{Asked, link_of}
use Rattle.mip_provenance_index.specs.Stands.{number_posted}
use Rattle.mip_recorder.specs.Packets.{number_reached}
use Rattle.mip_roles.specs.RolesLaws.{is_apart}
use Rattle.mip_history.specs.Knowing.{stands_on}
use Rattle.mip_history.specs.Questions.{moment_says, moment_in, holder_says, holder_in, claims, declared_in, listen_says, hears_in, restarts, life_in, moved_says, spot_in, asked_in}
use Rattle.mip_engine.specs.Engines.{EngineSeen, with_entry}
use Rattle.mip_engine.specs.Quiet.{IsNoClaim, IsUnmoved, IsTimeless, IsSilent, IsQuiet}
use Rattle.mip_engine.specs.Numbering.{IsNumbered}
use Rattle.mip_engine.proofs.NumberLaws.{numbered_apart, numbered_reached}
use Rattle.mip_engine.specs.Standing.{IsAt, role_in, node_in}

-- one entry more
pub holder-push : (past : List Entry) (x : Entry) (a : ℕ) → holder_in (past ++ x ∷ []) a ≡ unwrap_or (holder_says a x) (holder_in past a)
holder-push past x a = fold-append (λ (s : Option ℕ) (e : Entry). unwrap_or (holder_says a e) s) None past (x ∷ [])

pub declared-push : (past : List Entry) (x : Entry) (by : ℕ) → declared_in (past ++ x ∷ []) by ≡ or_else (declared_in past by) (claims by x)
declared-push past x by = fold-append (λ (o : Option Address) (e : Entry). or_else o (claims by e)) None past (x ∷ [])

pub hears-push : (past : List Entry) (x : Entry) (o l : ℕ) → hears_in (past ++ x ∷ []) o l ≡ unwrap_or (listen_says o l x) (hears_in past o l)
hears-push past x o l = fold-append (λ (s : Bool) (e : Entry). unwrap_or (listen_says o l e) s) false past (x ∷ [])

pub life-push : (past : List Entry) (x : Entry) (n : ℕ) → life_in (past ++ x ∷ []) n ≡ restarts n (life_in past n) x
life-push past x n = fold-append (restarts n) 0 past (x ∷ [])

pub spot-push : (home : Option ℕ) (past : List Entry) (x : Entry) (n : ℕ) → spot_in home (past ++ x ∷ []) n ≡ unwrap_or (moved_says n x) (spot_in home past n)
spot-push home past x n = fold-append (λ (s : Option ℕ) (e : Entry). unwrap_or (moved_says n e) s) home past (x ∷ [])

pub moment-push : (start : ℕ) (past : List Entry) (x : Entry) → moment_in start (past ++ x ∷ []) ≡ unwrap_or (moment_says x) (moment_in start past)
moment-push start past x = fold-append (λ (s : ℕ) (e : Entry). unwrap_or (moment_says e) s) start past (x ∷ [])

or_none : (o : Option Address) → or_else o None ≡ o
or_none (Some a) = refl
or_none None = refl

pub asked-same : (s : Setup) (past : List Entry) (x : Entry) → IsNoClaim x → asked_in s (past ++ x ∷ []) ≡ asked_in s past
asked-same s past x quiet =
    let holders : holder_in (past ++ x ∷ []) ≡ holder_in past =
    fun_ext (λ (a : ℕ). holder-push past x a ∙ ap (λ (o : Option (Option ℕ)). unwrap_or o (holder_in past a)) (quiet.holder a)) in
    let firsts : declared_in (past ++ x ∷ []) ≡ declared_in past =
    fun_ext (λ (by : ℕ). declared-push past x by ∙ ap (λ (o : Option Address). or_else (declared_in past by) o) (quiet.declared by) ∙ or_none (declared_in past by)) in
    rw (holders, firsts) refl

pub hears-same : (past : List Entry) (x : Entry) → ((o l : ℕ) → listen_says o l x ≡ None) → hears_in (past ++ x ∷ []) ≡ hears_in past
hears-same past x quiet =
    fun_ext (λ (o : ℕ). fun_ext (λ (l : ℕ). hears-push past x o l ∙ ap (λ (b : Option Bool). unwrap_or b (hears_in past o l)) (quiet o l)))

-- what is made of each is the same
pub mapped_same : {X Y : Type 0} (f g : X → Y) → ((x : X) → f x ≡ g x) → (o : Option X) → option_map f o ≡ option_map g o
mapped_same f g same None = refl
mapped_same f g same (Some x) = ap (λ y. Some y) (same x)

-- a node in another run in which it has the same life and spot, and all nodes know the same
pub node_same : (s : Setup) (run after : Run) (n : ℕ) (host : Host) → life_in after.past n ≡ life_in run.past n → stands_on s after n host.address ≡ stands_on s run n host.address
    → role_in s after n host.address host.kind ≡ role_in s run n host.address host.kind → node_in s after n host ≡ node_in s run n host
node_same s run after n host life spot role = rw (life, spot, role) refl

pub nodes-same : (e : EngineSeen) (s : Setup) (run : Run) (x : Entry) → IsUnmoved x → IsAt e s run
    → (n : ℕ) → slice_get e.nodes n ≡ option_map (node_in s (note x run) n) (slice_get s.hosts n)
nodes-same e s run x quiet at n =
    at.nodes n ∙ mapped_same (node_in s run n) (node_in s (note x run) n) (λ (host : Host). sym (same host)) (slice_get s.hosts n)
  where
    life : life_in (run.past ++ x ∷ []) n ≡ life_in run.past n
    life = life-push run.past x n ∙ quiet.life n (life_in run.past n)

    spot : (home : Option ℕ) → spot_in home (run.past ++ x ∷ []) n ≡ spot_in home run.past n
    spot home = spot-push home run.past x n ∙ ap (λ (o : Option (Option ℕ)). unwrap_or o (spot_in home run.past n)) (quiet.spot n)

    same : (host : Host) → node_in s (note x run) n host ≡ node_in s run n host
    same host = by host.kind
      where
        role : (kind : Kind) → role_in s (note x run) n host.address kind ≡ role_in s run n host.address kind
        role (OfCorrespondent room) = rw life refl
        role (OfAgent preference live room serves) = refl
        role (OfMobile agent) = refl

        by : (kind : Kind) → node_in s (note x run) n (record { address = host.address; kind = kind }) ≡ node_in s run n (record { address = host.address; kind = kind })
        by kind = rw (life, spot (link_of s.links host.address.0), role kind) refl

pub now-same : (e : EngineSeen) (s : Setup) (run : Run) (x : Entry) → IsTimeless x → IsAt e s run → e.moment ≡ moment_in s.start (run.past ++ x ∷ [])
now-same e s run x quiet at =
    at.now ∙ sym (moment-push s.start run.past x ∙ ap (λ (o : Option ℕ). unwrap_or o (moment_in s.start run.past)) quiet.moment)

pub history-same : (e : EngineSeen) (s : Setup) (run : Run) (x : Entry) → IsAt e s run → e.past ++ x ∷ [] ≡ run.past ++ x ∷ []
history-same e s run x at = ap (λ (h : List Entry). h ++ x ∷ []) at.history

-- an entry that is none of those that say something
abbrev pub is_quiet : Entry → Bool
is_quiet (At moment) = false
is_quiet (Moved node link) = false
is_quiet (Claimed who link address) = false
is_quiet (Released who link address) = false
is_quiet (Listening outsider link) = false
is_quiet (Deafened outsider link) = false
is_quiet (Restarted node) = false
is_quiet _ = true

pub silent_by : (x : Entry) → is_quiet x ≡ true → IsSilent x
silent_by (At moment) is = absurd cc
silent_by (Moved node link) is = absurd cc
silent_by (Claimed who link address) is = absurd cc
silent_by (Released who link address) is = absurd cc
silent_by (Listening outsider link) is = absurd cc
silent_by (Deafened outsider link) is = absurd cc
silent_by (Restarted node) is = absurd cc
silent_by _ is = record {
  claim = record { holder = λ a. refl; declared = λ by. refl };
  timeless = record { moment = refl; unmoved = record { life = λ n count. refl; spot = λ n. refl } };
  listening = λ o l. refl;
}

pub quiet_by : (x : Entry) → is_quiet x ≡ true → is_apart x ≡ true → IsQuiet x
quiet_by x is apart = record { silent = silent_by x is; apart = apart }

-- an entry is left that says nothing
at_silent : (e : EngineSeen) (s : Setup) (run : Run) (x : Entry) → IsSilent x → IsNumbered run.posts (run.past ++ x ∷ []) → IsAt e s run → IsAt (with_entry x e) s (note x run)
at_silent e s run x quiet numbered at = record {
  seed = at.seed;
  asked = at.asked ∙ sym (asked-same s run.past x quiet.claim);
  hears = at.hears ∙ sym (hears-same run.past x quiet.listening);
  posts = at.posts;
  flying = at.flying;
  spots = at.spots;
  firsts = at.firsts;
  nodes = nodes-same e s run x quiet.timeless.unmoved at;
  count = at.count;
  pasts = at.pasts;
  agent_pasts = at.agent_pasts;
  mobile_pasts = at.mobile_pasts;
  outsiders = at.outsiders;
  numbers = at.numbers;
  now = now-same e s run x quiet.timeless at;
  history = history-same e s run x at;
  numbered = numbered;
}

pub at_note : (e : EngineSeen) (s : Setup) (run : Run) (x : Entry) → IsQuiet x → IsAt e s run → IsAt (with_entry x e) s (note x run)
at_note e s run x quiet at = at_silent e s run x quiet.silent (numbered_apart run.posts run.past x quiet.apart at.numbered) at

-- a packet that was posted is heard, or handed over
pub at_reached : (e : EngineSeen) (s : Setup) (run : Run) (x : Entry) (k : ℕ) → IsSilent x → number_posted x ≡ None → number_reached x ≡ Some k → k < length run.posts
    → IsAt e s run → IsAt (with_entry x e) s (note x run)
at_reached e s run x k silent none some inside at = at_silent e s run x silent (numbered_reached run.posts run.past x k none some inside at.numbered) at

-- the same engine, and the same run, under another name
pub at_is : {e f : EngineSeen} {s : Setup} {run : Run} → e ≡ f → IsAt f s run → IsAt e s run
at_is {e = e} {f = f} {s = s} {run = run} same at = subst (λ (x : EngineSeen). IsAt x s run) (sym same) at

pub at_run : {e : EngineSeen} {s : Setup} {run after : Run} → after ≡ run → IsAt e s run → IsAt e s after
at_run {e = e} {s = s} {run = run} {after = after} same at = subst (λ (r : Run). IsAt e s r) (sym same) at

-- the link of an address
pub at_link : {e : EngineSeen} {s : Setup} {run : Run} → IsAt e s run → (a : ℕ) → link_of e.net.links a ≡ link_of s.links a
at_link at a = ap (λ (q : Asked). link_of q.links a) at.asked

-- where a call leaves this engine, and this engine stands for the run
pub at_ok : {T E : Type 0} (r : Result T E) (after e : EngineSeen) (s : Setup) (run : Run) → OnOk r (after ≡ e) → IsAt e s run → OnOk r (IsAt after s run)
at_ok r after e s run is at = on_ok_weaker r (λ (same : after ≡ e). at_is same at) is

-- a call leaves the engine at a run, under another name of it
pub at_ok_run : {T E : Type 0} (r : Result T E) (e : EngineSeen) (s : Setup) (run after : Run) → OnOk r (IsAt e s run) → run ≡ after → OnOk r (IsAt e s after)
at_ok_run r e s run after at same = subst (λ (x : Run). OnOk r (IsAt e s x)) same at

-- one item more of a list
pub take_one : {X : Type 0} (xs : List X) (i : ℕ) (x : X) → slice_get xs i ≡ Some x → take (i + 1) xs ≡ take i xs ++ x ∷ []
take_one {X = X} xs i x there = take_more xs i x (slice_get_within xs i x there) ∙ ap (λ (y : X). take i xs ++ y ∷ []) (get_or_from_slice_get xs i x x there)
