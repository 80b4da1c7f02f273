-- Addresses are taken and given up, and outsiders begin and end to listen.
use Rattle.std.proofs.Common.{◌≡◌, ◌≢◌, ℕ, ◌<◌, List, [], ◌∷◌, ◌++◌, length, Bool, true, false, refl, sym, ap, ◌∙◌, subst, arith, length-set}
use Rattle.std.proofs.Math.Path.{fun_ext}
use Rattle.std.proofs.lemmas.Bool.Decides.{nat_tests}
use Rattle.std.specs.Prelude.{Option, Some, None, is_some, unwrap_or, slice_set, if◌then◌else◌, ◌&&◌, ◌==◌, not}
use Rattle.mip_words.specs.declared.address.Address.{Address}
use Rattle.mip_words.specs.Last.{or_else}
use Rattle.mip_entries.specs.declared.entry.Entry.{Entry}
use Rattle.mip_entries.specs.declared.entry.Entry.TheVariants.{Claimed, Released, Taken, Listening, Deafened, Idle}
use Rattle.mip_links.specs.Table.{Asked, link_of}
use Rattle.mip_words.specs.Holders.{holder_at, holder_number}
use Rattle.mip_words.specs.declared.holder.Holder.{Holder}
use Rattle.mip_words.proofs.HolderLaws.{number-holder}
use Rattle.mip_links.specs.Nets.{NetSeen, hears_of, holder_of, declared_of, with_first, put, with_rows, with_hearing, spot, claimed, is_held_by, taken_by, refusal}
use Rattle.mip_links.specs.declared.claim_fault.ClaimFault.TheVariants.{Taken as TakenBy, NoLink}
use Rattle.mip_links.proofs.NetLaws.{holder-put, hears-set, first-set}
use Rattle.mip_history.specs.Setup.{Setup}
use Rattle.mip_history.specs.Runs.{Run, note}
use Rattle.mip_history.specs.Questions.{holder_in, declared_in, listen_says, hears_in}
use Rattle.mip_history.specs.Claims.{link_id, claim_entry}
use Rattle.mip_history.specs.Outsiders.{listens, deafens}
use Rattle.mip_engine.specs.Engines.{EngineSeen, with_entry, with_net, tried, claim_tried, released}
use Rattle.mip_engine.specs.Standing.{IsAt}
use Rattle.mip_engine.specs.Quiet.{IsQuiet, IsNoClaim, IsTimeless}
use Rattle.mip_engine.proofs.QuietLaws.{holder-push, declared-push, hears-push, asked-same, hears-same, nodes-same, now-same, history-same, at_note, quiet_by}
use Rattle.mip_roles.specs.RolesLaws.{is_apart}
use Rattle.mip_engine.proofs.NumberLaws.{numbered_apart}
use Rattle.mip_engine.proofs.PostingLaws.{quiet_idle}

timeless_claimed : (who l : ℕ) (a : Address) → IsTimeless (Claimed who (link_id l) a)
timeless_claimed who l a = record { moment = refl; unmoved = record { life = λ n count. refl; spot = λ n. refl } }

timeless_released : (who l : ℕ) (a : Address) → IsTimeless (Released who (link_id l) a)
timeless_released who l a = record { moment = refl; unmoved = record { life = λ n count. refl; spot = λ n. refl } }

timeless_listening : (o l : ℕ) → IsTimeless (Listening o (link_id l))
timeless_listening o l = record { moment = refl; unmoved = record { life = λ n count. refl; spot = λ n. refl } }

timeless_deafened : (o l : ℕ) → IsTimeless (Deafened o (link_id l))
timeless_deafened o l = record { moment = refl; unmoved = record { life = λ n count. refl; spot = λ n. refl } }

quiet_taken : (who l : ℕ) (a : Address) (holder : ℕ) → IsQuiet (Taken who (link_id l) a holder)
quiet_taken who l a holder = quiet_by (Taken who (link_id l) a holder) refl refl

holds_after : (b a : ℕ) (v : Option ℕ) (o : Option ℕ) → (if b == a then v else o) ≡ unwrap_or (if b == a then Some v else None) o
holds_after b a v o = by (b == a)
  where
    by : (t : Bool) → (if t then v else o) ≡ unwrap_or (if t then Some v else None) o
    by true = refl
    by false = refl

first_after : (who by : ℕ) (a : Address) (o : Option Address) (own : Option Address) → (who == by ≡ true → o ≡ own)
    → (if who == by then Some (unwrap_or own a) else o) ≡ or_else o (if who == by then Some a else None)
first_after who by a o own same = split (who == by) same
  where
    first : (p : Option Address) → Some (unwrap_or p a) ≡ or_else p (Some a)
    first (Some x) = refl
    first None = refl

    none : (p : Option Address) → p ≡ or_else p None
    none (Some x) = refl
    none None = refl

    split : (t : Bool) → (t ≡ true → o ≡ own) → (if t then Some (unwrap_or own a) else o) ≡ or_else o (if t then Some a else None)
    split true eq = ap (λ (p : Option Address). Some (unwrap_or p a)) (sym (eq refl)) ∙ first o
    split false eq = none o

firsts_long : (firsts : List (Option Address)) (who : ℕ) (a : Address) → length (with_first firsts who a) ≡ length firsts
firsts_long firsts who a = split (is_some (declared_of firsts who))
  where
    split : (t : Bool) → length (if t then firsts else slice_set firsts who (Some a)) ≡ length firsts
    split true = refl
    split false = length-set firsts who (Some a)

-- an address on a link is not refused for want of one
pub never_unlinked : (net : NetSeen) (who a l : ℕ) → link_of net.links a ≡ Some l → refusal net who a ≢ Some NoLink
never_unlinked net who a l on refused =
    by (holder_of net.rows a) (subst (λ (o : Option ℕ). (if is_some o then taken_by (holder_of net.rows a) who else Some NoLink) ≡ Some NoLink) on refused)
  where
    split : (t : Bool) (other : Holder) → (if t then None else Some (TakenBy other)) ≢ Some NoLink
    split true other e = cc
    split false other e = cc

    by : (o : Option ℕ) → taken_by o who ≢ Some NoLink
    by None e = cc
    by (Some other) e = split (other == who) (holder_at other) e

-- an address has a holder from here on
pub at_claimed : (e : EngineSeen) (s : Setup) (run : Run) (who l : ℕ) (a : Address) → who < 40 → IsAt e s run
    → IsAt (with_entry (Claimed who (link_id l) a) (with_net (claimed e.net who a) e)) s (note (Claimed who (link_id l) a) run)
at_claimed e s run who l a small at =
    let x = Claimed who (link_id l) a in
    let holders : holder_of (put e.net.rows a.0 (Some who)) ≡ holder_in (run.past ++ x ∷ []) =
    fun_ext (λ (b : ℕ). holder-put e.net.rows a.0 (Some who) b ∙ holds_after b a.0 (Some who) (holder_of e.net.rows b)
    ∙ ap (λ (q : Asked). unwrap_or (if b == a.0 then Some (Some who) else None) (q.holder b)) at.asked ∙ sym (holder-push run.past x b)) in
    let firsts : declared_of (with_first e.net.firsts who a) ≡ declared_in (run.past ++ x ∷ []) =
    fun_ext (λ (b : ℕ). first-set e.net.firsts who b a (omega (arith, at.firsts, small))
    ∙ first_after b who a (declared_of e.net.firsts b) (declared_of e.net.firsts who) (λ (same : b == who ≡ true). let is : b ≡ who = grind (arith, nat_tests, same) in ap (declared_of e.net.firsts) is)
    ∙ ap (λ (q : Asked). or_else (q.declared b) (if b == who then Some a else None)) at.asked ∙ sym (declared-push run.past x b)) in
    record {
      seed = at.seed;
      asked = let links : e.net.links ≡ s.links = ap (λ (q : Asked). q.links) at.asked in rw (links, holders, firsts) refl;
      hears = at.hears ∙ sym (hears-same run.past x (λ o l. refl));
      posts = at.posts;
      flying = at.flying;
      spots = at.spots;
      firsts = firsts_long e.net.firsts who a ∙ at.firsts;
      nodes = nodes-same e s run x (let t = (timeless_claimed who l a) in t.unmoved) at;
      count = at.count;
      pasts = at.pasts;
      agent_pasts = at.agent_pasts;
      mobile_pasts = at.mobile_pasts;
      outsiders = at.outsiders;
      numbers = at.numbers;
      now = now-same e s run x (timeless_claimed who l a) at;
      history = history-same e s run x at;
      numbered = numbered_apart run.posts run.past x refl at.numbered;
    }

-- an address has no holder from here on
pub at_released : (e : EngineSeen) (s : Setup) (run : Run) (who l : ℕ) (a : Address) → IsAt e s run
    → IsAt (with_entry (Released who (link_id l) a) (with_net (with_rows e.net (put e.net.rows a.0 None)) e)) s (note (Released who (link_id l) a) run)
at_released e s run who l a at =
    let x = Released who (link_id l) a in
    let holders : holder_of (put e.net.rows a.0 None) ≡ holder_in (run.past ++ x ∷ []) =
    fun_ext (λ (b : ℕ). holder-put e.net.rows a.0 None b ∙ holds_after b a.0 None (holder_of e.net.rows b)
    ∙ ap (λ (q : Asked). unwrap_or (if b == a.0 then Some None else None) (q.holder b)) at.asked ∙ sym (holder-push run.past x b)) in
    let firsts : declared_of e.net.firsts ≡ declared_in (run.past ++ x ∷ []) =
    fun_ext (λ (b : ℕ). none (declared_of e.net.firsts b) ∙ ap (λ (q : Asked). or_else (q.declared b) None) at.asked ∙ sym (declared-push run.past x b)) in
    record {
      seed = at.seed;
      asked = let links : e.net.links ≡ s.links = ap (λ (q : Asked). q.links) at.asked in rw (links, holders, firsts) refl;
      hears = at.hears ∙ sym (hears-same run.past x (λ o l. refl));
      posts = at.posts;
      flying = at.flying;
      spots = at.spots;
      firsts = at.firsts;
      nodes = nodes-same e s run x (let t = (timeless_released who l a) in t.unmoved) at;
      count = at.count;
      pasts = at.pasts;
      agent_pasts = at.agent_pasts;
      mobile_pasts = at.mobile_pasts;
      outsiders = at.outsiders;
      numbers = at.numbers;
      now = now-same e s run x (timeless_released who l a) at;
      history = history-same e s run x at;
      numbered = numbered_apart run.posts run.past x refl at.numbered;
    }
  where
    none : (p : Option Address) → p ≡ or_else p None
    none (Some x) = refl
    none None = refl

-- an outsider listens on a link from here on, or does so no more
module _ (e : EngineSeen) (s : Setup) (run : Run) (o l : ℕ) (small : o < 8) (few : l < 32) (at : IsAt e s run) where
  abbrev SaysIt : Entry → Bool → Type 0
  SaysIt x v = (p m : ℕ) → (if p == o && m == l then v else hears_in run.past p m) ≡ unwrap_or (listen_says p m x) (hears_in run.past p m)

  ears : (x : Entry) (v : Bool) → SaysIt x v → hears_of (slice_set e.net.hearing (spot o l) v) ≡ hears_in (run.past ++ x ∷ [])
  ears x v says =
      fun_ext (λ (p : ℕ). fun_ext (λ (m : ℕ). hears-set e.net.hearing o l p m v at.spots small few
      ∙ ap (λ (f : ℕ → ℕ → Bool). if p == o && m == l then v else f p m) at.hears
      ∙ says p m
      ∙ sym (hears-push run.past x p m)))

  at_ears : (x : Entry) (v : Bool) → IsNoClaim x → IsTimeless x → is_apart x ≡ true → SaysIt x v
      → IsAt (with_entry x (with_net (with_hearing e.net o l v) e)) s (note x run)
  at_ears x v no_claim timeless apart says = record {
    seed = at.seed;
    asked = at.asked ∙ sym (asked-same s run.past x no_claim);
    hears = ears x v says;
    posts = at.posts;
    flying = at.flying;
    spots = length-set e.net.hearing (spot o l) v ∙ at.spots;
    firsts = at.firsts;
    nodes = nodes-same e s run x timeless.unmoved at;
    count = at.count;
    pasts = at.pasts;
    agent_pasts = at.agent_pasts;
    mobile_pasts = at.mobile_pasts;
    outsiders = at.outsiders;
    numbers = at.numbers;
    now = now-same e s run x timeless at;
    history = history-same e s run x at;
    numbered = numbered_apart run.posts run.past x apart at.numbered;
  }

  says_new : (x : Entry) (v : Bool) → ((p m : ℕ) → listen_says p m x ≡ (if (p == o) && (m == l) then Some v else None)) → SaysIt x v
  says_new x v says p m =
      by ((p == o) && (m == l)) (hears_in run.past p m) ∙ sym (ap (λ (b : Option Bool). unwrap_or b (hears_in run.past p m)) (says p m))
    where
      by : (t b : Bool) → (if t then v else b) ≡ unwrap_or (if t then Some v else None) b
      by true b = refl
      by false b = refl

  says_same : (v : Bool) → hears_in run.past o l ≡ v → SaysIt Idle v
  says_same v same p m = grind (arith, nat_tests, same)

  hears_is : hears_of e.net.hearing o l ≡ hears_in run.past o l
  hears_is = ap (λ (f : ℕ → ℕ → Bool). f o l) at.hears

  pub at_listens : IsAt (with_entry (if not (hears_of e.net.hearing o l) then Listening o (link_id l) else Idle) (with_net (with_hearing e.net o l true) e)) s (listens run o l)
  at_listens = rw hears_is (by (hears_in run.past o l) refl)
    where
      by : (b : Bool) → hears_in run.past o l ≡ b
          → IsAt (with_entry (if not b then Listening o (link_id l) else Idle) (with_net (with_hearing e.net o l true) e)) s (note (if b then Idle else Listening o (link_id l)) run)
      by true is = at_ears Idle true quiet_idle.silent.claim quiet_idle.silent.timeless refl (says_same true is)
      by false is = at_ears (Listening o (link_id l)) true (record { holder = λ a. refl; declared = λ by. refl }) (timeless_listening o l) refl (says_new (Listening o (link_id l)) true (λ p m. refl))

  pub at_deafens : IsAt (with_entry (if hears_of e.net.hearing o l then Deafened o (link_id l) else Idle) (with_net (with_hearing e.net o l false) e)) s (deafens run o l)
  at_deafens = rw hears_is (by (hears_in run.past o l) refl)
    where
      by : (b : Bool) → hears_in run.past o l ≡ b
          → IsAt (with_entry (if b then Deafened o (link_id l) else Idle) (with_net (with_hearing e.net o l false) e)) s (note (if b then Deafened o (link_id l) else Idle) run)
      by true is = at_ears (Deafened o (link_id l)) false (record { holder = λ a. refl; declared = λ by. refl }) (timeless_deafened o l) refl (says_new (Deafened o (link_id l)) false (λ p m. refl))
      by false is = at_ears Idle false quiet_idle.silent.claim quiet_idle.silent.timeless refl (says_same false is)

-- what is noted of a claim
pub claimed_entry : (net : NetSeen) (who l : ℕ) (a : Address) → refusal net who a.0 ≡ None → Claimed who (link_id l) a ≡ claim_entry who a l (holder_of net.rows a.0)
claimed_entry net who l a free = by (is_some (link_of net.links a.0)) (holder_of net.rows a.0) free
  where
    by : (t : Bool) (o : Option ℕ) → (if t then taken_by o who else Some NoLink) ≡ None → Claimed who (link_id l) a ≡ claim_entry who a l o
    by true None e = refl
    by true (Some other) e = split (other == who) e
      where
        split : (b : Bool) → (if b then None else Some (TakenBy (holder_at other))) ≡ None → Claimed who (link_id l) a ≡ (if b then Claimed who (link_id l) a else Taken who (link_id l) a other)
        split true e = refl
        split false e = absurd cc
    by false o e = absurd cc

pub taken_entry : (net : NetSeen) (who l : ℕ) (by : Holder) (a : Address) → refusal net who a.0 ≡ Some (TakenBy by) → Taken who (link_id l) a (holder_number by) ≡ claim_entry who a l (holder_of net.rows a.0)
taken_entry net who l by a taken = parts (is_some (link_of net.links a.0)) (holder_of net.rows a.0) taken
  where
    parts : (t : Bool) (o : Option ℕ) → (if t then taken_by o who else Some NoLink) ≡ Some (TakenBy by) → Taken who (link_id l) a (holder_number by) ≡ claim_entry who a l o
    parts true None e = absurd cc
    parts true (Some other) e = split (other == who) e
      where
        split : (b : Bool) → (if b then None else Some (TakenBy (holder_at other))) ≡ Some (TakenBy by) → Taken who (link_id l) a (holder_number by) ≡ (if b then Claimed who (link_id l) a else Taken who (link_id l) a other)
        split true e = absurd cc
        split false e =
            let same : holder_at other ≡ by = cc in
            ap (λ (n : ℕ). Taken who (link_id l) a n) (ap holder_number (sym same) ∙ number-holder other)
    parts false o e = absurd cc

-- an outsider tries to take an address
pub at_squatted : (e : EngineSeen) (s : Setup) (run : Run) (who l : ℕ) (a : Address) → who < 40 → link_of e.net.links a.0 ≡ Some l → IsAt e s run
    → IsAt (with_entry (claim_entry who a l (holder_of e.net.rows a.0)) (with_net (claim_tried e.net who a) e)) s (note (claim_entry who a l (holder_in run.past a.0)) run)
at_squatted e s run who l a small is_link at =
    subst (λ (f : ℕ → Option ℕ). IsAt (with_entry (claim_entry who a l (holder_of e.net.rows a.0)) (with_net (claim_tried e.net who a) e)) s (note (claim_entry who a l (f a.0)) run))
    (ap (λ (q : Asked). q.holder) at.asked)
    (rw is_link (by (holder_of e.net.rows a.0)))
  where
    by : (o : Option ℕ) → IsAt (with_entry (claim_entry who a l o) (with_net (tried e.net who a (taken_by o who)) e)) s (note (claim_entry who a l o) run)
    by None = at_claimed e s run who l a small at
    by (Some other) = split (other == who)
      where
        split : (b : Bool) → IsAt (with_entry (if b then Claimed who (link_id l) a else Taken who (link_id l) a other) (with_net (tried e.net who a (if b then None else Some (TakenBy (holder_at other)))) e)) s (note (if b then Claimed who (link_id l) a else Taken who (link_id l) a other) run)
        split true = at_claimed e s run who l a small at
        split false = at_note e s run (Taken who (link_id l) a other) (quiet_taken who l a other) at

-- an outsider gives an address up
pub at_yielded : (e : EngineSeen) (s : Setup) (run : Run) (who l : ℕ) (a : Address) → IsAt e s run
    → IsAt (with_entry (if is_held_by (holder_of e.net.rows a.0) who then Released who (link_id l) a else Idle) (with_net (released e.net who a) e)) s (note (if is_held_by (holder_in run.past a.0) who then Released who (link_id l) a else Idle) run)
at_yielded e s run who l a at =
    subst (λ (f : ℕ → Option ℕ). IsAt (with_entry (if is_held_by (holder_of e.net.rows a.0) who then Released who (link_id l) a else Idle) (with_net (released e.net who a) e)) s (note (if is_held_by (f a.0) who then Released who (link_id l) a else Idle) run))
    (ap (λ (q : Asked). q.holder) at.asked)
    (by (is_held_by (holder_of e.net.rows a.0) who))
  where
    by : (b : Bool) → IsAt (with_entry (if b then Released who (link_id l) a else Idle) (with_net (if b then with_rows e.net (put e.net.rows a.0 None) else e.net) e)) s (note (if b then Released who (link_id l) a else Idle) run)
    by true = at_released e s run who l a at
    by false = at_note e s run Idle quiet_idle at
