-- The ends that a home agent waits for are those that its entries tell, as far as they lie ahead.
use Rattle.std.proofs.Common.{◌≡◌, ℕ, suc, ◌+◌, ◌≤◌, List, [], ◌∷◌, length, Bool, true, false, refl, sym, ap, ◌∙◌, arith}
use Rattle.std.specs.Prelude.{not, nat_lt, ◌==◌, if◌then◌else◌, Some, None, unwrap_or, slice_get}
use Rattle.std.specs.List.{insert, position_or_len}
use Rattle.std.proofs.lemmas.List.Sums.{prefix_len-le-length}
use Rattle.std.proofs.lemmas.Bool.{eq-eqb, ne_eqb}
use Rattle.std.proofs.lemmas.Bool.Decides.{nat_tests}
use Rattle.mip_words.specs.declared.address.Address.{Address}
use Rattle.mip_entries.specs.declared.entry.Entry.{Entry}
use Rattle.mip_entries.specs.declared.entry.Entry.TheVariants as entries
use Rattle.mip_rules_agent.specs.declared.ending.Ending.{Ending}
use Rattle.mip_rules_agent.specs.declared.home_binding.HomeBinding.{HomeBinding}
use Rattle.mip_rules_agent.specs.Known.{Known}
use Rattle.mip_rules_agent.specs.Calls.{Call, Hear}
use Rattle.mip_rules_agent.specs.Steps.{Step, Called, Sends, Registers, Claims, Releases, Denies, Drops, Rang, is_call}
use Rattle.mip_rules_agent.specs.Questions.{place_of, without_end, with_end, ends_with, later_ends, after}
use Rattle.mip_schedule.specs.declared.event.Event.{Event}
use Rattle.mip_history.specs.Setup.{Setup}
use Rattle.mip_history.specs.Setup.Kind.{Agent}
use Rattle.mip_history.specs.Permitted.{run_of}
use Rattle.mip_history.specs.Knowing.{now_in, agent_known_in}
use Rattle.mip_past.specs.Due.{ends_told, due_work_in}
use Rattle.mip_past.proofs.Silent.{is_loud}
use Rattle.mip_past.proofs.Telling.{IsDeaf}
use Rattle.mip_past.proofs.AgentWalk.{step_told, IsQuestion, told_run}

-- what lies ahead of a later moment
later-later : (now t : ℕ) → now ≤ t → (es : List Ending) → later_ends t (later_ends now es) ≡ later_ends t es
later-later now t early [] = refl
later-later now t early (e ∷ es) = by (nat_lt now e.end.0) (nat_lt t e.end.0) refl refl (later-later now t early es)
  where
    by : (soon late : Bool) → nat_lt now e.end.0 ≡ soon → nat_lt t e.end.0 ≡ late → later_ends t (later_ends now es) ≡ later_ends t es
        → later_ends t (if soon then e ∷ later_ends now es else later_ends now es) ≡ (if late then e ∷ later_ends t es else later_ends t es)
    by true true one two more = ap (λ (b : Bool). if b then e ∷ later_ends t (later_ends now es) else later_ends t (later_ends now es)) two ∙ ap (λ (l : List Ending). e ∷ l) more
    by true false one two more = ap (λ (b : Bool). if b then e ∷ later_ends t (later_ends now es) else later_ends t (later_ends now es)) two ∙ more
    by false true one two more = absurd (grind (arith, nat_tests, one, two, early))
    by false false one two more = more

-- the ends of other homes, as far as they lie ahead
without-later : (t : ℕ) (home : Address) (es : List Ending) → later_ends t (without_end home es) ≡ without_end home (later_ends t es)
without-later t home [] = refl
without-later t home (e ∷ es) = by (not (e.home.0 == home.0)) (nat_lt t e.end.0) refl refl (without-later t home es)
  where
    by : (other late : Bool) → not (e.home.0 == home.0) ≡ other → nat_lt t e.end.0 ≡ late → later_ends t (without_end home es) ≡ without_end home (later_ends t es)
        → later_ends t (if other then e ∷ without_end home es else without_end home es) ≡ without_end home (if late then e ∷ later_ends t es else later_ends t es)
    by true true one two more =
        ap (λ (b : Bool). if b then e ∷ later_ends t (without_end home es) else later_ends t (without_end home es)) two
        ∙ ap (λ (l : List Ending). e ∷ l) more
        ∙ sym (ap (λ (b : Bool). if b then e ∷ without_end home (later_ends t es) else without_end home (later_ends t es)) one)
    by true false one two more = ap (λ (b : Bool). if b then e ∷ later_ends t (without_end home es) else later_ends t (without_end home es)) two ∙ more
    by false true one two more = more ∙ sym (ap (λ (b : Bool). if b then e ∷ without_end home (later_ends t es) else without_end home (later_ends t es)) one)
    by false false one two more = more

-- an end is put in front of the first that comes later
abbrev put : Ending → List Ending → List Ending
put e [] = e ∷ []
put e (x ∷ xs) = if nat_lt e.end.0 x.end.0 then e ∷ x ∷ xs else x ∷ put e xs

insert_at : (e : Ending) (xs : List Ending) → insert xs (position_or_len (λ y. nat_lt e.end.0 y.end.0) xs) e ≡ put e xs
insert_at e [] = refl
insert_at e (y ∷ ys) = by (nat_lt e.end.0 y.end.0) (insert_at e ys)
  where
    by : (b : Bool) → insert ys (position_or_len (λ z. nat_lt e.end.0 z.end.0) ys) e ≡ put e ys
        → insert (y ∷ ys) (if not b then 1 + position_or_len (λ z. nat_lt e.end.0 z.end.0) ys else 0) e ≡ (if b then e ∷ y ∷ ys else y ∷ put e ys)
    by true more = refl
    by false more =
        let same : 1 + position_or_len (λ z. nat_lt e.end.0 z.end.0) ys ≡ suc (position_or_len (λ z. nat_lt e.end.0 z.end.0) ys) = omega arith in
        ap (λ (n : ℕ). insert (y ∷ ys) n e) same ∙ ap (λ (l : List Ending). y ∷ l) more

place_is : (end : ℕ) (es : List Ending) → place_of end es ≡ position_or_len (λ e. nat_lt end e.end.0) es
place_is end es =
    let a = position_or_len (λ e. nat_lt end e.end.0) es in
    let b = length es in
    let le : a ≤ b = prefix_len-le-length (λ e. not (nat_lt end e.end.0)) es in
    let P : Bool → Type 0 = λ v. nat_lt a b ≡ v → unwrap_or (if v then Some a else None) b ≡ a in
    (elim (nat_lt a b) as P [ true ↦ λ _. refl | false ↦ λ e. grind (arith, nat_tests) ]) refl

with_put : (e : Ending) (es : List Ending) → with_end e es ≡ put e es
with_put e es = ap (λ (n : ℕ). insert es n e) (place_is e.end.0 es) ∙ insert_at e es

-- as far as they lie ahead
later-put : (t : ℕ) (e : Ending) (es : List Ending) → later_ends t (put e es) ≡ (if nat_lt t e.end.0 then put e (later_ends t es) else later_ends t es)
later-put t e [] = refl
later-put t e (x ∷ xs) = by (nat_lt e.end.0 x.end.0) refl (later-put t e xs)
  where
    L : List Ending
    L = later_ends t xs

    before : nat_lt e.end.0 x.end.0 ≡ true → (new late : Bool) → nat_lt t e.end.0 ≡ new → nat_lt t x.end.0 ≡ late
        → (if new then e ∷ (if late then x ∷ L else L) else (if late then x ∷ L else L)) ≡ (if new then put e (if late then x ∷ L else L) else (if late then x ∷ L else L))
    before is true true one two = ap (λ (b : Bool). if b then e ∷ x ∷ L else x ∷ put e L) (sym is)
    before is true false one two = absurd (grind (arith, nat_tests, is, one, two))
    before is false true one two = refl
    before is false false one two = refl

    behind : nat_lt e.end.0 x.end.0 ≡ false → (new late : Bool) → later_ends t (put e xs) ≡ (if new then put e L else L)
        → (if late then x ∷ later_ends t (put e xs) else later_ends t (put e xs)) ≡ (if new then put e (if late then x ∷ L else L) else (if late then x ∷ L else L))
    behind is true true more = ap (λ (l : List Ending). x ∷ l) more ∙ ap (λ (b : Bool). if b then e ∷ x ∷ L else x ∷ put e L) (sym is)
    behind is true false more = more
    behind is false true more = ap (λ (l : List Ending). x ∷ l) more
    behind is false false more = more

    by : (first : Bool) → nat_lt e.end.0 x.end.0 ≡ first → later_ends t (put e xs) ≡ (if nat_lt t e.end.0 then put e L else L)
        → later_ends t (if first then e ∷ x ∷ xs else x ∷ put e xs) ≡ (if nat_lt t e.end.0 then put e (later_ends t (x ∷ xs)) else later_ends t (x ∷ xs))
    by true is more = before is (nat_lt t e.end.0) (nat_lt t x.end.0) refl refl
    by false is more = behind is (nat_lt t e.end.0) (nat_lt t x.end.0) more

later-with : (t : ℕ) (e : Ending) (es : List Ending) → later_ends t (with_end e es) ≡ (if nat_lt t e.end.0 then put e (later_ends t es) else later_ends t es)
later-with t e es = ap (later_ends t) (with_put e es) ∙ later-put t e es

-- what lies ahead behind a registration follows from what lay ahead in front of it
pub later-registered : (t : ℕ) (home : Address) (b : HomeBinding) (es fs : List Ending) → later_ends t es ≡ later_ends t fs → later_ends t (ends_with home b es) ≡ later_ends t (ends_with home b fs)
later-registered t home b es fs same = by (b.careof.0 == home.0)
  where
    e : Ending
    e = record { home = home; end = b.end }

    others : later_ends t (without_end home es) ≡ later_ends t (without_end home fs)
    others = without-later t home es ∙ ap (without_end home) same ∙ sym (without-later t home fs)

    by : (ends : Bool)
        → later_ends t (if ends then without_end home es else with_end (record { home = home; end = b.end }) (without_end home es))
        ≡ later_ends t (if ends then without_end home fs else with_end (record { home = home; end = b.end }) (without_end home fs))
    by true = others
    by false =
        later-with t e (without_end home es)
        ∙ ap (λ (l : List Ending). if nat_lt t e.end.0 then put e l else l) others
        ∙ sym (later-with t e (without_end home fs))

module _ (m : ℕ) where
  ends_silent : (es : List Ending) (e : Entry) → is_loud e ≡ false → ends_told m es e ≡ es
  ends_silent es (entries.Home node home careof sequence end) quiet = absurd cc
  ends_silent es (entries.Restarted node) quiet = absurd cc
  ends_silent es _ quiet = refl

  ends_deaf : IsDeaf m (List Ending) (ends_told m)
  ends_deaf = record {
    silent = ends_silent;
    home = λ es n home careof sequence end other. ap (λ (b : Bool). if b then ends_with home (record { careof = careof; sequence = sequence; end = end }) es else es) (ne_eqb m n other);
    place = λ es n address other. refl;
    life = λ es n other. ap (λ (b : Bool). if b then [] else es) (ne_eqb m n other);
    advert = λ es n link router other. refl;
  }

  -- those ahead are told, at this moment and later
  abbrev AreAhead : ℕ → List Ending → Known → Type 0
  AreAhead now es k = (t : ℕ) → now ≤ t → later_ends t es ≡ later_ends t k.ends

  ends_called : (now : ℕ) (es : List Ending) (k : Known) (c : Call) → AreAhead now es k → AreAhead now es (after k (record { at = now; step = Called c }))
  unfolding after
  ends_called now es k c ahead = ahead

  ends_stepped : (now : ℕ) (es : List Ending) (k : Known) (step : Step) → is_call step ≡ false → AreAhead now es k → AreAhead now (step_told (ends_told m) m es step) (after k (record { at = now; step = step }))
  unfolding after
  ends_stepped now es k (Called call) silent ahead = absurd cc
  ends_stepped now es k (Registers number home b) silent ahead = λ t early.
      ap (λ (same : Bool). later_ends t (if same then ends_with home b es else es)) (eq-eqb m m refl) ∙ later-registered t home b es k.ends (ahead t early)
  ends_stepped now es k Rang silent ahead = λ t early. ahead t early ∙ sym (later-later now t early k.ends)
  ends_stepped now es k (Sends shield packet) silent ahead = ahead
  ends_stepped now es k (Claims home) silent ahead = ahead
  ends_stepped now es k (Releases home) silent ahead = ahead
  ends_stepped now es k (Denies number status) silent ahead = ahead
  ends_stepped now es k (Drops number why) silent ahead = ahead

  ends_question : (s : Setup) (serves : List Address) → IsQuestion s m serves (List Ending) (ends_told m) [] AreAhead
  ends_question s serves = record {
    deaf = ends_deaf;
    timed = λ now u es k early ahead. λ t late. ahead t (omega (arith, early, late));
    first = λ t early. refl;
    born = λ now es k ahead. λ t early. ap (λ (b : Bool). later_ends t (if b then [] else es)) (eq-eqb m m refl);
    called = λ now es k c quiet ahead. ends_called now es k c ahead;
    heard = λ now es k link other r at ahead. ends_called now es k (Hear r.address r.preference r.life) ahead;
    stepped = ends_stepped;
  }

-- the work that an agent is asked for is what it waits for
pub due_as_told : (s : Setup) (events : List Event) (n : ℕ) (own : Address) (preference life room : ℕ) (serves : List Address)
    → slice_get s.hosts n ≡ Some (record { address = own; kind = Agent preference life room serves }) → (now : ℕ) → now_in s (run_of s events) ≤ now
    → due_work_in now (run_of s events).past n ≡ later_ends now (agent_known_in (run_of s events) n serves).ends
due_as_told s events n own preference life room serves host now early =
    let t = told_run s n own preference life room serves host (List Ending) (ends_told n) [] (AreAhead n) (ends_question n s serves) events in
    t.joined now early
