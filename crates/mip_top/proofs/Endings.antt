-- How runs end, by kinds of command.
use Rattle.std.proofs.Common.{◌≡◌, ℕ, ◌≤◌, ◌⊎◌, inl, inr, true, false, true≢false, refl, sym, ◌∙◌, subst, arith, List}
use Rattle.std.specs.Prelude.{◌≢◌, Option, Result, Ok, Err, IfOk, OnErr}
use Rattle.std.specs.Io.KnownBytes.{IsAtEnd}
use Rattle.mip_words.specs.declared.memory.Memory.{Memory}
use Rattle.mip_outside.specs.Cause.{Rose}
use Rattle.mip_commands.specs.declared.command.Command.{Command}
use Rattle.mip_replies.specs.declared.status.Status.{Status}
use Rattle.mip_replies.specs.Told.{IsStatus}
use Rattle.mip_top.specs.Answers.{takes_nothing, serves}
use Rattle.mip_top.specs.Endings.{Objects, objects, Ends}

-- the status of a text that was told whole is small; else the sink failed, or memory ran out
told_small : (n status : ℕ) → n ≤ 1 → (status ≡ n) ⊎ ((status ≡ 4) ⊎ (status ≡ 5)) → (status ≤ 5) × ((status ≡ 3 → ⊥) × (status ≡ 7 → ⊥))
told_small n status small (inl is) = (omega arith, ((λ three. omega arith), (λ seven. omega arith)))
told_small n status small (inr (inl is)) = (omega arith, ((λ three. omega arith), (λ seven. omega arith)))
told_small n status small (inr (inr is)) = (omega arith, ((λ three. omega arith), (λ seven. omega arith)))

module _ {S C L : Type 0} (command : Option Command) (status : ℕ) (old : Objects S C L) where
  -- memory ran out before anything was done
  pub ends_early : status ≡ 5 → Ends command status old old
  ends_early five = record {
    statuses = omega arith;
    untouched = λ none. refl;
    at_end = λ takes zero. let no : ⊥ = omega arith in absurd no;
    read_fault = λ three. let no : ⊥ = omega arith in absurd no;
    read_fault_text = λ three. refl;
    write_fault = λ four. let no : ⊥ = omega arith in absurd no;
    link_fault = λ seven. let no : ⊥ = omega arith in absurd no;
    link_fault_served = λ idle seven. omega arith;
    source_faults = omega arith;
    sink_faults = omega arith;
    link_faults = omega arith;
    clock = λ idle. refl;
    link = λ idle. refl;
  }

  -- a text was told that takes nothing from the source
  pub ends_told : (n : ℕ) (held : Option (List ℕ)) (sink_faults : ℕ) → takes_nothing command ≡ true → n ≤ 1 → (status ≡ n) ⊎ ((status ≡ 4) ⊎ (status ≡ 5))
      → (status ≡ 4 → Rose old.sink_faults sink_faults) → old.sink_faults ≤ sink_faults
      → Ends command status old (objects old.source old.left old.source_faults held sink_faults old.clock old.link old.link_faults)
  ends_told n held sink_faults none small is failed no_fewer =
      let s = told_small n status small is in
      record {
        statuses = omega (arith, s.0);
        untouched = λ none. refl;
        at_end = λ takes zero. absurd (true≢false (sym none ∙ takes));
        read_fault = λ three. absurd (s.1.0 three);
        read_fault_text = λ three. absurd (s.1.0 three);
        write_fault = failed;
        link_fault = λ seven. absurd (s.1.1 seven);
        link_fault_served = λ idle seven. s.1.1 seven;
        source_faults = omega arith;
        sink_faults = no_fewer;
        link_faults = omega arith;
        clock = λ idle. refl;
        link = λ idle. refl;
      }

  -- the input was answered by a text
  pub ends_answered : (source : S) (left : Option (List ℕ)) (source_faults : ℕ) (held : Option (List ℕ)) (sink_faults : ℕ) → takes_nothing command ≡ false
      → IsStatus status × (status ≢ 1) × (status ≢ 7) → (status ≡ 0 → IsAtEnd left) → (status ≡ 3 → Rose old.source_faults source_faults) → (status ≡ 3 → held ≡ old.held)
      → (status ≡ 4 → Rose old.sink_faults sink_faults) → old.source_faults ≤ source_faults → old.sink_faults ≤ sink_faults
      → Ends command status old (objects source left source_faults held sink_faults old.clock old.link old.link_faults)
  ends_answered source left source_faults held sink_faults takes is end unread kept failed no_fewer few = record {
    statuses = is.0;
    untouched = λ none. absurd (true≢false (sym none ∙ takes));
    at_end = λ takes. end;
    read_fault = unread;
    read_fault_text = kept;
    write_fault = failed;
    link_fault = λ seven. absurd (is.2 seven);
    link_fault_served = λ idle. is.2;
    source_faults = no_fewer;
    sink_faults = few;
    link_faults = omega arith;
    clock = λ idle. refl;
    link = λ idle. refl;
  }

  -- a node or a hub was run
  pub ends_served : (source : S) (left : Option (List ℕ)) (source_faults : ℕ) (held : Option (List ℕ)) (sink_faults : ℕ) (clock : C) (link : L) (link_faults : ℕ)
      → takes_nothing command ≡ false → serves command ≡ true → (status ≤ 7) × (status ≢ 1) → (status ≡ 0 → IsAtEnd left)
      → (status ≡ 3 → Rose old.source_faults source_faults) → (status ≡ 3 → held ≡ old.held) → (status ≡ 4 → Rose old.sink_faults sink_faults)
      → (status ≡ 7 → Rose old.link_faults link_faults) → (old.source_faults ≤ source_faults) × (old.sink_faults ≤ sink_faults) × (old.link_faults ≤ link_faults)
      → Ends command status old (objects source left source_faults held sink_faults clock link link_faults)
  ends_served source left source_faults held sink_faults clock link link_faults takes runs is end unread kept failed broke no_fewer = record {
    statuses = omega (arith, is.0);
    untouched = λ none. absurd (true≢false (sym none ∙ takes));
    at_end = λ takes. end;
    read_fault = unread;
    read_fault_text = kept;
    write_fault = failed;
    link_fault = broke;
    link_fault_served = λ idle. absurd (true≢false (sym runs ∙ idle));
    source_faults = no_fewer.0;
    sink_faults = no_fewer.1;
    link_faults = no_fewer.2;
    clock = λ idle. absurd (true≢false (sym runs ∙ idle));
    link = λ idle. absurd (true≢false (sym runs ∙ idle));
  }

-- ---- what waits was put on

was_zero : (given result : ℕ) → (result ≡ given) ⊎ ((result ≡ 4) ⊎ (result ≡ 5)) → result ≡ 0 → given ≡ 0
was_zero given result (inl is) zero = omega arith
was_zero given result (inr (inl is)) zero = let no : ⊥ = omega arith in absurd no
was_zero given result (inr (inr is)) zero = let no : ⊥ = omega arith in absurd no

was_three : (given result : ℕ) → (result ≡ given) ⊎ ((result ≡ 4) ⊎ (result ≡ 5)) → result ≡ 3 → given ≡ 3
was_three given result (inl is) three = omega arith
was_three given result (inr (inl is)) three = let no : ⊥ = omega arith in absurd no
was_three given result (inr (inr is)) three = let no : ⊥ = omega arith in absurd no

was_seven : (given result : ℕ) → (result ≡ given) ⊎ ((result ≡ 4) ⊎ (result ≡ 5)) → result ≡ 7 → given ≡ 7
was_seven given result (inl is) seven = omega arith
was_seven given result (inr (inl is)) seven = let no : ⊥ = omega arith in absurd no
was_seven given result (inr (inr is)) seven = let no : ⊥ = omega arith in absurd no

is_status : (given result : ℕ) → IsStatus given → (result ≡ given) ⊎ ((result ≡ 4) ⊎ (result ≡ 5)) → IsStatus result
is_status given result fits (inl is) = omega (arith, fits)
is_status given result fits (inr (inl is)) = omega arith
is_status given result fits (inr (inr is)) = omega arith

rises : (first mid last : ℕ) → first ≤ mid → Rose mid last → Rose first last
rises first mid last no_fewer (inl more) = inl (omega arith)
rises first mid last no_fewer (inr most) = inr most

failed_then : (given first mid last : ℕ) → (given ≡ 4 → Rose first mid) → first ≤ mid → ((given ≡ 4) × (last ≡ mid)) ⊎ Rose mid last → Rose first last
failed_then given first mid last failed no_fewer (inl is) = subst (Rose first) (sym is.1) (failed is.0)
failed_then given first mid last failed no_fewer (inr rose) = rises first mid last no_fewer rose

pub ends_flushed : {S C L : Type 0} (command : Option Command) (given result : ℕ) (old : Objects S C L) (source : S) (left : Option (List ℕ)) (source_faults : ℕ)
    (held last : Option (List ℕ)) (mid_faults last_faults : ℕ) (clock : C) (link : L) (link_faults : ℕ)
    → Ends command given old (objects source left source_faults held mid_faults clock link link_faults) → last ≡ held → (result ≡ given) ⊎ ((result ≡ 4) ⊎ (result ≡ 5))
    → mid_faults ≤ last_faults → (result ≡ 4 → ((given ≡ 4) × (last_faults ≡ mid_faults)) ⊎ Rose mid_faults last_faults)
    → Ends command result old (objects source left source_faults last last_faults clock link link_faults)
ends_flushed command given result old source left source_faults held last mid_faults last_faults clock link link_faults e kept is no_fewer failed = record {
  statuses = is_status given result e.statuses is;
  untouched = e.untouched;
  at_end = λ takes zero. e.at_end takes (was_zero given result is zero);
  read_fault = λ three. e.read_fault (was_three given result is three);
  read_fault_text = λ three. kept ∙ e.read_fault_text (was_three given result is three);
  write_fault = λ four. failed_then given old.sink_faults mid_faults last_faults e.write_fault e.sink_faults (failed four);
  link_fault = λ seven. e.link_fault (was_seven given result is seven);
  link_fault_served = λ idle seven. e.link_fault_served idle (was_seven given result is seven);
  source_faults = e.source_faults;
  sink_faults = let most = e.sink_faults in omega (arith, most, no_fewer);
  link_faults = e.link_faults;
  clock = e.clock;
  link = e.link;
}

-- ---- how a process ends

pub ends_on : {S C L : Type 0} (command : Option Command) (old new : Objects S C L) (o : Result Status Memory) (s : Status) → IfOk o (λ x. s ≡ x) → OnErr o (s.0 ≡ 5)
    → IfOk o (λ x. Ends command x.0 old new) → OnErr o (new ≡ old) → Ends command s.0 old new
ends_on command old new (Ok x) s same five ends early = subst (λ (y : Status). Ends command y.0 old new) (sym same) ends
ends_on command old new (Err e) s same five ends early = subst (λ (n : Objects _ _ _). Ends command s.0 old n) (sym early) (ends_early command s.0 old five)
