-- What was obeyed of some bytes was obeyed of all that the source tells.
use Rattle.std.proofs.Common.{◌≡◌, ℕ, ◌<◌, ◌≤◌, ◌⊎◌, inl, inr, true, false, true≢false, refl, sym, ap, ◌∙◌, subst, arith, List, [], ◌++◌, length, append-nil, length-append}
use Rattle.std.specs.Prelude.{Option, Some, None, Result, Ok, Err, IfSome, unwrap_or, is_some, nat_lt}
use Rattle.std.specs.Io.KnownBytes.{prepend_known, IsAtEnd}
use Rattle.std.proofs.lemmas.Bool.{cases_Bool, cases_order, lt-ltb, le-ltb}
use Rattle.mip_outside.proofs.Known.{append_none, prepend_none}
use Rattle.mip_commands.specs.declared.command.Command.{Command}
use Rattle.mip_commands.specs.declared.command.Command.TheVariants.{Replay, Decode, Claims, Audit, Make, Sum, Node, Hub}
use Rattle.mip_symbols.specs.declared.reason.Reason.{Reason}
use Rattle.mip_schedule.specs.Faults.{Wrong}
use Rattle.mip_config.specs.Configs as configs
use Rattle.mip_config.specs.Reading as nodes
use Rattle.mip_hub.specs.Reading as hubs
use Rattle.mip_replies.specs.Answers.{Answer, long_answer, bad_answer}
use Rattle.mip_replies.specs.Told.{Told, IsAnswered}
use Rattle.mip_top.specs.Answers.{answer_to, configured, refusal, takes_nothing}
use Rattle.mip_top.specs.Serving.{Outside, outside, NodeServed, HubServed, IsIdle, IsStopped}
use Rattle.mip_top.specs.Obeyed.{IsRunBy, IsServed, Obeys, ObeysFlushed, IsObeyed}

-- ---- where reading stopped, or memory ran out, nothing of any answer was told, and no node or hub was run

no_end : (given : ℕ) → (given ≡ 3 → ⊥) → (given ≡ 5 → ⊥) → (given ≡ 3) ⊎ (given ≡ 5) → ⊥
no_end given not3 not5 (inl is) = not3 is
no_end given not3 not5 (inr is) = not5 is

no_write : (given : ℕ) → given ≡ 4 → (given ≡ 3) ⊎ (given ≡ 5) → ⊥
no_write given four (inl is) = omega (arith, four, is)
no_write given four (inr is) = omega (arith, four, is)

no_ok : (given : ℕ) → given ≡ 0 → (given ≡ 3) ⊎ (given ≡ 5) → ⊥
no_ok given zero (inl is) = omega (arith, zero, is)
no_ok given zero (inr is) = omega (arith, zero, is)

stopped_told : (answer : Answer) (given : ℕ) (old new : Outside) → IsStopped given old new → Told answer given old.held new.held
stopped_told answer given old new is = record {
  conclusive = λ s. absurd (no_end given s.no_read_fault s.no_want_of_memory is.fault);
  part = λ four. absurd (no_write given four is.fault);
  front = (0, append_none _ _ is.unwritten);
}

stopped_answer : (o : Option Answer) (given : ℕ) (old new : Outside) → IsStopped given old new → IfSome o (λ answer. Told answer given old.held new.held)
stopped_answer None given old new is = tt
stopped_answer (Some answer) given old new is = stopped_told answer given old new is

stopped_run : {X : Type 0} (P : X → Type 0) (o : Option X) (given : ℕ) (old new : Outside) → IsStopped given old new → IsRunBy o P given old new
stopped_run P None given old new is = is.idle
stopped_run P (Some c) given old new is = inr is

stopped_served : (command : Option Command) (bytes : List ℕ) (given : ℕ) (old new : Outside) → IsStopped given old new → IsServed command bytes given old new
stopped_served None bytes given old new is = tt
stopped_served (Some Replay) bytes given old new is = tt
stopped_served (Some Decode) bytes given old new is = tt
stopped_served (Some (Claims ask)) bytes given old new is = tt
stopped_served (Some Audit) bytes given old new is = tt
stopped_served (Some (Make draft)) bytes given old new is = tt
stopped_served (Some (Sum draft)) bytes given old new is = tt
stopped_served (Some (Node turns)) bytes given old new is = stopped_run (λ c. NodeServed c turns given old new) (configured nodes.reading bytes) given old new is
stopped_served (Some (Hub turns)) bytes given old new is = stopped_run (λ c. HubServed c turns given old new) (configured hubs.reading bytes) given old new is

pub stopped : (command : Option Command) (bytes : List ℕ) (given : ℕ) (old new : Outside) → IsStopped given old new → Obeys command bytes given old new
stopped command bytes given old new is = record {
  told = stopped_answer (answer_to command bytes) given old new is;
  served = stopped_served command bytes given old new is;
}

-- clock and link were left alone, whatever was written
pub idle : (o : Outside) (held : Option (List ℕ)) → IsIdle o (outside held o.ahead o.coming o.sent o.port o.calls)
idle o held = record { unread = refl; untaken = refl; unsent = refl; unmoved = refl; uncalled = refl }

-- nothing outside was touched
pub untouched : (given : ℕ) (old new : Outside) → (given ≡ 3) ⊎ (given ≡ 5) → new ≡ old → IsStopped given old new
untouched given old new fault same = record {
  fault = fault;
  unwritten = ap (λ (o : Outside). o.held) same;
  idle = subst (λ (o : Outside). IsIdle old o) (sym same) (idle old old.held);
}

-- and nothing waited in the sink
pub stopped_flushed : (command : Option Command) (bytes : List ℕ) (given : ℕ) (old new : Outside) → IsStopped given old new → ObeysFlushed command bytes given old new
stopped_flushed command bytes given old new is = record { given = given; flushed = inl refl; obeys = stopped command bytes given old new is }

pub always : (command : Option Command) (given : ℕ) (left : Option (List ℕ)) (old new : Outside) → IsStopped given old new
    → IfSome left (λ bytes. Obeys command bytes given old new)
always command given None old new is = tt
always command given (Some bytes) old new is = stopped command bytes given old new is

-- ---- a command that takes nothing from the input is obeyed alike for all bytes

same : (command : Option Command) (bytes all : List ℕ) (given : ℕ) (old new : Outside) → takes_nothing command ≡ true → Obeys command bytes given old new
    → Obeys command all given old new
same None bytes all given old new none is = record { told = is.told; served = tt }
same (Some (Make draft)) bytes all given old new none is = record { told = is.told; served = tt }
same (Some (Sum draft)) bytes all given old new none is = record { told = is.told; served = tt }
same (Some Replay) bytes all given old new none is = absurd (true≢false (sym none))
same (Some Decode) bytes all given old new none is = absurd (true≢false (sym none))
same (Some (Claims ask)) bytes all given old new none is = absurd (true≢false (sym none))
same (Some Audit) bytes all given old new none is = absurd (true≢false (sym none))
same (Some (Node turns)) bytes all given old new none is = absurd (true≢false (sym none))
same (Some (Hub turns)) bytes all given old new none is = absurd (true≢false (sym none))

-- ---- bytes that are too many are answered alike

abbrev Many : List ℕ → Type 0
Many bytes = 16777216 < length bytes

is_many : (bytes : List ℕ) → Many bytes → nat_lt 16777216 (length bytes) ≡ true
is_many bytes many = lt-ltb 16777216 (length bytes) many

long : (command : Command) (bytes : List ℕ) → takes_nothing (Some command) ≡ false → Many bytes → answer_to (Some command) bytes ≡ Some long_answer
long Replay bytes takes many = rw (is_many bytes many) refl
long Decode bytes takes many = rw (is_many bytes many) refl
long (Claims ask) bytes takes many = rw (is_many bytes many) refl
long Audit bytes takes many = rw (is_many bytes many) refl
long (Node turns) bytes takes many = rw (is_many bytes many) refl
long (Hub turns) bytes takes many = rw (is_many bytes many) refl
long (Make draft) bytes takes many = absurd (true≢false takes)
long (Sum draft) bytes takes many = absurd (true≢false takes)

unserved : (command : Command) (bytes : List ℕ) (given : ℕ) (old new : Outside) → Many bytes → IsIdle old new → IsServed (Some command) bytes given old new
unserved Replay bytes given old new many is = tt
unserved Decode bytes given old new many is = tt
unserved (Claims ask) bytes given old new many is = tt
unserved Audit bytes given old new many is = tt
unserved (Make draft) bytes given old new many is = tt
unserved (Sum draft) bytes given old new many is = tt
unserved (Node turns) bytes given old new many is = rw (is_many bytes many) is
unserved (Hub turns) bytes given old new many is = rw (is_many bytes many) is

unserved_alike : (command : Command) (bytes all : List ℕ) (given : ℕ) (old new : Outside) → Many bytes → Many all → IsServed (Some command) bytes given old new
    → IsServed (Some command) all given old new
unserved_alike Replay bytes all given old new many more is = tt
unserved_alike Decode bytes all given old new many more is = tt
unserved_alike (Claims ask) bytes all given old new many more is = tt
unserved_alike Audit bytes all given old new many more is = tt
unserved_alike (Make draft) bytes all given old new many more is = tt
unserved_alike (Sum draft) bytes all given old new many more is = tt
unserved_alike (Node turns) bytes all given old new many more is = rw (is_many all more) (rw (is_many bytes many) at is)
unserved_alike (Hub turns) bytes all given old new many more is = rw (is_many all more) (rw (is_many bytes many) at is)

many_alike : (command : Option Command) (bytes all : List ℕ) (given : ℕ) (old new : Outside) → takes_nothing command ≡ false → Many bytes → Many all
    → Obeys command bytes given old new → Obeys command all given old new
many_alike None bytes all given old new takes many more is = absurd (true≢false takes)
many_alike (Some command) bytes all given old new takes many more is = record {
  told = subst (λ (o : Option Answer). IfSome o (λ answer. Told answer given old.held new.held)) (long command bytes takes many ∙ sym (long command all takes more)) is.told;
  served = unserved_alike command bytes all given old new many more is.served;
}

-- ---- what was obeyed of the bytes that were taken was obeyed of all that there were

to_end : (command : Option Command) (bytes rest : List ℕ) (given : ℕ) (old new : Outside) → takes_nothing command ≡ false → (length bytes ≤ 16777216 → rest ≡ [])
    → Obeys command bytes given old new → (length bytes ≤ 16777216) ⊎ Many bytes → Obeys command (bytes ++ rest) given old new
to_end command bytes rest given old new takes end is (inl few) =
    subst (λ (l : List ℕ). Obeys command l given old new) (sym (ap (λ (l : List ℕ). bytes ++ l) (end few) ∙ append-nil bytes)) is
to_end command bytes rest given old new takes end is (inr many) =
    many_alike command bytes (bytes ++ rest) given old new takes many (omega (arith, many, length-append bytes rest)) is

few_or_many : (n : ℕ) → (n ≤ 16777216) ⊎ (16777216 < n)
few_or_many n = elim (cases_order n 16777216) as (λ _. (n ≤ 16777216) ⊎ (16777216 < n)) [
  | inl e ↦ inl (omega (arith, e))
  | inr (inl below) ↦ inl (omega (arith, below))
  | inr (inr above) ↦ inr above
]

by_read : (command : Option Command) (bytes rest : List ℕ) (given : ℕ) (old new : Outside) → (takes_nothing command ≡ true) ⊎ (takes_nothing command ≡ false)
    → (takes_nothing command ≡ true) ⊎ ((length bytes ≤ 16777216 → rest ≡ []) ⊎ IsStopped given old new)
    → Obeys command bytes given old new → Obeys command (bytes ++ rest) given old new
by_read command bytes rest given old new (inl none) read is = same command bytes (bytes ++ rest) given old new none is
by_read command bytes rest given old new (inr takes) (inl none) is = absurd (true≢false (sym none ∙ takes))
by_read command bytes rest given old new (inr takes) (inr (inl end)) is = to_end command bytes rest given old new takes end is (few_or_many (length bytes))
by_read command bytes rest given old new (inr takes) (inr (inr stop)) is = stopped command (bytes ++ rest) given old new stop

pub whole : (command : Option Command) (bytes : List ℕ) (given : ℕ) (left_old left_new : Option (List ℕ)) (old new : Outside)
    → IsObeyed command bytes given left_old left_new old new → IfSome left_old (λ all. Obeys command all given old new)
whole command bytes given None left_new old new is = tt
whole command bytes given (Some all) None old new is = absurd (true≢false (ap (λ (o : Option (List ℕ)). is_some o) is.taken))
whole command bytes given (Some all) (Some rest) old new is =
    subst (λ (l : List ℕ). Obeys command l given old new) (sym (ap (λ (o : Option (List ℕ)). unwrap_or o []) is.taken))
    (by_read command bytes rest given old new (cases_Bool (takes_nothing command)) is.read is.obeys)

-- ---- status 0 comes only where the input was read to its end

not_long : (command : Option Command) (bytes : List ℕ) (given : ℕ) (old new : Outside) → takes_nothing command ≡ false → given ≡ 0 → Obeys command bytes given old new
    → Many bytes → ⊥
not_long None bytes given old new takes zero is many = absurd (true≢false takes)
not_long (Some command) bytes given old new takes zero is many =
    let told : Told long_answer given old.held new.held =
    subst (λ (o : Option Answer). IfSome o (λ answer. Told answer given old.held new.held)) (long command bytes takes many) is.told in
    let says = told.conclusive (record {
      no_read_fault = λ e. omega (arith, zero, e);
      no_write_fault = λ e. omega (arith, zero, e);
      no_want_of_memory = λ e. omega (arith, zero, e);
      no_link_fault = λ e. omega (arith, zero, e);
    }) in
    omega (arith, zero, says.0)

end_by_read : (command : Option Command) (bytes : List ℕ) (given : ℕ) (left_new : Option (List ℕ)) (old new : Outside) → takes_nothing command ≡ false → given ≡ 0
    → (takes_nothing command ≡ true) ⊎ ((length bytes ≤ 16777216 → IsAtEnd left_new) ⊎ IsStopped given old new)
    → Obeys command bytes given old new → (length bytes ≤ 16777216) ⊎ Many bytes → IsAtEnd left_new
end_by_read command bytes given left_new old new takes zero (inl none) is size = absurd (true≢false (sym none ∙ takes))
end_by_read command bytes given left_new old new takes zero (inr (inr stop)) is size = absurd (no_ok given zero stop.fault)
end_by_read command bytes given left_new old new takes zero (inr (inl end)) is (inl few) = end few
end_by_read command bytes given left_new old new takes zero (inr (inl end)) is (inr many) = absurd (not_long command bytes given old new takes zero is many)

pub at_end : (command : Option Command) (bytes : List ℕ) (given : ℕ) (left_old left_new : Option (List ℕ)) (old new : Outside)
    → IsObeyed command bytes given left_old left_new old new → takes_nothing command ≡ false → given ≡ 0 → IsAtEnd left_new
at_end command bytes given left_old left_new old new is takes zero =
    end_by_read command bytes given left_new old new takes zero is.read is.obeys (few_or_many (length bytes))

-- ---- each kind of command

-- nothing is taken for it
pub untaken : (command : Option Command) (given : ℕ) (left_old left_new : Option (List ℕ)) (old new : Outside) → takes_nothing command ≡ true → left_new ≡ left_old
    → Obeys command [] given old new → (bytes : List ℕ) × IsObeyed command bytes given left_old left_new old new
untaken command given left_old left_new old new none kept is = (
  [],
  record {
    most = omega arith;
    taken = prepend_none _ _ kept;
    obeys = is;
    read = inl none;
  },
)

stops : (given : ℕ) (old new : Outside) → IsIdle old new → (P : Type 0) → P ⊎ (((given ≡ 3) ⊎ (given ≡ 5)) × (new.held ≡ old.held)) → P ⊎ IsStopped given old new
stops given old new idle P (inl end) = inl end
stops given old new idle P (inr stop) = inr (record { fault = stop.0; unwritten = stop.1; idle = idle })

-- the input is answered by a text
pub answered : (command : Option Command) (answer : List ℕ → Answer) (given : ℕ) (left_old left_new : Option (List ℕ)) (old new : Outside)
    → ((bytes : List ℕ) → answer_to command bytes ≡ Some (answer bytes)) → ((bytes : List ℕ) → IsServed command bytes given old new) → IsIdle old new
    → ((bytes : List ℕ) × IsAnswered answer bytes given left_old left_new old.held new.held)
    → (bytes : List ℕ) × IsObeyed command bytes given left_old left_new old new
answered command answer given left_old left_new old new by_text unserved idle a = (
  a.0,
  record {
    most = a.1.most;
    taken = a.1.taken;
    obeys = record {
      told = subst (λ (o : Option Answer). IfSome o (λ answer. Told answer given old.held new.held)) (sym (by_text a.0)) a.1.told;
      served = unserved a.0;
    };
    read = inr (stops given old new idle _ a.1.read);
  },
)

-- the input could not be read
pub unread : (command : Option Command) (given : ℕ) (left_old left_new : Option (List ℕ)) (old new : Outside) → IsStopped given old new
    → ((bytes : List ℕ) × (length bytes ≤ 16777217) × (left_old ≡ prepend_known bytes left_new)) → (bytes : List ℕ) × IsObeyed command bytes given left_old left_new old new
unread command given left_old left_new old new stop some = (
  some.0,
  record {
    most = some.1;
    taken = some.2;
    obeys = stopped command some.0 given old new stop;
    read = inr (inr stop);
  },
)

-- ---- a configuration, and its run

long_obeyed_by : (command : Command) (bytes : List ℕ) (given : ℕ) (old new : Outside) → takes_nothing (Some command) ≡ false → Many bytes
    → IsIdle old new → Told long_answer given old.held new.held → Obeys (Some command) bytes given old new
long_obeyed_by command bytes given old new takes many idle told = record {
  told = subst (λ (o : Option Answer). IfSome o (λ answer. Told answer given old.held new.held)) (sym (long command bytes takes many)) told;
  served = unserved command bytes given old new many idle;
}

pub long_obeyed : (command : Command) (bytes : List ℕ) (given : ℕ) (old new : Outside) → takes_nothing (Some command) ≡ false → 16777216 < length bytes
    → IsIdle old new → Told long_answer given old.held new.held → Obeys (Some command) bytes given old new
long_obeyed command bytes given old new takes many idle told = long_obeyed_by command bytes given old new takes many idle told

module _ {X : Type 0} (reading : List ℕ → Result X Wrong) (bytes : List ℕ) (few : length bytes ≤ 16777216) where
  is_few : nat_lt 16777216 (length bytes) ≡ false
  is_few = le-ltb 16777216 (length bytes) few

  right_unrefused : (c : X) → reading bytes ≡ Ok c → refusal reading bytes ≡ None
  right_unrefused c is = rw (is_few, is) refl

  right_configured : (c : X) → reading bytes ≡ Ok c → configured reading bytes ≡ Some c
  right_configured c is = rw (is_few, is) refl

  wrong_refused : (line : ℕ) (why : Reason) → reading bytes ≡ Err (record { line = line; why = why }) → refusal reading bytes ≡ Some (bad_answer line why)
  wrong_refused line why is = rw (is_few, is) refl

  wrong_unconfigured : (wrong : Wrong) → reading bytes ≡ Err wrong → configured reading bytes ≡ None
  wrong_unconfigured wrong is = rw (is_few, is) refl

  -- a refusal was told
  refusal_told : (line : ℕ) (why : Reason) (given : ℕ) (old new : Outside) → reading bytes ≡ Err (record { line = line; why = why }) → Told (bad_answer line why) given old.held new.held
      → IfSome (refusal reading bytes) (λ answer. Told answer given old.held new.held)
  refusal_told line why given old new is told =
      subst (λ (o : Option Answer). IfSome o (λ answer. Told answer given old.held new.held)) (sym (wrong_refused line why is)) told

  -- and nothing was run
  refusal_run : (P : X → Type 0) (wrong : Wrong) (given : ℕ) (old new : Outside) → reading bytes ≡ Err wrong → IsIdle old new → IsRunBy (configured reading bytes) P given old new
  refusal_run P wrong given old new is idle = subst (λ (o : Option X). IsRunBy o P given old new) (sym (wrong_unconfigured wrong is)) idle

  -- a configuration was not refused
  right_told : (c : X) (P : Answer → Type 0) → reading bytes ≡ Ok c → IfSome (refusal reading bytes) P
  right_told c P is = subst (λ (o : Option Answer). IfSome o P) (sym (right_unrefused c is)) tt

  -- and was run
  right_run : (c : X) (P : X → Type 0) (given : ℕ) (old new : Outside) → reading bytes ≡ Ok c → P c → IsRunBy (configured reading bytes) P given old new
  right_run c P given old new is ran = subst (λ (o : Option X). IsRunBy o P given old new) (sym (right_configured c is)) (inl ran)

pub node_ran : (turns : ℕ) (bytes : List ℕ) (c : configs.Content) (given : ℕ) (old new : Outside) → length bytes ≤ 16777216 → nodes.reading bytes ≡ Ok c
    → NodeServed c turns given old new → Obeys (Some (Node turns)) bytes given old new
node_ran turns bytes c given old new few is ran = record {
  told = right_told nodes.reading bytes few c (λ answer. Told answer given old.held new.held) is;
  served = right_run nodes.reading bytes few c (λ x. NodeServed x turns given old new) given old new is ran;
}

pub node_refused : (turns : ℕ) (bytes : List ℕ) (line : ℕ) (why : Reason) (given : ℕ) (old new : Outside) → length bytes ≤ 16777216
    → nodes.reading bytes ≡ Err (record { line = line; why = why }) → IsIdle old new → Told (bad_answer line why) given old.held new.held → Obeys (Some (Node turns)) bytes given old new
node_refused turns bytes line why given old new few is idle told = record {
  told = refusal_told nodes.reading bytes few line why given old new is told;
  served = refusal_run nodes.reading bytes few (λ x. NodeServed x turns given old new) _ given old new is idle;
}

pub hub_ran : (turns : ℕ) (bytes : List ℕ) (c : hubs.Content) (given : ℕ) (old new : Outside) → length bytes ≤ 16777216 → hubs.reading bytes ≡ Ok c
    → HubServed c turns given old new → Obeys (Some (Hub turns)) bytes given old new
hub_ran turns bytes c given old new few is ran = record {
  told = right_told hubs.reading bytes few c (λ answer. Told answer given old.held new.held) is;
  served = right_run hubs.reading bytes few c (λ x. HubServed x turns given old new) given old new is ran;
}

pub hub_refused : (turns : ℕ) (bytes : List ℕ) (line : ℕ) (why : Reason) (given : ℕ) (old new : Outside) → length bytes ≤ 16777216
    → hubs.reading bytes ≡ Err (record { line = line; why = why }) → IsIdle old new → Told (bad_answer line why) given old.held new.held → Obeys (Some (Hub turns)) bytes given old new
hub_refused turns bytes line why given old new few is idle told = record {
  told = refusal_told hubs.reading bytes few line why given old new is told;
  served = refusal_run hubs.reading bytes few (λ x. HubServed x turns given old new) _ given old new is idle;
}

-- the bytes that were read configured it
pub read_through : (command : Option Command) (bytes : List ℕ) (given : ℕ) (left_old left_new : Option (List ℕ)) (old new : Outside) → length bytes ≤ 16777217
    → left_old ≡ prepend_known bytes left_new → (length bytes ≤ 16777216 → IsAtEnd left_new) → Obeys command bytes given old new
    → (all : List ℕ) × IsObeyed command all given left_old left_new old new
read_through command bytes given left_old left_new old new most taken end is = (bytes, record { most = most; taken = taken; obeys = is; read = inr (inl end) })
