-- What was told to a sink that keeps bytes back was put on once nothing waits.
use Rattle.std.proofs.Common.{◌≡◌, ℕ, sym, ap, ◌∙◌, subst, refl, List, [], take}
use Rattle.std.specs.Prelude.{Option, Some, None, Result, Ok, Err, IfSome, IfOk, OnErr, unwrap_or}
use Rattle.mip_words.specs.declared.memory.Memory.{Memory}
use Rattle.mip_replies.specs.declared.status.Status.{Status}
use Rattle.std.specs.Io.KnownBytes.{append_known}
use Rattle.mip_outside.specs.Waiting.{Buffer, held_by}
use Rattle.mip_outside.proofs.Known.{append_none}
use Rattle.mip_commands.specs.declared.command.Command.{Command}
use Rattle.mip_replies.specs.Answers.{Answer}
use Rattle.mip_replies.specs.Told.{Told, IsConclusive, Says, HasWrittenFront}
use Rattle.mip_outside.specs.declared.link_call.LinkCall.{LinkCall}
use Rattle.mip_top.specs.Answers.{answer_to}
use Rattle.mip_node.specs.Nodes.{Datagrams}
use Rattle.mip_node.specs.Seen.{Ahead, Coming}
use Rattle.mip_top.specs.Obeyed.{Obeys, IsFlushed, ObeysFlushed}
use Rattle.mip_top.specs.Serving.{Outside, outside}

-- what holds of bytes that are told follows for them
pub if_left : (P Q : List ℕ → Type 0) (left : Option (List ℕ)) → ((bytes : List ℕ) → P bytes → Q bytes) → IfSome left P → IfSome left Q
if_left P Q None step is = tt
if_left P Q (Some bytes) step is = step bytes is

-- what holds of all bytes holds of those that are told
pub any_left : (P : List ℕ → Type 0) (left : Option (List ℕ)) → ((bytes : List ℕ) → P bytes) → IfSome left P
any_left P None all = tt
any_left P (Some bytes) all = all bytes

-- what holds of each answer holds of one that is there
pub if_any : (P : Answer → Type 0) (o : Option Answer) → ((answer : Answer) → P answer) → IfSome o P
if_any P None all = tt
if_any P (Some answer) all = all answer

flat : (b : Buffer) → b.waiting ≡ [] → held_by b ≡ b.put_on
flat b empty = ap (append_known b.put_on) empty ∙ sym (append_none b.put_on b.put_on refl)

-- how a run ended: what it held is held still, and where the status is conclusive, it is the one given, and nothing waits
pub record IsFinished (given result : ℕ) (mid last : Buffer) : Type 0 where
  pub held : held_by last ≡ held_by mid
  pub conclusive : IsConclusive result → (result ≡ given) × (last.waiting ≡ [])

says_on : (o : Option Answer) (given result : ℕ) (first mid last : Buffer) → first.waiting ≡ [] → IsFinished given result mid last
    → IfSome o (λ answer. Told answer given (held_by first) (held_by mid)) → IsConclusive result → IfSome o (λ answer. Says answer result first.put_on last.put_on)
says_on None given result first mid last empty end told sure = tt
says_on (Some answer) given result first mid last empty end told sure =
    let e = end.conclusive sure in
    let says = told.conclusive (subst IsConclusive e.0 sure) in
    (e.0 ∙ says.0, sym (flat last e.1) ∙ end.held ∙ says.1 ∙ ap (λ (h : Option (List ℕ)). append_known h answer.text) (flat first empty))

pub says : (command : Option Command) (bytes : List ℕ) (given result : ℕ) (first mid last : Buffer) (old new : Outside) → old.held ≡ held_by first → new.held ≡ held_by mid
    → first.waiting ≡ [] → IsFinished given result mid last → Obeys command bytes given old new → IsConclusive result
    → IfSome (answer_to command bytes) (λ answer. Says answer result first.put_on last.put_on)
says command bytes given result first mid last old new held_old held_new empty end obeys sure =
    says_on (answer_to command bytes) given result first mid last empty end (rw (sym held_old, sym held_new) obeys.told) sure

front_on : (o : Option Answer) (given result : ℕ) (first mid last : Buffer) → first.waiting ≡ [] → IsFinished given result mid last
    → IfSome o (λ answer. Told answer given (held_by first) (held_by mid)) → IfSome o (λ answer. HasWrittenFront answer first.put_on (held_by last))
front_on None given result first mid last empty end told = tt
front_on (Some answer) given result first mid last empty end told =
    let front = told.front in
    (front.0, end.held ∙ front.1 ∙ ap (λ (h : Option (List ℕ)). append_known h (take front.0 answer.text)) (flat first empty))

pub front : (command : Option Command) (bytes : List ℕ) (given result : ℕ) (first mid last : Buffer) (old new : Outside) → old.held ≡ held_by first → new.held ≡ held_by mid
    → first.waiting ≡ [] → IsFinished given result mid last → Obeys command bytes given old new
    → IfSome (answer_to command bytes) (λ answer. HasWrittenFront answer first.put_on (held_by last))
front command bytes given result first mid last old new held_old held_new empty end obeys =
    front_on (answer_to command bytes) given result first mid last empty end (rw (sym held_old, sym held_new) obeys.told)

-- what was obeyed was obeyed when what waited was put on, which keeps what is held
pub obeyed_flushed : (command : Option Command) (bytes : List ℕ) (given result : ℕ) (old : Outside) (held last : Option (List ℕ)) (ahead : Ahead) (coming : Coming) (sent : Datagrams)
    (port : Option (Option ℕ)) (calls : List LinkCall) → last ≡ held → IsFlushed given result → Obeys command bytes given old (outside held ahead coming sent port calls)
    → ObeysFlushed command bytes result old (outside last ahead coming sent port calls)
obeyed_flushed command bytes given result old held last ahead coming sent port calls kept is obeys = record {
  given = given;
  flushed = is;
  obeys = subst (λ (h : Option (List ℕ)). Obeys command bytes given old (outside h ahead coming sent port calls)) (sym kept) obeys;
}

-- ---- how a process ends

-- what holds after an error, and what follows
pub err_on : {A E P Q : Type 0} (o : Result A E) → (P → Q) → OnErr o P → OnErr o Q
err_on (Ok x) step is = tt
err_on (Err e) step is = step is

-- what is said of four objects is said still where each is as it was
pub four_same : {A B C D E : Type 0} (a a_now : A) (b b_now : B) (c c_now : C) (d d_now : D) (f : A → B → C → D → E)
    → (a_now ≡ a) × (b_now ≡ b) × (c_now ≡ c) × (d_now ≡ d) → f a_now b_now c_now d_now ≡ f a b c d
four_same {A = A} {B = B} {C = C} {D = D} a a_now b b_now c c_now d d_now f same =
    ap (λ (x : A). f x b_now c_now d_now) same.0 ∙ ap (λ (x : B). f a x c_now d_now) same.1 ∙ ap (λ (x : C). f a b x d_now) same.2 ∙ ap (λ (x : D). f a b c x) same.3

-- what holds of the status of a run, and of 5 where it was not begun, holds of that of the process
pub process_on : (Q : ℕ → Type 0) (o : Result Status Memory) (s : Status) → IfOk o (λ x. s ≡ x) → OnErr o (s.0 ≡ 5) → IfOk o (λ x. Q x.0) → OnErr o (Q 5) → Q s.0
process_on Q (Ok x) s same five ran early = subst (λ (y : Status). Q y.0) (sym same) ran
process_on Q (Err e) s same five ran early = subst Q (sym five) early

-- what holds of a conclusive status of a run holds of that of the process
pub sure_on : (Q : ℕ → Type 0) (o : Result Status Memory) (s : Status) → IfOk o (λ x. s ≡ x) → OnErr o (s.0 ≡ 5) → IfOk o (λ x. IsConclusive x.0 → Q x.0) → IsConclusive s.0 → Q s.0
sure_on Q (Ok x) s same five whole = subst (λ (y : Status). IsConclusive y.0 → Q y.0) (sym same) whole
sure_on Q (Err e) s same five whole = λ sure. absurd (sure.no_want_of_memory five)

pub whole_on : (left : Option (List ℕ)) (Q : List ℕ → ℕ → Type 0) (o : Result Status Memory) (s : Status) → IfOk o (λ x. s ≡ x) → OnErr o (s.0 ≡ 5)
    → IfOk o (λ x. IfSome left (λ bytes. IsConclusive x.0 → Q bytes x.0)) → IfSome left (λ bytes. IsConclusive s.0 → Q bytes s.0)
whole_on None Q o s same five whole = tt
whole_on (Some bytes) Q o s same five whole = sure_on (Q bytes) o s same five whole

-- what was told of an answer to a sink that held nothing is the answer
pub output_of : (o : Option Answer) (given : ℕ) (held : List ℕ) → IsConclusive given → IfSome o (λ answer. Told answer given (Some []) (Some held))
    → IfSome o (λ answer. record { status = given; text = held } ≡ answer)
output_of None given held sure told = tt
output_of (Some answer) given held sure told =
    let says = told.conclusive sure in
    let text : held ≡ answer.text = ap (λ (h : Option (List ℕ)). unwrap_or h []) says.1 in
    ap (λ (n : ℕ). record { status = n; text = held }) says.0 ∙ ap (λ (t : List ℕ). record { status = answer.status; text = t }) text
