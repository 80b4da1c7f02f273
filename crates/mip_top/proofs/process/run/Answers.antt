use Rattle.std.proofs.Common.{◌≡◌, ℕ, List, [], map, string_bytes, ap, ◌∙◌, inr, refl, Ok, Err, IfOk, OnErr}
use Rattle.std.specs.Prelude.{Option, Result, IfSome}
use Rattle.std.specs.Io.KnownBytes.{prepend_known, append_known}
use Rattle.mip_words.specs.declared.memory.Memory.{Memory}
use Rattle.mip_commands.specs.Commands.{command_of}
use Rattle.mip_outside.specs.Waiting.{Buffer, held_by}
use Rattle.mip_outside.proofs.Known.{prepend_none}
use Rattle.mip_replies.specs.Answers.{Answer}
use Rattle.mip_replies.specs.Told.{HasWrittenFront, Says}
use Rattle.mip_top.specs.Answers.{answer_of}
use Rattle.mip_commands.specs.Given.{words_behind}
use Rattle.mip_top.specs.Endings.{objects}
use Rattle.mip_top.specs.Obeyed.{ObeysFlushed}
use Rattle.mip_top.specs.Serving.{Outside, outside}
use Rattle.mip_top.proofs.EndingLaws.{any_left, if_any, err_on, four_same, process_on, sure_on, whole_on}
use Rattle.mip_top.proofs.Endings.{ends_on}
use Rattle.mip_top.proofs.ObeyedLaws.{untouched, stopped_flushed}
use Rattle.mip_top.proofs.process.run.Goals as goal

abbrev Fronts : {X : Type 0} → (X → Option (List ℕ)) → (List ℕ → Option Answer) → (old new : X) → (before after : Buffer) → Type 0
Fronts left answer old new before after =
    (bytes : List ℕ) × (left old ≡ prepend_known bytes (left new)) × IfSome (answer bytes) (λ a. HasWrittenFront a before.put_on (held_by after))

-- a front was put on, also where memory ran out before anything was read
fronts : {X S : Type 0} (left : X → Option (List ℕ)) (answer : List ℕ → Option Answer) (old new : X) (before after : Buffer) (o : Result S Memory) → before.waiting ≡ []
    → IfOk o (λ status. Fronts left answer old new before after) → OnErr o (new ≡ old) → OnErr o (after ≡ before) → Fronts left answer old new before after
fronts left answer old new before after (Ok status) empty front unread unwritten = front
fronts left answer old new before after (Err e) empty front unread unwritten = (
  [],
  prepend_none (left old) (left new) (ap left unread),
  if_any (λ a. HasWrittenFront a before.put_on (held_by after)) (answer []) (λ a. (0, ap held_by unwritten ∙ ap (append_known before.put_on) empty)),
)

pub returns-clause-front : goal.returns-clause-front
returns-clause-front g c =
    fronts g.S.Source.left (answer_of (map string_bytes (words_behind c.args.given))) c.args.source.now c.attempt.new.source c.args.sink.now c.attempt.new.sink c.attempt.result c.requires c.attempt.ensures.front
    (err_on c.attempt.result (λ e. e.0) c.attempt.ensures.early) (err_on c.attempt.result (λ e. e.1) c.attempt.ensures.early)

pub returns-clause-whole : goal.returns-clause-whole
returns-clause-whole g c =
    whole_on (g.S.Source.left c.args.source.now)
    (λ bytes n. IfSome (answer_of (map string_bytes (words_behind c.args.given)) bytes) (λ answer. Says answer n c.args.sink.now.put_on c.attempt.new.sink.put_on))
    c.attempt.result c.of.result c.of.ensures.ok c.of.ensures.memory c.attempt.ensures.whole

pub returns-clause-whole_of_some : goal.returns-clause-whole_of_some
returns-clause-whole_of_some g c =
    sure_on
    (λ n. (bytes : List ℕ) × (g.S.Source.left c.args.source.now ≡ prepend_known bytes (g.S.Source.left c.attempt.new.source))
    × IfSome (answer_of (map string_bytes (words_behind c.args.given)) bytes) (λ answer. Says answer n c.args.sink.now.put_on c.attempt.new.sink.put_on))
    c.attempt.result c.of.result c.of.ensures.ok c.of.ensures.memory c.attempt.ensures.whole_of_some

pub returns-clause-ends : goal.returns-clause-ends
returns-clause-ends g c =
    ends_on (command_of (map string_bytes (words_behind c.args.given))) _ _ c.attempt.result c.of.result c.of.ensures.ok c.of.ensures.memory c.attempt.ensures.ends
    (err_on c.attempt.result
    (four_same c.args.source.now c.attempt.new.source c.args.sink.now c.attempt.new.sink c.args.clock.now c.attempt.new.clock c.args.link.now c.attempt.new.link
    (λ source sink clock link. objects source (g.S.Source.left source) (g.S.Source.faults source) (held_by sink) sink.faults clock link (g.L.Link.faults link)))
    c.attempt.ensures.early)

pub returns-clause-obeyed : goal.returns-clause-obeyed
returns-clause-obeyed g c =
    let command = command_of (map string_bytes (words_behind c.args.given)) in
    let old : Outside = outside (held_by c.args.sink.now) (g.C.Clock.ahead c.args.clock.now) (g.L.Link.coming c.args.link.now) (g.L.Link.sent c.args.link.now) (g.L.Link.port c.args.link.now) (g.L.Link.calls c.args.link.now) in
    let new : Outside = outside (held_by c.attempt.new.sink) (g.C.Clock.ahead c.attempt.new.clock) (g.L.Link.coming c.attempt.new.link) (g.L.Link.sent c.attempt.new.link) (g.L.Link.port c.attempt.new.link) (g.L.Link.calls c.attempt.new.link) in
    let left : Option (List ℕ) = g.S.Source.left c.args.source.now in
    process_on (λ n. IfSome left (λ bytes. ObeysFlushed command bytes n old new)) c.attempt.result c.of.result c.of.ensures.ok c.of.ensures.memory c.attempt.ensures.obeyed
    (err_on c.attempt.result
    (λ e. any_left (λ bytes. ObeysFlushed command bytes 5 old new) left
    (λ bytes. stopped_flushed command bytes 5 old new (untouched 5 old new (inr refl)
    (four_same c.args.source.now c.attempt.new.source c.args.sink.now c.attempt.new.sink c.args.clock.now c.attempt.new.clock c.args.link.now c.attempt.new.link
    (λ source sink clock link. outside (held_by sink) (g.C.Clock.ahead clock) (g.L.Link.coming link) (g.L.Link.sent link) (g.L.Link.port link) (g.L.Link.calls link)) e))))
    c.attempt.ensures.early)

pub returns-clause-obeyed_of_some : goal.returns-clause-obeyed_of_some
returns-clause-obeyed_of_some g c =
    let command = command_of (map string_bytes (words_behind c.args.given)) in
    let old : Outside = outside (held_by c.args.sink.now) (g.C.Clock.ahead c.args.clock.now) (g.L.Link.coming c.args.link.now) (g.L.Link.sent c.args.link.now) (g.L.Link.port c.args.link.now) (g.L.Link.calls c.args.link.now) in
    let new : Outside = outside (held_by c.attempt.new.sink) (g.C.Clock.ahead c.attempt.new.clock) (g.L.Link.coming c.attempt.new.link) (g.L.Link.sent c.attempt.new.link) (g.L.Link.port c.attempt.new.link) (g.L.Link.calls c.attempt.new.link) in
    let left = g.S.Source.left in
    process_on (λ n. (bytes : List ℕ) × (left c.args.source.now ≡ prepend_known bytes (left c.attempt.new.source)) × ObeysFlushed command bytes n old new)
    c.attempt.result c.of.result c.of.ensures.ok c.of.ensures.memory c.attempt.ensures.obeyed_of_some
    (err_on c.attempt.result
    (λ e. (
      [],
      prepend_none (left c.args.source.now) (left c.attempt.new.source) (ap left e.0),
      stopped_flushed command [] 5 old new (untouched 5 old new (inr refl)
          (four_same c.args.source.now c.attempt.new.source c.args.sink.now c.attempt.new.sink c.args.clock.now c.attempt.new.clock c.args.link.now c.attempt.new.link
          (λ source sink clock link. outside (held_by sink) (g.C.Clock.ahead clock) (g.L.Link.coming link) (g.L.Link.sent link) (g.L.Link.port link) (g.L.Link.calls link)) e)),
    ))
    c.attempt.ensures.early)
