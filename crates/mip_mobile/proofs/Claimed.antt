-- What a mobile claims and gives up as it comes to a link and leaves one is what its entries tell.
use Rattle.std.proofs.Common.{◌≡◌, ℕ, List, [], ◌∷◌, ◌++◌, Bool, true, false, refl, sym, ap, ◌∙◌, subst}
use Rattle.std.specs.Prelude.{Option, Some, None, Result, Ok, Err, option_map, ◌==◌, ◌&&◌, if◌then◌else◌, IfOk, IfSome}
use Rattle.mip_words.specs.declared.address.Address.{Address}
use Rattle.mip_outside.specs.declared.claim.Claim.{Claim}
use Rattle.mip_outside.specs.declared.claim.Claim.TheVariants.{Held, Waiting, Taken}
use Rattle.mip_outside.specs.declared.clock.Clock.{Ghosts as Clocks}
use Rattle.mip_outside.specs.declared.put.Put.{Put}
use Rattle.mip_outside.specs.declared.put.Put.TheVariants.{Sent, NoRoute, Oversize}
use Rattle.mip_outside.specs.declared.wire.Wire.{Ghosts as Wires}
use Rattle.mip_outside.specs.Places.{Around, claim_in, is_held, with_claim, without_claim}
use Rattle.mip_entries.specs.declared.answer.Answer.{Answer}
use Rattle.mip_entries.specs.declared.answer.Answer.TheVariants.{Send, Note}
use Rattle.mip_entries.proofs.ShowLaws.{answers-noted}
use Rattle.mip_entries.proofs.TransitionLaws.{noted-known}
use Rattle.mip_transmission.specs.declared.fault.StationFault.{StationFault}
use Rattle.mip_transmission.specs.Putting.{PutsAll, Puts, after_put}
use Rattle.mip_rules_mobile.specs.declared.attachment.Attachment.{Attachment}
use Rattle.mip_rules_mobile.specs.declared.attachment.Attachment.TheVariants.{Detached, AtHome, Away}
use Rattle.mip_rules_mobile.specs.Calls as calls
use Rattle.mip_rules_mobile.specs.Calls.{Call}
use Rattle.mip_rules_mobile.specs.Sendings.{RegistersHome, DeregistersHome, Discovers}
use Rattle.mip_rules_mobile.specs.Steps.{Step, Called, Claims as ClaimsAddress, Releases, FindsTaken, Arrives, Detaches, Unbinds, Sends, Seeks, Waits, answer_of, answers_of}
use Rattle.mip_rules_mobile.specs.Known.{Known}
use Rattle.mip_rules_mobile.specs.HomeQuestions.{home_of, agent_of, target_of}
use Rattle.mip_rules_mobile.specs.RowQuestions.{peer_of_row, is_bound_row}
use Rattle.mip_rules_mobile.specs.Questions.{after}
use Rattle.mip_rules_mobile.specs.Transitions.{Transition, begun, noted}
use Rattle.mip_rules_mobile.specs.TrialRules.{each_row}
use Rattle.mip_rules_mobile.specs.HomeRules.{seeks, registers_with, deregisters_with, registers_at, registers, deregisters_at}
use Rattle.mip_rules_mobile.specs.MovingRules.{releases, unbinds_with, unbinds, leaves, settles_at, settles, arrives_by, address_under, arrives, uses_prefix, leaves_first, attaches}
use Rattle.mip_rules_mobile.specs.Doing.{does, transition_of}
use Rattle.mip_rules_mobile.proofs.TrialWalks.{every-row}
use Rattle.mip_rules_mobile.proofs.MovingWalks.{every-leaves}
use Rattle.mip_rules_mobile.proofs.Told.{home-kept}
use Rattle.mip_mobile.specs.declared.machine.Machine.{Machine}
use Rattle.mip_mobile.specs.Performing.{Answered, Performs, moment_in}
use Rattle.mip_mobile.specs.Placing.{Claims, attach_at, leave_at, claims_left, claims_come, claims_attached, claims_after_leaving}
use Rattle.mip_mobile.specs.Claiming.{claim_told, claims_told, AreLeftAsTold}

told-append : (xs ys : List Answer) (claims : Claims) → claims_told (xs ++ ys) claims ≡ claims_told ys (claims_told xs claims)
told-append [] ys claims = refl
told-append (x ∷ xs) ys claims = told-append xs ys (claim_told x claims)

module _ (claims : Claims) where
  -- what a transition so far tells
  abbrev T : Transition → Claims
  T t = claims_told (answers_of t.steps) claims

  told-noted : (step : Step) (t : Transition) → T (noted step t) ≡ claims_told (answer_of step) (T t)
  told-noted step t = ap (λ (l : List Answer). claims_told l claims) (answers-noted answer_of after step t) ∙ told-append (answers_of t.steps) (answer_of step) claims

  quiet : (step : Step) (t : Transition) → ((c : Claims) → claims_told (answer_of step) c ≡ c) → T (noted step t) ≡ T t
  quiet step t same = told-noted step t ∙ same (T t)

  -- what follows an arrival claims nothing
  settles-quiet : (t : Transition) → T (settles t) ≡ T t
  unfolding settles registers seeks registers_with deregisters_with
  settles-quiet t = by t.known.standing
    where
      home : (owes : Bool) → T (if owes then deregisters_at (agent_of t.known t.now) t else t) ≡ T t
      home true = of (agent_of t.known t.now)
        where
          of : (agent : Option Address) → T (deregisters_at agent t) ≡ T t
          of None = refl
          of (Some agent) = quiet _ _ (λ c. refl) ∙ quiet _ t (λ c. refl)
      home false = refl

      away : (careof : Address) (agent : Option Address) → T (registers_at careof agent t) ≡ T t
      away careof None = quiet _ _ (λ c. refl) ∙ quiet _ _ (λ c. refl) ∙ quiet Seeks t (λ c. refl)
      away careof (Some agent) = quiet _ _ (λ c. refl) ∙ quiet _ t (λ c. refl)

      by : (s : Attachment) → T (settles_at s t) ≡ T t
      by Detached = refl
      by AtHome = home t.known.owes
      by (Away careof) = away careof (target_of t.known)

  unbinds-quiet : (row : ℕ) (t : Transition) → T (unbinds row t) ≡ T t
  unbinds-quiet row t = by (is_bound_row t.known t.now row) (peer_of_row t.known row)
    where
      by : (bound : Bool) (peer : Option Address) → T (unbinds_with bound peer row t) ≡ T t
      by bound None = refl
      by true (Some peer) = quiet (Unbinds row peer) t (λ c. refl)
      by false (Some peer) = refl

  -- leaving gives up the address that it held
  leaves-told : (claim : Claim) (t : Transition) (a : ℕ) → T t ≡ claims → T (leaves claim t) a ≡ claims_left t.known.standing (home_of t.known) (is_held claim) claims a
  unfolding leaves
  leaves-told claim t a was =
      ap (λ (c : Claims). c a) (quiet Detaches (each_row unbinds (releases t.known.standing claim t)) (λ c. refl)
      ∙ every-row (λ (u : Transition). T u ≡ T (releases t.known.standing claim t)) unbinds (λ row u p. unbinds-quiet row u ∙ p) (releases t.known.standing claim t) refl)
      ∙ by t.known.standing
    where
      again : (b : Bool) (x : Bool) → (if b then false else x) ≡ (if b then false else if true && b then true else x)
      again true x = refl
      again false x = refl

      home : (held : Bool) → T (if held then noted (Releases (home_of t.known)) t else t) a ≡ claims_left AtHome (home_of t.known) held claims a
      home true =
          ap (λ (c : Claims). c a) (told-noted (Releases (home_of t.known)) t ∙ ap (without_claim (home_of t.known).0) was)
          ∙ again (a == (home_of t.known).0) (claims a)
      home false = ap (λ (c : Claims). c a) was

      by : (s : Attachment) → T (releases s claim t) a ≡ claims_left s (home_of t.known) (is_held claim) claims a
      by Detached = ap (λ (c : Claims). c a) was
      by AtHome = home (is_held claim)
      by (Away careof) = ap (λ (c : Claims). c a) (told-noted (Releases careof) t ∙ ap (without_claim careof.0) was)

  -- arriving claims the new one, where it is granted
  arrives-told : (claim : Claim) (address : Address) (u : Transition) (a : ℕ) → T (arrives_by claim address u) a ≡ with_claim (is_held claim) address.0 (T u) a
  arrives-told Held address u a =
      ap (λ (c : Claims). c a) (settles-quiet (noted (Arrives address) (noted (ClaimsAddress address) u))
      ∙ quiet (Arrives address) (noted (ClaimsAddress address) u) (λ c. refl) ∙ told-noted (ClaimsAddress address) u)
  arrives-told Waiting address u a = ap (λ (c : Claims). c a) (settles-quiet (noted (Arrives address) u) ∙ quiet (Arrives address) u (λ c. refl))
  arrives-told (Taken holder) address u a = ap (λ (c : Claims). c a) (quiet (FindsTaken address holder) u (λ c. refl))

-- whatever it does, its home address stays
home-noted : (step : Step) (t : Transition) → home_of (noted step t).known ≡ home_of t.known
home-noted step t = ap (λ (k : Known). home_of k) (noted-known after step t) ∙ home-kept t.known (record { at = t.now; step = step })

leaves-home : (claim : Claim) (t : Transition) → home_of (leaves claim t).known ≡ home_of t.known
leaves-home claim t =
    every-leaves calls.Tick (λ (u : Transition). home_of u.known ≡ home_of t.known) (λ step u steady fits p. home-noted step u ∙ p) (λ step u move fits p. home-noted step u ∙ p) claim t refl

called-standing : (k : Known) (now : ℕ) (c : Call) → (noted (Called c) (begun now k)).known.standing ≡ k.standing
unfolding after
called-standing k now c = ap (λ (l : Known). l.standing) (noted-known after (Called c) (begun now k))

module _ (around : Around) (k : Known) (now : ℕ) (claims : Claims) (a : ℕ) where
  -- as it leaves its link
  pub leave-told : claims_after_leaving around k claims a ≡ claims_told (answers_of (transition_of k now (leave_at around (home_of k))).steps) claims a
  unfolding does
  leave-told =
      let c : Call = leave_at around (home_of k) in
      let t : Transition = noted (Called c) (begun now k) in
      let held = is_held (claim_in around (home_of k).0) in
      sym (leaves-told claims (claim_in around (home_of k).0) t a (quiet claims (Called c) (begun now k) (λ x. refl))
      ∙ ap (λ (s : Attachment). claims_left s (home_of t.known) held claims a) (called-standing k now c)
      ∙ ap (λ (h : Address). claims_left k.standing h held claims a) (home-noted (Called c) (begun now k)))

  -- as it comes to one
  pub attach-told : (prefix : ℕ) → claims_attached around k prefix claims a ≡ claims_told (answers_of (transition_of k now (attach_at around (home_of k) prefix)).steps) claims a
  unfolding does attaches arrives
  attach-told prefix = sym (by (uses_prefix t.known.standing (home_of t.known) prefix) refl)
    where
      c : Call
      c = attach_at around (home_of k) prefix

      t : Transition
      t = noted (Called c) (begun now k)

      of_home : Claim
      of_home = claim_in around (home_of k).0

      of_address : Claim
      of_address = claim_in around (address_under (home_of k) prefix).0

      standing : t.known.standing ≡ k.standing
      standing = called-standing k now c

      home : home_of t.known ≡ home_of k
      home = home-noted (Called c) (begun now k)

      was : T claims t ≡ claims
      was = quiet claims (Called c) (begun now k) (λ x. refl)

      -- where it stood somewhere it first leaves
      first : (s : Attachment) → t.known.standing ≡ s → (home_of (leaves_first s of_home t).known ≡ home_of k) × ((b : ℕ) → T claims (leaves_first s of_home t) b ≡ claims_left s (home_of k) (is_held of_home) claims b)
      first Detached is = (home, λ b. ap (λ (x : Claims). x b) was)
      first AtHome is = (
        leaves-home of_home t ∙ home,
        λ b. leaves-told claims of_home t b was
            ∙ ap (λ (s : Attachment). claims_left s (home_of t.known) (is_held of_home) claims b) is ∙ ap (λ (h : Address). claims_left AtHome h (is_held of_home) claims b) home,
      )
      first (Away careof) is = (
        leaves-home of_home t ∙ home,
        λ b. leaves-told claims of_home t b was
            ∙ ap (λ (s : Attachment). claims_left s (home_of t.known) (is_held of_home) claims b) is ∙ ap (λ (h : Address). claims_left (Away careof) h (is_held of_home) claims b) home,
      )

      same-uses : uses_prefix t.known.standing (home_of t.known) prefix ≡ uses_prefix k.standing (home_of k) prefix
      same-uses = ap (λ (s : Attachment). uses_prefix s (home_of t.known) prefix) standing ∙ ap (λ (h : Address). uses_prefix k.standing h prefix) home

      comes : (held : Bool) (address : ℕ) (f g : Claims) → f a ≡ g a → with_claim held address f a ≡ with_claim held address g a
      comes held address f g same = ap (λ (x : Bool). if held && (a == address) then true else x) same

      by : (uses : Bool) → uses_prefix t.known.standing (home_of t.known) prefix ≡ uses
          → T claims (let u : Transition = (if uses then t else arrives_by of_address (address_under (home_of (leaves_first t.known.standing of_home t).known) prefix) (leaves_first t.known.standing of_home t)) in u) a ≡ claims_attached around k prefix claims a
      by true is =
          ap (λ (x : Claims). x a) was
          ∙ ap (λ (b : Bool). let f : Claims = (if b then claims else claims_come k.standing (home_of k) (address_under (home_of k) prefix) (is_held of_home) (is_held of_address) claims) in f a) (sym is ∙ same-uses)
      by false is =
          let f = first t.known.standing refl in
          let u : Transition = leaves_first t.known.standing of_home t in
          arrives-told claims of_address (address_under (home_of u.known) prefix) u a
          ∙ ap (λ (h : Address). with_claim (is_held of_address) (address_under h prefix).0 (T claims u) a) f.0
          ∙ comes (is_held of_address) (address_under (home_of k) prefix).0 (T claims u) (claims_left t.known.standing (home_of k) (is_held of_home) claims) (f.1 a)
          ∙ ap (λ (s : Attachment). claims_come s (home_of k) (address_under (home_of k) prefix) (is_held of_home) (is_held of_address) claims a) standing
          ∙ ap (λ (b : Bool). let f : Claims = (if b then claims else claims_come k.standing (home_of k) (address_under (home_of k) prefix) (is_held of_home) (is_held of_address) claims) in f a) (sym is ∙ same-uses)

-- what a wire does to answers tells the same
put-told : (gives : Put → Bool) (x y : Answer) (claims : Claims) → Puts gives x y → claim_told x claims ≡ claim_told y claims
put-told gives (Note entry) y claims puts = ap (λ (z : Answer). claim_told z claims) (sym puts)
put-told gives (Send shield packet) y claims puts = sym (ap (λ (z : Answer). claim_told z claims) puts.2 ∙ by puts.0)
  where
    by : (put : Put) → claim_told (after_put put shield packet) claims ≡ claims
    by Sent = refl
    by NoRoute = refl
    by Oversize = refl

puts-told : (gives : Put → Bool) (xs ys : List Answer) (claims : Claims) → PutsAll gives xs ys → claims_told xs claims ≡ claims_told ys claims
puts-told gives [] [] claims puts = refl
puts-told gives [] (y ∷ ys) claims puts = absurd puts
puts-told gives (x ∷ xs) [] claims puts = absurd puts
puts-told gives (x ∷ xs) (y ∷ ys) claims puts =
    puts-told gives xs ys (claim_told x claims) puts.1 ∙ ap (claims_told ys) (put-told gives x y claims puts.0)

-- so a call that answers leaves in its place what its entries tell
module _ {C W : Type 0} (clocks : Clocks C) (wires : Wires W) (before after : Machine C W) (around : Around) where
  some-left : (old new : Option Claims) (f : Claims → Claims) (o n : Claims) → new ≡ option_map f old → old ≡ Some o → new ≡ Some n → n ≡ f o
  some-left old new f o n is was left = let mapped : option_map f old ≡ Some (f o) = ap (option_map f) was in let both : Some n ≡ Some (f o) = sym left ∙ is ∙ mapped in cc

  calm : (result : Answered) (answers : List Answer) → result ≡ Ok answers → IfSome before.fault (λ fault. (result ≡ Err fault) × (after ≡ before)) → before.fault ≡ None
  calm result answers ok faulted = by before.fault refl faulted
    where
      by : (o : Option StationFault) → before.fault ≡ o → IfSome o (λ fault. (result ≡ Err fault) × (after ≡ before)) → o ≡ None
      by None is f = refl
      by (Some fault) is f = absurd (let both : Ok answers ≡ Err fault = sym ok ∙ f.0 in cc)

  pub attach-left : (prefix : ℕ) (result : Answered) (old new : Option Claims) → Performs clocks wires before after (attach_at around (home_of before.context.known) prefix) result
      → (before.fault ≡ None → new ≡ option_map (claims_attached around before.context.known prefix) old) → IfOk result (λ answers. AreLeftAsTold old answers new)
  attach-left prefix (Err fault) old new performs claims = tt
  attach-left prefix (Ok answers) old new performs claims = λ o n was left a.
      let k : Known = before.context.known in
      let now : ℕ = moment_in clocks before after in
      let is = claims (calm (Ok answers) answers refl performs.faulted) in
      ap (λ (f : Claims). f a) (some-left old new (claims_attached around k prefix) o n is was left)
      ∙ attach-told around k now o a prefix
      ∙ ap (λ (f : Claims). f a) (puts-told wires.gives (answers_of (transition_of k now (attach_at around (home_of k) prefix)).steps) answers o performs.handles.taken)

  pub leave-left : (result : Answered) (old new : Option Claims) → Performs clocks wires before after (leave_at around (home_of before.context.known)) result
      → (before.fault ≡ None → new ≡ option_map (claims_after_leaving around before.context.known) old) → IfOk result (λ answers. AreLeftAsTold old answers new)
  leave-left (Err fault) old new performs claims = tt
  leave-left (Ok answers) old new performs claims = λ o n was left a.
      let k : Known = before.context.known in
      let now : ℕ = moment_in clocks before after in
      let is = claims (calm (Ok answers) answers refl performs.faulted) in
      ap (λ (f : Claims). f a) (some-left old new (claims_after_leaving around k) o n is was left)
      ∙ leave-told around k now o a
      ∙ ap (λ (f : Claims). f a) (puts-told wires.gives (answers_of (transition_of k now (leave_at around (home_of k))).steps) answers o performs.handles.taken)
