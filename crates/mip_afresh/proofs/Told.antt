-- What is asked of a history is answered by the entries that tell.
use Rattle.std.proofs.Common.{◌≡◌, ℕ, zero, suc, List, [], ◌∷◌, ◌++◌, Bool, true, false, not, refl, sym, ap, ◌∙◌}
use Rattle.std.specs.Prelude.{fold, Option, Some, None, ◌&&◌, ◌||◌, ◌==◌, if◌then◌else◌, unwrap_or, option_map, is_some}
use Rattle.std.specs.List.{filter}
use Rattle.std.proofs.lemmas.List.Sums.{fold-append}
use Rattle.mip_words.specs.declared.address.Address.{Address}
use Rattle.mip_words.specs.Last.{or_else}
use Rattle.mip_entries.specs.declared.entry.Entry.{Entry}
use Rattle.mip_entries.specs.declared.entry.Entry.TheVariants.{At, Moved, Claimed, Released, Taken, Listening, Deafened, Careof, Home, Registered, Unregistered, Bound, Unbound, Accepted, Restarted, Heard}
use Rattle.mip_history.specs.Questions.{moment_says, moment_in, holder_says, holder_in, claims, declared_in, listen_says, moved_says, spot_in, hears_in, restarts, life_in}
use Rattle.mip_words.specs.Asked.{asked}
use Rattle.mip_binding.specs.Acceptance.{Acceptance}
use Rattle.mip_binding.specs.Held.{held}
use Rattle.mip_links.specs.Table.{is_address}
use Rattle.mip_links.specs.Nets.{is_held_by}
use Rattle.mip_rules_agent.specs.declared.home_binding.HomeBinding.{HomeBinding}
use Rattle.mip_rules_agent.specs.Questions.{if_standing}
use Rattle.mip_rules_mobile.specs.declared.registered.Registered.{Registered as Registration}
use Rattle.mip_rules_mobile.specs.HomeQuestions.{standing_registration}
use Rattle.mip_rules_mobile.specs.RowQuestions.{lies_ahead}
use Rattle.mip_history.specs.Bound.{Lived, lived, accepted_by}
use Rattle.mip_history.specs.Posting.{heards, is_other}
use Rattle.mip_history.specs.Registered.{registration_says}
use Rattle.mip_history.specs.Told.{present_says, present_in, registration_told, agent_in, binding_told, is_bound_in, careof_in}
use Rattle.mip_history.specs.Settled.{any_below, any_node, is_with_agent, is_placed, is_held_right, is_bound_right, is_settled_at, is_settled_with, is_settled_to, is_settled}
use Rattle.mip_afresh.specs.Told.{tells}

-- a fold over a history is one over the entries that tell, where the others say nothing to it
fold_told : {S : Type 0} (f : S → Entry → S) → ((s : S) (e : Entry) → tells e ≡ false → f s e ≡ s) → (s : S) (past : List Entry) → fold f s past ≡ fold f s (filter tells past)
fold_told f quiet s [] = refl
fold_told {S = S} f quiet s (e ∷ past) = by (tells e) refl (fold_told f quiet (f s e) past)
  where
    by : (b : Bool) → tells e ≡ b → fold f (f s e) past ≡ fold f (f s e) (filter tells past) → fold f (f s e) past ≡ fold f s (if b then e ∷ filter tells past else filter tells past)
    by true is rest = rest
    by false is rest = rest ∙ ap (λ (t : S). fold f t (filter tells past)) (quiet s e is)

-- so it is the same over two histories that tell the same
alike : {S : Type 0} (f : S → Entry → S) → ((s : S) (e : Entry) → tells e ≡ false → f s e ≡ s) → (s : S) (xs ys : List Entry) → filter tells xs ≡ filter tells ys → fold f s xs ≡ fold f s ys
alike {S = S} f quiet s xs ys same = fold_told f quiet s xs ∙ ap (λ (l : List Entry). fold f s l) same ∙ sym (fold_told f quiet s ys)

says_nothing : {S : Type 0} (says : Entry → Option S) → ((e : Entry) → tells e ≡ false → says e ≡ None) → (s : S) (e : Entry) → tells e ≡ false → unwrap_or (says e) s ≡ s
says_nothing {S = S} says quiet s e is = ap (λ (o : Option S). unwrap_or o s) (quiet e is)

moment_quiet : (e : Entry) → tells e ≡ false → moment_says e ≡ None
moment_quiet (At moment) is = absurd cc
moment_quiet _ is = refl

holder_quiet : (a : ℕ) (e : Entry) → tells e ≡ false → holder_says a e ≡ None
holder_quiet a (Claimed who link address) is = absurd cc
holder_quiet a (Released who link address) is = absurd cc
holder_quiet a _ is = refl

listen_quiet : (o link : ℕ) (e : Entry) → tells e ≡ false → listen_says o link e ≡ None
listen_quiet o link (Listening outsider l) is = absurd cc
listen_quiet o link (Deafened outsider l) is = absurd cc
listen_quiet o link _ is = refl

moved_quiet : (m : ℕ) (e : Entry) → tells e ≡ false → moved_says m e ≡ None
moved_quiet m (Moved node link) is = absurd cc
moved_quiet m _ is = refl

claims_quiet : (by : ℕ) (o : Option Address) (e : Entry) → tells e ≡ false → or_else o (claims by e) ≡ o
claims_quiet by (Some a) e is = refl
claims_quiet by None (Claimed who link address) is = absurd cc
claims_quiet by None _ is = refl

restarts_quiet : (n count : ℕ) (e : Entry) → tells e ≡ false → restarts n count e ≡ count
restarts_quiet n count (Restarted node) is = absurd cc
restarts_quiet n count _ is = refl

lived_quiet : (n : ℕ) (l : Lived) (e : Entry) → tells e ≡ false → lived n l e ≡ l
lived_quiet n l (At moment) is = absurd cc
lived_quiet n l (Restarted node) is = absurd cc
lived_quiet n l (Accepted node number home binding careof sequence end i j) is = absurd cc
lived_quiet n l _ is = refl

present_quiet : (n : ℕ) (e : Entry) → tells e ≡ false → present_says n e ≡ None
present_quiet n (Moved node link) is = absurd cc
present_quiet n (Careof node address) is = absurd cc
present_quiet n _ is = refl

registration_quiet : (n : ℕ) (e : Entry) → tells e ≡ false → registration_told n e ≡ None
registration_quiet n (Registered node agent end) is = absurd cc
registration_quiet n (Unregistered node agent) is = absurd cc
registration_quiet n (Moved node link) is = absurd cc
registration_quiet n (Careof node address) is = absurd cc
registration_quiet n (Taken who link address holder) is = absurd cc
registration_quiet n (Restarted node) is = absurd cc
registration_quiet n _ is = refl

binding_quiet : (n : ℕ) (peer : Address) (e : Entry) → tells e ≡ false → binding_told n peer e ≡ None
binding_quiet n peer (Bound node to end) is = absurd cc
binding_quiet n peer (Unbound node to) is = absurd cc
binding_quiet n peer (Restarted node) is = absurd cc
binding_quiet n peer _ is = refl

home_quiet : (n : ℕ) (home : Address) (e : Entry) → tells e ≡ false → registration_says n home e ≡ None
home_quiet n home (Home node h careof sequence end) is = absurd cc
home_quiet n home (Restarted node) is = absurd cc
home_quiet n home _ is = refl

asked_told : {S : Type 0} (says : Entry → Option S) → ((e : Entry) → tells e ≡ false → says e ≡ None) → (d : S) (xs ys : List Entry) → filter tells xs ≡ filter tells ys → asked says d xs ≡ asked says d ys
asked_told {S = S} says quiet d xs ys same = alike (λ (s : S) (e : Entry). unwrap_or (says e) s) (says_nothing says quiet) d xs ys same

pub moment_told : (start : ℕ) (xs ys : List Entry) → filter tells xs ≡ filter tells ys → moment_in start xs ≡ moment_in start ys
moment_told start xs ys same = alike (λ (s : ℕ) (e : Entry). unwrap_or (moment_says e) s) (says_nothing moment_says moment_quiet) start xs ys same

pub holder_told : (a : ℕ) (xs ys : List Entry) → filter tells xs ≡ filter tells ys → holder_in xs a ≡ holder_in ys a
holder_told a xs ys same = alike (λ (s : Option ℕ) (e : Entry). unwrap_or (holder_says a e) s) (says_nothing (holder_says a) (holder_quiet a)) None xs ys same

pub hears_told : (o link : ℕ) (xs ys : List Entry) → filter tells xs ≡ filter tells ys → hears_in xs o link ≡ hears_in ys o link
hears_told o link xs ys same = alike (λ (s : Bool) (e : Entry). unwrap_or (listen_says o link e) s) (says_nothing (listen_says o link) (listen_quiet o link)) false xs ys same

pub spot_told : (home : Option ℕ) (m : ℕ) (xs ys : List Entry) → filter tells xs ≡ filter tells ys → spot_in home xs m ≡ spot_in home ys m
spot_told home m xs ys same = alike (λ (s : Option ℕ) (e : Entry). unwrap_or (moved_says m e) s) (says_nothing (moved_says m) (moved_quiet m)) home xs ys same

pub declared_told : (by : ℕ) (xs ys : List Entry) → filter tells xs ≡ filter tells ys → declared_in xs by ≡ declared_in ys by
declared_told by xs ys same = alike (λ (o : Option Address) (e : Entry). or_else o (claims by e)) (claims_quiet by) None xs ys same

pub life_told : (n : ℕ) (xs ys : List Entry) → filter tells xs ≡ filter tells ys → life_in xs n ≡ life_in ys n
life_told n xs ys same = alike (restarts n) (restarts_quiet n) 0 xs ys same

pub accepted_told : (start n : ℕ) (xs ys : List Entry) → filter tells xs ≡ filter tells ys → accepted_by start xs n ≡ accepted_by start ys n
unfolding accepted_by
accepted_told start n xs ys same = ap (λ (l : Lived). l.accepted) (alike (lived n) (lived_quiet n) (let l : Lived = record { at = start; accepted = [] } in l) xs ys same)

-- whether two ends are settled is asked of what tells
below_agree : (f g : ℕ → Bool) → ((n : ℕ) → f n ≡ g n) → (n : ℕ) → any_below f n ≡ any_below g n
unfolding any_below
below_agree f g same zero = refl
below_agree f g same (suc n) = two (below_agree f g same n) (same n)
  where
    two : {a b c d : Bool} → a ≡ b → c ≡ d → (a || c) ≡ (b || d)
    two {a} {b} {c} {d} e h = cc

any_agree : (f g : ℕ → Bool) → ((n : ℕ) → f n ≡ g n) → any_node f ≡ any_node g
unfolding any_node
any_agree f g same = below_agree f g same 256

and_both : (a b c d : Bool) → a ≡ b → c ≡ d → (a && c) ≡ (b && d)
and_both a b c d e h = cc

module _ (xs ys : List Entry) (same : filter tells xs ≡ filter tells ys) where
  careof_told : (now g : ℕ) (home : Address) → careof_in now xs g home ≡ careof_in now ys g home
  careof_told now g home = ap (λ (o : Option HomeBinding). option_map (λ b. b.careof) (if_standing home now o)) (asked_told (registration_says g home) (home_quiet g home) None xs ys same)

  agent_told : (now n : ℕ) → agent_in now xs n ≡ agent_in now ys n
  agent_told now n = ap (λ (o : Option Registration). option_map (λ r. r.agent) (standing_registration now o)) (asked_told (registration_told n) (registration_quiet n) None xs ys same)

  bound_told : (now n : ℕ) (peer : Address) → is_bound_in now xs n peer ≡ is_bound_in now ys n peer
  bound_told now n peer = ap (lies_ahead now) (asked_told (binding_told n peer) (binding_quiet n peer) None xs ys same)

  present_told : (n : ℕ) (own : Address) → present_in xs n own ≡ present_in ys n own
  present_told n own = asked_told (present_says n) (present_quiet n) (Some own) xs ys same

  with_agent_told : (now : ℕ) (own present : Address) (agent : Option Address) (holder : Option ℕ) → is_with_agent now xs own present agent holder ≡ is_with_agent now ys own present agent holder
  with_agent_told now own present (Some agent) (Some g) =
      and_both (is_address (declared_in xs g) agent) (is_address (declared_in ys g) agent) (is_address (careof_in now xs g own) present) (is_address (careof_in now ys g own) present)
      (ap (λ (o : Option Address). is_address o agent) (declared_told g xs ys same)) (ap (λ (o : Option Address). is_address o present) (careof_told now g own))
  with_agent_told now own present None holder = refl
  with_agent_told now own present (Some agent) None = refl

  placed_told : (now x : ℕ) (own present : Address) → is_placed now xs x own present ≡ is_placed now ys x own present
  placed_told now x own present = by (present.0 == own.0)
    where
      by : (b : Bool) → (if b then not (any_node (λ g. is_some (careof_in now xs g own))) else is_with_agent now xs own present (agent_in now xs x) (holder_in xs own.0))
          ≡ (if b then not (any_node (λ g. is_some (careof_in now ys g own))) else is_with_agent now ys own present (agent_in now ys x) (holder_in ys own.0))
      by true = ap not (any_agree (λ g. is_some (careof_in now xs g own)) (λ g. is_some (careof_in now ys g own)) (λ g. ap is_some (careof_told now g own)))
      by false =
          with_agent_told now own present (agent_in now xs x) (holder_in xs own.0)
          ∙ ap (λ (o : Option Address). is_with_agent now ys own present o (holder_in xs own.0)) (agent_told now x)
          ∙ ap (λ (o : Option ℕ). is_with_agent now ys own present (agent_in now ys x) o) (holder_told own.0 xs ys same)

  settled_at_told : (now x : ℕ) (own peer : Address) (holds : Option ℕ) (present : Option Address) → is_settled_at now xs x own peer holds present ≡ is_settled_at now ys x own peer holds present
  settled_at_told now x own peer holds None = refl
  settled_at_told now x own peer holds (Some present) =
      and_both (is_held_by (holder_in xs present.0) x) (is_held_by (holder_in ys present.0) x) _ _
      (ap (λ (o : Option ℕ). is_held_by o x) (holder_told present.0 xs ys same))
      (and_both (is_placed now xs x own present) (is_placed now ys x own present) _ _ (placed_told now x own present)
      (ap (λ (b : Bool). is_held_right own present holds && is_bound_right b present holds) (bound_told now x peer)))

  settled_with_told : (now start x y : ℕ) (own peer : Option Address) → is_settled_with now start xs x y own peer ≡ is_settled_with now start ys x y own peer
  settled_with_told now start x y (Some own) (Some peer) =
      settled_at_told now x own peer (held (accepted_by start xs y) own.0 now) (present_in xs x own)
      ∙ ap (λ (l : List Acceptance). is_settled_at now ys x own peer (held l own.0 now) (present_in xs x own)) (accepted_told start y xs ys same)
      ∙ ap (is_settled_at now ys x own peer (held (accepted_by start ys y) own.0 now)) (present_told x own)
  settled_with_told now start x y None peer = refl
  settled_with_told now start x y (Some own) None = refl

  settled_to_told : (start x y : ℕ) → is_settled_to start xs x y ≡ is_settled_to start ys x y
  settled_to_told start x y =
      settled_with_told (moment_in start xs) start x y (declared_in xs x) (declared_in xs y)
      ∙ ap (λ (now : ℕ). is_settled_with now start ys x y (declared_in xs x) (declared_in xs y)) (moment_told start xs ys same)
      ∙ ap (λ (o : Option Address). is_settled_with (moment_in start ys) start ys x y o (declared_in xs y)) (declared_told x xs ys same)
      ∙ ap (is_settled_with (moment_in start ys) start ys x y (declared_in ys x)) (declared_told y xs ys same)

  pub settled_told : (start x y : ℕ) → is_settled start xs x y ≡ is_settled start ys x y
  unfolding is_settled
  settled_told start x y =
      ap (λ (b : Bool). not (x == y) && b)
      (and_both (is_settled_to start xs x y) (is_settled_to start ys x y) (is_settled_to start xs y x) (is_settled_to start ys y x) (settled_to_told start x y) (settled_to_told start y x))

-- what outsiders hear is asked of what tells
heards_agree : (f g : ℕ → Bool) → ((o : ℕ) → f o ≡ g o) → (k n : ℕ) → heards f k n ≡ heards g k n
heards_agree f g same k zero = refl
heards_agree f g same k (suc o) = two (heards_agree f g same k o) (ap (λ (b : Bool). if b then Heard k o ∷ [] else []) (same o))
  where
    two : {a b c d : List Entry} → a ≡ b → c ≡ d → a ++ c ≡ b ++ d
    two {a} {b} {c} {d} e h = cc

pub heards_told : (by : Option ℕ) (link k n : ℕ) (xs ys : List Entry) → filter tells xs ≡ filter tells ys
    → heards (λ o. is_other by o && hears_in xs o link) k n ≡ heards (λ o. is_other by o && hears_in ys o link) k n
heards_told by link k n xs ys same =
    heards_agree (λ o. is_other by o && hears_in xs o link) (λ o. is_other by o && hears_in ys o link)
    (λ o. ap (λ (b : Bool). is_other by o && b) (hears_told o link xs ys same)) k n

-- what tells of what tells
pub told_again : (past : List Entry) → filter tells (filter tells past) ≡ filter tells past
told_again [] = refl
told_again (e ∷ past) = by (tells e) refl (told_again past)
  where
    by : (b : Bool) → tells e ≡ b → filter tells (filter tells past) ≡ filter tells past
        → filter tells (if b then e ∷ filter tells past else filter tells past) ≡ (if b then e ∷ filter tells past else filter tells past)
    by true is rest = ap (λ (b : Bool). if b then e ∷ filter tells (filter tells past) else filter tells (filter tells past)) is ∙ ap (λ (l : List Entry). e ∷ l) rest
    by false is rest = rest

-- the moment behind one entry more
pub moment_more : (start : ℕ) (past : List Entry) (e : Entry) → moment_in start (past ++ e ∷ []) ≡ unwrap_or (moment_says e) (moment_in start past)
moment_more start past e = fold-append (λ (s : ℕ) (x : Entry). unwrap_or (moment_says x) s) start past (e ∷ [])
