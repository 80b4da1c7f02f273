-- What a parse of clap makes of words of which none is a flag.
use Rattle.std.proofs.Common.{◌≡◌, ◌∙◌, ◌⊎◌, ◌||◌, ℕ, Bool, true, false, refl, sym, ap, subst, List, [], ◌∷◌, ◌++◌, Option, Some, None, option_map, codes, inl, inr, append-nil, append_assoc, true≢false}
use Rattle.std.specs.List.{find, fold, list_any}
use Rattle.std.specs.Str.{bytes_eq}
use Rattle.std.proofs.lemmas.Slice.Eq.{bytes_eq-Decides}
use Rattle.clap.specs.Lexer.{long_of, short_of}
use Rattle.clap.specs.Walk.{Text, Row, Rule, Names, Walk, answers_to, nothing_held, walk_from, walked}
use Rattle.clap.specs.Simple.{App, Shape, built, built_leaf, inherited, names_of, label_of, new_app, rows_at, subcommand_of, is_simple}
use Rattle.clap.specs.Kinds.{HasKind, IsAmong, Kinds, or_else}
use Rattle.clap.specs.Faults.{fault_of, level_fault, walk_fault, is_simple_and_free}
use Rattle.clap.specs.Values.{kind_of}
use Rattle.clap.specs.declared.Error.{Error}
use Rattle.clap.specs.declared.error.ErrorKind.{ErrorKind}
use Rattle.clap.specs.declared.error.ErrorKind.TheVariants as kind
use Rattle.clap.proofs.OnLiterals.{clap_on_literals}
use Rattle.mip_commands.specs.Forms.{forms, top, asking as asking_form, drafted as drafted_form, turned as turned_form, is_flag, asked, claims, draft, named, turns_of}
use Rattle.mip_commands.specs.Commands.{alone, asking, command_named, command_of, drafted, turned}
use Rattle.mip_commands.specs.declared.command.Command.{Command}
use Rattle.mip_commands.specs.declared.command.Command.TheVariants.{Replay, Decode, Audit, Make, Sum, Node, Hub}
use Rattle.mip_commands.specs.declared.draft.Draft.{Draft}

pub is_free : is_simple_and_free forms ≡ true
unfolding clap_on_literals
is_free = refl

pub is_known : is_simple forms ≡ true
unfolding clap_on_literals
is_known = refl

-- ---- a word that is no flag begins with no hyphen, so it is a value

not_dashes : (word : Text) → is_flag word ≡ false → bytes_eq word (45 ∷ 45 ∷ []) ≡ false
not_dashes [] plain = refl
not_dashes (c ∷ rest) plain = rw plain refl

not_long : (word : Text) → is_flag word ≡ false → long_of word ≡ None
not_long [] plain = refl
not_long (c ∷ rest) plain = rw plain refl

not_short : (word : Text) → is_flag word ≡ false → short_of word ≡ None
not_short [] plain = refl
not_short (c ∷ rest) plain = rw plain refl

-- ---- the words of a subcommand

-- the kinds of error that a subcommand may give at its own words
abbrev fault_at : Shape → List Text → Kinds
fault_at s words = level_fault s [] nothing_held words false []

-- a subcommand without words, one that may have an address, one with a number of turns, and one with a seed and a count, as they are built
abbrev bare : Text → Shape
bare name = built_leaf (inherited top.top (new_app name).top)

abbrev free : Text → Shape
free name = built_leaf (inherited top.top (asking_form name).top)

abbrev one : Text → Shape
one name = built_leaf (inherited top.top (turned_form name).top)

abbrev two : Text → Shape
two name = built_leaf (inherited top.top (drafted_form name).top)

module _ (name : Text) where
  none_wanted : fault_at (bare name) [] ≡ []
  unfolding clap_on_literals
  none_wanted = refl

  first_stray : (a : Text) (rest : List Text) → is_flag a ≡ false → fault_at (bare name) (a ∷ rest) ≡ kind.UnknownArgument ∷ []
  unfolding clap_on_literals
  first_stray a rest plain = rw (not_dashes a plain, not_long a plain, not_short a plain) refl

  nothing_asked : fault_at (free name) [] ≡ []
  unfolding clap_on_literals
  nothing_asked = refl

  address_given : (a : Text) → is_flag a ≡ false → fault_at (free name) (a ∷ []) ≡ []
  unfolding clap_on_literals
  address_given a plain = rw (not_dashes a plain, not_long a plain, not_short a plain) refl

  turns_wanted : fault_at (one name) [] ≡ kind.MissingRequiredArgument ∷ []
  unfolding clap_on_literals
  turns_wanted = refl

  turns_given : (a : Text) → is_flag a ≡ false → fault_at (one name) (a ∷ []) ≡ []
  unfolding clap_on_literals
  turns_given a plain = rw (not_dashes a plain, not_long a plain, not_short a plain) refl

  seed_wanted : fault_at (two name) [] ≡ kind.MissingRequiredArgument ∷ []
  unfolding clap_on_literals
  seed_wanted = refl

  count_wanted : (a : Text) → is_flag a ≡ false → fault_at (two name) (a ∷ []) ≡ kind.MissingRequiredArgument ∷ []
  unfolding clap_on_literals
  count_wanted a plain = rw (not_dashes a plain, not_long a plain, not_short a plain) refl

  module _ (a b : Text) (first : is_flag a ≡ false) (second : is_flag b ≡ false) (rest : List Text) where
    stray_of_free : fault_at (free name) (a ∷ b ∷ rest) ≡ kind.UnknownArgument ∷ []
    unfolding clap_on_literals
    stray_of_free = rw (not_dashes a first, not_long a first, not_short a first, not_dashes b second, not_long b second, not_short b second) refl

    stray_of_one : fault_at (one name) (a ∷ b ∷ rest) ≡ kind.UnknownArgument ∷ []
    unfolding clap_on_literals
    stray_of_one = rw (not_dashes a first, not_long a first, not_short a first, not_dashes b second, not_long b second, not_short b second) refl

  module _ (a b : Text) (first : is_flag a ≡ false) (second : is_flag b ≡ false) where
    both_given : fault_at (two name) (a ∷ b ∷ []) ≡ []
    unfolding clap_on_literals
    both_given = rw (not_dashes a first, not_long a first, not_short a first, not_dashes b second, not_long b second, not_short b second) refl

    third_stray : (c : Text) (rest : List Text) → is_flag c ≡ false → fault_at (two name) (a ∷ b ∷ c ∷ rest) ≡ kind.UnknownArgument ∷ []
    unfolding clap_on_literals
    third_stray c rest third =
        rw (
          not_dashes a first,
          not_long a first,
          not_short a first,
          not_dashes b second,
          not_long b second,
          not_short b second,
          not_dashes c third,
          not_long c third,
          not_short c third,
        ) refl

-- ---- the subcommand that the first word names

-- after a subcommand the words are left to it
left_to : (c : List Rule) (names : Names) (w : Walk) (name : Text) (seen rest : List Text)
    → ◌≡◌ {A = Walk} (fold (walked c names) (record w { stopped = Some (name, seen) }) rest) (record w { stopped = Some (name, seen ++ rest) })
unfolding walked
left_to c names w name seen [] = ap (λ xs. record w { stopped = Some (name, xs) }) (sym (append-nil seen))
left_to c names w name seen (word ∷ rest) =
    left_to c names w name (seen ++ word ∷ []) rest ∙ ap (λ xs. record w { stopped = Some (name, xs) }) (append_assoc seen (word ∷ []) rest)

none_judged : (s : Shape) (names : Names) (w : Walk) (name : Text) (seen rest : List Text)
    → walk_fault s names (record w { stopped = Some (name, seen) }) rest ≡ []
unfolding walk_fault walked
none_judged s names w name seen [] = refl
none_judged s names w name seen (word ∷ rest) = none_judged s names w name (seen ++ word ∷ []) rest

or_nothing : (kinds : Kinds) → or_else kinds [] ≡ kinds
or_nothing [] = refl
or_nothing (k ∷ ks) = refl

abbrev start : Walk
start = walk_from nothing_held

abbrev names : Names
names = names_of (built forms)

-- s is one of the subcommands
module _ (s : Shape) (is : find (answers_to s.name) names ≡ Some (label_of s))
    (known : find (λ x. answers_to s.name (label_of x)) (built forms).subs ≡ Some s)
    (no_help : bytes_eq s.name (codes "help") ≡ false) (rest : List Text) where
  enters : fault_of forms (s.name ∷ rest) ≡ fault_at s rest
  unfolding clap_on_literals
  enters = rw (is, no_help, none_judged (built forms).top names start s.name [] rest, left_to (built forms).top.rules names start s.name [] rest, known) (or_nothing _)

  gives : subcommand_of forms (s.name ∷ rest) ≡ Some (rows_at s rest)
  unfolding clap_on_literals
  gives = rw (is, left_to (built forms).top.rules names start s.name [] rest, known) refl

no_words : fault_of forms [] ≡ kind.MissingSubcommand ∷ []
unfolding clap_on_literals
no_words = refl

stray : (word : Text) (rest : List Text) → is_flag word ≡ false → find (answers_to word) names ≡ None
    → fault_of forms (word ∷ rest) ≡ kind.UnknownArgument ∷ kind.InvalidSubcommand ∷ []
unfolding clap_on_literals
stray word rest plain none = rw (none, not_dashes word plain, not_long word plain, not_short word plain) refl

-- ---- the command

-- the words are taken as what the forms say, or they are refused and are none of the forms
abbrev pub Judged : List Text → Type 0
Judged words = ((fault_of forms words ≡ []) × (asked (subcommand_of forms words) ≡ command_of words))
    ⊎ ((k : ErrorKind) × (ks : Kinds) × (fault_of forms words ≡ k ∷ ks) × (command_of words ≡ None))

abbrev HasNoFlag : List Text → Type 0
HasNoFlag words = list_any is_flag words ≡ false

both_false : (a b : Bool) → (a || b) ≡ false → (a ≡ false) × (b ≡ false)
both_false false b e = (refl, e)
both_false true b e = absurd (true≢false e)

module _ (s : Shape) (is : find (answers_to s.name) names ≡ Some (label_of s))
    (known : find (λ x. answers_to s.name (label_of x)) (built forms).subs ≡ Some s)
    (no_help : bytes_eq s.name (codes "help") ≡ false) (rest : List Text) where
  refuses : (k : ErrorKind) → fault_at s rest ≡ k ∷ [] → command_of (s.name ∷ rest) ≡ None → Judged (s.name ∷ rest)
  refuses k fails none = inr (k, [], enters s is known no_help rest ∙ fails, none)

  takes : fault_at s rest ≡ [] → asked (Some (rows_at s rest)) ≡ command_of (s.name ∷ rest) → Judged (s.name ∷ rest)
  takes passes same = inl (enters s is known no_help rest ∙ passes, ap asked (gives s is known no_help rest) ∙ same)

-- a subcommand without words
module _ (name : Text) (command : Command) (is : find (answers_to name) names ≡ Some (label_of (bare name)))
    (known : find (λ x. answers_to name (label_of x)) (built forms).subs ≡ Some (bare name))
    (no_help : bytes_eq name (codes "help") ≡ false)
    (met : (a s c t : Option Text) → named name a s c t ≡ Some command) (means : (rest : List Text) → command_named name rest ≡ alone command rest) where
  asked_alone : asked (Some (rows_at (bare name) [])) ≡ Some command
  unfolding clap_on_literals
  asked_alone = met None None None None

  bare_judged : (rest : List Text) → HasNoFlag rest → Judged (name ∷ rest)
  bare_judged [] plain = takes (bare name) is known no_help [] (none_wanted name) (asked_alone ∙ sym (means []))
  bare_judged (a ∷ rest) plain =
      refuses (bare name) is known no_help (a ∷ rest) kind.UnknownArgument (first_stray name a rest (both_false _ _ plain).0) (means (a ∷ rest))

-- a subcommand that may have an address
module _ (name : Text) (is : find (answers_to name) names ≡ Some (label_of (free name)))
    (known : find (λ x. answers_to name (label_of x)) (built forms).subs ≡ Some (free name))
    (no_help : bytes_eq name (codes "help") ≡ false)
    (met : (a s c t : Option Text) → named name a s c t ≡ claims a) (means : (rest : List Text) → command_named name rest ≡ asking rest) where
  asked_none : asked (Some (rows_at (free name) [])) ≡ claims None
  unfolding clap_on_literals
  asked_none = met None None None None

  asked_address : (a : Text) → is_flag a ≡ false → asked (Some (rows_at (free name) (a ∷ []))) ≡ claims (Some a)
  unfolding clap_on_literals
  asked_address a plain = rw (not_dashes a plain, not_long a plain, not_short a plain) (met (Some a) None None None)

  free_judged : (rest : List Text) → HasNoFlag rest → Judged (name ∷ rest)
  free_judged [] plain = takes (free name) is known no_help [] (nothing_asked name) (asked_none ∙ sym (means []))
  free_judged (a ∷ []) plain =
      let first = both_false _ _ plain in
      takes (free name) is known no_help (a ∷ []) (address_given name a first.0) (asked_address a first.0 ∙ sym (means (a ∷ [])))
  free_judged (a ∷ b ∷ rest) plain =
      let first = both_false _ _ plain in
      let second = both_false _ _ first.1 in
      refuses (free name) is known no_help (a ∷ b ∷ rest) kind.UnknownArgument (stray_of_free name a b first.0 second.0 rest) (means (a ∷ b ∷ rest))

-- a subcommand with a number of turns
module _ (name : Text) (command : ℕ → Command) (is : find (answers_to name) names ≡ Some (label_of (one name)))
    (known : find (λ x. answers_to name (label_of x)) (built forms).subs ≡ Some (one name))
    (no_help : bytes_eq name (codes "help") ≡ false)
    (met : (a s c t : Option Text) → named name a s c t ≡ option_map command (turns_of t)) (means : (rest : List Text) → command_named name rest ≡ turned command rest) where
  asked_turns : (a : Text) → is_flag a ≡ false → asked (Some (rows_at (one name) (a ∷ []))) ≡ option_map command (turns_of (Some a))
  unfolding clap_on_literals
  asked_turns a plain = rw (not_dashes a plain, not_long a plain, not_short a plain) (met None None None (Some a))

  one_judged : (rest : List Text) → HasNoFlag rest → Judged (name ∷ rest)
  one_judged [] plain = refuses (one name) is known no_help [] kind.MissingRequiredArgument (turns_wanted name) (means [])
  one_judged (a ∷ []) plain =
      let first = both_false _ _ plain in
      takes (one name) is known no_help (a ∷ []) (turns_given name a first.0) (asked_turns a first.0 ∙ sym (means (a ∷ [])))
  one_judged (a ∷ b ∷ rest) plain =
      let first = both_false _ _ plain in
      let second = both_false _ _ first.1 in
      refuses (one name) is known no_help (a ∷ b ∷ rest) kind.UnknownArgument (stray_of_one name a b first.0 second.0 rest) (means (a ∷ b ∷ rest))

-- a subcommand with a seed and a count
module _ (name : Text) (command : Draft → Command) (is : find (answers_to name) names ≡ Some (label_of (two name)))
    (known : find (λ x. answers_to name (label_of x)) (built forms).subs ≡ Some (two name))
    (no_help : bytes_eq name (codes "help") ≡ false)
    (met : (a s c t : Option Text) → named name a s c t ≡ option_map command (draft s c)) (means : (rest : List Text) → command_named name rest ≡ drafted command rest) where
  asked_draft : (a b : Text) → is_flag a ≡ false → is_flag b ≡ false → asked (Some (rows_at (two name) (a ∷ b ∷ []))) ≡ option_map command (draft (Some a) (Some b))
  unfolding clap_on_literals
  asked_draft a b first second =
      rw (not_dashes a first, not_long a first, not_short a first, not_dashes b second, not_long b second, not_short b second) (met None (Some a) (Some b) None)

  two_judged : (rest : List Text) → HasNoFlag rest → Judged (name ∷ rest)
  two_judged [] plain = refuses (two name) is known no_help [] kind.MissingRequiredArgument (seed_wanted name) (means [])
  two_judged (a ∷ []) plain =
      refuses (two name) is known no_help (a ∷ []) kind.MissingRequiredArgument (count_wanted name a (both_false _ _ plain).0) (means (a ∷ []))
  two_judged (a ∷ b ∷ []) plain =
      let first = both_false _ _ plain in
      let second = both_false _ _ first.1 in
      takes (two name) is known no_help (a ∷ b ∷ []) (both_given name a b first.0 second.0) (asked_draft a b first.0 second.0 ∙ sym (means (a ∷ b ∷ [])))
  two_judged (a ∷ b ∷ c ∷ rest) plain =
      let first = both_false _ _ plain in
      let second = both_false _ _ first.1 in
      let third = both_false _ _ second.1 in
      refuses (two name) is known no_help (a ∷ b ∷ c ∷ rest) kind.UnknownArgument (third_stray name a b first.0 second.0 c rest third.0) (means (a ∷ b ∷ c ∷ rest))

flipped : (a b : Text) → bytes_eq a b ≡ false → bytes_eq b a ≡ false
flipped a b differ = go (bytes_eq b a) refl
  where
    go : (r : Bool) → bytes_eq b a ≡ r → r ≡ false
    go false e = refl
    go true e = absurd (true≢false (sym ((bytes_eq-Decides a b).1 (sym ((bytes_eq-Decides b a).0 e))) ∙ differ))

-- the first word names none of them
module _ (word : Text) (r : bytes_eq (codes "replay") word ≡ false) (d : bytes_eq (codes "decode") word ≡ false) (c : bytes_eq (codes "claims") word ≡ false)
    (a : bytes_eq (codes "audit") word ≡ false) (m : bytes_eq (codes "make") word ≡ false) (s : bytes_eq (codes "sum") word ≡ false) (n : bytes_eq (codes "node") word ≡ false) (h : bytes_eq (codes "hub") word ≡ false) where
  no_name : find (answers_to word) names ≡ None
  no_name = rw (r, d, c, a, m, s, n, h) refl

  unknown : (rest : List Text) → command_of (word ∷ rest) ≡ None
  unknown rest =
      rw (
        flipped (codes "replay") word r,
        flipped (codes "decode") word d,
        flipped (codes "claims") word c,
        flipped (codes "audit") word a,
        flipped (codes "make") word m,
        flipped (codes "sum") word s,
        flipped (codes "node") word n,
        flipped (codes "hub") word h,
      ) refl

same : (name word : Text) (rest : List Text) → bytes_eq name word ≡ true → Judged (name ∷ rest) → Judged (word ∷ rest)
same name word rest e h = subst (λ w. Judged (w ∷ rest)) ((bytes_eq-Decides name word).0 e) h

pub judged : (words : List Text) → HasNoFlag words → Judged words
judged [] plain = inr (kind.MissingSubcommand, [], no_words, refl)
judged (word ∷ rest) plain =
    by (bytes_eq (codes "replay") word) (bytes_eq (codes "decode") word) (bytes_eq (codes "claims") word) (bytes_eq (codes "audit") word) (bytes_eq (codes "make") word)
    (bytes_eq (codes "sum") word) (bytes_eq (codes "node") word) (bytes_eq (codes "hub") word) refl refl refl refl refl refl refl refl
  where
    left : HasNoFlag rest
    left = (both_false (is_flag word) (list_any is_flag rest) plain).1

    by : (r d c a m s n h : Bool) → bytes_eq (codes "replay") word ≡ r → bytes_eq (codes "decode") word ≡ d → bytes_eq (codes "claims") word ≡ c
        → bytes_eq (codes "audit") word ≡ a → bytes_eq (codes "make") word ≡ m → bytes_eq (codes "sum") word ≡ s
        → bytes_eq (codes "node") word ≡ n → bytes_eq (codes "hub") word ≡ h → Judged (word ∷ rest)
    by true d c a m s n h is _ _ _ _ _ _ _ = same (codes "replay") word rest is (bare_judged (codes "replay") Replay refl refl refl (λ _ _ _ _. refl) (λ _. refl) rest left)
    by false true c a m s n h _ is _ _ _ _ _ _ = same (codes "decode") word rest is (bare_judged (codes "decode") Decode refl refl refl (λ _ _ _ _. refl) (λ _. refl) rest left)
    by false false true a m s n h _ _ is _ _ _ _ _ = same (codes "claims") word rest is (free_judged (codes "claims") refl refl refl (λ _ _ _ _. refl) (λ _. refl) rest left)
    by false false false true m s n h _ _ _ is _ _ _ _ = same (codes "audit") word rest is (bare_judged (codes "audit") Audit refl refl refl (λ _ _ _ _. refl) (λ _. refl) rest left)
    by false false false false true s n h _ _ _ _ is _ _ _ = same (codes "make") word rest is (two_judged (codes "make") (λ d. Make d) refl refl refl (λ _ _ _ _. refl) (λ _. refl) rest left)
    by false false false false false true n h _ _ _ _ _ is _ _ = same (codes "sum") word rest is (two_judged (codes "sum") (λ d. Sum d) refl refl refl (λ _ _ _ _. refl) (λ _. refl) rest left)
    by false false false false false false true h _ _ _ _ _ _ is _ = same (codes "node") word rest is (one_judged (codes "node") (λ n. Node n) refl refl refl (λ _ _ _ _. refl) (λ _. refl) rest left)
    by false false false false false false false true _ _ _ _ _ _ _ is = same (codes "hub") word rest is (one_judged (codes "hub") (λ n. Hub n) refl refl refl (λ _ _ _ _. refl) (λ _. refl) rest left)
    by false false false false false false false false r d c a m s n h =
        inr (kind.UnknownArgument, kind.InvalidSubcommand ∷ [], stray word rest (both_false _ _ plain).0 (no_name word r d c a m s n h), unknown word r d c a m s n h rest)

-- what is known of a parse that succeeds, and of one that fails
module _ (a : App) (words : List Text) (is : a ≡ forms) (plain : HasNoFlag words) where
  pub taken : (met : Option (Text × List Row)) → fault_of a words ≡ [] → met ≡ subcommand_of a words → asked met ≡ command_of words
  taken met passes same = elim (judged words plain) as (λ _. asked met ≡ command_of words) [
    | inl h ↦ ap asked (same ∙ ap (λ (x : App). subcommand_of x words) is) ∙ h.1
    | inr h ↦ let bad : h.0 ∷ h.1 ≡ [] = sym h.2 ∙ ap (λ (x : App). fault_of x words) (sym is) ∙ passes in cc
  ]

  pub not_memory : (e : Error) → HasKind (fault_of a words) e → (kind_of e ≡ kind.OutOfMemory → ⊥) → command_of words ≡ None
  not_memory e fails other = elim (judged words plain) as (λ _. command_of words ≡ None) [
    | inl h ↦ elim fails as (λ _. command_of words ≡ None) [
      | inl memory ↦ absurd (other memory)
      | inr among ↦ absurd (subst (IsAmong (kind_of e)) (ap (λ (x : App). fault_of x words) is ∙ h.0) among)
    ]
    | inr h ↦ h.3
  ]
