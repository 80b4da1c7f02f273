-- The forms of words, as what a parse of clap reads of a command.
use Rattle.std.specs.Prelude.{ℕ, ◌==◌, List, [], ◌∷◌, Bool, true, false, codes, Option, Some, None, option_map, if◌then◌else◌}
use Rattle.std.specs.Str.{bytes_eq}
use Rattle.clap.specs.Words.{App, Row, Rule, first_of, new_app, new_rule, with_rule, with_subcommand}
use Rattle.mip_commands.specs.Commands.{address_in, count_in, draft_of, seed_in, turns_in}
use Rattle.mip_commands.specs.declared.command.Command.{Command}
use Rattle.mip_commands.specs.declared.command.Command.TheVariants.{Replay, Decode, Claims, Audit, Make, Sum, Node, Hub}
use Rattle.mip_commands.specs.declared.draft.Draft.{Draft}

-- the program without its subcommands
abbrev pub top : App
top = record (new_app (codes "mip")) {
  top = record (new_app (codes "mip")).top {
    no_binary_name = true;
    subcommand_required = true;
    disable_help_flag = true;
    disable_help_subcommand = true;
  };
}

abbrev pub wanted : List ℕ → Rule
wanted id = record (new_rule id) { required = true }

-- a subcommand that may have an address
abbrev pub asking : List ℕ → App
asking name = with_rule (new_app name) (new_rule (codes "address"))

-- a subcommand with a seed and a count
abbrev pub drafted : List ℕ → App
drafted name = with_rule (with_rule (new_app name) (wanted (codes "seed"))) (wanted (codes "count"))

-- a subcommand with a number of turns
abbrev pub turned : List ℕ → App
turned name = with_rule (new_app name) (wanted (codes "turns"))

-- the forms that read a schedule or a packet
abbrev pub readers : App
readers = with_subcommand (with_subcommand (with_subcommand (with_subcommand top
    (new_app (codes "replay")).top)
    (new_app (codes "decode")).top)
    (asking (codes "claims")).top)
    (new_app (codes "audit")).top

abbrev pub forms : App
forms = with_subcommand (with_subcommand (with_subcommand (with_subcommand readers
    (drafted (codes "make")).top)
    (drafted (codes "sum")).top)
    (turned (codes "node")).top)
    (turned (codes "hub")).top

-- the word is none of the forms', since it begins with a hyphen (45)
abbrev pub is_flag : List ℕ → Bool
is_flag [] = false
is_flag (c ∷ rest) = c == 45

-- the claims, by the address if there is one
abbrev pub claims : Option (List ℕ) → Option Command
claims (Some word) = option_map (λ address. Claims (Some address)) (address_in word)
claims None = Some (Claims None)

-- what a schedule is made of, by a seed and a count if they are there
abbrev pub draft : Option (List ℕ) → Option (List ℕ) → Option Draft
draft (Some seed) (Some count) = draft_of (seed_in seed) (count_in count)
draft (Some seed) None = None
draft None count = None

abbrev pub turns_of : Option (List ℕ) → Option ℕ
turns_of (Some word) = turns_in word
turns_of None = None

-- the command of a subcommand's name, by the arguments that it has
abbrev pub named : List ℕ → Option (List ℕ) → Option (List ℕ) → Option (List ℕ) → Option (List ℕ) → Option Command
named name address seed count turns =
    if bytes_eq name (codes "replay") then Some Replay
    else (if bytes_eq name (codes "decode") then Some Decode
    else (if bytes_eq name (codes "claims") then claims address
    else (if bytes_eq name (codes "audit") then Some Audit
    else (if bytes_eq name (codes "make") then option_map (λ d. Make d) (draft seed count)
    else (if bytes_eq name (codes "sum") then option_map (λ d. Sum d) (draft seed count)
    else (if bytes_eq name (codes "node") then option_map (λ n. Node n) (turns_of turns)
    else (if bytes_eq name (codes "hub") then option_map (λ n. Hub n) (turns_of turns)
    else None)))))))

-- the command of the subcommand that a parse met
abbrev pub asked : Option (List ℕ × List Row) → Option Command
asked None = None
asked (Some p) = named p.0 (first_of (codes "address") p.1) (first_of (codes "seed") p.1) (first_of (codes "count") p.1) (first_of (codes "turns") p.1)
