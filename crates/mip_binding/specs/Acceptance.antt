-- What an accepted Binding Update said. RFC 6275 section 9.5.1
use Rattle.std.specs.Prelude.{ℕ, Bool, ◌==◌}

-- at a moment, for a home address: a care-of address under a number of this home, the update's sequence
-- number, and the moment at which the binding ends. Addresses are numbers, moments milliseconds
pub record Acceptance : Type 0 where
  pub at : ℕ
  pub home : ℕ
  pub number : ℕ
  pub careof : ℕ
  pub sequence : ℕ
  pub end : ℕ

-- home itself was accepted as the care-of address: the bindings of this home end
abbrev pub is_deletion : Acceptance → Bool
is_deletion a = a.careof == a.home

-- what an acceptance leaves, whenever it came
pub record Binding : Type 0 where
  pub home : ℕ
  pub number : ℕ
  pub careof : ℕ
  pub sequence : ℕ
  pub end : ℕ

abbrev pub binding_of : Acceptance → Binding
binding_of a = record {
  home = a.home;
  number = a.number;
  careof = a.careof;
  sequence = a.sequence;
  end = a.end;
}
