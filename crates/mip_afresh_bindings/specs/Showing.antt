-- The rows that are shown, one home after another.
use Rattle.std.specs.Prelude.{ℕ, List, [], Option, Some, None, fold, map, nat_lt, if◌then◌else◌}
use Rattle.mip_binding.specs.Acceptance.{Acceptance}
use Rattle.mip_binding.specs.Rows.{BindingRow, find_by, put_by, add_found}
use Rattle.mip_binding.specs.Homes.{HomeKept, number_key, shown_in, shown_home}
use Rattle.mip_afresh_bindings.specs.declared.row.Row.{Row}

abbrev pub row_seen : Row → BindingRow
row_seen r = record {
  home = r.home.0;
  number = r.number;
  careof = r.careof.0;
  sequence = r.sequence;
  end = r.end.0;
  kept_until = r.kept_until.0;
}

-- homes in order with one more among them, where one is left to come
abbrev pub put_if : Option ℕ → List ℕ → List ℕ
put_if None homes = homes
put_if (Some home) homes = put_by (λ h. h) home homes

-- the homes of some acceptances, in order, each once
abbrev pub homes_of : List Acceptance → List ℕ
homes_of xs = fold (λ homes a. put_by (λ h. h) a.home homes) [] xs

-- the row of a home under a number, where one lives
abbrev pub rows_under : HomeKept → ℕ → List BindingRow
rows_under kept number = map (shown_in kept) (add_found (find_by number_key number kept.live) [])

-- the rows of a home, while its sequence is kept
abbrev pub rows_of : ℕ → Option HomeKept → List BindingRow
rows_of now None = []
rows_of now (Some kept) = if nat_lt now kept.until then shown_home kept else []
