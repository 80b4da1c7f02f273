-- What a node finds around it as it claims addresses, by the table of claims of a network.
use Rattle.std.specs.Prelude.{ℕ, true, Option, option_map}
use Rattle.mip_outside.specs.Places.{Around}
use Rattle.mip_links.specs.Nets.{NetSeen, holder_of}
use Rattle.mip_history.specs.Knowing.{other_than}
use Rattle.mip_roles.specs.declared.place.NetPlace.{NetPlace}

-- whoever else holds an address in the table
abbrev pub around_of : NetSeen → ℕ → Option ℕ → Around
around_of net n home = record { room = λ _. true; others = λ a. other_than n (holder_of net.rows a); home = home }

abbrev pub around_seen : NetPlace → Around
around_seen p = around_of p.net.now p.node (option_map (λ a. a.0) p.home)
