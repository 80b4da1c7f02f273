-- The numbers that a mobile draws, and the places that it comes to, counted over the steps of its present life. RFC 6275 sections 5.2.5, 11.4.1 and 11.4.2
use Rattle.std.specs.Prelude.{ℕ, ◌+◌, ◌==◌, List, [], ◌∷◌, Bool, true, false, not, length}
use Rattle.std.specs.List.{filter}
use Rattle.mip_words.specs.LastLaws.{since}
use Rattle.mip_words.specs.declared.address.Address.{Address}
use Rattle.mip_entries.specs.Stamped.{Stamped}
use Rattle.mip_bulist.specs.declared.aim.Aim.TheVariants.{Bind, Delete}
use Rattle.mip_rules_mobile.specs.Trials.{Start}
use Rattle.mip_rules_mobile.specs.Sendings.{Solicits}
use Rattle.mip_rules_mobile.specs.Steps.{Step, Sends, Arrives, Restarts, Seeks, Tries}

abbrev pub is_loss : Step → Bool
is_loss (Restarts secrets) = true
is_loss _ = false

-- the steps since it last restarted
abbrev pub this_life : List (Stamped Step) → List (Stamped Step)
this_life past = since (λ s. is_loss s.step) past

-- a discovery begins
abbrev pub is_search : Step → Bool
is_search Seeks = true
is_search _ = false

-- the prefixes of the home link are solicited
abbrev pub is_solicitation : Step → Bool
is_solicitation (Sends (Solicits home careof agent identifier)) = true
is_solicitation _ = false

-- it comes to a place: to an address other than its home
abbrev pub is_place : Address → Step → Bool
is_place home (Arrives address) = not (address.0 == home.0)
is_place home _ = false

-- a trial that is to bind draws two cookies, one that is to delete draws one
abbrev pub cookies_in : Step → ℕ
cookies_in (Tries row (Start (Bind to) home careof)) = 2
cookies_in (Tries row (Start Delete home careof)) = 1
cookies_in _ = 0

abbrev pub cookies_drawn : List (Stamped Step) → ℕ
cookies_drawn [] = 0
cookies_drawn (s ∷ past) = cookies_in s.step + cookies_drawn past

-- how many steps are of a kind
abbrev pub how_many : (Step → Bool) → List (Stamped Step) → ℕ
how_many kind past = length (filter (λ s. kind s.step) past)
