-- What a mobile knows of its peers: their rows and trials, their bindings, and the cookies drawn. RFC 6275 sections 11.1,
-- 11.6 and 11.7.2
use Rattle.std.specs.Prelude.{ℕ, ◌+◌, ◌%◌, ◌^◌, Bool, true, false, nat_lt, if◌then◌else◌, Option, Some, None, List, [], map, replicate, slice_get, slice_set}
use Rattle.std.specs.Option.{option_map_or}
use Rattle.mip_words.specs.declared.address.Address.{Address}
use Rattle.mip_words.specs.declared.moment.Moment.{Moment}
use Rattle.mip_words.specs.declared.token.Cookie.{Cookie}
use Rattle.mip_nonce.specs.Secrets.{cookie_of}
use Rattle.mip_bulist.specs.declared.aim.Aim.{Aim}
use Rattle.mip_bulist.specs.declared.aim.Aim.TheVariants.{Bind, Delete}
use Rattle.mip_bulist.specs.declared.any.Any.{Any}
use Rattle.mip_bulist.specs.declared.row.Row.{Row}
use Rattle.mip_bulist.specs.declared.work.Work.TheVariants.{Resend}
use Rattle.mip_bulist.specs.Rows.{with_row, row_place, peer_at, lifted, all_rested}
use Rattle.mip_rules_mobile.specs.declared.peer.Peer.{Peer}
use Rattle.mip_rules_mobile.specs.Trials.{Start, Make, with_change}
use Rattle.mip_rules_mobile.specs.Steps.{Step, Detaches, Restarts, Meets, Tries, Updates, Forgets, Binds, Unbinds, Waits}
use Rattle.mip_rules_mobile.specs.Known.{Known}

-- rows in the order in which they were made, with the state of each trial
abbrev pub rows_after : List Row → ℕ → Step → List Row
rows_after rows at (Meets peer) = with_row peer rows
rows_after rows at (Tries row change) = with_change row (record { 0 = at }) change rows
rows_after rows at (Updates row update) = with_change row (record { 0 = at }) Make rows
rows_after rows at Detaches = all_rested rows
rows_after rows at (Restarts secrets) = []
rows_after rows at _ = rows

-- nothing is known of a peer
abbrev pub fresh_peer : Peer
fresh_peer = record { touched = false; bound = None; wait = 0 }

abbrev pub fresh_peers : List Peer
fresh_peers = replicate 16 fresh_peer

abbrev pub touched : Peer → Peer
touched p = record { touched = true; bound = p.bound; wait = p.wait }

abbrev pub forgotten : Peer → Peer
forgotten p = record { touched = false; bound = p.bound; wait = p.wait }

abbrev pub bound_until : Moment → Peer → Peer
bound_until end p = record { touched = p.touched; bound = Some end; wait = p.wait }

abbrev pub unbound : Peer → Peer
unbound p = record { touched = p.touched; bound = None; wait = p.wait }

abbrev pub waiting : ℕ → Peer → Peer
waiting wait p = record { touched = p.touched; bound = p.bound; wait = wait }

abbrev pub set_peer : Option Peer → ℕ → (Peer → Peer) → List Peer → List Peer
set_peer None row f peers = peers
set_peer (Some p) row f peers = slice_set peers row (f p)

-- one peer changed
abbrev pub with_peer : ℕ → (Peer → Peer) → List Peer → List Peer
with_peer row f peers = set_peer (slice_get peers row) row f peers

-- touched from the first update until a deletion is acknowledged; bound by the last binding that did not end since
abbrev pub peers_after : List Peer → Step → List Peer
peers_after peers (Updates row update) = with_peer row touched peers
peers_after peers (Forgets row) = with_peer row forgotten peers
peers_after peers (Binds row peer end renew) = with_peer row (bound_until end) peers
peers_after peers (Unbinds row peer) = with_peer row unbound peers
peers_after peers Detaches = map unbound peers
peers_after peers (Restarts secrets) = fresh_peers
peers_after peers (Waits (Resend row) wait) = with_peer row (waiting wait) peers
peers_after peers _ = peers

-- how many cookies a start draws
abbrev pub drawn_for : Aim → ℕ
drawn_for (Bind to) = 2
drawn_for Delete = 1

-- each start draws cookies of its life, in order
abbrev pub cookies_after : Known → Step → ℕ
cookies_after k (Tries row (Start aim home careof)) = (k.cookies + drawn_for aim) % 2 ^ 64
cookies_after k (Restarts secrets) = 0
cookies_after k _ = k.cookies

-- the next cookie, and the one behind it
abbrev pub first_cookie : Known → Cookie
first_cookie k = record { 0 = cookie_of k.part.identity.secrets k.cookies }

abbrev pub second_cookie : Known → Cookie
second_cookie k = record { 0 = cookie_of k.part.identity.secrets ((k.cookies + 1) % 2 ^ 64) }

-- the row of a peer, the peer of a row, and its trial
abbrev pub row_of : Known → Address → Option ℕ
row_of k peer = row_place peer k.list.rows

abbrev pub peer_of_row : Known → ℕ → Option Address
peer_of_row k row = peer_at row k.list.rows

abbrev pub trial_of : Known → ℕ → Option Any
trial_of k row = lifted row k.list.rows

-- a row's binding: its end lies ahead
abbrev pub lies_ahead : ℕ → Option Moment → Bool
lies_ahead now None = false
lies_ahead now (Some end) = nat_lt now end.0

abbrev pub is_bound_row : Known → ℕ → ℕ → Bool
is_bound_row k now row = option_map_or (λ p. lies_ahead now p.bound) (slice_get k.peers row) false

abbrev pub is_touched_row : Known → ℕ → Bool
is_touched_row k row = option_map_or (λ p. p.touched) (slice_get k.peers row) false

abbrev pub wait_of_row : Known → ℕ → ℕ
wait_of_row k row = option_map_or (λ p. p.wait) (slice_get k.peers row) 0

-- the row of a peer that has a binding
abbrev pub if_bound : Known → ℕ → Option ℕ → Option ℕ
if_bound k now None = None
if_bound k now (Some row) = if is_bound_row k now row then Some row else None

abbrev pub bound_row_of : Known → ℕ → Address → Option ℕ
bound_row_of k now peer = if_bound k now (row_of k peer)
