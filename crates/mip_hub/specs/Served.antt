-- What a run of a hub leaves of its link and its sink.
use Rattle.std.specs.Prelude.{◌≡◌, ℕ, zero, suc, ◌<◌, ◌≤◌, List, [], ◌∷◌, length, take, drop, true, Option, None, IfSome, option_map, slice_get}
use Rattle.std.specs.Io.KnownBytes.{append_known}
use Rattle.mip_frames.specs.declared.served.Served.{Served}
use Rattle.mip_frames.specs.declared.served.Served.TheVariants.{Done, LinkFault, WriteFault, Memory}
use Rattle.mip_outside.specs.declared.link_call.LinkCall.{LinkCall}
use Rattle.mip_outside.specs.declared.put_fault.PutFault.TheVariants as put_faults
use Rattle.mip_hub.specs.Calls.{Call, LinkState, made_on, asked_on, refused_by, IsEndedBy, held_on, is_link, text_at}
use Rattle.mip_hub.specs.Reading.{Content}
use Rattle.mip_hub.specs.Turns.{Seen, run_of}

-- what the next turn receives where these are to come: a datagram of more than 4,097 bytes is cut
abbrev pub next_in : List (Option (List ℕ)) → Seen
next_in [] = None
next_in (item ∷ items) = option_map (take 4097) item

abbrev pub IsSeen : Option (List (Option (List ℕ))) → Seen → Type 0
IsSeen coming seen = IfSome coming (λ items. seen ≡ next_in items)

-- what so many turns receive where these are to come
unfoldable pub came : ℕ → List (Option (List ℕ)) → List Seen
came zero items = []
came (suc n) items = next_in items ∷ came n (drop 1 items)

abbrev pub Saw : Option (List (Option (List ℕ))) → List Seen → Type 0
Saw coming seen = IfSome coming (λ items. seen ≡ came (length seen) items)

-- a hub's link, and what a sink that is told holds
pub record Outside : Type 0 where
  pub link : LinkState
  pub held : Option (List ℕ)

abbrev pub outside : LinkState → Option (List ℕ) → Outside
outside link held = record { link = link; held = held }

-- the call behind so many others failed, so much of the text that it gave was taken, and these were the link's last calls: a fault of the link is that of
-- the call that it refused last, where the sink failed it granted each, and where memory ran out each, or all but the one in which it did
abbrev pub IsFaultAt : Served → Option Call → (part : ℕ) → (last : List LinkCall) → Type 0
IsFaultAt Done call part last = ⊥
IsFaultAt LinkFault call part last = (is_link call ≡ true) × ((part ≡ 0) × (last ≡ refused_by put_faults.Failed call))
IsFaultAt WriteFault call part last = (part < length (text_at call)) × (last ≡ [])
IsFaultAt Memory call part last = IsEndedBy put_faults.Memory call last

abbrev pub after_part : List Call → (count part : ℕ) → (last : List LinkCall) → Outside → Outside
after_part calls count part last o = record {
  link = asked_on last (made_on (take count calls) o.link);
  held = append_known (held_on (take count calls) o.held) (take part (text_at (slice_get calls count)));
}

-- the calls were cut: all calls in front of one were made, and that one failed, or memory ran out; none was made behind it
pub record IsCut (end : Served) (calls : List Call) (before after : Outside) : Type 0 where
  pub count : ℕ
  pub part : ℕ
  pub last : List LinkCall
  pub fault : IsFaultAt end (slice_get calls count) part last
  pub left : after ≡ after_part calls count part last before

abbrev pub after_all : List Call → Outside → Outside
after_all calls o = record { link = made_on calls o.link; held = held_on calls o.held }

-- a whole run
abbrev pub Ran : Content → (turns : ℕ) → (seen : List Seen) → Served → Outside → Outside → Type 0
Ran content turns seen Done before after = (length seen ≡ turns) × (after ≡ after_all (run_of content seen).calls before)
Ran content turns seen end before after = (length seen ≤ turns) × IsCut end (run_of content seen).calls before after
