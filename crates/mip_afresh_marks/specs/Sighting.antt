-- What is kept of a history for its marks: each entry as a sight, and each packet by its number.
use Rattle.std.specs.Prelude.{◌≡◌, ℕ, List, map, Bool, true, ◌==◌, Option, Some, None, option_map, slice_get}
use Rattle.std.specs.Option.{option_and_then, option_map_or}
use Rattle.mip_packets.specs.Says.{Carried, UpdateIdentity, carried, kind_of}
use Rattle.mip_packets.specs.Says.Carried.{Test, Update, Other}
use Rattle.mip_tokens.specs.Token.{authenticated}
use Rattle.mip_entries.specs.declared.entry.Entry.{Entry}
use Rattle.mip_entries.specs.declared.entry.Entry.TheVariants as entries
use Rattle.mip_provenance.specs.declared.maker.Maker.TheVariants.{Node, Outsider}
pub use Rattle.mip_provenance.specs.Entries.{number_posted}
use Rattle.mip_provenance.specs.Lists.{first_some}
use Rattle.mip_provenance.specs.Sights.{Sight, token_in, sight_with}
use Rattle.mip_provenance.specs.Sights.Sight.{Sent, Injected, Heard, Handed, Agent, Made, Restarted, Quiet}
use Rattle.mip_provenance.specs.Firsts.{Post, post_with, post_at, key_in}
use Rattle.mip_afresh_marks.specs.declared.identity.Identity.{Identity}
use Rattle.mip_afresh_marks.specs.declared.said.Said.{Said}
use Rattle.mip_afresh_marks.specs.declared.said.Said.TheVariants as kept
use Rattle.mip_afresh_marks.specs.declared.post.Post.{Post as KeptPost}
use Rattle.mip_afresh_marks.specs.declared.sight.Sight.{Sight as KeptSight}
use Rattle.mip_afresh_marks.specs.declared.sight.Sight.TheVariants as seen
use Rattle.mip_afresh_marks.specs.declared.sights.Sights.{Sights}

abbrev pub identity_of : Identity → UpdateIdentity
identity_of k = record { home = k.home; careof = k.careof; message = authenticated k.body; authenticator = k.authenticator }

abbrev pub said_of : Said → Carried
said_of (kept.Test kind index token destination) = Test (kind_of kind) index token.0 destination
said_of (kept.Update key) = Update (identity_of key)
said_of kept.Other = Other

abbrev pub post_of : KeptPost → Post
post_of p = record { maker = p.maker; carried = said_of p.said }

-- a sight, where packet k has this token
abbrev pub sight_seen : (ℕ → Option (List ℕ)) → KeptSight → Sight
sight_seen token (seen.Sent number node said) = Sent number node.0 (said_of said)
sight_seen token (seen.Injected number outsider said) = Injected number outsider (said_of said)
sight_seen token (seen.Heard outsider number) = Heard outsider (token number)
sight_seen token (seen.Handed node number) = Handed node.0 (token number)
sight_seen token (seen.Agent node) = Agent node.0
sight_seen token (seen.Made node number home careof) = Made node.0 number home.0 (option_map (λ t. t.0) careof)
sight_seen token (seen.Restarted node) = Restarted node.0
sight_seen token seen.Quiet = Quiet

-- the packet with a number, its token and its update
abbrev pub post_numbered : List KeptPost → ℕ → Option Post
post_numbered posts k = option_map post_of (slice_get posts k)

abbrev pub token_numbered : List KeptPost → ℕ → Option (List ℕ)
token_numbered posts k = option_and_then (λ p. token_in p.carried) (post_numbered posts k)

abbrev pub key_numbered : List KeptPost → ℕ → Option UpdateIdentity
key_numbered posts k = option_and_then (λ p. key_in p.carried) (post_numbered posts k)

-- some that are kept, and all of them
abbrev pub seen_of : Sights → List KeptSight → List Sight
seen_of s seen = map (sight_seen (token_numbered s.posts.items)) seen

abbrev pub sights_in : Sights → List Sight
sights_in s = seen_of s s.seen.items

-- each packet stands at its number
abbrev pub AreNumbered : Sights → Type 0
AreNumbered s = (k : ℕ) → post_numbered s.posts.items k ≡ post_at (sights_in s) k

-- the packet that an entry posts
abbrev pub post_told : Entry → Option Post
post_told (entries.Sent number node shielded packet) = Some (record { maker = Node node; carried = carried packet })
post_told (entries.Injected number outsider link packet) = Some (record { maker = Outsider outsider; carried = carried packet })
post_told _ = None

-- an entry comes next where so many packets were posted
abbrev pub is_next : ℕ → Entry → Bool
is_next count e = option_map_or (λ number. number == count) (number_posted e) true

-- packet k of a history
abbrev pub post_in : List Entry → ℕ → Option Post
post_in past k = first_some (post_with k) (map (sight_with (λ _. None)) past)

-- sights stand for a history: they are its sights, whatever the tokens of its packets, and each packet stands at its number
pub record StandFor (s : Sights) (past : List Entry) : Type 0 where
  pub seen : (token : ℕ → Option (List ℕ)) → map (sight_seen token) s.seen.items ≡ map (sight_with token) past
  pub posts : (k : ℕ) → post_numbered s.posts.items k ≡ post_in past k
