-- What is found in running code, without how it lies in memory.
use Rattle.std.specs.Prelude.{ℕ, List, map, take, Bool, option_map}
use Rattle.mip_packets.specs.Says.{carried, kind_of, key_of}
use Rattle.mip_entries.specs.declared.entry.Entry.{Entry}
use Rattle.mip_provenance.specs.declared.front.Front.{Front}
use Rattle.mip_provenance.specs.declared.post.Post.{Post as FoundPost}
use Rattle.mip_provenance.specs.declared.name.Name.{Name as FoundName}
use Rattle.mip_provenance.specs.declared.naming.Naming.{Naming as FoundNaming}
use Rattle.mip_provenance.specs.declared.pair.Pair.{Pair as FoundPair}
use Rattle.mip_provenance.specs.declared.signed.Signed.{Signed}
use Rattle.mip_provenance.specs.declared.claim.Claim.{Claim as FoundClaim}
use Rattle.mip_provenance.specs.Sights.{Sight, sight}
use Rattle.mip_provenance.specs.Names.{Name, Naming}
use Rattle.mip_provenance.specs.Firsts.{Post}
use Rattle.mip_provenance.specs.Pairs.{Pair, gives}
use Rattle.mip_provenance.specs.Causes.{Claim}

-- the sights of a history up to a place
abbrev pub front_at : List Entry → ℕ → List Sight
front_at past place = map (sight past) (take place past)

abbrev pub front_of : Front → List Sight
front_of f = front_at f.history.now f.place

abbrev pub post_of : FoundPost → Post
post_of p = record { maker = p.maker; carried = carried p.packet.now }

abbrev pub name_of : FoundName → Name
name_of n = record { node = n.node.0; life = n.life; kind = kind_of n.kind; address = n.address; index = n.index }

abbrev pub naming_of : FoundNaming → Naming
naming_of n = record { number = n.number; token = n.token.0; name = name_of n.name }

abbrev pub claim_of : FoundClaim → Claim
claim_of c = record { token = c.token.0; name = name_of c.name }

abbrev pub pair_of : FoundPair → Pair
pair_of p = record { home = p.home.0; careof = option_map (λ t. t.0) p.careof }

-- the pair gives the authenticator of this update
abbrev pub gives_it : Signed → Pair → Bool
gives_it s pair = gives s.own s.careof (key_of s.key) pair
