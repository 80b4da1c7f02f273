-- What a provenance index stands for: each index answers as the history does.
use Rattle.std.specs.Prelude.{◌≡◌, ℕ, suc, ◌≤◌, List, [], ◌∷◌, length, take, Bool, false, Option, Some, None, ⊤}
use Rattle.std.specs.List.{list_any, filter_map, find}
use Rattle.std.specs.Str.{bytes_eq}
use Rattle.mip_packets.specs.Says.{UpdateIdentity}
use Rattle.mip_entries.specs.declared.entry.Entry.{Entry}
use Rattle.mip_entries.specs.declared.entry.Entry.TheVariants as entries
use Rattle.mip_provenance.specs.Lists.{first_some, until}
use Rattle.mip_provenance.specs.Entries.{packet_in, declared_in}
pub use Rattle.mip_provenance.specs.Entries.{number_posted}
use Rattle.mip_provenance.specs.Sights.{Sight}
use Rattle.mip_provenance.specs.Reached.{is_heard, values}
use Rattle.mip_provenance.specs.Names.{Naming, is_agent, life_at, namings, is_other}
use Rattle.mip_provenance.specs.Firsts.{Post, post_at, is_post, number_of, key_at, first_update}
use Rattle.mip_provenance.specs.Pairs.{Pair, made_with}
use Rattle.mip_provenance.specs.Causes.{is_early}
use Rattle.mip_provenance_index.specs.declared.arrival.Arrival.{Arrival}
use Rattle.mip_provenance_index.specs.declared.first.First.{First}
use Rattle.mip_provenance.specs.declared.known.Known.{Known}
use Rattle.mip_provenance_index.specs.declared.updates.Updates.{Updates}
use Rattle.mip_provenance_index.specs.declared.provenance_index.ProvenanceIndex.{ProvenanceIndex}
use Rattle.mip_provenance_index.specs.Sights.{token_of, seen_in}
use Rattle.mip_provenance_index.specs.Nodes.{known_at}
use Rattle.mip_provenance_index.specs.Names.{Kept, kept_at}
use Rattle.mip_provenance_index.specs.Heard.{has_come, heard_by}
use Rattle.mip_provenance_index.specs.Early.{is_used}
use Rattle.mip_provenance_index.specs.Made.{made_at}
use Rattle.mip_provenance_index.specs.Updates.{AreOf, update_at}
use Rattle.mip_provenance_index.specs.Addresses.{address_at}

-- the numbers of the packets that are posted, in order
abbrev pub numbers : List Sight → List ℕ
numbers seen = filter_map number_of seen

abbrev pub IsNumber : Option ℕ → ℕ → Type 0
IsNumber None next = ⊤
IsNumber (Some k) next = k ≡ next

abbrev pub after_number : Option ℕ → ℕ → ℕ
after_number None next = next
after_number (Some k) next = suc next

-- packets are numbered as they come, from here on
abbrev pub AreNumberedFrom : ℕ → List Sight → Type 0
AreNumberedFrom next [] = ⊤
AreNumberedFrom next (s ∷ seen) = IsNumber (number_of s) next × AreNumberedFrom (after_number (number_of s) next) seen

abbrev pub known_of : ℕ → List Sight → Known
known_of n seen = record { is_agent = list_any (is_agent n) seen; life = life_at n seen }

abbrev pub has_token : List ℕ → Naming → Bool
has_token token n = bytes_eq n.token token

-- the first packet that named a token is this, and others named it so
pub record IsKeptSo (ns : List Naming) (token : List ℕ) (kept : Kept) : Type 0 where
  pub naming : Naming
  pub first : find (has_token token) ns ≡ Some naming
  pub number : naming.number ≡ kept.number
  pub name : naming.name ≡ kept.name
  pub otherwise : list_any (is_other token kept.name) ns ≡ kept.otherwise

abbrev pub IsKept : List Naming → List ℕ → Option Kept → Type 0
IsKept ns token None = list_any (has_token token) ns ≡ false
IsKept ns token (Some kept) = IsKeptSo ns token kept

-- two lists of tokens in which every search finds the same
abbrev pub AreAlike : List (List ℕ) → List (List ℕ) → Type 0
AreAlike vs ws = (says : List ℕ → Option Pair) → first_some says vs ≡ first_some says ws

-- the first packet of an update, who posted it, and what had come to outsiders then
pub record IsFirst (arrivals : List Arrival) (seen : List Sight) (key : UpdateIdentity) (f : First) : Type 0 where
  pub first : first_update seen key ≡ Some f.number
  pub post : Post
  pub post_is : post_at seen f.number ≡ Some post
  pub maker : post.maker ≡ f.maker
  pub within : f.heard ≤ length arrivals
  pub come : (o : ℕ) → AreAlike (heard_by o (take f.heard arrivals)) (values o (until (is_post f.number) seen))

abbrev pub IsFirstIf : List Arrival → List Sight → UpdateIdentity → Option First → Type 0
IsFirstIf arrivals seen key None = first_update seen key ≡ None
IsFirstIf arrivals seen key (Some f) = IsFirst arrivals seen key f

-- packet k carries an update whose first packet is this
pub record IsFirstAt (arrivals : List Arrival) (seen : List Sight) (k : ℕ) (f : First) : Type 0 where
  pub key : UpdateIdentity
  pub carries : key_at seen k ≡ Some key
  pub first : IsFirst arrivals seen key f

abbrev pub IsFirstAtIf : List Arrival → List Sight → ℕ → Option First → Type 0
IsFirstAtIf arrivals seen k None = key_at seen k ≡ None
IsFirstAtIf arrivals seen k (Some f) = IsFirstAt arrivals seen k f

pub record UpdatesStand (u : Updates) (arrivals : List Arrival) (seen : List Sight) : Type 0 where
  pub look : UpdateIdentity → Option First
  pub are : AreOf u look
  pub keys : (key : UpdateIdentity) → IsFirstIf arrivals seen key (look key)
  pub numbers : (k : ℕ) → IsFirstAtIf arrivals seen k (update_at u k)

-- an index stands for a history
pub record StandsFor (w : ProvenanceIndex) (past : List Entry) : Type 0 where
  pub numbered : AreNumberedFrom 0 (seen_in past)
  pub addresses : (n : ℕ) → address_at w.addresses n ≡ declared_in past n
  pub nodes : (n : ℕ) → known_at w.nodes n ≡ known_of n (seen_in past)
  pub names : (t : List ℕ) → IsKept (namings (seen_in past)) t (kept_at w.names t)
  pub heard : (o : ℕ) (t : List ℕ) → has_come w.heard o t ≡ list_any (is_heard o t) (seen_in past)
  pub values : (o : ℕ) → AreAlike (heard_by o w.heard.list.items) (values o (seen_in past))
  pub early : (t : List ℕ) → is_used w.early t ≡ is_early (seen_in past) t
  pub made : (n k : ℕ) → made_at w.made n k ≡ first_some (made_with n k) (seen_in past)
  pub updates : UpdatesStand w.updates w.heard.list.items (seen_in past)

-- an entry comes next: a packet that it posts takes the next number
abbrev pub IsNext : List Entry → Entry → Type 0
IsNext past entry = IsNumber (number_posted entry) (length (filter_map number_posted past))

-- the token of the packet that was heard
abbrev pub IsHeard : List Entry → Entry → Option (List ℕ) → Type 0
IsHeard past (entries.Heard number outsider) token = token ≡ token_of (packet_in past number)
IsHeard past _ token = ⊤
