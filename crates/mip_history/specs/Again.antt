-- An update that is accepted again. RFC 6275 section 9.5.1
use Rattle.std.specs.Prelude.{◌≡◌, ℕ, ◌+◌, ◌*◌, ◌%◌, ◌<◌, List, [], ◌∷◌, ◌++◌, fold, false, ◌&&◌, ◌==◌, if◌then◌else◌, Some}
use Rattle.std.specs.List.{list_any}
use Rattle.mip_words.specs.Sequence.{step_from}
use Rattle.mip_words.specs.declared.address.Address.{Address}
use Rattle.mip_reception.specs.Says.{UpdateIdentity, carried}
use Rattle.mip_reception.specs.Says.Carried.{Update}
use Rattle.mip_bcache.specs.declared.accepted.Accepted.{Accepted}
use Rattle.mip_entries.specs.declared.entry.Entry.{Entry}
use Rattle.mip_entries.specs.declared.entry.Entry.TheVariants as entries
use Rattle.mip_history.specs.Setup.{Setup}
use Rattle.mip_history.specs.Bound.{packet_in, accepted_entry, is_restart_of}

-- packet k carries this update
pub record CarriesUpdate (past : List Entry) (k : ℕ) (key : UpdateIdentity) : Type 0 where
  pub packet : List ℕ
  pub posted : packet_in past k ≡ Some packet
  pub says : carried packet ≡ Update key

-- two packets carry the same update: its home and care-of addresses, what its authenticator covers, and the authenticator
pub record IsRepeat (past : List Entry) (k l : ℕ) : Type 0 where
  pub key : UpdateIdentity
  pub first : CarriesUpdate past k key
  pub second : CarriesUpdate past l key

-- a sequence, and how far those before it went on in all
pub record Advance : Type 0 where
  pub last : ℕ
  pub all : ℕ

abbrev pub advance : ℕ → ℕ → Advance → Entry → Advance
advance n home a (entries.Accepted node number h binding careof sequence end i j) =
    if (n == node.0) && (h.0 == home)
    then record { last = sequence; all = a.all + step_from (a.last % 65536) sequence }
    else a
advance n home a _ = a

-- how far the sequences that node n accepts for a home go on from this one in all, each step counted round
unfoldable pub advanced : ℕ → ℕ → ℕ → List Entry → ℕ
advanced n home last es = (fold (advance n home) (record { last = last; all = 0 }) es).all

-- in one life of a node the same update is accepted again only where the sequences of its home have gone round since,
-- once or more
abbrev pub RepeatsAfterRounds : Setup → List Entry → Type 0
RepeatsAfterRounds s past =
    (before between after : List Entry) (n k l : ℕ) (home : Address) (x y : ℕ) (a b : Accepted)
    → past ≡ before ++ accepted_entry n k home x a ∷ between ++ accepted_entry n l home y b ∷ after
    → list_any (is_restart_of n) between ≡ false
    → IsRepeat past k l
    → (rounds : ℕ) × (0 < rounds) × (advanced n home.0 a.sequence (between ++ accepted_entry n l home y b ∷ []) ≡ rounds * 65536)
