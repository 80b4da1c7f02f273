-- Packets that were posted, by their bytes; and the heads of updates can be written.
use Rattle.std.proofs.Common.{◌≡◌, ℕ, List, Bool, true, false, refl, ap, rules}
use Rattle.std.specs.Prelude.{Option, Some, None, option_map, slice_get, IsTrue, if◌then◌else◌, ◌==◌}
use Rattle.std.specs.Option.{option_and_then}
use Rattle.mip_words.specs.Addresses.{is_routable}
use Rattle.mip_ipv6.specs.Packet.{is_plain}
use Rattle.mip_packets.specs.Packets.{node_head}
use Rattle.mip_packets.specs.Says.{carried}
use Rattle.mip_links.specs.Table.{Post}
use Rattle.mip_history.specs.Outsiders.{Binding, told_by, test_in, asking_in, tell_of, tell_for, bind_head}

-- the head of an update to a routable home
pub bind_plain : (b : Binding) → IsTrue (is_routable b.home.0) → IsTrue (is_plain (bind_head b))
bind_plain b routable = by (b.home.0 == b.source.0)
  where
    by : (same : Bool) → IsTrue (is_plain (node_head b.source b.peer None (if same then None else Some b.home) 135))
    by true = search rules
    by false = rw routable (search rules)

-- the bytes of a packet that was posted, where there is one
abbrev pub bytes_at : List Post → ℕ → Option (List ℕ)
bytes_at posts k = option_map (λ p. p.packet) (slice_get posts k)

pub test_none : (kind : ℕ) (posts : List Post) (k : ℕ) → None ≡ bytes_at posts k → None ≡ test_in kind posts k
test_none kind posts k is = by (slice_get posts k) is
  where
    by : (o : Option Post) → None ≡ option_map (λ p. p.packet) o → None ≡ option_and_then (λ p. told_by kind (carried p.packet)) o
    by None is = refl
    by (Some post) is = absurd cc

pub test_some : (kind : ℕ) (posts : List Post) (k : ℕ) (bytes : List ℕ) → Some bytes ≡ bytes_at posts k → told_by kind (carried bytes) ≡ test_in kind posts k
test_some kind posts k bytes is = by (slice_get posts k) is
  where
    by : (o : Option Post) → Some bytes ≡ option_map (λ p. p.packet) o → told_by kind (carried bytes) ≡ option_and_then (λ p. told_by kind (carried p.packet)) o
    by None is = absurd cc
    by (Some post) is = let same : bytes ≡ post.packet = cc in ap (λ (b : List ℕ). told_by kind (carried b)) same

pub answer_none : (posts : List Post) (test k : ℕ) → None ≡ bytes_at posts k → None ≡ tell_for posts test (slice_get posts k)
answer_none posts test k is = by (slice_get posts k) is
  where
    by : (o : Option Post) → None ≡ option_map (λ p. p.packet) o → None ≡ tell_for posts test o
    by None is = refl
    by (Some post) is = absurd cc

pub answer_some : (posts : List Post) (test k : ℕ) (bytes : List ℕ) → Some bytes ≡ bytes_at posts k
    → tell_of posts test bytes (asking_in bytes) ≡ tell_for posts test (slice_get posts k)
answer_some posts test k bytes is = by (slice_get posts k) is
  where
    by : (o : Option Post) → Some bytes ≡ option_map (λ p. p.packet) o → tell_of posts test bytes (asking_in bytes) ≡ tell_for posts test o
    by None is = absurd cc
    by (Some post) is = let same : bytes ≡ post.packet = cc in ap (λ (b : List ℕ). tell_of posts test b (asking_in b)) same
