-- What the types of its fields say of an entry: each number but the cause of a `forged` fits its bits, and packets, data and tokens are of bytes.
use Rattle.std.specs.Prelude.{◌≡◌, ℕ, ◌<◌, ◌^◌, length, Option, Some, None}
use Rattle.mip_words.specs.Numbers.{IsBytes}
use Rattle.mip_words.specs.declared.address.Address.{Address}
use Rattle.mip_words.specs.declared.moment.Moment.{Moment}
use Rattle.mip_words.specs.declared.token.Token.{Token}
use Rattle.mip_entries.specs.declared.entry.Entry.{Entry}
use Rattle.mip_entries.specs.declared.entry.Entry.TheVariants as entries

-- a number of so many bits
abbrev pub IsNumber : ℕ → ℕ → Type 0
IsNumber bits x = x < 2 ^ bits

abbrev pub IsMoment : Moment → Type 0
IsMoment moment = IsNumber 64 moment.0

abbrev pub IsAddress : Address → Type 0
IsAddress address = IsNumber 128 address.0

abbrev pub IsToken : Token → Type 0
IsToken token = (length token.0 ≡ 8) × IsBytes token.0

abbrev pub IfPresent : {A : Type 0} → (A → Type 0) → Option A → Type 0
IfPresent Is (Some x) = Is x
IfPresent Is None = Unit {0}

-- time and place, and the claims of addresses
abbrev pub HasPlaceWidths : Entry → Type 0
HasPlaceWidths (entries.At a) = IsMoment a
HasPlaceWidths (entries.Advertised a b c) = IfPresent IsAddress c
HasPlaceWidths (entries.Careof a b) = IsAddress b
HasPlaceWidths (entries.Claimed a b c) = IsAddress c
HasPlaceWidths (entries.Released a b c) = IsAddress c
HasPlaceWidths (entries.Taken a b c d) = IsAddress c
HasPlaceWidths _ = Unit {0}

-- what becomes of packets, and of the data in them
abbrev pub HasPacketWidths : Entry → Type 0
HasPacketWidths (entries.Sent a b c d) = IsNumber 64 a × IsBytes d
HasPacketWidths (entries.Injected a b c d) = IsNumber 64 a × IsBytes d
HasPacketWidths (entries.Heard a b) = IsNumber 64 a
HasPacketWidths (entries.Handed a b) = IsNumber 64 a
HasPacketWidths (entries.Gone a b) = IsNumber 64 a
HasPacketWidths (entries.Lost a) = IsNumber 64 a
HasPacketWidths (entries.Dropped a b c) = IsNumber 64 b
HasPacketWidths (entries.Up a b c d e f) = IsNumber 64 b × IsAddress c × IsAddress d × IsNumber 8 e × IsBytes f
HasPacketWidths _ = Unit {0}

-- what a mobile knows and does
abbrev pub HasMobileWidths : Entry → Type 0
HasMobileWidths (entries.Registered a b c) = IsAddress b × IsMoment c
HasMobileWidths (entries.Unregistered a b) = IsAddress b
HasMobileWidths (entries.Refused a b) = IsNumber 8 b
HasMobileWidths (entries.Chosen a b) = IsAddress b
HasMobileWidths (entries.Prefixes a b c) = IsNumber 32 b × IsNumber 32 c
HasMobileWidths (entries.Made a b c d e) = IsAddress b × IsNumber 64 c × IsToken d × IfPresent IsToken e
HasMobileWidths (entries.Bound a b c) = IsAddress b × IsMoment c
HasMobileWidths (entries.Unbound a b) = IsAddress b
HasMobileWidths _ = Unit {0}

-- registrations of homes, and rows of caches
abbrev pub HasRowWidths : Entry → Type 0
HasRowWidths (entries.Home a b c d e) = IsAddress b × IsAddress c × IsNumber 16 d × IsMoment e
HasRowWidths (entries.Row a b c d e f g) = IsAddress b × IsNumber 8 c × IsAddress d × IsNumber 16 e × IsMoment f × IsMoment g
HasRowWidths _ = Unit {0}

-- what becomes of updates
abbrev pub HasUpdateWidths : Entry → Type 0
HasUpdateWidths (entries.Accepted a b c d e f g h i) = IsNumber 64 b × IsAddress c × IsNumber 8 d × IsAddress e × IsNumber 16 f × IsMoment g × IsNumber 16 h × IfPresent (IsNumber 16) i
HasUpdateWidths (entries.Origin a b c) = IsNumber 64 a × IfPresent (IsNumber 64) b × IsNumber 64 c
HasUpdateWidths (entries.Denied a b c) = IsNumber 64 b × IsNumber 8 c
HasUpdateWidths _ = Unit {0}

-- each number of an entry fits its bits, and what it has of bytes is of bytes; this says nothing of the cause of a `forged`, nor of places among nodes, links
-- and outsiders
pub record HasWidths (e : Entry) : Type 0 where
  pub place : HasPlaceWidths e
  pub packet : HasPacketWidths e
  pub mobile : HasMobileWidths e
  pub row : HasRowWidths e
  pub update : HasUpdateWidths e
