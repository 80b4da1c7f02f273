-- Only changes are loud, and none is for nobody.
use Rattle.std.proofs.Common.{◌≡◌, [], false, refl}
use Rattle.mip_entries.specs.declared.entry.Entry.{Entry}
use Rattle.mip_entries.specs.declared.entry.Entry.TheVariants as entries
use Rattle.mip_law_delivery.specs.Quiet.{Circle, is_loud}
use Rattle.mip_law_delivery.specs.QuietLaws.{is_change}

pub loud_changes : (c : Circle) (e : Entry) → is_change e ≡ false → is_loud c e ≡ false
loud_changes c (entries.Moved node link) none = absurd cc
loud_changes c (entries.Careof node address) none = absurd cc
loud_changes c (entries.Claimed who link address) none = absurd cc
loud_changes c (entries.Released who link address) none = absurd cc
loud_changes c (entries.Restarted node) none = absurd cc
loud_changes c (entries.Home node home careof sequence end) none = absurd cc
loud_changes c (entries.Registered node agent end) none = absurd cc
loud_changes c (entries.Unregistered node agent) none = absurd cc
loud_changes c (entries.Accepted node number home binding careof sequence end i j) none = absurd cc
loud_changes c (entries.Bound node peer end) none = absurd cc
loud_changes c (entries.Unbound node peer) none = absurd cc
loud_changes c _ none = refl

pub loud_for_somebody : (e : Entry) → is_loud (record { nodes = []; addresses = [] }) e ≡ false
loud_for_somebody (entries.Moved node link) = refl
loud_for_somebody (entries.Careof node address) = refl
loud_for_somebody (entries.Claimed who link address) = refl
loud_for_somebody (entries.Released who link address) = refl
loud_for_somebody (entries.Restarted node) = refl
loud_for_somebody (entries.Home node home careof sequence end) = refl
loud_for_somebody (entries.Registered node agent end) = refl
loud_for_somebody (entries.Unregistered node agent) = refl
loud_for_somebody (entries.Accepted node number home binding careof sequence end i j) = refl
loud_for_somebody (entries.Bound node peer end) = refl
loud_for_somebody (entries.Unbound node peer) = refl
loud_for_somebody _ = refl
