-- A packet that is taken from the network: what becomes of it, and where it comes to.
use Rattle.std.specs.Prelude.{ℕ, Option, Some, option_map}
use Rattle.mip_words.specs.declared.shield.Shield.{Shield}
use Rattle.mip_links.specs.Table.{Fate, fate_of, Post, link_of, destination_in, delivery}
use Rattle.mip_links.specs.Nets.{NetSeen, asked_of}
use Rattle.mip_history.specs.Delivery.{other_link}
use Rattle.mip_engine.specs.declared.arrival.Arrival.{Arrival}

pub record ArrivalSeen : Type 0 where
  pub delivery : Fate
  -- the link that it comes to, where that is another one than it was sent from
  pub link : Option ℕ
  pub shield : Option Shield

abbrev pub arrival_seen : Arrival → ArrivalSeen
arrival_seen a = record { delivery = fate_of a.delivery; link = option_map (λ l. l.0) a.link; shield = a.shield }

abbrev pub arrival_of : NetSeen → Post → ArrivalSeen
arrival_of net post = record {
  delivery = delivery (asked_of net) (Some post);
  link = other_link (link_of net.links (destination_in post.packet)) post.from;
  shield = post.shield;
}
