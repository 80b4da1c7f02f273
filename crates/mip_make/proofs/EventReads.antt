-- An event of one kind is read from its own line, and fits.
use Rattle.std.proofs.Common.{◌≡◌, ℕ, ◌+◌, ◌^◌, ◌<◌, ◌≤◌, List, length, true, refl, arith}
use Rattle.std.specs.Prelude.{Some, None, Ok, decimal, false}
use Rattle.std.proofs.lemmas.Bool.{and_from, cond-false, le-ltb}
use Rattle.mip_words.specs.Addresses.{is_routable, address_bytes}
use Rattle.mip_words.specs.Numbers.{IsBytes}
use Rattle.mip_words.specs.declared.address.Address.{Address}
use Rattle.mip_words.specs.declared.ids.NodeId.{NodeId}
use Rattle.mip_words.specs.declared.ids.LinkId.{LinkId}
use Rattle.mip_lines.specs.LinesLaws.{is_plain, is_row}
use Rattle.mip_lines.proofs.LineLaws.{decimal_plain, hex_plain, hex_text_plain}
use Rattle.mip_lines.proofs.RowReadings.{row1-again, row2-again, row4-again}
use Rattle.mip_schedule.specs.EventRows.{wait_row, move_row, advertise_row, data_row, repeat_row, lose_row, carry_row, node_fields, packet_fields, outsider_fields, event_fields}
use Rattle.mip_schedule.specs.EventTimes.{wait_of, carry_of, is_reserved, misfit}
use Rattle.mip_symbols.specs.Kinds as kinds
use Rattle.mip_symbols.specs.Spelled.{link_text, node_text}
use Rattle.mip_schedule.specs.Spelling.{event_text}
use Rattle.mip_symbols.specs.declared.declaration.Declaration.{Declaration}
use Rattle.mip_schedule.specs.declared.event.Event.{Event}
use Rattle.mip_schedule.specs.declared.event.Event.TheVariants as events
use Rattle.mip_symbols.specs.declared.places.Sort.TheVariants as sorts
use Rattle.mip_symbols.specs.declared.reason.Reason.TheVariants as reasons
use Rattle.mip_make.proofs.FieldReads.{number_read, bytes_read, address_read}

-- an event is read from its own line, which has plain fields; it takes little of the sums, and fits where that is left of them
pub record IsFine (ds : List Declaration) (e : Event) : Type 0 where
  pub reads : event_fields false ds (event_text false ds e) ≡ Ok e
  pub plain : is_row (event_text false ds e) ≡ true
  pub wait : wait_of e ≤ 1800
  pub carry : carry_of e ≤ 8
  pub fits : (waits carries : ℕ) → waits + 1800 ≤ 36000000 → carries + 8 ≤ 200000 → misfit ds waits carries e ≡ None

abbrev IsPlain : List ℕ → Type 0
IsPlain field = is_plain field ≡ true

pub fine_carry : (ds : List Declaration) (n : ℕ) → 1 ≤ n → n ≤ 8 → IsFine ds (events.Carry n)
unfolding event_fields outsider_fields packet_fields carry_row misfit
fine_carry ds n from to = record {
  reads = row1-again reasons.Form (kinds.number 1 1000) (λ a. events.Carry a) (decimal n) n (number_read 1 1000 n from (omega arith) (omega arith));
  plain = and_from _ _ refl (and_from _ _ (decimal_plain n (omega arith)) refl);
  wait = omega arith;
  carry = to;
  fits = λ waits carries _ left. cond-false _ _ _ (le-ltb 200000 (carries + n) (omega arith));
}

pub fine_wait : (ds : List Declaration) (n : ℕ) → 1 ≤ n → n ≤ 1800 → IsFine ds (events.Wait n)
unfolding event_fields wait_row misfit
fine_wait ds n from to = record {
  reads = row1-again reasons.Form (kinds.number 1 600000) (λ a. events.Wait a) (decimal n) n (number_read 1 600000 n from (omega arith) (omega arith));
  plain = and_from _ _ refl (and_from _ _ (decimal_plain n (omega arith)) refl);
  wait = to;
  carry = omega arith;
  fits = λ waits carries left _. cond-false _ _ _ (le-ltb 36000000 (waits + n) (omega arith));
}

pub fine_lose : (ds : List Declaration) (n : ℕ) → n < 20000 → IsFine ds (events.Lose n)
unfolding event_fields outsider_fields packet_fields lose_row misfit
fine_lose ds n few = record {
  reads = row1-again reasons.Form (kinds.number 0 4294967295) (λ a. events.Lose a) (decimal n) n (number_read 0 4294967295 n (omega arith) (omega arith) (omega arith));
  plain = and_from _ _ refl (and_from _ _ (decimal_plain n (omega arith)) refl);
  wait = omega arith;
  carry = omega arith;
  fits = λ waits carries _ _. refl;
}

pub fine_repeat : (ds : List Declaration) (n : ℕ) → n < 20000 → IsFine ds (events.Repeat n)
unfolding event_fields outsider_fields packet_fields repeat_row misfit
fine_repeat ds n few = record {
  reads = row1-again reasons.Form (kinds.number 0 4294967295) (λ a. events.Repeat a) (decimal n) n (number_read 0 4294967295 n (omega arith) (omega arith) (omega arith));
  plain = and_from _ _ refl (and_from _ _ (decimal_plain n (omega arith)) refl);
  wait = omega arith;
  carry = omega arith;
  fits = λ waits carries _ _. refl;
}

-- the link is read from its name
pub record IsLinkRead (ds : List Declaration) (l : LinkId) : Type 0 where
  pub reads : kinds.link ds (link_text ds l) ≡ Ok l
  pub some : kinds.some_link ds (link_text ds l) ≡ Ok (Some l)
  pub plain : IsPlain (link_text ds l)

pub fine_advertise : (ds : List Declaration) (l : LinkId) → IsLinkRead ds l → IsFine ds (events.Advertise l)
unfolding event_fields advertise_row misfit
fine_advertise ds l is = record {
  reads = row1-again reasons.Form (kinds.link ds) (λ a. events.Advertise a) (link_text ds l) l is.reads;
  plain = and_from _ _ refl (and_from _ _ is.plain refl);
  wait = omega arith;
  carry = omega arith;
  fits = λ waits carries _ _. refl;
}

-- the mobile, a host too, is read from its name
pub record IsMobileRead (ds : List Declaration) (n : NodeId) : Type 0 where
  pub reads : kinds.node sorts.Mobile ds (node_text ds n) ≡ Ok n
  pub plain : IsPlain (node_text ds n)

pub fine_move : (ds : List Declaration) (n : NodeId) (l : LinkId) → IsMobileRead ds n → IsLinkRead ds l → IsFine ds (events.Move n (Some l))
unfolding event_fields outsider_fields packet_fields node_fields move_row misfit
fine_move ds n l mobile link = record {
  reads = row2-again reasons.Form (kinds.node sorts.Mobile ds) (kinds.some_link ds) (λ a b. events.Move a b) (node_text ds n) n (link_text ds l) (Some l) mobile.reads link.some;
  plain = and_from _ _ refl (and_from _ _ mobile.plain (and_from _ _ link.plain refl));
  wait = omega arith;
  carry = omega arith;
  fits = λ waits carries _ _. refl;
}

pub record IsHostRead (ds : List Declaration) (n : NodeId) : Type 0 where
  pub reads : kinds.node sorts.Host ds (node_text ds n) ≡ Ok n
  pub plain : IsPlain (node_text ds n)

-- data by UDP
pub fine_data : (ds : List Declaration) (n : NodeId) (to : Address) (bs : List ℕ) → IsHostRead ds n → to.0 < 2 ^ 128 → is_routable to.0 ≡ true → length bs ≤ 512 → IsBytes bs
    → IsFine ds (events.Payload n to 17 bs)
unfolding event_fields outsider_fields packet_fields node_fields data_row misfit is_reserved
fine_data ds n to bs host small routable few are = record {
  reads = row4-again reasons.Form (kinds.node sorts.Host ds) kinds.address (kinds.number 0 255) (kinds.bytes 512) (λ a b c d. events.Payload a b c d) _ n _ to _ 17 _ bs
      host.reads (address_read to small routable) (number_read 0 255 17 (omega arith) (omega arith) (omega arith)) (bytes_read 512 bs few are);
  plain = and_from _ _ refl (and_from _ _ host.plain (and_from _ _ (hex_plain (address_bytes to)) (and_from _ _ (decimal_plain 17 (omega arith)) (and_from _ _ (hex_text_plain bs) refl))));
  wait = omega arith;
  carry = omega arith;
  fits = λ waits carries _ _. refl;
}
