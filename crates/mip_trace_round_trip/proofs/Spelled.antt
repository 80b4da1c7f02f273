-- An entry of what is declared, whose numbers are as wide as their types and whose line is short enough, is one that a trace
-- spells.
use Rattle.std.proofs.Common.{◌≡◌, ℕ, ◌<◌, ◌≤◌, ◌^◌, List, [], ◌∷◌, length, true, inl, inr, refl, arith, length-append}
use Rattle.std.specs.Prelude.{map, Option, Some, None, Ok}
use Rattle.std.specs.List.{AllByRecursion}
use Rattle.mip_words.specs.declared.ids.LinkId.{LinkId}
use Rattle.mip_words.specs.declared.why.Why.{Why}
use Rattle.mip_words.specs.declared.why.Why.TheVariants as whys
use Rattle.mip_lines.specs.HexFields.{hex_text}
use Rattle.mip_lines.specs.Lines.{line_text, lines_text}
use Rattle.mip_entries.specs.declared.entry.Entry.{Entry}
use Rattle.mip_entries.specs.declared.entry.Entry.TheVariants as entries
use Rattle.mip_entries.specs.Reasons.{is_gone_why, is_unsent_why, is_dropped_why}
use Rattle.mip_entries.specs.Widths.{HasWidths}
use Rattle.mip_schedule.specs.Lawful.{IsLinkIfAny}
use Rattle.mip_symbols.specs.Places.{AreFew, NamesFound}
use Rattle.mip_symbols.specs.declared.declaration.Declaration.{Declaration}
use Rattle.mip_history.specs.Naming.{IsDeclared}
use Rattle.mip_trace.specs.Lines.{entry_row, trace_text}
use Rattle.mip_rows.specs.Ranges.{IfPresent, IsLink}
use Rattle.mip_trace.specs.Ranges.{IsOf}
use Rattle.mip_rows.specs.Whys.{gone_whys, unsent_whys, dropped_whys, IsAmong}
use Rattle.mip_trace.specs.Reading.{reading}
use Rattle.mip_trace.proofs.TraceLaws.{trace-again}
use Rattle.mip_trace_round_trip.proofs.LongLines.{line_long, hex_long}

-- the reasons of each kind of line
gone_among : (why : Why) → is_gone_why why ≡ true → IsAmong gone_whys why
unfolding gone_whys
gone_among whys.NoLink is = inl refl
gone_among whys.Hop is = inr (inl refl)
gone_among whys.NoHolder is = inr (inr (inl refl))
gone_among whys.Shield is = inr (inr (inr (inl refl)))
gone_among _ is = absurd cc

unsent_among : (why : Why) → is_unsent_why why ≡ true → IsAmong unsent_whys why
unfolding unsent_whys
unsent_among whys.Detached is = inl refl
unsent_among whys.Unregistered is = inr (inl refl)
unsent_among whys.NoRoute is = inr (inr (inl refl))
unsent_among whys.Size is = inr (inr (inr (inl refl)))
unsent_among _ is = absurd cc

dropped_among : (why : Why) → is_dropped_why why ≡ true → IsAmong dropped_whys why
unfolding dropped_whys
dropped_among whys.Short is = inl refl
dropped_among whys.Version is = inr (inl refl)
dropped_among whys.Length is = inr (inr (inl refl))
dropped_among whys.Header is = inr (inr (inr (inl refl)))
dropped_among whys.Route is = inr (inr (inr (inr (inl refl))))
dropped_among whys.Option is = inr (inr (inr (inr (inr (inl refl)))))
dropped_among whys.Size is = inr (inr (inr (inr (inr (inr (inl refl))))))
dropped_among whys.Checksum is = inr (inr (inr (inr (inr (inr (inr (inl refl)))))))
dropped_among whys.Kind is = inr (inr (inr (inr (inr (inr (inr (inr (inl refl))))))))
dropped_among whys.Proto is = inr (inr (inr (inr (inr (inr (inr (inr (inr (inl refl)))))))))
dropped_among whys.HeaderLen is = inr (inr (inr (inr (inr (inr (inr (inr (inr (inr (inl refl))))))))))
dropped_among whys.MobilityOption is = inr (inr (inr (inr (inr (inr (inr (inr (inr (inr (inr (inl refl)))))))))))
dropped_among whys.Address is = inr (inr (inr (inr (inr (inr (inr (inr (inr (inr (inr (inr (inl refl))))))))))))
dropped_among whys.Probe is = inr (inr (inr (inr (inr (inr (inr (inr (inr (inr (inr (inr (inr (inl refl)))))))))))))
dropped_among whys.HomeOption is = inr (inr (inr (inr (inr (inr (inr (inr (inr (inr (inr (inr (inr (inr (inl refl))))))))))))))
dropped_among whys.Unroutable is = inr (inr (inr (inr (inr (inr (inr (inr (inr (inr (inr (inr (inr (inr (inr (inl refl)))))))))))))))
dropped_among whys.Options is = inr (inr (inr (inr (inr (inr (inr (inr (inr (inr (inr (inr (inr (inr (inr (inr (inl refl))))))))))))))))
dropped_among whys.Authenticator is = inr (inr (inr (inr (inr (inr (inr (inr (inr (inr (inr (inr (inr (inr (inr (inr (inr (inl refl)))))))))))))))))
dropped_among whys.Role is = inr (inr (inr (inr (inr (inr (inr (inr (inr (inr (inr (inr (inr (inr (inr (inr (inr (inr (inl refl))))))))))))))))))
dropped_among whys.Icmp is = inr (inr (inr (inr (inr (inr (inr (inr (inr (inr (inr (inr (inr (inr (inr (inr (inr (inr (inr (inl refl)))))))))))))))))))
dropped_among whys.NoNext is = inr (inr (inr (inr (inr (inr (inr (inr (inr (inr (inr (inr (inr (inr (inr (inr (inr (inr (inr (inr (inl refl))))))))))))))))))))
dropped_among whys.Unshielded is = inr (inr (inr (inr (inr (inr (inr (inr (inr (inr (inr (inr (inr (inr (inr (inr (inr (inr (inr (inr (inr (inl refl)))))))))))))))))))))
dropped_among whys.Entry is = inr (inr (inr (inr (inr (inr (inr (inr (inr (inr (inr (inr (inr (inr (inr (inr (inr (inr (inr (inr (inr (inr (inl refl))))))))))))))))))))))
dropped_among whys.Nested is = inr (inr (inr (inr (inr (inr (inr (inr (inr (inr (inr (inr (inr (inr (inr (inr (inr (inr (inr (inr (inr (inr (inr (inl refl)))))))))))))))))))))))
dropped_among whys.Hop is = inr (inr (inr (inr (inr (inr (inr (inr (inr (inr (inr (inr (inr (inr (inr (inr (inr (inr (inr (inr (inr (inr (inr (inr (inl refl))))))))))))))))))))))))
dropped_among whys.Cookie is = inr (inr (inr (inr (inr (inr (inr (inr (inr (inr (inr (inr (inr (inr (inr (inr (inr (inr (inr (inr (inr (inr (inr (inr (inr (inl refl)))))))))))))))))))))))))
dropped_among whys.Ack is = inr (inr (inr (inr (inr (inr (inr (inr (inr (inr (inr (inr (inr (inr (inr (inr (inr (inr (inr (inr (inr (inr (inr (inr (inr (inr (inl refl))))))))))))))))))))))))))
dropped_among whys.Error is = inr (inr (inr (inr (inr (inr (inr (inr (inr (inr (inr (inr (inr (inr (inr (inr (inr (inr (inr (inr (inr (inr (inr (inr (inr (inr (inr (inl refl)))))))))))))))))))))))))))
dropped_among whys.Refresh is = inr (inr (inr (inr (inr (inr (inr (inr (inr (inr (inr (inr (inr (inr (inr (inr (inr (inr (inr (inr (inr (inr (inr (inr (inr (inr (inr (inr (inl refl))))))))))))))))))))))))))))
dropped_among whys.Frame is = inr (inr (inr (inr (inr (inr (inr (inr (inr (inr (inr (inr (inr (inr (inr (inr (inr (inr (inr (inr (inr (inr (inr (inr (inr (inr (inr (inr (inr (inl refl)))))))))))))))))))))))))))))
dropped_among _ is = absurd cc

link_present : (ds : List Declaration) (o : Option LinkId) → IsLinkIfAny ds o → IfPresent (IsLink ds) o
link_present ds None is = tt
link_present ds (Some link) is = is

-- the line of an entry is short enough for its bytes
abbrev IsShort : List Declaration → Entry → Type 0
IsShort ds e = length (line_text (entry_row (Some ds) e)) < 2 ^ 32

short_bytes : (bytes : List ℕ) (line : ℕ) → length (hex_text bytes) ≤ line → line < 2 ^ 32 → length bytes < 2 ^ 32
short_bytes bytes line within short = omega (arith, within, short, hex_long bytes)

spelled : (ds : List Declaration) (e : Entry) → IsDeclared ds e → HasWidths e → IsShort ds e → IsOf ds e
spelled ds (entries.At a) d w short = w.place
spelled ds (entries.Moved a b) d w short = (d.0, link_present ds b d.1)
spelled ds (entries.Advertised a b c) d w short = (d.0, d.1, w.place)
spelled ds (entries.Listening a b) d w short = d
spelled ds (entries.Deafened a b) d w short = d
spelled ds (entries.Careof a b) d w short = (d, w.place)
spelled ds (entries.Restarted a) d w short = d
spelled ds (entries.Settled a b c) d w short = d
spelled ds (entries.Claimed a b c) d w short = (d.0, d.1, w.place)
spelled ds (entries.Released a b c) d w short = (d.0, d.1, w.place)
spelled ds (entries.Taken a b c e) d w short = (d.0, d.1, w.place, d.2)
spelled ds (entries.Sent a b c p) d w short =
    let row = line_long (entry_row (Some ds) (entries.Sent a b c p)) in
    (w.packet.0, d, (short_bytes p (length (line_text (entry_row (Some ds) (entries.Sent a b c p)))) row.1.1.1.1.1.0 short, w.packet.1))
spelled ds (entries.Injected a b c p) d w short =
    let row = line_long (entry_row (Some ds) (entries.Injected a b c p)) in
    (w.packet.0, d.0, d.1, (short_bytes p (length (line_text (entry_row (Some ds) (entries.Injected a b c p)))) row.1.1.1.1.1.0 short, w.packet.1))
spelled ds (entries.Heard a b) d w short = (w.packet, d)
spelled ds (entries.Handed a b) d w short = (w.packet, d)
spelled ds (entries.Gone a b) d w short = (w.packet, gone_among b d)
spelled ds (entries.Lost a) d w short = w.packet
spelled ds (entries.Unsent a b) d w short = (d.0, unsent_among b d.1)
spelled ds entries.Idle d w short = tt
spelled ds (entries.Registered a b c) d w short = (d, w.mobile.0, w.mobile.1)
spelled ds (entries.Unregistered a b) d w short = (d, w.mobile)
spelled ds (entries.Refused a b) d w short = (d, w.mobile)
spelled ds (entries.Chosen a b) d w short = (d, w.mobile)
spelled ds (entries.Prefixes a b c) d w short = (d, w.mobile.0, w.mobile.1)
spelled ds (entries.Made a b c x y) d w short = (d, w.mobile.0, w.mobile.1, w.mobile.2, w.mobile.3)
spelled ds (entries.Bound a b c) d w short = (d, w.mobile.0, w.mobile.1)
spelled ds (entries.Unbound a b) d w short = (d, w.mobile)
spelled ds (entries.Home a b c x y) d w short = (d, w.row.0, w.row.1, w.row.2, w.row.3)
spelled ds (entries.Accepted a b c x e f g h i) d w short =
    (d, w.update.0, w.update.1, w.update.2, w.update.3, w.update.4, w.update.5, w.update.6, w.update.7)
spelled ds (entries.Origin a b c) d w short = (w.update.0, w.update.1, w.update.2)
spelled ds (entries.Forged a) d w short = d
spelled ds (entries.Denied a b c) d w short = (d, w.update.0, w.update.1)
spelled ds (entries.Dropped a b c) d w short = (d.0, w.packet, dropped_among c d.1)
spelled ds (entries.Up a b c x e f) d w short =
    let row = line_long (entry_row (Some ds) (entries.Up a b c x e f)) in
    (d, w.packet.0, w.packet.1, w.packet.2, w.packet.3, (short_bytes f (length (line_text (entry_row (Some ds) (entries.Up a b c x e f)))) row.1.1.1.1.1.1.0 short, w.packet.4))
spelled ds (entries.Row a b c x e f g) d w short = (d, w.row.0, w.row.1, w.row.2, w.row.3, w.row.4, w.row.5)

-- a text is as long as each of its lines
each_spelled : (ds : List Declaration) (h : List Entry) → AllByRecursion (IsDeclared ds) h → AllByRecursion HasWidths h → length (lines_text (map (entry_row (Some ds)) h)) < 2 ^ 32 → AllByRecursion (IsOf ds) h
each_spelled ds [] d w short = tt
each_spelled ds (e ∷ h) d w short =
    let both = length-append (line_text (entry_row (Some ds) e)) (lines_text (map (entry_row (Some ds)) h)) in
    (spelled ds e d.0 w.0 (omega (arith, short, both)), each_spelled ds h d.1 w.1 (omega (arith, short, both)))

pub all_spelled : (ds : List Declaration) (h : List Entry) → AllByRecursion (IsDeclared ds) h → AllByRecursion HasWidths h → length (trace_text (Some ds) h) < 2 ^ 32 → AllByRecursion (IsOf ds) h
unfolding trace_text
all_spelled ds h d w short = each_spelled ds h d w short

pub read_back : (ds : List Declaration) (h : List Entry) → AreFew ds → NamesFound ds → AllByRecursion (IsOf ds) h → reading ds (trace_text (Some ds) h) ≡ Ok h
read_back ds h few found spelled = trace-again ds few found h (trace_text (Some ds) h) (spelled, refl)
