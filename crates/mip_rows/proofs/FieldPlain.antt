-- The field of a value has no space and no line end in it, nor have those of a tail.
use Rattle.std.proofs.Common.{◌≡◌, ℕ, ◌-◌, ◌<◌, ◌≤◌, List, [], ◌∷◌, length, Bool, true, false, not, refl, ap, ◌∙◌, subst, inl, inr, arith, nat_lt}
use Rattle.std.specs.Prelude.{Option, Some, None, Result, Ok, Err, decimal, ◌&&◌, ◌||◌, ◌==◌}
use Rattle.std.specs.List.{list_all}
use Rattle.std.proofs.lemmas.Bool.{cond_both, cond-true, cond-false, and_parts, and_from, not_from_false, ne_eqb, lt-ltb, le-ltb}
use Rattle.mip_words.specs.Addresses.{address_bytes}
use Rattle.mip_words.specs.declared.ids.LinkId.{LinkId}
use Rattle.mip_words.specs.declared.ids.NodeId.{NodeId}
use Rattle.mip_words.specs.declared.token.Token.{Token}
use Rattle.mip_words.specs.declared.why.Why.{Why}
use Rattle.mip_words.specs.declared.why.Why.TheVariants as whys
use Rattle.mip_ipv6.specs.Packet.{Packet, source_of, destination_of}
use Rattle.mip_ipv6.specs.Reading.{packet_of}
use Rattle.mip_ipv6.specs.declared.not_packet.NotPacket.{NotPacket}
use Rattle.mip_mobhdr.specs.Said as mobility
use Rattle.mip_icmp.specs.Reading.{icmp_of}
use Rattle.mip_icmp.specs.Said as icmp
use Rattle.mip_icmp.specs.declared.fault.IcmpFault.{IcmpFault}
use Rattle.mip_packets.specs.Says.{message_in}
use Rattle.mip_lines.specs.LinesLaws.{is_plain}
use Rattle.mip_lines.proofs.LineLaws.{decimal_plain, hex_plain, hex_text_plain}
use Rattle.mip_symbols.specs.Names.{is_letter, is_name}
use Rattle.mip_symbols.specs.Places.{AreFew, NamesFound, name_at}
use Rattle.mip_symbols.specs.declared.declaration.Declaration.{Declaration}
use Rattle.mip_symbols.specs.declared.places.Sort.TheVariants as sorts
use Rattle.mip_rows.specs.Names.{node_name, link_name, outsider_name, who_name}
use Rattle.mip_rows.specs.PacketKinds.{mobility_kind, icmp_kind, packet_kind, kind_of}
use Rattle.mip_rows.specs.Whys.{why_word}
use Rattle.mip_rows.specs.Ranges.{IsNumber, IsNode, IsLink, IsOutsider, IsWho, IfPresent, IsOfKind, AreOfKinds}
use Rattle.mip_rows.specs.Texts.{or_dash, token_hex, shield_mark, yes_or_no, value_text, tail_texts, row_texts}
use Rattle.mip_rows.specs.declared.field_kind.Kind.{Kind}
use Rattle.mip_rows.specs.declared.field_kind.Kind.TheVariants as kinds
use Rattle.mip_rows.specs.declared.tail.Tail.{Tail}
use Rattle.mip_rows.specs.declared.tail.Tail.TheVariants as tails
use Rattle.mip_rows.specs.declared.value.Value.{Value}
use Rattle.mip_rows.specs.declared.value.Value.TheVariants as values

abbrev IsPlain : List ℕ → Type 0
IsPlain f = is_plain f ≡ true

letter_plain : (c : ℕ) → is_letter c ≡ true → (not (c == 32) && not (c == 10)) ≡ true
letter_plain c test =
    and_from _ _
    (not_from_false _ (ne_eqb c 32 (λ e. no_space (subst (λ (x : ℕ). is_letter x ≡ true) e test))))
    (not_from_false _ (ne_eqb c 10 (λ e. no_end (subst (λ (x : ℕ). is_letter x ≡ true) e test))))
  where
    no_space : is_letter 32 ≡ true → ⊥
    no_space e = absurd cc

    no_end : is_letter 10 ≡ true → ⊥
    no_end e = absurd cc

letters_plain : (f : List ℕ) → list_all is_letter f ≡ true → IsPlain f
letters_plain [] test = refl
letters_plain (c ∷ f) test =
    let p = and_parts (is_letter c) (list_all is_letter f) test in
    and_from _ _ (letter_plain c p.0) (letters_plain f p.1)

name_plain : (f : List ℕ) → is_name f ≡ true → IsPlain f
unfolding is_name
name_plain f =
    cond_both ((length f == 0) || nat_lt 8 (length f)) _ _ (λ (b : Bool). b ≡ true → IsPlain f)
    (λ _ e. absurd cc)
    (λ _ e. letters_plain f (and_parts (list_all is_letter f) _ e).0)

node_plain : (ds : List Declaration) → NamesFound ds → (n : NodeId) → IsNode ds n → IsPlain (node_name (Some ds) n)
unfolding node_name
node_plain ds found n is = name_plain (name_at sorts.Node n.0 ds) (found.names sorts.Node n.0 is)

link_plain : (ds : List Declaration) → NamesFound ds → (l : LinkId) → IsLink ds l → IsPlain (link_name (Some ds) l)
unfolding link_name
link_plain ds found l is = name_plain (name_at sorts.Link l.0 ds) (found.names sorts.Link l.0 is)

outsider_plain : (ds : List Declaration) → NamesFound ds → (o : ℕ) → IsOutsider ds o → IsPlain (outsider_name (Some ds) o)
unfolding outsider_name
outsider_plain ds found o is = name_plain (name_at sorts.Outsider o ds) (found.names sorts.Outsider o is)

who_plain : (ds : List Declaration) → AreFew ds → NamesFound ds → (w : ℕ) → IsWho ds w → IsPlain (who_name (Some ds) w)
unfolding who_name
who_plain ds few found w (inl is) =
    let small : w < 32 = omega (arith, few.nodes) in
    ap is_plain (cond-true _ _ _ (lt-ltb w 32 small)) ∙ node_plain ds found (record { 0 = w }) is
who_plain ds few found w (inr is) =
    let large : 32 ≤ w = omega (arith, is.2) in
    let back : w - 32 ≡ is.0 = omega (arith, is.2) in
    ap is_plain (cond-false _ _ _ (le-ltb w 32 large) ∙ ap (outsider_name (Some ds)) back) ∙ outsider_plain ds found is.0 is.1

some_link_plain : (ds : List Declaration) → NamesFound ds → (o : Option LinkId) → IfPresent (IsLink ds) o → IsPlain (or_dash (link_name (Some ds)) o)
some_link_plain ds found None is = refl
some_link_plain ds found (Some l) is = link_plain ds found l is

token_plain : (o : Option Token) → IsPlain (or_dash token_hex o)
token_plain None = refl
token_plain (Some t) = hex_plain t.0

u64_plain : (o : Option ℕ) → IfPresent (IsNumber 64) o → IsPlain (or_dash decimal o)
u64_plain None is = refl
u64_plain (Some x) is = decimal_plain x is

u16_plain : (o : Option ℕ) → IfPresent (IsNumber 16) o → IsPlain (or_dash decimal o)
u16_plain None is = refl
u16_plain (Some x) is = decimal_plain x (omega arith)

shield_plain : (b : Bool) → IsPlain (shield_mark b)
shield_plain true = refl
shield_plain false = refl

answer_plain : (b : Bool) → IsPlain (yes_or_no b)
answer_plain true = refl
answer_plain false = refl

why_plain : (w : Why) → IsPlain (why_word w)
unfolding why_word
why_plain whys.NoLink = refl
why_plain whys.Hop = refl
why_plain whys.NoHolder = refl
why_plain whys.Shield = refl
why_plain whys.Detached = refl
why_plain whys.Unregistered = refl
why_plain whys.NoRoute = refl
why_plain whys.Size = refl
why_plain whys.Short = refl
why_plain whys.Version = refl
why_plain whys.Length = refl
why_plain whys.Header = refl
why_plain whys.Route = refl
why_plain whys.Option = refl
why_plain whys.Checksum = refl
why_plain whys.Kind = refl
why_plain whys.Proto = refl
why_plain whys.HeaderLen = refl
why_plain whys.MobilityOption = refl
why_plain whys.Address = refl
why_plain whys.Probe = refl
why_plain whys.HomeOption = refl
why_plain whys.Unroutable = refl
why_plain whys.Options = refl
why_plain whys.Authenticator = refl
why_plain whys.Role = refl
why_plain whys.Icmp = refl
why_plain whys.NoNext = refl
why_plain whys.Unshielded = refl
why_plain whys.Entry = refl
why_plain whys.Nested = refl
why_plain whys.Cookie = refl
why_plain whys.Ack = refl
why_plain whys.Error = refl
why_plain whys.Refresh = refl
why_plain whys.Frame = refl

mobility_plain : (o : Option mobility.Said) → IsPlain (mobility_kind o)
mobility_plain None = refl
mobility_plain (Some (mobility.Refresh o)) = refl
mobility_plain (Some (mobility.HomeInit c o)) = refl
mobility_plain (Some (mobility.CareofInit c o)) = refl
mobility_plain (Some (mobility.HomeTest i c t o)) = refl
mobility_plain (Some (mobility.CareofTest i c t o)) = refl
mobility_plain (Some (mobility.Update q a h l k t o)) = refl
mobility_plain (Some (mobility.Acknowledgement s k q t o)) = refl
mobility_plain (Some (mobility.Error s h o)) = refl

icmp_plain : (r : Result icmp.Said IcmpFault) → IsPlain (icmp_kind r)
icmp_plain (Ok m) = refl
icmp_plain (Err fault) = refl

packet_plain : (r : Result Packet NotPacket) → IsPlain (packet_kind r)
packet_plain (Err refusal) = refl
packet_plain (Ok p) =
    cond_both (p.head.proto == 135) _ _ IsPlain (λ _. mobility_plain (message_in p)) (λ _.
    cond_both (p.head.proto == 58) _ _ IsPlain (λ _. icmp_plain (icmp_of (source_of p.head) (destination_of p.head) p.body)) (λ _.
    cond_both (p.head.proto == 41) _ _ IsPlain (λ _. refl) (λ _.
    cond_both (p.head.proto == 59) _ _ IsPlain (λ _. refl) (λ _. refl))))

kind_plain : (bytes : List ℕ) → IsPlain (kind_of bytes)
unfolding kind_of
kind_plain bytes = packet_plain (packet_of bytes)

value-plain : (ds : List Declaration) → AreFew ds → NamesFound ds → (k : Kind) (v : Value) → IsOfKind ds k v → IsPlain (value_text (Some ds) v)
value-plain ds few found kinds.U8 (values.U8 x) is = decimal_plain x (omega (arith, is))
value-plain ds few found kinds.U16 (values.U16 x) is = decimal_plain x (omega (arith, is))
value-plain ds few found kinds.U32 (values.U32 x) is = decimal_plain x (omega (arith, is))
value-plain ds few found kinds.U64 (values.U64 x) is = decimal_plain x is
value-plain ds few found kinds.Cause (values.U8 x) is = decimal_plain x (omega (arith, is.1))
value-plain ds few found kinds.Moment (values.Moment m) is = decimal_plain m.0 is
value-plain ds few found kinds.Address (values.Address a) is = hex_plain (address_bytes a)
value-plain ds few found kinds.Token (values.Token t) is = hex_plain t.0
value-plain ds few found kinds.Node (values.Node n) is = node_plain ds found n is
value-plain ds few found kinds.Link (values.Link l) is = link_plain ds found l is
value-plain ds few found kinds.Outsider (values.Outsider o) is = outsider_plain ds found o is
value-plain ds few found kinds.Who (values.Who w) is = who_plain ds few found w is
value-plain ds few found kinds.SomeU16 (values.SomeU16 o) is = u16_plain o is
value-plain ds few found kinds.SomeU64 (values.SomeU64 o) is = u64_plain o is
value-plain ds few found kinds.SomeAddress (values.Address a) is = hex_plain (address_bytes a)
value-plain ds few found kinds.SomeAddress values.NoAddress is = refl
value-plain ds few found kinds.SomeToken (values.SomeToken o) is = token_plain o
value-plain ds few found kinds.SomeLink (values.SomeLink o) is = some_link_plain ds found o is
value-plain ds few found kinds.Shield (values.Shield b) is = shield_plain b
value-plain ds few found kinds.Answer (values.Answer b) is = answer_plain b
value-plain ds few found kinds.Gone (values.Why w) is = why_plain w
value-plain ds few found kinds.Unsent (values.Why w) is = why_plain w
value-plain ds few found kinds.Dropped (values.Why w) is = why_plain w
value-plain ds few found _ _ is = absurd is

tail_plain : (t : Tail) (b : List ℕ) → list_all is_plain (tail_texts t b) ≡ true
tail_plain tails.Nothing b = refl
tail_plain tails.Bytes b = and_from _ _ (hex_text_plain b) refl
tail_plain tails.Packet b = and_from _ _ (kind_plain b) (and_from _ _ (hex_text_plain b) refl)

-- the fields of a row are plain
pub row-plain : (ds : List Declaration) → AreFew ds → NamesFound ds → (ks : List Kind) (vs : List Value) (t : Tail) (b : List ℕ) → AreOfKinds ds ks vs → list_all is_plain (row_texts (Some ds) vs t b) ≡ true
row-plain ds few found [] [] t b are = tail_plain t b
row-plain ds few found (k ∷ ks) (v ∷ vs) t b are = and_from _ _ (value-plain ds few found k v are.0) (row-plain ds few found ks vs t b are.1)
row-plain ds few found _ _ t b are = absurd are
