-- What a message says, without how it was spelled: cookies are numbers, tokens their 8 bytes, and
-- lifetimes are in units of 4 s. RFC 6275 sections 6.1.2 to 6.1.9
use Rattle.std.specs.Prelude.{◌≡◌, ℕ, List, drop, Bool}
use Rattle.mip_words.specs.declared.address.Address.{Address}
use Rattle.mip_mobhdr.specs.OptionValues.{Values, values, set_values}
use Rattle.mip_mobhdr.specs.declared.message.Message.{Message}
use Rattle.mip_mobhdr.specs.declared.message.Message.TheVariants as read
use Rattle.mip_mobhdr.specs.declared.plain.Plain.{Plain}
use Rattle.mip_mobhdr.specs.declared.plain.Plain.TheVariants as plain

pub data Said : Type 0 where
  Refresh : (options : Values) → Said
  HomeInit : (cookie : ℕ) (options : Values) → Said
  CareofInit : (cookie : ℕ) (options : Values) → Said
  HomeTest : (index : ℕ) (cookie : ℕ) (token : List ℕ) (options : Values) → Said
  CareofTest : (index : ℕ) (cookie : ℕ) (token : List ℕ) (options : Values) → Said
  Update : (sequence : ℕ) (ack home local key : Bool) (lifetime : ℕ) (options : Values) → Said
  Acknowledgement : (status : ℕ) (key : Bool) (sequence lifetime : ℕ) (options : Values) → Said
  Error : (status : ℕ) (home : Address) (options : Values) → Said

-- what was read
abbrev pub said : Message → Said
said (read.Refresh o) = Refresh (values o)
said (read.HomeInit c o) = HomeInit c.0 (values o)
said (read.CareofInit c o) = CareofInit c.0 (values o)
said (read.HomeTest i c t o) = HomeTest i c.0 t.0 (values o)
said (read.CareofTest i c t o) = CareofTest i c.0 t.0 (values o)
said (read.Update s a h l k t o) = Update s a h l k t (values o)
said (read.Acknowledgement s k q t o) = Acknowledgement s k q t (values o)
said (read.Error s h o) = Error s h (values o)

-- what is to be written
abbrev pub said_plain : Plain → Said
said_plain (plain.Refresh o) = Refresh (set_values o)
said_plain (plain.HomeInit c o) = HomeInit c.0 (set_values o)
said_plain (plain.CareofInit c o) = CareofInit c.0 (set_values o)
said_plain (plain.HomeTest i c t o) = HomeTest i c.0 t.0 (set_values o)
said_plain (plain.CareofTest i c t o) = CareofTest i c.0 t.0 (set_values o)
said_plain (plain.Update s a h l k t o) = Update s a h l k t (set_values o)
said_plain (plain.Acknowledgement s k q t o) = Acknowledgement s k q t (set_values o)
said_plain (plain.Error s h o) = Error s h (set_values o)

-- the bytes of the options are those of the message from their place to its end
abbrev pub HasSpan : List ℕ → Message → Type 0
HasSpan body (read.Refresh o) = o.span.now ≡ drop 8 body
HasSpan body (read.HomeInit c o) = o.span.now ≡ drop 16 body
HasSpan body (read.CareofInit c o) = o.span.now ≡ drop 16 body
HasSpan body (read.HomeTest i c t o) = o.span.now ≡ drop 24 body
HasSpan body (read.CareofTest i c t o) = o.span.now ≡ drop 24 body
HasSpan body (read.Update s a h l k t o) = o.span.now ≡ drop 12 body
HasSpan body (read.Acknowledgement s k q t o) = o.span.now ≡ drop 12 body
HasSpan body (read.Error s h o) = o.span.now ≡ drop 24 body
