-- Which kind of test a message asks for, and at which address. RFC 6275 sections 6.1.3 and 6.1.4
use Rattle.std.specs.Prelude.{Option, Some, None}
use Rattle.mip_words.specs.declared.address.Address.{Address}
use Rattle.mip_mobhdr.specs.Said.{Said}
use Rattle.mip_mobhdr.specs.Said.Said.{HomeInit, CareofInit}
use Rattle.mip_packets.specs.declared.test_kind.TestKind.{TestKind}
use Rattle.mip_packets.specs.declared.test_kind.TestKind.TheVariants.{Home, Careof}

abbrev pub init_in : Address → Option Said → Option (TestKind × Address)
init_in source (Some (HomeInit cookie options)) = Some (Home, source)
init_in source (Some (CareofInit cookie options)) = Some (Careof, source)
init_in source _ = None
