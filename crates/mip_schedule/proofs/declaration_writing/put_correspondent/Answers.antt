use Rattle.mip_schedule.proofs.declaration_writing.put_correspondent.Goals as goal

pub returns : goal.returns
returns c = rw (c.as_slice.ensures, c.link_name.ensures, c.digits.ensures, c.as_bytes.ensures.value, c.format.ensures.text) at c.put_line.ensures
