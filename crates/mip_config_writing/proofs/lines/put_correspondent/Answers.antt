use Rattle.mip_config_writing.proofs.lines.put_correspondent.Goals as goal

pub returns : goal.returns
returns c = rw (c.digits.ensures, c.as_bytes.ensures.value, c.format.ensures.text) at c.put_line.ensures
