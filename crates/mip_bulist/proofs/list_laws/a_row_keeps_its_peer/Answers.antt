use Rattle.mip_bulist.proofs.RowLaws.{peer_kept, peer_laid, peer_stays}
use Rattle.mip_bulist.proofs.list_laws.a_row_keeps_its_peer.Goals as goal

pub returns-clause-made : goal.returns-clause-made
returns-clause-made c = λ row other rows. peer_stays rows row other

pub returns-clause-lifted : goal.returns-clause-lifted
returns-clause-lifted c = λ row at trial rows. peer_kept rows row at trial

pub returns-clause-laid : goal.returns-clause-laid
returns-clause-laid c = λ row at trial rows. peer_laid rows row at trial
