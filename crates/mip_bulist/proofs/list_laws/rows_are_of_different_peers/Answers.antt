use Rattle.mip_bulist.proofs.RowLaws.{peers_with, peers_kept, peers_laid}
use Rattle.mip_bulist.proofs.list_laws.rows_are_of_different_peers.Goals as goal

pub returns-clause-made : goal.returns-clause-made
returns-clause-made c = λ peer rows d. peers_with rows peer d

pub returns-clause-lifted : goal.returns-clause-lifted
returns-clause-lifted c = λ row trial rows d. peers_kept rows row trial d

pub returns-clause-laid : goal.returns-clause-laid
returns-clause-laid c = λ row trial rows d. peers_laid rows row trial d
