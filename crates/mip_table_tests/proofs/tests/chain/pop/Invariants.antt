use Rattle.mip_table_tests.proofs.tests.chain.pop.Given as goal

abbrev pub ghosts-popped : goal.ghosts-popped
ghosts-popped a = record { name = a.blank.name; parts = a.blank.parts }
