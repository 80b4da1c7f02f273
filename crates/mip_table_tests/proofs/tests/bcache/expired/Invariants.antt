use Rattle.mip_table_tests.proofs.tests.bcache.expired.Given as goal

abbrev pub ghosts-counted : goal.ghosts-counted
ghosts-counted a = record { name = a.blank.name; parts = a.blank.parts }
