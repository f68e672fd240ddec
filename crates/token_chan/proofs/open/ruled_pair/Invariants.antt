use Rattle.token_chan.proofs.open.ruled_pair.Given as goal

abbrev pub ghosts-open : goal.ghosts-open
ghosts-open g a = record { name = record { run = g.N.RunName.run; channel = a.channel; depth = a.depth } }
