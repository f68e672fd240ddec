use Rattle.vl_lex.proofs.SpelledLaws.{found, all, faults, fails, passes, have_one_list}
use Rattle.vl_lex.proofs.LongestToken.{takes_longest}
use Rattle.vl_lex.proofs.token_laws.Goals as goal

pub returns-clause-computes : goal.returns-clause-computes
returns-clause-computes c = record { found = found; all = all; fault = faults; fails = fails; passes = passes }

pub returns-clause-one : goal.returns-clause-one
returns-clause-one c = have_one_list

pub returns-clause-longest : goal.returns-clause-longest
returns-clause-longest c = takes_longest
