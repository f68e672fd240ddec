use Rattle.std.proofs.Common.{◌≡◌, map}
use Rattle.std.specs.List.{range_with_len}
use Rattle.gang_board.specs.Begins.{first_word}
use Rattle.gang_board.proofs.begin.first_words.Given as goal

abbrev pub invariant-loop-place : goal.invariant-loop-place
invariant-loop-place l = l.words.items ≡ map (first_word l.setup) (range_with_len 0 l.place)
