-- Worked examples of packed rows.
use Rattle.std.proofs.Common.{◌≡◌, refl, [], ◌∷◌}
use Rattle.packed_rows.specs.Packed.{packed, unpacked, number, word_count, rows_in}

-- 5 in three bits, 1 in one, 9 in four: 1001 1 101
three_values : packed (3 ∷ 1 ∷ 4 ∷ []) (5 ∷ 1 ∷ 9 ∷ []) ≡ 157
three_values = refl

three_back : unpacked (3 ∷ 1 ∷ 4 ∷ []) 157 ≡ 5 ∷ 1 ∷ 9 ∷ []
three_back = refl

-- a value over the border of two words
over_the_border : unpacked (60 ∷ 8 ∷ []) (number (6 ∷ 10 ∷ [])) ≡ 6 ∷ 160 ∷ []
over_the_border = refl

-- 4,096 bits take 64 words, and one bit more one word more; no bits take none
words_of_limit : word_count 4096 ≡ 64
words_of_limit = refl

words_of_more : word_count 4097 ≡ 65
words_of_more = refl

words_of_none : word_count 0 ≡ 0
words_of_none = refl

-- rows follow one another
two_rows : rows_in (2 ∷ 3 ∷ []) 1 2 (21 ∷ 6 ∷ 99 ∷ []) ≡ (1 ∷ 5 ∷ []) ∷ (2 ∷ 1 ∷ []) ∷ []
two_rows = refl
