-- What levels of a transform make of the numbers at a place of lists: one level of two lists, two levels of four.
use Rattle.std.specs.Prelude.{ℕ, ◌+◌, ◌*◌, List, ℤ, pos, neg_ℤ, ◌*ℤ◌, ◌+ℤ◌, ◌-ℤ◌, slice_index_or}
use Rattle.fx_tap_sums.specs.Transform.{root_at}

-- a number of the first list plus r times that of the second
abbrev pub spread_at : ℤ → List ℕ → List ℕ → ℕ → ℤ
spread_at r xs ys i = pos (slice_index_or xs i 0) +ℤ (r *ℤ pos (slice_index_or ys i 0))

-- their sum
abbrev pub sum_at : List ℕ → List ℕ → ℕ → ℤ
sum_at xs ys i = pos (slice_index_or xs i 0) +ℤ pos (slice_index_or ys i 0)

-- w times their difference
abbrev pub difference_at : ℤ → List ℕ → List ℕ → ℕ → ℤ
difference_at w xs ys i = w *ℤ (pos (slice_index_or xs i 0) -ℤ pos (slice_index_or ys i 0))

-- their difference
abbrev pub minus_at : List ℕ → List ℕ → ℕ → ℤ
minus_at xs ys i = pos (slice_index_or xs i 0) -ℤ pos (slice_index_or ys i 0)

-- a number of the first list plus w times the difference of those of the two others
abbrev pub with_difference_at : List ℕ → ℤ → List ℕ → List ℕ → ℕ → ℤ
with_difference_at zs w xs ys i = pos (slice_index_or zs i 0) +ℤ difference_at w xs ys i

-- the roots, or inverses, of two levels: one for the first of them, and for the second one for each half
pub record TwoLevels : Type 0 where
  pub whole : ℤ
  pub low : ℤ
  pub high : ℤ

-- these three
abbrev pub levels_of : ℕ → ℕ → ℕ → TwoLevels
levels_of whole low high = record { whole = pos whole; low = pos low; high = pos high }

-- those of a table, from a place on
abbrev pub levels_at : List ℕ → ℕ → TwoLevels
levels_at roots place = record { whole = root_at roots place; low = root_at roots (2 * place); high = root_at roots (2 * place + 1) }

-- two levels of spread_at: by r the first and third list, and the second and fourth, then by q what these gave
abbrev pub spread_twice_at : ℤ → ℤ → List ℕ → List ℕ → List ℕ → List ℕ → ℕ → ℤ
spread_twice_at r q first second third fourth i = spread_at r first third i +ℤ (q *ℤ spread_at r second fourth i)

-- what two levels make of the first list
abbrev pub spread_first_at : TwoLevels → List ℕ → List ℕ → List ℕ → List ℕ → ℕ → ℤ
spread_first_at roots = spread_twice_at roots.whole roots.low

-- of the second list
abbrev pub spread_second_at : TwoLevels → List ℕ → List ℕ → List ℕ → List ℕ → ℕ → ℤ
spread_second_at roots = spread_twice_at roots.whole (neg_ℤ roots.low)

-- of the third list
abbrev pub spread_third_at : TwoLevels → List ℕ → List ℕ → List ℕ → List ℕ → ℕ → ℤ
spread_third_at roots = spread_twice_at (neg_ℤ roots.whole) roots.high

-- of the fourth list
abbrev pub spread_fourth_at : TwoLevels → List ℕ → List ℕ → List ℕ → List ℕ → ℕ → ℤ
spread_fourth_at roots = spread_twice_at (neg_ℤ roots.whole) (neg_ℤ roots.high)

-- what two levels of the way back make of the first list
abbrev pub gather_first_at : List ℕ → List ℕ → List ℕ → List ℕ → ℕ → ℤ
gather_first_at first second third fourth i = sum_at first second i +ℤ sum_at third fourth i

-- of the second list
abbrev pub gather_second_at : TwoLevels → List ℕ → List ℕ → List ℕ → List ℕ → ℕ → ℤ
gather_second_at inverses first second third fourth i = difference_at inverses.low first second i +ℤ difference_at inverses.high third fourth i

-- of the third list
abbrev pub gather_third_at : TwoLevels → List ℕ → List ℕ → List ℕ → List ℕ → ℕ → ℤ
gather_third_at inverses first second third fourth i = inverses.whole *ℤ (sum_at first second i -ℤ sum_at third fourth i)

-- of the fourth list
abbrev pub gather_fourth_at : TwoLevels → List ℕ → List ℕ → List ℕ → List ℕ → ℕ → ℤ
gather_fourth_at inverses first second third fourth i = inverses.whole *ℤ (difference_at inverses.low first second i -ℤ difference_at inverses.high third fourth i)
