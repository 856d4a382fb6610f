use Rattle.std.proofs.Common.{◌≡◌, ◌+◌, ◌<◌, ◌^◌, ◌++◌, ℕ, ℤ, List, pos, [], ◌∷◌, get_or, map, of_z, refl, to_z, arith, w64}
use Rattle.fx_tap_sums.specs.Lanes.{LanesWithin}
use Rattle.fx_tap_sums.proofs.PairLanes.{each_of_two, four-within, lane-within, lane_left, lane_right}
use Rattle.fx_tap_sums.proofs.ProductLanes.{each_fits}
use Rattle.fx_tap_sums.proofs.pairs.interleave.Goals as goal

-- the lanes of two vectors that stand one after the other
left : (xs ys : List ℤ) (j : ℕ) → j < 4 → LanesWithin (2 ^ 61) xs → to_z w64 (get_or (map (of_z w64) xs ++ map (of_z w64) ys) j 0) ≡ get_or xs j (pos 0)
left xs ys j l x = lane_left w64 xs ys j (omega (arith, l, x.four)) (each_fits (2 ^ 61) xs (omega arith) x.small)

right : (xs ys : List ℤ) (j i : ℕ) → j ≡ 4 + i → i < 4 → LanesWithin (2 ^ 61) xs → LanesWithin (2 ^ 61) ys → to_z w64 (get_or (map (of_z w64) xs ++ map (of_z w64) ys) j 0) ≡ get_or ys i (pos 0)
right xs ys j i is l x y = lane_right w64 xs ys j i (omega (arith, is, x.four)) (omega (arith, l, y.four)) (each_fits (2 ^ 61) ys (omega arith) y.small)

-- two lanes of each, in turns
within : (xs ys : List ℤ) (j k i n : ℕ) → j < 4 → k < 4 → i ≡ 4 + j → n ≡ 4 + k → LanesWithin (2 ^ 61) xs → LanesWithin (2 ^ 61) ys → let lane : ℕ → ℤ = λ at. to_z w64 (get_or (map (of_z w64) xs ++ map (of_z w64) ys) at 0) in LanesWithin (2 ^ 61) (lane j ∷ lane i ∷ lane k ∷ lane n ∷ [])
within xs ys j k i n j_less k_less i_is n_is x y =
    four-within _ _ _ _ _ _ _ _ (left xs ys j j_less x) (right xs ys i j i_is j_less x y) (left xs ys k k_less x) (right xs ys n k n_is k_less x y)
    (lane-within xs j j_less x) (lane-within ys j j_less y) (lane-within xs k k_less x) (lane-within ys k k_less y)

pub returns-clause-first : goal.returns-clause-first
returns-clause-first c = each_of_two _ (left c.args.even c.args.odd 0 (omega arith) c.requires.even) (left c.args.even c.args.odd 1 (omega arith) c.requires.even)

pub returns-clause-third : goal.returns-clause-third
returns-clause-third c = each_of_two _ (left c.args.even c.args.odd 2 (omega arith) c.requires.even) (left c.args.even c.args.odd 3 (omega arith) c.requires.even)

pub returns-clause-second : goal.returns-clause-second
returns-clause-second c = each_of_two _ (right c.args.even c.args.odd 4 0 refl (omega arith) c.requires.even c.requires.odd) (right c.args.even c.args.odd 5 1 refl (omega arith) c.requires.even c.requires.odd)

pub returns-clause-fourth : goal.returns-clause-fourth
returns-clause-fourth c = each_of_two _ (right c.args.even c.args.odd 6 2 refl (omega arith) c.requires.even c.requires.odd) (right c.args.even c.args.odd 7 3 refl (omega arith) c.requires.even c.requires.odd)

pub returns-clause-low : goal.returns-clause-low
returns-clause-low c = within c.args.even c.args.odd 0 1 4 5 (omega arith) (omega arith) refl refl c.requires.even c.requires.odd

pub returns-clause-high : goal.returns-clause-high
returns-clause-high c = within c.args.even c.args.odd 2 3 6 7 (omega arith) (omega arith) refl refl c.requires.even c.requires.odd
