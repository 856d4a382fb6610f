-- Samples of 16 bits, and weights for them two by two.
use Rattle.std.specs.Prelude.{ℕ, ℤ, pos, ◌≡◌, ◌≤◌, ◌<◌, ◌⊎◌, ◌+◌, ◌-◌, ◌*◌, ◌/◌, ◌%◌, ◌^◌, ◌+ℤ◌, ◌*ℤ◌, List, drop, length, slice_index_or, sum_by, take, unsigned_abs, FitsSigned}
use Rattle.std.specs.Int.{w16, w32}
use Rattle.std.specs.Simd.Lanes.{Each1}

-- the first so many samples are multiples of 65,536, as those of 16-bit sources are
abbrev pub AreHalves : ℕ → List ℤ → Type 0
AreHalves count samples = (i : ℕ) → i < count → unsigned_abs (slice_index_or samples i (pos 0)) % 65536 ≡ 0

-- the first samples, as many as there are weights and sums together, are multiples of 65,536
abbrev pub AreHalvesFor : List ℤ → List ℤ → List ℤ → Type 0
AreHalvesFor weights sums samples = AreHalves (length weights + length sums) samples

-- eight lanes of numbers of 16 bits
pub record EightHalves (lanes : List ℤ) : Type 0 where
  pub eight : length lanes ≡ 8
  pub fits : Each1 (FitsSigned w16) lanes

-- four lanes of numbers of 32 bits
pub record FourFit (lanes : List ℤ) : Type 0 where
  pub four : length lanes ≡ 4
  pub fits : Each1 (FitsSigned w32) lanes

-- the products of two neighbours from a place of either list on, added up
abbrev pub pair_product : List ℤ → ℕ → List ℤ → ℕ → ℤ
pair_product xs i ys j = (slice_index_or xs i (pos 0) *ℤ slice_index_or ys j (pos 0)) +ℤ (slice_index_or xs (i + 1) (pos 0) *ℤ slice_index_or ys (j + 1) (pos 0))

-- four sums to which the products of neighbours can be added without overflow
pub record PairsFit (sums numbers weights : List ℤ) : Type 0 where
  pub sums_fit : FourFit sums
  pub are_halves : EightHalves numbers
  pub weights_fit : EightHalves weights
  pub product : (k : ℕ) → k < 4 → unsigned_abs (pair_product numbers (2 * k) weights (2 * k)) < 2 ^ 31
  pub sum : (k : ℕ) → k < 4 → unsigned_abs (slice_index_or sums k (pos 0) +ℤ pair_product numbers (2 * k) weights (2 * k)) < 2 ^ 31

-- four sums with the products of neighbours added
pub record PairsAdded (sums numbers weights next : List ℤ) : Type 0 where
  pub fit : FourFit next
  pub value : (k : ℕ) → k < 4 → slice_index_or next k (pos 0) ≡ slice_index_or sums k (pos 0) +ℤ pair_product numbers (2 * k) weights (2 * k)

-- weights are split at 2^13 or at 2^14
abbrev pub IsSplit : ℕ → Type 0
IsSplit split = (split ≡ 13) ⊎ (split ≡ 14)

-- a sum of a high part, which counts a step, and a low one
abbrev pub joined_halves : ℕ → ℤ → ℤ → ℤ
joined_halves step high low = (high *ℤ pos step) +ℤ low

-- the sum of the high part and the low one that stand at place k
abbrev pub joined_at : ℕ → List ℤ → List ℤ → ℕ → ℤ
joined_at step highs lows k = joined_halves step (slice_index_or highs k (pos 0)) (slice_index_or lows k (pos 0))

-- how often a number has a step in it, rounded down
pub record IsFloor (step : ℕ) (number floor : ℤ) : Type 0 where
  pub rest : ℕ
  pub is : number ≡ joined_halves step floor (pos rest)
  pub below : rest < step

-- none is greater in magnitude, and neither are all together
pub record AreWithin (maximum whole : ℕ) (weights : List ℤ) : Type 0 where
  pub each : (k : ℕ) → k < length weights → unsigned_abs (slice_index_or weights k (pos 0)) ≤ maximum
  pub all : sum_by unsigned_abs weights ≤ whole

-- weights that are paired in two parts: at least twelve, of at most some 2^29, that add up to at most some 2^30
abbrev pub ArePairedInParts : List ℤ → Type 0
ArePairedInParts weights = (12 ≤ length weights) × AreWithin 536854528 1073676288 weights

-- weights that are prepared for samples of 16 bits: at most 256, of 16 bits or in two parts
abbrev pub ArePaired : List ℤ → Type 0
ArePaired weights = (length weights ≤ 256) × (AreWithin 32767 65535 weights ⊎ ArePairedInParts weights)

-- each pair of neighbouring weights four times; 0 stands beside the last of an odd number of weights
pub record IsTable (weights table : List ℤ) : Type 0 where
  pub long : length table ≡ 8 * ((length weights + 1) / 2)
  pub each : (k : ℕ) → k < length table → slice_index_or table k (pos 0) ≡ slice_index_or weights (2 * (k / 8) + k % 2) (pos 0)

-- weights of 16 bits, with which sums of products of numbers of 16 bits fit 32 bits, and their table
pub record ArePairs (weights table : List ℤ) : Type 0 where
  pub small : sum_by unsigned_abs weights ≤ 65535
  pub is_table : IsTable weights table

-- parts of 16 bits of weights
pub record AreParts (step : ℕ) (weights highs lows : List ℤ) : Type 0 where
  pub high_count : length highs ≡ length weights
  pub low_count : length lows ≡ length weights
  pub high : (k : ℕ) → unsigned_abs (slice_index_or highs k (pos 0)) ≤ 32767
  pub low : (k : ℕ) → unsigned_abs (slice_index_or lows k (pos 0)) ≤ 8192
  pub join : (k : ℕ) → slice_index_or weights k (pos 0) ≡ joined_halves step (slice_index_or highs k (pos 0)) (slice_index_or lows k (pos 0))

-- so many low parts, wherever they stand, add up so little that sums of products with them fit 32 bits
abbrev pub AreCarried : ℕ → List ℤ → Type 0
AreCarried taps lows = (place : ℕ) → sum_by unsigned_abs (take taps (drop place lows)) ≤ 65000

-- weights, and the tables of their parts; the low sums are carried after so many pairs
pub record ArePairsOfParts (split : ℕ) (weights high low : List ℤ) (interval : ℕ) : Type 0 where
  pub is_split : IsSplit split
  pub small : sum_by unsigned_abs weights ≤ 65536 * (2 ^ split - 1)
  pub highs : List ℤ
  pub lows : List ℤ
  pub parts : AreParts (2 ^ split) weights highs lows
  pub high_table : IsTable highs high
  pub low_table : IsTable lows low
  pub some : 1 ≤ interval
  pub carried : AreCarried (2 * interval) lows
