-- One more rounded sample.
use Rattle.std.proofs.Common.{◌≡◌, ℕ, ◌+◌, ◌<◌, ◌≤◌, Bool, true, false, cond, List, [], ◌∷◌, ◌++◌, map, length, get_or, take, set, zero-add, refl, sym, ◌∙◌, ap, arith, ℤ}
use Rattle.std.specs.Int.{from_bool as bool_byte}
use Rattle.std.proofs.lemmas.List.{take_more, take_more_set, map-append}
use Rattle.std.proofs.lemmas.List.Sums.{sum_by-append}
use Rattle.fx_frame_base.specs.Lists.{tabulate}
use Rattle.fx_frame_base.proofs.Tabulate.{tabulate-append}
use Rattle.fx_frame_base.specs.Rounded.{samples_of, clips_rounded}

-- the roundings of one more sample
rounds-more : {X : Type 0} (f : X → ℤ × Bool) (xs : List X) (d : X) (i : ℕ) → i < length xs → map f (take (i + 1) xs) ≡ map f (take i xs) ++ f (get_or xs i d) ∷ []
rounds-more f xs d i h = ap (map f) (take_more xs i d h) ∙ map-append f (take i xs) (get_or xs i d ∷ [])

-- one more sample in its place
pub samples_of-more : {X : Type 0} (f : X → ℤ × Bool) (xs : List X) (d : X) (out : List ℤ) (i : ℕ) (y : ℤ) → i < length xs → i < length out → take i out ≡ samples_of (map f (take i xs)) → y ≡ (f (get_or xs i d)).0
    → take (i + 1) (set out i y) ≡ samples_of (map f (take (i + 1) xs))
samples_of-more f xs d out i y h k e v =
    take_more_set out i y k ∙ ap (λ l. l ++ y ∷ []) e ∙ ap (λ z. samples_of (map f (take i xs)) ++ z ∷ []) v
    ∙ sym (ap samples_of (rounds-more f xs d i h) ∙ map-append (λ r. r.0) (map f (take i xs)) (f (get_or xs i d) ∷ []))

-- a flag as a number
pub byte_is : (b : Bool) → bool_byte b ≡ cond b 1 0
byte_is true = refl
byte_is false = refl

-- one more flag counted
pub clips_of-more : {X : Type 0} (f : X → ℤ × Bool) (xs : List X) (d : X) (i clips : ℕ) (b : Bool) → i < length xs → clips ≡ clips_rounded (map f (take i xs)) → b ≡ (f (get_or xs i d)).1
    → clips + cond b 1 0 ≡ clips_rounded (map f (take (i + 1) xs))
clips_of-more f xs d i clips b h e v =
    omega (
      arith,
      e,
      ap {B = ℕ} (λ c. cond c 1 0) v,
      ap clips_rounded (rounds-more f xs d i h) ∙ sum_by-append (λ r. cond (r.1) 1 0) (map f (take i xs)) (f (get_or xs i d) ∷ []),
    )

-- a flag counts for one at most
pub byte-le : (b : Bool) → bool_byte b ≤ 1
byte-le true = omega arith
byte-le false = omega arith

-- the roundings of one more channel
rounds-next : (f : ℕ → ℤ × Bool) (i : ℕ) → tabulate f 0 (i + 1) ≡ tabulate f 0 i ++ f i ∷ []
rounds-next f i = rw zero-add at (tabulate-append f 0 i 1)

-- one more channel in its place
pub samples_of-next : (f : ℕ → ℤ × Bool) (out : List ℤ) (i : ℕ) (y : ℤ) → i < length out → take i out ≡ samples_of (tabulate f 0 i) → y ≡ (f i).0
    → take (i + 1) (set out i y) ≡ samples_of (tabulate f 0 (i + 1))
samples_of-next f out i y k e v =
    take_more_set out i y k ∙ ap (λ l. l ++ y ∷ []) e ∙ ap (λ z. samples_of (tabulate f 0 i) ++ z ∷ []) v
    ∙ sym (ap samples_of (rounds-next f i) ∙ map-append (λ r. r.0) (tabulate f 0 i) (f i ∷ []))

-- one more channel's flag counted
pub clips_of-next : (f : ℕ → ℤ × Bool) (i clips : ℕ) (b : Bool) → clips ≡ clips_rounded (tabulate f 0 i) → b ≡ (f i).1
    → clips + cond b 1 0 ≡ clips_rounded (tabulate f 0 (i + 1))
clips_of-next f i clips b e v =
    omega (
      arith,
      e,
      ap {B = ℕ} (λ c. cond c 1 0) v,
      ap clips_rounded (rounds-next f i) ∙ sum_by-append (λ r. cond (r.1) 1 0) (tabulate f 0 i) (f i ∷ []),
    )
