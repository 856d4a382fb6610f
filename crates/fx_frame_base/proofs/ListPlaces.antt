-- Samples that are read and written at their places.
use Rattle.std.proofs.Common.{ℕ, ◌++◌, pos, zero, suc, ◌≡◌, get_or, refl, replicate, take, ◌<◌, List, [], ◌∷◌, length, arith, ℤ, ◌+◌, ◌*◌, Bool, true, false, ◌∙◌, nat_eq}
use Rattle.std.proofs.lemmas.Bool.Decides.{nat_tests}

pub zeros-sample : (channels k : ℕ) → get_or (replicate channels (pos 0)) k (pos 0) ≡ pos 0
zeros-sample zero k = refl
zeros-sample (suc channels) zero = refl
zeros-sample (suc channels) (suc k) = zeros-sample channels k

-- places that are silent beyond the samples are as good as none
pub zeros-rest : (xs : List ℤ) (n i : ℕ) → get_or (xs ++ replicate n (pos 0)) i (pos 0) ≡ get_or xs i (pos 0)
zeros-rest [] n i = zeros-sample n i
zeros-rest (x ∷ xs) n zero = refl
zeros-rest (x ∷ xs) n (suc i) = zeros-rest xs n i

-- a part of silence
pub zeros-part : (m n k : ℕ) → get_or (take m (replicate n (pos 0))) k (pos 0) ≡ pos 0
zeros-part zero n k = refl
zeros-part (suc m) zero k = refl
zeros-part (suc m) (suc n) zero = refl
zeros-part (suc m) (suc n) (suc k) = zeros-part m n k

-- whatever stands for no line
pub any-default : {X : Type 0} (ls : List X) (p : ℕ) (d e : X) → p < length ls → get_or ls p d ≡ get_or ls p e
any-default [] p d e h = absurd (omega arith)
any-default (l ∷ ls) zero d e h = refl
any-default (l ∷ ls) (suc p) d e h = any-default ls p d e (omega arith)

channel-by : (F : ℕ → ℕ → ℤ) (old new : List ℤ) (channels channel count i c : ℕ) (t : Bool) → nat_eq c channel ≡ t → channel < channels
    → ((i : ℕ) → i < count → get_or new (i * channels + channel) (pos 0) ≡ F i channel) → ((i c : ℕ) → c < channels → (c ≡ channel → ⊥) → get_or new (i * channels + c) (pos 0) ≡ get_or old (i * channels + c) (pos 0))
    → ((i c : ℕ) → i < count → c < channel → get_or old (i * channels + c) (pos 0) ≡ F i c) → i < count → c < channel + 1 → get_or new (i * channels + c) (pos 0) ≡ F i c
channel-by F old new channels channel count i c true t inside put others done l k =
    let same : c ≡ channel = grind (arith, nat_tests) in
    rw same (put i l)
channel-by F old new channels channel count i c false t inside put others done l k =
    let other : (c ≡ channel → ⊥) = grind (arith, nat_tests) in
    others i c (omega (arith, k, inside)) other ∙ done i c l (omega (arith, k, other))

-- one more channel
pub channel-put : (F : ℕ → ℕ → ℤ) (old new : List ℤ) (channels channel count : ℕ) → channel < channels
    → ((i : ℕ) → i < count → get_or new (i * channels + channel) (pos 0) ≡ F i channel) → ((i c : ℕ) → c < channels → (c ≡ channel → ⊥) → get_or new (i * channels + c) (pos 0) ≡ get_or old (i * channels + c) (pos 0))
    → ((i c : ℕ) → i < count → c < channel → get_or old (i * channels + c) (pos 0) ≡ F i c) → (i c : ℕ) → i < count → c < channel + 1 → get_or new (i * channels + c) (pos 0) ≡ F i c
channel-put F old new channels channel count inside put others done i c l k = channel-by F old new channels channel count i c (nat_eq c channel) refl inside put others done l k
