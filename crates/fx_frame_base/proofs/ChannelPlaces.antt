-- One channel of frames that lie one after another.
use Rattle.std.proofs.Common.{◌≡◌, ℕ, suc, ◌+◌, ◌-◌, ◌*◌, ◌<◌, ◌≤◌, inl, inr, Bool, true, false, List, ◌++◌, length, get_or, set, refl, sym, ap, ◌∙◌, arith, nat_eq, nat_lt}
use Rattle.fx_frame_base.specs.Lists.{IsOtherPlace}
use Rattle.std.proofs.lemmas.Bool.{cases_lt}
use Rattle.std.proofs.lemmas.Bool.Decides.{nat_tests}
use Rattle.std.proofs.lemmas.Grind.{get_or-set_at}
use Rattle.std.proofs.lemmas.List.{get_or-set_other, get_or_append_left, get_or-append_right}
use Rattle.std.proofs.Math.Nat.{add-mul, suc-mul, mul-le-mul_right}

-- a later frame lies after all of an earlier one
pub later-rest_unchanged : (channels i j c d : ℕ) → i < j → c < channels → i * channels + c < j * channels + d
later-rest_unchanged channels i j c d less inside =
    let all : suc i * channels ≤ j * channels = mul-le-mul_right channels (omega arith) in
    omega (arith, all, suc-mul i channels, inside)

-- the same place in two frames is that of the same frame and channel
apart-by : (channels i j c d : ℕ) (a b : Bool) → nat_lt i j ≡ a → nat_lt j i ≡ b → c < channels → d < channels → i * channels + c ≡ j * channels + d → i ≡ j
apart-by channels i j c d true b s t in_c in_d e = let less = later-rest_unchanged channels i j c d (grind (arith, nat_tests)) in_c in absurd (omega (arith, less, e))
apart-by channels i j c d false true s t in_c in_d e = let less = later-rest_unchanged channels j i d c (grind (arith, nat_tests)) in_d in absurd (omega (arith, less, e))
apart-by channels i j c d false false s t in_c in_d e = grind (arith, nat_tests)

pub same-frame : (channels i j c d : ℕ) → c < channels → d < channels → i * channels + c ≡ j * channels + d → i ≡ j
same-frame channels i j c d in_c in_d e = apart-by channels i j c d (nat_lt i j) (nat_lt j i) refl refl in_c in_d e

pub same-channel : (channels i j c d : ℕ) → c < channels → d < channels → i * channels + c ≡ j * channels + d → c ≡ d
same-channel channels i j c d in_c in_d e =
    let same = same-frame channels i j c d in_c in_d e in
    let there : i * channels ≡ j * channels = ap (λ n. n * channels) same in
    omega (arith, there, e)

-- a place of another channel is none of this one's
pub other-channel : (channels channel count i c : ℕ) → channel < channels → c < channels → (c ≡ channel → ⊥) → IsOtherPlace channels channel count (i * channels + c)
other-channel channels channel count i c inside in_c other j less e = other (same-channel channels i j c channel in_c inside e)

-- places of the frames before a number of them
pub within-frames : (channels channel place count : ℕ) → channel < channels → place < count → place * channels + channel < count * channels
within-frames channels channel place count inside less =
    let far = later-rest_unchanged channels place count channel 0 less inside in
    omega (arith, far)

module _ {X : Type 0} where
  -- a sample put into its place: that of one more frame
  put-by : (d : X) (F : ℕ → X) (out : List X) (channels channel place at i : ℕ) (y : X) (b : Bool) → nat_eq i place ≡ b → channel < channels → at ≡ place * channels + channel → at < length out → y ≡ F place
      → ((i : ℕ) → i < place → get_or out (i * channels + channel) d ≡ F i) → i < place + 1 → get_or (set out at y) (i * channels + channel) d ≡ F i
  put-by d F out channels channel place at i y true t inside is free sample done l =
      let same : i ≡ place = grind (arith, nat_tests) in
      let there : i * channels + channel ≡ at = ap (λ n. n * channels + channel) same ∙ sym is in
      get_or-set_at out at (i * channels + channel) y d there free ∙ sample ∙ ap F (sym same)
  put-by d F out channels channel place at i y false t inside is free sample done l =
      let other : (i ≡ place → ⊥) = grind (arith, nat_tests) in
      let apart : (i * channels + channel ≡ at → ⊥) = λ e. other (same-frame channels i place channel channel inside inside (e ∙ is)) in
      get_or-set_other out at (i * channels + channel) y d apart ∙ done i (omega (arith, other, l))

  pub put-more : (d : X) (F : ℕ → X) (out : List X) (channels channel place at : ℕ) (y : X) → channel < channels → at ≡ place * channels + channel → at < length out → y ≡ F place
      → ((i : ℕ) → i < place → get_or out (i * channels + channel) d ≡ F i) → (i : ℕ) → i < place + 1 → get_or (set out at y) (i * channels + channel) d ≡ F i
  put-more d F out channels channel place at y inside is free sample done i l = put-by d F out channels channel place at i y (nat_eq i place) refl inside is free sample done l

  -- all other places stay
  pub others-stay : (d : X) (out : List X) (channels channel count place at k : ℕ) (y : X) → at ≡ place * channels + channel → place < count → IsOtherPlace channels channel count k → get_or (set out at y) k d ≡ get_or out k d
  others-stay d out channels channel count place at k y is less other = get_or-set_other out at k y d (λ e. other place less (e ∙ is))

  -- a place among the first so many frames, or after them
  in-front : (d : X) (near far : List X) (channels n i c : ℕ) → length near ≡ n * channels → c < channels → i < n → get_or (near ++ far) (i * channels + c) d ≡ get_or near (i * channels + c) d
  in-front d near far channels n i c long inside less = get_or_append_left near far d (i * channels + c) (omega (arith, long, within-frames channels c i n inside less))

  rest_unchanged : (d : X) (near far : List X) (channels n i c : ℕ) → length near ≡ n * channels → n ≤ i → get_or (near ++ far) (i * channels + c) d ≡ get_or far ((i - n) * channels + c) d
  rest_unchanged d near far channels n i c long beyond =
      let whole : i ≡ n + (i - n) = omega arith in
      let parts : i * channels ≡ n * channels + (i - n) * channels = ap (λ m. m * channels) whole ∙ add-mul n (i - n) channels in
      let place : i * channels + c - n * channels ≡ (i - n) * channels + c = omega arith in
      get_or-append_right near far (n * channels) (i * channels + c) d long (omega arith) ∙ ap (λ m. get_or far m d) place

  -- what stands in the channel of so many frames, and of those after them
  pub put-joined : (d : X) (F : ℕ → X) (near far : List X) (channels channel n count : ℕ) → channel < channels → length near ≡ n * channels
      → ((i : ℕ) → i < n → get_or near (i * channels + channel) d ≡ F i) → ((i : ℕ) → i < count - n → get_or far (i * channels + channel) d ≡ F (n + i))
      → (i : ℕ) → i < count → get_or (near ++ far) (i * channels + channel) d ≡ F i
  put-joined d F near far channels channel n count inside long first rest i h = elim (cases_lt i n) [
    | inl less ↦ in-front d near far channels n i channel long inside less ∙ first i less
    | inr beyond ↦
        let whole : n + (i - n) ≡ i = omega arith in
        rest_unchanged d near far channels n i channel long beyond ∙ rest (i - n) (omega arith) ∙ ap F whole
  ]

  -- all other places of both stay
  pub others-joined : (d : X) (near far near' far' : List X) (channels channel n count : ℕ) → n ≤ count → length near ≡ n * channels → length near' ≡ n * channels
      → ((k : ℕ) → IsOtherPlace channels channel n k → get_or near' k d ≡ get_or near k d) → ((k : ℕ) → IsOtherPlace channels channel (count - n) k → get_or far' k d ≡ get_or far k d)
      → (k : ℕ) → IsOtherPlace channels channel count k → get_or (near' ++ far') k d ≡ get_or (near ++ far) k d
  others-joined d near far near' far' channels channel n count within long long' first rest k other = elim (cases_lt k (n * channels)) [
    | inl less ↦ get_or_append_left near' far' d k (omega (arith, less, long')) ∙ first k (λ i l. other i (omega (arith, l, within))) ∙ sym (get_or_append_left near far d k (omega (arith, less, long)))
    | inr beyond ↦
        get_or-append_right near' far' (n * channels) k d long' beyond
        ∙ rest (k - n * channels) (λ i l e. other (n + i) (omega (arith, l)) (omega (arith, e, beyond, add-mul n i channels)))
        ∙ sym (get_or-append_right near far (n * channels) k d long beyond)
  ]
