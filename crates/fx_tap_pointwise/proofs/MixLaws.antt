-- The contributions of an output channel, added one after the other.
use Rattle.std.proofs.Common.{ℕ, ℤ, zero, suc, pos, negsuc, ◌+◌, ◌-◌, ◌/◌, ◌<◌, ◌≤◌, ◌≡◌, ◌+ℤ◌, ◌*ℤ◌, Bool, true, false, cond, List, [], ◌∷◌, ◌*◌, length, drop, get_or, map, min, refl, sym, ap, ◌∙◌, arith, add-one, add-zero, zero-add, drop-cons, FitsSigned, ◌^◌, not, slice_index_or, unsigned_abs}
use Rattle.std.specs.Int.{w32}
use Rattle.std.proofs.lemmas.Bool.{lt-ltb}
use mathlib.Core.Path.{ap₂}
use Rattle.std.proofs.lemmas.Int.{ints}
use Rattle.std.proofs.lemmas.List.{get_or-map, length-map}
use Rattle.std.proofs.lemmas.List.Sums.{sum_by-cons}
use Rattle.fx_frame_base.specs.Frame.{Samples}
use Rattle.fx_tap_pointwise.specs.declared.remix.Contribution.{Contribution}
use Rattle.std.specs.List.{All}
use Rattle.std.proofs.lemmas.List.Elements.{All-head, All-tail}
use Rattle.fx_fixed.specs.Rounding.{clipping, rounding, signed}
use Rattle.fx_fixed.proofs.Reductions.{rounding-reduced}
use Rattle.fx_fixed.specs.declared.gains.TheConstants.{UNIT}
use Rattle.fx_tap_pointwise.specs.declared.out_spec.Weight.{Weight}
use Rattle.fx_tap_sums.specs.Weights.{Weights}
use Rattle.fx_frame_base.specs.Lists.{tabulate}
use Rattle.fx_tap_pointwise.specs.Mix.{Copies, IsContribution, Means, Scales, all_parts, pair_of}
use Rattle.fx_tap_sums.specs.Products.{sum_of_products}
use Rattle.fx_frame_base.specs.Rounded.{clips_rounded}
use Rattle.fx_tap_sums.specs.SmallWeights.{SumsAs}
use Rattle.fx_tap_sums.proofs.Convolving.{Adding, Adding-next}
use Rattle.fx_tap_sums.proofs.KernelLaws.{rounded-as}
use Rattle.fx_tap_pointwise.specs.Remix.{mixed_parts, remix_parts, remixed_sample}
use Rattle.fx_tap_pointwise.specs.Vol.{scaled_sample}
use Rattle.fx_tap_sums.proofs.SumLaws.{add-next}

-- one more contribution
mixed-drop : (n : ℕ) (cs : List Contribution) (i : ℕ) (c d : Contribution) (frame : Samples) → i < length cs → c ≡ get_or cs i d → c.parts ≡ remix_parts n c.weight
    → mixed_parts n (map pair_of (drop i cs)) frame ≡ (c.parts *ℤ slice_index_or frame c.channel (pos 0)) +ℤ mixed_parts n (map pair_of (drop (i + 1) cs)) frame
mixed-drop n cs i c d frame h is parts = rw (add-one, drop-cons cs i d, ← is, parts) refl

pub mixed-next : (n : ℕ) (cs : List Contribution) (i : ℕ) (c d : Contribution) (frame : Samples) (y s w : ℤ) → i < length cs → c ≡ get_or cs i d → c.parts ≡ remix_parts n c.weight
    → y ≡ s +ℤ (c.parts *ℤ slice_index_or frame c.channel (pos 0)) → s +ℤ mixed_parts n (map pair_of (drop i cs)) frame ≡ w → y +ℤ mixed_parts n (map pair_of (drop (i + 1) cs)) frame ≡ w
mixed-next n cs i c d frame y s w h is parts more whole =
    add-next y s (c.parts *ℤ slice_index_or frame c.channel (pos 0)) (mixed_parts n (map pair_of (drop (i + 1) cs)) frame) w more (ap (λ r. s +ℤ r) (sym (mixed-drop n cs i c d frame h is parts)) ∙ whole)

-- what holds of each contribution
pub made-at : (n : ℕ) (cs : List Contribution) (i : ℕ) (c : Contribution) → All (IsContribution n) cs → i < length cs → c ≡ get_or cs i c → c.parts ≡ remix_parts n c.weight
made-at n cs i c all h is =
    let made : IsContribution n c = rw (← is) at (all i c h) in
    made.parts

-- ---- in lowest terms

turned : (x y rest more : ℤ) → rest ≡ more → (x *ℤ y) +ℤ rest ≡ (y *ℤ x) +ℤ more
turned x y rest more same = omega (arith, ints, same)

-- the channels that contribute, in that order
abbrev pub gathered : List (ℕ × Weight) → Samples → List ℤ
gathered pairs frame = map (λ (p : ℕ × Weight). slice_index_or frame p.0 (pos 0)) pairs

pub mixed-products : (n : ℕ) (cs : List Contribution) (frame : Samples) → All (IsContribution n) cs → mixed_parts n (map pair_of cs) frame ≡ sum_of_products (gathered (map pair_of cs) frame) (all_parts cs)
mixed-products n [] frame all = refl
mixed-products n (c ∷ cs) frame all =
    let made : IsContribution n c = All-head (IsContribution n) c cs all in
    let rest = mixed-products n cs frame (All-tail (IsContribution n) c cs all) in
    rw (← made.parts) (turned c.parts (slice_index_or frame c.channel (pos 0)) _ _ rest)

-- the sum of the weights rounds to the sample
pub small-mix : (cs : List Contribution) (frame : Samples) (w : Weights) (sum : ℤ) → 0 < length cs → All (IsContribution (length cs)) cs → SumsAs (all_parts cs) (length cs * UNIT) w → sum ≡ sum_of_products (gathered (map pair_of cs) frame) w.weights
    → rounding sum w.denominator ≡ remixed_sample (map pair_of cs) frame
small-mix [] frame w sum some all sums is = absurd (omega (arith, some))
small-mix (c ∷ cs) frame w sum some all sums is =
    let n : length (map pair_of (c ∷ cs)) ≡ length (c ∷ cs) = length-map (c ∷ cs) pair_of in
    rounded-as (all_parts (c ∷ cs)) (gathered (map pair_of (c ∷ cs)) frame) (length (c ∷ cs) * UNIT) w sum sums is
    ∙ ap (λ z. rounding z (length (c ∷ cs) * UNIT)) (sym (mixed-products (length (c ∷ cs)) (c ∷ cs) frame all))
    ∙ ap (λ k. rounding (mixed_parts k (map pair_of (c ∷ cs)) frame) (k * UNIT)) (sym n)

pub gathered-at : (cs : List Contribution) (frame : Samples) (i : ℕ) (c : Contribution) → i < length cs → c ≡ get_or cs i c → get_or (gathered (map pair_of cs) frame) i (pos 0) ≡ slice_index_or frame c.channel (pos 0)
gathered-at cs frame i c h is =
    let n : length (map pair_of cs) ≡ length cs = length-map cs pair_of in
    get_or-map (λ (p : ℕ × Weight). slice_index_or frame p.0 (pos 0)) (map pair_of cs) i (pair_of c) (pos 0) (omega (arith, n, h))
    ∙ ap (λ (p : ℕ × Weight). slice_index_or frame p.0 (pos 0)) (get_or-map pair_of cs i c (pair_of c) h ∙ ap pair_of (sym is))

-- one weight more is added
pub mixing-next : (cs : List Contribution) (frame : Samples) (ws : List ℤ) (i : ℕ) (c : Contribution) (s : ℤ) → i < length cs → i < length ws → c ≡ get_or cs i c → unsigned_abs (slice_index_or frame c.channel (pos 0)) ≤ 2 ^ 31
    → Adding (gathered (map pair_of cs) frame) ws i s → Adding (gathered (map pair_of cs) frame) ws (i + 1) (s +ℤ (slice_index_or frame c.channel (pos 0) *ℤ get_or ws i (pos 0)))
mixing-next cs frame ws i c s h k is sample old =
    let here = gathered-at cs frame i c h is in
    let size : length (gathered (map pair_of cs) frame) ≡ length cs = length-map (map pair_of cs) (λ (p : ℕ × Weight). slice_index_or frame p.0 (pos 0)) ∙ length-map cs pair_of in
    Adding-next (gathered (map pair_of cs) frame) ws i s _ k (omega (arith, size, h)) (rw here sample) (ap (λ x. s +ℤ (x *ℤ get_or ws i (pos 0))) (sym here)) old

-- ---- one channel as it is

-- a sample over one is that sample
plain : (x : ℤ) → FitsSigned w32 x → rounding x 1 ≡ (x, false)
plain (pos n) f =
    let g : n < 2 ^ 31 = omega (arith, ints) in
    let e : (2 * n + 1) / 2 ≡ n = omega arith in
    let m : min n (2 ^ 31 - 1) ≡ n = omega arith in
    ap (λ k. clipping (pos k)) e ∙ ap₂ (λ a b. (a, b)) (ap pos m) (ap not (lt-ltb n (2 ^ 31) g))
plain (negsuc n) f =
    let g : n < 2 ^ 31 = omega (arith, ints) in
    let e : (2 * suc n + 1) / 2 ≡ suc n = omega arith in
    let m : min n (2 ^ 31 - 1) ≡ n = omega arith in
    ap (λ k. clipping (signed true k)) e ∙ ap₂ (λ a b. (a, b)) (ap negsuc m) (ap not (lt-ltb n (2 ^ 31) g))

copied-of : (channel : ℕ) (weight : Weight) (frame : Samples) → remix_parts 1 weight ≡ pos UNIT → FitsSigned w32 (slice_index_or frame channel (pos 0)) → remixed_sample ((channel, weight) ∷ []) frame ≡ (slice_index_or frame channel (pos 0), false)
copied-of channel weight frame whole fits =
    let x : ℤ = slice_index_or frame channel (pos 0) in
    let alone : (pos UNIT *ℤ x) +ℤ pos 0 ≡ pos UNIT *ℤ x = omega (arith, ints) in
    ap (λ w. rounding ((w *ℤ x) +ℤ pos 0) UNIT) whole ∙ ap (λ z. rounding z UNIT) alone ∙ rounding-reduced UNIT 1 x (omega arith) (omega arith) ∙ plain x fits

-- the sample of an output channel that is a channel of the input
pub copied-sample : (cs : List Contribution) (channel : ℕ) (frame : Samples) → Copies cs channel → FitsSigned w32 (slice_index_or frame channel (pos 0)) → remixed_sample (map pair_of cs) frame ≡ (slice_index_or frame channel (pos 0), false)
copied-sample cs channel frame copies fits = ap (λ l. remixed_sample l frame) copies.alone ∙ copied-of channel copies.weight frame copies.whole fits

-- ---- one channel times a gain

-- the sample of an output channel that is a channel of the input times a gain
pub scaled-mix : (cs : List Contribution) (channel : ℕ) (gain : ℤ) (frame : Samples) → Scales cs channel gain → remixed_sample (map pair_of cs) frame ≡ scaled_sample gain (slice_index_or frame channel (pos 0))
scaled-mix cs channel gain frame scales =
    let x : ℤ = slice_index_or frame channel (pos 0) in
    let one : pos 1 *ℤ gain ≡ gain = omega (arith, ints) in
    let none : (gain *ℤ x) +ℤ pos 0 ≡ gain *ℤ x = omega (arith, ints) in
    let whole : 1 * UNIT ≡ UNIT = omega arith in
    ap (λ l. remixed_sample l frame) scales ∙ ap₂ (λ g u. rounding ((g *ℤ x) +ℤ pos 0) u) one whole ∙ ap (λ z. rounding z UNIT) none

-- ---- the mean of two channels

-- the sample of an output channel that is the mean of two channels of the input
mean-of : (first second : ℕ) (u v : Weight) (frame : Samples) → remix_parts 2 u ≡ pos UNIT → remix_parts 2 v ≡ pos UNIT
    → remixed_sample ((first, u) ∷ (second, v) ∷ []) frame ≡ rounding (slice_index_or frame first (pos 0) +ℤ slice_index_or frame second (pos 0)) 2
mean-of first second u v frame left right =
    let x : ℤ = slice_index_or frame first (pos 0) in
    let y : ℤ = slice_index_or frame second (pos 0) in
    let both : (pos UNIT *ℤ x) +ℤ ((pos UNIT *ℤ y) +ℤ pos 0) ≡ pos UNIT *ℤ (x +ℤ y) = omega (arith, ints) in
    let over : 2 * UNIT ≡ UNIT * 2 = omega arith in
    ap₂ (λ p q. rounding ((p *ℤ x) +ℤ ((q *ℤ y) +ℤ pos 0)) (2 * UNIT)) left right ∙ ap₂ rounding both over ∙ rounding-reduced UNIT 2 (x +ℤ y) (omega arith) (omega arith)

pub mean-sample : (cs : List Contribution) (first second : ℕ) (frame : Samples) → Means cs first second
    → remixed_sample (map pair_of cs) frame ≡ rounding (slice_index_or frame first (pos 0) +ℤ slice_index_or frame second (pos 0)) 2
mean-sample cs first second frame means = ap (λ l. remixed_sample l frame) means.both ∙ mean-of first second means.first_weight means.second_weight frame means.first_half means.second_half

-- none of them are clipped
pub none-clipped : (f : ℕ → ℤ × Bool) (from count : ℕ) → ((i : ℕ) → i < count → (f (from + i)).1 ≡ false) → clips_rounded (tabulate f from count) ≡ 0
none-clipped f from zero h = refl
none-clipped f from (suc count) h =
    let here : (f from).1 ≡ false = simp add-zero at (h 0 (omega arith)) in
    let more : (i : ℕ) → i < count → (f (suc from + i)).1 ≡ false = λ i l.
    let a : suc from + i ≡ from + suc i = omega arith in
    rw a (h (suc i) (omega arith)) in
    sum_by-cons (λ (r : ℤ × Bool). cond r.1 1 0) (f from) (tabulate f (suc from) count) ∙ ap (λ b. cond b 1 0 + clips_rounded (tabulate f (suc from) count)) here
    ∙ zero-add (clips_rounded (tabulate f (suc from) count)) ∙ none-clipped f (suc from) count more
