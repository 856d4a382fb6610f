-- Frames of which each channel is a sum of channels, many of them made at once.
use Rattle.std.proofs.Common.{◌≡◌, ◌+◌, ◌*◌, ◌<◌, ◌≤◌, ◌^◌, ◌+ℤ◌, ◌*ℤ◌, unsigned_abs, ℕ, ℤ, suc, pos, List, [], ◌∷◌, length, get_or, map, refl, sym, ap, ◌∙◌, arith, add-zero, zero-add}
use Rattle.std.proofs.lemmas.Int.{ints}
use Rattle.std.proofs.lemmas.List.{get_or_past}
use Rattle.fx_frame_base.specs.Frame.{Samples}
use Rattle.fx_frame_base.specs.Lists.{pieces, tabulate}
use Rattle.fx_frame_base.proofs.Pieces.{get_or-piece, length-pieces}
use Rattle.fx_tap_pointwise.specs.declared.remix.Contribution.{Contribution}
use Rattle.fx_frame.specs.Made.{clips_in, made_of}
use Rattle.fx_tap_pointwise.specs.Mix.{pair_of}
use Rattle.fx_tap_pointwise.specs.Remix.{Contributions, remixed_frame, remixed_sample}
use Rattle.fx_frame_base.specs.Rounded.{clips_rounded, samples_of}
use Rattle.fx_frame.proofs.SamplePieces.{pieces-sides}
use Rattle.fx_tap_sums.proofs.Convolving.{Adding}
use Rattle.fx_frame.proofs.Tables.{all_clips, pieces-table, samples_of-tabulate, map-table}
use Rattle.fx_tap_pointwise.proofs.MixLaws.{gathered, mixing-next}
use Rattle.fx_frame_base.proofs.Tabulate.{tabulate-same}

-- the samples of a frame, channel by channel
outs-table : (outs : List Contributions) (x : Samples) → map (λ o. remixed_sample o x) outs ≡ tabulate (λ k. remixed_sample (get_or outs k []) x) 0 (length outs)
outs-table outs x = map-table (λ o. remixed_sample o x) (λ k. remixed_sample (get_or outs k []) x) [] outs 0 (λ k l. let e : 0 + k ≡ k = zero-add k in rw e refl)

-- the frames, as their channels were put
pub mixed-frames : (outs : List Contributions) (xs : List Samples) (n : ℕ) (out : List ℤ) → length xs ≡ n → n * length outs ≤ length out
    → ((i k : ℕ) → i < n → k < length outs → get_or out (i * length outs + k) (pos 0) ≡ (remixed_sample (get_or outs k []) (get_or xs i [])).0) → pieces (length outs) n out ≡ made_of (remixed_frame outs) xs
mixed-frames outs xs n out many free put =
    let row : ℕ → List ℤ = λ i. tabulate (λ k. get_or out (i * length outs + k) (pos 0)) 0 (length outs) in
    pieces-table (length outs) n out free ∙ ap (tabulate row 0) (sym many)
    ∙ sym (map-table (λ x. (remixed_frame outs x).samples) row [] xs 0 (λ i l.
    let e : 0 + i ≡ i = zero-add i in
    rw e
    (ap samples_of (outs-table outs (get_or xs i [])) ∙ samples_of-tabulate (λ k. remixed_sample (get_or outs k []) (get_or xs i [])) 0 (length outs)
    ∙ tabulate-same (λ k. (remixed_sample (get_or outs k []) (get_or xs i [])).0) (λ k. get_or out (i * length outs + k) (pos 0)) 0 0 (length outs) (λ k inside.
    let d : 0 + k ≡ k = zero-add k in
    rw d (sym (put i k (omega (arith, l, many)) inside))))))

-- and their clips
pub mixed-clips : (outs : List Contributions) (xs : List Samples) (frame : ℕ → Samples) (from : ℕ) → ((i : ℕ) → i < length xs → frame (from + i) ≡ get_or xs i [])
    → all_clips (λ i k. remixed_sample (get_or outs k []) (frame i)) (length outs) from (length xs) ≡ clips_in (remixed_frame outs) xs
mixed-clips outs [] frame from are = refl
mixed-clips outs (x ∷ xs) frame from are =
    let here : frame from ≡ x = simp add-zero at (are 0 (omega arith)) in
    let rest = mixed-clips outs xs frame (suc from) (λ i l.
    let e : suc from + i ≡ from + suc i = omega arith in
    rw e (are (suc i) (omega arith))) in
    let first : clips_rounded (tabulate (λ k. remixed_sample (get_or outs k []) (frame from)) 0 (length outs)) ≡ (remixed_frame outs x).clips = rw here (ap clips_rounded (sym (outs-table outs x))) in
    ap (λ m. clips_rounded (tabulate (λ k. remixed_sample (get_or outs k []) (frame from)) 0 (length outs)) + m) rest ∙ ap (λ m. m + clips_in (remixed_frame outs) xs) first

-- one channel more is added to the sum of a frame
pub mixing-channel : (cs : List Contribution) (frames ws : List ℤ) (channels n i place : ℕ) (c : Contribution) (s : ℤ) → place < length cs → place < length ws → c ≡ get_or cs place c → i < n → c.channel < channels → unsigned_abs (get_or frames (i * channels + c.channel) (pos 0)) ≤ 2 ^ 31
    → Adding (gathered (map pair_of cs) (get_or (pieces channels n frames) i [])) ws place s → Adding (gathered (map pair_of cs) (get_or (pieces channels n frames) i [])) ws (place + 1) (s +ℤ (get_or frames (i * channels + c.channel) (pos 0) *ℤ get_or ws place (pos 0)))
mixing-channel cs frames ws channels n i place c s h k is lt within sample old =
    let here : get_or (get_or (pieces channels n frames) i []) c.channel (pos 0) ≡ get_or frames (i * channels + c.channel) (pos 0) = get_or-piece channels n frames i c.channel (pos 0) lt within in
    rw here at (mixing-next cs (get_or (pieces channels n frames) i []) ws place c s h k is (rw here sample) old)

-- a channel that there is not adds nothing
pub mixing-none : (cs : List Contribution) (frames ws : List ℤ) (channels n i place : ℕ) (c : Contribution) (s : ℤ) → place < length cs → place < length ws → c ≡ get_or cs place c → i < n → channels ≤ c.channel → n * channels ≤ length frames
    → Adding (gathered (map pair_of cs) (get_or (pieces channels n frames) i [])) ws place s → Adding (gathered (map pair_of cs) (get_or (pieces channels n frames) i [])) ws (place + 1) s
mixing-none cs frames ws channels n i place c s h k is lt history free old =
    let x : Samples = get_or (pieces channels n frames) i [] in
    let count : i < length (pieces channels n frames) = omega (arith, lt, length-pieces channels n frames) in
    let side : length (get_or (pieces channels n frames) i []) ≡ channels = pieces-sides channels n frames free i [] count in
    let none : get_or (get_or (pieces channels n frames) i []) c.channel (pos 0) ≡ pos 0 = get_or_past x c.channel (pos 0) (omega (arith, side, history)) in
    let next = rw none at (mixing-next cs x ws place c s h k is (rw none (omega arith)) old) in
    let same : s +ℤ (pos 0 *ℤ get_or ws place (pos 0)) ≡ s = omega (arith, ints) in
    rw same at next
