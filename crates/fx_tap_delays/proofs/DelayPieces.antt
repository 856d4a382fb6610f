-- Frames whose channels are delayed, many of them made at once.
use Rattle.std.proofs.Common.{◌≡◌, ◌+◌, ◌*◌, ◌<◌, ◌≤◌, ◌⊎◌, inl, inr, ℕ, ℤ, pos, List, ◌++◌, length, get_or, sym, ◌∙◌, arith, zero-add, slice_index}
use Rattle.fx_frame_base.specs.Frame.{Samples}
use Rattle.fx_frame_base.specs.Lists.{pieces}
use Rattle.fx_frame_base.specs.Stage.{Given}
use Rattle.fx_tap_delays.specs.Delay.{delayed_frame}
use Rattle.fx_tap_delays.specs.DelayState.{delay_taps}
use Rattle.fx_frame.specs.Tapped.{frames_after}
use Rattle.fx_frame.specs.History.{sample_before}
use Rattle.fx_frame.proofs.Tables.{map-tabulate, pieces-table}
use Rattle.fx_frame_base.proofs.Tabulate.{tabulate-same}

-- so many frames after those of a line, sample by sample
pub delay-frames : (delays : List ℕ) (items xs : List Samples) (n : ℕ) (out : List ℤ) → length xs ≡ n → n * length delays ≤ length out
    → ((i k : ℕ) → i < n → k < length delays → get_or out (i * length delays + k) (pos 0) ≡ sample_before (items ++ xs) (length items + i) (slice_index delays k) k) → pieces (length delays) n out ≡ frames_after delay_taps delays items xs
delay-frames delays items xs n out many free put =
    pieces-table (length delays) n out free
    ∙ tabulate-same _ (λ m. delayed_frame delays (sample_before (items ++ xs) m)) 0 (length items) n (λ i l.
    let frame : 0 + i ≡ i = zero-add i in
    tabulate-same _ _ 0 0 (length delays) (λ c k.
    let channel : 0 + c ≡ c = zero-add c in
    rw (frame, channel) (put i c l k)))
    ∙ rw (← many) (sym (map-tabulate (λ (g : Given). g.samples) (λ m. delay_taps.made delays (sample_before (items ++ xs) m)) (length items) (length xs)))

-- a channel that is late is late by that many at least
pub late-by : (d n : ℕ) → (d ≡ 0) ⊎ (n ≤ d) → 0 < d → n ≤ d
late-by d n (inl none) some = absurd (omega (arith, none, some))
late-by d n (inr late) some = late
