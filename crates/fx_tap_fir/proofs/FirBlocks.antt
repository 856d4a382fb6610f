-- Frames that lie one after another, filtered channel by channel, and a `Fir` that they go through.
use Rattle.std.proofs.Common.{◌≡◌, ℕ, ℤ, pos, zero, suc, append-nil, ◌+◌, ◌-◌, ◌*◌, ◌<◌, ◌≤◌, Bool, false, List, [], ◌∷◌, ◌++◌, length, map, min, take, drop, get_or, reverse, refl, sym, ap, ◌∙◌, arith, add-zero, zero-add, length-append, subst, None, Some, ◌^◌}
use Rattle.std.specs.Int.{w32}
use Rattle.std.proofs.lemmas.List.{drop_all, drop_at, length-drop, length-map, length-take, map-append, length-take-le, take_at}
use Rattle.fx_fixed.specs.Rounding.{rounding}
use Rattle.fx_fixed.specs.declared.gains.TheConstants.{UNIT}
use Rattle.fx_frame_base.specs.declared.feed.Passing.TheVariants.{Through}
use Rattle.fx_frame_base.specs.Feed.{Fed, GaveNext, PassedOn, TookNext}
use Rattle.fx_frame_base.specs.Frame.{Samples}
use Rattle.fx_frame_base.specs.Holds.{total}
use Rattle.fx_frame_line.specs.Line.{Frames, IsLine, channel_of}
use Rattle.fx_frame_base.specs.Lists.{pieces, tabulate}
use Rattle.fx_frame_base.specs.Pipeline.{EachThrough}
use Rattle.fx_frame_base.specs.Stage.{Given, IsDry}
use Rattle.fx_frame_base.specs.StageCore.{after_passing}
use Rattle.fx_frame_base.proofs.Cores.{IsCore-passed}
use Rattle.fx_frame_base.proofs.FedLaws.{Fed-through}
use Rattle.fx_frame_base.proofs.Puts.{pieces-split, pieces-same}
use Rattle.fx_frame_base.proofs.Pieces.{length-pieces, pieces-front}
use Rattle.fx_tap_fir.specs.Fir.{FirArguments, centre, filtered_frame, filtered_sample}
use Rattle.fx_tap_fir.specs.FirState.{FirState, IsFir, fir_acts, fir_taps}
use Rattle.fx_tap_sums.specs.Products.{sum_of_products}
use Rattle.fx_frame_base.specs.Rounded.{clips_rounded, samples_of}
use Rattle.fx_frame.specs.Tapped.{IsNear, given_after, clips_after, frames_after, last_of}
use Rattle.fx_frame.specs.History.{sample_before}
use Rattle.fx_tap_fir.proofs.FirLaws.{rest_unchanged-due}
use Rattle.fx_frame.proofs.Tables.{map-tabulate, samples_of-tabulate, all_clips, pieces-table}
use Rattle.fx_frame_base.proofs.Tabulate.{length-tabulate, tabulate-same}
use Rattle.fx_frame.proofs.TapBlocks.{last-first, last-whole, length-last}
use Rattle.fx_frame.proofs.TapLaws.{rest_unchanged-step}
use Rattle.fx_tap_fir.proofs.WindowSums.{back_sum-is, filtered-is}

-- no frame is made of frames before its reach
pub fir-near : IsNear fir_taps
fir-near r p q agree =
    ap (λ (rounds : List (ℤ × Bool)). record { samples = samples_of rounds; clips = clips_rounded rounds })
    (tabulate-same _ _ 0 0 r.channels (λ c l.
    ap (λ s. rounding (sum_of_products s r.coefficients) UNIT)
    (tabulate-same _ _ 0 0 (length r.coefficients) (λ k less. agree (0 + k) (0 + c) (omega (arith, less))))))

-- ---- one channel after the other

-- after a full line each place of the window is that of a frame
pub filtered-window : (b : List ℤ) (items xs : List Samples) (channel i : ℕ) → length items + 1 ≡ length b
    → rounding (sum_of_products (drop i (channel_of (items ++ xs) channel (pos 0))) b) UNIT ≡ filtered_sample (reverse b) (items ++ xs) (length items + i) channel
filtered-window b items xs channel i full =
    let window : List ℤ = channel_of (items ++ xs) channel (pos 0) in
    let place : ℕ = length items + i in
    let from : place + 1 - length b ≡ i = omega (arith, full) in
    let whole : length b - (place + 1) ≡ 0 = omega (arith, full) in
    let e = rw (from, whole) at (back_sum-is window place b) in
    filtered-is b (items ++ xs) place channel (sum_of_products (drop i window) b) (sym e)

-- ---- frames of places

-- the frames that are made of frames after those of a line
pub block-frames : (r : FirArguments) (items xs : List Samples) (n : ℕ) (out : List ℤ) → length xs ≡ n → n * r.channels ≤ length out
    → ((i c : ℕ) → i < n → c < r.channels → get_or out (i * r.channels + c) (pos 0) ≡ (filtered_sample r.coefficients (items ++ xs) (length items + i) c).0) → pieces r.channels n out ≡ frames_after fir_taps r items xs
block-frames r items xs n out many free put =
    let G : ℕ → ℕ → ℤ × Bool = λ m. filtered_sample r.coefficients (items ++ xs) m in
    pieces-table r.channels n out free
    ∙ tabulate-same _ (λ m. samples_of (tabulate (G m) 0 r.channels)) 0 (length items) n (λ i l.
    tabulate-same _ _ 0 0 r.channels (λ c k. put (0 + i) (0 + c) (omega (arith, l)) (omega (arith, k)) ∙ rw zero-add refl) ∙ sym (samples_of-tabulate (G (length items + i)) 0 r.channels))
    ∙ rw (← many) (sym (map-tabulate (λ (g : Given). g.samples) (λ m. fir_taps.made r (sample_before (items ++ xs) m)) (length items) (length xs)))

total-same : {X Y : Type 0} (f : X → ℕ) (g : Y → ℕ) (u : ℕ → X) (v : ℕ → Y) (from to n : ℕ) → ((k : ℕ) → k < n → f (u (from + k)) ≡ g (v (to + k))) → total f (tabulate u from n) ≡ total g (tabulate v to n)
total-same f g u v from to zero h = refl
total-same f g u v from to (suc n) h =
    let here : f (u from) ≡ g (v to) = rw (add-zero, add-zero) at (h 0 (omega arith)) in
    let rest = total-same f g u v (suc from) (suc to) n (λ k l.
    let a : suc from + k ≡ from + suc k = omega arith in
    let b : suc to + k ≡ to + suc k = omega arith in
    rw (a, b) (h (suc k) (omega (arith, l)))) in
    omega (arith, here, rest)

pub block-clips : (r : FirArguments) (items xs : List Samples) (n clips : ℕ) → length xs ≡ n → clips ≡ all_clips (λ i. filtered_sample r.coefficients (items ++ xs) (length items + i)) r.channels 0 n → clips ≡ clips_after fir_taps r items xs
block-clips r items xs n clips many counted =
    counted ∙ total-same clips_rounded (λ (g : Given). g.clips) _ (λ m. fir_taps.made r (sample_before (items ++ xs) m)) 0 (length items) n (λ k l. rw zero-add refl)
    ∙ ap (λ k. total (λ (g : Given). g.clips) (tabulate (λ m. fir_taps.made r (sample_before (items ++ xs) m)) (length items) k)) (sym many)

-- what was written after the frames so far
pub pieces-joined : (size n m : ℕ) (out made rest new : List ℤ) → n * size ≤ length out → length made ≡ m * size → new ≡ take (n * size) out ++ (made ++ rest) → pieces size (n + m) new ≡ pieces size n out ++ pieces size m made
pieces-joined size n m out made rest new long sides written =
    let front : length (take (n * size) out) ≡ n * size = length-take-le (n * size) out long in
    let all : n * size ≤ length new = rw written (omega (arith, front, length-append (take (n * size) out) (made ++ rest))) in
    let kept : take (n * size) new ≡ take (n * size) out = rw written (take_at (take (n * size) out) (made ++ rest) (n * size) front) in
    let given_after : drop (n * size) new ≡ made ++ rest = rw written (drop_at (take (n * size) out) (made ++ rest) (n * size) front) in
    pieces-split size n m new ∙ ap (λ ps. ps ++ pieces size m (drop (n * size) new)) (pieces-same size n new out all long kept) ∙ ap (λ l. pieces size n out ++ pieces size m l) given_after ∙ ap (λ ps. pieces size n out ++ ps) (pieces-front size m made rest sides)

-- ---- a window of a line and of frames after it

pub window-joined : (items xs : List Samples) (channel held : ℕ) (held_samples window column rest : List ℤ) → held_samples ≡ channel_of items channel (pos 0) → held ≡ length items → column ≡ channel_of xs channel (pos 0) → rest ≡ []
    → take held (held_samples ++ window) ++ (column ++ rest) ≡ channel_of (items ++ xs) channel (pos 0)
window-joined items xs channel held held_samples window column rest is size column_is none =
    let long : length held_samples ≡ held = ap length is ∙ length-map items (λ f. get_or f channel (pos 0)) ∙ sym size in
    rw (take_at held_samples window held long, none, append-nil, is, column_is) (sym (map-append (λ f. get_or f channel (pos 0)) items xs))

pub places-left : (held_samples window : List ℤ) (held count : ℕ) → length held_samples ≡ held → length window ≡ held + count → length (take (length (held_samples ++ drop held window) - held) (drop held (held_samples ++ drop held window))) ≡ count
places-left held_samples window held count long all =
    let whole : List ℤ = held_samples ++ drop held window in
    omega (arith, long, all, length-append held_samples (drop held window), length-drop held window, length-drop held whole, length-take (length whole - held) (drop held whole))

pub none-left : (whole : List ℤ) (held : ℕ) → drop (length whole - held) (drop held whole) ≡ []
none-left whole held =
    let left = length-drop held whole in
    drop_all (length whole - held) (drop held whole) (omega (arith, left))

-- ---- a stage that frames go through

-- as many frames are given as are taken, where enough were taken before
given-along : (number count late held capacity n : ℕ) → number ≡ count - late → held ≡ min count capacity → (1 ≤ n → late ≤ held) → number + n ≡ count + n - late
given-along number count late held capacity zero counted lined due = omega (arith, counted)
given-along number count late held capacity (suc n) counted lined due = let enough = due (omega arith) in omega (arith, counted, lined, enough)

-- the state after a block of frames went by
pub IsFir-block : (s : FirState) (line : Frames ℤ) (n clips : ℕ) (xs : List Samples) → IsFir s → s.core.pending ≡ None → s.core.ended ≡ false → s.core.taken + n ≤ 2 ^ 56 → length xs ≡ n → (1 ≤ n → centre (length s.backwards) ≤ length s.line.items)
    → IsLine w32 line → line.items ≡ last_of s.line.capacity (s.line.items ++ xs) → line.capacity ≡ s.line.capacity → line.channels ≡ s.line.channels → clips ≤ 16 * n
    → IsFir (record s { line = line; core = after_passing n clips s.core })
IsFir-block s line n clips xs is none running bound many due lined items capacity channels little =
    let no_tail : s.tail ≡ 0 = is.not_ended running in
    let counted : s.core.given + 0 + s.tail ≡ s.core.taken - centre (length s.backwards) = rw (none, running) at is.counted in
    let before = is.held in
    let after : length line.items ≡ min (length (s.line.items ++ xs)) s.line.capacity = ap length items ∙ length-last s.line.capacity (s.line.items ++ xs) in
    let all : length (s.line.items ++ xs) ≡ length s.line.items + n = length-append s.line.items xs ∙ ap (λ k. length s.line.items + k) many in
    let full = is.capacity in
    let tail_held = is.tail_held in
    record {
      line = lined;
      channels = channels ∙ is.channels;
      capacity = rw capacity full;
      count = is.count;
      small = is.small;
      held = omega (arith, before, after, all, capacity);
      counted = rw (none, running) (omega (arith, no_tail, given-along s.core.given s.core.taken (centre (length s.backwards)) (length s.line.items) s.line.capacity n (omega (arith, counted, no_tail)) before due));
      tail_held = omega (arith, no_tail);
      tail_bound = is.tail_bound;
      not_ended = is.not_ended;
      core = IsCore-passed s.channels 16 n clips s.core is.core bound (omega (arith, little));
    }

module _ (channels : ℕ) (b : List ℤ) where
  abbrev pub made_with : FirArguments
  made_with = record { channels = channels; coefficients = reverse b }

  -- such a stage with no pending frame
  abbrev pub ready : Frames ℤ → ℕ → ℕ → ℕ → FirState
  ready line count number clips = record { channels = channels; backwards = b; line = line; core = record { pending = None; pending_clips = 0; taken = count; given = number; clips = clips; ended = false }; tail = 0 }

  -- the line after these frames
  abbrev pub through : Frames ℤ → List Samples → Frames ℤ
  through line xs = record { items = last_of line.capacity (line.items ++ xs); capacity = line.capacity; channels = line.channels }

  -- what is made of a frame after those of the line
  abbrev pub made_after : Frames ℤ → Samples → Given
  made_after line x = filtered_frame made_with (line.items ++ x ∷ []) (length line.items)

  abbrev pub holding : Frames ℤ → ℕ → ℕ → ℕ → Samples → FirState
  holding line count number clips x = record { channels = channels; backwards = b; line = through line (x ∷ []); core = record { pending = Some (made_after line x).samples; pending_clips = (made_after line x).clips; taken = count + 1; given = number; clips = clips; ended = false }; tail = 0 }

  made-sides : (line : Frames ℤ) (x : Samples) → length (made_after line x).samples ≡ channels
  made-sides line x = ap length (samples_of-tabulate (filtered_sample (reverse b) (line.items ++ x ∷ []) (length line.items)) 0 channels) ∙ length-tabulate _ 0 channels

  one-passed : (line : Frames ℤ) (count number clips : ℕ) (x : Samples) → line.capacity + 1 ≡ length (reverse b) → length line.items ≤ line.capacity → centre (length (reverse b)) ≤ length line.items → number + centre (length (reverse b)) ≡ count
      → PassedOn fir_acts Through (ready line count number clips) (ready (through line (x ∷ [])) (count + 1) (number + 1) (clips + (made_after line x).clips)) x (made_after line x).samples
  one-passed line count number clips x full within due counted =
      let first : FirState = ready line count number clips in
      let mid : FirState = holding line count number clips x in
      let last : FirState = ready (through line (x ∷ [])) (count + 1) (number + 1) (clips + (made_after line x).clips) in
      let bound : length (last_of line.capacity (line.items ++ x ∷ [])) ≤ line.capacity = let n = length-last line.capacity (line.items ++ x ∷ []) in omega arith in
      let took : TookNext fir_acts first mid x = record {
        dry = refl;
        due = omega (arith, counted);
        not_ended = refl;
        not_spent = refl;
        took = record {
          rest = λ z. sym (rest_unchanged-due made_with line.items z x line.capacity full within due);
          counted = refl;
          recipe_stays = refl;
        };
        held = omega (arith, bound, full, length-append (last_of line.capacity (line.items ++ x ∷ [])) ((made_after line x).samples ∷ []));
      } in
      let gave : GaveNext fir_acts mid last (made_after line x).samples = record {
        gave = record {
          was_wet = refl;
          gives = record { clips = (made_after line x).clips; first = λ z. refl; counted = refl };
          channels = made-sides line x;
          due = λ e. omega (arith, counted);
          maximum = omega (arith, counted);
          recipe_stays = refl;
        };
        held = omega (arith, bound, full, length-append (last_of line.capacity (line.items ++ x ∷ [])) []);
      } in
      (mid, took, gave, refl)

  ready-dry : (line : Frames ℤ) (count number clips : ℕ) → number + centre (length (reverse b)) ≡ count → IsDry fir_acts (ready line count number clips)
  ready-dry line count number clips counted = record { due = λ e. omega (arith, counted); over = λ e. absurd (cc (e)) }

  -- each given before the next is taken
  pub frames-through : (xs : List Samples) (line : Frames ℤ) (count number clips : ℕ) → line.capacity + 1 ≡ length (reverse b) → length line.items ≤ line.capacity
      → (1 ≤ length xs → (centre (length (reverse b)) ≤ length line.items) × (number + centre (length (reverse b)) ≡ count))
      → EachThrough fir_acts xs (frames_after fir_taps made_with line.items xs) (ready line count number clips) (ready (through line xs) (count + length xs) (number + length xs) (clips + clips_after fir_taps made_with line.items xs))
  frames-through [] line count number clips full within due = rw (add-zero, add-zero, add-zero, last-whole line.capacity line.items within) refl
  frames-through (x ∷ xs) line count number clips full within due =
      let next : Frames ℤ = through line (x ∷ []) in
      let made : Given = made_after line x in
      let enough : (centre (length (reverse b)) ≤ length line.items) × (number + centre (length (reverse b)) ≡ count) = due (omega arith) in
      let counted : number + centre (length (reverse b)) ≡ count = enough.1 in
      let long : fir_taps.reach made_with ≤ line.capacity = omega (arith, full) in
      let steps : given_after fir_taps made_with line.items (x ∷ xs) ≡ made ∷ given_after fir_taps made_with next.items xs = rest_unchanged-step fir_taps fir-near made_with line.items xs x line.capacity within long in
      let frames : frames_after fir_taps made_with line.items (x ∷ xs) ≡ made.samples ∷ frames_after fir_taps made_with next.items xs = ap (map (λ (g : Given). g.samples)) steps in
      let clipped : clips_after fir_taps made_with line.items (x ∷ xs) ≡ made.clips + clips_after fir_taps made_with next.items xs = ap (total (λ (g : Given). g.clips)) steps in
      let size : length next.items ≡ min (length line.items + 1) line.capacity = length-last line.capacity (line.items ++ x ∷ []) ∙ ap (λ n. min n line.capacity) (length-append line.items (x ∷ [])) in
      let free : length next.items ≤ next.capacity = omega (arith, size) in
      let later : centre (length (reverse b)) ≤ length next.items = omega (arith, size, enough.0, full) in
      let went : number + 1 + centre (length (reverse b)) ≡ count + 1 = omega (arith, counted) in
      let more = frames-through xs next (count + 1) (number + 1) (clips + made.clips) full free (λ some. (later, went)) in
      let places : count + 1 + length xs ≡ count + length (x ∷ xs) = omega arith in
      let numbers : number + 1 + length xs ≡ number + length (x ∷ xs) = omega arith in
      let sums : clips + made.clips + clips_after fir_taps made_with next.items xs ≡ clips + clips_after fir_taps made_with line.items (x ∷ xs) = omega (arith, clipped) in
      let end : FirState = ready (through line (x ∷ xs)) (count + length (x ∷ xs)) (number + length (x ∷ xs)) (clips + clips_after fir_taps made_with line.items (x ∷ xs)) in
      let same : ready (through next xs) (count + 1 + length xs) (number + 1 + length xs) (clips + made.clips + clips_after fir_taps made_with next.items xs) ≡ end =
      ap (λ (n : ℕ). ready (through next xs) n (number + 1 + length xs) (clips + made.clips + clips_after fir_taps made_with next.items xs)) places
      ∙ ap (λ (n : ℕ). ready (through next xs) (count + length (x ∷ xs)) n (clips + made.clips + clips_after fir_taps made_with next.items xs)) numbers
      ∙ ap (λ (n : ℕ). ready (through next xs) (count + length (x ∷ xs)) (number + length (x ∷ xs)) n) sums
      ∙ ap (λ (l : List Samples). ready (record { items = l; capacity = line.capacity; channels = line.channels }) (count + length (x ∷ xs)) (number + length (x ∷ xs)) (clips + clips_after fir_taps made_with line.items (x ∷ xs))) (last-first line.capacity line.items xs x) in
      let whole : EachThrough fir_acts (x ∷ xs) (made.samples ∷ frames_after fir_taps made_with next.items xs) (ready line count number clips) end = (
        ready next (count + 1) (number + 1) (clips + made.clips),
        one-passed line count number clips x full within enough.0 counted,
        ready-dry next (count + 1) (number + 1) (clips + made.clips) went,
        subst (λ (u : FirState). EachThrough fir_acts xs (frames_after fir_taps made_with next.items xs) (ready next (count + 1) (number + 1) (clips + made.clips)) u) same more,
      ) in
      subst (λ (l : List Samples). EachThrough fir_acts (x ∷ xs) l (ready line count number clips) end) (sym frames) whole

-- before the end, with no frame pending and none to be given after it, a stage is such a one
ready-is : (s : FirState) → s.core.pending ≡ None → s.core.pending_clips ≡ 0 → s.tail ≡ 0 → s.core.ended ≡ false → s ≡ ready s.channels s.backwards s.line s.core.taken s.core.given s.core.clips
ready-is s h k t over =
    let whole : ◌≡◌ {A = FirState} (record { channels = s.channels; backwards = s.backwards; line = s.line; core = record { pending = s.core.pending; pending_clips = s.core.pending_clips; taken = s.core.taken; given = s.core.given; clips = s.core.clips; ended = s.core.ended }; tail = s.tail }) (ready s.channels s.backwards s.line s.core.taken s.core.given s.core.clips) = rw (h, k, t, over) refl in
    whole

-- a block of frames, each given before the next is taken: the counters are added to once
pub block-through : (s : FirState) (line : Frames ℤ) (n clips : ℕ) (input output : List ℤ) → s.core.pending ≡ None → s.core.pending_clips ≡ 0 → s.tail ≡ 0 → s.core.ended ≡ false
    → s.line.capacity + 1 ≡ length (reverse s.backwards) → length s.line.items ≤ s.line.capacity
    → (1 ≤ n → (centre (length (reverse s.backwards)) ≤ length s.line.items) × (s.core.given + centre (length (reverse s.backwards)) ≡ s.core.taken))
    → pieces s.channels n output ≡ frames_after fir_taps (made_with s.channels s.backwards) s.line.items (pieces s.channels n input) → clips ≡ clips_after fir_taps (made_with s.channels s.backwards) s.line.items (pieces s.channels n input)
    → line.items ≡ last_of s.line.capacity (s.line.items ++ pieces s.channels n input) → line.capacity ≡ s.line.capacity → line.channels ≡ s.line.channels
    → EachThrough fir_acts (pieces s.channels n input) (pieces s.channels n output) s (record s { line = line; core = after_passing n clips s.core })
block-through s line n clips input output h k t over full within due made clipped items capacity channels =
    let xs : List Samples = pieces s.channels n input in
    let b : List ℤ = s.backwards in
    let Ready : Frames ℤ → ℕ → ℕ → ℕ → FirState = ready s.channels b in
    let Next : Frames ℤ = record { items = last_of s.line.capacity (s.line.items ++ xs); capacity = s.line.capacity; channels = s.line.channels } in
    let same : ◌≡◌ {A = Frames ℤ} (record { items = line.items; capacity = line.capacity; channels = line.channels }) Next = rw (items, capacity, channels) refl in
    let went : line ≡ Next = same in
    let many : length xs ≡ n = length-pieces s.channels n input in
    let made_frames : List Samples = frames_after fir_taps (made_with s.channels b) s.line.items xs in
    let all : ℕ = s.core.clips + clips_after fir_taps (made_with s.channels b) s.line.items xs in
    let passed : EachThrough fir_acts xs made_frames (Ready s.line s.core.taken s.core.given s.core.clips) (Ready Next (s.core.taken + length xs) (s.core.given + length xs) all) =
    frames-through s.channels b xs s.line s.core.taken s.core.given s.core.clips full within (λ some. due (omega (arith, some, many))) in
    let start : s ≡ Ready s.line s.core.taken s.core.given s.core.clips = ready-is s h k t over in
    let passed_by : FirState = record s { line = line; core = after_passing n clips s.core } in
    let new : passed_by ≡ Ready Next (s.core.taken + length xs) (s.core.given + length xs) all =
    ready-is passed_by h k t over ∙ ap (λ (l : Frames ℤ). Ready l (s.core.taken + n) (s.core.given + n) (s.core.clips + clips)) went ∙ ap (λ (j : ℕ). Ready Next (s.core.taken + j) (s.core.given + j) (s.core.clips + clips)) (sym many)
    ∙ ap (λ (j : ℕ). Ready Next (s.core.taken + length xs) (s.core.given + length xs) (s.core.clips + j)) clipped in
    let From : FirState → Type 0 = λ u. EachThrough fir_acts xs made_frames u (Ready Next (s.core.taken + length xs) (s.core.given + length xs) all) in
    let To : FirState → Type 0 = λ u. EachThrough fir_acts xs made_frames s u in
    rw made (subst To (sym new) (subst From (sym start) passed))

pub block-fed : (s : FirState) (line : Frames ℤ) (n clips : ℕ) (input output : List ℤ) → s.core.pending ≡ None → s.core.pending_clips ≡ 0 → s.tail ≡ 0 → s.core.ended ≡ false → s.core.given + centre (length (reverse s.backwards)) ≡ s.core.taken
    → s.line.capacity + 1 ≡ length (reverse s.backwards) → length s.line.items ≤ s.line.capacity → centre (length (reverse s.backwards)) ≤ length s.line.items
    → pieces s.channels n output ≡ frames_after fir_taps (made_with s.channels s.backwards) s.line.items (pieces s.channels n input) → clips ≡ clips_after fir_taps (made_with s.channels s.backwards) s.line.items (pieces s.channels n input)
    → line.items ≡ last_of s.line.capacity (s.line.items ++ pieces s.channels n input) → line.capacity ≡ s.line.capacity → line.channels ≡ s.line.channels
    → Fed fir_acts s (pieces s.channels n input) (pieces s.channels n output) (record s { line = line; core = after_passing n clips s.core })
block-fed s line n clips input output h k t over counted full within due made clipped items capacity channels =
    Fed-through fir_acts _ _ _ _ (block-through s line n clips input output h k t over full within (λ some. (due, counted)) made clipped items capacity channels)

-- one frame, passed on in its place
pub frame-passed : (s : FirState) (line : Frames ℤ) (x y : Samples) (clips : ℕ) → s.core.pending ≡ None → s.core.pending_clips ≡ 0 → s.tail ≡ 0 → s.core.ended ≡ false → s.core.given + centre (length (reverse s.backwards)) ≡ s.core.taken
    → s.line.capacity + 1 ≡ length (reverse s.backwards) → length s.line.items ≤ s.line.capacity → centre (length (reverse s.backwards)) ≤ length s.line.items
    → y ≡ (made_after s.channels s.backwards s.line x).samples → clips ≡ (made_after s.channels s.backwards s.line x).clips
    → line.items ≡ last_of s.line.capacity (s.line.items ++ x ∷ []) → line.capacity ≡ s.line.capacity → line.channels ≡ s.line.channels
    → PassedOn fir_acts Through s (record s { line = line; core = after_passing 1 clips s.core }) x y
frame-passed s line x y clips h k t over counted full within due made clipped items capacity channels =
    let b : List ℤ = s.backwards in
    let Ready : Frames ℤ → ℕ → ℕ → ℕ → FirState = ready s.channels b in
    let Next : Frames ℤ = record { items = last_of s.line.capacity (s.line.items ++ x ∷ []); capacity = s.line.capacity; channels = s.line.channels } in
    let same : ◌≡◌ {A = Frames ℤ} (record { items = line.items; capacity = line.capacity; channels = line.channels }) Next = rw (items, capacity, channels) refl in
    let went : line ≡ Next = same in
    let all : ℕ = s.core.clips + (made_after s.channels b s.line x).clips in
    let passed : PassedOn fir_acts Through (Ready s.line s.core.taken s.core.given s.core.clips) (Ready Next (s.core.taken + 1) (s.core.given + 1) all) x (made_after s.channels b s.line x).samples =
    one-passed s.channels b s.line s.core.taken s.core.given s.core.clips x full within due counted in
    let start : s ≡ Ready s.line s.core.taken s.core.given s.core.clips = ready-is s h k t over in
    let passed_by : FirState = record s { line = line; core = after_passing 1 clips s.core } in
    let new : passed_by ≡ Ready Next (s.core.taken + 1) (s.core.given + 1) all =
    ready-is passed_by h k t over ∙ ap (λ (l : Frames ℤ). Ready l (s.core.taken + 1) (s.core.given + 1) (s.core.clips + clips)) went ∙ ap (λ (j : ℕ). Ready Next (s.core.taken + 1) (s.core.given + 1) (s.core.clips + j)) clipped in
    let From : FirState → Type 0 = λ u. PassedOn fir_acts Through u (Ready Next (s.core.taken + 1) (s.core.given + 1) all) x (made_after s.channels b s.line x).samples in
    let To : FirState → Type 0 = λ u. PassedOn fir_acts Through s u x (made_after s.channels b s.line x).samples in
    rw made (subst To (sym new) (subst From (sym start) passed))
