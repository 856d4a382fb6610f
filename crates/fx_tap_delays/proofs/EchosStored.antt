-- A row of lines and the frames that it holds.
use Rattle.std.proofs.Common.{ℕ, ℤ, zero, suc, ◌+◌, ◌*◌, ◌^◌, ◌<◌, ◌≤◌, ◌≡◌, min, List, [], ◌∷◌, ◌++◌, length, get_or, take, drop, refl, sym, ap, ◌∙◌, arith, append_assoc, append-nil}
use Rattle.std.specs.List.{All}
use Rattle.std.specs.Int.{w64}
use Rattle.std.proofs.Math.Seq.{take-append_seam, drop-append_seam}
use Rattle.std.proofs.lemmas.List.{drop_more, drop_all, length-append, take_more, take-append-drop}
use Rattle.fx_frame_base.specs.Frame.{Samples}
use Rattle.fx_frame.specs.Frozen.{line_of}
use Rattle.fx_frame_line.specs.Line.{Frames, IsLine, empty}
use Rattle.fx_tap_delays.specs.EchosState.{IsEchoLine, delay_at, frames_of_lines, line_at}
use Rattle.fx_tap_delays.specs.DelayExtents.{Tap}
use Rattle.fx_tap_delays.specs.EchosStored.{IsSeries, IsSmall}

-- a line of these frames
pub same-line : (l : Frames ℤ) (channels delay : ℕ) (part : List Samples) → l.items ≡ part → l.capacity ≡ delay → l.channels ≡ channels → l ≡ line_of channels delay part
same-line l channels delay part items capacity channels_are = rw (← items, ← capacity, ← channels_are) refl

-- the delay at a place, whatever stands in for no echo
pub delay-is : (es : List Tap) (i : ℕ) (d : Tap) → i < length es → (get_or es i d).0 ≡ delay_at es i
delay-is [] i d lt = absurd (omega arith)
delay-is (e ∷ es) zero d lt = refl
delay-is (e ∷ es) (suc i) d lt = delay-is es i d (omega arith)

-- how many frames the line at a place holds
abbrev pub held_at : ℕ → List Tap → ℕ → ℕ
held_at came taps i = min came (delay_at taps i)

-- the line at a place, where these frames are left for it and those after it
pub record IsNext (channels came : ℕ) (taps : List Tap) (lines : List (Frames ℤ)) (rest : List Samples) (i : ℕ) : Type 0 where
  pub here : IsEchoLine channels came i (delay_at taps i) (line_at lines i)
  pub free : held_at came taps i ≤ length rest
  pub is_line : line_at lines i ≡ line_of channels (delay_at taps i) (take (held_at came taps i) rest)
  pub left : frames_of_lines (drop (i + 1) lines) ≡ drop (held_at came taps i) rest
  pub more : take (i + 1) lines ≡ take i lines ++ line_at lines i ∷ []

pub next-line : (channels came : ℕ) (taps : List Tap) (lines : List (Frames ℤ)) (rest : List Samples) (i : ℕ) → IsSeries channels came taps lines → i < length taps → frames_of_lines (drop i lines) ≡ rest → IsNext channels came taps lines rest i
next-line channels came taps lines rest i series lt e =
    let many = series.as_many in
    let within : i < length lines = omega arith in
    let l : Frames ℤ = line_at lines i in
    let is : IsEchoLine channels came i (delay_at taps i) l = series.lines_are i within in
    let others : List Samples = frames_of_lines (drop (i + 1) lines) in
    let whole : l.items ++ others ≡ rest = ap frames_of_lines (sym (drop_more lines i (empty 0 0) within)) ∙ e in
    let held : length l.items ≡ held_at came taps i = is.held in
    let items : l.items ≡ take (held_at came taps i) rest = sym (take-append_seam l.items others) ∙ ap (take (length l.items)) whole ∙ ap (λ n. take n rest) held in
    record {
      here = is;
      free = omega (arith, held, ap length whole, length-append l.items others);
      is_line = same-line l channels (delay_at taps i) (take (held_at came taps i) rest) items is.capacity is.channels_are;
      left = sym (drop-append_seam l.items others) ∙ ap (drop (length l.items)) whole ∙ ap (λ n. drop n rest) held;
      more = take_more lines i (empty 0 0) within;
    }

-- one line more
pub series-pushed : (P : ℕ → Frames ℤ → Type 0) (ls : List (Frames ℤ)) (l : Frames ℤ) → ((j : ℕ) → j < length ls → P j (line_at ls j)) → P (length ls) l → (j : ℕ) → j < length ls + 1 → P j (line_at (ls ++ l ∷ []) j)
series-pushed P [] l h p zero lt = p
series-pushed P [] l h p (suc j) lt = absurd (omega arith)
series-pushed P (x ∷ ls) l h p zero lt = h 0 (omega arith)
series-pushed P (x ∷ ls) l h p (suc j) lt = series-pushed (λ k. P (suc k)) ls l (λ k q. h (suc k) (omega arith)) p j (omega arith)

front : (ls : List (Frames ℤ)) (l : Frames ℤ) (z : List Samples) → frames_of_lines (ls ++ l ∷ []) ++ z ≡ frames_of_lines ls ++ (l.items ++ z)
front [] l z = ap (λ w. w ++ z) (append-nil l.items)
front (x ∷ ls) l z = append_assoc x.items (frames_of_lines (ls ++ l ∷ [])) z ∙ ap (λ w. x.items ++ w) (front ls l z) ∙ sym (append_assoc x.items (frames_of_lines ls) (l.items ++ z))

-- what is left once a line took its frames
pub cut-on : (ls : List (Frames ℤ)) (l : Frames ℤ) (rest frames : List Samples) (n : ℕ) → l.items ≡ take n rest → frames_of_lines ls ++ rest ≡ frames → frames_of_lines (ls ++ l ∷ []) ++ drop n rest ≡ frames
cut-on ls l rest frames n items whole = front ls l (drop n rest) ∙ ap (λ w. frames_of_lines ls ++ (w ++ drop n rest)) items ∙ ap (λ w. frames_of_lines ls ++ w) (take-append-drop n rest) ∙ whole

-- a line that was made of its frames is sound
pub thawed-sound : (channels came j delay : ℕ) (l : Frames ℤ) (part : List Samples) → l ≡ line_of channels delay part → IsLine w64 l → All (IsSmall ((j + 1) * 2 ^ 31)) l.items → 1 ≤ delay → length part ≡ min came delay → IsEchoLine channels came j delay l
thawed-sound channels came j delay l part e lined small some long = record {
  line = lined;
  channels_are = ap (λ (k : Frames ℤ). k.channels) e;
  capacity = ap (λ (k : Frames ℤ). k.capacity) e;
  some = some;
  held = ap (λ (k : Frames ℤ). length k.items) e ∙ long;
  small = small;
}

-- no line is left after the last
pub none-left : (channels came : ℕ) (taps : List Tap) (lines : List (Frames ℤ)) (i : ℕ) → IsSeries channels came taps lines → length taps ≤ i → frames_of_lines (drop i lines) ≡ []
none-left channels came taps lines i series over = ap frames_of_lines (drop_all i lines (let many = series.as_many in omega arith))
