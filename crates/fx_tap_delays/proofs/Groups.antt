-- A loop that writes frames after those that it wrote.
use Rattle.std.proofs.Common.{rules, ◌≡◌, ◌+◌, ◌*◌, ◌≤◌, ℕ, ℤ, List, [], ◌∷◌, ◌++◌, length, take, drop, refl, sym, ap, ◌∙◌, arith, append_assoc}
use Rattle.std.proofs.lemmas.List.{drop-drop, length-drop, length-take-le}
use Rattle.std.proofs.Math.Nat.{add-mul, mul-le-mul_right}
use Rattle.fx_frame_base.specs.Frame.{Samples}
use Rattle.fx_frame_base.specs.Lists.{pieces}
use Rattle.fx_frame_base.proofs.Puts.{drop-put, pieces-put, pieces-split, pieces-take}
use Rattle.fx_frame_line.specs.Line.{Frames, pushed_all}
use Rattle.fx_frame_line.proofs.ManyFrames.{pieces-put_many}
use Rattle.fx_tap_delays.specs.Tapping.{CountsClips}
use Rattle.fx_frame.specs.Tapped.{IsNear, MakesBlock, Taps, clips_after, clips_in_block, frames_after, last_of}
use Rattle.fx_frame.proofs.TapBlocks.{clips-joined, frames-joined, last-joined}

-- a slice after samples were written at a place
abbrev pub put_at : ℕ → ℕ → List ℤ → List ℤ → List ℤ
put_at at size made out = take at out ++ (made ++ drop size (drop at out))

put-is : (at size : ℕ) (made out : List ℤ) → length made ≡ size → put_at at size made out ≡ take at out ++ made ++ drop (at + length made) out
put-is at size made out long =
    sym (append_assoc (take at out) made (drop size (drop at out))) ∙ ap (λ rest. take at out ++ made ++ rest) (drop-drop size at out ∙ ap (λ n. drop (at + n) out) (sym long))

-- so many frames end where they all end
pub group-end : (ch done n count maximum : ℕ) → done + n ≤ count → count * ch ≤ maximum → done * ch + n * ch ≤ maximum
group-end ch done n count maximum within free = omega (arith, mul-le-mul_right ch within, add-mul done n ch)

-- a frame
module _ (size turn at : ℕ) (out made : List ℤ) (at_is : at ≡ turn * size) (long : length made ≡ size) (free : at + size ≤ length out) where
  pub frame-put : pieces size (turn + 1) (put_at at size made out) ≡ pieces size turn out ++ made ∷ []
  frame-put = pieces-put size turn at out made _ at_is long free (put-is at size made out long)

  pub frame-rest : (start : List ℤ) → drop at out ≡ drop at start → drop (at + size) (put_at at size made out) ≡ drop (at + size) start
  frame-rest start = drop-put at size start out made _ long free (put-is at size made out long)

-- a group of frames
module _ (ch done n count : ℕ) (within : done + n ≤ count) where
  pub group-read : (input : List ℤ) → count * ch ≤ length input → pieces ch (done + n) input ≡ pieces ch done input ++ pieces ch n (take (n * ch) (drop (done * ch) input))
  group-read input free =
      let inside = group-end ch done n count (length input) within free in
      pieces-split ch done n input ∙ ap (λ ps. pieces ch done input ++ ps) (sym (pieces-take ch n (drop (done * ch) input) (omega (arith, inside, length-drop (done * ch) input))))

  module _ (out made : List ℤ) (free : count * ch ≤ length out) (kept : length made ≡ length (take (n * ch) (drop (done * ch) out))) where
    group-long : length made ≡ n * ch
    group-long = let inside = group-end ch done n count (length out) within free in kept ∙ length-take-le (n * ch) (drop (done * ch) out) (omega (arith, inside, length-drop (done * ch) out))

    pub group-put : pieces ch (done + n) (put_at (done * ch) (n * ch) made out) ≡ pieces ch done out ++ pieces ch n made
    group-put = pieces-put_many ch done n (done * ch) out made _ refl group-long (group-end ch done n count (length out) within free) (put-is (done * ch) (n * ch) made out group-long)

    pub group-rest : (start : List ℤ) → drop (done * ch) out ≡ drop (done * ch) start → drop ((done + n) * ch) (put_at (done * ch) (n * ch) made out) ≡ drop ((done + n) * ch) start
    group-rest start e = rw (add-mul done n ch) (drop-put (done * ch) (n * ch) start out made _ group-long (group-end ch done n count (length out) within free) (put-is (done * ch) (n * ch) made out group-long) e)

-- a line with these frames, as many places and as many channels as `start`
pub same-line : (l start : Frames ℤ) (items : List Samples) → l.items ≡ items → l.capacity ≡ start.capacity → l.channels ≡ start.channels → l ≡ record start { items = items }
same-line l start items framed places wide = search (rules, framed, places, wide)

-- what a loop made of the first `done` frames of the input, after those of the line `start`: the output was `first`
pub record MadeFrames {M : Type 0} (taps : Taps M) (m : M) (start : Frames ℤ) (done : ℕ) (input first out : List ℤ) (now : Frames ℤ) : Type 0 where
  pub made : MakesBlock taps m start.items done input out
  pub rest_unchanged : drop (done * taps.channels m) out ≡ drop (done * taps.channels m) first
  pub line : now ≡ record start { items = pushed_all start (pieces (taps.channels m) done input) }

-- frames more, of an effect that depends on those before them: `next` of them where there were `done`
module _ {M : Type 0} (taps : Taps M) (near : IsNear taps) (m : M) (start line : Frames ℤ) (done next : ℕ) (input first out : List ℤ) (ys : List Samples) (held : length start.items ≤ start.capacity) (reach : taps.reach m ≤ start.capacity)
    (more : pieces (taps.channels m) next input ≡ pieces (taps.channels m) done input ++ ys) (old : MadeFrames taps m start done input first out line) where
  pub made-more : (new : List ℤ) (now : Frames ℤ) (zs : List Samples) → pieces (taps.channels m) next new ≡ pieces (taps.channels m) done out ++ zs → drop (next * taps.channels m) new ≡ drop (next * taps.channels m) first → zs ≡ frames_after taps m line.items ys
      → now ≡ record line { items = pushed_all line ys } → MadeFrames taps m start next input first new now
  made-more new now zs put rest made pushed =
      let xs : List Samples = pieces (taps.channels m) done input in
      record {
        made =
            put ∙ ap (λ ps. ps ++ zs) old.made ∙ ap (λ ps. frames_after taps m start.items xs ++ ps) (made ∙ ap (λ (l : Frames ℤ). frames_after taps m l.items ys) old.line)
            ∙ sym (ap (frames_after taps m start.items) more ∙ frames-joined taps near m start.capacity xs ys start.items held reach);
        rest_unchanged = rest;
        line = pushed ∙ ap (λ (l : Frames ℤ). record l { items = pushed_all l ys }) old.line ∙ ap (λ fs. record start { items = fs }) (last-joined start.capacity start.items xs ys ∙ sym (ap (λ ps. last_of start.capacity (start.items ++ ps)) more));
      }

  pub counted-more : (clips added : ℕ) → clips ≡ clips_in_block taps m start.items done input → added ≡ clips_after taps m line.items ys → clips + added ≡ clips_in_block taps m start.items next input
  counted-more clips added before counted =
      let xs : List Samples = pieces (taps.channels m) done input in
      ap (λ k. k + added) before ∙ ap (λ k. clips_after taps m start.items xs + k) (counted ∙ ap (λ (l : Frames ℤ). clips_after taps m l.items ys) old.line)
      ∙ sym (ap (clips_after taps m start.items) more ∙ clips-joined taps near m start.capacity xs ys start.items held reach)

  pub clips-more : (clips added n : ℕ) → next ≡ done + n → CountsClips taps m start.items done input clips → added ≡ clips_after taps m line.items ys → added ≤ n * taps.max_clips m → added ≤ 16 * n → CountsClips taps m start.items next input (clips + added)
  clips-more clips added n e before counted bound small = record {
    counted = counted-more clips added before.counted counted;
    bound = omega (arith, before.bound, ap (λ k. k * taps.max_clips m) e, add-mul done n (taps.max_clips m));
    small = omega (arith, before.small);
  }
