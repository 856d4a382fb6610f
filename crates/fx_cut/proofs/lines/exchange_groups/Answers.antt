use Rattle.std.proofs.Common.{append_assoc, ◌≡◌, ◌+◌, ◌-◌, ◌*◌, ◌≤◌, ℕ, List, ◌++◌, length, take, drop, sym, refl, ap, ◌∙◌, arith, ℤ}
use Rattle.std.proofs.lemmas.List.{drop-drop, length-drop, length-take-le}
use Rattle.std.proofs.Math.Nat.{add-mul, mul-le-mul_right}
use Rattle.fx_frame_base.specs.Frame.{Samples}
use Rattle.fx_frame_base.specs.Lists.{pieces}
use Rattle.fx_frame_base.proofs.Pieces.{length-pieces}
use Rattle.fx_frame_base.proofs.Puts.{pieces-split, drop-put, pieces-take}
use Rattle.fx_frame_line.specs.Line.{Frames}
use Rattle.fx_frame_line.proofs.ManyFrames.{pieces-put_many}
use Rattle.fx_frame.specs.Tapped.{last_of}
use Rattle.fx_frame.proofs.TapBlocks.{last-joined}
use Rattle.fx_cut.proofs.Onto.{full-more}
use Rattle.fx_cut.proofs.lines.exchange_groups.Goals as goal

pub slice_bounds-exchange_group-end : goal.slice_bounds-exchange_group-end
slice_bounds-exchange_group-end c =
    let ch : ℕ = c.args.channels in
    let size = rw (← c.requires.channels) at c.requires.samples in
    let within : c.groups.done + c.min-now.result ≤ c.args.count = omega arith in
    omega (arith, mul-le-mul_right ch within, add-mul c.groups.done c.min-now.result ch, size, c.groups.auto.samples)

pub groups-preserved : goal.groups-preserved
groups-preserved c =
    let ch : ℕ = c.args.channels in
    let done : ℕ = c.groups.done in
    let n : ℕ = c.min-now.result in
    let at : ℕ = done * ch in
    let start : List ℤ = c.args.samples.now in
    let line : Frames ℤ = c.args.line.now in
    let items : List Samples = line.items in
    let free : ℕ = line.capacity in
    let out : List ℤ = c.groups.samples in
    let made : List ℤ = c.exchange_group.new.samples in
    let old = c.groups.invariant in
    let size = rw (← c.requires.channels) at c.requires.samples in
    let full : length items ≡ free = c.requires.full (omega arith) in
    let within : done + n ≤ c.args.count = omega arith in
    let all : (done + n) * ch ≤ c.args.count * ch = mul-le-mul_right ch within in
    let both : (done + n) * ch ≡ at + n * ch = add-mul done n ch in
    let width : at + n * ch - at ≡ n * ch = omega arith in
    let lined : c.groups.line.channels ≡ ch = old.line_channels ∙ sym c.requires.channels in
    let xs : List Samples = pieces ch done start in
    let part : List ℤ = take (n * ch) (drop at start) in
    let ys : List Samples = pieces ch n part in
    let read : n * ch ≤ length (drop at start) = omega (arith, both, all, size, length-drop at start) in
    let more : pieces ch (done + n) start ≡ xs ++ ys = pieces-split ch done n start ∙ ap (λ ps. xs ++ ps) (sym (pieces-take ch n (drop at start) read)) in
    let fits : at + n * ch ≤ length out = omega (arith, both, all, size, c.groups.auto.samples) in
    let ensured = rw (lined, width, old.rest_unchanged) at c.exchange_group.ensures in
    let kept = rw width at c.exchange_group.auto.samples in
    let sides : length made ≡ n * ch = kept ∙ length-take-le (n * ch) (drop at out) (omega (arith, fits, length-drop at out)) in
    let new : List ℤ = take at out ++ (made ++ drop (n * ch) (drop at out)) in
    let put : new ≡ take at out ++ made ++ drop (at + length made) out =
    sym (append_assoc (take at out) made (drop (n * ch) (drop at out)))
    ∙ ap (λ rest. take at out ++ made ++ rest) (drop-drop (n * ch) at out ∙ ap (λ k. drop (at + k) out) (sym sides)) in
    rw width
    record {
      within = within;
      fallen =
          pieces-put_many ch done n at out made new refl sides fits put ∙ ap (λ ps. ps ++ pieces ch n made) old.fallen
          ∙ ap (λ ps. take done (items ++ xs) ++ ps) (ensured.oldest ∙ ap (λ l. take n (l ++ ys)) old.items)
          ∙ full-more line xs ys done n full (length-pieces ch done start) (length-pieces ch n part)
          ∙ sym (ap (λ ps. take (done + n) (items ++ ps)) more);
      rest_unchanged = rw both (drop-put at (n * ch) start out made new sides fits put old.rest_unchanged);
      items =
          ensured.items ∙ ap (λ k. last_of k (c.groups.line.items ++ ys)) old.line_capacity
          ∙ ap (λ l. last_of free (l ++ ys)) old.items ∙ last-joined free items xs ys ∙ sym (ap (λ ps. last_of free (items ++ ps)) more);
      line_capacity = c.exchange_group.ensures.capacity ∙ old.line_capacity;
      line_channels = c.exchange_group.ensures.channels ∙ old.line_channels;
    }
