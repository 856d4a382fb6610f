use Rattle.std.proofs.Common.{◌≡◌, Bool, true, false, refl, ℤ, List, FitsSigned}
use Rattle.std.specs.Int.{w32}
use Rattle.std.specs.List.{All}
use Rattle.fx_frame_line.specs.Line.{Frames, pushed_all}
use Rattle.fx_frame_line.proofs.ManyFrames.{All-pieces, All-pushed_all}
use Rattle.fx_frame.proofs.line.LineOf+i32.exchange_frames.Goals as goal

-- whether they were exchanged or not, each sample of the line fits
fits-after : (b : Bool) (old new : Frames ℤ) (fs : List (List ℤ)) → (b ≡ true → new.items ≡ pushed_all old fs) → (b ≡ false → new ≡ old) → All (All (FitsSigned w32)) old.items → All (All (FitsSigned w32)) fs → All (All (FitsSigned w32)) new.items
fits-after true old new fs items kept held came = All-pushed_all (All (FitsSigned w32)) old fs new.items held came (items refl)
fits-after false old new fs items kept held came = let same : new ≡ old = kept refl in rw same held

pub invariant_of-self : goal.invariant_of-self
invariant_of-self c =
    fits-after c.exchange_frames.result c.self.inside.ring c.exchange_frames.new.self _ c.exchange_frames.ensures.items (λ no. (c.exchange_frames.ensures.kept no).0) c.self.invariant
    (All-pieces (FitsSigned w32) c.self.inside.ring.channels c.args.count c.args.frames.now c.see_samples.ensures)
