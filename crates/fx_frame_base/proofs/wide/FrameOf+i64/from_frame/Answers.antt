use Rattle.std.proofs.Common.{ℤ, List, pos, refl, rules, ◌∙◌, FitsSigned}
use Rattle.std.specs.Int.{w64}
use Rattle.fx_frame_base.specs.Frame.{IsFrame}
use Rattle.fx_frame_base.proofs.Places.{places-read, stored}
use Rattle.fx_frame_base.proofs.wide.FrameOf+i64.from_frame.Goals as goal

pub of_places-requires : goal.of_places-requires
of_places-requires c =
    let xs : List ℤ = c.samples-samples.result.now in
    let frame : IsFrame xs = rw c.samples-samples.ensures.samples c.samples-samples.ensures.frame in
    (search rules, (search rules, (places-read (FitsSigned w64) (pos 0) xs _ frame.some frame.bound refl (stored w64 xs 0 c.widened_or_zero.result c.widened_or_zero.ensures, (stored w64 xs 1 c.widened_or_zero-2.result c.widened_or_zero-2.ensures, (stored w64 xs 2 c.widened_or_zero-3.result c.widened_or_zero-3.ensures, (stored w64 xs 3 c.widened_or_zero-4.result c.widened_or_zero-4.ensures, (stored w64 xs 4 c.widened_or_zero-5.result c.widened_or_zero-5.ensures, (stored w64 xs 5 c.widened_or_zero-6.result c.widened_or_zero-6.ensures, (stored w64 xs 6 c.widened_or_zero-7.result c.widened_or_zero-7.ensures, (stored w64 xs 7 c.widened_or_zero-8.result c.widened_or_zero-8.ensures, (stored w64 xs 8 c.widened_or_zero-9.result c.widened_or_zero-9.ensures, (stored w64 xs 9 c.widened_or_zero-10.result c.widened_or_zero-10.ensures, (stored w64 xs 10 c.widened_or_zero-11.result c.widened_or_zero-11.ensures, (stored w64 xs 11 c.widened_or_zero-12.result c.widened_or_zero-12.ensures, (stored w64 xs 12 c.widened_or_zero-13.result c.widened_or_zero-13.ensures, (stored w64 xs 13 c.widened_or_zero-14.result c.widened_or_zero-14.ensures, (stored w64 xs 14 c.widened_or_zero-15.result c.widened_or_zero-15.ensures, (stored w64 xs 15 c.widened_or_zero-16.result c.widened_or_zero-16.ensures, tt))))))))))))))))).0))

pub returns : goal.returns
returns c =
    let xs : List ℤ = c.samples-samples.result.now in
    let frame : IsFrame xs = rw c.samples-samples.ensures.samples c.samples-samples.ensures.frame in
    c.of_places.ensures ∙ (places-read (FitsSigned w64) (pos 0) xs _ frame.some frame.bound refl (stored w64 xs 0 c.widened_or_zero.result c.widened_or_zero.ensures, (stored w64 xs 1 c.widened_or_zero-2.result c.widened_or_zero-2.ensures, (stored w64 xs 2 c.widened_or_zero-3.result c.widened_or_zero-3.ensures, (stored w64 xs 3 c.widened_or_zero-4.result c.widened_or_zero-4.ensures, (stored w64 xs 4 c.widened_or_zero-5.result c.widened_or_zero-5.ensures, (stored w64 xs 5 c.widened_or_zero-6.result c.widened_or_zero-6.ensures, (stored w64 xs 6 c.widened_or_zero-7.result c.widened_or_zero-7.ensures, (stored w64 xs 7 c.widened_or_zero-8.result c.widened_or_zero-8.ensures, (stored w64 xs 8 c.widened_or_zero-9.result c.widened_or_zero-9.ensures, (stored w64 xs 9 c.widened_or_zero-10.result c.widened_or_zero-10.ensures, (stored w64 xs 10 c.widened_or_zero-11.result c.widened_or_zero-11.ensures, (stored w64 xs 11 c.widened_or_zero-12.result c.widened_or_zero-12.ensures, (stored w64 xs 12 c.widened_or_zero-13.result c.widened_or_zero-13.ensures, (stored w64 xs 13 c.widened_or_zero-14.result c.widened_or_zero-14.ensures, (stored w64 xs 14 c.widened_or_zero-15.result c.widened_or_zero-15.ensures, (stored w64 xs 15 c.widened_or_zero-16.result c.widened_or_zero-16.ensures, tt))))))))))))))))).1 ∙ c.samples-samples.ensures.samples
