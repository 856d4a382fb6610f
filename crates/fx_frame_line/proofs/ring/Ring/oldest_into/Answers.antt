use Rattle.std.proofs.Common.{ℕ, List, ◌*◌, ◌++◌, take, drop, ◌∙◌, ap, sym, refl}
use Rattle.std.proofs.lemmas.List.{length-take-le, drop_at}
use Rattle.fx_frame_line.proofs.ManyFrames.{ring-seam, ring-oldest, front-written, own-copied, rest-long}
use Rattle.fx_frame_line.proofs.ring.Ring.oldest_into.Goals as goal

pub slice_bounds-copy_from_slice-length-2 : goal.slice_bounds-copy_from_slice-length-2
slice_bounds-copy_from_slice-length-2 g c =
    let seam = ring-seam _ _ _ _ _ c.self.view_is c.self.invariant c.args.coming.now c.args.count _ c.min-own.ensures c.requires.enough in
    sym (length-take-le _ c.args.coming.now seam.rest)

pub copy_from_slice-requires : goal.copy_from_slice-requires
copy_from_slice-requires g c =
    let seam = ring-seam _ _ _ _ _ c.self.view_is c.self.invariant c.args.coming.now c.args.count _ c.min-own.ensures c.requires.enough in
    let free = rw (← c.self.view_is) at c.requires.free in
    let joined = c.as_slices.ensures in
    let own = own-copied _ c.args.out.now _ _ _ seam.is free (rw joined at c.copy_part.ensures) in
    rest-long _ c.args.out.now c.args.coming.now _ _ own.1 own.2 free seam.rest

pub returns-clause-frames : goal.returns-clause-frames
returns-clause-frames g c =
    let seam = ring-seam _ _ _ _ _ c.self.view_is c.self.invariant c.args.coming.now c.args.count _ c.min-own.ensures c.requires.enough in
    let free = rw (← c.self.view_is) at c.requires.free in
    let joined = c.as_slices.ensures in
    let own = own-copied _ c.args.out.now _ _ _ seam.is free (rw joined at c.copy_part.ensures) in
    ring-oldest _ _ _ _ _ c.self.view_is c.self.invariant c.args.coming.now c.args.out.now _ c.args.count (front-written c.self.inside.samples.items c.args.coming.now c.args.out.now _ _ _ _ _ seam.is free seam.within own.0 c.copy_from_slice.ensures.after refl) seam.within

pub returns-clause-rest_unchanged : goal.returns-clause-rest_unchanged
returns-clause-rest_unchanged g c =
    let seam = ring-seam _ _ _ _ _ c.self.view_is c.self.invariant c.args.coming.now c.args.count _ c.min-own.ensures c.requires.enough in
    let free = rw (← c.self.view_is) at c.requires.free in
    let joined = c.as_slices.ensures in
    let own = own-copied _ c.args.out.now _ _ _ seam.is free (rw joined at c.copy_part.ensures) in
    let end : ℕ = c.args.count * c.self.inside.channels in
    let all : List g.row.T.Denot = c.self.inside.samples.items ++ c.args.coming.now in
    let written = front-written c.self.inside.samples.items c.args.coming.now c.args.out.now _ _ end _ _ seam.is free seam.within own.0 c.copy_from_slice.ensures.after refl in
    rw (← c.self.view_is) (ap (drop end) written ∙ drop_at (take end all) (drop end c.args.out.now) end (length-take-le end all seam.within))
