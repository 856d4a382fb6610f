use Rattle.std.proofs.Common.{◌≡◌, ◌<◌, ◌∙◌, ap, arith, length, refl, [], slice_index_or, sym}
use Rattle.std.proofs.lemmas.List.{length-map}
use Rattle.fx_plan.specs.CommandLines.{coefficient_files, effects_in}
use Rattle.fx_plan.specs.Plans.{plan_bytes}
use Rattle.soxchain_common.specs.Files.{Bytes, Names}
use Rattle.soxchain_common.proofs.Fronts.{name-at, one-on, read-to}
use Rattle.soxchain_common.proofs.files.read_files.Goals as goal

pub returns-in_default-clause-named : goal.returns-in_default-clause-named
returns-in_default-clause-named g c = Names refl

pub returns-in-Err-Failed-clause-named : goal.returns-in-Err-Failed-clause-named
returns-in-Err-Failed-clause-named g c =
    let names = c.in-Ok.names.items in
    let within : c.loop-place.place < length names = omega (arith, c.loop-place-test.true) in
    record {
      place = c.loop-place.place;
      before = c.loop-place.host;
      front = read-to _ _ _ _ names _ _ c.loop-place.place c.index-name.result.now _ c.in-Ok.ensures within c.index-name.ensures c.loop-place.invariant;
      asked = c.in-Err-Failed.ensures.failed c.in-Err-Failed.field-0-is;
    }

pub returns-in-Err-Memory-clause-named : goal.returns-in-Err-Memory-clause-named
returns-in-Err-Memory-clause-named g c =
    let names = c.in-Ok.names.items in
    let within : c.loop-place.place < length names = omega (arith, c.loop-place-test.true) in
    Bytes c.loop-place.place c.index-name.result.now.now c.loop-place.host
    (read-to _ _ _ _ names _ _ c.loop-place.place c.index-name.result.now _ c.in-Ok.ensures within c.index-name.ensures c.loop-place.invariant)
    (c.in-Err-Memory.ensures.memory_refused c.in-Err-Memory.field-0-is)

pub loop-place-preserved : goal.loop-place-preserved
loop-place-preserved g c =
    let names = c.in-Ok.names.items in
    let place = c.loop-place.place in
    let name = c.index-name.result.now in
    let all = coefficient_files (effects_in c.args.line.now) in
    let within : place < length names = omega (arith, c.loop-place-test.true) in
    let is-name : slice_index_or all place [] ≡ name.now = rw (← c.in-Ok.ensures) (name-at names place name within ∙ ap (λ n. n.now) (sym c.index-name.ensures)) in
    let there : place < length all = rw (← c.in-Ok.ensures) (omega (arith, within, length-map names (λ n. n.now))) in
    let read = c.in-Ok-read_next.ensures.read in
    let far = one-on _ _ c.args.host.now c.loop-place.host c.read_next.new.host all (plan_bytes c.loop-place.files.items) place name.now read.0 c.loop-place.invariant there is-name read.1 in
    rw (read.2) far
