use Rattle.std.proofs.Common.{◌≡◌, ◌<◌, length, rules}
use Rattle.soxchain_common.proofs.Fronts.{front-ended, front-full}
use Rattle.soxchain_common.proofs.files.read_front.Goals as goal

pub returns-then-delivered-eq0-clause-front : goal.returns-then-delivered-eq0-clause-front
returns-then-delivered-eq0-clause-front g c =
    let rest = g.R.ByteIn.reads.rest in
    let asked : 0 < length c.read.new.buffer = search rules in
    front-ended (rest c.args.reader.now) (rest c.loop-piece.reader) (rest c.read.new.self) c.loop-piece.bytes.items c.read.new.buffer c.in-Ok.delivered 1048577
    c.loop-piece.invariant.came c.in-Ok.ensures.bytes c.if-delivered-eq0.true (c.in-Ok.ensures.end c.if-delivered-eq0.true asked) c.loop-piece.invariant.bound

pub returns-clause-front : goal.returns-clause-front
returns-clause-front g c =
    let rest = g.R.ByteIn.reads.rest in
    let full : length c.loop-piece.bytes.items ≡ 1048577 = search rules in
    front-full (rest c.args.reader.now) (rest c.loop-piece.reader) c.loop-piece.bytes.items 1048577 c.loop-piece.invariant.came full
