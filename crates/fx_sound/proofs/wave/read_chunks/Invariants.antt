use Rattle.std.proofs.Common.{◌≡◌, ℕ, ◌+◌, ◌-◌, ◌*◌, ◌<◌, ◌≤◌, None, Some, length, take, drop, Err}
use Rattle.fx_sound.specs.declared.head.HeadFault.TheVariants.{Truncated}
use Rattle.fx_sound.specs.Source.{to_come, Takes}
use Rattle.fx_sound.specs.Known.{IfKnown}
use Rattle.fx_sound.specs.Wave.{IsProperSeen, max_chunk_bytes, chunks_of, max_chunks}
use Rattle.fx_sound.proofs.wave.read_chunks.Given as goal

abbrev pub invariant-loop-turn : goal.invariant-loop-turn
invariant-loop-turn g l = record {
  far : 12 + 8 * l._turn ≤ l.offset;
  near : l.offset ≤ max_chunk_bytes;
  seen : IsProperSeen l.seen;
  rest : IfKnown (to_come g.R.ByteIn.reads.rest l.initial.source) (λ bytes.
      (l.offset - 12 ≤ length bytes)
      × (to_come g.R.ByteIn.reads.rest l.source ≡ Some (drop (l.offset - 12) bytes))
      × (chunks_of (max_chunks - l._turn) l.offset l.seen (drop (l.offset - 12) bytes) ≡ chunks_of max_chunks 12 None bytes));
  delivered : Takes g.R.ByteIn.reads.delivered l.initial.source l.source (l.offset - 12);
  cut : IfKnown (to_come g.R.ByteIn.reads.rest l.initial.source) (λ bytes. (k : ℕ)
      → chunks_of (max_chunks - l._turn) l.offset l.seen (take k (drop (l.offset - 12) bytes)) ≡ chunks_of max_chunks 12 None (take (l.offset - 12 + k) bytes));
  early : IfKnown (to_come g.R.ByteIn.reads.rest l.initial.source) (λ bytes. (k : ℕ) → k < l.offset - 12 → chunks_of max_chunks 12 None (take k bytes) ≡ Err Truncated);
  failures : g.R.ByteIn.reads.failures l.source.reader ≡ g.R.ByteIn.reads.failures l.initial.source.reader;
}
