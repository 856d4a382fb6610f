-- What came before a read failed, chunk by chunk.
use Rattle.std.proofs.Common.{◌≡◌, ℕ, ◌+◌, ◌-◌, ◌<◌, ◌≤◌, inl, inr, List, length, take, drop, sym, ap, ◌∙◌, arith, Ok, Err, Option, None}
use Rattle.std.proofs.lemmas.Bool.{cases_lt}
use Rattle.std.proofs.lemmas.List.{drop-take, drop-drop}
use Rattle.fx_sound.specs.declared.fields.Format.{Format}
use Rattle.fx_sound.specs.declared.head.HeadFault.TheVariants.{Truncated}
use Rattle.fx_sound.specs.declared.wave.ChunkStep.TheVariants as step
use Rattle.fx_sound.specs.Wave.{step_of, chunks_of}
use Rattle.fx_sound.proofs.WaveLemmas.{turn-fault, turn-next}
use Rattle.fx_sound.proofs.WaveLocal.{step_of-early, step_of-local}

pub cut-next : (m t o next : ℕ) (seen format : Option Format) (bytes : List ℕ) → t < m → 12 ≤ o → o + 8 ≤ next
    → step_of o seen (drop (o - 12) bytes) ≡ Ok (step.Next next format) → next - o ≤ length (drop (o - 12) bytes)
    → ((k : ℕ) → chunks_of (m - t) o seen (take k (drop (o - 12) bytes)) ≡ chunks_of m 12 None (take (o - 12 + k) bytes))
    → (k : ℕ) → chunks_of (m - (t + 1)) next format (take k (drop (next - 12) bytes)) ≡ chunks_of m 12 None (take (next - 12 + k) bytes)
cut-next m t o next seen format bytes h a b e l old k =
    let j : ℕ = next - o in
    let r : List ℕ = drop (o - 12) bytes in
    let same : o - 12 + (next - o) ≡ next - 12 = omega arith in
    let far : o - 12 + (next - o + k) ≡ next - 12 + k = omega arith in
    let local : step_of o seen (take (next - o + k) (drop (o - 12) bytes)) ≡ Ok (step.Next next format) =
    step_of-local o seen (drop (o - 12) bytes) (next - o + k) (step.Next next format) e b (omega arith) l in
    let rest : drop (next - o) (take (next - o + k) (drop (o - 12) bytes)) ≡ take k (drop (next - 12) bytes) =
    drop-take (next - o) k (drop (o - 12) bytes) ∙ ap (take k) (drop-drop (next - o) (o - 12) bytes ∙ ap (λ i. drop i bytes) same) in
    ap (chunks_of (m - (t + 1)) next format) (sym rest)
    ∙ sym (turn-next m t o next seen format (take (next - o + k) (drop (o - 12) bytes)) h local)
    ∙ old (next - o + k)
    ∙ ap (λ i. chunks_of m 12 None (take i bytes)) far

-- bytes that end before the next chunk decide nothing
pub early-next : (m t o next : ℕ) (seen format : Option Format) (bytes : List ℕ) → t < m → 12 ≤ o
    → step_of o seen (drop (o - 12) bytes) ≡ Ok (step.Next next format)
    → ((k : ℕ) → chunks_of (m - t) o seen (take k (drop (o - 12) bytes)) ≡ chunks_of m 12 None (take (o - 12 + k) bytes))
    → ((k : ℕ) → k < o - 12 → chunks_of m 12 None (take k bytes) ≡ Err Truncated)
    → (k : ℕ) → k < next - 12 → chunks_of m 12 None (take k bytes) ≡ Err Truncated
early-next m t o next seen format bytes h a e cut early k lt = elim (cases_lt k (o - 12)) [
  | inl before ↦ early k before
  | inr within ↦
      let place : o - 12 + (k - (o - 12)) ≡ k = omega arith in
      ap (λ i. chunks_of m 12 None (take i bytes)) (sym place) ∙ sym (cut (k - (o - 12)))
      ∙ turn-fault m t o seen (take (k - (o - 12)) (drop (o - 12) bytes)) Truncated h (step_of-early o seen (drop (o - 12) bytes) (k - (o - 12)) next format e (omega arith))
]
