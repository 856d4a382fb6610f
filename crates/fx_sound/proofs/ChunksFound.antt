-- What is read as a WAVE head is a sequence of chunks.
use Rattle.std.proofs.Common.{◌≡◌, ℕ, zero, suc, ◌+◌, ◌-◌, ◌%◌, ◌≤◌, min, List, [], ◌∷◌, ◌++◌, All, flat_map, length, take, drop, Bool, true, false, not, refl, subst, sym, ap, ◌∙◌, arith, nat_lt, Ok, Err, Result, Option, None, Some, codes, if◌then◌else◌}
use Rattle.std.specs.Int.{w32, from_le_bytes}
use Rattle.std.specs.Str.{bytes_eq}
use Rattle.std.proofs.lemmas.List.{append_assoc, drop-drop, length-append, length-drop, length-take-le, take-append-drop, take-take, take_min}
use Rattle.std.proofs.lemmas.Grind.{common_steps}
use Rattle.std.proofs.lemmas.Slice.Eq.{bytes_eq-Decides}
use Rattle.fx_sound.specs.declared.fields.Format.{Format}
use Rattle.fx_sound.specs.declared.fields.HeadFields.{HeadFields}
use Rattle.fx_sound.specs.declared.wave.Demand.{Demand}
use Rattle.fx_sound.specs.declared.wave.Demand.TheVariants as demand
use Rattle.fx_sound.specs.declared.wave.ChunkStep.{ChunkStep}
use Rattle.fx_sound.specs.declared.wave.ChunkStep.TheVariants as step
use Rattle.fx_sound.specs.declared.head.HeadFault.{HeadFault}
use Rattle.fx_sound.specs.declared.head.HeadFault.TheVariants.{BadHeader, HeadTooLong, Truncated, UnknownType}
use Rattle.fx_sound.specs.Chunks.{Chunk, IsChunk, IsOther, IsWave, WaveIsRead, chunk_bytes}
use Rattle.fx_sound.specs.Wave.{after_step, announced_of, after_riff, chunks_of, demand_of, max_chunk_bytes, format_asked, format_of, format_read, long_at, max_chunks, padded_chunk, sound_of, step_of, with_body, with_format}
use Rattle.fx_sound.proofs.Chunks.{chunk-front, chunk-length, drop-front, wave-is-read}

-- a test that an `Ok` came through
pub passed : {X : Type 0} (b : Bool) (fault : HeadFault) (x : Result X HeadFault) (y : X) → (if b then Err fault else x) ≡ Ok y → (b ≡ false) × (x ≡ Ok y)
passed true fault x y e = cc
passed false fault x y e = (refl, e)

-- what a name and a size asked for says of them
pub data Asks (o : ℕ) (seen : Option Format) (name : List ℕ) (size : ℕ) : Demand → Type 0 where
  Sounds : (f : Format) → name ≡ codes "data" → seen ≡ Some f → Asks o seen name size (demand.Sound (record { offset = o + 8; announced = announced_of size; format = f }))
  Says : name ≡ codes "fmt " → seen ≡ None → 16 ≤ size → o + 8 + padded_chunk size ≤ max_chunk_bytes → Asks o seen name size (demand.Format size)
  Passes : bytes_eq name (codes "data") ≡ false → bytes_eq name (codes "fmt ") ≡ false → o + 8 + padded_chunk size ≤ max_chunk_bytes → Asks o seen name size (demand.Other size)

sound-asks : (o : ℕ) (seen : Option Format) (name : List ℕ) (size : ℕ) (d : Demand) → name ≡ codes "data" → sound_of o seen size ≡ Ok d → Asks o seen name size d
sound-asks o None name size d is e = absurd (cc)
sound-asks o (Some f) name size d is e =
    let same : demand.Sound (record { offset = o + 8; announced = announced_of size; format = f }) ≡ d = cc in
    rw (← same) (Sounds f is refl)

format-asks : (o : ℕ) (seen : Option Format) (name : List ℕ) (size : ℕ) (d : Demand) → name ≡ codes "fmt " → o + 8 + padded_chunk size ≤ max_chunk_bytes → format_asked seen size ≡ Ok d → Asks o seen name size d
format-asks o (Some f) name size d is near e = absurd (cc)
format-asks o None name size d is near e =
    let both = passed (nat_lt size 16) BadHeader (Ok (demand.Format size)) d e in
    let same : demand.Format size ≡ d = let q = both.1 in cc in
    let p = both.0 in
    let long : 16 ≤ size = grind (arith, common_steps) in
    rw (← same) (Says is refl long near)

rest_of_head-asks : (b : Bool) (o : ℕ) (seen : Option Format) (name : List ℕ) (size : ℕ) (d : Demand) → bytes_eq name (codes "fmt ") ≡ b → bytes_eq name (codes "data") ≡ false → o + 8 + padded_chunk size ≤ max_chunk_bytes
    → (if not b then Ok (demand.Other size) else format_asked seen size) ≡ Ok d → Asks o seen name size d
rest_of_head-asks true o seen name size d is other near e = format-asks o seen name size d ((bytes_eq-Decides name (codes "fmt ")).0 is) near e
rest_of_head-asks false o seen name size d is other near e =
    let same : demand.Other size ≡ d = cc in
    rw (← same) (Passes other is near)

front-asks : (b : Bool) (o : ℕ) (seen : Option Format) (name : List ℕ) (size : ℕ) (d : Demand) → bytes_eq name (codes "data") ≡ b
    → (if b then sound_of o seen size else if nat_lt max_chunk_bytes (o + 8 + size + size % 2) then Err HeadTooLong else if not (bytes_eq name (codes "fmt ")) then Ok (demand.Other size) else format_asked seen size) ≡ Ok d
    → Asks o seen name size d
front-asks true o seen name size d is e = sound-asks o seen name size d ((bytes_eq-Decides name (codes "data")).0 is) e
front-asks false o seen name size d is e =
    let both = passed (nat_lt max_chunk_bytes (o + 8 + size + size % 2)) HeadTooLong (if not (bytes_eq name (codes "fmt ")) then Ok (demand.Other size) else format_asked seen size) d e in
    let p = both.0 in
    let near : o + 8 + padded_chunk size ≤ max_chunk_bytes = grind (arith, common_steps) in
    rest_of_head-asks (bytes_eq name (codes "fmt ")) o seen name size d refl is near both.1

pub demand-asks : (o : ℕ) (seen : Option Format) (name : List ℕ) (size : ℕ) (d : Demand) → demand_of o seen name size ≡ Ok d → Asks o seen name size d
unfolding demand_of
demand-asks o seen name size d e = front-asks (bytes_eq name (codes "data")) o seen name size d refl e

-- the chunk in front of these bytes
abbrev pub front_chunk : List ℕ → Chunk
front_chunk rest = record {
  name = take 4 rest;
  size = take 4 (drop 4 rest);
  body = take (long_at 4 rest) (drop 8 rest);
  pad = take (long_at 4 rest % 2) (drop (long_at 4 rest) (drop 8 rest));
}

pub front-is : (rest : List ℕ) → 8 ≤ length rest → padded_chunk (long_at 4 rest) ≤ length (drop 8 rest) → IsChunk (front_chunk rest) × (length (take (long_at 4 rest) (drop 8 rest)) ≡ long_at 4 rest)
front-is rest long there =
    let n = long_at 4 rest in
    let counted : length (take n (drop 8 rest)) ≡ n = length-take-le n (drop 8 rest) (omega (arith, there)) in
    let rest_of_head : length (drop n (drop 8 rest)) ≡ length (drop 8 rest) - n = length-drop n (drop 8 rest) in (
      record {
        named = length-take-le 4 rest (omega (arith, long));
        sized = length-take-le 4 (drop 4 rest) (omega (arith, length-drop 4 rest, long));
        counts = sym counted;
        even = length-take-le (n % 2) (drop n (drop 8 rest)) (omega (arith, rest_of_head, there)) ∙ ap (λ k. k % 2) (sym counted);
      },
      counted,
    )

pub front-layout_of_bytes : (rest : List ℕ) → rest ≡ chunk_bytes (front_chunk rest) ++ drop (padded_chunk (long_at 4 rest)) (drop 8 rest)
front-layout_of_bytes rest =
    let n = long_at 4 rest in
    let last : drop n (drop 8 rest) ≡ take (n % 2) (drop n (drop 8 rest)) ++ drop (padded_chunk n) (drop 8 rest) =
    sym (take-append-drop (n % 2) (drop n (drop 8 rest))) ∙ ap (λ t. take (n % 2) (drop n (drop 8 rest)) ++ t) (drop-drop (n % 2) n (drop 8 rest)) in
    let body : drop 8 rest ≡ take n (drop 8 rest) ++ (take (n % 2) (drop n (drop 8 rest)) ++ drop (padded_chunk n) (drop 8 rest)) =
    sym (take-append-drop n (drop 8 rest)) ∙ ap (λ t. take n (drop 8 rest) ++ t) last in
    let size : drop 4 rest ≡ take 4 (drop 4 rest) ++ drop 8 rest = sym (take-append-drop 4 (drop 4 rest)) ∙ ap (λ t. take 4 (drop 4 rest) ++ t) (drop-drop 4 4 rest) in
    let whole : rest ≡ take 4 rest ++ (take 4 (drop 4 rest) ++ (take n (drop 8 rest) ++ (take (n % 2) (drop n (drop 8 rest)) ++ drop (padded_chunk n) (drop 8 rest)))) =
    sym (take-append-drop 4 rest) ∙ ap (λ t. take 4 rest ++ t) (size ∙ ap (λ t. take 4 (drop 4 rest) ++ t) body) in
    whole ∙ sym (chunk-front (front_chunk rest) (drop (padded_chunk n) (drop 8 rest)))

-- what a step that goes on says of the bytes in front
pub data StepIs (o : ℕ) (seen : Option Format) (rest : List ℕ) : ChunkStep → Type 0 where
  Begins : (f : Format) (size sound : List ℕ) → seen ≡ Some f → length size ≡ 4 → rest ≡ codes "data" ++ (size ++ sound)
      → StepIs o seen rest (step.Sound (record { offset = o + 8; announced = announced_of (from_le_bytes w32 size); format = f }))
  Said : (c : Chunk) (rest_of_head : List ℕ) (f : Format) → IsChunk c → c.name ≡ codes "fmt " → 16 ≤ length c.body → format_of (take 40 c.body) ≡ Ok f → seen ≡ None
      → rest ≡ chunk_bytes c ++ rest_of_head → (next : ℕ) → next ≡ o + length (chunk_bytes c) → next ≤ max_chunk_bytes → StepIs o seen rest (step.Next next (Some f))
  Passed : (c : Chunk) (rest_of_head : List ℕ) → IsOther c → rest ≡ chunk_bytes c ++ rest_of_head → (next : ℕ) → next ≡ o + length (chunk_bytes c) → next ≤ max_chunk_bytes → StepIs o seen rest (step.Next next seen)

-- a format that is there was read of forty bytes of its body, or of all of it
format-said : (n : ℕ) (body : List ℕ) (f : Format) → format_read n body ≡ Ok f → (padded_chunk n ≤ length body) × (format_of (take 40 (take n body)) ≡ Ok f)
unfolding format_read
format-said n body f e =
    let both = passed (nat_lt (length body) (padded_chunk n)) Truncated (format_of (take (min n 40) body)) f e in
    let p = both.0 in
    let there : padded_chunk n ≤ length body = grind (arith, common_steps) in
    let counted : length (take n body) ≡ n = length-take-le n body (omega (arith, there)) in
    let minimum : min 40 (length (take n body)) ≡ min n 40 = omega (arith, counted) in
    let front : take (min n 40) body ≡ take 40 (take n body) =
    sym (take-take (min n 40) n body (omega arith)) ∙ ap (λ i. take i (take n body)) (sym minimum) ∙ take_min 40 (take n body) in
    (there, rw (← front) both.1)

format-next : (o : ℕ) (r : Result Format HeadFault) (s : ChunkStep) → with_format o r ≡ Ok s → (f : Format) × (r ≡ Ok f) × (step.Next o (Some f) ≡ s)
format-next o (Err fault) s e = absurd (cc)
format-next o (Ok f) s e = (f, refl, cc)

asked-is : (o : ℕ) (seen : Option Format) (rest : List ℕ) (d : Demand) (s : ChunkStep) → 8 ≤ length rest → Asks o seen (take 4 rest) (long_at 4 rest) d → with_body o seen (drop 8 rest) (Ok d) ≡ Ok s → StepIs o seen rest s
asked-is o seen rest (demand.Sound h) s long (Sounds f is shown) e =
    let same : step.Sound (record { offset = o + 8; announced = announced_of (long_at 4 rest); format = f }) ≡ s = cc in
    let layout_of_bytes : rest ≡ codes "data" ++ (take 4 (drop 4 rest) ++ drop 8 rest) =
    sym (take-append-drop 4 rest) ∙ ap (λ t. t ++ drop 4 rest) is ∙ ap (λ t. codes "data" ++ t) (sym (take-append-drop 4 (drop 4 rest)) ∙ ap (λ t. take 4 (drop 4 rest) ++ t) (drop-drop 4 4 rest)) in
    rw (← same) (Begins f (take 4 (drop 4 rest)) (drop 8 rest) shown (length-take-le 4 (drop 4 rest) (omega (arith, length-drop 4 rest, long))) layout_of_bytes)
asked-is o seen rest (demand.Format n) s long (Says is shown enough near) e =
    let next = format-next (o + 8 + padded_chunk n) (format_read n (drop 8 rest)) s e in
    let said = format-said n (drop 8 rest) next.0 next.1 in
    let chunk = front-is rest long said.0 in
    let len = chunk-length (front_chunk rest) chunk.0 in
    let whole : padded_chunk (length (front_chunk rest).body) ≡ padded_chunk n = ap padded_chunk chunk.1 in
    rw (← next.2) (Said (front_chunk rest) (drop (padded_chunk n) (drop 8 rest)) next.0 chunk.0 is (omega (arith, chunk.1, enough)) said.1 shown (front-layout_of_bytes rest) (o + 8 + padded_chunk n) (omega (arith, len, whole)) near)
asked-is o seen rest (demand.Other n) s long (Passes no_sound no_format near) e =
    let both = passed (nat_lt (length (drop 8 rest)) (padded_chunk n)) Truncated (Ok (step.Next (o + 8 + padded_chunk n) seen)) s e in
    let same : step.Next (o + 8 + padded_chunk n) seen ≡ s = let q = both.1 in cc in
    let p = both.0 in
    let there : padded_chunk n ≤ length (drop 8 rest) = grind (arith, common_steps) in
    let chunk = front-is rest long there in
    let len = chunk-length (front_chunk rest) chunk.0 in
    let whole : padded_chunk (length (front_chunk rest).body) ≡ padded_chunk n = ap padded_chunk chunk.1 in
    rw (← same) (Passed (front_chunk rest) (drop (padded_chunk n) (drop 8 rest)) (record { is = chunk.0; no_format = no_format; no_sound = no_sound }) (front-layout_of_bytes rest) (o + 8 + padded_chunk n) (omega (arith, len, whole)) near)

body-is : (o : ℕ) (seen : Option Format) (rest : List ℕ) (r : Result Demand HeadFault) (s : ChunkStep) → 8 ≤ length rest → ((d : Demand) → r ≡ Ok d → Asks o seen (take 4 rest) (long_at 4 rest) d) → with_body o seen (drop 8 rest) r ≡ Ok s → StepIs o seen rest s
body-is o seen rest (Err fault) s long asks e = absurd (cc)
body-is o seen rest (Ok d) s long asks e = asked-is o seen rest d s long (asks d refl) e

pub step-is : (o : ℕ) (seen : Option Format) (rest : List ℕ) (s : ChunkStep) → step_of o seen rest ≡ Ok s → StepIs o seen rest s
unfolding step_of
step-is o seen rest s e =
    let both = passed (nat_lt (length rest) 8) Truncated (with_body o seen (drop 8 rest) (demand_of o seen (take 4 rest) (long_at 4 rest))) s e in
    let p = both.0 in
    body-is o seen rest (demand_of o seen (take 4 rest) (long_at 4 rest)) s (grind (arith, common_steps)) (λ d is. demand-asks o seen (take 4 rest) (long_at 4 rest) d is) both.1

-- other chunks one after another
no-others : All IsOther []
no-others k d h = absurd (omega (arith, h))

one-more : (c : Chunk) (cs : List Chunk) → IsOther c → All IsOther cs → All IsOther (c ∷ cs)
one-more c cs first others zero d h = first
one-more c cs first others (suc k) d h = others k d (omega (arith, h))

-- other chunks up to the sound, after a format that was read
pub record AfterHead (o : ℕ) (f : Format) (rest : List ℕ) (l : HeadFields) : Type 0 where
  pub later : List Chunk
  pub size : List ℕ
  pub sound : List ℕ
  pub layout_of_bytes : rest ≡ flat_map chunk_bytes later ++ (codes "data" ++ (size ++ sound))
  pub sound_size : length size ≡ 4
  pub others : All IsOther later
  pub format : l.format ≡ f
  pub announced : l.announced ≡ announced_of (from_le_bytes w32 size)
  pub offset : l.offset ≡ o + length (flat_map chunk_bytes later) + 8
  pub near : l.offset ≤ max_chunk_bytes + 8

-- the bytes after a chunk
rest_of_head-chunk : (o next : ℕ) (c : Chunk) (rest rest_of_head : List ℕ) → rest ≡ chunk_bytes c ++ rest_of_head → next ≡ o + length (chunk_bytes c) → drop (next - o) rest ≡ rest_of_head
rest_of_head-chunk o next c rest rest_of_head layout_of_bytes is = ap (drop (next - o)) layout_of_bytes ∙ drop-front (next - o) (chunk_bytes c) rest_of_head (omega (arith, is))

rest_of_head-step : (n o : ℕ) (f : Format) (rest : List ℕ) (l : HeadFields) (s : ChunkStep) → o ≤ max_chunk_bytes
    → ((next : ℕ) (more : List ℕ) → next ≤ max_chunk_bytes → chunks_of n next (Some f) more ≡ Ok l → AfterHead next f more l)
    → StepIs o (Some f) rest s → after_step (chunks_of n) o rest (Ok s) ≡ Ok l → AfterHead o f rest l
rest_of_head-step n o f rest l (step.Sound h) here goes (Begins g size sound shown b layout_of_bytes) e =
    let same : record { offset = o + 8; announced = announced_of (from_le_bytes w32 size); format = g } ≡ l = cc in
    let at : o + 8 ≡ l.offset = ap (λ (x : HeadFields). x.offset) same in
    record {
      later = [];
      size = size;
      sound = sound;
      layout_of_bytes = layout_of_bytes;
      sound_size = b;
      others = no-others;
      format = let is : f ≡ g = cc in sym (ap (λ (x : HeadFields). x.format) same) ∙ sym is;
      announced = sym (ap (λ (x : HeadFields). x.announced) same);
      offset = omega (arith, at);
      near = omega (arith, at, here);
    }
rest_of_head-step n o f rest l (step.Next to (Some g)) here goes (Said c more g' is named long says shown layout_of_bytes next at near) e = absurd (cc)
rest_of_head-step n o f rest l (step.Next to seen) here goes (Passed c more other layout_of_bytes next at near) e =
    let found = goes next more near (ap (chunks_of n next (Some f)) (sym (rest_of_head-chunk o next c rest more layout_of_bytes at)) ∙ e) in
    let len = length-append (chunk_bytes c) (flat_map chunk_bytes found.later) in
    record {
      later = c ∷ found.later;
      size = found.size;
      sound = found.sound;
      layout_of_bytes = layout_of_bytes ∙ ap (λ t. chunk_bytes c ++ t) found.layout_of_bytes ∙ sym (append_assoc (chunk_bytes c) (flat_map chunk_bytes found.later) (codes "data" ++ (found.size ++ found.sound)));
      sound_size = found.sound_size;
      others = one-more c found.later other found.others;
      format = found.format;
      announced = found.announced;
      offset = omega (arith, found.offset, at, len);
      near = found.near;
    }

rest_of_head-result : (n o : ℕ) (f : Format) (rest : List ℕ) (l : HeadFields) (r : Result ChunkStep HeadFault) → o ≤ max_chunk_bytes
    → ((next : ℕ) (more : List ℕ) → next ≤ max_chunk_bytes → chunks_of n next (Some f) more ≡ Ok l → AfterHead next f more l)
    → ((s : ChunkStep) → r ≡ Ok s → StepIs o (Some f) rest s) → after_step (chunks_of n) o rest r ≡ Ok l → AfterHead o f rest l
rest_of_head-result n o f rest l (Err fault) here goes is e = absurd (cc)
rest_of_head-result n o f rest l (Ok s) here goes is e = rest_of_head-step n o f rest l s here goes (is s refl) e

pub rest_of_head-found : (n o : ℕ) (f : Format) (rest : List ℕ) (l : HeadFields) → o ≤ max_chunk_bytes → chunks_of n o (Some f) rest ≡ Ok l → AfterHead o f rest l
unfolding chunks_of
rest_of_head-found zero o f rest l here e = absurd (cc)
rest_of_head-found (suc n) o f rest l here e =
    rest_of_head-result n o f rest l (step_of o (Some f) rest) here (λ next more near known. rest_of_head-found n next f more l near known) (λ s is. step-is o (Some f) rest s is) e

-- other chunks, the format, other chunks and the sound
pub record Found (o : ℕ) (rest : List ℕ) (l : HeadFields) : Type 0 where
  pub earlier : List Chunk
  pub format : Chunk
  pub rest_of_head : List ℕ
  pub layout_of_bytes : rest ≡ flat_map chunk_bytes earlier ++ (chunk_bytes format ++ rest_of_head)
  pub others : All IsOther earlier
  pub is_format : IsChunk format
  pub named : format.name ≡ codes "fmt "
  pub long : 16 ≤ length format.body
  pub says : format_of (take 40 format.body) ≡ Ok l.format
  pub last : AfterHead (o + length (flat_map chunk_bytes earlier) + length (chunk_bytes format)) l.format rest_of_head l

found-step : (n o : ℕ) (rest : List ℕ) (l : HeadFields) (s : ChunkStep) → o ≤ max_chunk_bytes
    → ((next : ℕ) (more : List ℕ) → next ≤ max_chunk_bytes → chunks_of n next None more ≡ Ok l → Found next more l)
    → StepIs o None rest s → after_step (chunks_of n) o rest (Ok s) ≡ Ok l → Found o rest l
found-step n o rest l (step.Sound h) here goes (Begins g size sound shown b layout_of_bytes) e = absurd (cc)
found-step n o rest l (step.Next to (Some g)) here goes (Said c more g' is named long says shown layout_of_bytes next at near) e =
    let last = rest_of_head-found n next g more l near (ap (chunks_of n next (Some g)) (sym (rest_of_head-chunk o next c rest more layout_of_bytes at)) ∙ e) in
    let start : next ≡ o + length (flat_map chunk_bytes []) + length (chunk_bytes c) = omega (arith, at) in
    record {
      earlier = [];
      format = c;
      rest_of_head = more;
      layout_of_bytes = layout_of_bytes;
      others = no-others;
      is_format = is;
      named = named;
      long = long;
      says = says ∙ ap Ok (sym last.format);
      last = subst (λ (x : Format). AfterHead (o + length (flat_map chunk_bytes []) + length (chunk_bytes c)) x more l) (sym last.format) (rw (← start) last);
    }
found-step n o rest l (step.Next to seen) here goes (Passed c more other layout_of_bytes next at near) e =
    let found = goes next more near (ap (chunks_of n next None) (sym (rest_of_head-chunk o next c rest more layout_of_bytes at)) ∙ e) in
    let len = length-append (chunk_bytes c) (flat_map chunk_bytes found.earlier) in
    let start : next + length (flat_map chunk_bytes found.earlier) + length (chunk_bytes found.format) ≡ o + length (flat_map chunk_bytes (c ∷ found.earlier)) + length (chunk_bytes found.format) = omega (arith, at, len) in
    record {
      earlier = c ∷ found.earlier;
      format = found.format;
      rest_of_head = found.rest_of_head;
      layout_of_bytes = layout_of_bytes ∙ ap (λ t. chunk_bytes c ++ t) found.layout_of_bytes ∙ sym (append_assoc (chunk_bytes c) (flat_map chunk_bytes found.earlier) (chunk_bytes found.format ++ found.rest_of_head));
      others = one-more c found.earlier other found.others;
      is_format = found.is_format;
      named = found.named;
      long = found.long;
      says = found.says;
      last = rw (← start) found.last;
    }

found-result : (n o : ℕ) (rest : List ℕ) (l : HeadFields) (r : Result ChunkStep HeadFault) → o ≤ max_chunk_bytes
    → ((next : ℕ) (more : List ℕ) → next ≤ max_chunk_bytes → chunks_of n next None more ≡ Ok l → Found next more l)
    → ((s : ChunkStep) → r ≡ Ok s → StepIs o None rest s) → after_step (chunks_of n) o rest r ≡ Ok l → Found o rest l
found-result n o rest l (Err fault) here goes is e = absurd (cc)
found-result n o rest l (Ok s) here goes is e = found-step n o rest l s here goes (is s refl) e

pub chunks-found : (n o : ℕ) (rest : List ℕ) (l : HeadFields) → o ≤ max_chunk_bytes → chunks_of n o None rest ≡ Ok l → Found o rest l
unfolding chunks_of
chunks-found zero o rest l here e = absurd (cc)
chunks-found (suc n) o rest l here e =
    found-result n o rest l (step_of o None rest) here (λ next more near known. chunks-found n next more l near known) (λ s is. step-is o None rest s is) e

-- a test that was not refused
is-so : (b : Bool) → not b ≡ false → b ≡ true
is-so true e = refl
is-so false e = absurd (cc)

pub wave-found : (bytes : List ℕ) (l : HeadFields) → after_riff bytes ≡ Ok l → IsWave bytes l
unfolding after_riff
wave-found bytes l e =
    let there = passed (nat_lt (length bytes) 8) Truncated (if not (bytes_eq (take 4 (drop 4 bytes)) (codes "WAVE")) then Err UnknownType else chunks_of max_chunks 12 None (drop 8 bytes)) l e in
    let named = passed (not (bytes_eq (take 4 (drop 4 bytes)) (codes "WAVE"))) UnknownType (chunks_of max_chunks 12 None (drop 8 bytes)) l there.1 in
    let wave : take 4 (drop 4 bytes) ≡ codes "WAVE" = (bytes_eq-Decides (take 4 (drop 4 bytes)) (codes "WAVE")).0 (is-so (bytes_eq (take 4 (drop 4 bytes)) (codes "WAVE")) named.0) in
    let p = there.0 in
    let long : 8 ≤ length bytes = grind (arith, common_steps) in
    let found = chunks-found max_chunks 12 (drop 8 bytes) l (omega arith) named.1 in
    let last = found.last in
    let front : bytes ≡ take 4 bytes ++ (codes "WAVE" ++ drop 8 bytes) =
    sym (take-append-drop 4 bytes) ∙ ap (λ t. take 4 bytes ++ t) (sym (take-append-drop 4 (drop 4 bytes)) ∙ ap (λ t. t ++ drop 4 (drop 4 bytes)) wave ∙ ap (λ t. codes "WAVE" ++ t) (drop-drop 4 4 bytes)) in
    record {
      whole = take 4 bytes;
      earlier = found.earlier;
      format = found.format;
      later = last.later;
      size = last.size;
      sound = last.sound;
      layout_of_bytes = front ∙ ap (λ t. take 4 bytes ++ (codes "WAVE" ++ t)) (found.layout_of_bytes ∙ ap (λ t. flat_map chunk_bytes found.earlier ++ (chunk_bytes found.format ++ t)) last.layout_of_bytes);
      whole_size = length-take-le 4 bytes (omega (arith, long));
      sound_size = last.sound_size;
      others = (found.others, last.others);
      is_format = found.is_format;
      named = found.named;
      long = found.long;
      says = found.says;
      announced = last.announced;
      offset = last.offset;
      near = last.near;
    }

pub wave_is_read : WaveIsRead
wave_is_read bytes l = (λ w. wave-is-read bytes l w, λ e. wave-found bytes l e)
