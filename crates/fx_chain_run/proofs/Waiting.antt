-- What a writer had been given each time that a run asked its reader for more.
use Rattle.std.proofs.Common.{◌≡◌, ℕ, ◌+◌, ◌-◌, ◌*◌, ◌/◌, ◌<◌, ◌≤◌, Bool, true, List, [], ◌++◌, length, drop, min, subst, sym, ap, ◌∙◌, arith, None, Option, Some}
use Rattle.std.proofs.lemmas.List.{length-append, length-drop, length-take, take_all}
use Rattle.std.proofs.Math.Nat.{add-mul}
use Rattle.std.proofs.lemmas.Nat.{div-mul-add}
use Rattle.std.specs.Io.KnownBytes.{Appends}
use Rattle.fx_sound.specs.Known.{IfKnown}
use Rattle.fx_frame_base.specs.Io.{ByteReader}
use Rattle.fx_frame_base.specs.Moments.{Moment, came_short}
use Rattle.fx_frame_base.specs.declared.coding.Coding.{Coding}
use Rattle.fx_frame_base.specs.Holds.{kinds}
use Rattle.fx_frame_base.specs.Stage.{Acts}
use Rattle.fx_chain_flow.specs.Composed.{due_of}
use Rattle.fx_chain_flow.specs.Parts.{Parts, given_by, taken_of}
use Rattle.fx_chain_flow.proofs.Steps.{kinds-stay}
use Rattle.fx_sound.specs.Source.{AsksBeside, Held, to_come}
use Rattle.fx_sound.specs.Output.{Pending, Sent, SendsOn}
use Rattle.fx_sound.specs.Sound.{Reading, at_most_announced, beyond, size_of, within_sound}
use Rattle.fx_chain_run.specs.FrameWriter.{coded}
use Rattle.fx_chain_run.specs.Pump.{Pumped, Start}
use Rattle.fx_chain_run.specs.Run.{Flowed, sound_frames}
use Rattle.fx_chain_run.specs.Waiting.{AsksOn, Waited, WaitedUntil, asked_again, due_bytes, frames_waiting}
use Rattle.fx_chain_run.proofs.Running.{given-is}

-- where nothing is left to be sent, the writer has all of it
sent-all : (first now : Option (List ℕ)) (out : Pending) (all : List ℕ) → Sent first now out all → out.bytes ≡ [] → Appends first now all
sent-all first now out all s empty =
    let none : length (drop out.written all) ≡ 0 = ap length (sym s.waiting ∙ empty) in
    let size = length-drop out.written all in
    let whole : length all ≤ out.written = omega (arith, none, size, s.within) in
    let P : List ℕ → Type 0 = λ l. Appends first now l in
    subst P (take_all out.written all whole) s.taken

module _ {R : Type 0} (asked : R → R → Moment → Type 0) where
  -- one read more, while fewer than the wanted bytes are held
  pub AsksOn-turn : (old mid new : Held R) (want : ℕ) (now mid_now new_now : Option (List ℕ)) (out mid_out new_out : Pending)
      → AsksOn asked old mid want now out (λ more. length mid.bytes ≡ length old.bytes + more) → length mid.bytes < want
      → SendsOn now mid_now out mid_out → SendsOn mid_now new_now mid_out new_out → (mid.short ≡ true → new_out.bytes ≡ [])
      → AsksBeside asked mid new new_now → AsksOn asked old new want now out (λ more. length new.bytes ≡ length old.bytes + more)
  AsksOn-turn old mid new want now mid_now new_now out mid_out new_out before bound sends sends_now live asks = λ due first start came all sent same waited.
      let was = before due first start came all sent same waited in
      let more : ℕ = was.0 in
      let brought : ℕ = length asks.moment.delivered in
      let count : length new.bytes ≡ length mid.bytes + brought = ap length asks.brought ∙ length-append mid.bytes asks.moment.delivered in
      let fits : length old.bytes + more < want = omega (arith, bound, was.2) in
      let goes : Sent first new_now new_out all = sends_now first all (sends first all sent) in
      let P : List ℕ → Type 0 = λ l. Appends first asks.moment.taken l in
      let Q : Option (List ℕ) → Type 0 = λ t. Appends first t all in
      let seen : mid.short ≡ true → Appends first asks.moment.taken (due (came + more)) = λ short.
      subst P (sym (same more fits)) (subst Q (sym asks.seen) (sent-all first new_now new_out all goes (live short))) in
      let step = asked_again (came + more) mid.short mid.reader new.reader asks.moment was.1 asks.read seen in
      let sum : came + more + brought ≡ came + (more + brought) = omega arith in
      let At : ℕ → Type 0 = λ n. Waited asked due first start n (came_short asks.moment) new.reader in
      let Short : Bool → Type 0 = λ b. Waited asked due first start (came + (more + brought)) b new.reader in
      (more + brought, subst Short (sym asks.short) (subst At sum step), omega (arith, count, was.2))

-- frames that go off what is held are frames that were read
pub held-after : (frames count new size held left : ℕ) → new ≡ frames + count → left ≡ held - count * size → count * size ≤ held → new * size + left ≡ frames * size + held
held-after frames count new size held left more rest there =
    let e : new * size ≡ frames * size + count * size = ap (λ n. n * size) more ∙ add-mul frames count size in
    omega (arith, e, rest, there)

-- a frame was taken, and then others
pub came-turn : (frames next last size held more mid left : ℕ) → next ≡ frames + 1 → held + more ≡ size + mid → last * size + left ≡ next * size + mid
    → frames * size + held + more ≡ last * size + left
came-turn frames next last size held more mid left one frame others =
    let e : next * size ≡ frames * size + 1 * size = ap (λ n. n * size) one ∙ add-mul frames 1 size in
    omega (arith, e, frame, others)

-- the same of any announced size and size of a frame
frames-in-left : (left : Option ℕ) (size n rest : ℕ) → n * size ≤ at_most_announced left (n * size) → rest < at_most_announced (beyond left (n * size)) size
    → at_most_announced left (n * size + rest) / size ≡ n
frames-in-left None size n rest whole part = div-mul-add n size rest part
frames-in-left (Some left) size n rest whole part =
    let small : rest < size = omega (arith, part) in
    let inside : min left (n * size + rest) ≡ n * size + rest = omega (arith, part, whole) in
    rw inside (div-mul-add n size rest small)

-- so many whole frames, and less than one more, are just so many whole frames of a sound
pub frames_in-whole : (sound : Reading) (n rest : ℕ) → n * size_of sound ≤ at_most_announced sound.left (n * size_of sound)
    → rest < at_most_announced (beyond sound.left (n * size_of sound)) (size_of sound) → frames_waiting sound (n * size_of sound + rest) ≡ n
frames_in-whole sound n rest whole part = frames-in-left sound.left (size_of sound) n rest whole part

-- what is there of a sound is announced
pub announced-whole : (left : Option ℕ) (n : ℕ) (bytes : List ℕ) → n ≤ length (within_sound left bytes) → n ≤ at_most_announced left n
announced-whole None n bytes h = omega arith
announced-whole (Some left) n bytes h = let e = length-take left bytes in omega (arith, e, h)

module _ {S R : Type 0} (acts : Acts S R) where
  -- what was sent is what is due
  pub due-sent : (start at : Parts S) (coding : Coding) (frames : ℕ) (sound : Reading) (bytes : List ℕ) (clips came : ℕ) (first now : Option (List ℕ)) (out : Pending) (head : List ℕ)
      → (f : Flowed acts start at coding (sound_frames sound frames bytes) clips first now out head) → frames_waiting sound came ≡ frames
      → given_by acts at.left at.stages ≡ due_of (kinds acts start.stages) frames → due_bytes acts start coding head sound bytes came ≡ head ++ coded coding f.given
  due-sent start at coding frames sound bytes clips came first now out head f count due =
      rw count (ap (λ l. head ++ coded coding l) (given-is acts start at (sound_frames sound frames bytes) f.given (due_of (kinds acts start.stages) frames) f.through (sym due)))

module _ {S R X : Type 0} (acts : Acts S R) (device : ByteReader X) (asked : X → X → Moment → Type 0) (first : Start S X) where
  -- the reads so far, for so many bytes that came
  abbrev pub WaitsAt : ℕ → Bool → X → Type 0
  WaitsAt came short reader = IfKnown (to_come device.rest first.source) (λ bytes.
      Waited asked (due_bytes acts first.flow first.coding first.head first.progress bytes) first.wrote first.source came short reader)

  -- the same, whatever came
  abbrev pub WaitsUntil : X → Type 0
  WaitsUntil reader = IfKnown (to_come device.rest first.source) (λ bytes.
      WaitedUntil asked (due_bytes acts first.flow first.coding first.head first.progress bytes) first.wrote first.source reader)

  -- the same after more reads, by so many bytes as fit
  abbrev pub WaitsMore : ℕ → Held X → (ℕ → Type 0) → Type 0
  WaitsMore came new Fits = IfKnown (to_come device.rest first.source) (λ bytes. (more : ℕ)
      × Waited asked (due_bytes acts first.flow first.coding first.head first.progress bytes) first.wrote first.source (came + more) new.short new.reader × Fits more)

  pub WaitsMore-until : (came : ℕ) (new : Held X) (Fits : ℕ → Type 0) → WaitsMore came new Fits → WaitsUntil new.reader
  WaitsMore-until came new Fits waits = λ bytes known. let w = waits bytes known in record { came = came + w.0; short = new.short; waited = w.1 }

  -- then a frame went off what is held, and with no read others
  pub WaitsMore-turn : (came next : ℕ) (mid last : Held X) (Fits : ℕ → Type 0) → WaitsMore came mid Fits → ((more : ℕ) → Fits more → came + more ≡ next)
      → last.reader ≡ mid.reader → last.short ≡ mid.short → WaitsAt next last.short last.reader
  WaitsMore-turn came next mid last Fits waits fits reader short = λ bytes known.
      let w = waits bytes known in
      let At : ℕ → Type 0 = λ n. Waited asked (due_bytes acts first.flow first.coding first.head first.progress bytes) first.wrote first.source n mid.short mid.reader in
      let Read : X → Type 0 = λ r. Waited asked (due_bytes acts first.flow first.coding first.head first.progress bytes) first.wrote first.source next mid.short r in
      let Short : Bool → Type 0 = λ b. Waited asked (due_bytes acts first.flow first.coding first.head first.progress bytes) first.wrote first.source next b last.reader in
      subst Short (sym short) (subst Read (sym reader) (subst At (fits w.0 w.2) w.1))

  module _ (flow : Parts S) (source : Held X) (progress : Reading) (coding : Coding) (clips : ℕ) (out : Pending) (wrote : Option (List ℕ))
      (p : Pumped acts device first flow source progress coding clips out wrote)
      (due : given_by acts flow.left flow.stages ≡ due_of (kinds acts flow.stages) (taken_of flow)) where
    -- as long as less than a frame is held, just what was sent is due
    Pumped-due : (bytes : List ℕ) (known : to_come device.rest first.source ≡ Some bytes) (more : ℕ) → length source.bytes + more < at_most_announced progress.left (size_of progress)
        → due_bytes acts first.flow first.coding first.head first.progress bytes (progress.frames * size_of first.progress + length source.bytes + more) ≡ first.head ++ coded first.coding (p.flowed bytes known).given
    Pumped-due bytes known more bound =
        let n : ℕ = progress.frames in
        let size : ℕ = size_of first.progress in
        let left : progress.left ≡ beyond first.progress.left (n * size) = ap (λ (r : Reading). r.left) p.at in
        let part : length source.bytes + more < at_most_announced (beyond first.progress.left (n * size)) size = rw (left, p.size) at bound in
        let whole = announced-whole first.progress.left (n * size) bytes (p.ran bytes known).whole in
        let sum : n * size + length source.bytes + more ≡ n * size + (length source.bytes + more) = omega arith in
        let count : frames_waiting first.progress (n * size + length source.bytes + more) ≡ n = ap (frames_waiting first.progress) sum ∙ frames_in-whole first.progress n (length source.bytes + more) whole part in
        let is : given_by acts flow.left flow.stages ≡ due_of (kinds acts first.flow.stages) n = due ∙ ap (λ ks. due_of ks (taken_of flow)) (kinds-stay acts flow.stages first.flow.stages p.stay) ∙ ap (due_of (kinds acts first.flow.stages)) p.taken in
        due-sent acts first.flow flow first.coding n first.progress bytes clips (n * size + length source.bytes + more) first.wrote wrote out first.head (p.flowed bytes known) count is

    -- reads for the next frame
    pub Waits-asked : (new : Held X) (Fits : ℕ → Type 0) → AsksOn asked source new (at_most_announced progress.left (size_of progress)) wrote out Fits
        → WaitsAt (progress.frames * size_of first.progress + length source.bytes) source.short source.reader
        → WaitsMore (progress.frames * size_of first.progress + length source.bytes) new Fits
    Waits-asked new Fits asks waits = λ bytes known.
        asks (due_bytes acts first.flow first.coding first.head first.progress bytes) first.wrote first.source (progress.frames * size_of first.progress + length source.bytes)
        (first.head ++ coded first.coding (p.flowed bytes known).given) (p.flowed bytes known).sent (Pumped-due bytes known) (waits bytes known)
