-- A loop that sends frames through a row of lines after those that it sent.
use Rattle.std.proofs.Common.{◌≡◌, ◌+◌, ℕ, ℤ, List, ◌++◌, map, sym, ap, ◌∙◌}
use Rattle.std.proofs.lemmas.List.{map-append}
use Rattle.fx_frame_base.specs.Frame.{Samples}
use Rattle.fx_frame_base.specs.Holds.{total}
use Rattle.fx_frame_base.specs.Lists.{pieces}
use Rattle.fx_frame_base.specs.Stage.{Given}
use Rattle.fx_frame_base.proofs.FedLaws.{total-append}
use Rattle.fx_frame_line.specs.Line.{Frames}
use Rattle.fx_tap_delays.specs.Echo.{EchoArguments}
use Rattle.fx_tap_delays.specs.EchosState.{SendsThrough, clips_through, series_lines_after, through_lines}
use Rattle.fx_tap_delays.proofs.EchosPieces.{series_lines-more, through-more}

-- `next` frames where there were `done`, with the lines before them, `first`, and now
module _ (ch done next : ℕ) (first now : List (Frames ℤ)) (input : List ℤ) (ys : List Samples) (more : pieces ch next input ≡ pieces ch done input ++ ys) (lines : now ≡ series_lines_after ch first (pieces ch done input)) where
  pub sent-lines : series_lines_after ch now ys ≡ series_lines_after ch first (pieces ch next input)
  sent-lines = ap (λ ls. series_lines_after ch ls ys) lines ∙ sym (ap (series_lines_after ch first) more ∙ series_lines-more ch first (pieces ch done input) ys)

  module _ (a : EchoArguments) (wide : a.channels ≡ ch) where
    given-more : through_lines a first (pieces ch next input) ≡ through_lines a first (pieces ch done input) ++ through_lines a now ys
    given-more =
        let xs : List Samples = pieces ch done input in
        ap (through_lines a first) more ∙ through-more a first xs ys ∙ ap (λ w. through_lines a first xs ++ through_lines a (series_lines_after w first xs) ys) wide ∙ ap (λ ls. through_lines a first xs ++ through_lines a ls ys) (sym lines)

    pub sent-frames : (out new : List ℤ) (zs : List Samples) → SendsThrough a first ch done input out → pieces ch next new ≡ pieces ch done out ++ zs → zs ≡ map (λ (g : Given). g.samples) (through_lines a now ys) → SendsThrough a first ch next input new
    sent-frames out new zs old put made =
        let before : List Given = through_lines a first (pieces ch done input) in
        put ∙ ap (λ ps. ps ++ zs) old ∙ ap (λ ps. map (λ (g : Given). g.samples) before ++ ps) made
        ∙ sym (ap (map (λ (g : Given). g.samples)) given-more ∙ map-append (λ (g : Given). g.samples) before (through_lines a now ys))

    pub sent-clips : (clips added : ℕ) → clips ≡ clips_through a first ch done input → added ≡ total (λ (g : Given). g.clips) (through_lines a now ys) → clips + added ≡ clips_through a first ch next input
    sent-clips clips added old counted =
        let before : List Given = through_lines a first (pieces ch done input) in
        ap (λ k. k + added) old ∙ ap (λ k. total (λ (g : Given). g.clips) before + k) counted
        ∙ sym (ap (total (λ (g : Given). g.clips)) given-more ∙ total-append (λ (g : Given). g.clips) before (through_lines a now ys))
