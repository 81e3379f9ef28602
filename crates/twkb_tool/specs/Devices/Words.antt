-- Devices of proofs: nothing public names them.
-- The texts of windows, read one by one.
use Rattle.std.specs.Prelude.{◌≡◌, ℕ, List}
use Rattle.clap.specs.Words.{Text}
use Rattle.twkb_head.specs.declared.boxes.Bounds.{Bounds}
use Rattle.twkb_tool.specs.declared.words.Usage.{Usage}
use Rattle.twkb_tool.specs.declared.words.Usage.TheVariants.{Words, TooMany, Window as NoWindow, Memory}
use Rattle.twkb_tool.specs.Words.{IsBadText, IsFirstBad, IsWindow}

-- why no window is added for the text of this number: it is no window, or memory ran out
abbrev pub IsNoWindowMore : ℕ → Text → Usage → Type 0
IsNoWindowMore number text (NoWindow n why) = (n ≡ number) × IsBadText text why
IsNoWindowMore number text Memory = (window : Bounds) × IsWindow text window
IsNoWindowMore number text TooMany = ⊥
IsNoWindowMore number text (Words error) = ⊥

-- why texts are no windows, or memory ran out
abbrev pub AreNoWindows : List Text → Usage → Type 0
AreNoWindows texts (NoWindow number why) = IsFirstBad texts number why
AreNoWindows texts Memory = Unit {0}
AreNoWindows texts TooMany = ⊥
AreNoWindows texts (Words error) = ⊥
