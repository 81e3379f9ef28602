-- Devices of proofs: nothing public names them.
-- What the reader of a window's text tests, and what its answers mean.
use Rattle.std.specs.Prelude.{◌≡◌, ◌≢◌, ℕ, ◌==◌, ◌&&◌, Bool, true, false, not, List, [], ◌∷◌, ◌++◌, Option, Some, None, IfSome}
use Rattle.std.specs.Char.{is_ascii_digit}
use Rattle.std.specs.Str.Parse.{AllDigits}
use Rattle.twkb_head.specs.declared.boxes.Span.{Span}
use Rattle.twkb_layer.specs.WindowText.{point_and, IsNamedText, IsNamedTextIfAny}

-- the text begins with a digit
abbrev pub starts_digit : List ℕ → Bool
starts_digit [] = false
starts_digit (c ∷ cs) = is_ascii_digit c

-- the text begins with a point, and then a digit
abbrev pub starts_fraction : List ℕ → Bool
starts_fraction [] = false
starts_fraction (c ∷ cs) = (c == 46) && starts_digit cs

-- no number goes on here
abbrev pub number_ends : List ℕ → Bool
number_ends text = not (starts_digit text) && not (starts_fraction text)

-- a front was passed that is the text of this value
abbrev pub Passes : {A : Type 0} → (List ℕ → A → Type 0) → List ℕ → List ℕ → A → Type 0
Passes IsText old new x = (front : List ℕ) × (old ≡ front ++ new) × IsText front x

-- each text of a value at the front is read, if no number goes on after it
abbrev pub ReadsEach : {A : Type 0} → (List ℕ → A → Type 0) → List ℕ → List ℕ → Option A → Type 0
ReadsEach {A} IsText old new result = (front behind : List ℕ) (x : A) → old ≡ front ++ behind → IsText front x
    → number_ends behind ≡ true → (result ≡ Some x) × (new ≡ behind)

-- each point with digits after it, or neither, at the front is read, if no number goes on after it
abbrev pub ReadsFraction : List ℕ → List ℕ → List ℕ → Type 0
ReadsFraction old new fraction = (digits behind : List ℕ) → old ≡ point_and digits ++ behind → AllDigits 10 digits
    → number_ends behind ≡ true → (fraction ≡ digits) × (new ≡ behind)

-- Each text of a name and a range at the front is read, if no number goes on after it. Without a range nothing is read, if the
-- text doesn't begin with the name.
abbrev pub ReadsEachIfAny : List ℕ → List ℕ → List ℕ → Option (Option Span) → Type 0
ReadsEachIfAny name old new result = (front behind : List ℕ) (span : Option Span) → old ≡ front ++ behind
    → IsNamedTextIfAny name front span → number_ends behind ≡ true
    → (span ≡ None → (rest : List ℕ) → behind ≢ name ++ rest) → (result ≡ Some span) × (new ≡ behind)

-- a name and a range are read exactly if the text begins with them and no number goes on after them
pub record ReadsSpan (name old new : List ℕ) (result : Option Span) : Type 0 where
  pub some : IfSome result (Passes (IsNamedText name) old new)
  pub exact : ReadsEach (IsNamedText name) old new result
