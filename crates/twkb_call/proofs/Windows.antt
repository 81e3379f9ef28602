-- The number that a call returns for the text of a window, or for the texts of a range.
use Rattle.twkb_call.proofs.Prelude.{◌≡◌, ℕ, Bool, true, false, if◌then◌else◌, Result, Ok, Err, refl}
use Rattle.twkb_head.specs.declared.boxes.Bounds.{Bounds}
use Rattle.twkb_head.specs.declared.boxes.Span.{Span}
use Rattle.twkb_layer.specs.declared.decimal.BadRange.{BadRange}
use Rattle.twkb_layer.specs.declared.decimal.BadRange.TheVariants.{Order as TurnedRound}
use Rattle.twkb_layer.specs.declared.window.BadWindow.{BadWindow}
use Rattle.twkb_layer.specs.declared.window.BadWindow.TheVariants.{Order}

pub answered_ok : (rises : Bool) (read w : Bounds) → ◌≡◌ {A = Result Bounds BadWindow} (Ok read) (if rises then Ok w else Err Order) → ◌≡◌ {A = ℕ} 0 (if rises then 0 else 2)
answered_ok true read w is = refl
answered_ok false read w is = absurd (cc (is))

pub answered_order : (rises : Bool) (why : BadWindow) (w : Bounds) → ◌≡◌ {A = Result Bounds BadWindow} (Err why) (if rises then Ok w else Err Order) → ◌≡◌ {A = ℕ} 2 (if rises then 0 else 2)
answered_order true why w is = absurd (cc (is))
answered_order false why w is = refl

pub spans_order : (above : Bool) (why : BadRange) (span : Span) → ◌≡◌ {A = Result Span BadRange} (Err why) (if above then Err TurnedRound else Ok span) → ◌≡◌ {A = ℕ} 2 (if above then 2 else 0)
spans_order true why span is = refl
spans_order false why span is = absurd (cc (is))
