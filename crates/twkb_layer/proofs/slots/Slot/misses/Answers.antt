-- Raw integers give the answer of units, since ends of 32 bits are neither the least nor the greatest number of 64.
use Rattle.twkb_layer.proofs.Prelude.{◌≡◌, true, Bool, if◌then◌else◌, Some, None, ap, sym, subst, ◌∙◌, AreInner, IsRawWindow, raw_box_misses, ends_in, is_boxed, precision_in, is_missed, span_at}
use Rattle.twkb_layer.proofs.RawLooks.{short_judged}
use Rattle.twkb_layer.proofs.slots.Slot.misses.Goals as goal

pub returns-then-is_boxed : goal.returns-then-is_boxed
returns-then-is_boxed c =
    let slot = c.args.self.now in
    let w = c.args.windows.now in
    let p = precision_in slot in
    let raw : IsRawWindow p w c.at.result = rw c.code.ensures.value at c.at.ensures in
    let x = subst AreInner c.ends.ensures.value c.ends.ensures.inner in
    let y = subst AreInner c.ends-then-is_boxed.ensures.value c.ends-then-is_boxed.ensures.inner in
    let boxed : true ≡ is_boxed slot = sym c.if-is_boxed.true ∙ c.is_boxed.ensures in
    c.misses.ensures
    ∙ ((λ j. raw_box_misses c.at.result (c.ends.ensures.value j) (c.ends-then-is_boxed.ensures.value j))
    ∙ (short_judged w c.at.result p (ends_in slot.first) (ends_in slot.second) raw x y
    ∙ ap (λ (b : Bool). is_missed w (if b then Some (record { x = span_at p (ends_in slot.first); y = span_at p (ends_in slot.second); z = None; m = None }) else None)) boxed))
