-- Each turn makes the window of one more precision.
use Rattle.twkb_layer.proofs.Prelude.{◌≡◌, pos, ◌-ℤ◌, to_z, of_z, ◌∙◌, subst, arith, w8, ints, length-set, IsRawWindow}
use Rattle.twkb_layer.proofs.RawWindows.{raw_more}
use Rattle.twkb_layer.proofs.raw_windows.fill_by_divisions.Goals as goal

pub loop-code-init : goal.loop-code-init
loop-code-init c = (c.told-raws, λ code less. absurd (omega arith))

pub loop-code-preserved : goal.loop-code-preserved
loop-code-preserved c =
    let inv = c.loop-code.invariant in
    let code = c.loop-code.code in
    let precision : to_z w8 (of_z w8 (to_z w8 code -ℤ pos 8)) ≡ (pos code -ℤ pos 8) = omega (arith, ints) in (
      length-set c.loop-code.raws code c.raw.result ∙ inv.0,
      raw_more c.args.window.now c.loop-code.raws code c.raw.result (omega (arith, inv.0)) (subst (λ p. IsRawWindow p c.args.window.now c.raw.result) precision c.raw.ensures) inv.1,
    )

pub returns : goal.returns
returns c = record { all = c.loop-code.invariant.0; each = λ code less. c.loop-code.invariant.1 code (omega arith) }
