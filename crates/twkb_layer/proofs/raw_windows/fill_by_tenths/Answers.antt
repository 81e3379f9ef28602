-- Each turn makes the window of one more precision.
use Rattle.twkb_layer.proofs.Prelude.{◌≡◌, ◌-◌, ◌&&◌, not, false, ℤ, pos, ◌-ℤ◌, int_eq, subst, sym, arith, ◌∙◌, ints, not-false, Decides-and, Decides-int_eq, length-set, Bounds, IsExactWindow, precision_of, RawWindow}
use Rattle.twkb_layer.proofs.RawWindows.{raw_before, exact_raw}
use Rattle.twkb_layer.proofs.raw_windows.fill_by_tenths.Goals as goal

-- windows are equal if a comparison of all ends says so
equal_windows : (a b : RawWindow) → false ≡ not ((int_eq a.x.least b.x.least && int_eq a.x.greatest b.x.greatest) && (int_eq a.y.least b.y.least && int_eq a.y.greatest b.y.greatest)) → b ≡ a
equal_windows a b e =
    let x = Decides-and _ _ (Decides-int_eq a.x.least b.x.least) (Decides-int_eq a.x.greatest b.x.greatest) in
    let y = Decides-and _ _ (Decides-int_eq a.y.least b.y.least) (Decides-int_eq a.y.greatest b.y.greatest) in
    let equal = (Decides-and _ _ x y).0 (not-false _ (sym e)) in
    sym (λ j. record { x = record { least = equal.0.0 j; greatest = equal.0.1 j }; y = record { least = equal.1.0 j; greatest = equal.1.1 j } })

pub loop-code-init : goal.loop-code-init
loop-code-init c = record { all = c.told-raws; few = omega arith; exact = λ window e. e; each = λ window e code from less. absurd (omega (arith, from, less)) }

pub loop-code-preserved-then-ne : goal.loop-code-preserved-then-ne
loop-code-preserved-then-ne c =
    let inv = c.loop-code.invariant in
    let i = c.loop-code.code - 1 in
    let at : precision_of c.loop-code.code -ℤ pos 1 ≡ precision_of i = omega (arith, ints, c.loop-code-test.true) in
    let here : (window : Bounds) → IsExactWindow (pos 7) window c.args.finest → IsExactWindow (precision_of i) window c.loop-code.raw = λ window e. subst (λ (p : ℤ). IsExactWindow p window c.loop-code.raw) at (inv.exact window e) in
    record {
      all = length-set c.loop-code.raws i c.loop-code.raw ∙ inv.all;
      few = omega (arith, inv.few);
      exact = λ window e. c.coarser-raw.ensures (precision_of i) window (omega (arith, ints, inv.few, c.loop-code-test.true)) (here window e);
      each = λ window e. raw_before window c.loop-code.raws i c.loop-code.raw (omega (arith, inv.all, inv.few, c.loop-code-test.true)) (exact_raw (precision_of i) window c.loop-code.raw (here window e))
          (λ code from. inv.each window e code (omega (arith, from, c.loop-code-test.true)));
    }

pub loop-code-preserved : goal.loop-code-preserved
loop-code-preserved c =
    let inv = c.loop-code.invariant in
    let i = c.loop-code.code - 1 in
    let at : precision_of c.loop-code.code -ℤ pos 1 ≡ precision_of i = omega (arith, ints, c.loop-code-test.true) in
    let here : (window : Bounds) → IsExactWindow (pos 7) window c.args.finest → IsExactWindow (precision_of i) window c.loop-code.raw = λ window e. subst (λ (p : ℤ). IsExactWindow p window c.loop-code.raw) at (inv.exact window e) in
    let same = equal_windows c.loop-code.raw c.coarsest-coarsest.result c.if-ne.ensures in
    record {
      all = length-set c.loop-code.raws i c.loop-code.raw ∙ inv.all;
      few = omega (arith, inv.few);
      exact = λ window e. subst (IsExactWindow (precision_of i -ℤ pos 1) window) same
          (c.coarsest-coarsest.ensures (precision_of i) window (omega (arith, ints, inv.few, c.loop-code-test.true)) (subst (IsExactWindow (precision_of i) window) (sym same) (here window e)));
      each = λ window e. raw_before window c.loop-code.raws i c.loop-code.raw (omega (arith, inv.all, inv.few, c.loop-code-test.true)) (exact_raw (precision_of i) window c.loop-code.raw (here window e))
          (λ code from. inv.each window e code (omega (arith, from, c.loop-code-test.true)));
    }

pub returns : goal.returns
returns c = λ window e. record { all = c.loop-code.invariant.all; each = λ code less. c.loop-code.invariant.each window e code (omega (arith, c.loop-code-test.false)) less }
