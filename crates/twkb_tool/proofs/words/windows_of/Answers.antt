-- Each turn reads one more text as a window; the first that is none is named.
use Rattle.twkb_tool.proofs.Prelude.{ap, arith, length, length-append, [], ◌∷◌, err_from_is_err_and}
use Rattle.twkb_tool.proofs.WindowLemmas.{no_windows, windows_more}
use Rattle.twkb_tool.proofs.words.windows_of.Goals as goal

pub returns-in_err-push_window_of-clause-err : goal.returns-in_err-push_window_of-clause-err
returns-in_err-push_window_of-clause-err c =
    let passed = err_from_is_err_and c.from_residual.result c.from_residual.ensures.1 in
    rw (passed.1, passed.2) (no_windows c.args.texts.now c.loop-i.i _ _ c.loop-i.windows.items _ c.loop-i-test.true (omega arith) c.loop-i.invariant.windows c.in_err-push_window_of.ensures.err)

pub loop-i-preserved : goal.loop-i-preserved
loop-i-preserved c =
    let pushed = c.in_ok-push_window_of.ensures.ok in
    let next = windows_more c.args.texts.now c.loop-i.i _ c.loop-i.windows.items pushed.0 c.loop-i-test.true c.loop-i.invariant.windows pushed.1 in
    let longer = ap length pushed.2 in
    record { windows = rw pushed.2 next; count = omega (arith, longer, length-append c.loop-i.windows.items (pushed.0 ∷ []), c.loop-i.invariant.count) }
