-- Each turn pushes the lines of one more window, and its scan reads no more bytes than the layer has.
use Rattle.twkb_tool.proofs.Prelude.{◌≡◌, ◌∙◌, ◌++◌, ◌+◌, ℕ, sum_by, ap, sym, subst, arith, length, Bounds, directory_cost, IsCertifiedLayer, window_text}
use Rattle.twkb_tool.proofs.TextLemmas.{lines_more, read_more, reads_more}
use Rattle.twkb_tool.proofs.text.push_windows.Goals as goal

pub push_window_at-requires : goal.push_window_at-requires
push_window_at-requires g c =
    let same = c.loop-window.invariant.bytes in
    let given = c.requires.room in record {
      directory = λ trees layer. c.requires.directory trees (subst (IsCertifiedLayer trees) same layer);
      room = (given.0, subst (IsCertifiedLayer given.0) (sym same) given.1, omega (arith, given.2, c.loop-window.auto.room));
      read = omega (arith, ap length same, c.loop-window.invariant.read, c.requires.small, c.requires.few, c.loop-window-test.true);
    }

pub loop-window-preserved : goal.loop-window-preserved
loop-window-preserved g c =
    let same = c.push_window_at.ensures.bytes in record {
      bytes = same ∙ c.loop-window.invariant.bytes;
      read = read_more _ _ _ _ c.push_window_at.ensures.few (omega (arith, ap length c.loop-window.invariant.bytes, c.requires.small)) c.loop-window.invariant.read;
      text = λ trees layer.
          let before = subst (IsCertifiedLayer trees) same layer in
          let line = window_text directory_cost trees (length c.loop-window.layer.bytes) in
          let more = subst (λ (w : Bounds). c.push_window_at.new.out.items ≡ c.loop-window.out.items ++ line w) c.window-item.is
          (c.in_ok-push_window_at.ensures.text trees before) in
          rw same (lines_more line _ _ _ c.args.windows.now c.loop-window.window-index _ c.loop-window-test.true (c.loop-window.invariant.text trees before) more);
      count = λ trees layer.
          let before = subst (IsCertifiedLayer trees) same layer in
          let read : Bounds → ℕ = λ w. sum_by (directory_cost w) trees in
          let more = subst (λ (w : Bounds). c.push_window_at.new.layer.count ≡ c.loop-window.layer.count + read w) c.window-item.is
          (c.push_window_at.ensures.count trees before) in
          reads_more read _ _ _ c.args.windows.now c.loop-window.window-index _ c.loop-window-test.true (c.loop-window.invariant.count trees before) more;
    }
