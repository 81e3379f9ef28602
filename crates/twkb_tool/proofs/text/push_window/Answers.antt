-- A scan's hits and its count are the window's lines.
use Rattle.twkb_tool.proofs.Prelude.{◌≡◌, ◌++◌, ◌∙◌, List, ℕ, OnOk, subst, sum_by, ◌-◌, ap, arith, length, cost}
use Rattle.twkb_tool.proofs.TextLemmas.{found_fits_room, grew, window_lines}
use Rattle.twkb_tool.proofs.text.push_window.Goals as goal

pub push_found-requires : goal.push_found-requires
push_found-requires g c = found_fits_room _ _ _ _ _ c.requires.room c.scan-found.ensures.answer c.scan-found.auto.room

pub returns-clause-text : goal.returns-clause-text
returns-clause-text g c = λ trees layer.
    let grows = grew _ _ _ _ c.scan-found.ensures.few c.requires.read (c.scan-found.ensures.count trees layer) in
    let read : c.read_count.result - c.read_count-before.result ≡ sum_by (cost c.args.window.now) trees = omega (arith, grows, c.read_count.ensures, c.read_count-before.ensures) in
    let len = c.len.ensures ∙ ap length c.scan-found.ensures.bytes in
    subst (λ (text : List ℕ). OnOk c.push_found.result (c.push_found.new.out.items ≡ c.args.out.now.items ++ text))
    (window_lines cost c.args.window.now trees c.args.layer.now.bytes c.args.room.now _ _ _ _ c.requires.room layer (c.scan-found.ensures.answer trees layer) (c.scan-found.ensures.room trees layer) read len)
    c.push_found.ensures

pub returns-clause-count : goal.returns-clause-count
returns-clause-count g c = λ trees layer. grew _ _ _ _ c.scan-found.ensures.few c.requires.read (c.scan-found.ensures.count trees layer)
