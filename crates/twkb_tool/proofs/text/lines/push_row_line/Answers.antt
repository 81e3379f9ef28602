-- The pieces that were pushed are the line of the definition.
use Rattle.twkb_tool.proofs.Prelude.{◌≡◌, List, ℕ, OnOk, subst, arith}
use Rattle.std.proofs.lemmas.Int.{ints}
use mir.Syntax.{w8}
use mir.Val.{to_z, of_z}
use Rattle.twkb_tool.proofs.TextLemmas.{row_made}
use Rattle.twkb_tool.proofs.text.lines.push_row_line.Goals as goal

pub returns : goal.returns
returns g c =
    let precision : to_z w8 (of_z w8 c.args.row.precision) ≡ c.args.row.precision = omega (arith, ints) in
    subst (λ (text : List ℕ). OnOk c.push_text.result (c.push_text.new.out.items ≡ text))
    (row_made c.args.row _ _ _ _ _ _ _ _ _ _ _ _ _ precision c.name_of.ensures c.yes_no.ensures c.yes_no-2.ensures c.in_ok-push_number.ensures c.in_ok-push_number-2.ensures c.in_ok-push_number-3.ensures c.in_ok-push_word.ensures c.in_ok-push_number-4.ensures c.in_ok-push_number-5.ensures c.in_ok-push_word-2.ensures c.in_ok-push_word-3.ensures)
    c.push_text.ensures
