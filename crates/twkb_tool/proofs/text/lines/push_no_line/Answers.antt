-- The pieces that were pushed are the line of the definition.
use Rattle.twkb_tool.proofs.Prelude.{◌∙◌, on_ok_weaker}
use Rattle.twkb_tool.proofs.TextLemmas.{no_made}
use Rattle.twkb_tool.proofs.text.lines.push_no_line.Goals as goal

pub returns : goal.returns
returns g c =
    let made = no_made c.args.blob c.args.offset _ _ _ _ _ c.in_ok-push_number.ensures c.in_ok-push_number-2.ensures c.in_ok-push_word.ensures in
    on_ok_weaker c.push_text.result (λ is. (c.word_of.result.now, c.word_of.ensures, is ∙ made)) c.push_text.ensures
