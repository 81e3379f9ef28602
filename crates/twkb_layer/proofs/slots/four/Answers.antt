-- Each slot keeps its part of the blob.
use Rattle.twkb_layer.proofs.Prelude.{◌≡◌, ◌-ℤ◌, pos, ℕ, nat_lt, if◌then◌else◌, Some, None, ap, ◌∙◌, arith, ints}
use Rattle.twkb_layer.proofs.Entries.{four_say}
use Rattle.twkb_layer.proofs.slots.four.Goals as goal

pub returns : goal.returns
returns c =
    let z = ap (λ (word : ℕ). if nat_lt word 8 then Some word else None) c.of-3.ensures.word ∙ c.axis_word.ensures in
    let m = ap (λ (word : ℕ). if nat_lt word 8 then Some word else None) c.of-4.ensures.word ∙ c.axis_word-2.ensures in
    let xy : pos c.code_of.result -ℤ pos 8 ≡ c.args.axes.xy = omega (arith, ints, c.code_of.ensures.value, c.requires.0) in
    four_say c.of.result c.of-2.result c.of-3.result c.of-4.result c.code_of.result c.args.offset c.args.axes c.args.is_boxed c.args.bounds
    c.code_of.ensures.few xy (omega (arith, c.of.ensures.word, c.from.ensures)) c.of-2.ensures.word z m c.of.ensures.range c.of-2.ensures.range c.of-3.ensures.range c.of-4.ensures.range
