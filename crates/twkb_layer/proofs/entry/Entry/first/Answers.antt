-- A long slot and the three after it are a blob's.
use Rattle.twkb_layer.proofs.Prelude.{◌≡◌, ◌∷◌, true, ap, refl, sym, ◌∙◌, entries_kept, is_long}
use Rattle.twkb_layer.proofs.Entries.{four_of}
use Rattle.twkb_layer.proofs.entry.Entry.first.Goals as goal

pub returns-clause-some : goal.returns-clause-some
returns-clause-some c =
    let x = c.in_ok-x.x.now in
    let y = c.in_ok-y.y.now in
    let third = c.in_ok-third.third.now in
    let fourth = c.in_ok-fourth.fourth.now in
    let long : is_long x ≡ true = sym c.is_long.ensures ∙ c.if-not-is_long.false in
    let two = c.in_ok-third.ensures.cases.0 ∙ ap (λ slots. third ∷ slots) c.in_ok-fourth.ensures.cases.0 in
    let all = c.in_ok-x.ensures.cases.0 ∙ ap (λ slots. x ∷ slots) (c.in_ok-y.ensures.cases.0 ∙ ap (λ slots. y ∷ slots) two) in
    ap entries_kept all ∙ four_of x y third fourth _ long refl c.in_ok-fourth.others.now
