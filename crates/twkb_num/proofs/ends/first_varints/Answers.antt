-- A word with enough ends is the last; after one with fewer the loop goes on; at one that doesn't tell, the last end is sought.
use Rattle.twkb_num.proofs.Prelude.{◌≡◌, ◌-◌, length, take, drop, ap, ◌∙◌, arith, refl}
use Rattle.twkb_num.proofs.ManySpelled.{take-behind, ends_here, ends_go_on, loop_stops}
use Rattle.twkb_num.proofs.ends.first_varints.Goals as goal

pub returns-then-left-here-clause-front : goal.returns-then-left-here-clause-front
returns-then-left-here-clause-front c =
    let bytes = c.args.bytes.now in
    let l = c.loop-left in
    let chunk = c.in-Some.ensures.cases in
    let rest : take (length bytes - l.done) (drop l.done bytes) ≡ drop l.done bytes = take-behind bytes l.done in
    ends_here bytes c.args.many l.left l.done l.low l.invariant c.in-Some.word.now (chunk.same ∙ ap (take 8) rest) (rw rest at chunk.enough)
    (λ e. (c.if-not-has_end_below.ensures.seven e).0 refl) (λ e. (c.if-not-has_end_below.ensures.four e).0 refl) c.end_of.result c.end_of.ensures

pub loop-left-preserved : goal.loop-left-preserved
loop-left-preserved c =
    let bytes = c.args.bytes.now in
    let l = c.loop-left in
    let chunk = c.in-Some.ensures.cases in
    let rest : take (length bytes - l.done) (drop l.done bytes) ≡ drop l.done bytes = take-behind bytes l.done in
    ends_go_on bytes c.args.many l.left l.done l.low l.invariant c.in-Some.word.now (chunk.same ∙ ap (take 8) rest) (rw rest at chunk.enough)
    (λ e. (c.if-not-has_end_below.ensures.seven e).0 refl) (λ e. (c.if-not-has_end_below.ensures.four e).0 refl)
    c.count_of_ends-here.result c.count_of_ends-here.ensures (omega (arith, c.if-left-here.false)) (c.if-not-has_high_end.ensures.0 refl)

pub returns-clause-front : goal.returns-clause-front
returns-clause-front c =
    let l = c.loop-left in
    loop_stops c.args.bytes.now c.args.many l.left l.done l.low c.last_end.result l.invariant c.last_end.ensures
