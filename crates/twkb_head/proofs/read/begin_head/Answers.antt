-- The first two bytes begin a header, or no header is there.
use Rattle.twkb_head.proofs.Prelude.{inr, Option, None, Some, IfNone, refl, arith, rest}
use Rattle.twkb_head.proofs.HeadLaws.{header_two}
use Rattle.twkb_head.proofs.HeadSteps.{two_back}
use Rattle.twkb_head.proofs.read.begin_head.Goals as goal

none_after : {A : Type 0} {P : Type 0} (o : Option A) → P → IfNone o P
none_after None p = p
none_after (Some x) p = tt

pub begun_by-requires-clause-read : goal.begun_by-requires-clause-read
begun_by-requires-clause-read c =
    let two = c.in_ok-first.ensures in
    omega (arith, two_back c.args.cursor.now c.two_bytes.new.self _ _ two.moved two.some)

pub returns-in_err-first-clause-none : goal.returns-in_err-first-clause-none
returns-in_err-first-clause-none c = λ starts.
    let few = c.in_err-first.ensures.end.0 refl in
    absurd (omega (arith, few, header_two c.args.depth (rest c.args.cursor.now) starts))

pub returns-clause-two : goal.returns-clause-two
returns-clause-two c = none_after c.begun_by.result (inr (two_back c.args.cursor.now c.two_bytes.new.self _ _ c.in_ok-first.ensures.moved c.in_ok-first.ensures.some))
