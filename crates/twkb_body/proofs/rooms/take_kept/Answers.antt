-- Each turn keeps one id more; a malformed one or a refusal of memory ends the reading.
use Rattle.twkb_body.proofs.Prelude.{refl, rules, ◌≡◌, arith, err_from_is_err_and, ints, to_z, of_z, w64}
use Rattle.twkb_body.proofs.IdLoops.{ids_go_on, ids_fail, ids_many, rising_begins, rising_goes_on, rising_ends}
use Rattle.twkb_body.proofs.rooms.take_kept.Goals as goal

pub returns-in_err-id : goal.returns-in_err-id
returns-in_err-id g c =
    let p = err_from_is_err_and c.from_residual.result c.from_residual.ensures.1 in
    rw (p.1, p.2) (ids_fail c.args.count _ c.loop.counter _ _ _ _ c.loop-test.true c.in_err-id.ensures c.loop.invariant.going)

pub returns-in_err-keep : goal.returns-in_err-keep
returns-in_err-keep g c =
    let p = err_from_is_err_and c.from_residual-in_err-keep.result c.from_residual-in_err-keep.ensures.1 in
    rw (p.1, p.2, c.in_err-keep.ensures.err.0) (ids_many c.args.count _ c.loop.counter (g.S.IdStore.ids c.loop.ids) _ _ c.in_ok-id.id c.place_is_within.ensures c.loop-test.true c.in_ok-id.ensures c.in_err-keep.ensures.err.1 c.loop.invariant.going)

pub loop-preserved : goal.loop-preserved
loop-preserved g c =
    let same : to_z w64 (of_z w64 c.in_ok-id.id) ≡ c.in_ok-id.id = omega (arith, ints) in
    record {
      going = ids_go_on c.args.count _ c.loop.counter _ _ _ _ c.in_ok-id.id c.loop-test.true c.in_ok-id.ensures (rw same at c.in_ok-keep.ensures.ok) c.loop.invariant.going;
      roomy = c.keep.ensures.roomy;
      rise = λ e. let s = c.still_rises-rising.ensures e in rw same (rising_goes_on c.args.count c.args.cursor.now c.loop.counter _ c.in_ok-id.id _ _ c.loop-test.true (rw same at s.1) c.in_ok-id.ensures (c.loop.invariant.rise s.0));
    }

pub returns-then-rising : goal.returns-then-rising
returns-then-rising g c =
    let (ids, read, differ) = rising_ends c.args.count c.args.cursor.now c.loop.counter _ _ (omega arith) (c.loop.invariant.rise c.if-rising.true) in
    (ids, read, (λ t. differ, λ d. refl))

pub loop-init : goal.loop-init
loop-init g c = record {
  going = search rules;
  roomy = c.requires.roomy;
  rise = λ e. rising_begins c.args.count c.args.cursor.now _;
}
