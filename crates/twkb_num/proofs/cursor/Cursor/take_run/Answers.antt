-- Each turn takes a point or two, and then points by narrow lanes; a point that stops ends the run.
use Rattle.twkb_num.proofs.Prelude.{subst, sym, ◌≡◌, ◌+◌, ◌-◌, ◌*◌, ◌<◌, ◌≤◌, ℕ, Bool, true, false, ap, refl, arith, leb-true, mul-add, Reading, IsMoved, Takes}
use Rattle.twkb_num.proofs.TakeLemmas.{takes_more, stops_later}
use Rattle.twkb_num.proofs.cursor.Cursor.take_run.Goals as goal

-- no more are taken than are left
fits_left : (are_two : Bool) (left taken : ℕ) → (are_two ≡ true → 0 < left → 2 ≤ left) → (are_two ≡ false → taken ≡ 1) → taken ≤ 2 → 0 < left → taken ≤ left
fits_left true left taken two one few some = omega (arith, two refl some, few)
fits_left false left taken two one few some = omega (arith, one refl, some)

pub loop-left-preserved : goal.loop-left-preserved
loop-left-preserved g c =
    let l = c.loop-left in
    let n = g.row.AXES in
    let p = c.args.points in
    let taken = c.in-Ok.taken in
    let rest = c.take_narrow_points-left.result in
    let fits : taken ≤ l.left = fits_left l.are_two l.left taken l.invariant.two c.in-Ok.ensures.one c.in-Ok.ensures.few c.loop-left-test.true in
    let there : (p - l.left) + taken ≡ p - (l.left - taken) = omega (arith, fits, l.invariant.few) in
    let further : (p - (l.left - taken)) + ((l.left - taken) - rest) ≡ p - rest = omega (arith, fits, l.invariant.few, c.take_narrow_points-left.ensures.few) in
    let next = takes_more g.T.TakePoints.took n 0 0 (p - l.left) _ (n * taken) (n * (p - (l.left - taken))) _ _ _ _ _ _ l.invariant.takes c.in-Ok.ensures.ok (omega arith) (omega (arith, mul-add n (p - l.left) taken, ap (λ (k : ℕ). n * k) there)) in
    record {
      still = l.invariant.still;
      few = omega (arith, fits, l.invariant.few, c.take_narrow_points-left.ensures.few);
      two = λ h some. leb-true 2 rest h;
      takes = takes_more g.T.TakePoints.took n 0 0 (p - (l.left - taken)) _ (n * ((l.left - taken) - rest)) (n * (p - rest)) _ _ _ _ _ _ next c.take_narrow_points-left.ensures.takes (omega arith) (omega (arith, mul-add n (p - (l.left - taken)) ((l.left - taken) - rest), ap (λ (k : ℕ). n * k) further));
    }

pub returns-in-Err-clause-err : goal.returns-in-Err-clause-err
returns-in-Err-clause-err g c =
    let l = c.loop-left in
    let n = g.row.AXES in
    let p = c.args.points in
    let all : ((p - l.left) + 1) + (l.left - 1) ≡ p = omega (arith, l.invariant.few, c.loop-left-test.true) in
    let few : n * (p - l.left) + n ≤ n * p = omega (arith, mul-add n (p - l.left) 1, mul-add n ((p - l.left) + 1) (l.left - 1), ap (λ (k : ℕ). n * k) all) in
    stops_later g.T.TakePoints.took n (p - l.left) n (n * p) _ _ _ _ _ _ c.in-Err.fault l.invariant.takes c.in-Err.ensures.err few

pub follow-requires : goal.follow-requires
follow-requires g c =
    let l = c.loop-left in
    subst (λ (r : Reading). IsMoved r l.ahead) (sym l.invariant.still) (l.invariant.takes.2.moved)

pub returns-clause-ok : goal.returns-clause-ok
returns-clause-ok g c =
    let l = c.loop-left in
    let n = g.row.AXES in
    let took = g.T.TakePoints.took in
    let all : c.args.points - l.left ≡ c.args.points = omega (arith, c.loop-left-test.false) in
    let takes = subst (λ (k : ℕ). Takes took n 0 (n * k) c.args.self.now l.ahead c.args.to.now l.to) all l.invariant.takes in
    subst (λ (r : Reading). Takes took n 0 (n * c.args.points) c.args.self.now r c.args.to.now l.to) (sym c.follow.ensures) takes
