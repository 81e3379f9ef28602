-- The range of an axis's lanes is joined to its range before.
use Rattle.twkb_body.proofs.Prelude.{zero, suc, ap, ◌∙◌, arith, lt-ltb, joined}
use Rattle.twkb_body.proofs.ExtentLanes.{settles, settles_by}
use Rattle.twkb_body.proofs.extents.Base.see.Goals as goal

pub returns-clause-last : goal.returns-clause-last
returns-clause-last g c held zero few four = c.see.ensures.last (lt-ltb _ g.row.AXES few) (settles g.row.AXES c.args.self.now c.args.lanes.now _ held few four).last
returns-clause-last g c held (suc zero) few four = c.see-2.ensures.last (lt-ltb _ g.row.AXES few) (settles g.row.AXES c.args.self.now c.args.lanes.now _ held few four).last
returns-clause-last g c held (suc (suc zero)) few four = c.see-3.ensures.last (lt-ltb _ g.row.AXES few) (settles g.row.AXES c.args.self.now c.args.lanes.now _ held few four).last
returns-clause-last g c held (suc (suc (suc zero))) few four = c.see-4.ensures.last (lt-ltb _ g.row.AXES few) (settles g.row.AXES c.args.self.now c.args.lanes.now _ held few four).last
returns-clause-last g c held (suc (suc (suc (suc k)))) few four = absurd (omega (arith, four))

pub returns-clause-range : goal.returns-clause-range
returns-clause-range g c held zero few four =
    let all = settles_by g.row.AXES c.args.self.now c.args.lanes.now 0 _ _ held few four (c.least_of_axes.ensures 0 few four) (c.greatest_of_axes.ensures 0 few four) in
    c.see.ensures.range (lt-ltb 0 g.row.AXES few) all.ends ∙ ap (joined c.args.self.now.x.range) all.range
returns-clause-range g c held (suc zero) few four =
    let all = settles_by g.row.AXES c.args.self.now c.args.lanes.now 1 _ _ held few four (c.least_of_axes.ensures 1 few four) (c.greatest_of_axes.ensures 1 few four) in
    c.see-2.ensures.range (lt-ltb 1 g.row.AXES few) all.ends ∙ ap (joined c.args.self.now.y.range) all.range
returns-clause-range g c held (suc (suc zero)) few four =
    let all = settles_by g.row.AXES c.args.self.now c.args.lanes.now 2 _ _ held few four (c.least_of_axes.ensures 2 few four) (c.greatest_of_axes.ensures 2 few four) in
    c.see-3.ensures.range (lt-ltb 2 g.row.AXES few) all.ends ∙ ap (joined c.args.self.now.third.range) all.range
returns-clause-range g c held (suc (suc (suc zero))) few four =
    let all = settles_by g.row.AXES c.args.self.now c.args.lanes.now 3 _ _ held few four (c.least_of_axes.ensures 3 few four) (c.greatest_of_axes.ensures 3 few four) in
    c.see-4.ensures.range (lt-ltb 3 g.row.AXES few) all.ends ∙ ap (joined c.args.self.now.fourth.range) all.range
returns-clause-range g c held (suc (suc (suc (suc k)))) few four = absurd (omega (arith, four))
