-- A number is added to its axis.
use Rattle.twkb_body.proofs.Prelude.{◌≡◌, arith, ints, to_z, of_z, few_axes}
use Rattle.std.proofs.Common.{w64}
use Rattle.twkb_body.proofs.ExtentSteps.{took_one}
use Rattle.twkb_body.proofs.extents.ExtentsTakePoints.take_one.Goals as goal

pub add-requires-clause-axes : goal.add-requires-clause-axes
add-requires-clause-axes g c = few_axes g.row.AXES c.requires.axes

pub returns : goal.returns
returns g c =
    let is : to_z w64 (of_z w64 c.args.number) ≡ c.args.number = omega (arith, ints) in
    took_one g.row.AXES c.args.axis c.args.number c.args.self.now c.add.new.self c.requires.axis c.add.ensures.left (rw is at c.add.ensures.added)
