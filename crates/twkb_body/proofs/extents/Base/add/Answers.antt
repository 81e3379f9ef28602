-- The axis of the number grows by it.
use Rattle.twkb_body.proofs.Prelude.{◌≡◌, ◌+◌, ◌==◌, ℤ, Bool, refl, ◌∙◌, subst, arith, ints, to_z, of_z, Base, AddsToBase, ◌||◌, ◌&&◌}
use Rattle.std.proofs.Common.{w64}
use Rattle.twkb_body.proofs.LaneSums.{both_true}
use Rattle.twkb_body.proofs.ExtentSteps.{AddsTo, added_stays, added_leaves, of_four, none_leaves, some_leaves, each_adds, left_now}
use Rattle.twkb_body.proofs.extents.Base.add.Goals as goal

pub returns-clause-added : goal.returns-clause-added
returns-clause-added g c fits stays =
    let raw : ℤ = to_z w64 (of_z w64 c.args.number) in
    let is : raw ≡ c.args.number = omega (arith, ints) in
    let leaves = of_four c.add_if.result c.add_if-2.result c.add_if-3.result c.add_if-4.result in
    let any : Bool = ((c.add_if.result || c.add_if-2.result) || c.add_if-3.result) || c.add_if-4.result in
    let new : Base = record {
      x = c.add_if.new.self;
      y = c.add_if-2.new.self;
      third = c.add_if-3.new.self;
      fourth = c.add_if-4.new.self;
      is_near = (c.args.axis + 1 == g.row.AXES) && c.are_near_zero.result;
      has_left = c.args.self.now.has_left || any;
    } in
    let same = left_now c.args.self.now.has_left any (c.args.self.now.has_left || any) stays refl in
    let adds : AddsTo g.row.AXES c.args.axis raw c.args.self.now new leaves = record {
      few = c.requires.axes;
      fits = fits;
      adds = each_adds c.args.axis raw c.args.self.now new c.add_if.result c.add_if-2.result c.add_if-3.result c.add_if-4.result
          (record { fits = c.add_if.ensures.fits; leaves_64 = c.add_if.ensures.leaves_64; last = c.add_if.ensures.last; range = c.add_if.ensures.range; still = c.add_if.ensures.still; stays = c.add_if.ensures.stays })
          (record { fits = c.add_if-2.ensures.fits; leaves_64 = c.add_if-2.ensures.leaves_64; last = c.add_if-2.ensures.last; range = c.add_if-2.ensures.range; still = c.add_if-2.ensures.still; stays = c.add_if-2.ensures.stays })
          (record { fits = c.add_if-3.ensures.fits; leaves_64 = c.add_if-3.ensures.leaves_64; last = c.add_if-3.ensures.last; range = c.add_if-3.ensures.range; still = c.add_if-3.ensures.still; stays = c.add_if-3.ensures.stays })
          (record { fits = c.add_if-4.ensures.fits; leaves_64 = c.add_if-4.ensures.leaves_64; last = c.add_if-4.ensures.last; range = c.add_if-4.ensures.range; still = c.add_if-4.ensures.still; stays = c.add_if-4.ensures.stays });
      near = λ near k few. c.are_near_zero.ensures (both_true (c.args.axis + 1 == g.row.AXES) c.are_near_zero.result near).1 k few (omega (arith, few, c.requires.axes));
    } in
    subst (λ (n : ℤ). AddsToBase g.row.AXES c.args.axis n c.args.self.now new) is (
      λ left. added_stays g.row.AXES c.args.axis raw c.args.self.now new leaves adds
          (λ k few. none_leaves c.add_if.result c.add_if-2.result c.add_if-3.result c.add_if-4.result (same ∙ left) k),
      λ left. let some = some_leaves c.add_if.result c.add_if-2.result c.add_if-3.result c.add_if-4.result (same ∙ left) in
          added_leaves g.row.AXES c.args.axis raw c.args.self.now new leaves adds c.requires.axis some.0 some.1.0 some.1.1,
    )
