-- The base sees the points in lanes, and then the axis of the number grows by it.
use Rattle.twkb_body.proofs.Prelude.{◌≡◌, ◌∙◌, ◌<◌, ℕ, ℤ, Some, sym, ap, subst, arith, ints, to_z, of_z, Base, Lanes, sum_fits, axis_in, base_of, base_or_zero, last_from, last_of, range_from, AreHeld, AddsNumber}
use Rattle.std.proofs.Common.{w64}
use Rattle.twkb_body.proofs.ExtentLanes.{settles}
use Rattle.twkb_body.proofs.ExtentSteps.{added_after, alone}
use Rattle.twkb_body.proofs.extents.Extents.add.Goals as goal
use Rattle.twkb_body.proofs.extents.Extents.add.Goals.{in-Some, in-None}

pub returns-clause-added : goal.returns-clause-added
returns-clause-added g c held stays =
    let base_is : c.match-self.base ≡ base_of c.args.self.now = elim c.match-self.branch [
      | in-Some w ↦ w.base-is ∙ sym (ap base_or_zero w.in-Some.is)
      | in-None w ↦ w.base-is ∙ w.zero-base.ensures ∙ sym (ap base_or_zero w.in-None.is)
    ] in
    let lanes_are : c.match-self.self.lanes ≡ c.args.self.now.lanes = elim c.match-self.branch [
      | in-Some w ↦ ap (λ e. e.lanes) w.self-is
      | in-None w ↦ ap (λ e. e.lanes) w.self-is
    ] in
    let raw : ℤ = to_z w64 (of_z w64 c.args.number) in
    let is : raw ≡ c.args.number = omega (arith, ints) in
    let axes : ℕ = g.row.AXES in
    let held' : AreHeld axes c.match-self.base c.match-self.self.lanes =
    subst (λ (b : Base). AreHeld axes b c.match-self.self.lanes) (sym base_is) (subst (AreHeld axes (base_of c.args.self.now)) (sym lanes_are) held) in
    let last : (k : ℕ) → k < axes → (axis_in c.see.new.self k).last ≡ last_of c.args.self.now k =
    λ k few. c.see.ensures.last held' k few (omega (arith, few, c.requires.axes)) ∙ (λ j. last_from (base_is j) (lanes_are j) k) in
    let fits : (k : ℕ) → k < axes → sum_fits (axis_in c.see.new.self k).last =
    λ k few. subst sum_fits (sym (last k few)) (settles axes (base_of c.args.self.now) c.args.self.now.lanes k held few (omega (arith, few, c.requires.axes))).last in
    let added = c.add.ensures.added fits (c.see.ensures.left ∙ ap (λ (b : Base). b.has_left) base_is ∙ stays) in
    subst (λ (l : Lanes). AddsNumber axes c.args.axis c.args.number c.args.self.now (record { lanes = l; base = Some c.add.new.self })) (sym c.none-self.ensures)
    (subst (λ (n : ℤ). AddsNumber axes c.args.axis n c.args.self.now (alone c.add.new.self)) is
    (added_after axes c.args.axis raw c.args.self.now c.see.new.self c.add.new.self c.requires.axes c.requires.axis last
    (λ k few. c.see.ensures.range held' k few (omega (arith, few, c.requires.axes)) ∙ (λ j. range_from axes (base_is j) (lanes_are j) k))
    added))

pub returns-clause-left : goal.returns-clause-left
returns-clause-left g c left =
    let base_is : c.match-self.base ≡ base_of c.args.self.now = elim c.match-self.branch [
      | in-Some w ↦ w.base-is ∙ sym (ap base_or_zero w.in-Some.is)
      | in-None w ↦ w.base-is ∙ w.zero-base.ensures ∙ sym (ap base_or_zero w.in-None.is)
    ] in
    c.add.ensures.left (c.see.ensures.left ∙ ap (λ (b : Base). b.has_left) base_is ∙ left)
