-- The greatest is no further from the minimum than the extent.
use Rattle.twkb_body.proofs.Prelude.{◌≡◌, ◌+◌, ◌-◌, ◌%◌, ◌==◌, ℕ, Bool, not, true, ℤ, pos, ◌+ℤ◌, ◌≤ℤ◌, arith, sym, ap, ◌∙◌, subst, Some, ◌&&◌, ints, to_z, of_z, IsCovered, span_in}
use Rattle.std.proofs.Common.{w64}
use lib.Signed.{le_z}
use Rattle.twkb_body.proofs.LaneSums.{both_true}
use Rattle.twkb_body.proofs.RangeEnds.{held_by_ends, wrapped_reach}
use Rattle.twkb_body.proofs.range.Range.is_held_by.Goals as goal

pub returns-else-this-ne0 : goal.returns-else-this-ne0
returns-else-this-ne0 g c t =
    let reach : ℤ = to_z w64 ((of_z w64 c.self.inside.greatest + (18446744073709551616 - of_z w64 c.args.range.now.minimum)) % 18446744073709551616) in
    let low : Bool = le_z (to_z w64 (of_z w64 c.args.range.now.minimum)) (to_z w64 (of_z w64 c.self.inside.least)) in
    let high : Bool = le_z reach (to_z w64 (of_z w64 c.args.range.now.extent)) in
    let all = both_true (low && high) (le_z (pos 0) reach) t in
    let two = both_true low high all.0 in
    let under : reach ≤ℤ c.args.range.now.extent = omega (arith, ints, two.1) in
    let above : c.args.range.now.minimum ≤ℤ c.self.inside.least = omega (arith, ints, two.0) in
    let some_reach : pos 0 ≤ℤ reach = omega (arith, ints, all.1) in
    record {
      held = subst (IsCovered (Some (span_in c.args.range.now))) c.self.view_is
          (held_by_ends c.args.range.now c.self.inside (λ some.
          let there : c.self.inside.greatest ≡ c.args.range.now.minimum +ℤ reach = wrapped_reach c.args.range.now.minimum c.self.inside.greatest (omega (arith, ints)) (omega (arith, ints)) (omega (arith, ints, above, some)) some_reach in
          (above, omega (arith, ints, there, under))));
      same = λ tight.
          let is : not (g.row.TIGHT == 0) ≡ true = tight in
          absurd (cc (sym is ∙ ap (λ (n : ℕ). not (n == 0)) c.if-this-ne0.false));
    }
