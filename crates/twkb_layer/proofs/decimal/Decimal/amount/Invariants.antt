-- The amount is the quotient so far.
use Rattle.twkb_layer.proofs.Prelude.{◌≡◌, ◌*◌, ◌/◌, ◌^◌, ◌≤◌, min, farthest}
use Rattle.twkb_layer.proofs.decimal.Decimal.amount.Given as goal

abbrev pub invariant-loop-power : goal.invariant-loop-power
invariant-loop-power l = record {
  amount_is : l.amount ≡ min (l.self.number * 10 ^ 7 / 10 ^ l.power) farthest;
  above : l.self.places ≤ l.power;
}

abbrev pub decreases-loop-power : goal.decreases-loop-power
decreases-loop-power l = l.power
