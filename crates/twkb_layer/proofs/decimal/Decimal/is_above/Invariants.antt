-- The local is the difference of the digits so far, limited to the range from -2 to 2.
use Rattle.twkb_layer.proofs.Prelude.{◌≡◌, ◌*◌, ◌/◌, ◌^◌, ◌-ℤ◌, signed, leaning}
use Rattle.twkb_layer.proofs.decimal.Decimal.is_above.Given as goal

abbrev pub invariant-loop-power : goal.invariant-loop-power
invariant-loop-power l = l.ahead ≡ leaning (signed l.self.minus (l.self.number * 10 ^ l.other.places / 10 ^ l.power) -ℤ signed l.other.minus (l.other.number * 10 ^ l.self.places / 10 ^ l.power))

abbrev pub decreases-loop-power : goal.decreases-loop-power
decreases-loop-power l = l.power
