-- No digit so far leaves a remainder.
use Rattle.twkb_layer.proofs.Prelude.{◌≡◌, ◌*◌, ◌%◌, ◌^◌}
use Rattle.twkb_layer.proofs.decimal.Decimal.is_between_units.Given as goal

abbrev pub invariant-loop-power : goal.invariant-loop-power
invariant-loop-power l = l.self.number * 10 ^ 7 % 10 ^ l.power ≡ 0
