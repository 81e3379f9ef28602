-- A kind that is allowed, or a header that is begun, under a limit is so under a greater one.
use Rattle.twkb_head.proofs.Prelude.{ℕ, ◌≤◌, List, arith, Kind, Field, IsAllowedUnder, IsStart, IsBegunHeader, type_due, metadata_due, extended_due, size_due, box_due}
use Rattle.twkb_head.proofs.laws.limits_may_be_raised.Goals as goal

module _ (limit greater depth : ℕ) (more : limit ≤ greater) where
  allowed_under_greater : (kind : Kind) → IsAllowedUnder limit kind depth → IsAllowedUnder greater kind depth
  allowed_under_greater kind allowed = (allowed.0, omega (arith, more, allowed.1))

  start_under_greater : (t : ℕ) → IsStart limit depth t → IsStart greater depth t
  start_under_greater t start = record { kind = start.kind; code = start.code; allowed = allowed_under_greater start.kind start.allowed }

  begun_under_greater : (p : List ℕ) (due : Field) → IsBegunHeader limit depth p due → IsBegunHeader greater depth p due
  begun_under_greater p due (type_due e is) = type_due e is
  begun_under_greater p due (metadata_due t start e is) = metadata_due t (start_under_greater t start) e is
  begun_under_greater p due (extended_due t m start has e is) = extended_due t m (start_under_greater t start) has e is
  begun_under_greater p due (size_due t m ext eb start x has e is) = size_due t m ext eb (start_under_greater t start) x has e is
  begun_under_greater p due (box_due t m ext size eb sb box zs start x y has few e is) = box_due t m ext size eb sb box zs (start_under_greater t start) x y has few e is

pub returns-clause-allowed : goal.returns-clause-allowed
returns-clause-allowed c limit greater depth kind more = allowed_under_greater limit greater depth more kind

pub returns-clause-begun : goal.returns-clause-begun
returns-clause-begun c limit greater depth p due more = begun_under_greater limit greater depth more p due
