-- At most one kind of field is due, none after a whole blob, and viable bytes go on by a field that is due.
use Rattle.twkb_body.proofs.Prelude.{◌-◌, refl, arith, deepest}
use Rattle.twkb_body.proofs.BlobLaws.{one_due, none_due, goes_on}
use Rattle.twkb_body.proofs.LongLists.{ids_begun}
use Rattle.twkb_body.proofs.ListLengths.{long_list_length}
use Rattle.twkb_body.proofs.laws.fields_due.Goals as goal

pub returns : goal.returns
returns c = record {
  at_most_one = one_due (deepest - 1) 1 refl (omega arith);
  none_after_a_blob = none_due (deepest - 1) 1 refl (omega arith);
  goes_on = goes_on (deepest - 1) 1 refl (omega arith);
  long_lists = λ p ends. ids_begun 17 (omega arith) 1 p ends;
  twenty_bytes = λ bytes has. omega (arith, long_list_length 1 bytes has);
}
