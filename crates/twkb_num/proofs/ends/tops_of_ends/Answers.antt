-- A byte ends a varint where its top isn't set.
use Rattle.twkb_num.proofs.Prelude.{rules}
use Rattle.twkb_num.proofs.EndLemmas.{ends_are}
use Rattle.twkb_num.proofs.ends.tops_of_ends.Goals as goal

pub returns : goal.returns
returns c = ends_are c.args.bytes.now _ (search rules) c.from_le_bytes.ensures
