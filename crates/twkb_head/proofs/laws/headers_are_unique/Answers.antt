-- At most one header is at the front of given bytes.
use Rattle.twkb_head.proofs.HeadBack.{header_once}
use Rattle.twkb_head.proofs.laws.headers_are_unique.Goals as goal

pub returns : goal.returns
returns c = header_once
