-- A header that can't be read is malformed where a geometry read from there is.
use Rattle.twkb_body.proofs.Prelude.{◌-◌, ap, arith, Reading, deepest, head_fails}
use Rattle.twkb_body.proofs.AuditFacts.{is_malformed}
use Rattle.twkb_body.proofs.GeometrySteps.{header_fails}
use Rattle.twkb_body.proofs.auditing.fault_of_header.Goals as goal

pub returns : goal.returns
returns c = λ tight.
    let r = c.args.cursor.now in
    let sound = c.place_is_within.ensures in
    let bytes = ap (λ (q : Reading). q.bytes) c.in-Err.ensures.still in
    let fails = header_fails (deepest - 1) r c.in-Err.malformed c.read_raw.new.cursor (head_fails 1 (omega arith) (omega arith) r c.read_raw.new.cursor c.in-Err.malformed sound bytes c.in-Err.ensures.refused) in
    let malformed = is_malformed r c.read_raw.new.cursor sound c.in-Err.malformed fails in
    record {
      ok = tt;
      moved = tt;
      complete = λ h front behind split blob certified. absurd (malformed.no_blob h front behind split blob);
      refused = malformed;
      still = (bytes, ap (λ (q : Reading). q.place) c.in-Err.ensures.still);
    }
