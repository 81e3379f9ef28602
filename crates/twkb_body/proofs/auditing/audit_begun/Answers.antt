-- The result of the pass is restated in the words of the definitions.
use Rattle.twkb_body.proofs.Prelude.{◌≡◌, ◌-◌, length, refl, ap, subst, ◌∙◌, arith, Reading, rest, deepest, two_back, Stopped, HasLongList, geometry_at, Refused, first, HasStopped}
use Rattle.twkb_body.proofs.AuditFacts.{blob_stands, is_audited, is_false_claim, not_certified, is_malformed, stopped_bytes}
use Rattle.twkb_body.proofs.auditing.audit_begun.Goals as goal

pub go_to-requires : goal.go_to-requires
go_to-requires g c =
    let (before, read) = c.requires.read in
    let e = c.in-Ok.ensures before read in
    let moved = (blob_stands before _ read.sound e.0 e.1).1 in
    omega (arith, c.place-start.ensures.value, two_back before c.args.cursor.now _ _ read.moved read.two, read.sound.within, ap length moved.bytes)

pub go_to-requires-in-Err : goal.go_to-requires-in-Err
go_to-requires-in-Err g c =
    let (before, read) = c.requires.read in
    let bytes = stopped_bytes before _ read.sound c.take_blob.new.pass.stopped (HasLongList 1 (rest before)) (c.in-Err.ensures before read) in
    omega (arith, c.place-start.ensures.value, two_back before c.args.cursor.now _ _ read.moved read.two, read.sound.within, ap length bytes)

pub returns-in-None : goal.returns-in-None
returns-in-None g c = λ before read.
    let e = c.in-Ok.ensures before read in
    record {
      ok = is_audited before _ read.sound _ e.0 e.2.0 e.1 e.2.1 c.take_blob.new.pass.refused c.in-None.is (e.2.4 ∙ ap (λ (r : Refused). first r e.2.0.refused) c.new-pass.ensures) _ e.2.3 c.place.ensures.value;
      moved = (blob_stands before _ read.sound e.0 e.1).1;
      complete = λ h front behind split blob certified. tt;
      refused = tt;
      still = tt;
    }

pub returns-in-Some : goal.returns-in-Some
returns-in-Some g c = λ before read.
    let e = c.in-Ok.ensures before read in
    let judged = e.2.4 ∙ ap (λ (r : Refused). first r e.2.0.refused) c.new-pass.ensures in
    let moved = (blob_stands before _ read.sound e.0 e.1).1 in
    let place : c.place-start.result - 2 ≡ before.place = omega (arith, c.place-start.ensures.value, two_back before c.args.cursor.now _ _ read.moved read.two) in
    record {
      ok = tt;
      moved = tt;
      complete = λ h front behind split blob certified. absurd (not_certified before _ read.sound _ e.0 e.2.0 e.1 e.2.1 c.in-Some.refused c.take_blob.new.pass.refused c.in-Some.is judged h front behind split blob certified);
      refused = is_false_claim before _ read.sound _ e.0 e.2.0 e.1 e.2.1 c.in-Some.refused c.take_blob.new.pass.refused c.in-Some.is judged;
      still = (ap (λ (r : Reading). r.bytes) c.go_to.ensures ∙ moved.bytes, ap (λ (r : Reading). r.place) c.go_to.ensures ∙ place);
    }

pub returns-in-Malformed : goal.returns-in-Malformed
returns-in-Malformed g c = λ before read.
    let stopped = c.in-Err.ensures before read in
    let fails = subst (λ (s : Stopped). HasStopped (geometry_at (deepest - 1) before) (HasLongList 1 (rest before)) before s c.take_blob.new.cursor) c.in-Malformed.is stopped in
    let malformed = is_malformed before _ read.sound c.in-Malformed.malformed fails in
    let bytes = stopped_bytes before _ read.sound c.take_blob.new.pass.stopped (HasLongList 1 (rest before)) stopped in
    let place : c.place-start.result - 2 ≡ before.place = omega (arith, c.place-start.ensures.value, two_back before c.args.cursor.now _ _ read.moved read.two) in
    record {
      ok = tt;
      moved = tt;
      complete = λ h front behind split blob certified. absurd (malformed.no_blob h front behind split blob);
      refused = malformed;
      still = (ap (λ (r : Reading). r.bytes) c.go_to-in-Err.ensures ∙ bytes, ap (λ (r : Reading). r.place) c.go_to-in-Err.ensures ∙ place);
    }

pub returns-in-Memory : goal.returns-in-Memory
returns-in-Memory g c = λ before read.
    let stopped = c.in-Err.ensures before read in
    let wants = subst (λ (s : Stopped). HasStopped (geometry_at (deepest - 1) before) (HasLongList 1 (rest before)) before s c.take_blob.new.cursor) c.in-Memory.is stopped in
    let place : c.place-start.result - 2 ≡ before.place = omega (arith, c.place-start.ensures.value, two_back before c.args.cursor.now _ _ read.moved read.two) in
    record {
      ok = tt;
      moved = tt;
      complete = λ h front behind split blob certified. refl;
      refused = wants.1;
      still = (ap (λ (r : Reading). r.bytes) c.go_to-in-Err.ensures ∙ wants.0, ap (λ (r : Reading). r.place) c.go_to-in-Err.ensures ∙ place);
    }
