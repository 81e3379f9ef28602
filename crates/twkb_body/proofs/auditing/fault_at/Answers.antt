-- Where no certified blob begins, the audit names a fault.
use Rattle.twkb_body.proofs.Prelude.{◌≡◌, ◌++◌, sym, ap, ◌∙◌, rest, passed, rest-passed}
use Rattle.twkb_body.proofs.auditing.fault_at.Goals as goal

pub unreachable-requires-in_default-audit_begun : goal.unreachable-requires-in_default-audit_begun
unreachable-requires-in_default-audit_begun g c =
    let r = c.go_to.new.self in
    let new = c.audit_begun.new.cursor in
    let a = c.in_default-audit_begun.ensures r (record { sound = c.place_is_within.ensures; moved = c.in-Some.ensures.moved; two = c.in-Some.ensures.some }) in
    let split : rest (record c.args.cursor.now { place = c.args.start }) ≡ passed r new ++ rest new = ap rest (sym c.go_to.ensures) ∙ rest-passed r new a.moved in
    c.requires.wrong a.ok.blob (passed r new) (rest new) split a.ok.is a.ok.all_true
