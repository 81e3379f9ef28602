-- A blob that was audited is certified, so it may be skimmed.
use Rattle.std.proofs.Common.{◌≡◌, sym, subst, ◌∙◌}
use Rattle.twkb_num.specs.Cursor.{Reading}
use Rattle.twkb_body.specs.Standing.{StandsAt}
use Rattle.twkb_body.proofs.Standings.{audited_stands}
use Rattle.twkb_body_tests.proofs.tests.skims.skimmed.Goals as goal

pub skim-requires : goal.skim-requires
skim-requires g c =
    let same : c.new-first.result ≡ c.new-cursor.result = c.new-first.ensures ∙ sym c.new-cursor.ensures in
    let ok = c.in-Ok.ensures in
    (ok.ok.blob, subst (λ (r : Reading). StandsAt ok.ok.blob 1 r.bytes r.place) same (audited_stands c.in-Ok._audit _ _ ok.moved ok.ok))
