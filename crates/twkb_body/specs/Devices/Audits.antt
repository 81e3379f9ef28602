-- Devices of proofs: nothing public names them.
-- What an audit says of a blob, plain or tight.
use Rattle.std.specs.Prelude.{◌≡◌, ◌++◌, ℕ, Bool, List, Result, IfOk, IfErr, OnOk, OnErr, IsOkUnless}
use Rattle.twkb_num.specs.Cursor.{Reading, rest, passed, IsMoved}
use Rattle.twkb_body.specs.declared.answers.Audit.{Audit}
use Rattle.twkb_body.specs.declared.answers.AuditFault.{AuditFault}
use Rattle.twkb_body.specs.declared.answers.AuditFault.TheVariants.{Memory}
use Rattle.twkb_body.specs.Geometry.{Geometry}
use Rattle.twkb_body.specs.Encoding.{Blob}
use Rattle.twkb_body.specs.Audited.{IsAudited, IsRefusedBlob}
use Rattle.twkb_body.specs.Shared.Tight.{IsTrueBy}
use Rattle.twkb_body.specs.Devices.Tight.{IsCertifiedBy}

-- It passes a blob exactly if its claims are true, unless memory runs out. After a fault, which it names, the place is the old one.
pub record Audits (tight : Bool) (old : Reading) (result : Result Audit AuditFault) (new : Reading) : Type 0 where
  pub ok : IfOk result (λ audit. IsAudited (IsTrueBy tight) audit old.place (passed old new))
  pub moved : OnOk result (IsMoved old new)
  pub complete : (g : Geometry) (front behind : List ℕ) → rest old ≡ front ++ behind → Blob g front 1
      → IsCertifiedBy tight g → IsOkUnless result Memory
  pub refused : IfErr result (λ fault. IsRefusedBlob (IsTrueBy tight) fault old.place (rest old))
  pub still : OnErr result ((new.bytes ≡ old.bytes) × (new.place ≡ old.place))
