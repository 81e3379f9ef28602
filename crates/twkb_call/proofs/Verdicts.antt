-- What a verdict says, by the answer that it is of.
use Rattle.twkb_call.proofs.Prelude.{◌≡◌, ℕ, List, ◌⊎◌, inl, inr, refl, ap, sym, subst, ◌∙◌, Reading, Claim, IsCounted}
use Rattle.twkb_layer.specs.Refusal.{IsRefusedFor}
use Rattle.twkb_layer.specs.declared.refusal.Refusal.{Refusal}
use Rattle.twkb_layer.specs.declared.refusal.Refusal.TheVariants.{No, Memory}
use Rattle.twkb_call.specs.declared.verdict.Verdict.{Verdict}
use Rattle.twkb_call.specs.Verdict.{yes, Says}
use Rattle.twkb_call.specs.Devices.Verdict.{verdict_on}

-- the cursor is a new one over the bytes
abbrev pub IsNew : Reading → List ℕ → Type 0
IsNew cursor bytes = cursor ≡ record { bytes = bytes; place = 0; count = 0 }

-- so its bytes are these
pub bytes_of_new : (cursor : Reading) (bytes : List ℕ) → IsNew cursor bytes → cursor.bytes ≡ bytes
bytes_of_new cursor bytes new = ap (λ (reading : Reading). reading.bytes) new

-- a certified layer's
pub says_yes : (IsTrue : Claim → Type 0) (v : Verdict) (cursor : Reading) (bytes layer : List ℕ)
    → v ≡ yes v.blobs v.vertices → IsCounted layer v.blobs v.vertices
    → layer ≡ cursor.bytes → IsNew cursor bytes → Says IsTrue v bytes
says_yes IsTrue v cursor bytes layer is counted same new =
    inl (is, subst (λ bytes. IsCounted bytes v.blobs v.vertices) (same ∙ bytes_of_new cursor bytes new) counted)

-- the verdict on bytes that are refused
pub says_no : (IsTrue : Claim → Type 0) (v : Verdict) (cursor : Reading) (bytes : List ℕ) (refusal : Refusal)
    → v ≡ verdict_on refusal → IsRefusedFor IsTrue refusal cursor.bytes
    → IsNew cursor bytes → Says IsTrue v bytes
says_no IsTrue v cursor bytes refusal is why new =
    said refusal is (subst (λ bytes. IsRefusedFor IsTrue refusal bytes) (bytes_of_new cursor bytes new) why) where
      said : (refusal : Refusal) → v ≡ verdict_on refusal → IsRefusedFor IsTrue refusal bytes → Says IsTrue v bytes
      said (No blob offset kind) is why = subst (λ v. Says IsTrue v bytes) (sym is) (inr (inl (refl, why)))
      said Memory is why = inr (inr (is, why))

-- where memory alone can be wanted, the answer says that it is
pub says_memory : (v : Verdict) (refusal : Refusal) → v ≡ verdict_on refusal → refusal ≡ Memory → (v.answer ≡ 0) ⊎ (v.answer ≡ 2)
says_memory v refusal is memory = inr (ap (λ (v : Verdict). v.answer) (is ∙ ap verdict_on memory))
