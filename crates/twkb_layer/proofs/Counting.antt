-- The loop of audits over a layer: what it has counted, and its refusal or its end.
use Rattle.twkb_layer.proofs.Prelude.{◌≡◌, ℕ, ◌+◌, ◌-◌, ◌^◌, ◌<◌, Bool, true, false, List, [], ◌∷◌, ◌++◌, length, take, drop, All, refl, sym, ap, ◌∙◌, arith, length-append, inl, inr, length-take, All-nil, All-cons, All-head, All-tail, All-push, sum_by-append, sum_by-cons, take-add, Reading, rest, passed, IsMoved, Geometry, vertices, IsCertified, IsTrueClaim, IsAudited, IsRefusedBlob, IsCertifiedBy, IsLayer, IsCertifiedLayer, IsCounted, vertex_count, Begins, IsRefusedFor, IsTrueBy, IsTightlyCounted, IsLayerBy, IsCountedBy, AddsBlobs, ◌≤◌, take-append-drop, blob_few, size_of}
use Rattle.twkb_body.specs.declared.answers.Audit.{Audit}
use Rattle.twkb_body.specs.declared.answers.AuditFault.{AuditFault}
use Rattle.twkb_body.specs.declared.answers.AuditFault.TheVariants.{Malformed as BadField, FalseClaim, Memory as NoMemory}
use Rattle.twkb_body.specs.Tight.{HasTightBoxes, IsTightlyTrue}
use Rattle.twkb_body.proofs.Tightness.{tight_both, both_tight}
use Rattle.twkb_layer.specs.Devices.Refusal.{refusal_of}
use Rattle.twkb_layer.proofs.Layers.{blob_some, layer_grows, layer_once, layer_short}

layer_few : (trees : List Geometry) (bytes : List ℕ) → IsLayer trees bytes → vertex_count trees ≤ length bytes
layer_few [] bytes l = omega arith
layer_few (g ∷ gs) bytes l =
    let front = take (size_of g) bytes in
    let behind = drop (size_of g) bytes in
    omega (
      arith,
      sum_by-cons (λ (tree : Geometry). length (vertices tree)) g gs,
      blob_few g front 1 l.0,
      layer_few gs behind l.1,
      ap length (take-append-drop (size_of g) bytes),
      length-append front behind,
    )

-- the bytes before a later place are the bytes before this one and the bytes between them
front_passed : (bytes : List ℕ) (a b : Reading) → a.bytes ≡ bytes → IsMoved a b → take b.place bytes ≡ take a.place bytes ++ passed a b
front_passed bytes a b same m =
    ap (λ n. take n bytes) (omega (arith, m.ahead)) ∙ take-add a.place (b.place - a.place) bytes
    ∙ ap (λ l. take a.place bytes ++ take (b.place - a.place) (drop a.place l)) (sym same)

-- nothing was counted before the first blob
pub counted_none : (tight : Bool) (bytes : List ℕ) (place : ℕ) → place ≡ 0 → IsCountedBy tight (take place bytes) 0 0
counted_none false bytes place e = rw e (record {
  trees = [];
  layer = record { layer = refl; certified = All-nil IsCertified };
  blobs_are = refl;
  vertices_are = refl;
})
counted_none true bytes place e = rw e (record {
  trees = [];
  layer = record { layer = record { layer = refl; certified = All-nil IsCertified }; tight = All-nil HasTightBoxes };
  blobs_are = refl;
  vertices_are = refl;
})

-- a layer without a loose box is a layer
pub tight_is_counted : (bytes : List ℕ) (blobs count : ℕ) → IsTightlyCounted bytes blobs count → IsCounted bytes blobs count
tight_is_counted bytes blobs count c = record { trees = c.trees; layer = c.layer.layer; blobs_are = c.blobs_are; vertices_are = c.vertices_are }

-- one more blob was counted
pub counted_more : (tight : Bool) (bytes : List ℕ) (a b : Reading) (blobs count : ℕ) (audit : Audit) → a.bytes ≡ bytes → IsCountedBy tight (take a.place bytes) blobs count
    → IsMoved a b → IsAudited (IsTrueBy tight) audit a.place (passed a b) → IsCountedBy tight (take b.place bytes) (blobs + 1) (count + audit.vertices)
counted_more false bytes a b blobs count audit same c m h = rw (front_passed bytes a b same m) (record {
  trees = c.trees ++ h.blob ∷ [];
  layer = record {
    layer = layer_grows c.trees (take a.place bytes) h.blob (passed a b) c.layer.layer h.is;
    certified = All-push IsCertified c.trees h.blob c.layer.certified h.all_true;
  };
  blobs_are = omega (arith, c.blobs_are, length-append c.trees (h.blob ∷ []));
  vertices_are = omega (arith, c.vertices_are, h.vertices_are, sum_by-append (λ (tree : Geometry). length (vertices tree)) c.trees (h.blob ∷ []), sum_by-cons (λ (tree : Geometry). length (vertices tree)) h.blob []);
})
counted_more true bytes a b blobs count audit same c m h = rw (front_passed bytes a b same m) (record {
  trees = c.trees ++ h.blob ∷ [];
  layer = record {
    layer = record {
      layer = layer_grows c.trees (take a.place bytes) h.blob (passed a b) c.layer.layer.layer h.is;
      certified = All-push IsCertified c.trees h.blob c.layer.layer.certified (tight_both h.blob 0 h.all_true).0;
    };
    tight = All-push HasTightBoxes c.trees h.blob c.layer.tight (tight_both h.blob 0 h.all_true).1;
  };
  blobs_are = omega (arith, c.blobs_are, length-append c.trees (h.blob ∷ []));
  vertices_are = omega (arith, c.vertices_are, h.vertices_are, sum_by-append (λ (tree : Geometry). length (vertices tree)) c.trees (h.blob ∷ []), sum_by-cons (λ (tree : Geometry). length (vertices tree)) h.blob []);
})

-- there are no more blobs and no more vertices than bytes
plain_fits : (bytes : List ℕ) (place blobs count : ℕ) → IsCounted (take place bytes) blobs count → length bytes < 2 ^ 64
    → (blobs < 2 ^ 64) × (count < 2 ^ 64)
plain_fits bytes place blobs count c fits =
    let front = take place bytes in (
      omega (arith, c.blobs_are, layer_short c.trees front c.layer.layer, length-take place bytes),
      omega (arith, c.vertices_are, layer_few c.trees front c.layer.layer, length-take place bytes),
    )

counted_fits : (tight : Bool) (bytes : List ℕ) (place blobs count : ℕ) → IsCountedBy tight (take place bytes) blobs count → length bytes < 2 ^ 64
    → (blobs < 2 ^ 64) × (count < 2 ^ 64)
counted_fits false bytes place blobs count c fits = plain_fits bytes place blobs count c fits
counted_fits true bytes place blobs count c fits = plain_fits bytes place blobs count (tight_is_counted (take place bytes) blobs count c) fits

-- what was counted and what blobs add to it fit together
pub adds_fit : (tight : Bool) (bytes : List ℕ) (a b : Reading) (blobs count more added : ℕ) → AddsBlobs tight more added a b → a.bytes ≡ bytes
    → IsCountedBy tight (take a.place bytes) blobs count → length bytes < 2 ^ 64 → (blobs + more < 2 ^ 64) × (count + added < 2 ^ 64)
adds_fit tight bytes a b blobs count more added adds same counted fits =
    counted_fits tight bytes b.place (blobs + more) (count + added) (adds bytes blobs count same counted) fits

-- what is audited plainly and tightly is audited either way
pub audited_by : (tight : Bool) (audit : Audit) (place : ℕ) (bytes : List ℕ) → IsAudited IsTrueClaim audit place bytes → IsAudited IsTightlyTrue audit place bytes → IsAudited (IsTrueBy tight) audit place bytes
audited_by false audit place bytes plain tightly = plain
audited_by true audit place bytes plain tightly = tightly

-- an audit moves ahead
pub audit_ahead : (tight : Bool) (a b : Reading) (audit : Audit) → IsMoved a b → IsAudited (IsTrueBy tight) audit a.place (passed a b) → a.place < b.place
audit_ahead tight a b audit m h = omega (arith, blob_some h.blob (passed a b) h.is, length-take (b.place - a.place) (drop a.place a.bytes))

-- the blobs that were counted begin the bytes
tight_trees : (trees : List Geometry) → All IsCertified trees → All HasTightBoxes trees → All (IsCertifiedBy true) trees
tight_trees [] certified tight = All-nil (IsCertifiedBy true)
tight_trees (g ∷ gs) certified tight =
    All-cons (IsCertifiedBy true) g gs
    (both_tight g 0 (All-head IsCertified g gs certified, All-head HasTightBoxes g gs tight))
    (tight_trees gs (All-tail IsCertified g gs certified) (All-tail HasTightBoxes g gs tight))

pub accepted_trees : (tight : Bool) (trees : List Geometry) (bytes : List ℕ) → IsLayerBy tight trees bytes
    → IsLayer trees bytes × All (IsCertifiedBy tight) trees
accepted_trees false trees bytes layer = (layer.layer, layer.certified)
accepted_trees true trees bytes layer = (layer.layer.layer, tight_trees trees layer.layer.certified layer.tight)

counted_begins : (tight : Bool) (bytes : List ℕ) (start blobs count : ℕ) → IsCountedBy tight (take start bytes) blobs count
    → start < length bytes → (before : List Geometry) × Begins (IsTrueBy tight) before start bytes × (blobs ≡ length before)
counted_begins false bytes start blobs count c more =
    let trees = accepted_trees false c.trees (take start bytes) c.layer in
    (c.trees, record { more = more; layer = trees.0; all_true = trees.1 }, c.blobs_are)
counted_begins true bytes start blobs count c more =
    let trees = accepted_trees true c.trees (take start bytes) c.layer in
    (c.trees, record { more = more; layer = trees.0; all_true = trees.1 }, c.blobs_are)

-- the blob at the place is refused
pub audit_refused : (tight : Bool) (bytes : List ℕ) (a : Reading) (blobs count : ℕ) (fault : AuditFault) → a.bytes ≡ bytes
    → IsCountedBy tight (take a.place bytes) blobs count → a.place < length bytes
    → IsRefusedBlob (IsTrueBy tight) fault a.place (rest a) → IsRefusedFor (IsTrueBy tight) (refusal_of blobs fault) bytes
audit_refused tight bytes a blobs count (BadField m) same c more h =
    let before = counted_begins tight bytes a.place blobs count c more in
    record { before = before.0; start = a.place; begins = before.1; number = before.2; reason = inr (m.why, refl, rw same at h) }
audit_refused tight bytes a blobs count (FalseClaim offset claim) same c more h =
    let before = counted_begins tight bytes a.place blobs count c more in
    record { before = before.0; start = a.place; begins = before.1; number = before.2; reason = inl (rw same at h) }
audit_refused tight bytes a blobs count NoMemory same c more h =
    let before = counted_begins tight bytes a.place blobs count c more in
    record { before = before.0; start = a.place; begins = before.1; list = rw same at h }

-- the numbers that were counted are the numbers of the layer's trees
pub counted_is : (bytes : List ℕ) (blobs count : ℕ) → IsCounted bytes blobs count → (trees : List Geometry) → IsCertifiedLayer trees bytes
    → (blobs ≡ length trees) × (count ≡ vertex_count trees)
counted_is bytes blobs count c trees layer =
    let same = layer_once c.trees trees bytes c.layer.layer layer.layer in
    (c.blobs_are ∙ ap length same, c.vertices_are ∙ ap vertex_count same)
