-- The laws of layers.
use Rattle.twkb_layer.proofs.Prelude.{◌≡◌, ℕ, ◌-◌, ◌*◌, ◌≤◌, List, [], ◌∷◌, ◌++◌, length, take, drop, refl, sym, ap, ap₂, subst, ◌∙◌, append_assoc, arith, length-append, concat, take-append-drop, take_at, drop_at, append-nil, deepest, Geometry, geometry, Blob, BlobUnder, blob_once, blob_order, IsLayer, IsLayerUnder, IsCertifiedLayerUnder, size_of, AreBlobs}
use Rattle.twkb_body.proofs.Growing.{blob_stays}

-- ---- blobs

-- of given bytes at most one front is a blob, of one tree
pub one_blob : (g h : Geometry) (a b x y : List ℕ) → Blob g a 1 → Blob h b 1 → a ++ x ≡ b ++ y → (g ≡ h) × (a ≡ b) × (x ≡ y)
one_blob = blob_once (deepest - 1) 1 refl (omega arith)

-- the bytes of a blob are as many as its tree says
pub size_of-blob : (g : Geometry) (bytes : List ℕ) → Blob g bytes 1 → size_of g ≡ length bytes
size_of-blob g bytes b = (blob_order deepest g bytes 1 b).0

-- a blob has at least two bytes
pub blob_some : (g : Geometry) (bytes : List ℕ) → Blob g bytes 1 → 2 ≤ length bytes
unfolding BlobUnder
blob_some (geometry h l ids polygons members) bytes (body, starts, allowed, is_body) =
    omega (arith, ap length starts.fields, length-append starts.head body, ap length starts.header.fields)

-- the front of bytes that begin with a blob, and what follows
pub blob_take : (g : Geometry) (front behind : List ℕ) → Blob g front 1 → take (size_of g) (front ++ behind) ≡ front
blob_take g front behind b = take_at front behind (size_of g) (sym (size_of-blob g front b))

pub blob_drop : (g : Geometry) (front behind : List ℕ) → Blob g front 1 → drop (size_of g) (front ++ behind) ≡ behind
blob_drop g front behind b = drop_at front behind (size_of g) (sym (size_of-blob g front b))

-- no blob is a proper prefix of another
pub no_prefix : (g h : Geometry) (front behind : List ℕ) → Blob g front 1 → Blob h (front ++ behind) 1 → behind ≡ []
no_prefix g h front behind b c = (one_blob g h front (front ++ behind) behind [] b c (sym (append-nil (front ++ behind)))).2

-- ---- layers

-- a blob and a layer after it are a layer
pub layer_first : (g : Geometry) (gs : List Geometry) (front behind : List ℕ) → Blob g front 1 → IsLayer gs behind → IsLayer (g ∷ gs) (front ++ behind)
layer_first g gs front behind b l = (
  subst (λ (z : List ℕ). Blob g z 1) (sym (blob_take g front behind b)) b,
  subst (IsLayer gs) (sym (blob_drop g front behind b)) l,
)

-- a layer and then a blob are a layer of one more blob
pub layer_grows : (gs : List Geometry) (bytes : List ℕ) (g : Geometry) (more : List ℕ) → IsLayer gs bytes → Blob g more 1 → IsLayer (gs ++ g ∷ []) (bytes ++ more)
layer_grows [] bytes g more l b = rw l (subst (IsLayer (g ∷ [])) (append-nil more) (layer_first g [] more [] b refl))
layer_grows (h ∷ gs) bytes g more l b =
    let front = take (size_of h) bytes in
    let behind = drop (size_of h) bytes in
    subst (IsLayer (h ∷ gs ++ g ∷ [])) (sym (append_assoc front behind more) ∙ ap (λ (z : List ℕ). z ++ more) (take-append-drop (size_of h) bytes))
    (layer_first h (gs ++ g ∷ []) front (behind ++ more) l.0 (layer_grows gs behind g more l.1 b))

-- ---- a layer is its blobs, wherever they are cut

pub layer_blobs : (trees : List Geometry) (bytes : List ℕ) → IsLayer trees bytes → (parts : List (List ℕ)) × AreBlobs trees parts × (bytes ≡ concat parts)
layer_blobs [] bytes l = ([], tt, l)
layer_blobs (g ∷ gs) bytes l =
    let rest = layer_blobs gs (drop (size_of g) bytes) l.1 in
    (take (size_of g) bytes ∷ rest.0, (l.0, rest.1), sym (take-append-drop (size_of g) bytes) ∙ ap (λ (z : List ℕ). take (size_of g) bytes ++ z) rest.2)

blobs_joined : (trees : List Geometry) (parts : List (List ℕ)) → AreBlobs trees parts → IsLayer trees (concat parts)
blobs_joined [] [] a = refl
blobs_joined [] (part ∷ parts) a = absurd a
blobs_joined (g ∷ gs) [] a = absurd a
blobs_joined (g ∷ gs) (part ∷ parts) a = layer_first g gs part (concat parts) a.0 (blobs_joined gs parts a.1)

pub blobs_layer : (trees : List Geometry) (bytes : List ℕ) → (parts : List (List ℕ)) × AreBlobs trees parts × (bytes ≡ concat parts) → IsLayer trees bytes
blobs_layer trees bytes (parts, are, is) = subst (IsLayer trees) (sym is) (blobs_joined trees parts are)

-- ---- a layer has one list of trees, and one place for each cut

not_nil : (g : Geometry) (part rest : List ℕ) → Blob g part 1 → [] ≡ part ++ rest → ⊥
not_nil g part rest b e = omega (arith, ap length e, length-append part rest, blob_some g part b)

pub parts_once : (trees others : List Geometry) (parts pieces : List (List ℕ)) → AreBlobs trees parts → AreBlobs others pieces → concat parts ≡ concat pieces
    → (trees ≡ others) × (parts ≡ pieces)
parts_once [] [] [] [] a b e = (refl, refl)
parts_once [] _ (part ∷ parts) _ a b e = absurd a
parts_once (g ∷ gs) _ [] _ a b e = absurd a
parts_once _ [] _ (piece ∷ pieces) a b e = absurd b
parts_once _ (h ∷ hs) _ [] a b e = absurd b
parts_once [] (h ∷ hs) [] (piece ∷ pieces) a b e = absurd (not_nil h piece (concat pieces) b.0 e)
parts_once (g ∷ gs) [] (part ∷ parts) [] a b e = absurd (not_nil g part (concat parts) a.0 (sym e))
parts_once (g ∷ gs) (h ∷ hs) (part ∷ parts) (piece ∷ pieces) a b e =
    let first = one_blob g h part piece (concat parts) (concat pieces) a.0 b.0 e in
    let rest = parts_once gs hs parts pieces a.1 b.1 first.2 in
    (ap₂ (λ (z : Geometry) (zs : List Geometry). z ∷ zs) first.0 rest.0, ap₂ (λ (z : List ℕ) (zs : List (List ℕ)). z ∷ zs) first.1 rest.1)

-- the trees of a layer are the only ones
pub layer_once : (trees others : List Geometry) (bytes : List ℕ) → IsLayer trees bytes → IsLayer others bytes → trees ≡ others
layer_once trees others bytes l m =
    let a = layer_blobs trees bytes l in
    let b = layer_blobs others bytes m in
    (parts_once trees others a.0 b.0 a.1 b.1 (sym a.2 ∙ b.2)).0

-- a layer has at least two bytes for each blob
pub layer_short : (trees : List Geometry) (bytes : List ℕ) → IsLayer trees bytes → 2 * length trees ≤ length bytes
layer_short [] bytes l = omega arith
layer_short (g ∷ gs) bytes l =
    let front = take (size_of g) bytes in
    let behind = drop (size_of g) bytes in
    omega (arith, blob_some g front l.0, layer_short gs behind l.1, ap length (take-append-drop (size_of g) bytes), length-append front behind)

-- ---- a layer under a greater limit

pub layer_stays : (low high : ℕ) (trees : List Geometry) (bytes : List ℕ) → low ≤ high → IsLayerUnder low trees bytes → IsLayerUnder high trees bytes
layer_stays low high [] bytes le l = l
layer_stays low high (g ∷ gs) bytes le l =
    (blob_stays low high le g (take (size_of g) bytes) 1 l.0, layer_stays low high gs (drop (size_of g) bytes) le l.1)

pub certified_stays : (low high : ℕ) (trees : List Geometry) (bytes : List ℕ) → low ≤ high → IsCertifiedLayerUnder low trees bytes
    → IsCertifiedLayerUnder high trees bytes
certified_stays low high trees bytes le c = record { layer = layer_stays low high trees bytes le c.layer; certified = c.certified }
