-- A blob under a limit of depth is a blob under a greater one.
use Rattle.twkb_body.proofs.Prelude.{ℕ, suc, ◌≤◌, Bool, true, false, List, ℤ, Option, arith, Kind, Header, IsAllowedUnder, Geometry, Members, geometry, none, more, Lengths, PolygonValue, IsList, IsBody, BlobUnder, BlobsUnder}

module _ (Each Each' : List ℕ → Type 0) (to : (bytes : List ℕ) → Each bytes → Each' bytes) where
  list_with : (h : Header) (l : Lengths) (ids : Option (List ℤ)) (n : ℕ) (bytes : List ℕ) → IsList h l ids n Each bytes → IsList h l ids n Each' bytes
  list_with h l ids n bytes s = record {
    count = s.count;
    id_list = s.id_list;
    members = s.members;
    fields = s.fields;
    count_field = s.count_field;
    ids_field = s.ids_field;
    each = to s.members s.each;
    count_length = s.count_length;
    list_length = s.list_length;
  }

  -- a body with other members
  pub body_with : (empty collection : Bool) (h : Header) (l : Lengths) (ids : Option (List ℤ)) (polygons : List PolygonValue) (n : ℕ) (bytes : List ℕ)
      → IsBody empty collection h l ids polygons n Each bytes → IsBody empty collection h l ids polygons n Each' bytes
  body_with true collection h l ids polygons n bytes s = s
  body_with false true h l ids polygons n bytes s = (s.0, list_with h l ids n bytes s.1)
  body_with false false h l ids polygons n bytes s = s

module _ (low high : ℕ) (le : low ≤ high) where
  allowed_stays : (kind : Kind) (depth : ℕ) → IsAllowedUnder low kind depth → IsAllowedUnder high kind depth
  allowed_stays kind depth a = (a.0, omega (arith, a.1, le))

  mutual
    unfolding BlobUnder

    pub blob_stays : (g : Geometry) (bytes : List ℕ) (depth : ℕ) → BlobUnder low g bytes depth → BlobUnder high g bytes depth
    blob_stays (geometry h l ids polygons members) bytes depth (body, starts, allowed, is_body) = (
      body,
      starts,
      allowed_stays h.kind depth allowed,
      body_with _ _ (λ rest s. blobs_stay members rest (suc depth) s) h.empty _ h l ids polygons _ body is_body,
    )

    pub blobs_stay : (gs : Members) (bytes : List ℕ) (depth : ℕ) → BlobsUnder low gs bytes depth → BlobsUnder high gs bytes depth
    blobs_stay none bytes depth s = s
    blobs_stay (more g gs) bytes depth (front, rest, parts, s, later) = (front, rest, parts, blob_stays g front depth s, blobs_stay gs rest depth later)
