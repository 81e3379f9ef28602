-- The parts of a blob are in order: header, count, ids, members and end.
use Rattle.twkb_body.proofs.Prelude.{◌≡◌, ℕ, suc, ◌+◌, ◌≤◌, Bool, true, false, List, ◌++◌, length, ℤ, Option, sym, ap, ◌∙◌, arith, length-append, Header, is_multi, is_collection, Geometry, Members, geometry, none, more, Lengths, lengths_of, PolygonValue, member_count, IsNumbers, IsBody, IsHeaderThenBody, BlobUnder, BlobsUnder}
use Rattle.twkb_body.proofs.TreeSums.{member_total, HasOrder, HaveOrder}

-- the size and the box are in the header, and the body comes after it
starts_order : (h : Header) (l : Lengths) (bytes body : List ℕ) → IsHeaderThenBody h l bytes body → (l.before + l.size ≤ l.header) × (l.whole ≡ l.header + length body)
starts_order h l bytes body s =
    let e = s.header.extended_bytes in
    let z = s.header.size_bytes in
    let b = s.header.box_bytes in
    let long : length s.head ≡ 2 + (length e + (length z + length b)) = ap length s.header.fields ∙ omega (arith, length-append e (z ++ b), length-append z b) in
    let all : length bytes ≡ length s.head + length body = ap length s.fields ∙ length-append s.head body in
    (omega (arith, s.before_length, s.size_length, s.header_length, long), omega (arith, s.whole_length, s.header_length, all))

numbers_order : (multi : Bool) (h : Header) (l : Lengths) (ids : Option (List ℤ)) (parts : List PolygonValue) (bytes : List ℕ) → IsNumbers multi h l ids parts bytes
    → (l.count ≤ l.list) × (l.list ≤ length bytes)
numbers_order false h l ids parts bytes (part, alone, is, absent) =
    (omega (arith, absent.1, absent.2), omega (arith, absent.2))
numbers_order true h l ids parts bytes s =
    let all : length bytes ≡ length s.count + (length s.id_list + length s.members) =
    ap length s.fields ∙ omega (arith, length-append s.count (s.id_list ++ s.members), length-append s.id_list s.members) in
    (omega (arith, s.count_length, s.list_length), omega (arith, s.list_length, all))

module _ (limit : ℕ) where
  -- count, ids and members are in order, if the members are
  body_order : (empty collection : Bool) (h : Header) (l : Lengths) (ids : Option (List ℤ)) (polygons : List PolygonValue) (gs : Members) (depth : ℕ) (bytes : List ℕ)
      → ((rest : List ℕ) → BlobsUnder limit gs rest depth → (member_total gs ≡ length rest) × HaveOrder gs)
      → IsBody empty collection h l ids polygons (member_count gs) (λ rest. BlobsUnder limit gs rest depth) bytes
      → (l.count ≤ l.list) × (l.list + member_total gs ≤ length bytes) × HaveOrder gs
  unfolding HasOrder
  body_order true collection h l ids polygons none depth bytes each s =
      (omega (arith, s.3.1, s.3.2), omega (arith, s.3.2), tt)
  body_order true collection h l ids polygons (more g gs) depth bytes each s = absurd (omega (arith, s.2))
  body_order false true h l ids polygons gs depth bytes each s =
      let i = s.1 in
      let m = each i.members i.each in
      let all : length bytes ≡ length i.count + (length i.id_list + length i.members) =
      ap length i.fields ∙ omega (arith, length-append i.count (i.id_list ++ i.members), length-append i.id_list i.members) in
      (omega (arith, i.count_length, i.list_length), omega (arith, i.list_length, all, m.0), m.1)
  body_order false false h l ids polygons none depth bytes each s =
      let n = numbers_order (is_multi h.kind) h l ids s.1.numbers bytes s.1.spelled in
      (n.0, omega (arith, n.1), tt)
  body_order false false h l ids polygons (more g gs) depth bytes each s = absurd (omega (arith, s.0))

  mutual
    unfolding BlobUnder HasOrder

    pub blob_order : (g : Geometry) (bytes : List ℕ) (depth : ℕ) → BlobUnder limit g bytes depth → ((lengths_of g).whole ≡ length bytes) × HasOrder g
    blob_order (geometry h l ids polygons members) bytes depth (body, starts, allowed, is_body) =
        let s = starts_order h l bytes body starts in
        let b = body_order h.empty (is_collection h.kind) h l ids polygons members (suc depth) body (λ rest m. blobs_order members rest (suc depth) m) is_body in
        (starts.whole_length, (s.0, b.0, omega (arith, s.1, b.1), b.2))

    pub blobs_order : (gs : Members) (bytes : List ℕ) (depth : ℕ) → BlobsUnder limit gs bytes depth → (member_total gs ≡ length bytes) × HaveOrder gs
    blobs_order none bytes depth s = (sym (ap length s), tt)
    blobs_order (more g gs) bytes depth (front, rest, parts, s, later) =
        let one = blob_order g front depth s in
        let others = blobs_order gs rest depth later in
        let all : length bytes ≡ length front + length rest = ap length parts ∙ length-append front rest in
        (omega (arith, one.0, others.0, all), (one.1, others.1))
