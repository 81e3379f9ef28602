-- A certified geometry whose header was read: the header is its own, and the size leads to its end.
use Rattle.twkb_body.proofs.Prelude.{◌≡◌, ℕ, ◌+◌, ◌^◌, ◌<◌, ◌≤◌, true, List, cond, Option, Some, None, is_some, option_map, refl, ap, sym, ◌∙◌, arith, length, Reading, added, Vertex, Bounds, Head, SizeField, Fields, deepest, head_of, head_said, Geometry, geometry, lengths_of, StandsAt, head_standing, walk, bytes_to_pass}
use Rattle.twkb_body.specs.Devices.Skimmed.{HasRead}
use Rattle.twkb_body.proofs.Entering.{size_leads}
use Rattle.twkb_body.proofs.HeadStands.{has_head}
use Rattle.twkb_body.proofs.Orders.{blob_order}
use Rattle.twkb_body.proofs.WalkLengths.{walk_most}

-- the header that was read is the header of the geometry
pub head_stands : (g : Geometry) (depth : ℕ) (before now : Reading) (raw : Fields) → HasRead raw now g depth before → head_said raw ≡ head_standing g before.place
head_stands (geometry h l ids polygons members) depth before now raw read =
    let hd = has_head h l ids polygons members depth before now (head_said raw) read.stands read.at read.moved in
    hd.head_is ∙ ap (head_of h before.place (before.place + l.before) (before.place + l.before + l.size)) hd.far

-- the size leads to the geometry's end, which is within the bytes
pub record IsSizedEnd (g : Geometry) (before now : Reading) (size : SizeField) : Type 0 where
  pub stop : size.after + size.value ≡ before.place + (lengths_of g).whole
  pub within : before.place + (lengths_of g).whole ≤ length now.bytes
  pub fits : size.after + size.value < 2 ^ 64
  pub few : bytes_to_pass g ≤ (lengths_of g).whole
  pub count : now.count ≡ added before.count (bytes_to_pass g)

sized : (n : Option ℕ) (offset after : ℕ) (size : SizeField) → option_map (λ value. record { value = value; offset = offset; after = after }) n ≡ Some size → (n ≡ Some size.value) × (after ≡ size.after)
sized None offset after size e = absurd (cc (e))
sized (Some n) offset after size e =
    let same : ◌≡◌ {A = SizeField} (record { value = n; offset = offset; after = after }) size = cc (e) in
    (ap (λ (s : SizeField). Some s.value) same, ap (λ (s : SizeField). s.after) same)

pub sized_end : (g : Geometry) (depth : ℕ) (before now : Reading) (raw : Fields) (size : SizeField) → HasRead raw now g depth before → raw.size ≡ Some size → IsSizedEnd g before now size
sized_end (geometry h l ids polygons members) depth before now raw size read is =
    let hd = has_head h l ids polygons members depth before now (head_said raw) read.stands read.at read.moved in
    let s = sized h.size (before.place + l.before) (before.place + l.before + l.size) size (ap (λ (x : Head). x.size) (sym hd.head_is) ∙ is) in
    let leads = size_leads h l ids polygons members depth before.bytes before.place size.value read.stands s.0 in
    let header : bytes_to_pass (geometry h l ids polygons members) ≡ l.header = ap (λ (n : Option ℕ). cond (is_some n) l.header (walk (geometry h l ids polygons members) (Unit {0}) (λ s v. s) (λ s box. true) tt)) s.0 in
    record {
      stop = omega (arith, leads.0, s.1);
      within = omega (arith, leads.1, ap length read.moved.bytes);
      fits = omega (arith, leads.0, leads.1, s.1, read.sound.length_fits);
      few = omega (arith, header, hd.whole);
      count = read.moved.count ∙ ap (added before.count) (omega (arith, header, hd.far));
    }

unsized : (n : Option ℕ) (offset after : ℕ) → option_map (λ value. (let size : SizeField = record { value = value; offset = offset; after = after } in size)) n ≡ None → n ≡ None
unsized None offset after e = refl
unsized (Some n) offset after e = absurd (cc (e))

-- a visitor that skips every box reads no more bytes than the geometry has
pub passing_few : (g : Geometry) (bytes : List ℕ) (place : ℕ) → StandsAt g 1 bytes place → walk g (Unit {0}) (λ (s : Unit {0}) (v : Vertex). s) (λ (s : Unit {0}) (b : Bounds). true) tt ≤ (lengths_of g).whole
passing_few g bytes place at = walk_most (Unit {0}) (λ s v. s) (λ s b. true) g tt (blob_order deepest g at.front 1 at.blob).1

-- to pass a geometry without a size reads the bytes of a visitor that skips every box
pub unsized_reads : (g : Geometry) (depth : ℕ) (before now : Reading) (raw : Fields) → HasRead raw now g depth before → raw.size ≡ None
    → bytes_to_pass g ≡ walk g (Unit {0}) (λ (s : Unit {0}) (v : Vertex). s) (λ (s : Unit {0}) (b : Bounds). true) tt
unsized_reads (geometry h l ids polygons members) depth before now raw read is =
    let hd = has_head h l ids polygons members depth before now (head_said raw) read.stands read.at read.moved in
    let none = unsized h.size (before.place + l.before) (before.place + l.before + l.size) (ap (λ (x : Head). x.size) (sym hd.head_is) ∙ is) in
    ap (λ (n : Option ℕ). cond (is_some n) l.header (walk (geometry h l ids polygons members) (Unit {0}) (λ s v. s) (λ s b. true) tt)) none
