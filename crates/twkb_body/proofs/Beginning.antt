-- What follows the first two bytes of a certified geometry: the rest of its header, and its body or its end.
use Rattle.twkb_body.proofs.Prelude.{◌≡◌, ℕ, ◌+◌, ◌%◌, ◌<◌, ◌≤◌, ◌^◌, ℤ, Bool, true, false, cond, length, Option, Some, None, refl, sym, ap, ◌∙◌, subst, Ok, Err, arith, Reading, passed, IsMoved, Point, Fields, Malformed, RawRange, Head, SizeField, BoxField, Axes, Kind, has_ids, is_multi, Bounds, Vertex, IsHeadAt, BeginsHead, ReadsHead, head_said, raw_bounds, flat_box, ends_of, Answer, number_at, head_ok, head_moved, head_exact, begins_goes_on, flat_fields, number_stops, x_stops, y_stops, flat_read, size_said, Geometry, SkipsSoundly, HasCome, IsBehind, Entered, hop_of, flat_axes, full_head}
use Rattle.twkb_head.specs.declared.read.Begun.{Begun}
use Rattle.std.proofs.Math.Bool.{and-false}
use Rattle.twkb_head.specs.Shared.Reader.{range_from}
use Rattle.twkb_head.specs.Devices.HeadReader.{rest_at}
use Rattle.twkb_body.specs.Devices.Skimmed.{HasRead}
use Rattle.twkb_body.proofs.Headers.{IsSizedEnd, sized_end}
use Rattle.twkb_body.proofs.HeadStands.{header_starts, hop_fits, hop_within, enter_hops}

-- a begun header with another metadata byte, which announces the same fields
pub announced_same : (begun other : Begun) (depth m : ℕ) (before now : Reading) → begun.metadata % 32 ≡ m → other ≡ record begun { metadata = m } → BeginsHead begun depth before now → BeginsHead other depth before now
announced_same begun other depth m before now same is begins = subst (λ (b : Begun). BeginsHead b depth before now) (sym is) (record {
  type_byte = begins.type_byte;
  metadata = begins.metadata;
  bytes = begins.bytes;
  moved = begins.moved;
  kind = begins.kind;
  allowed = begins.allowed;
  precision = begins.precision;
  announced = omega (arith, begins.announced, same);
  start = begins.start;
})

pub come_same : (begun other : Begun) (g : Geometry) (depth m : ℕ) (before now : Reading) → begun.metadata % 32 ≡ m → other ≡ record begun { metadata = m } → HasCome begun now g depth before → HasCome other now g depth before
come_same begun other g depth m before now same is come = record { stands = come.stands; sound = come.sound; begins = announced_same begun other 1 m before now same is come.begins }

module _ (begun : Begun) (g : Geometry) (depth : ℕ) (before now new : Reading) (come : HasCome begun now g depth before) where
  pub head_there : (head : Head) → rest_at begun.kind begun.xy begun.metadata begun.start now ≡ (Ok head, new) → IsHeadAt head 1 before.place (passed before new) × IsMoved before new
  head_there head e =
      let goes = begins_goes_on begun 1 before now come.sound come.begins (Ok head) new e in
      (head_ok 1 (omega arith) (omega arith) before new come.sound (Ok head) goes, head_moved 1 (omega arith) (omega arith) before new come.sound (Ok head) goes)

  -- the rest of the header of a certified geometry is read
  pub rest_read : (raw : Fields) → ReadsHead 1 before new (Ok raw) → HasRead raw new g depth before
  rest_read raw (at, moved) = record { stands = come.stands; sound = come.sound; at = at; moved = moved }

  -- no field of the header of a certified geometry is wrong
  pub rest_stands : (m : Malformed) → rest_at begun.kind begun.xy begun.metadata begun.start now ≡ (Err m, new) → ⊥
  rest_stands m e = let no = (head_exact 1 (omega arith) (omega arith) before new come.sound (Err m) (begins_goes_on begun 1 before now come.sound come.begins (Err m) new e)).1 (header_starts g depth before come.stands) in cc (no)

  -- the size of a certified geometry leads to a place that fits its type
  size_fits_by : (n : ℕ) (d : Reading) → begun.metadata ≡ 3 → number_at now ≡ (Ok n, d) → (head : Head) → rest_at begun.kind begun.xy begun.metadata begun.start now ≡ (Ok head, new) → d.place + n < 2 ^ 64
  size_fits_by n d three number head e =
      let fits = hop_fits g depth before new head come.sound come.stands (head_there head e).0 (head_there head e).1 in
      rw (size_said begun n now d new head three number e) at fits

-- a geometry with a size and a box in X and Y
module _ (begun : Begun) (g : Geometry) (depth : ℕ) (before now : Reading) (come : HasCome begun now g depth before) (three : begun.metadata ≡ 3) where
  pub size_stands : (m : Malformed) (d : Reading) → number_at now ≡ (Err m, d) → ⊥
  size_stands m d e = rest_stands begun g depth before now d come m (number_stops begun now d m three e)

  pub size_fits : (n : ℕ) (d : Reading) → number_at now ≡ (Ok n, d) → d.place + n < 2 ^ 64
  size_fits n d number = go (rest_at begun.kind begun.xy begun.metadata begun.start now) refl
    where
      go : (a : Answer Head) → rest_at begun.kind begun.xy begun.metadata begun.start now ≡ a → d.place + n < 2 ^ 64
      go (Ok head, new) e = size_fits_by begun g depth before now new come n d three number head e
      go (Err m, new) e = absurd (rest_stands begun g depth before now new come m e)

  pub x_stands : (n : ℕ) (d : Reading) → number_at now ≡ (Ok n, d) → (m : Malformed) (e : Reading) → range_from d ≡ (Err m, e) → ⊥
  x_stands n d number m e x = rest_stands begun g depth before now e come m (x_stops begun n now d e m three number x)

  pub y_stands : (n : ℕ) (d : Reading) → number_at now ≡ (Ok n, d) → (x : RawRange) (e : Reading) → range_from d ≡ (Ok (ends_of x), e) → (m : Malformed) (f : Reading) → range_from e ≡ (Err m, f) → ⊥
  y_stands n d number x e first m f second = rest_stands begun g depth before now f come m (y_stops begun n (ends_of x) now d e f m three number first second)

  pub box_read : (n : ℕ) (d : Reading) → number_at now ≡ (Ok n, d) → (x y : RawRange) (e f : Reading) → range_from d ≡ (Ok (ends_of x), e) → range_from e ≡ (Ok (ends_of y), f)
      → HasRead (flat_fields begun (record { value = n; offset = now.place; after = d.place }) x y f.place) f g depth before
  box_read n d number x y e f first second =
      let size : SizeField = record { value = n; offset = now.place; after = d.place } in
      rest_read begun g depth before now f come (flat_fields begun size x y f.place) (head_there begun g depth before now f come (head_said (flat_fields begun size x y f.place)) (flat_read begun size x y now d e f three number refl refl first second))

-- a geometry with a size and a box in X and Y is hopped over exactly if its box is skipped
pub flat_hop : (passes : Bounds → Bool) (begun : Begun) (size : SizeField) (x y : RawRange) (stop : ℕ) (b : Bool) → passes (raw_bounds begun.xy None None (flat_box x y)) ≡ b
    → hop_of passes (head_said (flat_fields begun size x y stop)).size (head_said (flat_fields begun size x y stop)).bounds ≡ cond b (Some (size.after + size.value)) None
flat_hop passes begun size x y stop b e = ap (λ (b : Bool). cond b (Some (size.after + size.value)) None) e

-- a metadata byte that announces a size and a box alone announces no ids
pub no_ids : (kind : Kind) → has_ids kind 3 ≡ false
no_ids kind = and-false (is_multi kind)

-- after the header of a geometry with a size and a box in X and Y that isn't skipped
pub flat_behind : (passes : Bounds → Bool) (begun : Begun) (g : Geometry) (depth : ℕ) (before now : Reading) (size : SizeField) (x y : RawRange) (axes : Axes)
    → HasRead (flat_fields begun size x y now.place) now g depth before → axes ≡ flat_axes begun.xy → passes (raw_bounds begun.xy None None (flat_box x y)) ≡ false → IsBehind passes begun.kind axes false now g depth before
flat_behind passes begun g depth before now size x y axes read is stays =
    let raw = flat_fields begun size x y now.place in
    let bounds : Option BoxField = Some (record { bounds = raw_bounds begun.xy None None (flat_box x y); offset = size.after }) in
    let same : head_said raw ≡ full_head begun.kind axes false (Some size) bounds begun.start now.place = λ j. record (head_said raw) { xy = (sym is j).xy; z = (sym is j).z; m = (sym is j).m; ids = no_ids begun.kind j } in
    record {
      size = Some size;
      bounds = bounds;
      start = begun.start;
      stop = now.place;
      stands = read.stands;
      sound = read.sound;
      at = subst (λ (h : Head). IsHeadAt h 1 before.place (passed before now)) same read.at;
      moved = read.moved;
      stays = flat_hop passes begun size x y now.place false stays;
    }

-- a header with a size and nothing else: it stops at a size that is wrong
sized_stops : (begun : Begun) (b d : Reading) (m : Malformed) → begun.metadata ≡ 2 → number_at b ≡ (Err m, d) → rest_at begun.kind begun.xy begun.metadata begun.start b ≡ (Err m, d)
unfolding rest_at
sized_stops begun b d m two e = rw (two, e) refl

-- the fields of the header of a point with a size and nothing else
sized_read : (begun : Begun) (n : ℕ) (b d : Reading) → begun.kind ≡ Point → begun.metadata ≡ 2 → number_at b ≡ (Ok n, d)
    → rest_at begun.kind begun.xy begun.metadata begun.start b ≡ (Ok (full_head Point (flat_axes begun.xy) false (Some (record { value = n; offset = b.place; after = d.place })) None begun.start d.place), d)
unfolding rest_at
sized_read begun n b d point two number = rw (point, two, number) refl

-- a point with a size and nothing else
module _ (begun : Begun) (g : Geometry) (depth : ℕ) (before now : Reading) (come : HasCome begun now g depth before) (two : begun.metadata ≡ 2) where
  pub sized_stands : (m : Malformed) (d : Reading) → number_at now ≡ (Err m, d) → ⊥
  sized_stands m d e = rest_stands begun g depth before now d come m (sized_stops begun now d m two e)

  -- its size leads to its end
  pub sized_leads : (n : ℕ) (d : Reading) → begun.kind ≡ Point → number_at now ≡ (Ok n, d) → IsSizedEnd g before d (record { value = n; offset = now.place; after = d.place })
  sized_leads n d point number =
      let size : SizeField = record { value = n; offset = now.place; after = d.place } in
      let there = head_there begun g depth before now d come (full_head Point (flat_axes begun.xy) false (Some size) None begun.start d.place) (sized_read begun n now d point two number) in
      let raw : Fields = record { kind = Point; axes = flat_axes begun.xy; size = Some size; bounds = None; box_place = d.place; ids = false; empty = false; start = begun.start; stop = d.place } in
      sized_end g depth before d raw size (record { stands = come.stands; sound = come.sound; at = there.0; moved = there.1 }) refl

  pub sized_behind : (passes : Bounds → Bool) (n : ℕ) (d : Reading) (axes : Axes) → begun.kind ≡ Point → number_at now ≡ (Ok n, d) → axes ≡ flat_axes begun.xy → IsBehind passes Point axes false d g depth before
  sized_behind passes n d axes point number is =
      let size : Option SizeField = Some (record { value = n; offset = now.place; after = d.place }) in
      let there = head_there begun g depth before now d come (full_head Point (flat_axes begun.xy) false size None begun.start d.place) (sized_read begun n now d point two number) in
      record {
        size = size;
        bounds = None;
        start = begun.start;
        stop = d.place;
        stands = come.stands;
        sound = come.sound;
        at = subst (λ (a : Axes). IsHeadAt (full_head Point a false size None begun.start d.place) 1 before.place (passed before d)) (sym is) there.0;
        moved = there.1;
        stays = refl;
      }

-- a visitor judges the box of a geometry with a size and a box in X and Y by the precision as the code holds it
module _ {S : Type 0} (step : S → Vertex → S) (passes : S → Bounds → Bool) (s : S) {begun : Begun} {g : Geometry} {depth : ℕ} {before now : Reading} (come : HasCome begun now g depth before) (three : begun.metadata ≡ 3)
    {n : ℕ} {d : Reading} (number : number_at now ≡ (Ok n, d)) (x y : RawRange) {e f : Reading} (first : range_from d ≡ (Ok (ends_of x), e)) (second : range_from e ≡ (Ok (ends_of y), f)) (xy : ℤ) (fits : xy ≡ begun.xy) where
  abbrev size : SizeField
  size = record { value = n; offset = now.place; after = d.place }

  read : HasRead (flat_fields begun size x y f.place) f g depth before
  read = box_read begun g depth before now come three n d number x y e f first second

  judged : (b : Bool) → passes s (raw_bounds xy None None (flat_box x y)) ≡ b → passes s (raw_bounds begun.xy None None (flat_box x y)) ≡ b
  judged b is = ap (λ (p : ℤ). passes s (raw_bounds p None None (flat_box x y))) (sym fits) ∙ is

  module _ (skipped : passes s (raw_bounds xy None None (flat_box x y)) ≡ true) (place : ℕ) (at : place ≡ d.place) where
    hops : hop_of (passes s) (head_said (flat_fields begun size x y f.place)).size (head_said (flat_fields begun size x y f.place)).bounds ≡ Some (place + n)
    hops = flat_hop (passes s) begun size x y f.place true (judged true skipped) ∙ ap (λ (p : ℕ). Some (p + n)) (sym at)

    -- if the box is skipped, the geometry's end is within the bytes
    pub box_hop_within : place + n ≤ length f.bytes
    box_hop_within = hop_within step passes s g depth before f (head_said (flat_fields begun size x y f.place)) (place + n) read.stands read.at read.moved hops

    -- if the box is skipped, the step ends at the geometry's end
    pub box_hop_enters : SkipsSoundly step passes → (new : Reading) → new ≡ record f { place = place + n } → Entered step passes g depth (record { reading = before; state = s }) (record { reading = new; state = s }) 0
    box_hop_enters sound new is = enter_hops step passes s sound g depth before f new (head_said (flat_fields begun size x y f.place)) (place + n) read.stands read.at read.moved hops is

  -- if the box isn't skipped, the body follows
  pub box_behind : passes s (raw_bounds xy None None (flat_box x y)) ≡ false → (axes : Axes) → axes ≡ flat_axes xy → IsBehind (passes s) begun.kind axes false f g depth before
  box_behind stays axes is = flat_behind (passes s) begun g depth before f size x y axes read (is ∙ ap flat_axes fits) (judged false stays)

  -- its size leads to its end
  pub box_leads : IsSizedEnd g before f size
  box_leads = sized_end g depth before f (flat_fields begun size x y f.place) size read refl
