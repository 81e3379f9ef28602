-- The loop of a scan with the slots of a directory, from slot to slot.
use Rattle.twkb_layer.proofs.Prelude.{◌≡◌, ℕ, ℤ, ◌+◌, ◌^◌, ◌<◌, ◌≤◌, Bool, true, false, cond, List, [], ◌∷◌, length, map, take, drop, Option, Some, None, option_map, refl, ap, subst, sym, ◌∙◌, arith, sum_by, slice_set, length-drop, list_any, AllByRecursion, length-take, recursion_from_All, added, Vertex, Bounds, bounds_of, Geometry, geometry, vertices, StandsAt, Entry, box_of, entry_of, entries, directory_cost, hits, found_blobs, cost, filled, IsCertifiedLayer, size_of, told_from, outside, is_inside, box_misses, is_missed, Found, OfEntry, Scan, finds}
use Rattle.twkb_head.specs.Header.{Header}
use Rattle.twkb_head.specs.Holds.{Holds}
use Rattle.twkb_body.proofs.Entering.{reaches, boxed_holds}
use Rattle.twkb_layer.proofs.Layers.{blob_some, layer_short}
use Rattle.twkb_layer.proofs.EachBlob.{Next, next_of, Walking, walk_begins, walk_goes_on, walk_fits, blob_few, walk_ends}
use Rattle.twkb_layer.proofs.Scanning.{scan_ends, scan_reads}
use Rattle.twkb_layer.proofs.Visits.{directory_cost_few}

-- ---- a box that misses

none_of : (w box : Bounds) (vs : List Vertex) → box_misses w box ≡ true → AllByRecursion (Holds box) vs → list_any (is_inside w) vs ≡ false
none_of w box [] miss h = refl
none_of w box (v ∷ vs) miss h = rw (outside w box v miss h.0) (none_of w box vs miss h.1)

-- a geometry whose box misses the window has a box
record HasMissed (w : Bounds) (h : Header) : Type 0 where
  ranges : List (ℤ × ℤ)
  box : h.box ≡ Some ranges
  misses : box_misses w (bounds_of h.xy h.z h.m ranges) ≡ true

missed_has : (w : Bounds) (h : Header) (box : Option (List (ℤ × ℤ))) → box ≡ h.box → is_missed w (option_map (λ ranges. bounds_of h.xy h.z h.m ranges) box) ≡ true → HasMissed w h
missed_has w h None e m = absurd (cc (m))
missed_has w h (Some ranges) e m = record { ranges = ranges; box = sym e; misses = m }

-- a blob whose box misses the window has no vertex inside
pub missed_none : (w : Bounds) (g : Geometry) (bytes : List ℕ) (place : ℕ) → StandsAt g 1 bytes place → is_missed w (box_of g) ≡ true → list_any (is_inside w) (vertices g) ≡ false
missed_none w (geometry h l ids polygons members) bytes place at miss =
    let k = missed_has w h h.box refl miss in
    let boxed = boxed_holds h l ids polygons members 1 bytes place k.ranges at k.box in
    none_of w (bounds_of h.xy h.z h.m k.ranges) (vertices (geometry h l ids polygons members)) k.misses (recursion_from_All (Holds (bounds_of h.xy h.z h.m k.ranges)) (vertices (geometry h l ids polygons members)) boxed)

-- a blob that isn't found leaves the scan as it is
pub finds_none : {S : Type 0} (of : Found → S) (s : Scan S) (blob offset : ℕ) (g : Geometry) → list_any (is_inside s.window) (vertices g) ≡ false → finds of s blob offset g ≡ s
finds_none of s blob offset g none = ap (λ (b : Bool). cond b (record { window = s.window; found = s.found + 1; room = slice_set s.room s.found (of (record { blob = blob; offset = offset; bytes = size_of g })) }) s) none

-- at most one more is found
found_few : {S : Type 0} (b : Bool) (found : ℕ) (more same : Scan S) → more.found ≡ found + 1 → same.found ≡ found → (cond b more same).found ≤ found + 1
found_few true found more same one none = omega (arith, one)
found_few false found more same one none = omega (arith, none)

-- ---- a scan with slots

-- the blob of the next entry
pub record Here (rest : List Geometry) (bytes : List ℕ) (place : ℕ) (others : List Entry) (blob : ℕ) (e : Entry) : Type 0 where
  pub next : Next rest bytes place
  pub offset : e.offset ≡ place
  pub bounds : e.bounds ≡ box_of next.tree
  pub others_are : others ≡ told_from entry_of (blob + 1) (place + size_of next.tree) next.after

some_left : (rest : List Geometry) (bytes : List ℕ) (blob place : ℕ) (p : Entry) (ps : List Entry) → p ∷ ps ≡ told_from entry_of blob place rest → IsCertifiedLayer rest (drop place bytes) → place < length bytes
some_left [] bytes blob place p ps e left = absurd (cc (e))
some_left (tree ∷ trees) bytes blob place p ps e left = omega (arith, length-drop place bytes, blob_some tree (take (size_of tree) (drop place bytes)) left.layer.0, length-take (size_of tree) (drop place bytes))

first_of_entries : (rest : List Geometry) (bytes : List ℕ) (place : ℕ) (others : List Entry) (blob : ℕ) (e : Entry) → e ∷ others ≡ told_from entry_of blob place rest → Next rest bytes place → Here rest bytes place others blob e
first_of_entries rest bytes place others blob e is n =
    let both : e ∷ others ≡ (record { offset = place; bounds = box_of n.tree } ∷ told_from entry_of (blob + 1) (place + size_of n.tree) n.after) = is ∙ ap (told_from entry_of blob place) n.is in
    let first : e ≡ record { offset = place; bounds = box_of n.tree } = cc (both) in
    record { next = n; offset = ap (λ (p : Entry). p.offset) first; bounds = ap (λ (p : Entry). p.bounds) first; others_are = cc (both) }

-- the blob of an entry is a certified geometry at its offset
here_stands : (rest : List Geometry) (bytes now : List ℕ) (place : ℕ) (others : List Entry) (blob : ℕ) (e : Entry) (h : Here rest bytes place others blob e) → now ≡ bytes → StandsAt h.next.tree 1 now e.offset
here_stands rest bytes now place others blob e h same = rw (same, h.offset) h.next.stands

no_entries : (blob place : ℕ) (rest : List Geometry) → [] ≡ told_from entry_of blob place rest → rest ≡ []
no_entries blob place [] e = refl
no_entries blob place (t ∷ ts) e = absurd (cc (e))

-- A scan with slots, for any type that it converts hits to, before a blob.
module _ {S : Type 0} (of : Found → S) (w : Bounds) (bytes : List ℕ) (count0 : ℕ) (room0 : List S) where
  -- the entries that are left are of the blobs still to come
  pub record Looking (kept : List Entry) (count blob found : ℕ) (room : List S) : Type 0 where
    pub place : ℕ
    pub rest : List Geometry
    pub on : Walking (finds of) (λ s g. directory_cost s.window g) None bytes count0 (record { window = w; found = 0; room = room0 }) rest blob place count (record { window = w; found = found; room = room }) (λ blob more. found + more < 2 ^ 64)
    pub entries_are : kept ≡ told_from entry_of blob place rest

  pub look_begins : (kept : List Entry) (trees : List Geometry) → IsCertifiedLayer trees bytes → kept ≡ entries trees → length bytes < 2 ^ 64 → count0 < 2 ^ 64 → Looking kept count0 0 0 room0
  look_begins kept trees whole are short small = record {
    place = 0;
    rest = trees;
    on = walk_begins (finds of) _ None bytes count0 _ (λ blob more. 0 + more < 2 ^ 64) trees whole (omega (arith, layer_short trees bytes whole.layer, short)) small;
    entries_are = are;
  }

  -- entries that are known
  pub look_known : (kept are : List Entry) (count blob found : ℕ) (room : List S) → Looking kept count blob found room → kept ≡ are → Looking are count blob found room
  look_known kept are count blob found room s is = subst (λ entries. Looking entries count blob found room) is s

  -- the blob of the next entry, and the scan after it
  module _ {e : Entry} {others : List Entry} {count blob found : ℕ} {room : List S} (s : Looking (e ∷ others) count blob found room) where
    here : Here s.rest bytes s.place others blob e
    here = first_of_entries s.rest bytes s.place others blob e s.entries_are (next_of s.rest bytes s.place s.on.left (some_left s.rest bytes blob s.place _ _ s.entries_are s.on.left))

    -- the numbers of the blob and of one more hit fit their types
    pub entry_fits : (blob < length bytes) × (found + 1 < 2 ^ 64)
    entry_fits = (blob_few _ _ _ bytes count0 _ s.rest blob s.place count _ _ s.on here.next, let more = (walk_fits _ _ _ bytes count0 _ s.rest blob s.place count _ _ s.on here.next refl) in omega (arith, more.1))

    module _ {now : List ℕ} (same : now ≡ bytes) where
      stands : StandsAt here.next.tree 1 now e.offset
      stands = here_stands s.rest bytes now s.place others blob e here same

      pub entry_stands : (g : Geometry) × StandsAt g 1 now e.offset
      entry_stands = (here.next.tree, stands)

      pub look_past : {v : Bounds} → v ≡ w → {new more : ℕ} {put : List S}
          → OfEntry now e (λ g. finds of (record { window = v; found = found; room = room }) blob e.offset g ≡ record { window = v; found = more; room = put })
          → OfEntry now e (λ g. new ≡ added count (directory_cost v g)) → Looking others new (blob + 1) more put
      look_past {v} v_is {new} {more} {put} found_is adds =
          let n = here.next in
          let is : finds of (record { window = w; found = found; room = room }) blob e.offset n.tree ≡ record { window = w; found = more; room = put }
          = subst (λ (v : Bounds). finds of (record { window = v; found = found; room = room }) blob e.offset n.tree ≡ record { window = v; found = more; room = put }) v_is (found_is n.tree stands here.bounds) in
          let cost_is : new ≡ added count (directory_cost w n.tree) = adds n.tree stands here.bounds ∙ ap (λ (v : Bounds). added count (directory_cost v n.tree)) v_is in
          let few : more ≤ found + 1 = subst (λ (k : ℕ). k ≤ found + 1) (ap (λ (k : Scan S). k.found) is) (found_few (list_any (is_inside w) (vertices n.tree)) found (record { window = w; found = found + 1; room = slice_set room found (of (record { blob = blob; offset = e.offset; bytes = size_of n.tree })) }) (record { window = w; found = found; room = room }) refl refl) in
          record {
            place = s.place + size_of n.tree;
            rest = n.after;
            on = rw cost_is (walk_goes_on (finds of) (λ s g. directory_cost s.window g) None bytes count0 _ s.rest blob s.place count (record { window = w; found = found; room = room }) _ s.on n refl (directory_cost_few w n.tree bytes s.place n.stands) _
                (sym is ∙ (λ j. finds of (record { window = w; found = found; room = room }) blob (here.offset j) n.tree)) (λ blob many. more + many < 2 ^ 64) (λ many fits. omega (arith, fits, few)));
            entries_are = here.others_are;
          }

  -- the result of a scan with slots
  pub look_ends : (kept : List Entry) (count blob found : ℕ) (room : List S) → Looking kept count blob found room → kept ≡ [] → (trees : List Geometry) → IsCertifiedLayer trees bytes
      → (found ≡ length (hits trees w)) × (room ≡ filled (map of (found_blobs trees w)) room0) × (count ≡ added count0 (sum_by (directory_cost w) trees))
  look_ends kept count blob found room s over trees h =
      let none = no_entries blob s.place s.rest (sym over ∙ s.entries_are) in
      let all = walk_ends _ _ None bytes count0 _ s.rest blob s.place count _ _ s.on none trees h in
      let ends = scan_ends of w room0 trees _ all.0 in
      (ends.0, ends.1, all.1 ∙ ap (added count0) (scan_reads of directory_cost 0 0 trees _))

-- a blob that isn't looked at costs nothing
pub missed_costs : (w : Bounds) (g : Geometry) (count : ℕ) → count < 2 ^ 64 → is_missed w (box_of g) ≡ true → count ≡ added count (directory_cost w g)
missed_costs w g count small miss = (omega (arith, small)) ∙ ap (added count) (sym (ap (λ (b : Bool). cond b 0 (cost w g)) miss))

-- a blob that is looked at costs as much as in a scan without a directory
pub looked_costs : (w : Bounds) (g : Geometry) → is_missed w (box_of g) ≡ false → cost w g ≡ directory_cost w g
looked_costs w g meets = sym (ap (λ (b : Bool). cond b 0 (cost w g)) meets)

-- a certified blob begins within the bytes
pub stands_within : (g : Geometry) (bytes : List ℕ) (place : ℕ) → StandsAt g 1 bytes place → place ≤ length bytes
stands_within (geometry h l ids polygons members) bytes place at = let r = reaches h l ids polygons members 1 bytes place at in omega (arith, r.1)

-- the test of an entry says whether the blob's box misses the window
pub tests_box : (w : Bounds) (bounds box : Option Bounds) (a b : Bool) → a ≡ b → a ≡ is_missed w bounds → bounds ≡ box → is_missed w box ≡ b
tests_box w bounds box a b e is same = ap (is_missed w) (sym same) ∙ (sym is ∙ e)
