-- The lines of a window, from the answer of a scan, and the lines of a list.
use Rattle.twkb_tool.proofs.Prelude.{◌≡◌, ◌∙◌, ℕ, ℤ, ◌+◌, ◌-◌, ◌*◌, ◌^◌, ◌<◌, ◌≤◌, Bool, true, false, cond, List, [], ◌∷◌, ◌++◌, length, take, drop, flat_map, min, sum_by, codes, decimal, refl, sym, ap, arith, append_assoc, get_or, length-append, flat_map_more, take_all, take_at, take_more, list_any, Bounds, Geometry, vertices, hit_of, hits, filled, IsCertifiedLayer, AddsAtMost, size_of, told_from, layer_once, MAX_FILE, name_of, yes_no, no_line, row_line, hit_line, end_line, window_text}
use Rattle.std.proofs.lemmas.List.Sums.{sum_by_more}
use Rattle.twkb_layer.specs.Window.{is_inside}
use Rattle.twkb_layer.specs.declared.hits.Hit.{Hit}
use Rattle.twkb_layer.specs.declared.row.Row.{Row}
use Rattle.std.specs.Fmt.{signed_decimal}

one_or_none : (b : Bool) (hit : Hit) → length (cond b (hit ∷ []) []) ≤ 1
one_or_none true hit = omega arith
one_or_none false hit = omega arith

-- the hits of the blobs that are left
abbrev hits_from : ℕ → ℕ → List Geometry → Bounds → List Hit
hits_from blob offset trees w = flat_map (λ hit. hit) (told_from (hit_of w) blob offset trees)

-- there are no more hits than blobs
few_hits : (blob offset : ℕ) (trees : List Geometry) (w : Bounds) → length (hits_from blob offset trees w) ≤ length trees
few_hits blob offset [] w = omega arith
few_hits blob offset (t ∷ ts) w =
    let hit : Hit = record { blob = blob; offset = offset } in
    let first : List Hit = cond (list_any (is_inside w) (vertices t)) (hit ∷ []) [] in
    omega (arith, one_or_none (list_any (is_inside w) (vertices t)) hit, few_hits (blob + 1) (offset + size_of t) ts w, length-append first (hits_from (blob + 1) (offset + size_of t) ts w))

-- a room with a place for each hit has them all at its front
all_in_front : (found room : List Hit) → length found ≤ length room → take (length found) (filled found room) ≡ found
all_in_front found room h = take_at (take (length room) found) (drop (length found) room) (length found) (ap length (take_all (length room) found h)) ∙ take_all (length room) found h

-- a room with a place for each blob of one list of trees has one for each blob of the layer's trees
enough_for : (places : ℕ) (bytes : List ℕ) (trees : List Geometry) → (given : List Geometry) × IsCertifiedLayer given bytes × (length given ≤ places) → IsCertifiedLayer trees bytes → length trees ≤ places
enough_for places bytes trees (given, whole, enough) layer = omega (arith, enough, ap length (layer_once trees given bytes layer.layer whole.layer))

pub found_fits_room : (bytes : List ℕ) (w : Bounds) (room0 room : List Hit) (found : ℕ) → (given : List Geometry) × IsCertifiedLayer given bytes × (length given ≤ length room0)
    → ((trees : List Geometry) → IsCertifiedLayer trees bytes → found ≡ length (hits trees w)) → length room ≡ length room0 → found ≤ length room
found_fits_room bytes w room0 room found (given, whole, enough) answer same = omega (arith, answer given whole, few_hits 0 0 given w, enough, same)

-- a count grew by what was read, if it was far from its greatest value
pub grew : (before after len read : ℕ) → AddsAtMost len before after → before + len < 2 ^ 64 - 1 → after ≡ min (before + read) (2 ^ 64 - 1) → after ≡ before + read
grew before after len read few small is = omega (arith, few.few, few.is, small, is)

-- one more scan reads no more than all bytes once more
pub read_more : (i len before after : ℕ) → AddsAtMost len before after → len ≤ MAX_FILE → before ≤ (3 + i) * MAX_FILE → after ≤ (3 + (i + 1)) * MAX_FILE
read_more i len before after few small read = omega (arith, few.few, few.is, small, read)

-- the hits and the number of bytes read make the lines of the window
pub window_lines : (reads : Bounds → Geometry → ℕ) (w : Bounds) (trees : List Geometry) (bytes : List ℕ) (room0 room : List Hit) (found read len : ℕ)
    → (given : List Geometry) × IsCertifiedLayer given bytes × (length given ≤ length room0) → IsCertifiedLayer trees bytes
    → found ≡ length (hits trees w) → room ≡ filled (hits trees w) room0 → read ≡ sum_by (reads w) trees → len ≡ length bytes
    → (flat_map hit_line (take found room) ++ end_line found read len) ≡ window_text reads trees (length bytes) w
window_lines reads w trees bytes room0 room found read len given layer answer filled_is read_is len_is =
    let enough : length (hits trees w) ≤ length room0 = omega (arith, few_hits 0 0 trees w, enough_for (length room0) bytes trees given layer) in
    let front : take found room ≡ hits trees w = rw (answer, filled_is) (all_in_front (hits trees w) room0 enough) in
    rw (front, answer, read_is, len_is) refl

-- the lines of one more element, after the lines of the elements before it
pub lines_more : {X : Type 0} (line : X → List ℕ) (out now next : List ℕ) (xs : List X) (i : ℕ) (d : X) → i < length xs
    → now ≡ out ++ flat_map line (take i xs) → next ≡ now ++ line (get_or xs i d) → next ≡ out ++ flat_map line (take (i + 1) xs)
lines_more line out now next xs i d lt before more =
    more ∙ ap (λ (text : List ℕ). text ++ line (get_or xs i d)) before ∙ flat_map_more line out (take i xs) (get_or xs i d)
    ∙ ap (λ (front : List _). out ++ flat_map line front) (sym (take_more xs i d lt))

-- what is read for one more element, after what was read for the elements before it
pub reads_more : {X : Type 0} (read : X → ℕ) (first now next : ℕ) (xs : List X) (i : ℕ) (d : X) → i < length xs
    → now ≡ first + sum_by read (take i xs) → next ≡ now + read (get_or xs i d) → next ≡ first + sum_by read (take (i + 1) xs)
reads_more read first now next xs i d lt before more = omega (arith, before, more, sum_by_more read xs i d lt)

-- the pieces for a refused file, one after another, make its line
pub no_made : (blob offset : ℕ) (out a b c word : List ℕ) → a ≡ out ++ (codes "no blob=" ++ decimal blob) → b ≡ a ++ (codes " offset=" ++ decimal offset)
    → c ≡ b ++ (codes " kind=" ++ word) → c ++ codes "\n" ≡ out ++ no_line blob offset word
unfolding no_line
no_made blob offset out a b c word ea eb ec = rw (ec, eb, ea) (simp append_assoc refl)

-- eight names and their values, one after another
joined : (out n1 v1 n2 v2 n3 v3 n4 v4 n5 v5 n6 v6 n7 v7 n8 v8 last : List ℕ)
    → ((((((((out ++ (n1 ++ v1)) ++ (n2 ++ v2)) ++ (n3 ++ v3)) ++ (n4 ++ v4)) ++ (n5 ++ v5)) ++ (n6 ++ v6)) ++ (n7 ++ v7)) ++ (n8 ++ v8)) ++ last ≡ out ++ (n1 ++ v1 ++ n2 ++ v2 ++ n3 ++ v3 ++ n4 ++ v4 ++ n5 ++ v5 ++ n6 ++ v6 ++ n7 ++ v7 ++ n8 ++ v8 ++ last)
joined out n1 v1 n2 v2 n3 v3 n4 v4 n5 v5 n6 v6 n7 v7 n8 v8 last = simp append_assoc refl

-- a row's pieces, one after another, make its line
pub row_made : (row : Row) (out a b c d e f g h kind sized boxed : List ℕ) (precision : ℤ) → precision ≡ row.precision → kind ≡ name_of row.kind → sized ≡ yes_no row.has_size → boxed ≡ yes_no row.has_box
    → a ≡ out ++ (codes "blob=" ++ decimal row.blob) → b ≡ a ++ (codes " offset=" ++ decimal row.offset) → c ≡ b ++ (codes " bytes=" ++ decimal row.bytes)
    → d ≡ c ++ (codes " type=" ++ kind) → e ≡ d ++ (codes " precision=" ++ signed_decimal precision) → f ≡ e ++ (codes " vertices=" ++ decimal row.vertices)
    → g ≡ f ++ (codes " size=" ++ sized) → h ≡ g ++ (codes " box=" ++ boxed) → h ++ codes "\n" ≡ out ++ row_line row
unfolding row_line
row_made row out a b c d e f g h kind sized boxed precision p k s x ea eb ec ed ee ef eg eh =
    rw (eh, eg, ef, ee, ed, ec, eb, ea, p, k, s, x)
    (joined out (codes "blob=") (decimal row.blob) (codes " offset=") (decimal row.offset) (codes " bytes=") (decimal row.bytes) (codes " type=") (name_of row.kind)
    (codes " precision=") (signed_decimal row.precision) (codes " vertices=") (decimal row.vertices) (codes " size=") (yes_no row.has_size) (codes " box=") (yes_no row.has_box) (codes "\n"))
