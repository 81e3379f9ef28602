-- The answers to several windows, one after another in the same rooms.
use Rattle.twkb_call.proofs.Prelude.{◌≡◌, ◌+◌, ◌-◌, ◌<◌, ◌≤◌, ℕ, List, [], ◌∷◌, ◌++◌, length, map, take, drop, get_or, slice_set, sum_by, arith, ap, sym, ◌∙◌, take_more, flat_map_more, map-append, length-append, length-map, length-take-le, take_rest, drop-drop, drop_all, append-nil, added, Geometry, hits, found_blobs, filled, OfLayer, filled-nil, filled-push}
use borrow.Rule.Slice.PartMut.{put_mid, mid_of}
use Rattle.twkb_layer.specs.Directory.{directory_cost}
use Rattle.twkb_layer.proofs.Scanning.{as_many}
use Rattle.twkb_call.specs.Hits.{hit_from, hits_in_all, scanned_with}
use Rattle.twkb_call.specs.Window.{ranges_of}
use Rattle.twkb_call.specs.declared.scans.Hit.{Hit}
use Rattle.twkb_call.specs.declared.scans.Scanned.{Scanned}
use Rattle.twkb_call.specs.declared.window.Window.{Window}

-- what comes next goes after what was put in, as far as the room goes
filled_behind : {A : Type 0} (seen more room : List A) → length seen ≤ length room
    → take (length seen) (filled seen room) ++ filled more (drop (length seen) (filled seen room)) ≡ filled (seen ++ more) room
filled_behind [] more room fits = ap (filled more) (sym (filled-nil room))
filled_behind (s ∷ seen) more [] fits = absurd (omega (arith, fits))
filled_behind (s ∷ seen) more (r ∷ room) fits = ap (λ xs. s ∷ xs) (filled_behind seen more room (omega (arith, fits)))

-- nothing of a room comes after its rest
nothing_behind : {A : Type 0} (room behind : List A) (used : ℕ) → put_mid used (length room - used) room behind ≡ take used room ++ behind
nothing_behind room behind used =
    let none : drop (length room - used) (drop used room) ≡ [] = drop-drop (length room - used) used room ∙ drop_all (used + (length room - used)) room (omega arith) in
    ap (λ xs. take used room ++ xs) (ap (λ xs. behind ++ xs) none ∙ append-nil behind)

-- The first windows are answered: what was said of them, and all their hits, are in the rooms.
pub record Answered (trees : List Geometry) (windows : List Window) (n used : ℕ) (scanned scanned' : List Scanned) (room room' : List Hit) : Type 0 where
  pub counted : used ≡ length (hits_in_all trees (take n windows))
  pub told : scanned' ≡ filled (map (scanned_with trees) (take n windows)) scanned
  pub shown : room' ≡ filled (hits_in_all trees (take n windows)) room

module _ (trees : List Geometry) (windows : List Window) (n : ℕ) (d : Window) where
  -- the windows with the next one, and what is said of them and found in them
  firsts : n < length windows → take (n + 1) windows ≡ take n windows ++ get_or windows n d ∷ []
  firsts more = take_more windows n d more

  saids : n < length windows → map (scanned_with trees) (take (n + 1) windows) ≡ map (scanned_with trees) (take n windows) ++ scanned_with trees (get_or windows n d) ∷ []
  saids more = ap (map (scanned_with trees)) (firsts more) ∙ map-append (scanned_with trees) (take n windows) (get_or windows n d ∷ [])

  founds : n < length windows → hits_in_all trees (take (n + 1) windows) ≡ hits_in_all trees (take n windows) ++ map hit_from (found_blobs trees (ranges_of (get_or windows n d)))
  founds more = ap (hits_in_all trees) (firsts more) ∙ sym (flat_map_more (λ w. map hit_from (found_blobs trees (ranges_of w))) [] (take n windows) (get_or windows n d))

  one_more : (used : ℕ) (scanned scanned' : List Scanned) (room room' behind : List Hit) (one : Scanned)
      → Answered trees windows n used scanned scanned' room room' → n < length windows → used ≤ length room' → length room' ≡ length room
      → one.hits ≡ length (hits trees (ranges_of (get_or windows n d)))
      → one.bytes_read ≡ added 0 (sum_by (directory_cost (ranges_of (get_or windows n d))) trees)
      → behind ≡ filled (map hit_from (found_blobs trees (ranges_of (get_or windows n d)))) (mid_of used (length room' - used) room')
      → Answered trees windows (n + 1) (used + one.hits) scanned (slice_set scanned' n one) room (put_mid used (length room' - used) room' behind)
  one_more used scanned scanned' room room' behind one so_far more fits same hits_is read_is put =
      let w = get_or windows n d in
      let seen = hits_in_all trees (take n windows) in
      let said = map (scanned_with trees) (take n windows) in
      let next = map hit_from (found_blobs trees (ranges_of w)) in
      let one_is : one ≡ scanned_with trees w = λ k. record { hits = hits_is k; bytes_read = read_is k } in
      let many : n ≡ length said = sym (length-map (take n windows) (scanned_with trees) ∙ length-take-le n windows (omega (arith, more))) in
      record {
        counted = ap (λ u. u + one.hits) so_far.counted ∙ ap (λ u. length seen + u) (hits_is ∙ sym (as_many hit_from trees (ranges_of w)))
            ∙ sym (length-append seen next) ∙ ap length (sym (founds more));
        told = ap (λ xs. slice_set xs n one) so_far.told ∙ ap (λ m. slice_set (filled said scanned) m one) many
            ∙ filled-push said scanned one ∙ ap (λ s. filled (said ++ s ∷ []) scanned) one_is ∙ ap (λ xs. filled xs scanned) (sym (saids more));
        shown = nothing_behind room' behind used ∙ ap (λ xs. take used room' ++ xs) (put ∙ ap (filled next) (take_rest room' used))
            ∙ ap (λ xs. take used xs ++ filled next (drop used xs)) so_far.shown
            ∙ ap (λ m. take m (filled seen room) ++ filled next (drop m (filled seen room))) so_far.counted
            ∙ filled_behind seen next room (omega (arith, so_far.counted, fits, same)) ∙ ap (λ xs. filled xs room) (sym (founds more));
      }

-- `one_more` for all trees of which the bytes are a certified layer
pub next_answered : (bytes : List ℕ) (windows : List Window) (n : ℕ) (d : Window) (used : ℕ) (scanned scanned' : List Scanned) (room room' behind : List Hit) (one : Scanned)
    → OfLayer bytes (λ trees. Answered trees windows n used scanned scanned' room room') → n < length windows → used ≤ length room' → length room' ≡ length room
    → OfLayer bytes (λ trees. one.hits ≡ length (hits trees (ranges_of (get_or windows n d))))
    → OfLayer bytes (λ trees. one.bytes_read ≡ added 0 (sum_by (directory_cost (ranges_of (get_or windows n d))) trees))
    → OfLayer bytes (λ trees. behind ≡ filled (map hit_from (found_blobs trees (ranges_of (get_or windows n d)))) (mid_of used (length room' - used) room'))
    → OfLayer bytes (λ trees. Answered trees windows (n + 1) (used + one.hits) scanned (slice_set scanned' n one) room (put_mid used (length room' - used) room' behind))
next_answered bytes windows n d used scanned scanned' room room' behind one so_far more fits same hits_are reads put =
    λ trees h. one_more trees windows n d used scanned scanned' room room' behind one (so_far trees h) more fits same (hits_are trees h) (reads trees h) (put trees h)
