-- A geometry whose header was read ends as its body does, and then its own claims are judged.
use Rattle.twkb_body.proofs.Prelude.{◌≡◌, ℕ, suc, ◌+◌, ◌-◌, ◌≤◌, Bool, true, false, is_some, Result, Ok, Err, refl, sym, ap, subst, ◌∙◌, arith, Reading, rest, passed, IsMoved, IsSound, Head, deepest, is_collection, IsHeadAt, head_value, Stopped, Geometry, vertices, Reach, reach_of, HasLongList, Body, geometry_at, members_under, Found, named, size_judged, IsFound, Notes, HasManyIdsAfterCount, Inside, of_head, body_behind, shape_behind, first_inside, IsInside, Refused, first, HasStopped, ReadsGeometry, WantsBehind, WantsIn, WantsInside}
use Rattle.twkb_body.specs.declared.found.Halted.{Halted}
use Rattle.twkb_body.specs.declared.found.Pass.{Pass}
use Rattle.twkb_body.proofs.GeometrySteps.{shape_body, body_gives, body_fails, body_of_head, geometry_found}
use Rattle.twkb_body.proofs.MemberSteps.{collection_at, collection_body, long_list_in}
use Rattle.twkb_body.proofs.Stopping.{stops_outside, stops_through}

-- a geometry that was shown to the boxes above was read
pub read_unseen : (tight : Bool) (depth : ℕ) (Saw : Reach → Type 0) (before after : Pass) (old new : Reading) (result : Result ℕ Halted) → ReadsGeometry tight depth Saw before after old result new
    → ReadsGeometry tight depth (λ reach. Unit {0}) before after old result new
read_unseen tight depth Saw before after old new (Ok vertices) r = (r.0, r.1, (r.2.0, r.2.1, tt, r.2.3, r.2.4))
read_unseen tight depth Saw before after old new (Err halted) r = r

-- if a body that is no collection's stops, the body stops for the same reason
pub shape_stops : (levels depth : ℕ) (head : Head) (a : Reading) → head.empty ≡ false → is_collection head.kind ≡ false → (e : Stopped) (new : Reading)
    → HasStopped (shape_behind head a) (HasManyIdsAfterCount head.ids (rest a)) a e new → HasStopped (body_behind levels head a) (WantsBehind depth head a) a e new
shape_stops levels depth head a full single e new =
    stops_through (shape_behind head a) (body_behind levels head a) (HasManyIdsAfterCount head.ids (rest a)) (WantsBehind depth head a) a e new
    (shape_body (of_head head) (members_under levels) a full single) (λ wants. subst (λ (b : Bool). WantsIn b head.empty depth head.ids a) (sym single) wants)

-- if a collection's body stops, the body stops for the same reason
pub collection_stops : (levels depth inner : ℕ) (head : Head) (a : Reading) → levels ≡ suc inner → inner ≡ deepest - (depth + 1) → head.empty ≡ false → is_collection head.kind ≡ true → (e : Stopped) (new : Reading)
    → HasStopped (collection_at (geometry_at inner) head.ids a) (WantsInside depth inner head.ids a) a e new → HasStopped (body_behind levels head a) (WantsBehind depth head a) a e new
collection_stops levels depth inner head a under same full many e new =
    stops_through (collection_at (geometry_at inner) head.ids a) (body_behind levels head a) (WantsInside depth inner head.ids a) (WantsBehind depth head a) a e new
    (collection_body levels inner (of_head head) a under full many)
    (λ wants. subst (λ (b : Bool). WantsIn b head.empty depth head.ids a) (sym many) (full, subst (λ (n : ℕ). WantsInside depth n head.ids a) same wants))

module _ (tight : Bool) (depth : ℕ) (shallow : 1 ≤ depth) (deep : depth ≤ deepest) (before a : Reading) (sound : IsSound before) (head : Head) (at : IsHeadAt head depth before.place (passed before a))
    (moved : IsMoved before a) where
  -- if the body stops, the geometry stops for the same reason
  pub body_stops : (e : Stopped) (new : Reading) → HasStopped (body_behind (deepest - depth) head a) (WantsBehind depth head a) a e new
      → HasStopped (geometry_at (deepest - depth) before) (HasLongList depth (rest before)) before e new
  body_stops e new =
      let headed = head_value depth shallow deep before a head sound at moved in
      let body = body_of_head head at.header _ _ _ _ at.fields (members_under (deepest - depth)) a in
      stops_outside (body_behind (deepest - depth) head a) (geometry_at (deepest - depth) before) (WantsBehind depth head a) (HasLongList depth (rest before)) a before e new
      (λ m f. body_fails (deepest - depth) before _ _ headed m _ (record { left = f.left; is = sym body ∙ f.is; bytes = f.bytes }))
      (λ bytes wants. (bytes ∙ moved.bytes, long_list_in head depth _ _ shallow sound at moved _ refl wants))

  -- if the body is read, the geometry is
  module _ (Saw : Reach → Type 0) (body : Body) (new : Reading) (inside : Inside) (read : body_behind (deepest - depth) head a ≡ (Ok body, new)) (is : IsInside tight (of_head head) head.bounds body a.place new.place Saw inside) where
    pub body_ends : (was : Bool) (outer : Refused) (noted judged : Pass) (claim : Refused) (vertices_are : ℕ) (stop : ℕ) → was ≡ is_some outer → named noted.refused ≡ first outer (first_inside inside)
        → Notes was noted judged claim → claim ≡ size_judged head.size stop → stop ≡ new.place → vertices_are ≡ inside.found.vertices
        → (g : Geometry) × (geometry_at (deepest - depth) before ≡ (Ok g, new))
        × ((found : Found) × IsFound tight g before.place new.place found × Saw (reach_of (vertices g)) × (vertices_are ≡ found.vertices) × (named judged.refused ≡ first outer found.refused))
    body_ends was outer noted judged claim vertices_are stop was_is so_far notes size there counted =
        let headed = head_value depth shallow deep before a head sound at moved in
        let same = body_of_head head at.header _ _ _ _ at.fields (members_under (deepest - depth)) a in
        let found : Found = record { vertices = vertices_are; refused = first (size_judged head.size new.place) (first_inside inside) } in
        let g = geometry_found tight head depth before a new at moved (omega (arith, is.few)) body inside Saw found is counted refl in (
          _,
          body_gives (deepest - depth) before _ _ headed body new (sym same ∙ read),
          (found, g.0, g.1, refl, notes outer (first_inside inside) was_is so_far ∙ ap (λ (r : Refused). first outer (first r (first_inside inside))) (size ∙ ap (size_judged head.size) there)),
        )
