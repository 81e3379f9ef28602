-- What several proofs cite, passed on from one place.
pub use Rattle.std.proofs.Common.{◌≡◌, ◌+◌, ◌-◌, ◌<◌, ◌≤◌, ℕ, List, [], ◌∷◌, ◌++◌, length, map, take, drop, get_or, slice_set, sum_by, arith, ap, sym, ◌∙◌, ◌⊎◌, inl, inr, refl, subst, Bool, true, false, if◌then◌else◌, Result, Ok, Err, rules, min, cond, ltb, fold, length-drop, append_assoc}
pub use Rattle.std.proofs.lemmas.List.{take_more, flat_map_more, map-append, length-append, length-map, length-take-le, take_rest, drop-drop, drop_all, append-nil, length-take}
pub use Rattle.twkb_body.specs.Claims.{Claim, IsTrueClaim}
pub use Rattle.twkb_body.specs.Geometry.{Geometry}
pub use Rattle.twkb_layer.proofs.Filling.{filled-nil, filled-push, filled-full}
pub use Rattle.twkb_layer.specs.Hits.{hits, found_blobs, filled}
pub use Rattle.twkb_layer.specs.Layer.{OfLayer, IsCounted, Layer, IsCertifiedLayer}
pub use Rattle.twkb_num.specs.Cursor.{added, Reading}
