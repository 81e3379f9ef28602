-- What several proofs cite, passed on from one place.
pub use Rattle.std.proofs.Common.{ℕ, List, [], ◌∷◌, ◌++◌, ℤ, ◌-ℤ◌, refl, sym, ap, ◌∙◌, append_assoc, ◌≡◌, pos, Bool, true, false, ◌&&◌, ◌||◌, Option, Some, None, is_some, Result, Ok, Err, zero, suc, ◌+◌, ◌<◌, length, ◌⊎◌, inl, inr, ap₂, subst, subst₂, arith, length-append, add_assoc, add-zero, ◌*◌, ◌≤◌, cond, nat_lt, take, slice_index, All, ⊎_elim, ◌-◌, ◌%◌, drop, ◌≢◌, ◌↔◌, IfOk, OnOk, IfErr, IsOk, ◌/◌, ◌+ℤ◌, ◌==◌, option_map, IfSome, IfNone, unwrap_or, slice_index_or, ◌^◌, negsuc, rules, IsSome}
pub use Rattle.std.proofs.lemmas.Bool.{ltb-true, ltb-false, lt-ltb, le-ltb}
pub use Rattle.std.proofs.lemmas.Grind.{common_steps}
pub use Rattle.std.proofs.lemmas.Int.{ints, to_z-of_z}
pub use Rattle.std.proofs.lemmas.List.{append-nil, get_or-take, append_cancel_right, drop-drop}
pub use Rattle.std.proofs.lemmas.Result.{err_from_is_err_and}
pub use Rattle.std.specs.Int.{w64, w8, w128}
pub use mir.Val.{SFits, to_z, of_z}
pub use Rattle.twkb_num.proofs.CursorLemmas.{rest-passed, IsMoved-two, IsMoved-here, IsMoved-after, IsSound-moved}
pub use Rattle.twkb_num.specs.Cursor.{Reading, rest, passed, added, IsMoved, IsSound, counted}
pub use Rattle.twkb_num.specs.Varint.{IsSigned, Spells, IsCut, IsLong, zigzag_value, sum_of_groups, SpellsAllSigned, Faults, looked_at}
pub use Rattle.twkb_num.specs.declared.varint.NumFault.{NumFault}
pub use Rattle.twkb_head.specs.BegunHeader.{Field, type_field, byte_field, number_field, coordinate_field, IsField, IsBegunHeader, IsAllowedUnder, deepest, type_due, metadata_due, extended_due, size_due, box_due, IsAllowedAt, IsFewer, IsStart}
pub use Rattle.twkb_head.specs.Devices.HeadReader.{axis_from, head_with, size_and_box_at}
unfoldable pub use Rattle.twkb_head.specs.Devices.HeadReader.{bounds_from, two_ranges_from, head_at, type_at, byte_at, rest_at}
pub use Rattle.twkb_head.specs.Devices.Raw.{two_ranges_result, IsRangeIf, ReadsFirstTwo, head_result}
pub use Rattle.twkb_head.specs.Head.{span_at, IsHeadAt, head_of, StartsWithHeader, bounds_of}
pub use Rattle.twkb_head.specs.Header.{IsRange, Header, IsHeader, has_bit, z_in, m_in, axes_with, code_of, has_ids, IsByte, axes_of}
pub use Rattle.twkb_head.specs.Parts.{Sequence, Then, Times, Announced}
pub use Rattle.twkb_head.specs.Raw.{ends_of, zero_range, raw_bounds, BeginsHead, flat_box, head_said, ReadsHead}
pub use Rattle.twkb_head.specs.Refusal.{IsWrongField, IsRefusedHead, looked_at_field, looked_at_until, why_of}
pub use Rattle.twkb_head.specs.Shared.HeadPlan.{HeadValue, head_plan, ranges_of, box_plan, head_from, after_size, after_extended, after_metadata, after_type, kind_from}
pub use Rattle.twkb_head.specs.Shared.Plan.{Plan, done, ask, bind, many, measure, optional, cut_varint, cut_byte, cut_field, push_byte, judge_kind, kind_of_code, Request, type_byte, byte, number, coordinate, field_of, judge, type_plan, byte_plan, number_plan, signed_plan, signeds_plan, fits, coordinate_plan}
pub use Rattle.twkb_head.specs.Shared.Reader.{Answer, Reader, ◌>>=◌, viewed, read, Fails, past, read_judged, read_field, optional_at, many_at, signeds_at, looked_in}
unfoldable pub use Rattle.twkb_head.specs.Shared.Reader.{range_from, number_at, signed_at, coordinate_at}
pub use Rattle.twkb_head.specs.declared.boxes.Bounds.{Bounds}
pub use Rattle.twkb_head.specs.declared.header.Head.{Head}
pub use Rattle.twkb_head.specs.declared.kinds.Kind.{Kind}
pub use Rattle.twkb_head.specs.declared.kinds.Kind.TheVariants.{GeometryCollection, Point, LineString, Polygon, MultiPoint, MultiLineString, MultiPolygon}
pub use Rattle.twkb_head.specs.declared.raw.Fields.{Fields}
pub use Rattle.twkb_head.specs.declared.raw.RawBox.{RawBox}
pub use Rattle.twkb_head.specs.declared.raw.RawRange.{RawRange}
pub use Rattle.twkb_head.specs.declared.read.Begun.{Begun}
pub use Rattle.twkb_head.specs.declared.refusal.Malformed.{Malformed}
pub use Rattle.twkb_head.specs.declared.refusal.Why.{Why}
pub use Rattle.twkb_head.specs.declared.refusal.Why.TheVariants.{Cut, Varint, Depth, Range}
