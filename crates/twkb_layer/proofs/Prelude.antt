-- What several proofs cite, passed on from one place.
pub use Rattle.std.proofs.Common.{ℕ, ◌≤◌, Bool, true, false, cond, List, arith, ◌≡◌, ◌+◌, ◌-◌, ◌^◌, ◌<◌, [], ◌∷◌, ◌++◌, length, take, drop, All, refl, sym, ap, ◌∙◌, length-append, inl, inr, ◌≢◌, zero, suc, ◌*◌, ◌/◌, ◌%◌, min, get_or, ◌==◌, not, length-drop, mul_assoc, mul_comm, ◌⊎◌, nat_lt, ◌&&◌, Option, Some, None, subst, append_assoc, pos, ◌-ℤ◌, if◌then◌else◌, option_map, slice_set, negsuc, ℤ, neg_ℤ, ◌+ℤ◌, ◌*ℤ◌, ◌<ℤ◌, ◌≤ℤ◌, int_lt, int_le, unsigned_abs, fold, map, is_some, ap₂, sum_by, ◌||◌, set, to_z, of_z, FitsSigned, flat_map, rules, vec_capacity, vec_len, int_eq}
pub use Rattle.std.proofs.Math.IntN.{neg_ℤ-neg_ℤ, pos-*ℤ-pos, negsuc-*ℤ-pos, *ℤ-zero, zero-*ℤ}
pub use Rattle.std.proofs.Math.ListN.{length-set}
pub use Rattle.std.proofs.Math.Nat.{div-eq_of_lt, div-div-eq-div-mul, mul-div-mul_right, mul-mod_left, add-mul-div_right, one-le-pow, pow-le-pow_right, mul-le-mul, zero-div, zero-mod, div-one}
pub use Rattle.std.proofs.Math.Seq.{take-add, take-nil, drop-nil}
pub use Rattle.std.proofs.lemmas.Bool.{cases_eq, not-true, not-false}
pub use Rattle.std.proofs.lemmas.Bool.Decides.{nat_tests, Decides-and, Decides-int_eq, Decides-eqb}
pub use Rattle.std.proofs.lemmas.Grind.{pow_more, common_steps}
pub use Rattle.std.proofs.lemmas.Int.{ints, by_lt_z, quot-rem, rem_below, quot_fits, to_z-of_z, to_z_pos}
pub use Rattle.std.proofs.lemmas.Int.Digits.{digits_value-lt, digits_value_more, digits_more}
pub use Rattle.std.proofs.lemmas.List.{length-take, take-append-drop, append-nil, drop-drop, drop_all, take_at, drop_at, get_or-set_same, get_or-set_other, append_cancel_right, length-map, take_all}
pub use Rattle.std.proofs.lemmas.List.Elements.{All-nil, All-cons, All-head, All-tail, All-push, recursion_from_All}
pub use Rattle.std.proofs.lemmas.List.Sums.{sum_by-append, sum_by-cons, fold-append}
pub use Rattle.std.proofs.lemmas.Nat.{pow-add, div-mul-add, div-add-mod'}
pub use Rattle.std.proofs.lemmas.Str.{digit_value_digit}
pub use Rattle.std.proofs.lemmas.Str.Parse.{digit_at, digit_from_value, digits_value-take-le}
pub use Rattle.std.specs.Bool.{OnTrue, OnFalse}
pub use Rattle.std.specs.Char.{digit_value, is_ascii_digit}
pub use Rattle.std.specs.Int.{from_bool, int_div_euclid, int_max, int_min, w64, w128, w8}
pub use Rattle.std.specs.Int.RustNames.{int_div, int_rem}
pub use Rattle.std.specs.Int.Signed.{lt_z}
pub use Rattle.std.specs.List.{concat, list_any, AllByRecursion}
pub use Rattle.std.specs.Prelude.{IfSome, Err, Result, Ok}
pub use Rattle.std.specs.Str.Parse.{digits_value, AllDigits, digits_value_after}
pub use Rattle.twkb_body.proofs.BlobLaws.{blob_once, wrong_fails}
pub use Rattle.twkb_body.proofs.CertifiedWalks.{lent_back}
pub use Rattle.twkb_body.proofs.Orders.{blob_order}
pub use Rattle.twkb_body.proofs.VertexCounts.{blob_few}
pub use Rattle.twkb_body.proofs.WalkLengths.{walk_all, counts_all, walk_most}
pub use Rattle.twkb_body.specs.Audited.{IsAudited, IsRefusedBlob, IsFalseClaim}
pub use Rattle.twkb_body.specs.Claims.{IsCertified, IsTrueClaim}
pub use Rattle.twkb_body.specs.Counting.{counts_on, never}
pub use Rattle.twkb_body.specs.Devices.Tight.{IsCertifiedBy}
pub use Rattle.twkb_body.specs.Encoding.{Blob}
unfoldable pub use Rattle.twkb_body.specs.Encoding.{BlobUnder}
pub use Rattle.twkb_body.specs.Geometry.{Geometry, vertices, geometry, header_of, PointValue, coordinate, vertex_at, Members, none, more}
pub use Rattle.twkb_body.specs.Shared.Tight.{IsTrueBy}
pub use Rattle.twkb_body.specs.Standing.{StandsAt, head_standing}
pub use Rattle.twkb_body.specs.Visit.{member_walk, skips_both}
unfoldable pub use Rattle.twkb_body.specs.Visit.{walk}
pub use Rattle.twkb_head.specs.BegunHeader.{deepest, is_collection}
pub use Rattle.twkb_head.specs.Head.{span_at, bounds_of, m_axis}
pub use Rattle.twkb_head.specs.Raw.{head_said, raw_bounds, fields_box, ends_of, IsNear, HasNearRanges}
pub use Rattle.twkb_head.specs.declared.boxes.Bounds.{Bounds}
pub use Rattle.twkb_head.specs.declared.boxes.Span.{Span}
pub use Rattle.twkb_head.specs.declared.boxes.Vertex.{Vertex}
pub use Rattle.twkb_head.specs.declared.raw.Axes.{Axes}
pub use Rattle.twkb_head.specs.declared.raw.Fields.{Fields}
pub use Rattle.twkb_head.specs.declared.raw.RawBox.{RawBox}
pub use Rattle.twkb_num.specs.Cursor.{Reading, rest, passed, IsMoved, added}
pub use Rattle.twkb_num.specs.Units.{units_of}
pub use Rattle.twkb_layer.specs.Decimals.{Decimal, IsDecimalText, Rational, RationalRange, is_less, units_as_rational, rounded_up, rounded_down, rounded_inward, in_rationals, in_rationals_if_any, HasDenominators, IsWithinFarthest, signed, rational_of, farthest, within_farthest, span_of_decimals}
pub use Rattle.twkb_layer.specs.Devices.Decimals.{AreDigits, leaning}
pub use Rattle.twkb_layer.specs.Devices.EachBlob.{is_among, first_blobs, after_from, after_blobs, read_from, bytes_read, adds, Lent, lent}
pub use Rattle.twkb_layer.specs.Devices.Layer.{OfEntry, past_blob}
pub use Rattle.twkb_layer.specs.Devices.RawWindows.{AreInner, IsInner, IsRawWindow, raw_box_misses, IsRawEnds, IsExactEnds, IsExactWindow, raw_range_misses, precision_of, misses_in_z_or_m}
pub use Rattle.twkb_layer.specs.Devices.Scanning.{Scan, finds}
pub use Rattle.twkb_layer.specs.Devices.Seeking.{Seeking, seeks, seeks_past, outside}
pub use Rattle.twkb_layer.specs.Devices.Slots.{AreSlotsOf, AreWhole, entry_said, box_said, entry_in}
pub use Rattle.twkb_layer.specs.Devices.TextReader.{starts_digit, ReadsFraction, starts_fraction, number_ends, ReadsEach, ReadsSpan}
pub use Rattle.twkb_layer.specs.Devices.Tight.{IsTightlyCounted, IsLayerBy, IsCountedBy, AddsBlobs}
pub use Rattle.twkb_layer.specs.Directory.{box_of, directory_cost, Entry, entry_of, entries}
pub use Rattle.twkb_layer.specs.Hits.{filled, hits, found_blobs, hit_of, found_of, without_length, member_cost}
unfoldable pub use Rattle.twkb_layer.specs.Hits.{cost}
pub use Rattle.twkb_layer.specs.Laws.{RoundsInward, NoneIsFarther, AreBlobs}
pub use Rattle.twkb_layer.specs.Layer.{size_of, IsLayer, IsCertifiedLayer, IsCounted, vertex_count, told_from, AddsAtMost, IsLayerUnder, IsCertifiedLayerUnder}
pub use Rattle.twkb_layer.specs.Refusal.{Begins, IsRefusedFor, IsRefusal, IsBadField, number_of_why}
pub use Rattle.twkb_layer.specs.Rows.{row_of, rows}
pub use Rattle.twkb_layer.specs.Slots.{axis_in, ends_in, entries_kept, entries_long, is_long, long_entry, precision_in, range_in, short_entry, is_boxed}
pub use Rattle.twkb_layer.specs.Window.{is_missed, in_span, in_bound, is_inside, box_misses, lie_apart}
pub use Rattle.twkb_layer.specs.WindowText.{point_and, IsAmountText, IsNumberText, IsRangeText, IsNamedText, IsNamedTextIfAny, IsWindowText, name_y, name_z, name_m, in_order}
pub use Rattle.twkb_layer.specs.declared.hits.Found.{Found}
pub use Rattle.twkb_layer.specs.declared.raw_windows.RawWindow.{RawWindow}
