-- What several proofs cite, passed on from one place.
pub use Rattle.std.proofs.Common.{◌≡◌, ℕ, ◌+◌, ◌-◌, Bool, List, ◌++◌, length, drop, Option, Some, None, Ok, refl, sym, ap, subst, ◌∙◌, arith, length-append, ◌%◌, ◌<◌, ◌≤◌, ◌^◌, ℤ, true, false, cond, Err, ◌≢◌, zero, suc, [], ◌∷◌, inl, inr, ⊎_elim, flat_map, append_assoc, pos, AllPairs, set, map, slice_index_or, ◌+ℤ◌, is_some, option_map, Result, ap₂, ◌≤ℤ◌, ◌<ℤ◌, Ordering, Less, Equal, Greater, get_or, fold, length-drop, ◌-ℤ◌, unsigned_abs, IfSome, ◌==◌, take, neg_ℤ, slice_index, w16, w32, ◌*◌, filter_map, nat_eq, replicate, ◌/◌, bit_and, subst₂, not, rules, IsTrue, ◌↔◌, negsuc, Fits, FitsSigned, reverse, ◌*ℤ◌, slice_get, unwrap_or}
pub use Rattle.std.proofs.Math.Nat.{one-le-pow, mul-add, mul-suc, mul-le-mul_left, mul-le-mul_right}
pub use Rattle.std.proofs.lemmas.Bool.{cases_lt, lt-ltb, le-ltb, ne_eqb, eqb-true, eqb-false, cases_eq, false≢true, ltb-true, leb-true}
pub use Rattle.std.proofs.lemmas.Bool.Decides.{Decides-int_eq, Decides-like, not_from_Decides, same_from_decides, leb_tells, Decides-and, Decides-not, Decides-by_and, Decides-eqb}
pub use Rattle.std.proofs.lemmas.Grind.{common_steps, flat_map-append}
pub use Rattle.std.proofs.lemmas.Int.{ints, clamps, of_z-to_z, by_lt_z, to_z-of_z}
pub use Rattle.std.proofs.lemmas.List.{append_cancel_right, append-nil, take-append-drop, length-take, length-take-le, length-map, take_more, take_more_set, reverse-append, map-id, map-append, drop-drop}
pub use Rattle.std.proofs.lemmas.List.Elements.{All-nil, All-cons, All-head, All-append, All-weaker, All-from_recursion, recursion_from_All, All-tail, filter_map-append}
pub use Rattle.std.proofs.lemmas.List.Kept.{AllPairs-cons}
pub use Rattle.std.proofs.lemmas.List.Sorted.{sorted_far, ranks_by, IsPermutation-sym}
pub use Rattle.std.proofs.lemmas.List.Sums.{fold-append}
pub use Rattle.std.proofs.lemmas.Option.{unwrap_or-slice_get}
pub use Rattle.std.proofs.lemmas.Result.{IfOk-weaker, IfErr-weaker, err_from_is_err_and}
pub use Rattle.std.proofs.lemmas.Simd.{tops_compared}
pub use Rattle.std.specs.Bool.{Decides}
pub use Rattle.std.specs.Borrow.{GName}
pub use Rattle.std.specs.Int.{cast_signed, cast_unsigned, int_min, int_max, w64, w8, w128, saturate_signed}
pub use Rattle.std.specs.List.{AllByRecursion, cons_option}
unfoldable pub use Rattle.std.specs.List.{IsDistinct}
pub use Rattle.std.specs.Ordering.{int_cmp, int_eq, is_lt, MatchOrdering}
pub use Rattle.std.specs.Prelude.{◌⊎◌, All, ◌&&◌, if◌then◌else◌, nat_lt, min, max, ◌||◌, int_le, int_lt, ⊤, nat_le}
pub use lib.Lanes.{Each1, mask_l, zip2, sel_l, pick_l}
pub use mir.Syntax.{Width}
pub use mir.Val.{SFits, to_z, of_z}
pub use Rattle.twkb_head.proofs.Combinators.{PlanLaws, restated, Chain, chained, BegunChain, behind_again, Made, Measured, bind_laws, done_laws, measure_laws, optional_laws, AreAll, bind_laws_behind, BegunTimes, free, times_laws, FitAll, after_all, BegunMany, many_laws}
pub use Rattle.twkb_head.proofs.FieldCuts.{ok_is, err_is, byte_fails, number_fails, cut_off, too_long, field_takes}
pub use Rattle.twkb_head.proofs.HeadBack.{none_kind, head_value, value_of, parts_once, head_fails}
pub use Rattle.twkb_head.proofs.HeadLaws.{head_ok, head_moved, head_exact, kind_fails}
pub use Rattle.twkb_head.proofs.HeadRuns.{lengthened, read-done, read-measure, Ahead, read_ahead}
pub use Rattle.twkb_head.proofs.HeadSteps.{begins_goes_on, flat_fields, number_stops, x_stops, y_stops, flat_read, size_said, two_back}
pub use Rattle.twkb_head.proofs.Heads.{kind_code, IsAllowedWith, allowed_at, allowed_with, IsHead, head_laws}
pub use Rattle.twkb_head.proofs.Leaves.{IsDue, IsNumber, number_laws, signeds_laws, coordinate_laws, fewer, fewer_back}
pub use Rattle.twkb_head.proofs.Loops.{IsLoop, loop_goes_on, loop_fails, loop_ends, loop_begins, first_fails, then_fails, behind_front}
pub use Rattle.twkb_head.proofs.Plans.{IsViableIn, IsRefused, no_field, no_value, run_takes, run_again, run_stops, run_fails, run_goes_on, run_uncut, run_refused, run_judged}
pub use Rattle.twkb_head.proofs.Readings.{read_err, read-bind, ok_not_err, one_answer, read_ok, IsFailedAt, no_failure}
pub use Rattle.twkb_head.proofs.Spelling.{fault, Fault, run, Spelled}
pub use Rattle.twkb_head.proofs.Steps.{coordinate_no_signed, coordinate_ok, coordinate_refused, read_signed, fits_true, read_no_signed, signed_moved, fits_false, read_number, read_no_number}
pub use Rattle.twkb_head.specs.BegunHeader.{deepest, Field, type_field, byte_field, number_field, coordinate_field, IsField, is_collection, IsFewer, type_due, IsAllowedUnder, IsBegunHeader, IsAllowedAt}
pub use Rattle.twkb_head.specs.Head.{IsHeadAt, bounds_of, m_axis, span_at, head_of, StartsWithHeader}
pub use Rattle.twkb_head.specs.Header.{has_ids, is_multi, Header, axes_of, IsHeader, axes_with, has_bit}
pub use Rattle.twkb_head.specs.Holds.{Holds}
pub use Rattle.twkb_head.specs.Parts.{Times, Announced, Sequence, Then, Counted}
pub use Rattle.twkb_head.specs.Raw.{BeginsHead, ReadsHead, head_said, raw_bounds, flat_box, ends_of, fields_box, IsNear, HasNearRanges}
pub use Rattle.twkb_head.specs.Refusal.{IsRefusedHead, why_of}
pub use Rattle.twkb_head.specs.Shared.HeadPlan.{head_plan, HeadValue}
pub use Rattle.twkb_head.specs.Shared.Plan.{Request, type_byte, byte, number, field_of, judge, judge_kind, kind_of_code, cut_byte, cut_field, Plan, bind, done, many, measure, optional, number_plan, signed_plan, signeds_plan, coordinate_plan, fits, ask}
pub use Rattle.twkb_head.specs.Shared.Reader.{Fails, Answer, Reader, ◌>>=◌, viewed, read, optional_at, many_at, signeds_at, read_judged, read_field, past, Reads}
unfoldable pub use Rattle.twkb_head.specs.Shared.Reader.{number_at, signed_at, coordinate_at}
pub use Rattle.twkb_head.specs.declared.boxes.Bounds.{Bounds}
pub use Rattle.twkb_head.specs.declared.boxes.Span.{Span}
pub use Rattle.twkb_head.specs.declared.boxes.Vertex.{Vertex}
pub use Rattle.twkb_head.specs.declared.header.BoxField.{BoxField}
pub use Rattle.twkb_head.specs.declared.header.Head.{Head}
pub use Rattle.twkb_head.specs.declared.header.SizeField.{SizeField}
pub use Rattle.twkb_head.specs.declared.kinds.Kind.{Kind}
pub use Rattle.twkb_head.specs.declared.kinds.Kind.TheVariants.{Point, GeometryCollection, LineString, Polygon, MultiPoint, MultiLineString, MultiPolygon}
pub use Rattle.twkb_head.specs.declared.raw.Axes.{Axes}
pub use Rattle.twkb_head.specs.declared.raw.Fields.{Fields}
pub use Rattle.twkb_head.specs.declared.raw.RawBox.{RawBox}
pub use Rattle.twkb_head.specs.declared.raw.RawRange.{RawRange}
pub use Rattle.twkb_head.specs.declared.refusal.Malformed.{Malformed}
pub use Rattle.twkb_head.specs.declared.refusal.Why.{Why}
pub use Rattle.twkb_head.specs.declared.refusal.Why.TheVariants.{Cut, Varint, Depth, Range}
pub use Rattle.twkb_num.proofs.CursorLemmas.{rest-passed, IsMoved-after, IsSound-moved, IsMoved-two, IsMoved-here}
pub use Rattle.twkb_num.proofs.TakeLemmas.{few_axes}
pub use Rattle.twkb_num.specs.Cursor.{Reading, rest, passed, IsMoved, IsSound, added}
pub use Rattle.twkb_num.specs.Numbers.{IsAxes, ReadsNumbers, StopsAt, points_in, StopsReading, PassesNumbers, StopsAmong, TakesOn}
pub use Rattle.twkb_num.specs.Units.{units_of}
pub use Rattle.twkb_num.specs.Varint.{IsCut, IsLong, Spells, IsSigned, zigzag_value, sum_of_groups, IsShort, IsBrief, SpellsAllSigned, SpellsAll}
pub use Rattle.twkb_num.specs.declared.varint.NumFault.{NumFault}
pub use Rattle.twkb_body.specs.Audited.{number_of, IsAudited, IsFalseClaim, HasLongList, EndsInIds, own_ids, member_ids, IsRefusedAs}
pub use Rattle.twkb_body.specs.Begun.{IsBegun, IsViable, IsBegunList, count_due, id_due, member_due, IsBegunPart, IsBegunNumbers, SumsFit, header_begun, IsBegunUnder, shape_begun, members_begun, member_begun, IsBegunPoint, IsBegunRing}
pub use Rattle.twkb_body.specs.Claims.{Claim, size_claim, box_claim, ids_claim, IsTrueClaim, offset_of, claims_of, own_claims, IsFirstFalse, kind_of, IsCertified}
unfoldable pub use Rattle.twkb_body.specs.Claims.{claims, member_claims}
pub use Rattle.twkb_body.specs.Devices.Body.{ListHead, zeros, ring_sums, absolute, Body, parts_body, members_body, part_body, no_body, first_of, behind, add, sums, geometry_from, members_of, place, map_from}
pub use Rattle.twkb_body.specs.Devices.BodyReader.{point_at, ring_at, polygon_at, part_at, spanned, members_at, geometry_by, geometries_at, many_parts_at, members_under, prefixed_at, count_at}
unfoldable pub use Rattle.twkb_body.specs.Devices.BodyReader.{geometry_at, list_at, shape_at, body_at, parts_at}
pub use Rattle.twkb_body.specs.Devices.Columns.{Stays, running, sum_fits, column}
pub use Rattle.twkb_body.specs.Devices.Extents.{range_from, range_of, range_if, raw_reach, HoldsPoints, distance, lane_sum, lane_span, steps, lane_range, lanes_range, axis_in, no_lanes, IsLane, AreHeld, IsNearZero, Grows, last_of, has_left, IsHeld, GrowTo, Leaves, Took, last_place, Sees, HaveRoom, base_of, last_from, AddsNumber, AddsToBase, HasAdded, base_or_zero, no_base}
pub use Rattle.twkb_body.specs.Devices.Found.{Found, named, IsFound, size_judged, Notes, box_judged, summary}
pub use Rattle.twkb_body.specs.Devices.IdLists.{HasManyIdsAfterCount, HasManyIds, IsListFound, ListFound}
pub use Rattle.twkb_body.specs.Devices.Inside.{of_head, Inside, body_behind, shape_behind, first_inside, IsInside, reach_with, shown_all}
pub use Rattle.twkb_body.specs.Devices.Pass.{NamesFirstOf, Refused, first, covers, hugs, hugs_if_both, false_at, is_within, is_tight, MemberSums, Sums, ids_refused, differs, are_distinct, Summary, NamesFirstFalse, NamesFirstOfMembers}
pub use Rattle.twkb_body.specs.Devices.Pending.{opened, Takes}
pub use Rattle.twkb_body.specs.Devices.PointReader.{HasRead, Stage, IsBefore, IsWalkingOn, points_at, on, IsReady, EndsEarly, ReadsOrEnds, Leads, ReadsAll, IsUnreadable, IsWalking}
pub use Rattle.twkb_body.specs.Devices.Ranges.{raw_of, range_at, span_in, scaled, reach_in_units, widened, IsHeldRaw, AreHeldRaw, range_view, IsRange, scaled_if}
pub use Rattle.twkb_body.specs.Devices.Seen.{in_units, ranges_reach, Seen, HasSeen, reach_if}
pub use Rattle.twkb_body.specs.Devices.Skimmed.{HasCome, IsBehind, Entered, hop_of, flat_axes, full_head, Config, skimmed, members_skimmed}
pub use Rattle.twkb_body.specs.Devices.Standing.{StandAt}
pub use Rattle.twkb_body.specs.Devices.Stops.{HasStopped, ReadsGeometry, WantsBehind, WantsIn, WantsInside, AreRead, ReadsParts}
pub use Rattle.twkb_body.specs.Devices.Tight.{IsCertifiedBy, IsTightIfBoth}
pub use Rattle.twkb_body.specs.Devices.Walk.{IsPoint, IsWalked, IsStill, lasts_from, HaveAxes, no_points, shown}
pub use Rattle.twkb_body.specs.Encoding.{Blob, IsPart, IsList, IsNumbers, IsShape, IsBody, SameForm, Blobs, IsHeaderThenBody, IsRing, total, Accumulates, IsPolygon}
unfoldable pub use Rattle.twkb_body.specs.Encoding.{BlobUnder, BlobsUnder}
pub use Rattle.twkb_body.specs.Extent.{Reach, reach_of, IsCovered, span_of, joined, both, IsReachWithin}
pub use Rattle.twkb_body.specs.Geometry.{Geometry, coordinate, Lengths, PointValue, PolygonValue, points_of, member_count, none, Members, geometry, more, lengths_of, vertex_of, member_vertices, Ring, vertex_at}
unfoldable pub use Rattle.twkb_body.specs.Geometry.{vertices}
pub use Rattle.twkb_body.specs.Malformation.{IsMalformed, BeginsWithNoBlob, IsWrong}
pub use Rattle.twkb_body.specs.Shared.Tight.{IsTrueBy}
pub use Rattle.twkb_body.specs.Standing.{StandsAt, head_standing}
pub use Rattle.twkb_body.specs.Tight.{IsTightClaim, IsTightlyTrue, IsTightSpan, IsTight, HasTightBoxes}
pub use Rattle.twkb_body.specs.Visit.{SkipsSoundly, is_skipped, member_walk, skips_both, bytes_to_pass}
unfoldable pub use Rattle.twkb_body.specs.Visit.{walk}
pub use Rattle.twkb_body.specs.declared.answers.Audit.{Audit}
pub use Rattle.twkb_body.specs.declared.extent_lanes.Lanes.{Lanes}
pub use Rattle.twkb_body.specs.declared.extents.Base.{Base}
pub use Rattle.twkb_body.specs.declared.extents.Extents.{Extents}
pub use Rattle.twkb_body.specs.declared.found.FalseClaim.{FalseClaim}
pub use Rattle.twkb_body.specs.declared.range.Ranges.{Ranges}
pub use Rattle.twkb_body.specs.declared.stopped.Stopped.{Stopped}
pub use Rattle.twkb_body.specs.declared.stopped.Stopped.TheVariants.{Memory}
pub use Rattle.twkb_body.specs.declared.trail.Trail.{Trail}
