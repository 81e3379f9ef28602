-- What several proofs cite, passed on from one place.
pub use Rattle.std.proofs.Common.{◌≡◌, ℕ, zero, suc, ◌-◌, ◌<◌, Bool, true, ◌&&◌, T, subst, arith, eq-zero-or-pos, inl, inr, ◌+◌, ◌≤◌, List, ◌++◌, length, take, drop, slice_range, ap, sym, refl, ◌∙◌, length-append, ◌*◌, false, cond, [], ◌∷◌, ◌/◌, ◌^◌, slice_index, ap₂, ◌⊎◌, map, eqb, get_or, ℤ, replicate, ◌%◌, pos, ltb, Fits, w8, append_assoc, w16, w32, Ok, Err, length-drop, ◌↔◌, ◌||◌, rules, unsigned_abs, ◌-ℤ◌, ◌*ℤ◌, FitsSigned, slice_index_or, leb}
pub use Rattle.std.proofs.Math.ListN.{get_or-append, length-set}
pub use Rattle.std.proofs.Math.Nat.{pow-suc, pow-le-pow_right, mul-add}
pub use Rattle.std.proofs.Math.Seq.{take-add, get_or-append_seam, get_or-append_right, take-append_seam}
pub use Rattle.std.proofs.lemmas.Bool.{and_parts, cases_lt, cond-true, cond-false, eq-eqb, ne_eqb, eqb-true, ltb-true, lt-ltb, or_cases, eqb-false, cases_Bool, leb-true, lt-leb, le-leb, le-ltb}
pub use Rattle.std.proofs.lemmas.Grind.{common_steps, same_number_lists, pow_more}
pub use Rattle.std.proofs.lemmas.Int.{ints, to_z_pos, to_z-of_z, fits_signed_mul}
pub use Rattle.std.proofs.lemmas.List.{drop-drop, append_cancel_left, take_at, length-map, get_or-map, take-take, get_or-take, get_or-drop, map-append, length-take, take_more, append-nil, drop_more, get_or_append_left, take_all, take_more_set, length-take-le}
pub use Rattle.std.proofs.lemmas.Nat.{and_block, pow_pos, and_mask, shr-shr, pow-add, shl_whole, mul-le, mod_below, and_comm}
pub use Rattle.std.proofs.lemmas.Nat.Bits.{bit_at_cat_low, bit_at-pow_same, bit_at-pow_other, bit_at-trailing_zeros, and_pow}
pub use Rattle.std.proofs.lemmas.Simd.{ones-mask_l, zip2_of_maps, splat_is_map, map-map, tops_compared, pick_l_whole, get_or_wider, Each1-get_or, below_from_Fits, get_or_narrower, zip2_splat_left, mask_l-mod, bit_mask_l, zip2_splat, Each1-zip2, Each1-weaker, Each2-splat, SwzOk-from_Each1, length-zip2, swz_l, get_or-swz_l}
pub use Rattle.std.specs.Int.{Width, w64, from_le_bytes, bit_at, trailing_zeros, cast_signed, bit_not, w128}
pub use Rattle.std.specs.Int.Bits.{bit_and}
pub use Rattle.std.specs.Int.RustNames.{count_ones}
pub use Rattle.std.specs.Prelude.{nat_eq, neg_ℤ, ◌≤ℤ◌, ◌<ℤ◌, All, Result, IfOk, IfErr, OnOk}
pub use lib.Lanes.{mask_l, zip2, sel_l, top, number_l, digits_l, Each1}
pub use mir.Val.{bits, hbits, to_z, of_z, zeroes}
pub use Rattle.twkb_num.specs.Cursor.{Reading, rest, passed, added, IsMoved, IsSound}
pub use Rattle.twkb_num.specs.Devices.Ends.{ended, ends_to, eight_bytes, four_bytes, SpellsMany, IsEnd, IsLastEnd, IsFrontOf}
pub use Rattle.twkb_num.specs.Devices.Lanes.{value_at, values, IsTops, IsFlag, byte_or_zero, byte_of, count_in}
pub use Rattle.twkb_num.specs.Numbers.{ReadsNumbers, StopsReading, PassesNumbers, StopsAmong, IsAxes, points_in, StopsAt, TakesOn, Takes, StopsTaking}
pub use Rattle.twkb_num.specs.Varint.{zigzag_value, SpellsAll, SpellsAllSigned, IsShort, IsBrief, Faults, Spells, sum_of_groups, IsCut, IsLong, IsSigned}
pub use Rattle.twkb_num.specs.declared.tables.narrow.TheConstants.{NARROW_PLACES, NARROW_LEN, THREE_NARROW_LEN}
pub use Rattle.twkb_num.specs.declared.tables.wide.TheConstants.{WIDE_PLACES, WIDE_LEN, FIRST_WIDE_LEN}
pub use Rattle.twkb_num.specs.declared.varint.NumFault.{NumFault}
