-- What several proofs cite, passed on from one place.
pub use Rattle.std.proofs.Common.{◌≡◌, ◌∙◌, ℕ, ◌+◌, ◌<◌, ◌≤◌, List, [], ◌∷◌, true, ap, sym, refl, subst, arith, get_or, inl, inr, codes, length, Ok, Err, Option, Some, None, Result, ◌++◌, Bool, false, append_assoc, append-nil, ◌-◌, take, drop, IsTrue, length-append, length-drop, ℤ, ◌*◌, ◌^◌, cond, flat_map, min, sum_by, decimal, map, suc, vec_len, rules, OnOk}
pub use Rattle.std.proofs.Math.Seq.{take-add, split_at}
pub use Rattle.std.proofs.lemmas.List.{take_all, flat_map_more, take_at, take_more, length-map, length-take, take-take, take-append-le, drop_at}
pub use Rattle.std.proofs.lemmas.Result.{on_ok_weaker, err_from_is_err_and}
pub use Rattle.std.specs.List.{list_all, list_any}
pub use Rattle.std.specs.Prelude.{◌⊎◌, unwrap_or, ◌==◌, ◌&&◌, option_map, fold, is_some, nat_lt, IfErr, if◌then◌else◌}
unfoldable pub use Rattle.clap.proofs.OnLiterals.{clap_on_literals}
pub use Rattle.clap.proofs.WalkLemmas.{walk_stopped, first_value-rows, raw_values-rows}
pub use Rattle.clap.specs.Faults.{fault_of, check_fault, defaults_fault, entered_fault, level_fault, settle_fault, turn_fault, is_simple_and_free}
unfoldable pub use Rattle.clap.specs.Faults.{walk_fault}
pub use Rattle.clap.specs.Kinds.{values_kinds, Kinds, or_else, FailsBy, HasKind, IsAmong}
pub use Rattle.clap.specs.Words.{Row, Text, first_of, subcommand_of, all_of, App, is_simple, rows_of, subcommand_rows_of, HasMatchesOf}
pub use Rattle.twkb_body.specs.Geometry.{Geometry, vertices}
pub use Rattle.twkb_head.specs.declared.boxes.Bounds.{Bounds}
pub use Rattle.twkb_layer.proofs.Layers.{layer_once}
pub use Rattle.twkb_layer.specs.Directory.{directory_cost}
pub use Rattle.twkb_layer.specs.Hits.{hit_of, hits, filled, cost}
pub use Rattle.twkb_layer.specs.Layer.{IsCertifiedLayer, AddsAtMost, size_of, told_from}
pub use Rattle.twkb_tool.specs.Output.{name_of, yes_no, hit_line, end_line, window_text, IsAccepted, IsOutput, IsLayerText, IsNoLine, IsTrueFor, word_of, reading}
unfoldable pub use Rattle.twkb_tool.specs.Output.{no_line, row_line}
pub use Rattle.twkb_tool.specs.Streams.{SourceState, SinkState, Gives, Takes}
pub use Rattle.twkb_tool.specs.Words.{Answers, AsksFor, IsFirstBad, IsLineOf, IsNoScan, IsRefused, IsScanFor, IsScanOf, ReadsWith, is_value, most_windows, windows_in, scan_app, AreWindows, IsBadText, IsWindow}
unfoldable pub use Rattle.twkb_tool.specs.Words.{tool_app}
pub use Rattle.twkb_tool.specs.declared.request.Request.{Request}
pub use Rattle.twkb_tool.specs.declared.request.Request.TheVariants.{Check, CheckTight, Scan}
pub use Rattle.twkb_tool.specs.declared.run.TheConstants.{MAX_FILE}
pub use Rattle.twkb_tool.specs.declared.words.Usage.{Usage}
pub use Rattle.twkb_tool.specs.declared.words.Usage.TheVariants.{Words, TooMany, Window, Memory}
