-- The lines that words without a minus at their start request.
use Rattle.twkb_tool.proofs.Prelude.{◌≡◌, ◌∙◌, ℕ, ◌+◌, ◌<◌, ◌≤◌, List, [], ◌∷◌, true, ap, sym, refl, subst, arith, get_or, inl, inr, codes, length, Ok, Err, Option, Some, None, Result, ◌⊎◌, unwrap_or, list_all, fault_of, Row, Text, first_of, subcommand_of, Answers, AsksFor, IsFirstBad, IsLineOf, IsNoScan, IsRefused, IsScanFor, IsScanOf, ReadsWith, is_value, most_windows, tool_app, windows_in, Request, Check, CheckTight, Scan, Usage, Words, TooMany, Window as NoWindow, Memory, ◌++◌, Bool, false, append_assoc, append-nil, ◌==◌, ◌&&◌, option_map, fold, is_some, nat_lt, check_fault, defaults_fault, entered_fault, level_fault, settle_fault, turn_fault, walk_fault, values_kinds, Kinds, or_else, all_of, clap_on_literals, walk_stopped, scan_app}
use Rattle.clap.specs.Lexer.{usize_max}
use Rattle.twkb_tool.specs.declared.request.Request.TheVariants.{List as ListBlobs}
use Rattle.twkb_tool.specs.declared.request.Line.{Line}
use Rattle.std.proofs.Math.Dec.{eqb-suc-zero}
use Rattle.std.proofs.lemmas.Bool.{le-ltb, not-true}
use Rattle.clap.specs.Simple.{App, Shape, built, built_leaf, entered, names_of}
use Rattle.clap.specs.Walk.{Walk, arg_by_index, finished, idle, nothing_held, positional, settled, used_by_id, walk, walk_from, walked}
use Rattle.clap.proofs.FaultLemmas.{stopped_fault}
use Rattle.clap.specs.declared.builder.value_parser.ValueParser.TheVariants as vp

-- ---- one file

-- the name of the subcommand, its file, its flag and its windows
abbrev found : Option (Text × List Row) → Option (Text × Option Text × Option Text × Option (List Text))
found = option_map (λ p. (p.0, first_of (codes "FILE") p.1, first_of (codes "tight") p.1, all_of (codes "WINDOW") p.1))

check_parses : (program file : Text) → is_value file ≡ true → fault_of tool_app (program ∷ codes "check" ∷ file ∷ []) ≡ []
unfolding clap_on_literals tool_app
check_parses program [] h = refl
check_parses program (c ∷ cs) h = let other : (c == 45) ≡ false = not-true _ h in simp other

check_finds : (program file : Text) → is_value file ≡ true → found (subcommand_of tool_app (program ∷ codes "check" ∷ file ∷ [])) ≡ Some (codes "check", Some file, Some (codes "false"), None)
unfolding clap_on_literals tool_app
check_finds program [] h = refl
check_finds program (c ∷ cs) h = let other : (c == 45) ≡ false = not-true _ h in simp other

tight_parses : (program file : Text) → is_value file ≡ true → fault_of tool_app (program ∷ codes "check" ∷ codes "--tight" ∷ file ∷ []) ≡ []
unfolding clap_on_literals tool_app
tight_parses program [] h = refl
tight_parses program (c ∷ cs) h = let other : (c == 45) ≡ false = not-true _ h in simp other

tight_finds : (program file : Text) → is_value file ≡ true → found (subcommand_of tool_app (program ∷ codes "check" ∷ codes "--tight" ∷ file ∷ [])) ≡ Some (codes "check", Some file, Some (codes "true"), None)
unfolding clap_on_literals tool_app
tight_finds program [] h = refl
tight_finds program (c ∷ cs) h = let other : (c == 45) ≡ false = not-true _ h in simp other

tight_behind_parses : (program file : Text) → is_value file ≡ true → fault_of tool_app (program ∷ codes "check" ∷ file ∷ codes "--tight" ∷ []) ≡ []
unfolding clap_on_literals tool_app
tight_behind_parses program [] h = refl
tight_behind_parses program (c ∷ cs) h = let other : (c == 45) ≡ false = not-true _ h in simp other

tight_behind_finds : (program file : Text) → is_value file ≡ true → found (subcommand_of tool_app (program ∷ codes "check" ∷ file ∷ codes "--tight" ∷ [])) ≡ Some (codes "check", Some file, Some (codes "true"), None)
unfolding clap_on_literals tool_app
tight_behind_finds program [] h = refl
tight_behind_finds program (c ∷ cs) h = let other : (c == 45) ≡ false = not-true _ h in simp other

list_parses : (program file : Text) → is_value file ≡ true → fault_of tool_app (program ∷ codes "list" ∷ file ∷ []) ≡ []
unfolding clap_on_literals tool_app
list_parses program [] h = refl
list_parses program (c ∷ cs) h = let other : (c == 45) ≡ false = not-true _ h in simp other

list_finds : (program file : Text) → is_value file ≡ true → found (subcommand_of tool_app (program ∷ codes "list" ∷ file ∷ [])) ≡ Some (codes "list", Some file, None, None)
unfolding clap_on_literals tool_app
list_finds program [] h = refl
list_finds program (c ∷ cs) h = let other : (c == 45) ≡ false = not-true _ h in simp other

-- ---- a file, and windows after it

abbrev scan_shape : Shape
scan_shape = built_leaf scan_app.top

-- the walk over the words of a scan, after these windows were read
abbrev scanning : List Row → List Text → Walk
scanning rows windows = record {
  held = record { rows = rows; pending = Some (codes "WINDOW", windows); skip = 0 };
  waiting = positional;
  position = 2;
  is_trailing = false;
  stopped = None;
}

window_fault : (rows : List Row) (before : List Text) (window : Text) → is_value window ≡ true → turn_fault scan_shape [] (scanning rows before) window ≡ []
unfolding clap_on_literals
window_fault rows before [] h = refl
window_fault rows before (c ∷ cs) h = let other : (c == 45) ≡ false = not-true _ h in simp other

window_walked : (rows : List Row) (before : List Text) (window : Text) → is_value window ≡ true
    → walked scan_shape.rules [] (scanning rows before) window ≡ scanning rows (before ++ window ∷ [])
unfolding clap_on_literals
window_walked rows before [] h = refl
window_walked rows before (c ∷ cs) h = let other : (c == 45) ≡ false = not-true _ h in simp other

head_is : (a b : Bool) → (a && b) ≡ true → a ≡ true
head_is true b h = refl
head_is false b h = cc

tail_is : (a b : Bool) → (a && b) ≡ true → b ≡ true
tail_is true b h = h
tail_is false b h = cc

windows_walked : (rows : List Row) (before windows : List Text) → list_all is_value windows ≡ true
    → fold (walked scan_shape.rules []) (scanning rows before) windows ≡ scanning rows (before ++ windows)
windows_walked rows before [] h = ap (scanning rows) (sym (append-nil before))
windows_walked rows before (w ∷ ws) h =
    ap (λ (x : Walk). fold (walked scan_shape.rules []) x ws) (window_walked rows before w (head_is _ _ h))
    ∙ windows_walked rows (before ++ w ∷ []) ws (tail_is (is_value w) _ h) ∙ ap (scanning rows) (append_assoc before (w ∷ []) ws)

windows_fault : (rows : List Row) (before windows : List Text) → list_all is_value windows ≡ true → walk_fault scan_shape [] (scanning rows before) windows ≡ []
unfolding walk_fault
windows_fault rows before [] h = refl
windows_fault rows before (w ∷ ws) h =
    ap (λ (k : Kinds). or_else k (walk_fault scan_shape [] (walked scan_shape.rules [] (scanning rows before) w) ws)) (window_fault rows before w (head_is _ _ h))
    ∙ ap (λ (x : Walk). walk_fault scan_shape [] x ws) (window_walked rows before w (head_is _ _ h))
    ∙ windows_fault rows (before ++ w ∷ []) ws (tail_is (is_value w) _ h)

any_text : (texts : List Text) → values_kinds false vp.String texts ≡ []
any_text [] = refl
any_text (t ∷ ts) = any_text ts

-- the row of the file, from which the windows are read
abbrev file_rows : Text → List Row
file_rows file = used_by_id (arg_by_index scan_shape.rules 1) (file ∷ []) []

file_fault : (file : Text) → is_value file ≡ true → turn_fault scan_shape [] (walk_from nothing_held) file ≡ []
unfolding clap_on_literals
file_fault [] h = refl
file_fault (c ∷ cs) h = let other : (c == 45) ≡ false = not-true _ h in simp other

abbrev with_file : Text → Walk
with_file file = record {
  held = record { rows = []; pending = Some (codes "FILE", file ∷ []); skip = 0 };
  waiting = idle;
  position = 2;
  is_trailing = false;
  stopped = None;
}

file_walked : (file : Text) → is_value file ≡ true → walked scan_shape.rules [] (walk_from nothing_held) file ≡ with_file file
unfolding clap_on_literals
file_walked [] h = refl
file_walked (c ∷ cs) h = let other : (c == 45) ≡ false = not-true _ h in simp other

first_fault : (file window : Text) → is_value window ≡ true → turn_fault scan_shape [] (with_file file) window ≡ []
unfolding clap_on_literals
first_fault file [] h = refl
first_fault file (c ∷ cs) h = let other : (c == 45) ≡ false = not-true _ h in simp other

first_walked : (file window : Text) → is_value window ≡ true → walked scan_shape.rules [] (with_file file) window ≡ scanning (file_rows file) (window ∷ [])
unfolding clap_on_literals
first_walked file [] h = refl
first_walked file (c ∷ cs) h = let other : (c == 45) ≡ false = not-true _ h in simp other

-- the walk over a file and windows
scan_walk : (file window : Text) (windows : List Text) → is_value file ≡ true → list_all is_value (window ∷ windows) ≡ true
    → walk scan_shape.rules [] nothing_held (file ∷ window ∷ windows) ≡ scanning (file_rows file) (window ∷ windows)
scan_walk file w ws h k =
    ap (λ (x : Walk). fold (walked scan_shape.rules []) (walked scan_shape.rules [] x w) ws) (file_walked file h)
    ∙ ap (λ (x : Walk). fold (walked scan_shape.rules []) x ws) (first_walked file w (head_is _ _ k))
    ∙ windows_walked (file_rows file) (w ∷ []) ws (tail_is (is_value w) _ k)

scan_walk_fault : (file window : Text) (windows : List Text) → is_value file ≡ true → list_all is_value (window ∷ windows) ≡ true
    → walk_fault scan_shape [] (walk_from nothing_held) (file ∷ window ∷ windows) ≡ []
unfolding walk_fault
scan_walk_fault file w ws h k =
    ap (λ (x : Kinds). or_else x (walk_fault scan_shape [] (walked scan_shape.rules [] (walk_from nothing_held) file) (w ∷ ws))) (file_fault file h)
    ∙ ap (λ (x : Walk). walk_fault scan_shape [] x (w ∷ ws)) (file_walked file h)
    ∙ ap (λ (x : Kinds). or_else x (walk_fault scan_shape [] (walked scan_shape.rules [] (with_file file) w) ws)) (first_fault file w (head_is _ _ k))
    ∙ ap (λ (x : Walk). walk_fault scan_shape [] x ws) (first_walked file w (head_is _ _ k))
    ∙ windows_fault (file_rows file) (w ∷ []) ws (tail_is (is_value w) _ k)

-- the faults that are found after a walk
abbrev end_fault : Shape → Walk → Bool → Kinds
end_fault s x below = or_else (settle_fault s.rules s.args_override_self x.held)
    (or_else (defaults_fault (settled s.rules x.held).rows s.rules) (check_fault s (finished s.rules x.held) below))

scan_end_fault : (file window : Text) (windows : List Text) → length (window ∷ windows) ≤ usize_max
    → end_fault scan_shape (scanning (file_rows file) (window ∷ windows)) false ≡ []
unfolding clap_on_literals
scan_end_fault file w ws few =
    let some : (length (w ∷ ws) == 0) ≡ false = eqb-suc-zero (length ws) in
    let least : nat_lt (length (w ∷ ws)) 1 ≡ false = le-ltb (length (w ∷ ws)) 1 (omega arith) in
    let most : nat_lt usize_max (length (w ∷ ws)) ≡ false = le-ltb usize_max (length (w ∷ ws)) few in
    simp (some, least, most, any_text ws)

scan_level_fault : (file window : Text) (windows : List Text) → is_value file ≡ true → list_all is_value (window ∷ windows) ≡ true
    → length (window ∷ windows) ≤ usize_max → level_fault scan_shape [] nothing_held (file ∷ window ∷ windows) false [] ≡ []
scan_level_fault file w ws h k few =
    ap (λ (x : Kinds). or_else x (end_fault scan_shape (walk scan_shape.rules [] nothing_held (file ∷ w ∷ ws)) false)) (scan_walk_fault file w ws h k)
    ∙ ap (λ (x : Walk). end_fault scan_shape x false) (scan_walk file w ws h k)
    ∙ scan_end_fault file w ws few

-- ---- the subcommand before the file and the windows

-- the walk over the program's words, which stops at the subcommand
abbrev at_scan : List Text → Walk
at_scan words = record (walk_from nothing_held) { stopped = Some (codes "scan", words) }

top_walk : (words : List Text) → walk (built tool_app).top.rules (names_of (built tool_app)) nothing_held (codes "scan" ∷ words) ≡ at_scan words
unfolding clap_on_literals tool_app
top_walk words = sym (walk_stopped (built tool_app).top.rules (names_of (built tool_app)) (walk_from nothing_held) (codes "scan") [] words)

top_walk_fault : (words : List Text) → walk_fault (built tool_app).top (names_of (built tool_app)) (walk_from nothing_held) (codes "scan" ∷ words) ≡ []
unfolding clap_on_literals tool_app
top_walk_fault words = stopped_fault (built tool_app).top (names_of (built tool_app)) (walk_from nothing_held) (codes "scan", []) words

abbrev after_walk : App → Walk → Kinds
after_walk a x = or_else (entered_fault a x.stopped) (end_fault a.top x (is_some (entered a x.stopped)))

at_scan_fault : (words : List Text) → after_walk (built tool_app) (at_scan words) ≡ or_else (level_fault scan_shape [] nothing_held words false []) []
unfolding clap_on_literals tool_app
at_scan_fault words = refl

scan_parses : (program file window : Text) (windows : List Text) → is_value file ≡ true → list_all is_value (window ∷ windows) ≡ true
    → length (window ∷ windows) ≤ usize_max → fault_of tool_app (program ∷ codes "scan" ∷ file ∷ window ∷ windows) ≡ []
unfolding tool_app
scan_parses program file w ws h k few =
    ap (λ (x : Kinds). or_else x (after_walk (built tool_app) (walk (built tool_app).top.rules (names_of (built tool_app)) nothing_held (codes "scan" ∷ file ∷ w ∷ ws)))) (top_walk_fault (file ∷ w ∷ ws))
    ∙ ap (λ (x : Walk). after_walk (built tool_app) x) (top_walk (file ∷ w ∷ ws))
    ∙ at_scan_fault (file ∷ w ∷ ws)
    ∙ ap (λ (x : Kinds). or_else x []) (scan_level_fault file w ws h k few)

scan_finds : (program file window : Text) (windows : List Text) → is_value file ≡ true → list_all is_value (window ∷ windows) ≡ true
    → found (subcommand_of tool_app (program ∷ codes "scan" ∷ file ∷ window ∷ windows)) ≡ Some (codes "scan", Some file, None, Some (window ∷ windows))
unfolding clap_on_literals tool_app
scan_finds program file w ws h k =
    ap (λ (x : Walk). found (entered (built tool_app) x.stopped)) (top_walk (file ∷ w ∷ ws))
    ∙ ap (λ (x : Walk). found (Some (codes "scan", finished scan_shape.rules x.held))) (scan_walk file w ws h k)

-- ---- the parts of what was found

abbrev Found : Type 0
Found = Text × Option Text × Option Text × Option (List Text)

name_is : (p : Text × List Row) (f : Found) → found (Some p) ≡ Some f → p.0 ≡ f.0
name_is p f e = ap (λ (q : Option Found). (unwrap_or q ([], None, None, None)).0) e

file_is : (p : Text × List Row) (f : Found) → found (Some p) ≡ Some f → first_of (codes "FILE") p.1 ≡ f.1
file_is p f e = ap (λ (q : Option Found). (unwrap_or q ([], None, None, None)).1) e

flag_is : (p : Text × List Row) (f : Found) → found (Some p) ≡ Some f → first_of (codes "tight") p.1 ≡ f.2
flag_is p f e = ap (λ (q : Option Found). (unwrap_or q ([], None, None, None)).2) e

windows_are : (p : Text × List Row) (f : Found) → found (Some p) ≡ Some f → windows_in p.1 ≡ f.3
windows_are p f e = ap (λ (q : Option Found). (unwrap_or q ([], None, None, None)).3) e

-- ---- names

check_is_no_list : (name : Text) → name ≡ codes "check" → name ≡ codes "list" → ⊥
check_is_no_list name a b = let bad : codes "check" ≡ codes "list" = sym a ∙ b in cc

check_is_no_scan : (name : Text) → name ≡ codes "check" → name ≡ codes "scan" → ⊥
check_is_no_scan name a b = let bad : codes "check" ≡ codes "scan" = sym a ∙ b in cc

apart : (m n : ℕ) → m ≡ n → m < n → ⊥
apart m n e lt = omega arith

list_is_no_scan : (name : Text) → name ≡ codes "list" → name ≡ codes "scan" → ⊥
list_is_no_scan name a b = apart 108 115 (ap (λ (text : Text). get_or text 0 0) (sym a ∙ b)) (omega arith)

is_no_scan : (name : Text) → (name ≡ codes "check") ⊎ (name ≡ codes "list") → name ≡ codes "scan" → ⊥
is_no_scan name (inl a) b = check_is_no_scan name a b
is_no_scan name (inr a) b = list_is_no_scan name a b

-- ---- check and list

-- with this flag the subcommand of this name asks for this request alone
abbrev Asks : Text → Option Text → Request → Type 0
Asks name flag request = (own : Text) (rows : List Row) (asked : Request) → own ≡ name → first_of (codes "tight") rows ≡ flag → AsksFor own rows asked → asked ≡ request

asks_check : Asks (codes "check") (Some (codes "false")) Check
asks_check name rows Check n f h = refl
asks_check name rows CheckTight n f h = let bad : Some (codes "false") ≡ Some (codes "true") = sym f ∙ h.1 in cc
asks_check name rows ListBlobs n f h = absurd (check_is_no_list name n h)
asks_check name rows (Scan windows) n f h = absurd (check_is_no_scan name n h.0)

asks_tight : Asks (codes "check") (Some (codes "true")) CheckTight
asks_tight name rows Check n f h = absurd (h.1 f)
asks_tight name rows CheckTight n f h = refl
asks_tight name rows ListBlobs n f h = absurd (check_is_no_list name n h)
asks_tight name rows (Scan windows) n f h = absurd (check_is_no_scan name n h.0)

asks_list : Asks (codes "list") None ListBlobs
asks_list name rows Check n f h = absurd (check_is_no_list name h.0 n)
asks_list name rows CheckTight n f h = absurd (check_is_no_list name h.0 n)
asks_list name rows ListBlobs n f h = refl
asks_list name rows (Scan windows) n f h = absurd (list_is_no_scan name n h.0)

only_memory : (name : Text) (rows : List Row) (usage : Usage) → (name ≡ codes "check") ⊎ (name ≡ codes "list") → IsRefused name rows usage → usage ≡ Memory
only_memory name rows (Words (Some error)) n h = absurd h
only_memory name rows (Words None) (inl n) (inl h) = absurd (h.0 n)
only_memory name rows (Words None) (inr n) (inl h) = absurd (h.1 n)
only_memory name rows (Words None) n (inr h) = absurd (is_no_scan name n h.0)
only_memory name rows TooMany n h = absurd (is_no_scan name n h.0)
only_memory name rows (NoWindow number why) n h = absurd (is_no_scan name n h.0)
only_memory name rows Memory n h = refl

line_reads : (name own : Text) (flag : Option Text) (request : Request) (rows : List Row) (file : Text) (r : Result Line Usage) → Asks name flag request → (own ≡ codes "check") ⊎ (own ≡ codes "list") → own ≡ name → first_of (codes "tight") rows ≡ flag
    → ReadsWith (Some file) own rows r → IsLineOf file request r
line_reads name own flag request rows file (Ok line) asks one n f h = (h.0, asks own rows line.request n f h.1)
line_reads name own flag request rows file (Err usage) asks one n f h = only_memory own rows usage one h

-- words that name a subcommand with this file and flag have the line of its request
line_answers : (name : Text) (flag : Option Text) (request : Request) (file : Text) → Asks name flag request → ((own : Text) → own ≡ name → (own ≡ codes "check") ⊎ (own ≡ codes "list"))
    → (o : Option (Text × List Row)) (r : Result Line Usage) → found o ≡ Some (name, Some file, flag, None) → Answers o r → IsLineOf file request r
line_answers name flag request file asks one None r e h = cc
line_answers name flag request file asks one (Some p) r e (inl h) =
    let read : ReadsWith (Some file) p.0 p.1 r = rw (← file_is p _ e) h in
    line_reads name p.0 flag request p.1 file r asks (one p.0 (name_is p _ e)) (name_is p _ e) (flag_is p _ e) read
line_answers name flag request file asks one (Some p) (Ok line) e (inr h) = cc
line_answers name flag request file asks one (Some p) (Err usage) e (inr h) = cc

-- ---- scan

same_texts : (rows : List Row) (a b : List Text) → windows_in rows ≡ Some a → windows_in rows ≡ Some b → a ≡ b
same_texts rows a b x y = ap (λ (q : Option (List Text)). unwrap_or q []) (sym x ∙ y)

asks_scan : (name : Text) (rows : List Row) (texts : List Text) (request : Request) → name ≡ codes "scan" → windows_in rows ≡ Some texts → AsksFor name rows request → IsScanFor texts request
asks_scan name rows texts Check n w h = check_is_no_scan name h.0 n
asks_scan name rows texts CheckTight n w h = check_is_no_scan name h.0 n
asks_scan name rows texts ListBlobs n w h = list_is_no_scan name h n
asks_scan name rows texts (Scan windows) n w h = rw (same_texts rows texts h.1 w h.2) (h.3, h.5)

refused_scan : (name : Text) (rows : List Row) (text : Text) (texts : List Text) (usage : Usage) → name ≡ codes "scan" → windows_in rows ≡ Some (text ∷ texts) → IsRefused name rows usage → IsNoScan (text ∷ texts) usage
refused_scan name rows t ts (Words (Some error)) n w h = h
refused_scan name rows t ts (Words None) n w (inl h) = h.2 n
refused_scan name rows t ts (Words None) n w (inr (a, inl h)) = let bad : Some (t ∷ ts) ≡ None = sym w ∙ h in cc
refused_scan name rows t ts (Words None) n w (inr (a, inr h)) = let bad : t ∷ ts ≡ [] = same_texts rows (t ∷ ts) [] w h in cc
refused_scan name rows t ts TooMany n w h =
    subst (λ (x : List Text). most_windows < length x) (same_texts rows h.1 (t ∷ ts) h.2 w) h.3
refused_scan name rows t ts (NoWindow number why) n w h =
    subst (λ (x : List Text). (length x ≤ most_windows) × IsFirstBad x number why) (same_texts rows h.1 (t ∷ ts) h.2 w) (h.3, h.4)
refused_scan name rows t ts Memory n w h = tt

scan_reads : (name : Text) (rows : List Row) (file text : Text) (texts : List Text) (r : Result Line Usage) → name ≡ codes "scan" → windows_in rows ≡ Some (text ∷ texts) → ReadsWith (Some file) name rows r → IsScanOf file (text ∷ texts) r
scan_reads name rows file t ts (Ok line) n w h = (h.0, asks_scan name rows (t ∷ ts) line.request n w h.1)
scan_reads name rows file t ts (Err usage) n w h = refused_scan name rows t ts usage n w h

scan_answers : (o : Option (Text × List Row)) (file text : Text) (texts : List Text) (r : Result Line Usage) → found o ≡ Some (codes "scan", Some file, None, Some (text ∷ texts)) → Answers o r → IsScanOf file (text ∷ texts) r
scan_answers None file t ts r e h = cc
scan_answers (Some p) file t ts r e (inl h) =
    let read : ReadsWith (Some file) p.0 p.1 r = rw (← file_is p _ e) h in
    scan_reads p.0 p.1 file t ts r (name_is p _ e) (windows_are p _ e) read
scan_answers (Some p) file t ts (Ok line) e (inr h) = cc
scan_answers (Some p) file t ts (Err Memory) e (inr h) = tt
scan_answers (Some p) file t ts (Err TooMany) e (inr h) = cc
scan_answers (Some p) file t ts (Err (NoWindow number why)) e (inr h) = cc
scan_answers (Some p) file t ts (Err (Words error)) e (inr h) = cc

-- ---- the words

-- words that parse, and are found as they are written, have the line of the subcommand's request
line_of_words : (said words : List Text) (name : Text) (flag : Option Text) (request : Request) (file : Text) (r : Result Line Usage) → Asks name flag request → ((own : Text) → own ≡ name → (own ≡ codes "check") ⊎ (own ≡ codes "list"))
    → (fault_of tool_app words ≡ [] → Answers (subcommand_of tool_app words) r) → words ≡ said → fault_of tool_app said ≡ [] → found (subcommand_of tool_app said) ≡ Some (name, Some file, flag, None) → IsLineOf file request r
line_of_words said words name flag request file r asks one parsed is fine finds =
    line_answers name flag request file asks one (subcommand_of tool_app words) r (ap (λ (x : List Text). found (subcommand_of tool_app x)) is ∙ finds) (parsed (ap (λ (x : List Text). fault_of tool_app x) is ∙ fine))

-- `check FILE`
pub check_line : (words : List Text) (program file : Text) (r : Result Line Usage) → (fault_of tool_app words ≡ [] → Answers (subcommand_of tool_app words) r)
    → words ≡ program ∷ codes "check" ∷ file ∷ [] → is_value file ≡ true → IsLineOf file Check r
check_line words program file r parsed is h =
    line_of_words (program ∷ codes "check" ∷ file ∷ []) words (codes "check") (Some (codes "false")) Check file r asks_check (λ own n. inl n) parsed is (check_parses program file h) (check_finds program file h)

-- `check --tight FILE`
pub tight_line : (words : List Text) (program file : Text) (r : Result Line Usage) → (fault_of tool_app words ≡ [] → Answers (subcommand_of tool_app words) r)
    → words ≡ program ∷ codes "check" ∷ codes "--tight" ∷ file ∷ [] → is_value file ≡ true → IsLineOf file CheckTight r
tight_line words program file r parsed is h =
    line_of_words (program ∷ codes "check" ∷ codes "--tight" ∷ file ∷ []) words (codes "check") (Some (codes "true")) CheckTight file r asks_tight (λ own n. inl n) parsed is (tight_parses program file h) (tight_finds program file h)

-- `check FILE --tight`
pub tight_behind_line : (words : List Text) (program file : Text) (r : Result Line Usage) → (fault_of tool_app words ≡ [] → Answers (subcommand_of tool_app words) r)
    → words ≡ program ∷ codes "check" ∷ file ∷ codes "--tight" ∷ [] → is_value file ≡ true → IsLineOf file CheckTight r
tight_behind_line words program file r parsed is h =
    line_of_words (program ∷ codes "check" ∷ file ∷ codes "--tight" ∷ []) words (codes "check") (Some (codes "true")) CheckTight file r asks_tight (λ own n. inl n) parsed is (tight_behind_parses program file h) (tight_behind_finds program file h)

-- `list FILE`
pub list_line : (words : List Text) (program file : Text) (r : Result Line Usage) → (fault_of tool_app words ≡ [] → Answers (subcommand_of tool_app words) r)
    → words ≡ program ∷ codes "list" ∷ file ∷ [] → is_value file ≡ true → IsLineOf file ListBlobs r
list_line words program file r parsed is h =
    line_of_words (program ∷ codes "list" ∷ file ∷ []) words (codes "list") None ListBlobs file r asks_list (λ own n. inr n) parsed is (list_parses program file h) (list_finds program file h)

-- `scan FILE WINDOW..`
pub scan_line : (words : List Text) (program file window : Text) (windows : List Text) (r : Result Line Usage)
    → (fault_of tool_app words ≡ [] → Answers (subcommand_of tool_app words) r)
    → words ≡ program ∷ codes "scan" ∷ file ∷ window ∷ windows → is_value file ≡ true → list_all is_value (window ∷ windows) ≡ true
    → length words ≤ usize_max → IsScanOf file (window ∷ windows) r
scan_line words program file w ws r parsed is h k fits =
    let count : length words ≡ 4 + length ws = ap length is ∙ omega arith in
    let few : length (w ∷ ws) ≤ usize_max = omega arith in
    let fine : fault_of tool_app words ≡ [] = ap (λ (x : List Text). fault_of tool_app x) is ∙ scan_parses program file w ws h k few in
    let finds : found (subcommand_of tool_app words) ≡ Some (codes "scan", Some file, None, Some (w ∷ ws)) =
    ap (λ (x : List Text). found (subcommand_of tool_app x)) is ∙ scan_finds program file w ws h k in
    scan_answers (subcommand_of tool_app words) file w ws r finds (parsed fine)
