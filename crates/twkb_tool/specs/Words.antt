-- What the words of a command line request.
use Rattle.std.specs.Prelude.{◌≡◌, ◌≢◌, ◌⊎◌, ℕ, ◌+◌, ◌<◌, ◌≤◌, ◌==◌, Bool, not, true, false, List, [], ◌∷◌, ◌++◌, length, Option, Some, None, Result, Ok, Err, codes, string_bytes, IsErrAnd}
use Rattle.clap.specs.Lexer.{usize_max}
use Rattle.clap.specs.Values.{kind_of}
use Rattle.clap.specs.Words.{App, Kinds, Row, Rule, Text, IsAmong, all_of, first_of, new_app, new_rule, with_rule, with_subcommand}
use Rattle.clap.specs.Simple.{on_top}
use Rattle.clap.specs.declared.builder.action.ArgAction.TheVariants.{SetTrue}
use Rattle.clap.specs.declared.error.kind.ErrorKind.TheVariants.{OutOfMemory}
use Rattle.twkb_head.specs.declared.boxes.Bounds.{Bounds}
use Rattle.twkb_layer.specs.WindowText.{IsWindowText, in_order}
use Rattle.twkb_layer.specs.declared.window.BadWindow.{BadWindow}
use Rattle.twkb_layer.specs.declared.window.BadWindow.TheVariants.{Form, Order}
use Rattle.twkb_tool.specs.declared.request.Request.{Request}
use Rattle.twkb_tool.specs.declared.request.Request.TheVariants.{Check, CheckTight, List as ListBlobs, Scan}
use Rattle.twkb_tool.specs.declared.request.Line.{Line}
use Rattle.twkb_tool.specs.declared.words.Usage.{Usage}
use Rattle.twkb_tool.specs.declared.words.Usage.TheVariants.{Words, TooMany, Window as NoWindow, Memory}

-- ---- the command, in clap's terms

-- one word, which is required
abbrev pub file_rule : Rule
file_rule = record (new_rule (codes "FILE")) { required = true }

-- a flag
abbrev pub tight_rule : Rule
tight_rule = record (new_rule (codes "tight")) { long = Some (codes "tight"); action = Some SetTrue }

-- one word or more, which are required
abbrev pub window_rule : Rule
window_rule = record (new_rule (codes "WINDOW")) {
  required = true;
  range = Some (record { start_inclusive = 1; end_inclusive = usize_max });
}

-- a subcommand of this name that takes a file
abbrev pub file_app : Text → App
file_app name = with_rule (new_app name) file_rule

-- `check [--tight] FILE`
abbrev pub check_app : App
check_app = with_rule (file_app (codes "check")) tight_rule

-- `scan FILE WINDOW..`
abbrev pub scan_app : App
scan_app = with_rule (file_app (codes "scan")) window_rule

-- `twkb_tool`, which requires a subcommand
abbrev pub bare_app : App
bare_app = on_top (λ s. record s { subcommand_required = true }) (new_app (codes "twkb_tool"))

-- the whole command: `twkb_tool` with its subcommands
unfoldable pub tool_app : App
tool_app =
    let listing = with_subcommand (with_subcommand bare_app check_app.top) (file_app (codes "list")).top in
    with_subcommand listing scan_app.top

-- the word is no flag to clap: it doesn't begin with a minus
abbrev pub is_value : Text → Bool
is_value [] = true
is_value (c ∷ cs) = not (c == 45)

-- ---- windows

-- the text is this window, and no lower bound is above its upper bound
pub record IsWindow (text : Text) (window : Bounds) : Type 0 where
  pub text_is : IsWindowText text window
  pub rises : in_order window ≡ true

-- why a text is no window: it doesn't have the form of one, or a lower bound is above its upper bound
abbrev pub IsBadText : Text → BadWindow → Type 0
IsBadText text Form = (window : Bounds) → IsWindowText text window → ⊥
IsBadText text Order = (window : Bounds) × IsWindowText text window × (in_order window ≡ false)

-- the texts are these windows, one by one
abbrev pub AreWindows : List Text → List Bounds → Type 0
AreWindows [] [] = Unit {0}
AreWindows (text ∷ texts) (window ∷ windows) = IsWindow text window × AreWindows texts windows
AreWindows _ _ = ⊥

-- the text of this number, from 1, is the first that is no window
pub record IsFirstBad (texts : List Text) (number : ℕ) (why : BadWindow) : Type 0 where
  pub windows : List Bounds
  pub before : List Text
  pub bad : Text
  pub behind : List Text
  pub parts : texts ≡ before ++ bad ∷ behind
  pub number_is : number ≡ length before + 1
  pub before_are : AreWindows before windows
  pub bad_is : IsBadText bad why

-- the most windows of a scan
abbrev pub most_windows : ℕ
most_windows = 64

-- a scan has a window, and not too many
abbrev pub HoldsWindows : Request → Type 0
HoldsWindows (Scan windows) = (1 ≤ length windows.items) × (length windows.items ≤ most_windows)
HoldsWindows _ = Unit {0}

-- ---- the request of a subcommand's matches

-- the texts of the windows
abbrev pub windows_in : List Row → Option (List Text)
windows_in rows = all_of (codes "WINDOW") rows

-- the flag of this name is given
abbrev pub IsGiven : Text → List Row → Type 0
IsGiven name rows = first_of name rows ≡ Some (codes "true")

-- the subcommand of this name, with its matches, requests this
abbrev pub AsksFor : Text → List Row → Request → Type 0
AsksFor name rows Check = (name ≡ codes "check") × (IsGiven (codes "tight") rows → ⊥)
AsksFor name rows CheckTight = (name ≡ codes "check") × IsGiven (codes "tight") rows
AsksFor name rows ListBlobs = name ≡ codes "list"
AsksFor name rows (Scan windows) = (name ≡ codes "scan") × (texts : List Text) × (windows_in rows ≡ Some texts)
    × AreWindows texts windows.items × (1 ≤ length texts) × (length texts ≤ most_windows)

-- there is no such subcommand, or it is a scan that has no window
abbrev pub LacksWord : Text → List Row → Type 0
LacksWord name rows = ((name ≢ codes "check") × (name ≢ codes "list") × (name ≢ codes "scan"))
    ⊎ ((name ≡ codes "scan") × ((windows_in rows ≡ None) ⊎ (windows_in rows ≡ Some [])))

-- the subcommand requests nothing, and why: a word is missing, there are too many windows, one is no window, or memory ran out
abbrev pub IsRefused : Text → List Row → Usage → Type 0
IsRefused name rows (Words (Some error)) = ⊥
IsRefused name rows (Words None) = LacksWord name rows
IsRefused name rows TooMany = (name ≡ codes "scan") × (texts : List Text) × (windows_in rows ≡ Some texts)
    × (most_windows < length texts)
IsRefused name rows (NoWindow number why) = (name ≡ codes "scan") × (texts : List Text) × (windows_in rows ≡ Some texts)
    × (length texts ≤ most_windows) × IsFirstBad texts number why
IsRefused name rows Memory = Unit {0}

-- the result for the subcommand with this file, or with none
abbrev pub ReadsWith : Option Text → Text → List Row → Result Line Usage → Type 0
ReadsWith None name rows r = r ≡ Err (Words None)
ReadsWith (Some file) name rows (Ok line) = (string_bytes line.path ≡ file) × AsksFor name rows line.request
ReadsWith (Some file) name rows (Err usage) = IsRefused name rows usage

-- the result for the matches of the subcommand of this name, which have the file
abbrev pub Reads : Text → List Row → Result Line Usage → Type 0
Reads name rows r = ReadsWith (first_of (codes "FILE") rows) name rows r

-- ---- the result for the words

-- clap refused the words for one of these kinds of error, or memory ran out
abbrev pub IsRefusalOrMemory : Kinds → Usage → Type 0
IsRefusalOrMemory kinds (Words (Some error)) = (kind_of error ≢ OutOfMemory) × IsAmong (kind_of error) kinds
IsRefusalOrMemory kinds (Words None) = ⊥
IsRefusalOrMemory kinds TooMany = ⊥
IsRefusalOrMemory kinds (NoWindow number why) = ⊥
IsRefusalOrMemory kinds Memory = Unit {0}

-- the result for words that parse, by the subcommand that they name and its matches; without one a word is missing
abbrev pub Answers : Option (Text × List Row) → Result Line Usage → Type 0
Answers None r = IsErrAnd r (λ usage. (usage ≡ Words None) ⊎ (usage ≡ Memory))
Answers (Some p) r = Reads p.0 p.1 r ⊎ (r ≡ Err Memory)

-- ---- the result for words without a minus at their start

-- the line has this file and request, or memory ran out
abbrev pub IsLineOf : Text → Request → Result Line Usage → Type 0
IsLineOf file request (Ok line) = (string_bytes line.path ≡ file) × (line.request ≡ request)
IsLineOf file request (Err usage) = usage ≡ Memory

-- the request is a scan for the windows of these texts, which aren't too many
abbrev pub IsScanFor : List Text → Request → Type 0
IsScanFor texts (Scan windows) = AreWindows texts windows.items × (length texts ≤ most_windows)
IsScanFor texts Check = ⊥
IsScanFor texts CheckTight = ⊥
IsScanFor texts ListBlobs = ⊥

-- why there is no such scan: the texts are too many, or one is no window, or memory ran out
abbrev pub IsNoScan : List Text → Usage → Type 0
IsNoScan texts TooMany = most_windows < length texts
IsNoScan texts (NoWindow number why) = (length texts ≤ most_windows) × IsFirstBad texts number why
IsNoScan texts Memory = Unit {0}
IsNoScan texts (Words error) = ⊥

-- the line has this file and a scan for these windows, or there is no line (`IsNoScan`)
abbrev pub IsScanOf : Text → List Text → Result Line Usage → Type 0
IsScanOf file texts (Ok line) = (string_bytes line.path ≡ file) × IsScanFor texts line.request
IsScanOf file texts (Err usage) = IsNoScan texts usage
