-- Reading the texts of windows, one by one.
use Rattle.twkb_tool.proofs.Prelude.{◌≡◌, ◌∙◌, ℕ, ◌+◌, ◌<◌, List, [], ◌∷◌, ◌++◌, Bool, true, false, Ok, Err, Result, refl, arith, length, map, take, drop, get_or, suc, IfErr, if◌then◌else◌, length-map, length-take, take_more, split_at, Text, Bounds, AreWindows, IsBadText, IsFirstBad, IsWindow, Usage, Words, TooMany, Window as NoWindow, Memory}
use Rattle.std.specs.Borrow.{Bor}
use Rattle.std.proofs.Math.ListN.{get_or-map}
use Rattle.twkb_layer.specs.WindowText.{IsWindowText, in_order}
use Rattle.twkb_layer.specs.declared.window.BadWindow.{BadWindow}
use Rattle.twkb_layer.specs.declared.window.BadWindow.TheVariants.{Form, Order}
use Rattle.twkb_tool.specs.Devices.Words.{AreNoWindows, IsNoWindowMore}

-- ---- one text

not_formless : (rises : Bool) (window : Bounds) → ◌≡◌ {A = Result Bounds BadWindow} (Err Form) (if rises then Ok window else Err Order) → ⊥
not_formless true window e = cc
not_formless false window e = cc

-- a text that is refused as a window is no window
pub bad_text : (text : Text) (r : Result Bounds BadWindow)
    → (r ≡ Err Order → (window : Bounds) × IsWindowText text window × (in_order window ≡ false))
    → ((window : Bounds) → IsWindowText text window → r ≡ (if in_order window then Ok window else Err Order))
    → IfErr r (IsBadText text)
bad_text text (Ok window) order exact = tt
bad_text text (Err Form) order exact = λ window h. not_formless (in_order window) window (exact window h)
bad_text text (Err Order) order exact = order refl

-- ---- many texts

-- texts and their windows, and one more text and its window, are texts and their windows
pub windows_snoc : (texts : List Text) (windows : List Bounds) (text : Text) (window : Bounds)
    → AreWindows texts windows → IsWindow text window → AreWindows (texts ++ text ∷ []) (windows ++ window ∷ [])
windows_snoc [] [] text window h here = (here, tt)
windows_snoc [] (w ∷ ws) text window h here = absurd h
windows_snoc (t ∷ ts) [] text window h here = absurd h
windows_snoc (t ∷ ts) (w ∷ ws) text window h here = (h.0, windows_snoc ts ws text window h.1 here)

abbrev values : List (Bor Text) → List Text
values refs = map (λ t. t.now) refs

-- the next text is a window
pub windows_more : (refs : List (Bor Text)) (i : ℕ) (d : Bor Text) (before : List Bounds) (window : Bounds) → i < length refs
    → AreWindows (take i (values refs)) before → IsWindow (get_or refs i d).now window
    → AreWindows (take (i + 1) (values refs)) (before ++ window ∷ [])
windows_more refs i d before window lt h here =
    let low : i < length (values refs) = rw (length-map refs (λ (t : Bor Text). t.now)) lt in
    let at : get_or (values refs) i d.now ≡ (get_or refs i d).now = get_or-map (λ (t : Bor Text). t.now) refs i d in
    rw (take_more (values refs) i d.now low, at) (windows_snoc (take i (values refs)) before (get_or refs i d).now window h here)

-- the next text is the first that is no window
first_bad : (refs : List (Bor Text)) (i number : ℕ) (d : Bor Text) (before : List Bounds) (why : BadWindow) → i < length refs
    → number ≡ i + 1 → AreWindows (take i (values refs)) before → IsBadText (get_or refs i d).now why
    → IsFirstBad (values refs) number why
first_bad refs i number d before why lt next h bad =
    let low : i < length (values refs) = rw (length-map refs (λ (t : Bor Text). t.now)) lt in
    let at : get_or (values refs) i d.now ≡ (get_or refs i d).now = get_or-map (λ (t : Bor Text). t.now) refs i d in
    let cut : values refs ≡ take i (values refs) ++ get_or (values refs) i d.now ∷ drop (suc i) (values refs) = split_at (values refs) i d.now low in
    record {
      windows = before;
      before = take i (values refs);
      bad = get_or (values refs) i d.now;
      behind = drop (suc i) (values refs);
      parts = cut;
      number_is = omega (arith, length-take i (values refs));
      before_are = h;
      bad_is = rw at bad;
    }

-- if no window is added for the next text, the texts are no windows, or memory ran out
pub no_windows : (refs : List (Bor Text)) (i number : ℕ) (d : Bor Text) (before : List Bounds) (usage : Usage) → i < length refs
    → number ≡ i + 1 → AreWindows (take i (values refs)) before → IsNoWindowMore number (get_or refs i d).now usage → AreNoWindows (values refs) usage
no_windows refs i number d before (NoWindow n why) lt next h bad = first_bad refs i n d before why lt (bad.0 ∙ next) h bad.1
no_windows refs i number d before Memory lt next h bad = tt
no_windows refs i number d before TooMany lt next h bad = absurd bad
no_windows refs i number d before (Words error) lt next h bad = absurd bad
